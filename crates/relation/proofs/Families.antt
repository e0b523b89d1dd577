-- Laws of stages drawn that are compatible with a relation: from their tables to them and back, and that a well-defined relation has one.
use Prim.Native.Nat.{ℕ, ◌*◌, ◌^◌, ◌<◌, ◌≤◌}
use mathlib.Core.Path.{◌≡◌, sym, ap, subst, ◌∙◌}
use mathlib.Core.List.{List, map}
use native.Mathlib.Nat.{lt_of_le_of_lt}
use lib.Dec.{T}
use lib.ListN.{length, length-map}
use Rattle.base.specs.Lowest.{lowest}
use Rattle.base.specs.Each.{Each}
use Rattle.base.proofs.Each.{each_intro}
use Rattle.base.proofs.Lowest.{lowest_is, lowest_below}
use Rattle.base.proofs.Tabulate.{tabulate_length, tabulate_at}
use Rattle.table.specs.Bits.{bit, of_bits, tabulate}
use Rattle.table.specs.Cells.{wires, total}
use Rattle.table.specs.Drawing.{Drawing, drawn_table, drawn_value, drawn_cells}
use Rattle.table.specs.Inner.Drawing.{FairCount}
use Rattle.table.proofs.Bits.{sum_cong, bit_lt, bit_of_bits, of_bits_lt, of_bits_bit}
use Rattle.table.proofs.Drawings.{tables_lt, value_tables, value_lt, total_drawn, least, least_formed, least_value, least_cells}
use Rattle.relation.specs.Source.{Rel, Tables, Stage, Compatible, value}
use Rattle.relation.specs.Inner.Source.{WellDefined}
use Rattle.relation.specs.Families.{Family}
use Rattle.relation.specs.Tests.{empty_pattern}
use Rattle.relation.proofs.Decide.{empty_not}

module _ (D : Drawing) (n : ℕ) (count : ℕ → ℕ) (counts : FairCount D n count) (m : ℕ) (R : Rel) where
  -- the tables of a family
  module _ (xs : List D.Shape) (f : Family D n m R xs) where
    abbrev pub drawn_tables : Tables
    drawn_tables = wires (map (drawn_table D n) xs)

    pub family_stage : Stage n m drawn_tables
    family_stage j l = tables_lt D n count counts xs f.drawn.formed j (subst (λ k. j < k) (sym f.drawn.one_each) l)

    pub family_compatible : Compatible n m R drawn_tables
    unfolding value
    family_compatible p b =
        subst (λ v. T (R p v))
        (sym (value_tables D n count counts xs f.drawn.formed p b) ∙ ap (λ k. of_bits k (λ j. bit (drawn_tables j) p)) f.drawn.one_each)
        (f.allowed p b)

    pub family_total : total count m drawn_tables ≤ drawn_cells D xs
    family_total =
        subst (λ k. total count k drawn_tables ≤ drawn_cells D xs) f.drawn.one_each (total_drawn D n count counts xs f.drawn.formed)

    -- a value that a family drives is one of m wires, so its relation is well defined
    pub value_below : (p : ℕ) → drawn_value D n xs p < 2 ^ m
    value_below p = subst (λ k. drawn_value D n xs p < 2 ^ k) f.drawn.one_each (value_lt D n count counts xs f.drawn.formed p)

    pub family_well_defined : WellDefined n m R
    family_well_defined p b = (drawn_value D n xs p, value_below p, f.allowed p b)

  -- where some pattern is empty there is none
  pub empty_family : empty_pattern n m R < 2 ^ n → (xs : List D.Shape) → Family D n m R xs → ⊥
  empty_family l xs f = empty_not n m R l (family_well_defined xs f)

  -- the least drawings of compatible tables are a family
  module _ (ts : List ℕ) (long : length ts ≡ m) (st : Stage n m (wires ts)) where
    small : Each (λ t. t < 2 ^ (2 ^ n)) ts
    small = each_intro (λ t. t < 2 ^ (2 ^ n)) ts 0 (λ j l. st j (subst (λ k. j < k) long l))

    -- they drive what the tables do
    pub least_drives : (p : ℕ) → p < 2 ^ n → drawn_value D n (least D n count counts ts) p ≡ value m (wires ts) p
    unfolding value
    least_drives p b = least_value D n count counts ts small p b ∙ ap (λ k. of_bits k (λ j. bit (wires ts j) p)) long

    pub least_family : Compatible n m R (wires ts) → Family D n m R (least D n count counts ts)
    least_family c = record {
      drawn = record { one_each = length-map ts counts.reduced ∙ long; formed = least_formed D n count counts ts small };
      allowed = λ p b. subst (λ v. T (R p v)) (sym (least_drives p b)) (c p b);
    }

    pub least_total : drawn_cells D (least D n count counts ts) ≡ total count m (wires ts)
    least_total = least_cells D n count counts ts ∙ ap (λ k. total count k (wires ts)) long

  -- a relation that is well defined has a family: on each pattern the lowest value of its set
  module _ (w : WellDefined n m R) where
    chosen : ℕ → ℕ
    chosen p = lowest (2 ^ m) (R p)

    table : ℕ → ℕ
    table j = of_bits (2 ^ n) (λ p. bit (chosen p) j)

    chosen_lt : (p : ℕ) → p < 2 ^ n → chosen p < 2 ^ m
    unfolding chosen
    chosen_lt p l = let u = w p l in lt_of_le_of_lt (lowest_below (2 ^ m) (R p) u.0 u.1 u.2) u.1

    abbrev chosen_tables : List ℕ
    chosen_tables = tabulate m table

    chosen_stage : Stage n m (wires chosen_tables)
    unfolding table
    chosen_stage j l =
        subst (λ t. t < 2 ^ (2 ^ n)) (sym (tabulate_at m table j l)) (of_bits_lt (λ p. bit (chosen p) j) (2 ^ n) (λ p _. bit_lt (chosen p) j))

    chosen_compatible : Compatible n m R (wires chosen_tables)
    unfolding value of_bits table chosen
    chosen_compatible p b =
        subst (λ v. T (R p v))
        (sym
        (sum_cong m (λ j. bit (wires chosen_tables j) p * 2 ^ j) (λ j. bit (chosen p) j * 2 ^ j)
        (λ j l. ap (λ y. y * 2 ^ j) (ap (λ t. bit t p) (tabulate_at m table j l) ∙ bit_of_bits (λ p. bit (chosen p) j) (2 ^ n) (λ p _. bit_lt (chosen p) j) p b))
        ∙ of_bits_bit m (chosen p) (chosen_lt p b)))
        (lowest_is (2 ^ m) (R p) (chosen_lt p b))

    pub some_family : (xs : List D.Shape) × Family D n m R xs
    some_family = (least D n count counts chosen_tables, least_family chosen_tables (tabulate_length m table) chosen_stage chosen_compatible)
