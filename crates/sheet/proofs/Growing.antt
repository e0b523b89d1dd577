-- What one command more changes in what is gathered.
use Prim.Native.Nat.{ℕ, ◌+◌, ◌<◌}
use mathlib.Core.Path.{◌≡◌, refl, sym}
use mathlib.Core.Bool.{Bool, true, false, cond, not, ◌||◌}
use mathlib.Core.List.{List, [], ◌∷◌, ◌++◌, append-nil}
use lib.ListN.{length, get_or, set, length-append}
use lib.Seq.{get_or-append_seam}
use lib.Bits.{bit_and}
use Rattle.sheet.specs.declared.Command.{Command}
use Rattle.sheet.specs.declared.Command.TheVariants.{End, Row, DontCare, Gate, Output, Limit}
use Rattle.sheet.specs.declared.Sheet.{Sheet}
use Rattle.sheet.specs.declared.LogicGate.{LogicGate}
use Rattle.sheet.specs.Commands.{is_empty, about, wires_of, is_marked, is_dont_care, has_row, rows_on, dont_cares_on, no_gate, gates_of, outputs_of}
use Rattle.sheet.specs.Commands.{limits_on}
use Rattle.sheet.specs.Limits.{max_patterns, max_gates, max_outputs, all_ones}
use Rattle.sheet.specs.Gathered.{tabulate, meet, gathered, limit_on, gate_at, output_at, no_mark, row_mark, dont_care_mark}
use Rattle.base.proofs.Tabulate.{tabulate_at, tabulate_set, tabulate_set_or}
use Rattle.sheet.proofs.Lists.{never, collect_snoc, is_empty_append, is_empty_nil, about_same, about_other, get_d_snoc_other}
use Rattle.base.proofs.Tests.{and_false}

-- a pattern without 02 and 03 has no rows and no don't care
pub unmarked_row : (p : ℕ) (cs : List Command) → is_marked p cs ≡ false → rows_on p cs ≡ []
unmarked_row p cs e = is_empty_nil (rows_on p cs) (neither (is_empty (dont_cares_on p cs)) (is_empty (rows_on p cs)) e)
  where
    neither : (a b : Bool) → not a || not b ≡ false → b ≡ true
    neither true true f = refl
    neither true false f = sym f
    neither false b f = never (sym f)

pub unmarked_care : (p : ℕ) (cs : List Command) → is_marked p cs ≡ false → is_dont_care p cs ≡ false
unmarked_care p cs e = first (is_dont_care p cs) (has_row p cs) e
  where
    first : (a b : Bool) → a || b ≡ false → a ≡ false
    first true b f = f
    first false b f = refl

pub end_adds : (cs : List Command) → gathered (cs ++ End ∷ []) ≡ gathered cs
unfolding gathered
end_adds cs = simp (collect_snoc, append-nil)

pub meet_snoc : (w : ℕ) (xs : List ℕ) (x : ℕ) → meet w (xs ++ x ∷ []) ≡ bit_and (meet w xs) x
unfolding meet
meet_snoc w [] x = refl
meet_snoc w (y ∷ xs) x = meet_snoc (bit_and w y) xs x

-- the sheet with other tables over the patterns, other gates and other outputs
abbrev remade : Sheet → List ℕ → List ℕ → List ℕ → ℕ → List LogicGate → ℕ → List ℕ → Sheet
remade h marks values limits count gates outputs signals =
    record {
      n = h.n;
      m = h.m;
      marks = marks;
      values = values;
      limits = limits;
      gate_count = count;
      gates = gates;
      output_count = outputs;
      signals = signals;
    }

-- with other tables alone
abbrev tabled : Sheet → List ℕ → List ℕ → List ℕ → Sheet
tabled h marks values limits =
    remade h marks values limits h.gate_count h.gates h.output_count h.signals

-- the sheet with a 06 more, a 02 more, a 03 more, a gate more, an output more
abbrev pub limited : Sheet → ℕ → ℕ → Sheet
limited h p w = tabled h h.marks h.values (set h.limits p (bit_and (get_or h.limits p 0) w))

abbrev pub rowed : Sheet → ℕ → ℕ → Sheet
rowed h p v = tabled h (set h.marks p row_mark) (set h.values p v) h.limits

abbrev pub freed : Sheet → ℕ → Sheet
freed h p = tabled h (set h.marks p dont_care_mark) h.values h.limits

abbrev pub gated : Sheet → ℕ → ℕ → ℕ → Sheet
gated h k a b =
    let i = h.gate_count in
    remade h h.marks h.values h.limits (i + 1) (set h.gates i (record { kind = k; left = a; right = b })) h.output_count h.signals

abbrev pub led : Sheet → ℕ → Sheet
led h s =
    let i = h.output_count in
    remade h h.marks h.values h.limits h.gate_count h.gates (i + 1) (set h.signals i s)

-- one command more about the pattern p, in a table made of what is said about each pattern
about_set {ℓ} : {A : Type ℓ} (f : ℕ → List A → ℕ) (said : ℕ → List A) (p : ℕ) (x : A) (y : ℕ) → p < max_patterns → y ≡ f p (said p ++ x ∷ [])
    → set (tabulate max_patterns (λ q. f q (said q))) p y ≡ tabulate max_patterns (λ q. f q (said q ++ about q p x))
about_set f said p x y h e =
    tabulate_set max_patterns (λ q. f q (said q)) (λ q. f q (said q ++ about q p x)) p y h
    (rw (about_same p x) e)
    (λ q d. rw (about_other q p x (λ g. d (sym g)), append-nil (said q)))

module _ (cs : List Command) where
  pub limit_adds : (p w : ℕ) → p < max_patterns → limited (gathered cs) p w ≡ gathered (cs ++ Limit p w ∷ [])
  unfolding gathered
  limit_adds p w h =
      simp (collect_snoc, append-nil)
      (rw (about_set (λ q. meet all) (λ q. limits_on q cs) p w _ h here))
    where
      all : ℕ
      all = all_ones (wires_of cs)

      here : bit_and (get_or (tabulate max_patterns (λ q. limit_on q cs)) p 0) w ≡ meet all (limits_on p cs ++ w ∷ [])
      here = rw (tabulate_at max_patterns (λ q. limit_on q cs) p h) (sym (meet_snoc all (limits_on p cs) w))

  pub row_adds : (p v : ℕ) → p < max_patterns → is_marked p cs ≡ false → rowed (gathered cs) p v ≡ gathered (cs ++ Row p v ∷ [])
  unfolding gathered
  row_adds p v h e =
      let none : rows_on p cs ≡ [] = unmarked_row p cs e in
      simp (collect_snoc, append-nil)
      (rw (
        about_set (λ q vs. cond (is_dont_care q cs) dont_care_mark (cond (not (is_empty vs)) row_mark no_mark))
            (λ q. rows_on q cs) p v row_mark h (rw (none, unmarked_care p cs e)),
        about_set (λ q vs. get_or vs 0 0) (λ q. rows_on q cs) p v v h (rw none),
      ))

  pub dont_care_adds : (p : ℕ) → p < max_patterns → freed (gathered cs) p ≡ gathered (cs ++ DontCare p ∷ [])
  unfolding gathered
  dont_care_adds p h =
      let some : is_empty (dont_cares_on p cs ++ p ∷ []) ≡ false = rw (is_empty_append (dont_cares_on p cs) (p ∷ [])) (and_false (is_empty (dont_cares_on p cs))) in
      simp (collect_snoc, append-nil)
      (rw (about_set (λ q ps. cond (not (is_empty ps)) dont_care_mark (cond (has_row q cs) row_mark no_mark)) (λ q. dont_cares_on q cs) p p dont_care_mark h (rw some)))

  gate_set : (g : LogicGate) → length (gates_of cs) < max_gates
      → set (tabulate max_gates (λ i. gate_at i cs)) (length (gates_of cs)) g ≡ tabulate max_gates (λ i. get_or (gates_of cs ++ g ∷ []) i no_gate)
  gate_set g h =
      tabulate_set_or no_gate max_gates (λ i. gate_at i cs) (λ i. get_or (gates_of cs ++ g ∷ []) i no_gate) (length (gates_of cs)) g h
      (sym (get_or-append_seam (gates_of cs) g [] no_gate))
      (λ j e. get_d_snoc_other (gates_of cs) g no_gate j e)

  pub gate_adds : (k a b : ℕ) → length (gates_of cs) < max_gates → gated (gathered cs) k a b ≡ gathered (cs ++ Gate k a b ∷ [])
  unfolding gathered
  gate_adds k a b h = simp (collect_snoc, append-nil, length-append) (rw (gate_set (record { kind = k; left = a; right = b }) h))

  pub output_adds : (s : ℕ) → length (outputs_of cs) < max_outputs → led (gathered cs) s ≡ gathered (cs ++ Output s ∷ [])
  unfolding gathered
  output_adds s h =
      simp (collect_snoc, append-nil, length-append)
      (rw (tabulate_set max_outputs (λ i. output_at i cs) (λ i. get_or (outputs_of cs ++ s ∷ []) i 0)
      (length (outputs_of cs)) s h (sym (get_or-append_seam (outputs_of cs) s [] 0))
      (get_d_snoc_other (outputs_of cs) s 0)))
