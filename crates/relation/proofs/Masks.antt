-- Laws of the projection on a wire as two masks, whose bits are the patterns.
use mathlib.Core.Path.{◌≡◌, refl, sym, ap, subst, ◌∙◌}
use mathlib.Core.Logic.{⊎_elim}
use mathlib.Core.Bool.{Bool, true, false, cond}
use mathlib.Core.List.{List}
use Prim.Native.Nat.{ℕ, ◌+◌, ◌*◌, ◌^◌, ◌<◌, ◌≤◌, zero, suc}
use native.Mathlib.Omega.{arith}
use lib.Dec.{T, T_not, not_T, eqb, eqb→eq}
use Rattle.sheet.specs.Limits.{max_wires, max_values, max_inputs, max_patterns}
use Rattle.sheet.proofs.Sizes.{pattern_place, value_place}
use Rattle.base.proofs.Tests.{decide, eq_test, test_yes, test_no, and_left}
use Rattle.table.specs.Bits.{bit, of_bits, is_one, sum}
use Rattle.table.proofs.BitColumns.{is_one_lt_two, one_test}
use Rattle.table.proofs.Bits.{bit_cases, bit_of_bits, of_bits_lt, sum_cong, sum_but_one, of_bits_short}
use Rattle.relation.specs.Tests.{of_sets, occurs}
use Rattle.relation.specs.Inner.Members.{member, with_bit}
use Rattle.relation.specs.Inner.Masks.{mask_of, cut}
use Rattle.relation.specs.Inner.Narrowed.{narrowed, NonePast}
use Rattle.relation.proofs.Splits.{occurs_part}
use lib.Pow.{pow_mono}
use lib.ListN.{length, get_or, set}
use lib.Seq.{get_or-set_same, get_or-set_other}
use Rattle.table.specs.Inner.Ranks.{masked}
use Rattle.relation.specs.Inner.Source.{WellDefined}
use Rattle.relation.proofs.Decide.{occurs_intro, occurs_at}
use Rattle.relation.proofs.Members.{no_member, with_test}
use Rattle.relation.proofs.Narrowing.{Narrow}
use Rattle.relation.proofs.AllWires.{occurs_all_wires}

-- the bits of a mask, one pattern after the other
abbrev pub mask_bit : List ℕ → ℕ → ℕ → ℕ → ℕ
mask_bit sets j b p = is_one (occurs max_wires (of_sets sets p) j b)

pub found_lt : (sets : List ℕ) (j b p : ℕ) → of_bits p (mask_bit sets j b) < 2 ^ p
found_lt sets j b p = of_bits_lt (mask_bit sets j b) p (λ q _. is_one_lt_two (occurs max_wires (of_sets sets q) j b))

-- the projection of all patterns as two masks
pub mask_bit_lem : (sets : List ℕ) (j b p : ℕ) → p < max_patterns → bit (mask_of sets j b) p ≡ is_one (occurs max_wires (of_sets sets p) j b)
unfolding mask_of
mask_bit_lem sets j b p l = bit_of_bits (mask_bit sets j b) max_patterns (λ q _. is_one_lt_two (occurs max_wires (of_sets sets q) j b)) p l

pub none_occurs : (sets : List ℕ) (p j b : ℕ) → get_or sets p 0 ≡ 0 → mask_bit sets j b p ≡ 0
unfolding of_sets member is_one
none_occurs sets p j b e =
    ap is_one
    (ap (λ w. occurs max_wires (member w) j b) e
    ∙ test_no (occurs max_wires (member 0) j b)
    (not_T (occurs max_wires (member 0) j b) (λ t. let u = occurs_at max_wires (member 0) j b t in no_member u.0 u.2)))

-- the mask of the patterns there are is the whole mask
pub mask_short : (n : ℕ) (sets : List ℕ) (j b : ℕ) → n ≤ max_inputs → NonePast n sets → of_bits (2 ^ n) (mask_bit sets j b) ≡ mask_of sets j b
unfolding mask_of
mask_short n sets j b h past =
    sym (of_bits_short (mask_bit sets j b) (2 ^ n) max_patterns (pow_mono {i = n} {j = max_inputs} h)
    (λ p l. none_occurs sets p j b (past p l)))

pub mask_lt : (n m : ℕ) (sets : List ℕ) (j b : ℕ) → Narrow n m sets → n ≤ max_inputs → mask_of sets j b < 2 ^ (2 ^ n)
mask_lt n m sets j b w h = subst (λ x. x < 2 ^ (2 ^ n)) (mask_short n sets j b h w.past) (found_lt sets j b (2 ^ n))

pub mask_projection : (n m : ℕ) (sets : List ℕ) (j p b : ℕ) → m ≤ max_wires → n ≤ max_inputs → Narrow n m sets → p < 2 ^ n → b < 2
    → masked (mask_of sets j 0) (mask_of sets j 1) p b ≡ occurs m (of_sets sets p) j b
unfolding masked of_sets member
mask_projection n m sets j p b hm hn w l lb = go b lb
  where
    side : (c : ℕ) → eqb (bit (mask_of sets j c) p) 1 ≡ occurs m (of_sets sets p) j c
    side c =
        ap (λ x. eqb x 1) (mask_bit_lem sets j c p (pattern_place n p hn l))
        ∙ one_test (occurs max_wires (of_sets sets p) j c)
        ∙ occurs_all_wires m (get_or sets p 0) j c hm (w.small p)

    go : (c : ℕ) → c < 2 → eqb (bit (cond (eqb c 0) (mask_of sets j 0) (mask_of sets j 1)) p) 1 ≡ occurs m (of_sets sets p) j c
    go zero h = side 0
    go (suc zero) h = side 1
    go (suc (suc c)) h = absurd (omega arith)

pub mask_covers : (n m : ℕ) (sets : List ℕ) (j p : ℕ) → m ≤ max_wires → n ≤ max_inputs → Narrow n m sets → WellDefined n m (of_sets sets) → p < 2 ^ n
    → 1 ≤ bit (mask_of sets j 0) p + bit (mask_of sets j 1) p
unfolding is_one
mask_covers n m sets j p hm hn w wd l =
    let u = wd p l in
    let some : (b : ℕ) → bit u.0 j ≡ b → bit (mask_of sets j b) p ≡ 1 =
    λ b e. mask_bit_lem sets j b p (pattern_place n p hn l)
    ∙ ap is_one (test_yes (occurs max_wires (of_sets sets p) j b) (occurs_intro max_wires (of_sets sets p) j b u.0 (value_place m u.0 hm u.1) u.2 e)) in
    ⊎_elim (λ e. omega (arith, some 0 e)) (λ e. omega (arith, some 1 e)) (bit_cases u.0 j)

-- a split changes one bit of a mask at most
pub mask_narrowed : (sets : List ℕ) (p j b i c : ℕ) → p < max_patterns → length sets ≡ max_patterns → get_or sets p 0 < 2 ^ max_values
    → mask_of (narrowed sets p j b) i c ≡ cut (mask_of sets i c) p (occurs max_wires (member (with_bit (get_or sets p 0) j b)) i c)
unfolding mask_of narrowed of_bits cut is_one of_sets member
mask_narrowed sets p j b i c hp len small = go (occurs max_wires (member w) i c) refl
  where
    w : ℕ
    w = with_bit (get_or sets p 0) j b

    f : ℕ → ℕ
    f q = mask_bit (set sets p w) i c q * 2 ^ q

    g : ℕ → ℕ
    g q = mask_bit sets i c q * 2 ^ q

    off : (q : ℕ) → (q ≡ p → ⊥) → f q ≡ g q
    off q ne = ap (λ x. is_one (occurs max_wires (member x) i c) * 2 ^ q) (get_or-set_other sets p q w 0 ne)

    at : (t : Bool) → occurs max_wires (member w) i c ≡ t → f p ≡ is_one t * 2 ^ p
    at t e = ap (λ x. is_one (occurs max_wires (member x) i c) * 2 ^ p) (get_or-set_same sets p w 0 (omega arith)) ∙ ap (λ x. is_one x * 2 ^ p) e

    whole : T (occurs max_wires (member w) i c) → T (occurs max_wires (member (get_or sets p 0)) i c)
    whole =
        occurs_part max_wires (member w) (member (get_or sets p 0)) i c
        (λ v t. and_left (member (get_or sets p 0) v) (eqb (bit v j) b) (subst T (with_test (get_or sets p 0) j b v small) t))

    go : (t : Bool) → occurs max_wires (member w) i c ≡ t → sum max_patterns f ≡ cut (sum max_patterns g) p t
    go true e =
        let same : f p ≡ g p = at true e ∙ ap (λ x. is_one x * 2 ^ p) (sym (test_yes (occurs max_wires (member (get_or sets p 0)) i c) (whole (rw e tt)))) in
        sum_cong max_patterns f g
        (λ q _. ⊎_elim (λ (d : T (eqb q p)). rw (eqb→eq q p d) same) (λ d. off q (λ h. T_not (eqb q p) d (eq_test h))) (decide (eqb q p)))
    go false e =
        let gp : bit (sum max_patterns g) p * 2 ^ p ≡ g p = ap (λ x. x * 2 ^ p) (mask_bit_lem sets i c p hp) in
        let fp : f p ≡ 0 * 2 ^ p = at false e in
        omega (arith, sum_but_one f g max_patterns p hp off)
