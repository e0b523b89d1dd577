-- Laws of what the code does to a list of sets: the relation that the sets tell, narrowed, and sets that stay in range.
use mathlib.Core.Path.{◌≡◌, sym, ap, ◌∙◌, fun_ext}
use mathlib.Core.Logic.{⊎_elim}
use mathlib.Core.Bool.{Bool, cond, not, ◌&&◌, ◌||◌}
use mathlib.Core.List.{List}
use Prim.Native.Nat.{ℕ, ◌^◌, ◌<◌, ◌≤◌}
use native.Mathlib.Omega.{arith}
use native.Mathlib.Nat.{lt_of_le_of_lt}
use lib.Dec.{T, T_not, eqb, ltb, ltb→lt, nltb→le, eqb→eq}
use lib.Pow.{pow_mono, pow_pos}
use lib.ListN.{length, get_or, set, take, length-set, get_or-eq_default}
use lib.Seq.{get_or-set_same, get_or-set_other}
use borrow.Author.Tests.{le-ltb}
use Rattle.sheet.specs.Limits.{max_inputs, max_patterns, max_values}
use Rattle.base.proofs.Tests.{decide, eq_test, cond_has, test_yes, test_no, and_true}
use Rattle.table.specs.Bits.{bit, tabulate}
use Rattle.table.proofs.Bits.{tabulate_length, tabulate_at, zero_bit}
use Rattle.relation.specs.Tests.{of_sets, keep, agree}
use Rattle.relation.specs.Inner.Members.{member, with_bit}
use Rattle.relation.specs.Inner.Narrowed.{narrowed, agreed, cleared}
use Rattle.base.proofs.Tabulate.{tabulate_entry, take_entry}
use Rattle.relation.proofs.Members.{member_sets, with_test, with_le}

-- relations of lists with the same sets are equal
same_sets : (a b : List ℕ) → ((p : ℕ) → get_or a p 0 ≡ get_or b p 0) → of_sets a ≡ of_sets b
same_sets a b h = fun_ext (λ p. member_sets a p ∙ ap member (h p) ∙ sym (member_sets b p))

-- m wires, n inputs: a set for each pattern that there is room for, each of values below 2 ^ m, those past the last pattern empty
pub record Narrow (n m : ℕ) (sets : List ℕ) : Type 0 where
  pub long : length sets ≡ max_patterns
  pub small : (p : ℕ) → get_or sets p 0 < 2 ^ (2 ^ m)
  pub past : (p : ℕ) → 2 ^ n ≤ p → get_or sets p 0 ≡ 0

-- a pattern's set narrowed: one part of a split
pub narrow_keep : (sets : List ℕ) (p j b : ℕ) → p < length sets → get_or sets p 0 < 2 ^ max_values → of_sets (narrowed sets p j b) ≡ keep (of_sets sets) p j b
unfolding of_sets keep narrowed member
narrow_keep sets p j b hp hs = fun_ext (λ q. fun_ext (λ v. ⊎_elim (same q v) (other q v) (decide (eqb q p))))
  where
    w : ℕ
    w = with_bit (get_or sets p 0) j b

    told : (v : ℕ) → eqb (bit w v) 1 ≡ eqb (bit (get_or sets p 0) v) 1 && eqb (bit v j) b
    told v = with_test (get_or sets p 0) j b v hs

    same : (q v : ℕ) → T (eqb q p) → eqb (bit (get_or (set sets p w) q 0) v) 1 ≡ eqb (bit (get_or sets q 0) v) 1 && (not (eqb q p) || eqb (bit v j) b)
    same q v t = rw (test_yes (eqb q p) t, eqb→eq q p t, get_or-set_same sets p w 0 hp) (told v)

    other : (q v : ℕ) → T (not (eqb q p)) → eqb (bit (get_or (set sets p w) q 0) v) 1 ≡ eqb (bit (get_or sets q 0) v) 1 && (not (eqb q p) || eqb (bit v j) b)
    other q v t = rw (test_no (eqb q p) t, get_or-set_other sets p q w 0 (λ e. T_not (eqb q p) t (eq_test e)), and_true)

-- the sets once a wire has a table
pub agreed_agree : (sets : List ℕ) (j t : ℕ) → length sets ≡ max_patterns → ((p : ℕ) → get_or sets p 0 < 2 ^ max_values)
    → of_sets (agreed sets j t) ≡ agree (of_sets sets) j t
unfolding of_sets agree agreed member
agreed_agree sets j t len small = fun_ext (λ p. fun_ext (λ v. ⊎_elim (inside p v) (outside p v) (decide (ltb p max_patterns))))
  where
    f : ℕ → ℕ
    f p = with_bit (get_or sets p 0) j (bit t p)

    inside : (p v : ℕ) → T (ltb p max_patterns) → eqb (bit (get_or (tabulate max_patterns f) p 0) v) 1 ≡ eqb (bit (get_or sets p 0) v) 1 && eqb (bit v j) (bit t p)
    inside p v l = rw (tabulate_at max_patterns f p (ltb→lt p max_patterns l)) (with_test (get_or sets p 0) j (bit t p) v (small p))

    outside : (p v : ℕ) → T (not (ltb p max_patterns))
        → eqb (bit (get_or (tabulate max_patterns f) p 0) v) 1 ≡ eqb (bit (get_or sets p 0) v) 1 && eqb (bit v j) (bit t p)
    outside p v l =
        let h = nltb→le p max_patterns l in
        let a : get_or (tabulate max_patterns f) p 0 ≡ 0 = get_or-eq_default (tabulate max_patterns f) 0 (omega (arith, tabulate_length max_patterns f)) in
        let b : get_or sets p 0 ≡ 0 = get_or-eq_default sets 0 (omega arith) in
        rw (a, b, zero_bit v)

-- the sets past the last pattern emptied
cleared_entry : (n : ℕ) (sets : List ℕ) (p : ℕ) → n ≤ max_inputs → get_or (cleared n sets) p 0 ≡ cond (ltb p (2 ^ n)) (get_or sets p 0) 0
unfolding cleared
cleared_entry n sets p h =
    let held : get_or (cleared n sets) p 0 ≡ cond (ltb p max_patterns) (cond (ltb p (2 ^ n)) (get_or sets p 0) 0) 0 =
    tabulate_entry max_patterns (λ p. cond (ltb p (2 ^ n)) (get_or sets p 0) 0) p in
    held
    ∙ ⊎_elim (λ (l : T (ltb p max_patterns)). rw (test_yes (ltb p max_patterns) l))
    (λ l. let b : 2 ^ n ≤ p = omega (arith, nltb→le p max_patterns l, pow_mono {i = n} {j = max_inputs} h) in
    rw (test_no (ltb p max_patterns) l, le-ltb p (2 ^ n) b))
    (decide (ltb p max_patterns))

pub cleared_takes : (n : ℕ) (sets : List ℕ) → n ≤ max_inputs → length sets ≡ max_patterns → of_sets (cleared n sets) ≡ of_sets (take (2 ^ n) sets)
cleared_takes n sets h len =
    same_sets (cleared n sets) (take (2 ^ n) sets) (λ p. cleared_entry n sets p h ∙ sym (take_entry (2 ^ n) sets p))

-- narrow sets stay narrow
less_narrow : (n m : ℕ) (a b : List ℕ) → Narrow n m a → length b ≡ max_patterns → ((q : ℕ) → get_or b q 0 ≤ get_or a q 0) → Narrow n m b
less_narrow n m a b w len le = record {
  long = len;
  small = λ p. lt_of_le_of_lt (le p) (w.small p);
  past = λ p l. omega (arith, le p, w.past p l);
}

pub narrowed_narrow : (n m : ℕ) (sets : List ℕ) (p j b : ℕ) → Narrow n m sets → p < max_patterns → Narrow n m (narrowed sets p j b)
unfolding narrowed
narrowed_narrow n m sets p j b w hp =
    let x = with_bit (get_or sets p 0) j b in
    less_narrow n m sets (set sets p x) w (length-set sets p x ∙ w.long)
    (λ q. ⊎_elim
    (λ (e : T (eqb q p)). rw (eqb→eq q p e, get_or-set_same sets p x 0 (omega (arith, w.long))) (with_le (get_or sets p 0) j b))
    (λ e. rw (get_or-set_other sets p q x 0 (λ d. T_not (eqb q p) e (eq_test d))) (omega arith))
    (decide (eqb q p)))

pub agreed_narrow : (n m : ℕ) (sets : List ℕ) (j t : ℕ) → Narrow n m sets → Narrow n m (agreed sets j t)
unfolding agreed
agreed_narrow n m sets j t w =
    let f : ℕ → ℕ = λ p. with_bit (get_or sets p 0) j (bit t p) in
    less_narrow n m sets (tabulate max_patterns f) w (tabulate_length max_patterns f)
    (λ q. rw (tabulate_entry max_patterns f q)
    (cond_has (λ x. x ≤ get_or sets q 0) (ltb q max_patterns) (λ _. with_le (get_or sets q 0) j (bit t q)) (λ _. omega arith)))

pub cleared_narrow : (n m : ℕ) (sets : List ℕ) → length sets ≡ max_patterns → n ≤ max_inputs
    → ((p : ℕ) → p < 2 ^ n → get_or sets p 0 < 2 ^ (2 ^ m)) → Narrow n m (cleared n sets)
unfolding cleared
cleared_narrow n m sets len h small = record {
  long = tabulate_length max_patterns (λ p. cond (ltb p (2 ^ n)) (get_or sets p 0) 0);
  small = λ p. rw (cleared_entry n sets p h)
      (cond_has (λ x. x < 2 ^ (2 ^ m)) (ltb p (2 ^ n)) (λ l. small p (ltb→lt p (2 ^ n) l)) (λ _. pow_pos (2 ^ m)));
  past = λ p l. cleared_entry n sets p h ∙ ap (λ (c : Bool). cond c (get_or sets p 0) 0) (le-ltb p (2 ^ n) l);
}
