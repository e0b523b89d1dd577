-- Of the commands that a sheet holds each pattern has exactly one 02 or 03, and 02, 03 and 06 name patterns, values and sets in range.
use Prim.Native.Nat.{ℕ, ◌+◌, ◌<◌, ◌≤◌, ◌^◌}
use mathlib.Core.Path.{◌≡◌, refl, ap, ◌∙◌}
use mathlib.Core.Logic.{⊎_elim}
use mathlib.Core.Bool.{true, false, not, ◌||◌}
use mathlib.Core.List.{List, [], ◌∷◌, ◌++◌, append-nil}
use native.Mathlib.Omega.{arith}
use lib.Dec.{T_not, eqb, eqb→eq}
use lib.ListN.{length, length-append}
use borrow.Author.Tests.{leb-false, not-false}
use Rattle.base.proofs.Tests.{decide, eq_test, cond_has, neither}
use Rattle.sheet.specs.declared.Command.{Command}
use Rattle.sheet.specs.declared.Command.TheVariants.{End, Sizes, Row, DontCare, Gate, Output, Limit}
use Rattle.sheet.specs.Commands.{is_empty, about, row_in, dont_care_in, limit_in, inputs_of, rows_on, dont_cares_on, limits_on, is_marked, wires_of}
use Rattle.reader.specs.Reader.{is_out_of_range}
use Rattle.sheet.specs.Limits.{is_beyond}
use Rattle.sheet.proofs.Lists.{never, is_empty_nil, collect_snoc, about_same, about_other}
use Rattle.base.specs.Each.{Each}
use Rattle.sheet.proofs.Shares.{each_collect}
use Rattle.sheet.proofs.Growing.{unmarked_row, unmarked_care}
use Rattle.reader.proofs.Passages.{InOrder}
use Rattle.reader.proofs.Opening.{InRange}

-- at most one 02 or 03 for a pattern
abbrev pub Once : List Command → Type 0
Once cs = (p : ℕ) → length (rows_on p cs) + length (dont_cares_on p cs) ≤ 1

same? : (p q : ℕ) {A : Type 0} → (q ≡ p → A) → ((q ≡ p → ⊥) → A) → A
same? p q f g = ⊎_elim (λ t. f (eqb→eq q p t)) (λ t. g (λ e. T_not (eqb q p) t (eq_test e))) (decide (eqb q p))

unmarked_cares : (p : ℕ) (cs : List Command) → is_marked p cs ≡ false → dont_cares_on p cs ≡ []
unmarked_cares p cs e = is_empty_nil (dont_cares_on p cs) (not-false (is_empty (dont_cares_on p cs)) (unmarked_care p cs e))

-- a mark for a pattern that had none is its only one, and changes nothing for the others
one_mark : (before : List Command) → Once before → (q v : ℕ) → is_marked q before ≡ false → (p : ℕ)
    → length (rows_on p before) + length (dont_cares_on p before) + length (about p q v) ≤ 1
one_mark before h q v new p =
    same? p q
    (λ e.
    let rows = rw e at (unmarked_row q before new) in
    let cares = rw e at (unmarked_cares q before new) in
    rw (e, rows, cares, about_same p v) (omega arith))
    (λ e. rw (about_other p q v e) (omega (arith, h p)))

once_with : (before : List Command) (c : Command) → Once before → InOrder before c → (p : ℕ)
    → length (rows_on p before ++ row_in p c) + length (dont_cares_on p before ++ dont_care_in p c) ≤ 1
once_with before (Row q v) h o p =
    omega (arith, length-append (rows_on p before) (about p q v), length-append (dont_cares_on p before) [], one_mark before h q v o.new p)
once_with before (DontCare q) h o p =
    omega (arith, length-append (rows_on p before) [], length-append (dont_cares_on p before) (about p q q), one_mark before h q q o.new p)
once_with before End h o p = simp append-nil (h p)
once_with before (Sizes n m) h o p = simp append-nil (h p)
once_with before (Gate k a b) h o p = simp append-nil (h p)
once_with before (Output s) h o p = simp append-nil (h p)
once_with before (Limit q w) h o p = simp append-nil (h p)

pub once_more : (before : List Command) (c : Command) → Once before → InOrder before c → Once (before ++ c ∷ [])
once_more before c h o p = rw (collect_snoc (row_in p) before c, collect_snoc (dont_care_in p) before c) (once_with before c h o p)

-- what is said of pattern p is so where it is said of a pattern that is p
each_about : (Q : ℕ → Type 0) (p q x : ℕ) → (q ≡ p → Q x) → Each Q (about p q x)
each_about Q p q x f = cond_has (Each Q) (eqb q p) (λ t. (f (eqb→eq q p t), tt)) (λ _. tt)

-- patterns, values and sets in range
module _ (n m p : ℕ) where
  abbrev Fits : Command → Type 0
  Fits c = is_out_of_range n m c ≡ false

  row_fits : (c : Command) → Fits c → Each (λ v. (p < 2 ^ n) × (v < 2 ^ m)) (row_in p c)
  row_fits (Row q v) e =
      let h = neither (is_beyond n q) (is_beyond m v) e in
      each_about _ p q v (λ f. (rw f at (leb-false (2 ^ n) q h.0), leb-false (2 ^ m) v h.1))
  row_fits End e = tt
  row_fits (Sizes n' m') e = tt
  row_fits (DontCare q) e = tt
  row_fits (Gate k a b) e = tt
  row_fits (Output s) e = tt
  row_fits (Limit q w) e = tt

  dont_care_fits : (c : Command) → Fits c → Each (λ q. (p < 2 ^ n) × (q ≡ p)) (dont_care_in p c)
  dont_care_fits (DontCare q) e = each_about _ p q q (λ f. (rw f at (leb-false (2 ^ n) q e), f))
  dont_care_fits End e = tt
  dont_care_fits (Sizes n' m') e = tt
  dont_care_fits (Row q v) e = tt
  dont_care_fits (Gate k a b) e = tt
  dont_care_fits (Output s) e = tt
  dont_care_fits (Limit q w) e = tt

  limit_fits : (c : Command) → Fits c → Each (λ w. (p < 2 ^ n) × (w < 2 ^ (2 ^ m))) (limit_in p c)
  limit_fits (Limit q w) e =
      let h = neither (is_beyond n q) (is_beyond (2 ^ m) w) e in
      each_about _ p q w (λ f. (rw f at (leb-false (2 ^ n) q h.0), leb-false (2 ^ (2 ^ m)) w h.1))
  limit_fits End e = tt
  limit_fits (Sizes n' m') e = tt
  limit_fits (Row q v) e = tt
  limit_fits (DontCare q) e = tt
  limit_fits (Gate k a b) e = tt
  limit_fits (Output s) e = tt

module _ (cs : List Command) (r : InRange cs) (p : ℕ) where
  pub rows_fit : Each (λ v. (p < 2 ^ inputs_of cs) × (v < 2 ^ wires_of cs)) (rows_on p cs)
  rows_fit = each_collect _ _ (row_in p) (row_fits (inputs_of cs) (wires_of cs) p) cs r

  pub dont_cares_fit : Each (λ q. (p < 2 ^ inputs_of cs) × (q ≡ p)) (dont_cares_on p cs)
  dont_cares_fit = each_collect _ _ (dont_care_in p) (dont_care_fits (inputs_of cs) (wires_of cs) p) cs r

  pub limits_fit : Each (λ w. (p < 2 ^ inputs_of cs) × (w < 2 ^ (2 ^ wires_of cs))) (limits_on p cs)
  limits_fit = each_collect _ _ (limit_in p) (limit_fits (inputs_of cs) (wires_of cs) p) cs r

-- exactly one 02, or exactly one 03
pub data Given (p : ℕ) (cs : List Command) : Type 0 where
  present : (v : ℕ) → rows_on p cs ≡ v ∷ [] → dont_cares_on p cs ≡ [] → v < 2 ^ wires_of cs → Given p cs
  impossible : rows_on p cs ≡ [] → dont_cares_on p cs ≡ p ∷ [] → Given p cs

pub given : (cs : List Command) → InRange cs → Once cs → (p : ℕ) → is_marked p cs ≡ true → Given p cs
given cs r o p e = go (rows_on p cs) (dont_cares_on p cs) refl refl (o p) e (rows_fit cs r p) (dont_cares_fit cs r p)
  where
    go : (xs ys : List ℕ) → rows_on p cs ≡ xs → dont_cares_on p cs ≡ ys → length xs + length ys ≤ 1 → not (is_empty ys) || not (is_empty xs) ≡ true
        → Each (λ v. (p < 2 ^ inputs_of cs) × (v < 2 ^ wires_of cs)) xs → Each (λ q. (p < 2 ^ inputs_of cs) × (q ≡ p)) ys → Given p cs
    go [] [] f g l e x y = never e
    go (v ∷ []) [] f g l e x y = present v f g x.0.1
    go [] (q ∷ []) f g l e x y = impossible f (g ∙ ap (λ z. z ∷ []) y.0.1)
    go (v ∷ w ∷ xs) ys f g l e x y = absurd (omega arith)
    go (v ∷ []) (q ∷ ys) f g l e x y = absurd (omega arith)
    go [] (q ∷ q' ∷ ys) f g l e x y = absurd (omega arith)
