-- Ranks: a key and a table as one number. The least of three numbers shows the least table of one input more.
use Prim.Native.Nat.{ℕ, suc, ◌+◌, ◌*◌, ◌^◌, ◌<◌, ◌≤◌, min}
use mathlib.Core.Path.{◌≡◌, sym, subst, ◌∙◌}
use mathlib.Core.Logic.{⊎_elim}
use mathlib.Core.Option.{Option, none, some}
use native.Mathlib.Omega.{arith}
use native.Mathlib.Nat.{mul-le-mul_right, le_antisymm}
use lib.Dec.{T, T_not, eqb, eqb→eq, ltb, ltb→lt, nltb→le}
use Rattle.base.proofs.Tests.{decide, eq_test}
use Rattle.table.specs.Pick.{Proj, suits, least_of}
use Rattle.table.specs.Inner.Blocks.{no_table, Shown}
use Rattle.table.specs.Inner.Lines.{line}
use Rattle.table.proofs.Halves.{join, join_lt}
use Rattle.table.proofs.Suited.{upper, common, suits_common, join_suits}
use Rattle.table.proofs.Closer.{closer, closest, Lex, closer_left, closer_right, closer_one}
use Rattle.table.proofs.Halving.{KeyHalves, BestTable, Candidate, Beats, closest_left, closest_right, closest_candidate, joins, fitting, least_best, same_beats, line_beats, same_candidate, line_candidate, least_halves}

-- two halves under a selector: their keys are added up, also where the halves are equal or make the line and the true key is less
abbrev pub ShownPair : (ℕ → ℕ) → ℕ → ℕ → ℕ → Option ℕ → Option ℕ → ℕ → Type 0
ShownPair key step r w none l y = no_table * w ≤ y
ShownPair key step r w (some h) none y = no_table * w ≤ y
ShownPair key step r w (some h) (some l) y = y ≡ (step + (key l + key h)) * w + join r h l

module _ (key : ℕ → ℕ) (w n : ℕ) (P : Proj) (wide : 2 ^ (2 ^ n) ≤ w) (few : (t : ℕ) → t < 2 ^ (2 ^ n) → key t < no_table) where
  abbrev rank_of : ℕ → ℕ
  rank_of t = key t * w + t

  -- the better of two tables has the lesser number, and any table a lesser one than none has
  lex_le : (s t : ℕ) → s < 2 ^ (2 ^ n) → Lex key s t → rank_of s ≤ rank_of t
  lex_le s t l b =
      ⊎_elim (λ c. omega (arith, mul-le-mul_right w (ltb→lt (key s) (key t) c)))
      (λ c. omega (arith, mul-le-mul_right w b.fewer, b.smaller (nltb→le (key s) (key t) c))) (decide (ltb (key s) (key t)))

  below_none : (t : ℕ) → t < 2 ^ (2 ^ n) → rank_of t < no_table * w
  below_none t l = omega (arith, mul-le-mul_right w (few t l))

  -- so the lesser of two numbers shows the better of two candidates
  closest_shown : (a b : Option ℕ) (x y : ℕ) → Candidate n P a → Candidate n P b → Shown key w a x → Shown key w b y → Shown key w (closest key a b) (min x y)
  unfolding closest
  closest_shown none none x y ca cb sx sy = omega arith
  closest_shown none (some t) x y ca cb sx sy = omega (arith, below_none t cb.0)
  closest_shown (some s) none x y ca cb sx sy = omega (arith, below_none s ca.0)
  closest_shown (some s) (some t) x y ca cb sx sy =
      ⊎_elim (λ e. rw e (omega (arith, lex_le s t ca.0 (subst (λ u. Lex key u t) e (closer_right key s t)))))
      (λ e. rw e (omega (arith, lex_le t s cb.0 (subst (λ u. Lex key u s) e (closer_left key s t))))) (closer_one key s t)

  -- and nothing changes with a number above that of a table which a candidate beats
  beaten_shown : (a : Option ℕ) (t x y : ℕ) → Candidate n P a → Beats key a t → Shown key w a x → rank_of t ≤ y → Shown key w (closest key a (some t)) (min x y)
  unfolding closest
  beaten_shown none t x y ca b sx le = absurd b
  beaten_shown (some s) t x y ca b sx le =
      let same : closer key s t ≡ s =
      ⊎_elim (λ e. e)
      (λ e. let c = subst (λ u. Lex key u s) e (closer_left key s t) in
      e ∙ le_antisymm (c.smaller b.fewer) (b.smaller c.fewer))
      (closer_one key s t) in
      rw same (omega (arith, lex_le s t ca.0 b))

  none_shown : (a : Option ℕ) (x y : ℕ) → Candidate n P a → Shown key w a x → no_table * w ≤ y → Shown key w (closest key a none) (min x y)
  none_shown a x y ca sx le = closest_shown a none x y ca tt sx le

module _ (key : ℕ → ℕ → ℕ) (step r : ℕ) (laws : KeyHalves key step r) (P : Proj)
    (w : ℕ) (wide : 2 ^ (2 ^ suc r) ≤ w) (few : (t : ℕ) → t < 2 ^ (2 ^ suc r) → key (suc r) t < no_table)
    (x z y : ℕ) (sx : Shown (key (suc r)) w (joins r (least_of (key r) r (common r P)) (least_of (key r) r (common r P))) x)
    (sz : Shown (key (suc r)) w (fitting r P) z)
    (sy : ShownPair (key r) step r w (least_of (key r) r (upper r P)) (least_of (key r) r P) y) where
  abbrev k : ℕ → ℕ
  k = key (suc r)

  abbrev c : Option ℕ
  c = least_of (key r) r (common r P)

  abbrev bc : BestTable (key r) r (common r P) c
  bc = least_best (key r) r (common r P)

  -- the better of a half twice and the line
  abbrev first : Option ℕ
  first = closest k (joins r c c) (fitting r P)

  first_candidate : Candidate (suc r) P first
  first_candidate =
      closest_candidate k (suc r) P (joins r c c) (fitting r P) (same_candidate key step r laws P c bc) (line_candidate key step r laws P)

  first_shown : Shown k w first (min x z)
  first_shown =
      closest_shown k w (suc r) P wide few (joins r c c) (fitting r P) x z (same_candidate key step r laws P c bc) (line_candidate key step r laws P) sx sz

  -- beside two halves: their number is their rank, or it is above it and the first beats them
  both : (h l : Option ℕ) → BestTable (key r) r (upper r P) h → BestTable (key r) r P l → ShownPair (key r) step r w h l y
      → Shown k w (closest k first (joins r h l)) (min (min x z) y)
  unfolding joins
  both none l bh bl s = none_shown k w (suc r) P wide few first (min x z) y first_candidate first_shown s
  both (some h) none bh bl s = none_shown k w (suc r) P wide few first (min x z) y first_candidate first_shown s
  both (some h) (some l) bh bl s =
      let t = join r h l in
      let lt = join_lt r h l bh.inside bl.inside in
      let fits = join_suits r P h l bh.inside bl.inside bh.suited bl.suited in
      let most = mul-le-mul_right w (laws.most h l bh.inside bl.inside) in
      let beaten : Beats k first t → Shown k w (closest k first (some t)) (min (min x z) y) =
      λ b. beaten_shown k w (suc r) P wide few first t (min x z) y first_candidate b first_shown (omega (arith, most)) in
      ⊎_elim
      (λ e.
      let d = eqb→eq l h e in
      let same = same_beats key step r laws P c bc h bh.inside (suits_common r P h (subst (λ u. T (suits r P u)) d bl.suited) bh.suited) in
      beaten (subst (λ u. Beats k first (join r h u)) (sym d) (closest_left k (joins r c c) (fitting r P) (join r h h) same)))
      (λ ne.
      ⊎_elim
      (λ e. beaten (closest_right k (joins r c c) (fitting r P) t (line_beats key step r laws P t (eqb→eq t (line r) e) fits)))
      (λ nl.
      let two = mul-le-mul_right w (laws.two h l bh.inside bl.inside (λ e. T_not (eqb l h) ne (eq_test e)) (λ e. T_not (eqb t (line r)) nl (eq_test e))) in
      closest_shown k w (suc r) P wide few first (some t) (min x z) y first_candidate (lt, fits) first_shown (omega (arith, most, two)))
      (decide (eqb t (line r))))
      (decide (eqb l h))

  -- the least of the three numbers shows the least table of one input more
  pub lesser_shows : Shown k w (least_of k (suc r) P) (min (min x z) y)
  lesser_shows =
      rw (least_halves key step r laws P)
      (both (least_of (key r) r (upper r P)) (least_of (key r) r P) (least_best (key r) r (upper r P)) (least_best (key r) r P) sy)
