-- The pick by halving, over the width and over the key: the least table repeats what suits both halves, has a selector over the least of each, or is its first
-- input.
use Prim.Native.Nat.{ℕ, zero, suc, ◌+◌, ◌^◌, ◌<◌, ◌≤◌}
use mathlib.Core.Path.{◌≡◌, refl, sym, ap, subst, ◌∙◌}
use mathlib.Core.Logic.{◌⊎◌, inl, inr, ⊎_elim}
use mathlib.Core.Bool.{cond}
use mathlib.Core.Option.{Option, none, some}
use native.Mathlib.Omega.{arith}
use native.Mathlib.Nat.{le_antisymm}
use lib.Dec.{T, T_not, eqb, eqb→eq}
use Rattle.base.proofs.Tests.{cond_has, decide, eq_test, test_yes}
use Rattle.table.specs.Bits.{bit}
use Rattle.table.specs.Cells.{low, high, wired_table, cells}
use Rattle.table.specs.Pick.{Proj, suits, least, least_of}
use Rattle.table.specs.Inner.Ranks.{pick_key}
use Rattle.table.specs.Inner.Lines.{line}
use Rattle.table.proofs.Below.{all_at, all_intro}
use Rattle.table.proofs.Bits.{bit_zero}
use Rattle.table.proofs.Halves.{low_lt, high_lt, join, join_low, join_high, join_lt, join_halves, join_le}
use Rattle.table.proofs.Wired.{line_lt, wired_line, not_wired_one, selector_most}
use Rattle.table.proofs.Cells.{cells_differ, cells_most, cells_halves, counted_twice}
use Rattle.table.proofs.Closer.{closer, closest, Lex, lex_refl, lex_trans, closer_left, closer_right, closer_one}
use Rattle.table.proofs.Least.{Least, least_is}
use Rattle.table.proofs.Suited.{upper, common, suits_low, suits_high, suits_common, common_suits, join_suits}

-- What a key must obey at the step from r inputs to r + 1, where `step` is what a selector adds: a half twice keeps the order of keys both ways; two halves cost
-- no more than a selector and both, and no less where they differ and are not the line of the first input.
pub record KeyHalves (key : ℕ → ℕ → ℕ) (step r : ℕ) : Type 0 where
  pub same : (s t : ℕ) → s < 2 ^ (2 ^ r) → t < 2 ^ (2 ^ r) → key r s ≤ key r t → key (suc r) (join r s s) ≤ key (suc r) (join r t t)
  pub back : (s t : ℕ) → s < 2 ^ (2 ^ r) → t < 2 ^ (2 ^ r) → key (suc r) (join r s s) ≤ key (suc r) (join r t t) → key r s ≤ key r t
  pub most : (h l : ℕ) → h < 2 ^ (2 ^ r) → l < 2 ^ (2 ^ r) → key (suc r) (join r h l) ≤ step + (key r l + key r h)
  pub two : (h l : ℕ) → h < 2 ^ (2 ^ r) → l < 2 ^ (2 ^ r) → (l ≡ h → ⊥) → (join r h l ≡ line r → ⊥) → step + (key r l + key r h) ≤ key (suc r) (join r h l)

-- the cells are such a key
pub cells_key : (r : ℕ) → KeyHalves cells 1 r
cells_key r =
    let twice = counted_twice cells cells_halves r in
    record {
      same = λ s t ls lt h. omega (arith, twice s ls, twice t lt);
      back = λ s t ls lt h. omega (arith, twice s ls, twice t lt);
      most = λ h l lh ll. let x = join r h l in omega (arith, cells_most r x, selector_most (wired_table r x), (parts h l lh ll).0, (parts h l lh ll).1);
      two = λ h l lh ll ne nl.
          let x = join r h l in
          let d : low r x ≡ high r x → ⊥ = λ e. ne (sym (join_low r h l lh ll) ∙ e ∙ join_high r h l lh ll) in
          let one = ⊎_elim (λ w. absurd (nl (wired_line r x w))) (not_wired_one (wired_table r x)) (decide (wired_table r x)) in
          omega (arith, cells_differ r x d, one, (parts h l lh ll).0, (parts h l lh ll).1);
    }
  where
    parts : (h l : ℕ) → h < 2 ^ (2 ^ r) → l < 2 ^ (2 ^ r)
        → (cells r (low r (join r h l)) ≡ cells r l) × (cells r (high r (join r h l)) ≡ cells r h)
    parts h l lh ll = (ap (cells r) (join_low r h l lh ll), ap (cells r) (join_high r h l lh ll))

-- With d more in every key it is such a key too, with d less for a selector. So the key that picks are found by has nothing for a selector.
more_key : (d : ℕ) (key : ℕ → ℕ → ℕ) (step r : ℕ) → KeyHalves key (d + step) r → KeyHalves (λ n t. d + key n t) step r
more_key d key step r laws =
    record {
      same = λ s t ls lt h. omega (arith, laws.same s t ls lt (omega arith));
      back = λ s t ls lt h. omega (arith, laws.back s t ls lt (omega arith));
      most = λ h l lh ll. omega (arith, laws.most h l lh ll);
      two = λ h l lh ll ne nl. omega (arith, laws.two h l lh ll ne nl);
    }

pub pick_key_lem : (r : ℕ) → KeyHalves pick_key 0 r
pick_key_lem r = more_key 1 cells 0 r (cells_key r)

-- the best table that suits a projection
pub record Best (key : ℕ → ℕ) (n : ℕ) (P : Proj) (t : ℕ) : Type 0 where
  pub inside : t < 2 ^ (2 ^ n)
  pub suited : T (suits n P t)
  pub first : (s : ℕ) → s < 2 ^ (2 ^ n) → T (suits n P s) → Lex key t s

abbrev pub BestTable : (ℕ → ℕ) → ℕ → Proj → Option ℕ → Type 0
BestTable key n P none = (s : ℕ) → s < 2 ^ (2 ^ n) → T (suits n P s) → ⊥
BestTable key n P (some t) = Best key n P t

-- the least table of all is the best
pub least_best : (key : ℕ → ℕ) (n : ℕ) (P : Proj) → BestTable key n P (least_of key n P)
unfolding least_of
least_best key n P = go (least key (suits n P) (2 ^ (2 ^ n))) (least_is key (suits n P) (2 ^ (2 ^ n)))
  where
    go : (o : Option ℕ) → Least key (suits n P) (2 ^ (2 ^ n)) o → BestTable key n P o
    go none h = h
    go (some t) h = record { inside = h.0; suited = h.1; first = λ s ls ss. record { fewer = h.2 s ls ss; smaller = h.3 s ls ss } }

-- there is one best only
pub best_only : (key : ℕ → ℕ) (n : ℕ) (P : Proj) (o q : Option ℕ) → BestTable key n P o → BestTable key n P q → o ≡ q
best_only key n P none none a b = refl
best_only key n P none (some t) a b = absurd (a t b.inside b.suited)
best_only key n P (some s) none a b = absurd (b s a.inside a.suited)
best_only key n P (some s) (some t) a b =
    let f = a.first t b.inside b.suited in
    let g = b.first s a.inside a.suited in
    ap {B = Option ℕ} some (le_antisymm (f.smaller g.fewer) (g.smaller f.fewer))

-- with d more in every key it is the same
pub least_more : (d : ℕ) (key : ℕ → ℕ) (n : ℕ) (P : Proj) → least_of (λ t. d + key t) n P ≡ least_of key n P
least_more d key n P =
    best_only (λ t. d + key t) n P (least_of (λ t. d + key t) n P) (least_of key n P) (least_best (λ t. d + key t) n P) (more (least_of key n P) (least_best key n P))
  where
    more : (o : Option ℕ) → BestTable key n P o → BestTable (λ t. d + key t) n P o
    more none b = b
    more (some t) b =
        record {
          inside = b.inside;
          suited = b.suited;
          first = λ s ls ss.
              let f = b.first s ls ss in
              record { fewer = omega (arith, f.fewer); smaller = λ g. f.smaller (omega arith) };
        }

-- a candidate suits, where there is one; and it beats a table, to which it is as good
abbrev pub Candidate : ℕ → Proj → Option ℕ → Type 0
Candidate n P none = Unit {0}
Candidate n P (some t) = (t < 2 ^ (2 ^ n)) × T (suits n P t)

abbrev pub Beats : (ℕ → ℕ) → Option ℕ → ℕ → Type 0
Beats key none s = ⊥
Beats key (some t) s = Lex key t s

module _ (key : ℕ → ℕ) where
  pub closest_left : (a b : Option ℕ) (s : ℕ) → Beats key a s → Beats key (closest key a b) s
  unfolding closest
  closest_left none b s h = absurd h
  closest_left (some t) none s h = h
  closest_left (some t) (some u) s h = lex_trans key (closer key t u) t s (closer_left key t u) h

  pub closest_right : (a b : Option ℕ) (s : ℕ) → Beats key b s → Beats key (closest key a b) s
  unfolding closest
  closest_right none b s h = h
  closest_right (some t) none s h = absurd h
  closest_right (some t) (some u) s h = lex_trans key (closer key t u) u s (closer_right key t u) h

  pub closest_candidate : (n : ℕ) (P : Proj) (a b : Option ℕ) → Candidate n P a → Candidate n P b → Candidate n P (closest key a b)
  unfolding closest
  closest_candidate n P none b x y = y
  closest_candidate n P (some t) none x y = x
  closest_candidate n P (some t) (some u) x y = ⊎_elim (λ e. rw e x) (λ e. rw e y) (closer_one key t u)

  best_of : (n : ℕ) (P : Proj) (o : Option ℕ) → Candidate n P o → ((s : ℕ) → s < 2 ^ (2 ^ n) → T (suits n P s) → Beats key o s) → BestTable key n P o
  best_of n P none x h = h
  best_of n P (some t) x h = record { inside = x.0; suited = x.1; first = h }

-- two halves as a table, where there are both
unfoldable pub joins : ℕ → Option ℕ → Option ℕ → Option ℕ
joins r none o = none
joins r (some h) none = none
joins r (some h) (some l) = some (join r h l)

-- the line of the first input, where it suits
unfoldable pub fitting : ℕ → Proj → Option ℕ
fitting r P = cond (suits (suc r) P (line r)) (some (line r)) none

module _ (key : ℕ → ℕ → ℕ) (step r : ℕ) (laws : KeyHalves key step r) (P : Proj) where
  -- the common half against a half twice
  pub same_beats : (c : Option ℕ) → BestTable (key r) r (common r P) c → (h : ℕ) → h < 2 ^ (2 ^ r) → T (suits r (common r P) h)
      → Beats (key (suc r)) (joins r c c) (join r h h)
  unfolding joins
  same_beats none b h lh sh = b h lh sh
  same_beats (some c) b h lh sh =
      let d = b.first h lh sh in
      record {
        fewer = laws.same c h b.inside lh d.fewer;
        smaller = λ g. let m = d.smaller (laws.back h c lh b.inside g) in join_le r c c h h m m;
      }

  -- two halves against halves that differ and are not the line: the sum of keys is no greater, and of equals the number
  apart_first : (h l h' l' : ℕ) → Best (key r) r (upper r P) h → Best (key r) r P l → h' < 2 ^ (2 ^ r) → l' < 2 ^ (2 ^ r) → T (suits r (upper r P) h')
      → T (suits r P l') → (key r l + key r h ≤ key r l' + key r h') × (key r l' + key r h' ≤ key r l + key r h → join r h l ≤ join r h' l')
  apart_first h l h' l' bh bl lh ll sh sl =
      let dh = bh.first h' lh sh in
      let dl = bl.first l' ll sl in (
        omega (arith, dl.fewer, dh.fewer),
        λ g. join_le r h l h' l' (dh.smaller (omega (arith, dl.fewer, dh.fewer))) (dl.smaller (omega (arith, dl.fewer, dh.fewer))),
      )

  apart_beats : (h l : Option ℕ) → BestTable (key r) r (upper r P) h → BestTable (key r) r P l → (h' l' : ℕ) → h' < 2 ^ (2 ^ r) → l' < 2 ^ (2 ^ r)
      → T (suits r (upper r P) h') → T (suits r P l') → (l' ≡ h' → ⊥) → (join r h' l' ≡ line r → ⊥) → Beats (key (suc r)) (joins r h l) (join r h' l')
  unfolding joins
  apart_beats none l bh bl h' l' lh ll sh sl ne nl = bh h' lh sh
  apart_beats (some h) none bh bl h' l' lh ll sh sl ne nl = bl l' ll sl
  apart_beats (some h) (some l) bh bl h' l' lh ll sh sl ne nl =
      let f = apart_first h l h' l' bh bl lh ll sh sl in
      let j = laws.most h l bh.inside bl.inside in
      let k = laws.two h' l' lh ll ne nl in
      record { fewer = omega (arith, f.0); smaller = λ g. f.1 (omega arith) }

  pub line_beats : (s : ℕ) → s ≡ line r → T (suits (suc r) P s) → Beats (key (suc r)) (fitting r P) s
  unfolding fitting
  line_beats s e ss = rw (e, test_yes (suits (suc r) P (line r)) (rw e at ss)) (lex_refl (key (suc r)) (line r))

  -- the candidates suit
  pair_candidate : (h l : Option ℕ) → BestTable (key r) r (upper r P) h → BestTable (key r) r P l → Candidate (suc r) P (joins r h l)
  unfolding joins
  pair_candidate none l bh bl = tt
  pair_candidate (some h) none bh bl = tt
  pair_candidate (some h) (some l) bh bl =
      (join_lt r h l bh.inside bl.inside, join_suits r P h l bh.inside bl.inside bh.suited bl.suited)

  pub same_candidate : (c : Option ℕ) → BestTable (key r) r (common r P) c → Candidate (suc r) P (joins r c c)
  unfolding joins
  same_candidate none b = tt
  same_candidate (some c) b =
      let s = common_suits r P c b.suited in
      (join_lt r c c b.inside b.inside, join_suits r P c c b.inside b.inside s.1 s.0)

  pub line_candidate : Candidate (suc r) P (fitting r P)
  unfolding fitting
  line_candidate = cond_has (Candidate (suc r) P) (suits (suc r) P (line r)) (λ s. (line_lt r, s)) (λ _. tt)

  -- every table that suits is of one of three kinds
  by_kinds : (Q : ℕ → Type 0)
      → ((h : ℕ) → h < 2 ^ (2 ^ r) → T (suits r (common r P) h) → Q (join r h h))
      → ((h l : ℕ) → h < 2 ^ (2 ^ r) → l < 2 ^ (2 ^ r) → T (suits r (upper r P) h) → T (suits r P l) → (l ≡ h → ⊥) → (join r h l ≡ line r → ⊥) → Q (join r h l))
      → ((s : ℕ) → s ≡ line r → T (suits (suc r) P s) → Q s)
      → (s : ℕ) → s < 2 ^ (2 ^ suc r) → T (suits (suc r) P s) → Q s
  by_kinds Q same apart straight s ls ss =
      let h = high r s in
      let l = low r s in
      let lh = high_lt r s ls in
      let ll = low_lt r s in
      let sh = suits_high r P s ss in
      let sl = suits_low r P s ss in
      let e = join_halves r s in
      ⊎_elim
      (λ t. let d = eqb→eq l h t in
      subst Q (sym (e ∙ ap (join r h) d)) (same h lh (suits_common r P h (subst (λ x. T (suits r P x)) d sl) sh)))
      (λ f.
      ⊎_elim (λ t. straight s (eqb→eq s (line r) t) ss)
      (λ g. subst Q (sym e) (apart h l lh ll sh sl (λ d. T_not (eqb l h) f (eq_test d)) (λ d. T_not (eqb s (line r)) g (eq_test (e ∙ d)))))
      (decide (eqb s (line r))))
      (decide (eqb l h))

  step_best : (c h l : Option ℕ) → BestTable (key r) r (common r P) c → BestTable (key r) r (upper r P) h → BestTable (key r) r P l
      → BestTable (key (suc r)) (suc r) P (closest (key (suc r)) (closest (key (suc r)) (joins r c c) (fitting r P)) (joins r h l))
  step_best c h l bc bh bl =
      let k = key (suc r) in
      let a = joins r c c in
      let b = joins r h l in
      let d = fitting r P in
      best_of k (suc r) P (closest k (closest k a d) b)
      (closest_candidate k (suc r) P (closest k a d) b (closest_candidate k (suc r) P a d (same_candidate c bc) line_candidate) (pair_candidate h l bh bl))
      (by_kinds (Beats k (closest k (closest k a d) b))
      (λ x lx sx. closest_left k (closest k a d) b (join r x x) (closest_left k a d (join r x x) (same_beats c bc x lx sx)))
      (λ x y lx ly sx sy ne nl. closest_right k (closest k a d) b (join r x y) (apart_beats h l bh bl x y lx ly sx sy ne nl))
      (λ s e ss. closest_left k (closest k a d) b s (closest_right k a d s (line_beats s e ss))))

  -- the least table of one input more, from three of its halves
  pub least_halves : least_of (key (suc r)) (suc r) P
      ≡ closest (key (suc r)) (closest (key (suc r)) (joins r (least_of (key r) r (common r P)) (least_of (key r) r (common r P))) (fitting r P))
      (joins r (least_of (key r) r (upper r P)) (least_of (key r) r P))
  least_halves =
      best_only (key (suc r)) (suc r) P (least_of (key (suc r)) (suc r) P)
      (closest (key (suc r)) (closest (key (suc r)) (joins r (least_of (key r) r (common r P)) (least_of (key r) r (common r P))) (fitting r P))
      (joins r (least_of (key r) r (upper r P)) (least_of (key r) r P)))
      (least_best (key (suc r)) (suc r) P)
      (step_best (least_of (key r) r (common r P)) (least_of (key r) r (upper r P)) (least_of (key r) r P) (least_best (key r) r (common r P))
      (least_best (key r) r (upper r P)) (least_best (key r) r P))

-- the table b of no input, where it suits
unfoldable pub single : Proj → ℕ → Option ℕ
single P b = cond (P 0 b) (some b) none

module _ (key : ℕ → ℕ) (P : Proj) where
  single_candidate : (b : ℕ) → b < 2 → Candidate 0 P (single P b)
  unfolding single suits
  single_candidate b l =
      cond_has (Candidate 0 P) (P 0 b)
      (λ t. (l, all_intro (2 ^ 0) (λ p. P p (bit b p)) (λ p lp. subst (λ q. T (P q (bit b q))) (omega arith) (subst (λ v. T (P 0 v)) (sym (bit_zero b l)) t))))
      (λ _. tt)

  single_beats : (b s : ℕ) → b < 2 → s ≡ b → T (suits 0 P s) → Beats key (single P b) s
  unfolding single suits
  single_beats b s l e ss =
      let t = subst (λ v. T (P 0 v)) (bit_zero b l) (all_at (2 ^ 0) (λ p. P p (bit b p)) (subst (λ u. T (suits 0 P u)) e ss) 0 (omega arith)) in
      rw (test_yes (P 0 b) t, e) (lex_refl key b)

  single_best : BestTable key 0 P (closest key (single P 0) (single P 1))
  single_best =
      let zero_one : (s : ℕ) → s < 2 → (s ≡ 0) ⊎ (s ≡ 1) = λ s l. ⊎_elim (λ e. inl (eqb→eq s 0 e)) (λ n. inr (other s l (λ e. T_not (eqb s 0) n (eq_test e)))) (decide (eqb s 0)) in
      best_of key 0 P (closest key (single P 0) (single P 1))
      (closest_candidate key 0 P (single P 0) (single P 1) (single_candidate 0 (omega arith)) (single_candidate 1 (omega arith)))
      (λ s ls ss.
      ⊎_elim (λ e. closest_left key (single P 0) (single P 1) s (single_beats 0 s (omega arith) e ss))
      (λ e. closest_right key (single P 0) (single P 1) s (single_beats 1 s (omega arith) e ss)) (zero_one s ls))
    where
      other : (s : ℕ) → s < 2 → (s ≡ 0 → ⊥) → s ≡ 1
      other s l n = omega arith

-- the pick by halving
unfoldable pub halved : (ℕ → ℕ → ℕ) → ℕ → Proj → Option ℕ
halved key zero P = closest (key zero) (single P 0) (single P 1)
halved key (suc r) P =
    let c = halved key r (common r P) in
    closest (key (suc r)) (closest (key (suc r)) (joins r c c) (fitting r P)) (joins r (halved key r (upper r P)) (halved key r P))

-- it is the least over all tables, smallest number included, for every width
pub halved_least : (key : ℕ → ℕ → ℕ) (step n : ℕ) → ((r : ℕ) → r < n → KeyHalves key step r) → (P : Proj) → halved key n P ≡ least_of (key n) n P
unfolding halved
halved_least key step zero laws P =
    best_only (key zero) 0 P (closest (key zero) (single P 0) (single P 1)) (least_of (key zero) 0 P) (single_best (key zero) P) (least_best (key zero) 0 P)
halved_least key step (suc r) laws P =
    let on : (Q : Proj) → halved key r Q ≡ least_of (key r) r Q = halved_least key step r (λ q l. laws q (omega arith)) in
    rw (on (common r P), on (upper r P), on P) (sym (least_halves key step r (laws r (omega arith)) P))

pub cells_halved : (n : ℕ) (P : Proj) → halved cells n P ≡ least_of (cells n) n P
cells_halved n = halved_least cells 1 n (λ r _. cells_key r)
