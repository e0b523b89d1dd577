-- A pick of one input more, from numbers that show picks: three inputs from the entries of two blocks, and every further width from three numbers of the width
-- below (`step_shown`).
use Prim.Native.Nat.{ℕ, suc, ◌+◌, ◌*◌, ◌^◌, ◌/◌, ◌%◌, ◌<◌, ◌≤◌, min}
use mathlib.Core.Path.{◌≡◌, sym, ap, ap₂, subst, ◌∙◌}
use mathlib.Core.Logic.{⊎_elim}
use mathlib.Core.Bool.{Bool, true, false, cond, ◌&&◌}
use mathlib.Core.Option.{Option, none, some}
use native.Mathlib.Omega.{arith}
use native.Mathlib.Nat.{le_refl, mul-le-mul_right, mul_assoc, add-mul, le-div_iff_mul-le, two-pow-succ, zero-add, eq-or-lt_of_le, mod-lt, mul-mod_left}
use lib.Arith.{digits_div, digits_mod}
use lib.Bits.{bit_and}
use lib.Dec.{eqb}
use lib.Pow.{pow_pos, pow_mono, pow-add}
use Rattle.base.proofs.Tests.{cond_has₂}
use Rattle.sheet.specs.Limits.{max_inputs}
use Rattle.table.specs.Cells.{low, high, full, cells}
use Rattle.table.specs.Pick.{Proj, least_of}
use Rattle.table.specs.Inner.Ranks.{masked, narrow_space, pick_key}
use Rattle.table.specs.Inner.Pairs.{block_space}
use Rattle.table.specs.Inner.Blocks.{three_space, no_table, block_entry, best_block, block_of, Shown, PickShown}
use Rattle.table.specs.Inner.Lines.{line}
use Rattle.table.proofs.Halves.{join}
use Rattle.table.proofs.Wired.{line_wired}
use Rattle.table.proofs.Cells.{cells_lt, cells_halves, counted_twice, wired_cells}
use Rattle.table.proofs.Suited.{upper, common}
use Rattle.table.proofs.Halving.{BestTable, joins, fitting, least_best, pick_key_lem}
use Rattle.table.proofs.Ranks.{ShownPair, lesser_shows}
use Rattle.table.proofs.Masks.{least_low, least_high, least_common, line_suits}

-- the digits of an entry
pub digits : (k t x : ℕ) → t < block_space → x ≡ k * three_space + t * (block_space + 1)
    → (x / three_space ≡ k) × (x % block_space ≡ t) × (x / block_space ≡ k * block_space + t)
digits k t x l e =
    let s : t * (block_space + 1) < three_space = omega arith in
    let d : x ≡ (k * block_space + t) * block_space + t = omega arith in (
      ap (λ y. y / three_space) e ∙ digits_div k s,
      ap (λ y. y % block_space) d ∙ digits_mod (k * block_space + t) l,
      ap (λ y. y / block_space) d ∙ digits_div (k * block_space + t) l,
    )

-- no number that shows a table, and no entry, is less than the least key has
pub shown_some : (n w : ℕ) (o : Option ℕ) (x : ℕ) → Shown (pick_key n) w o x → w ≤ x
shown_some n w none x s = omega arith
shown_some n w (some t) x s = let k : 1 ≤ pick_key n t = omega arith in omega (arith, mul-le-mul_right w k)

pub entry_some : (o : Option ℕ) → three_space ≤ block_entry (pick_key 2) o
unfolding block_entry
entry_some none = omega arith
entry_some (some t) = omega arith

-- two blocks under a selector, from their entries: the keys of both, and the tables side by side
abbrev pub two_blocks : (a b : ℕ) → ℕ
two_blocks a b = a / three_space * three_space + a % block_space + b / block_space * block_space

-- the line of r + 1 inputs, with no cells, where the masks admit it; else what stands for no table
abbrev pub LineShown : (r w zeros ones z : ℕ) → Type 0
LineShown r w zeros ones z = z ≡ cond (eqb (low r zeros) (full r) && eqb (high r ones) (full r)) (w + line r) (no_table * w)

line_shown : (r w zeros ones z : ℕ) → ones < 2 ^ (2 ^ suc r) → LineShown r w zeros ones z → Shown (pick_key (suc r)) w (fitting r (masked zeros ones)) z
unfolding fitting
line_shown r w zeros ones z lo e =
    rw (line_suits r zeros ones lo, e)
    (cond_has₂ (λ o x. Shown (pick_key (suc r)) w o x) (eqb (low r zeros) (full r) && eqb (high r ones) (full r))
    (λ _. omega (arith, ap (λ c. (1 + c) * w) (wired_cells r (line r) (line_wired r)))) (λ _. le_refl (no_table * w)))

-- a line that is no more than two halves stands for both: the least of three is then the least of two
pub line_choice : (fits : Bool) (table most c two : ℕ) → c ≤ most → table ≤ two → min c (cond fits table two) ≡ min (min c (cond fits table most)) two
line_choice true table most c two a b = omega arith
line_choice false table most c two a b = omega arith

-- one block twice, and two blocks under a selector
twice : (P : Proj) (o : Option ℕ) (c : ℕ) → BestTable (pick_key 2) 2 P o → c ≡ block_entry (pick_key 2) o → Shown (pick_key 3) three_space (joins 2 o o) c
unfolding block_entry joins join
twice P none c b e = omega arith
twice P (some t) c b e = omega (arith, ap (λ x. x * three_space) (counted_twice cells cells_halves 2 t b.inside))

pair : (P Q : Proj) (h l : Option ℕ) (a b : ℕ) → BestTable (pick_key 2) 2 Q h → BestTable (pick_key 2) 2 P l → a ≡ block_entry (pick_key 2) l
    → b ≡ block_entry (pick_key 2) h → ShownPair (pick_key 2) 0 2 three_space h l (two_blocks a b)
unfolding block_entry join
pair P Q none none a b bh bl ea eb = omega arith
pair P Q none (some l) a b bh bl ea eb = omega arith
pair P Q (some h) none a b bh bl ea eb = omega arith
pair P Q (some h) (some l) a b bh bl ea eb =
    let da = digits (pick_key 2 l) l a bl.inside ea in
    let db = digits (pick_key 2 h) h b bh.inside eb in
    rw (da.0, da.1, db.2) (omega arith)

-- three inputs
pub three_shown : (zeros ones a b c z : ℕ) → ones < three_space → a ≡ block_of (zeros % block_space) (ones % block_space)
    → b ≡ block_of (zeros / block_space) (ones / block_space)
    → c ≡ block_of (bit_and (zeros % block_space) (zeros / block_space)) (bit_and (ones % block_space) (ones / block_space))
    → LineShown 2 three_space zeros ones z → PickShown 3 three_space zeros ones (min (min c z) (two_blocks a b))
unfolding best_block low high
three_shown zeros ones a b c z lo ea eb ec ez =
    let P = masked zeros ones in
    let k = pick_key 2 in
    lesser_shows pick_key 0 2 (pick_key_lem 2) P three_space (omega arith) (λ t _. omega (arith, cells_lt 3 t)) c z (two_blocks a b)
    (twice (common 2 P) (least_of k 2 (common 2 P)) c (least_best k 2 (common 2 P)) (ec ∙ ap (block_entry k) (least_common 2 zeros ones k)))
    (line_shown 2 three_space zeros ones z lo ez)
    (pair P (upper 2 P) (least_of k 2 (upper 2 P)) (least_of k 2 P) a b (least_best k 2 (upper 2 P)) (least_best k 2 P)
    (ea ∙ ap (block_entry k) (least_low 2 zeros ones k)) (eb ∙ ap (block_entry k) (least_high 2 zeros ones k)))

-- One input more, from three numbers that show the least tables of r inputs: one of them twice, and two under a selector. w is above the tables of r inputs, and
-- w times w above those of one input more.
abbrev pub twice_shown : (w c : ℕ) → ℕ
twice_shown w c = c * w + c % w

abbrev pub pair_shown : (w a b : ℕ) → ℕ
pair_shown w a b = a / w * (w * w) + a % w + b * w

-- a half twice has no more than none has, where the half has not
pub twice_most : (w k c : ℕ) → 0 < w → c ≤ k * w → twice_shown w c ≤ k * (w * w)
twice_most w k c pos h =
    ⊎_elim (λ e. whole e) (λ l. omega (arith, mul-le-mul_right w l, add-mul c 1 w, mod-lt c pos, mul_assoc k w w)) (eq-or-lt_of_le h)
  where
    whole : c ≡ k * w → twice_shown w c ≤ k * (w * w)
    whole e = let m : c % w ≡ 0 = ap (λ x. x % w) e ∙ mul-mod_left k w in omega (arith, ap (λ x. x * w) e, mul_assoc k w w)

-- the tables of r inputs are the numbers below this
abbrev pub space : ℕ → ℕ
space r = 2 ^ (2 ^ r)

pub space_more : (r : ℕ) → space (suc r) ≡ space r * space r
space_more r = rw (two-pow-succ r) (pow-add 2 (2 ^ r) (2 ^ r))

-- no table of up to six inputs has a key of as much as none
few_keys : (n t : ℕ) → n ≤ max_inputs → pick_key n t < no_table
few_keys n t h = omega (arith, cells_lt n t, pow_mono {i = n} {j = max_inputs} h)

module _ (r : ℕ) where
  abbrev w : ℕ
  w = space r

  abbrev v : ℕ
  v = w * w

  none_up : (x : ℕ) → no_table * w ≤ x → no_table * v ≤ x * w
  none_up x h = omega (arith, mul-le-mul_right w h, mul_assoc no_table w w)

  none_quotient : (x : ℕ) → no_table * w ≤ x → no_table * v ≤ x / w * v
  none_quotient x h = mul-le-mul_right v ((le-div_iff_mul-le {x = no_table} (pow_pos (2 ^ r))).1 h)

  twice_shown_lem : (P : Proj) (o : Option ℕ) (c : ℕ) → BestTable (pick_key r) r P o → Shown (pick_key r) w o c
      → Shown (pick_key (suc r)) v (joins r o o) (twice_shown w c)
  unfolding joins join
  twice_shown_lem P none c b s = omega (arith, none_up c s)
  twice_shown_lem P (some t) c b s =
      let m : c % w ≡ t = ap (λ x. x % w) s ∙ digits_mod (pick_key r t) b.inside in
      let k : pick_key (suc r) (t * w + t) ≡ pick_key r t = ap (λ x. 1 + x) (counted_twice cells cells_halves r t b.inside) in
      let e : c * w ≡ pick_key r t * v + t * w = ap (λ x. x * w) s ∙ spread (pick_key r t) t in
      ap₂ ◌+◌ e m ∙ regroup (pick_key r t * v) (t * w) t ∙ ap (λ x. x * v + (t * w + t)) (sym k)
    where
      spread : (k t : ℕ) → (k * w + t) * w ≡ k * v + t * w
      spread k t = add-mul (k * w) t w ∙ ap (λ x. x + t * w) (mul_assoc k w w)

      regroup : (a b c : ℕ) → a + b + c ≡ a + (b + c)
      regroup a b c = omega arith

  pair_shown_lem : (P Q : Proj) (h l : Option ℕ) (a b : ℕ) → BestTable (pick_key r) r Q h → BestTable (pick_key r) r P l → Shown (pick_key r) w l a
      → Shown (pick_key r) w h b → ShownPair (pick_key r) 0 r v h l (pair_shown w a b)
  unfolding join
  pair_shown_lem P Q none l a b bh bl sa sb = omega (arith, none_up b sb)
  pair_shown_lem P Q (some h) none a b bh bl sa sb = omega (arith, none_quotient a sa)
  pair_shown_lem P Q (some h) (some l) a b bh bl sa sb =
      let da : a / w ≡ pick_key r l = ap (λ x. x / w) sa ∙ digits_div (pick_key r l) bl.inside in
      let ma : a % w ≡ l = ap (λ x. x % w) sa ∙ digits_mod (pick_key r l) bl.inside in
      let eb : b * w ≡ pick_key r h * v + h * w = ap (λ x. x * w) sb ∙ add-mul (pick_key r h * w) h w ∙ ap (λ x. x + h * w) (mul_assoc (pick_key r h) w w) in
      ap₂ ◌+◌ (ap₂ (λ x y. x * v + y) da ma) eb ∙ regroup (pick_key r l * v) l (pick_key r h * v) (h * w) ∙ ap (λ x. x + (h * w + l)) (sym (add-mul (pick_key r l) (pick_key r h) v) ∙ ap (λ x. x * v) (sym (zero-add (pick_key r l + pick_key r h))))
    where
      regroup : (a b c d : ℕ) → a + b + (c + d) ≡ a + c + (d + b)
      regroup a b c d = omega arith

  pub step_shown : suc r ≤ max_inputs → (zeros ones a b c z : ℕ) → ones < space (suc r) → PickShown r w (low r zeros) (low r ones) a
      → PickShown r w (high r zeros) (high r ones) b
      → PickShown r w (bit_and (low r zeros) (high r zeros)) (bit_and (low r ones) (high r ones)) c
      → LineShown r v zeros ones z → PickShown (suc r) v zeros ones (min (min (twice_shown w c) z) (pair_shown w a b))
  step_shown six zeros ones a b c z lo sa sb sc ez =
      let P = masked zeros ones in
      let k = pick_key r in
      lesser_shows pick_key 0 r (pick_key_lem r) P v (rw (space_more r) (le_refl v)) (λ t _. few_keys (suc r) t six) (twice_shown w c) z (pair_shown w a b)
      (twice_shown_lem (common r P) (least_of k r (common r P)) c (least_best k r (common r P)) (shown c (least_common r zeros ones k) sc))
      (line_shown r v zeros ones z lo ez)
      (pair_shown_lem P (upper r P) (least_of k r (upper r P)) (least_of k r P) a b (least_best k r (upper r P)) (least_best k r P)
      (shown a (least_low r zeros ones k) sa) (shown b (least_high r zeros ones k) sb))
    where
      shown : {o q : Option ℕ} (x : ℕ) → o ≡ q → Shown (pick_key r) w o x → Shown (pick_key r) w q x
      shown x e s = subst (λ o. Shown (pick_key r) w o x) e s

-- four inputs, with their numbers
pub four_shown : (zeros ones a b c z : ℕ) → ones < narrow_space → PickShown 3 three_space (zeros % three_space) (ones % three_space) a
    → PickShown 3 three_space (zeros / three_space) (ones / three_space) b
    → PickShown 3 three_space (bit_and (zeros % three_space) (zeros / three_space)) (bit_and (ones % three_space) (ones / three_space)) c
    → LineShown 3 narrow_space zeros ones z → PickShown 4 narrow_space zeros ones (min (min (twice_shown three_space c) z) (pair_shown three_space a b))
unfolding low high
four_shown zeros ones a b c z lo sa sb sc ez = step_shown 3 (omega arith) zeros ones a b c z lo sa sb sc ez
