-- What `pick` returns at each number of inputs up to four, from the table of blocks: where the pair's blocks stand, and the rank.
use Prim.Native.Nat.{ℕ, ◌+◌, ◌*◌, ◌-◌, ◌^◌, ◌/◌, ◌%◌, ◌<◌, ◌≤◌}
use mathlib.Core.Path.{◌≡◌, ap, ap₂, subst, ◌∙◌}
use mathlib.Core.Option.{some}
use native.Mathlib.Omega.{arith}
use lib.Arith.{digits_div, digits_mod}
use Rattle.table.specs.Cells.{cells}
use Rattle.table.specs.Pick.{least_of}
use Rattle.table.specs.Inner.Ranks.{masked, pick_of, rank, narrow_space, pick_key}
use Rattle.table.specs.Inner.Pairs.{narrow_inputs, block_space, pair_bits, zeros_in, ones_in}
use Rattle.table.specs.Inner.Blocks.{one_space, three_space, entries, block_entry, best_block, block_of, block_at, Shown, PickShown, HalvesShow, Covered}
use Rattle.table.proofs.Count.{repeated}
use Rattle.table.proofs.Halving.{BestTable, least_best, least_more}
use Rattle.table.proofs.Halves.{join}
use Rattle.table.proofs.Cells.{cells_halves}
use Rattle.table.proofs.Masks.{pick_some}
use Rattle.table.proofs.Repeated.{least_repeated}
use Rattle.table.proofs.Entries.{digits}
use Rattle.table.proofs.Pairs.{one_byte, two_bytes}
use Rattle.table.proofs.Places.{pair_told}

-- what a pick asks of the table lent to it and of a pair, at n inputs
abbrev pub Asked : (Lent : Type 0) (n w : ℕ) → Type 0
Asked Lent n w =
    Lent × (1 ≤ n) × (n ≤ narrow_inputs) × (zeros_in w < 2 ^ (2 ^ n)) × (ones_in w < 2 ^ (2 ^ n)) × Covered n (zeros_in w) (ones_in w)

-- the pair's masks are of k inputs and cover every pattern
abbrev pub WidthFits : (k w : ℕ) → Type 0
WidthFits k w = (zeros_in w < 2 ^ (2 ^ k)) × (ones_in w < 2 ^ (2 ^ k)) × Covered k (zeros_in w) (ones_in w)

-- what is asked at n inputs says so at k, where n is k
pub fit : {Lent : Type 0} {n k : ℕ} (w : ℕ) → n ≡ k → Asked Lent n w → WidthFits k w
fit w e h = subst (λ m. WidthFits m w) e (h.3, h.4, h.5)

-- the rank of the pick between the pair's masks
abbrev rank_in : (n w : ℕ) → ℕ
rank_in n w = rank (cells n) (pick_of (cells n) n (zeros_in w) (ones_in w))

-- the rank at n inputs is that at k, where n is k
pub rank_at : {Lent : Type 0} {n k x : ℕ} (w : ℕ) → n ≡ k → Asked Lent n w → (WidthFits k w → x ≡ rank_in k w) → x ≡ rank_in n w
rank_at w e h f = rw e (f (fit w e h))

pub inside : (n zeros ones : ℕ) → Covered n zeros ones → pick_of (cells n) n zeros ones < 2 ^ (2 ^ n)
inside n zeros ones h = (subst (λ o. BestTable (cells n) n (masked zeros ones) o) (pick_some (cells n) n zeros ones h) (least_best (cells n) n (masked zeros ones))).inside

-- the least by the key that picks are found by is the pick
pub picked : (n zeros ones : ℕ) → Covered n zeros ones → least_of (pick_key n) n (masked zeros ones) ≡ some (pick_of (cells n) n zeros ones)
picked n zeros ones h = least_more 1 (cells n) n (masked zeros ones) ∙ pick_some (cells n) n zeros ones h

-- so a number that shows it has the pick for its table, and the pick's key
pub digits_told : (n zeros ones x : ℕ) → Covered n zeros ones → PickShown n (2 ^ (2 ^ n)) zeros ones x
    → (x % 2 ^ (2 ^ n) ≡ pick_of (cells n) n zeros ones) × (x / 2 ^ (2 ^ n) ≡ pick_key n (pick_of (cells n) n zeros ones))
digits_told n zeros ones x h s =
    let t = pick_of (cells n) n zeros ones in
    let k : x ≡ pick_key n t * 2 ^ (2 ^ n) + t = subst (λ o. Shown (pick_key n) (2 ^ (2 ^ n)) o x) (picked n zeros ones h) s in (
      ap (λ y. y % 2 ^ (2 ^ n)) k ∙ digits_mod (pick_key n t) (inside n zeros ones h),
      ap (λ y. y / 2 ^ (2 ^ n)) k ∙ digits_div (pick_key n t) (inside n zeros ones h),
    )

-- one input, looked up as two: each mask stands twice in its half of the place
pub one_place : (w : ℕ) → w < 2 ^ pair_bits → WidthFits 1 w → w * (one_space + 1) < entries
one_place w l f = omega (arith, one_byte w l (omega (arith, f.0)) (omega (arith, f.1)), f.0, f.1)

rank_one : (zeros ones x : ℕ) → zeros < one_space → ones < one_space → Covered 1 zeros ones → x ≡ block_of (zeros * (one_space + 1)) (ones * (one_space + 1))
    → (x / three_space - 1) * narrow_space + x % one_space ≡ rank (cells 1) (pick_of (cells 1) 1 zeros ones)
unfolding best_block block_entry rank join
rank_one zeros ones x lz lo h e =
    let t = pick_of (cells 1) 1 zeros ones in
    let u = t * one_space + t in
    let lt : t < one_space = inside 1 zeros ones h in
    let ez : zeros * (one_space + 1) ≡ zeros * one_space + zeros = omega arith in
    let eo : ones * (one_space + 1) ≡ ones * one_space + ones = omega arith in
    let k : x ≡ pick_key 2 u * three_space + u * (block_space + 1) =
    e ∙ ap₂ block_of ez eo
    ∙ ap (block_entry (pick_key 2))
    (least_more 1 (cells 2) 2 (masked (zeros * one_space + zeros) (ones * one_space + ones))
    ∙ least_repeated 1 zeros ones lz lo cells cells_halves t (pick_some (cells 1) 1 zeros ones h)) in
    let m : x ≡ pick_key 1 t * three_space + u * (block_space + 1) = k ∙ ap (λ y. (1 + y) * three_space + u * (block_space + 1)) (repeated 1 t lt) in
    let d = digits (pick_key 1 t) u x (omega arith) m in
    let f : x ≡ (pick_key 1 t * 64 + t * 21) * one_space + t = omega arith in
    omega (arith, d.0, ap (λ y. y % one_space) f ∙ digits_mod (pick_key 1 t * 64 + t * 21) lt)

pub one_input : (w x : ℕ) → w < 2 ^ pair_bits → x ≡ block_at (w * (one_space + 1)) → WidthFits 1 w
    → (x / three_space - 1) * narrow_space + x % one_space ≡ rank_in 1 w
one_input w x l e f =
    let b = one_byte w l (omega (arith, f.0)) (omega (arith, f.1)) in
    let z : w * (one_space + 1) / block_space ≡ zeros_in w * (one_space + 1) = omega (arith, b, f.0, f.1) in
    let o : w * (one_space + 1) % block_space ≡ ones_in w * (one_space + 1) = omega (arith, b, f.0, f.1) in
    rank_one (zeros_in w) (ones_in w) x f.0 f.1 f.2 (e ∙ ap₂ block_of z o)

-- two inputs: the pair is a place
pub two_place : (w : ℕ) → w < 2 ^ pair_bits → WidthFits 2 w → w < entries
two_place w l f = omega (arith, one_byte w l f.0 f.1, f.0, f.1)

pub two_inputs : (w x : ℕ) → w < 2 ^ pair_bits → x ≡ block_at w → WidthFits 2 w
    → (x / three_space - 1) * narrow_space + x % block_space ≡ rank_in 2 w
unfolding best_block block_entry rank
two_inputs w x l e f =
    let b = one_byte w l f.0 f.1 in
    let z : w / block_space ≡ zeros_in w = omega (arith, b, f.0, f.1) in
    let o : w % block_space ≡ ones_in w = omega (arith, b, f.0, f.1) in
    let t = pick_of (cells 2) 2 (zeros_in w) (ones_in w) in
    let k : x ≡ pick_key 2 t * three_space + t * (block_space + 1) = e ∙ ap₂ block_of z o ∙ ap (block_entry (pick_key 2)) (picked 2 (zeros_in w) (ones_in w) f.2) in
    let d = digits (pick_key 2 t) t x (inside 2 (zeros_in w) (ones_in w) f.2) k in
    omega (arith, d.0, d.1)

-- three inputs: the pair is two places
pub three_inputs : (w x : ℕ) → w < 2 ^ pair_bits → HalvesShow (w % entries) (w / entries % entries) x → WidthFits 3 w
    → (x / three_space - 1) * narrow_space + x % three_space ≡ rank_in 3 w
unfolding rank
three_inputs w x l s f =
    let d = digits_told 3 (zeros_in w) (ones_in w) x f.2 (pair_told w x (two_bytes w l f.0 f.1) f.0 f.1 s) in
    omega (arith, d.0, d.1)

-- four inputs: the number that shows the pick is its rank and a key more
pub four_inputs : (w x : ℕ) → PickShown 4 narrow_space (zeros_in w) (ones_in w) x → WidthFits 4 w → x - narrow_space ≡ rank_in 4 w
unfolding rank
four_inputs w x s f =
    let d = digits_told 4 (zeros_in w) (ones_in w) x f.2 s in
    omega (arith, d.0, d.1)
