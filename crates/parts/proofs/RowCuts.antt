-- A row cut for all wires at once: what is lost of each wire stands in its own lane, and no lane borrows from the next.
use Prim.Native.Nat.{ℕ, ◌+◌, ◌*◌, ◌-◌, ◌%◌, ◌^◌, ◌<◌, ◌≤◌}
use mathlib.Core.Path.{◌≡◌, ap, ap₂, ◌∙◌}
use mathlib.Core.Bool.{not}
use native.Mathlib.Omega.{arith}
use native.Mathlib.Nat.{mod-eq_of_lt, lt_of_le_of_lt}
use lib.Bits.{bit_and, and_le_l}
use Rattle.sheet.specs.Limits.{max_wires}
use Rattle.table.specs.Bits.{sum, is_one}
use Rattle.table.specs.Inner.Pairs.{upper_half, seat}
use Rattle.table.proofs.BitColumns.{is_one_lt_two}
use Rattle.relation.specs.Tests.{occurs}
use Rattle.relation.specs.Inner.Members.{member}
use Rattle.lanes.specs.Inner.Lanes.{lane_space, lanes_space, lane_of, lanes_of}
use Rattle.lanes.proofs.Lanes.{lanes_lt, lane_lanes, lanes_back, lanes_cong, lane_and}
use Rattle.parts.specs.Inner.Pairs.{both_sides, lost_of}
use Rattle.parts.specs.Inner.Masks.{row_patterns, cut_row}
use Rattle.parts.proofs.MaskRows.{lost_le, lost_half}

-- what is lost of all wires, from what is lost on either side
abbrev without : (w b j : ℕ) → ℕ
without w b j = is_one (not (occurs max_wires (member w) j b))

pub lost_made : (w : ℕ) {x y : ℕ} → x ≡ lanes_of (without w 1) → y ≡ lanes_of (without w 0) → (x + upper_half * y ≡ lanes_of (lost_of w)) × (x + upper_half * y ≤ lanes_of (λ _. both_sides))
unfolding lanes_of sum lost_of
lost_made w ex ey =
    let few : (b j : ℕ) → without w b j < 2 = λ b j. is_one_lt_two (not (occurs max_wires (member w) j b)) in
    (omega (arith, ex, ey), omega (arith, ex, ey, few 1 0, few 1 1, few 1 2, few 1 3, few 0 0, few 0 1, few 0 2, few 0 3))

-- every lane times the same number
lanes_times : (f : ℕ → ℕ) (k : ℕ) → lanes_of f * k ≡ lanes_of (λ j. f j * k)
unfolding lanes_of sum
lanes_times f k = times (f 0) (f 1) (f 2) (f 3) k
  where
    times : (a b c d k : ℕ) → (0 + a * 1 + b * lane_space + c * lane_space ^ 2 + d * lane_space ^ 3) * k ≡ 0 + a * k * 1 + b * k * lane_space + c * k * lane_space ^ 2 + d * k * lane_space ^ 3
    times a b c d k = omega arith

-- lanes taken off, each from one that is no less
lanes_less : (x y : ℕ) → x < lanes_space → y < lanes_space → ((j : ℕ) → lane_of y j ≤ lane_of x j) → x - y ≡ lanes_of (λ j. lane_of x j - lane_of y j)
unfolding lanes_of sum
lanes_less x y lx ly le = omega (arith, lanes_back x lx, lanes_back y ly, le 0, le 1, le 2, le 3)

-- so the code cuts a row
pub row_less : (row p w : ℕ) → row < lanes_space → {lost s : ℕ} → lost ≡ lanes_of (lost_of w) → s ≡ seat (p % row_patterns)
    → row - bit_and row (lost * 2 ^ s % lanes_space) ≡ cut_row row p w
unfolding cut_row
row_less row p w lr {lost} {s} el es =
    let r = p % row_patterns in
    let f : ℕ → ℕ = λ j. lost_of w j * 2 ^ seat r in
    let small : (j : ℕ) → j < max_wires → f j < lane_space = λ j _. lost_half (lost_of w j) r (lost_le w j) (omega arith) in
    let em : lost * 2 ^ s % lanes_space ≡ lanes_of f =
    ap₂ (λ x i. x * 2 ^ i % lanes_space) el es ∙ ap (λ x. x % lanes_space) (lanes_times (lost_of w) (2 ^ seat r)) ∙ mod-eq_of_lt (lanes_lt f small) in
    let y = bit_and row (lanes_of f) in
    let lane : (j : ℕ) → lane_of y j ≤ lane_of row j = λ j. rw (lane_and row (lanes_of f) j) (and_le_l (lane_of row j) (lane_of (lanes_of f) j)) in
    ap (λ m. row - bit_and row m) em ∙ lanes_less row y lr (lt_of_le_of_lt (and_le_l row (lanes_of f)) lr) lane
    ∙ lanes_cong (λ j. lane_of row j - lane_of y j) (λ j. lane_of row j - bit_and (lane_of row j) (f j))
    (λ j l. ap (λ z. lane_of row j - z) (lane_and row (lanes_of f) j ∙ ap (bit_and (lane_of row j)) (lane_lanes f small j l)))
