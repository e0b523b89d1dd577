-- Places in the table of blocks: what two have in common, and the masks of three and of four inputs that several of them tell.
-- So the code finds what blocks have in common by one operation on two places.
use Prim.Native.Nat.{ℕ, ◌+◌, ◌*◌, ◌-◌, ◌/◌, ◌%◌, ◌^◌, ◌<◌, ◌≤◌, min}
use mathlib.Core.Path.{◌≡◌, refl, sym, ap, ap₂, ◌∙◌}
use mathlib.Core.Bool.{cond, ◌&&◌}
use mathlib.Core.List.{List}
use native.Mathlib.Omega.{arith}
use native.Mathlib.Nat.{mod-lt, mod-eq_of_lt}
use lib.Arith.{digits_div, digits_mod, mod-mul}
use lib.Bits.{bit_and, and_shr, and_mod, and_le_l, and_le_r}
use lib.Dec.{eqb, eqb→eq}
use lib.Pow.{shr-shr}
use lib.ListN.{get_or}
use Rattle.base.proofs.Tests.{and_intro, and_left, and_right, eq_test, test_ext}
use Rattle.table.specs.Cells as Cells
use Rattle.table.specs.Cells.{full}
use Rattle.table.specs.Pick.{least_of}
use Rattle.table.specs.Inner.Ranks.{masked, narrow_space, pick_key}
use Rattle.table.specs.Inner.Lines.{line, needs_of_three, needs_of_four, line_by}
use Rattle.table.specs.Inner.Blocks.{entries, three_space, no_table, no_entry, best_block, block_of, block_at, zeros_at, ones_at, Blocks, PickShown, HalvesShow}
use Rattle.table.specs.Inner.Pairs.{block_patterns, block_space, byte_bits, pair_bits, zeros_in, ones_in}
use Rattle.table.proofs.Pairs.{Place, from_block, from_byte, byte_place, first_place, zeros_lt, ones_lt}
use Rattle.table.proofs.Cells.{cells_lt}
use Rattle.table.proofs.BestBlocks.{entry_at}
use Rattle.table.proofs.Entries.{entry_some, two_blocks, three_shown, twice_shown, pair_shown, four_shown}

-- the entry at a place
pub block_at_lem : {e : List ℕ} → Blocks e → (at : ℕ) → at < entries → (get_or e at 0 ≡ block_at at) × (three_space ≤ get_or e at 0) × (get_or e at 0 ≤ no_entry)
unfolding best_block
block_at_lem {e} b at l =
    let h = entry_at (λ x. x) (pick_key 2) (λ t. omega (arith, cells_lt 2 t)) b at l in
    (h.0, omega (arith, h.0, entry_some (least_of (pick_key 2) 2 (masked (at / block_space) (at % block_space)))), omega (arith, h.0, h.1))

-- two places bit by bit together are the place of what both pairs of masks have
place_and : (a b z o y n : ℕ) → Place a z o → Place b y n → Place (bit_and a b) (bit_and z y) (bit_and o n)
place_and a b z o y n p q = (
  and_shr a b block_patterns ∙ ap₂ bit_and p.0 q.0 ∙ sym (and_mod z y block_patterns),
  and_mod a b block_patterns ∙ ap₂ bit_and p.1 q.1 ∙ sym (and_mod o n block_patterns),
)

-- at the same places the same is shown
places_same : {k l m n : ℕ} → k ≡ m → l ≡ n → (x : ℕ) → HalvesShow k l x → HalvesShow m n x
places_same e d x s = rw (← e, ← d) s

places_told : (zeros ones z o low high x : ℕ) → zeros % three_space ≡ z → ones % three_space ≡ o → Place low zeros ones
    → Place high (zeros / block_space) (ones / block_space) → HalvesShow low high x → PickShown 3 three_space z o x
places_told zeros ones z o low high x ez eo pl ph s =
    let dz : zeros_at low high ≡ z = omega arith in
    let dn : ones_at low high ≡ o = omega arith in
    rw (← dz, ← dn) s

-- a byte of two numbers bit by bit together
byte_and : (x y k : ℕ) → from_byte k (bit_and x y) % entries ≡ bit_and (from_byte k x % entries) (from_byte k y % entries)
byte_and x y k = ap (λ v. v % entries) (and_shr x y (byte_bits * k)) ∙ and_mod (from_byte k x) (from_byte k y) byte_bits

-- all patterns of a block, and the bits of a place that tell where it can be 0 and where it can be 1
abbrev full_block : ℕ
full_block = block_space - 1

abbrev zero_bits : ℕ
zero_bits = full_block * block_space

abbrev one_bits : ℕ
one_bits = full_block

-- a place has all zeros of its block, or all ones, exactly where it has each bit of that half
zeros_all : (b : ℕ) → b < entries → bit_and b zero_bits ≡ zero_bits → b / block_space ≡ full_block
zeros_all b l h = omega (arith, and_shr b zero_bits block_patterns, and_le_l (b / block_space) full_block)

all_zeros : (b : ℕ) → b / block_space ≡ full_block → bit_and b zero_bits ≡ zero_bits
all_zeros b h = omega (arith, and_shr b zero_bits block_patterns, ap (λ x. bit_and x full_block) h, and_le_r b zero_bits)

ones_all : (b : ℕ) → bit_and b one_bits ≡ one_bits → b % block_space ≡ full_block
ones_all b h = omega (arith, and_mod b one_bits block_patterns, and_le_l (b % block_space) full_block)

all_ones_lem : (b : ℕ) → b % block_space ≡ full_block → bit_and b one_bits ≡ one_bits
all_ones_lem b h = omega (arith, and_mod b one_bits block_patterns, ap (λ x. bit_and x full_block) h, and_le_r b one_bits)

-- what the line of three inputs needs, by the places of the halves
needs_three : (w : ℕ)
    → eqb (bit_and w needs_of_three) needs_of_three ≡ eqb (w % entries / block_space) (full_block) && eqb (w / entries % entries % block_space) (full_block)
needs_three w =
    let k = w % entries in
    let l = w / entries % entries in
    let x = bit_and w needs_of_three in
    let e0 : x % entries ≡ bit_and k zero_bits = and_mod w needs_of_three byte_bits in
    let e1 : x / entries % entries ≡ bit_and l one_bits = byte_and w needs_of_three 1 in
    test_ext (eqb x needs_of_three) (eqb (k / block_space) (full_block) && eqb (l % block_space) (full_block))
    (λ t.
    let h = eqb→eq x needs_of_three t in
    and_intro (eqb (k / block_space) (full_block)) (eqb (l % block_space) (full_block))
    (eq_test (zeros_all k (omega arith) (omega (arith, h, e0)))) (eq_test (ones_all l (omega (arith, h, e1)))))
    (λ t.
    let a = all_zeros k (eqb→eq (k / block_space) (full_block) (and_left (eqb (k / block_space) (full_block)) (eqb (l % block_space) (full_block)) t)) in
    let b = all_ones_lem l (eqb→eq (l % block_space) (full_block) (and_right (eqb (k / block_space) (full_block)) (eqb (l % block_space) (full_block)) t)) in
    let d : x ≡ needs_of_three = omega (arith, e0, e1, a, b, and_le_r w needs_of_three) in
    eq_test d)

-- three inputs: the blocks at two places, and at both together, and the line that these places admit
pub three_places : (w a b c : ℕ) → a ≡ block_at (w % entries) → b ≡ block_at (w / entries % entries) → c ≡ block_at (bit_and (w % entries) (w / entries % entries))
    → HalvesShow (w % entries) (w / entries % entries) (min (min c (line_by w needs_of_three (three_space + line 2) no_entry)) (two_blocks a b))
unfolding Cells.low Cells.high full
three_places w a b c ea eb ec =
    let low = w % entries in
    let high = w / entries % entries in
    let h : low / block_space < block_space = omega arith in
    let g : low % block_space < block_space = omega arith in
    let zl = digits_mod (high / block_space) h in
    let zh = digits_div (high / block_space) h in
    let ol = digits_mod (high % block_space) g in
    let oh = digits_div (high % block_space) g in
    three_shown (zeros_at low high) (ones_at low high) a b c (line_by w needs_of_three (three_space + line 2) no_entry) (omega arith)
    (ea ∙ ap₂ block_of (sym zl) (sym ol))
    (eb ∙ ap₂ block_of (sym zh) (sym oh))
    (ec ∙ ap₂ block_of (and_shr low high block_patterns ∙ sym (ap₂ bit_and zl zh)) (and_mod low high block_patterns ∙ sym (ap₂ bit_and ol oh)))
    (ap (λ t. cond t (three_space + line 2) no_entry) (needs_three w)
    ∙ ap₂ (λ x y. cond (eqb x (full_block) && eqb y (full_block)) (three_space + line 2) no_entry) (sym zl) (sym oh))

-- the lower half of a mask of four inputs and its upper half, bit by bit together, are what the halves have in common
common_low : (x : ℕ) → x < narrow_space → bit_and x (x / three_space) % three_space ≡ bit_and (x % three_space) (x / three_space)
common_low x l = and_mod x (x / three_space) (2 ^ 3) ∙ ap (bit_and (x % three_space)) (mod-eq_of_lt (omega arith))

-- a pair of three inputs tells its masks by its two bytes
pub pair_told : (w x : ℕ) → w < entries * entries → zeros_in w < three_space → ones_in w < three_space → HalvesShow (w % entries) (w / entries % entries) x
    → PickShown 3 three_space (zeros_in w) (ones_in w) x
pair_told w x l lz lo s =
    places_told (zeros_in w) (ones_in w) (zeros_in w) (ones_in w) (w % entries) (w / entries % entries) x (mod-eq_of_lt lz) (mod-eq_of_lt lo) (first_place w)
    (byte_place w 1 (omega arith)) s

-- what both halves of a pair have stands in the bytes of one number
halves_both : (w : ℕ) → w < 2 ^ pair_bits
    → (bit_and w (from_byte 2 w) % entries ≡ bit_and (w % entries) (from_byte 2 w % entries))
    × (bit_and w (from_byte 2 w) / entries % entries ≡ bit_and (from_byte 1 w % entries) (from_byte 3 w))
halves_both w l =
    let e : from_byte 1 (from_byte 2 w) % entries ≡ from_byte 3 w = omega arith in
    (and_mod w (from_byte 2 w) byte_bits, byte_and w (from_byte 2 w) 1 ∙ ap (bit_and (from_byte 1 w % entries)) e)

-- a mask of three inputs is full where its blocks are
blocks_full : (m : ℕ) → m % block_space ≡ full_block → m / block_space % block_space ≡ full_block → m % three_space ≡ three_space - 1
blocks_full m a b = omega (arith, mod-mul m {m = block_space} {c = block_space} (omega arith) (omega arith))

full_blocks : (m : ℕ) → m % three_space ≡ three_space - 1 → (m % block_space ≡ full_block) × (m / block_space % block_space ≡ full_block)
full_blocks m h = (omega arith, omega arith)

four_bytes : (x : ℕ) → x ≤ needs_of_four → x % entries ≡ zero_bits → from_byte 1 x % entries ≡ zero_bits → from_byte 2 x % entries ≡ one_bits → from_byte 3 x % entries ≡ one_bits
    → x ≡ needs_of_four
four_bytes x l a b c d = omega arith

-- what the line of four inputs needs, by the masks of the lower half and of the upper
needs_four : (w z o : ℕ) → w < 2 ^ pair_bits → Place (w % entries) z o → Place (from_byte 1 w % entries) (z / block_space) (o / block_space) → (z' o' : ℕ)
    → Place (from_byte 2 w % entries) z' o' → Place (from_byte 3 w) (z' / block_space) (o' / block_space) → o' < three_space
    → eqb (bit_and w needs_of_four) needs_of_four ≡ eqb (z % three_space) (three_space - 1) && eqb o' (three_space - 1)
needs_four w z o lw pk pl z' o' pm pn lo =
    let k = w % entries in
    let l = from_byte 1 w % entries in
    let m = from_byte 2 w % entries in
    let n = from_byte 3 w in
    let x = bit_and w needs_of_four in
    let nd : n % entries ≡ n = omega arith in
    let e0 : x % entries ≡ bit_and k zero_bits = and_mod w needs_of_four byte_bits in
    let e1 : from_byte 1 x % entries ≡ bit_and l zero_bits = byte_and w needs_of_four 1 in
    let e2 : from_byte 2 x % entries ≡ bit_and m one_bits = byte_and w needs_of_four 2 in
    let e3 : from_byte 3 x % entries ≡ bit_and n one_bits = byte_and w needs_of_four 3 ∙ ap (λ y. bit_and y one_bits) nd in
    let lower = eqb (z % three_space) (three_space - 1) in
    let upper = eqb o' (three_space - 1) in
    let small : o' % three_space ≡ o' = mod-eq_of_lt lo in
    test_ext (eqb x needs_of_four) (lower && upper)
    (λ t.
    let h = eqb→eq x needs_of_four t in
    let a = zeros_all k (mod-lt w (omega arith)) (sym e0 ∙ ap (λ y. y % entries) h) in
    let b = zeros_all l (mod-lt (from_byte 1 w) (omega arith)) (sym e1 ∙ ap (λ y. from_byte 1 y % entries) h) in
    let c = ones_all m (sym e2 ∙ ap (λ y. from_byte 2 y % entries) h) in
    let d = ones_all n (sym e3 ∙ ap (λ y. from_byte 3 y % entries) h) in
    and_intro lower upper (eq_test (blocks_full z (sym pk.0 ∙ a) (sym pl.0 ∙ b)))
    (eq_test (sym small ∙ blocks_full o' (sym pm.1 ∙ c) (sym pn.1 ∙ d))))
    (λ t.
    let dz = full_blocks z (eqb→eq (z % three_space) (three_space - 1) (and_left lower upper t)) in
    let dn = full_blocks o' (small ∙ eqb→eq o' (three_space - 1) (and_right lower upper t)) in
    eq_test (four_bytes x (and_le_r w needs_of_four) (e0 ∙ all_zeros k (pk.0 ∙ dz.0)) (e1 ∙ all_zeros l (pl.0 ∙ dz.1))
    (e2 ∙ all_ones_lem m (pm.1 ∙ dn.0)) (e3 ∙ all_ones_lem n (pn.1 ∙ dn.1))))

-- a pair of four inputs, which has four bytes: the places of its blocks, and of what the halves have in common
pub four_places : (w a b c : ℕ) → w < 2 ^ pair_bits → HalvesShow (w % entries) (from_byte 1 w % entries) a
    → HalvesShow (from_byte 2 w % entries) (from_byte 1 (from_byte 2 w) % entries) b
    → HalvesShow (bit_and w (from_byte 2 w) % entries) (from_byte 1 (bit_and w (from_byte 2 w)) % entries) c
    → PickShown 4 narrow_space (zeros_in w) (ones_in w) (min (min (twice_shown three_space c) (line_by w needs_of_four (narrow_space + line 3) (no_table * narrow_space))) (pair_shown three_space a b))
unfolding Cells.low Cells.high full
four_places w a b c h sa sb sc =
    let z = zeros_in w in
    let o = ones_in w in
    let z' = z / three_space in
    let o' = o / three_space in
    let k = w % entries in
    let l = from_byte 1 w % entries in
    let m = from_byte 2 w % entries in
    let n = from_byte 3 w in
    let pk : Place k z o = first_place w in
    let pl : Place l (z / block_space) (o / block_space) = byte_place w 1 (omega arith) in
    let pm : Place m z' o' = byte_place w 2 (omega arith) in
    let e : from_byte 3 w % entries ≡ n = omega arith in
    let q : Place n (from_block 3 z) (from_block 3 o) = rw (← e) (byte_place w 3 (omega arith)) in
    let pn : Place n (z' / block_space) (o' / block_space) = rw (shr-shr z (2 ^ 3) block_patterns, shr-shr o (2 ^ 3) block_patterns) q in
    let pc = place_and l n (z / block_space) (o / block_space) (z' / block_space) (o' / block_space) pl pn in
    let high : (x y : ℕ) → bit_and (x / block_space) (y / block_space) % block_space ≡ bit_and x y / block_space % block_space =
    λ x y. ap (λ v. v % block_space) (sym (and_shr x y block_patterns)) in
    let last : from_byte 1 (from_byte 2 w) % entries ≡ n = omega arith in
    let both = halves_both w h in
    let lo : o' < three_space = omega (arith, ones_lt w) in
    four_shown z o a b c (line_by w needs_of_four (narrow_space + line 3) (no_table * narrow_space)) (ones_lt w)
    (places_told z o (z % three_space) (o % three_space) k l a refl refl pk pl sa)
    (places_told z' o' z' o' m n b (mod-eq_of_lt (omega (arith, zeros_lt w))) (mod-eq_of_lt lo) pm pn (places_same refl last b sb))
    (places_told (bit_and z z') (bit_and o o') (bit_and (z % three_space) z') (bit_and (o % three_space) o') (bit_and k m) (bit_and l n) c
    (common_low z (zeros_lt w)) (common_low o (ones_lt w)) (place_and k m z o z' o' pk pm) (pc.0 ∙ high z z', pc.1 ∙ high o o')
    (places_same both.0 both.1 c sc))
    (ap (λ t. cond t (narrow_space + line 3) (no_table * narrow_space)) (needs_four w z o h pk pl z' o' pm pn lo))
