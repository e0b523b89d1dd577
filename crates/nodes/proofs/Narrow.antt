-- The pick among tables of fewer than four inputs: a pair repeated up to four inputs has the pick repeated.
use Prim.Native.Nat.{ℕ, suc, ◌+◌, ◌*◌, ◌^◌, ◌/◌, ◌%◌, ◌<◌}
use mathlib.Core.Path.{◌≡◌, refl, sym, ap, ap₂, subst, ◌∙◌}
use native.Mathlib.Omega.{arith}
use native.Mathlib.Nat.{mod-eq_of_lt, mul_assoc, mul-add}
use lib.Arith.{digits_div, digits_mod}
use lib.Pow.{shr-shr, split}
use Rattle.table.specs.Inner.Blocks.{entries, Covered}
use Rattle.table.specs.Inner.Pairs.{block_space, pair_bits, zeros_in, ones_in}
use Rattle.table.specs.Inner.Ranks.{pick_of, rank, narrow_space}
use Rattle.table.proofs.Halves.{join, join_lt}
use Rattle.table.proofs.Cells.{counted_twice}
use Rattle.table.proofs.Masks.{pick_of_least}
use Rattle.table.proofs.Pairs.{byte_place, first_place, zeros_lt, ones_lt, one_byte, two_bytes}
use Rattle.table.proofs.Repeated.{covered_twice, pick_twice}
use Rattle.table.proofs.Widths.{WidthFits}
use Rattle.nodes.specs.Nodes.{nodes}
use Rattle.nodes.proofs.Halved.{nodes_halves}

-- a mask by its blocks
blocks : (z a b c d : ℕ) → z < narrow_space → z % 16 ≡ a → z / 16 % 16 ≡ b → z / 256 % 16 ≡ c → z / 4096 % 16 ≡ d
    → z ≡ a + b * 16 + c * 256 + d * 4096
blocks z a b c d l ea eb ec ed =
    let g : z / 4096 < 16 = omega arith in
    omega (arith, shr-shr z 4 4, shr-shr z 8 4, split z 4, split (z / 16) 4, split (z / 256) 4, mod-eq_of_lt g)

-- the masks of a pair by its bytes
bytes : (a b c d v : ℕ) → a < entries → b < entries → c < entries → d < entries → v ≡ ((d * entries + c) * entries + b) * entries + a
    → (zeros_in v ≡ a / 16 + b / 16 * 16 + c / 16 * 256 + d / 16 * 4096) × (ones_in v ≡ a % 16 + b % 16 * 16 + c % 16 * 256 + d % 16 * 4096)
bytes a b c d v la lb lc ld e =
    let y = d * entries + c in
    let x = y * entries + b in
    let p : v / entries ≡ x = ap (λ z. z / entries) e ∙ digits_div x la in
    let q : v / 65536 ≡ y = sym (shr-shr v 8 8) ∙ ap (λ z. z / entries) p ∙ digits_div y lb in
    let r : v / 16777216 ≡ d = sym (shr-shr v 16 8) ∙ ap (λ z. z / entries) q ∙ digits_div d lc in
    let ea : v % entries ≡ a = ap (λ z. z % entries) e ∙ digits_mod x la in
    let eb : v / entries % entries ≡ b = ap (λ z. z % entries) p ∙ digits_mod y lb in
    let ec : v / 65536 % entries ≡ c = ap (λ z. z % entries) q ∙ digits_mod d lc in
    let ed : v / 16777216 % entries ≡ d = ap (λ z. z % entries) r ∙ mod-eq_of_lt ld in
    let f = first_place v in
    let g = byte_place v 1 (omega arith) in
    let h = byte_place v 2 (omega arith) in
    let k = byte_place v 3 (omega arith) in
    let upper : ℕ → ℕ = λ x. x / block_space in
    let lower : ℕ → ℕ = λ x. x % block_space in (
      blocks (zeros_in v) (upper a) (upper b) (upper c) (upper d) (zeros_lt v) (sym f.0 ∙ ap upper ea) (sym g.0 ∙ ap upper eb)
          (sym h.0 ∙ ap upper ec) (sym k.0 ∙ ap upper ed),
      blocks (ones_in v) (lower a) (lower b) (lower c) (lower d) (ones_lt v) (sym f.1 ∙ ap lower ea) (sym g.1 ∙ ap lower eb)
          (sym h.1 ∙ ap lower ec) (sym k.1 ∙ ap lower ed),
    )

-- the pair v has the masks of the pair w of r inputs, each twice
abbrev Twice : (r v w : ℕ) → Type 0
Twice r v w = (zeros_in v ≡ join r (zeros_in w) (zeros_in w)) × (ones_in v ≡ join r (ones_in w) (ones_in w))

three_twice : (w : ℕ) → w < entries * entries → Twice 3 (w * 65537) w
unfolding join
three_twice w l =
    let a = w % entries in
    let b = w / entries in
    let m = bytes a b 0 0 w (omega arith) (omega arith) (omega arith) (omega arith) (omega arith) in
    let n = bytes a b a b (w * 65537) (omega arith) (omega arith) (omega arith) (omega arith) (omega arith) in
    (omega (arith, m.0, n.0), omega (arith, m.1, n.1))

two_twice : (w : ℕ) → w < entries → Twice 2 (w * 257) w
unfolding join
two_twice w l =
    let m = bytes w 0 0 0 w l (omega arith) (omega arith) (omega arith) (omega arith) in
    let n = bytes w w 0 0 (w * 257) l l (omega arith) (omega arith) (omega arith) in
    (omega (arith, m.0, n.0), omega (arith, m.1, n.1))

one_twice : (w : ℕ) → w / block_space < 4 → w % block_space < 4 → Twice 1 (w * 5) w
unfolding join
one_twice w l h =
    let m = bytes w 0 0 0 w (omega arith) (omega arith) (omega arith) (omega arith) (omega arith) in
    let n = bytes (w * 5) 0 0 0 (w * 5) (omega arith) (omega arith) (omega arith) (omega arith) (omega arith) in
    (omega (arith, m.0, n.0), omega (arith, m.1, n.1))

-- the pick of a pair
abbrev pub pick : (r w : ℕ) → ℕ
pick r w = pick_of (nodes r) r (zeros_in w) (ones_in w)

pick_lt : (r w : ℕ) → WidthFits r w → pick r w < 2 ^ (2 ^ r)
pick_lt r w f = (pick_of_least (nodes r) r (zeros_in w) (ones_in w) f.2).0

-- v has the pick of w times k, with as many nodes
record Repeats (r v s w k : ℕ) : Type 0 where
  fit : WidthFits r v
  picks : pick r v ≡ pick s w * k
  counts : nodes r (pick r v) ≡ nodes s (pick s w)

once : (r w : ℕ) → WidthFits r w → Repeats r w r w 1
once r w f = record { fit = f; picks = omega arith; counts = refl }

product : (t k m x : ℕ) → x ≡ t * k → x * m + x ≡ t * (k * (m + 1))
product t k m x e = rw (e, ← (mul_assoc t k (m + 1)), mul-add (t * k) m 1) (omega arith)

-- one input more
again : (r v u s w k : ℕ) → Twice r v u → Repeats r u s w k → Repeats (suc r) v s w (k * (2 ^ (2 ^ r) + 1))
unfolding join
again r v u s w k e h =
    let z = zeros_in u in
    let o = ones_in u in
    let f = h.fit in
    let x = pick r u in
    let j : pick (suc r) v ≡ join r x x =
    ap₂ (λ z o. pick_of (nodes (suc r)) (suc r) z o) e.0 e.1 ∙ pick_twice r z o f.0 f.1 nodes nodes_halves f.2 in
    record {
      fit = (rw e.0 (join_lt r z z f.0 f.0), rw e.1 (join_lt r o o f.1 f.1), rw (e.0, e.1) (covered_twice r z o f.0 f.1 f.2));
      picks = j ∙ product (pick s w) k (2 ^ (2 ^ r)) x h.picks;
      counts = ap (nodes (suc r)) j ∙ counted_twice nodes nodes_halves r x (pick_lt r u f) ∙ h.counts;
    }

-- a pair of three or of two inputs as one of four
three_four : (u s w k : ℕ) → u < entries * entries → Repeats 3 u s w k → Repeats 4 (u * 65537) s w (k * 257)
three_four u s w k l h = again 3 (u * 65537) u s w k (three_twice u l) h

two_four : (u s w k : ℕ) → u < entries → Repeats 2 u s w k → Repeats 4 (u * 16843009) s w (k * 17 * 257)
two_four u s w k l h =
    let e : u * 257 * 65537 ≡ u * 16843009 = omega arith in
    subst (λ v. Repeats 4 v s w (k * 17 * 257)) e (three_four (u * 257) s w (k * 17) (omega arith) (again 2 (u * 257) u s w k (two_twice u l) h))

-- What `pick_shared` asks and gives at s inputs, where the pair w is looked up as the pair v of four, and its table is below m.
pub record Widened (s w v m : ℕ) : Type 0 where
  pub inside : v < 2 ^ pair_bits
  pub covered : Covered 4 (zeros_in v) (ones_in v)
  pub ranks : (x : ℕ) → x ≡ rank (nodes 4) (pick 4 v) → x / narrow_space * narrow_space + x % m ≡ rank (nodes s) (pick s w)

-- the rank of a table repeated k times is the rank of the table, where the digits to the base m below the count are cut to one
widened : (s w v k m : ℕ) (z : ℕ → ℕ → ℕ) → Repeats 4 v s w k → v < 2 ^ pair_bits → pick s w < m → pick s w * k < narrow_space
    → ((c t : ℕ) → c * narrow_space + t * k ≡ z c t * m + t) → Widened s w v m
unfolding rank
widened s w v k m z r l b y d =
    record {
      inside = l;
      covered = r.fit.2;
      ranks = λ x e.
          let c = nodes s (pick s w) in
          let t = pick s w in
          let h : x ≡ c * narrow_space + t * k = omega (arith, e, r.picks, r.counts) in
          rw (ap (λ v. v / narrow_space) h ∙ digits_div c y, ap (λ v. v % m) (h ∙ d c t) ∙ digits_mod (z c t) b);
    }

module _ (w : ℕ) (l : w < 2 ^ pair_bits) where
  pub from_three : WidthFits 3 w → Widened 3 w (w * 65537) 256
  from_three f =
      let y = two_bytes w l f.0 f.1 in
      let b : pick 3 w < 256 = pick_lt 3 w f in
      widened 3 w (w * 65537) 257 256 (λ c t. c * 256 + t) (three_four w 3 w 1 y (once 3 w f)) (omega arith) b (omega arith) (λ c t. omega arith)

  pub from_two : WidthFits 2 w → Widened 2 w (w * 16843009) 16
  from_two f =
      let y : w < entries = omega (arith, one_byte w l f.0 f.1, f.0, f.1) in
      let b : pick 2 w < 16 = pick_lt 2 w f in
      widened 2 w (w * 16843009) 4369 16 (λ c t. c * 4096 + t * 273) (two_four w 2 w 1 y (once 2 w f)) (omega arith) b (omega arith) (λ c t. omega arith)

  pub from_one : WidthFits 1 w → Widened 1 w (w * 84215045) 4
  from_one f =
      let h = one_byte w l (omega (arith, f.0)) (omega (arith, f.1)) in
      let z : w / block_space < 4 = omega (arith, h, f.0, f.1) in
      let o : w % block_space < 4 = omega (arith, h, f.0, f.1) in
      let y : w * 5 < entries = omega (arith, h, f.0, f.1) in
      let b : pick 1 w < 4 = pick_lt 1 w f in
      let e : w * 5 * 16843009 ≡ w * 84215045 = omega arith in
      let r = two_four (w * 5) 1 w 5 y (again 1 (w * 5) w 1 w 1 (one_twice w z o) (once 1 w f)) in
      widened 1 w (w * 84215045) 21845 4 (λ c t. c * 16384 + t * 5461) (subst (λ v. Repeats 4 v 1 w 21845) e r) (omega arith) b (omega arith) (λ c t. omega arith)
