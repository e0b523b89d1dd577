-- Laws of reading a tree with more bytes behind it: they change nothing once enough bytes for any tree are there.
use Prim.Native.Nat.{ℕ, zero, suc, ◌+◌, ◌*◌, ◌^◌, ◌-◌, ◌<◌, ◌≤◌}
use mathlib.Core.Path.{◌≡◌, refl, ap, subst, ◌∙◌}
use mathlib.Core.Bool.{false}
use mathlib.Core.List.{List, [], ◌∷◌, ◌++◌}
use native.Mathlib.Omega.{arith}
use lib.Dec.{leb, eqb, nleb→lt}
use lib.ListN.{length, length-append}
use lib.Pow.{pow_pos, pow_mono}
use Rattle.base.proofs.Tests.{cond_has₂, test_no}
use Rattle.sheet.specs.Limits.{count_out}
use Rattle.sheet.proofs.Sizes.{count_in}
use Rattle.table.specs.Tree.{Tree, Ordered}
use Rattle.stage.specs.Steps.{Read, taken, fault, operand, turn_number}
use Rattle.stage.specs.TreeBytes.{tree_bytes}
use Rattle.stage.specs.TreeRead.{tree_known, branches_at, selector_at, tree_from, tree_at, tree_wire_at}
use Rattle.stage.specs.Inner.Laws.{with_more}
use Rattle.stage.proofs.Steps.{unless_refused_has₂, due_more, then_more}
use Rattle.stage.proofs.TreeReading.{Branch, ToldTree, tree_is, tree_told, tree_length}
use Rattle.stage.proofs.TreeTables.{selectors_lt}

-- a tree below input k, of at most w inputs more, is told by 3 * 2 ^ w - 1 bytes
from_more : (f : Branch) (n k at b i : ℕ) (rest q : List ℕ)
    → (k < i → i ≤ n → branches_at (f i) i (at + 2) (rest ++ q) ≡ with_more q (branches_at (f i) i (at + 2) rest))
    → tree_from f n k at (b ∷ i ∷ rest ++ q) ≡ with_more q (tree_from f n k at (b ∷ i ∷ rest))
unfolding tree_from selector_at operand with_more
from_more f n k at b i rest q h =
    cond_has₂ Same (eqb b 0x23) (λ _. refl)
    (λ _.
    cond_has₂ Same (eqb b 0x24) (λ _. refl)
    (λ _.
    cond_has₂ Same (eqb b 0x22)
    (λ _.
    cond_has₂ Same (count_out i n) (λ _. refl)
    (λ c. cond_has₂ Same (leb i k) (λ _. refl) (λ l. h (nleb→lt i k l) (count_in i n (test_no (count_out i n) c)).1)))
    (λ _. refl)))
  where
    Same : Read Tree → Read Tree → Type 0
    Same x y = x ≡ with_more q y

-- the longest tree of at most w inputs
tree_short : (w n k : ℕ) (x : Tree) → k ≤ n → n ≤ k + w → Ordered n k x → length (tree_bytes x) + 2 ≤ 3 * 2 ^ w
tree_short w n k x l h o =
    let p : 2 ^ (n - k) ≤ 2 ^ w = pow_mono (omega arith) in
    omega (arith, tree_length x, selectors_lt n k x l o)

MoreAt : ℕ → ℕ → ℕ → Type 0
MoreAt w n k = (at : ℕ) (bytes q : List ℕ) → 3 * 2 ^ w ≤ 1 + length bytes → tree_at n k at (bytes ++ q) ≡ with_more q (tree_at n k at bytes)

branches_more : (v n i at : ℕ) (rest q : List ℕ) → i ≤ n → n ≤ i + v → MoreAt v n i → 6 * 2 ^ v ≤ 3 + length rest
    → branches_at (tree_at n i) i at (rest ++ q) ≡ with_more q (branches_at (tree_at n i) i at rest)
unfolding branches_at MoreAt with_more
branches_more v n i at rest q l d more h =
    let some = pow_pos v in
    rw (more at rest q (omega arith))
    (then_more q (tree_at n i at rest) _ (λ z next left e.
    let told : ToldTree n i at rest (taken z next left) = subst (ToldTree n i at rest) e (tree_told n i at rest) in
    let long : length rest ≡ length (tree_bytes z) + length left = ap length told.0 ∙ length-append (tree_bytes z) left in
    let short = tree_short v n i z l d told.2 in
    rw (more next left q (omega arith)) (then_more q (tree_at n i next left) _ (λ _ _ _ _. refl))))

tree_step : (w n k at : ℕ) (bytes q : List ℕ) → k ≤ n → 3 * 2 ^ w ≤ 1 + length bytes
    → ((i : ℕ) (rest : List ℕ) → k < i → i ≤ n → 3 * 2 ^ w ≤ 3 + length rest
    → branches_at (tree_at n i) i (at + 2) (rest ++ q) ≡ with_more q (branches_at (tree_at n i) i (at + 2) rest))
    → tree_at n k at (bytes ++ q) ≡ with_more q (tree_at n k at bytes)
tree_step w n k at [] q l h below = absurd (omega (arith, pow_pos w))
tree_step w n k at (b ∷ []) q l h below = absurd (omega (arith, pow_pos w))
tree_step w n k at (b ∷ i ∷ rest) q l h below =
    rw (tree_is n k l at (b ∷ i ∷ rest ++ q), tree_is n k l at (b ∷ i ∷ rest)) (from_more (tree_at n) n k at b i rest q (λ a e. below i rest a e (omega arith)))

tree_more : (w n k : ℕ) → k ≤ n → n ≤ k + w → MoreAt w n k
unfolding MoreAt
tree_more zero n k l d at bytes q h = tree_step zero n k at bytes q l h (λ i rest a e _. absurd (omega arith))
tree_more (suc v) n k l d at bytes q h =
    tree_step (suc v) n k at bytes q l h
    (λ i rest a e room. branches_more v n i (at + 2) rest q e (omega arith) (tree_more v n i e (omega arith)) (omega arith))

-- a wire is told by two bytes more, and takes at most 3 * 2 ^ n bytes
pub wire_more : (n m j at : ℕ) (bytes q : List ℕ) → 3 * 2 ^ n < length bytes → tree_wire_at n m j at (bytes ++ q) ≡ with_more q (tree_wire_at n m j at bytes)
unfolding tree_wire_at operand with_more MoreAt
wire_more n m j at [] q h = absurd (omega arith)
wire_more n m j at (b ∷ []) q h = absurd (omega (arith, pow_pos n))
wire_more n m j at (b ∷ i ∷ rest) q h =
    due_more Same tree_known fault 0x21 at _ (λ _. refl) b (i ∷ rest) q
    (unless_refused_has₂ Same fault fault at (turn_number m j i false) (λ _. refl)
    (λ _. tree_more n n 0 (omega arith) (omega arith) (at + 2) rest q (omega arith)))
  where
    Same : Read Tree → Read Tree → Type 0
    Same x y = x ≡ with_more q y
