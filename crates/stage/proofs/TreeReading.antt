-- Laws of the bytes of a tree and of reading one: it takes three bytes for each selector; it unfolds with no regard to depth; what it takes are the bytes of an
-- ordered tree; the bytes of an ordered tree are taken.
use Prim.Native.Nat.{ℕ, zero, suc, ◌+◌, ◌*◌, ◌-◌, ◌<◌, ◌≤◌}
use mathlib.Core.Path.{◌≡◌, refl, sym, ap, ◌∙◌, fun_ext}
use mathlib.Core.Bool.{cond, not}
use mathlib.Core.List.{List, [], ◌∷◌, ◌++◌, append_assoc}
use native.Mathlib.Omega.{arith}
use lib.Dec.{T, leb, eqb, eqb→eq, nleb→lt}
use lib.ListN.{length, length-append}
use borrow.Author.Tests.{lt-leb}
use Rattle.base.specs.Refusals.{refusal_at}
use Rattle.sheet.specs.Limits.{count_out}
use Rattle.base.proofs.Tests.{cond_has, cond_has₂, test_no}
use Rattle.table.specs.Tree.{Tree, con, sel, Ordered, selectors}
use Rattle.stage.specs.Steps.{Read, taken, fault, and_then, misplaced, operand}
use Rattle.stage.specs.TreeBytes.{tree_bytes}
use Rattle.stage.specs.TreeRead.{tree_known, branches_at, selector_at, tree_from, tree_within, tree_at}
use Rattle.stage.specs.Inner.Laws.{TakenAs}
use Rattle.sheet.proofs.Sizes.{count_in, count_fits}

-- a tree takes a byte, and three more for each selector
pub tree_length : (x : Tree) → length (tree_bytes x) ≡ 1 + 3 * selectors x
unfolding tree_bytes selectors
tree_length (con b) = refl
tree_length (sel k z o) = omega (arith, length-append (tree_bytes z) (tree_bytes o), tree_length z, tree_length o)

abbrev pub Branch : Type 0
Branch = ℕ → ℕ → List ℕ → Read Tree

-- a tree reads its branches only below inputs above k and at most n
from_cong : (f g : Branch) (n k at : ℕ) → ((i : ℕ) → k < i → i ≤ n → (at : ℕ) (rest : List ℕ) → f i at rest ≡ g i at rest)
    → (bytes : List ℕ) → tree_from f n k at bytes ≡ tree_from g n k at bytes
unfolding tree_from selector_at operand
from_cong f g n k at h [] = refl
from_cong f g n k at h (b ∷ []) = refl
from_cong f g n k at h (b ∷ i ∷ rest) =
    let same : T (not (count_out i n)) → T (not (leb i k)) → f i ≡ g i =
    λ c l. fun_ext (λ y. fun_ext (λ r. h i (nleb→lt i k l) (count_in i n (test_no (count_out i n) c)).1 y r)) in
    let sels : selector_at f n k at (i ∷ rest) ≡ selector_at g n k at (i ∷ rest) =
    cond_has₂ (λ x y. x ≡ y) (count_out i n) (λ _. refl)
    (λ c. cond_has₂ (λ x y. x ≡ y) (leb i k) (λ _. refl) (λ l. ap (λ (u : ℕ → List ℕ → Read Tree). branches_at u i (at + 2) rest) (same c l))) in
    ap
    (λ (x : Read Tree). cond (eqb b 0x23) (taken (con 0) (at + 1) (i ∷ rest))
    (cond (eqb b 0x24) (taken (con 1) (at + 1) (i ∷ rest)) (cond (eqb b 0x22) x (fault (refusal_at (misplaced tree_known b) at)))))
    sels

-- any depth that is enough gives the same
within_any : (d e n k : ℕ) → k ≤ n → n < k + d → n < k + e → (at : ℕ) (bytes : List ℕ) → tree_within d n k at bytes ≡ tree_within e n k at bytes
unfolding tree_within
within_any zero e n k l p q at bytes = absurd (omega arith)
within_any (suc d) zero n k l p q at bytes = absurd (omega arith)
within_any (suc d) (suc e) n k l p q at bytes =
    from_cong (tree_within d n) (tree_within e n) n k at (λ i a b. within_any d e n i b (omega arith) (omega arith)) bytes

-- a tree unfolds to its command and its branches
pub tree_is : (n k : ℕ) → k ≤ n → (at : ℕ) (bytes : List ℕ) → tree_at n k at bytes ≡ tree_from (tree_at n) n k at bytes
unfolding tree_at tree_within
tree_is n k l at bytes =
    from_cong (tree_within (n - k) n) (λ i. tree_within (suc (n - i)) n i) n k at
    (λ i a b. within_any (n - k) (suc (n - i)) n i b (omega arith) (omega arith))
    bytes

-- what is taken are the bytes of an ordered tree, and the place moves past them
abbrev pub ToldTree : (n k at : ℕ) → List ℕ → Read Tree → Type 0
ToldTree n k = TakenAs tree_bytes (Ordered n k)

abbrev TellsAt : ℕ → ℕ → (ℕ → List ℕ → Read Tree) → Type 0
TellsAt n k read = (at : ℕ) (bytes : List ℕ) → ToldTree n k at bytes (read at bytes)

-- a selector's second branch, after its first
second_told : (n k i at : ℕ) (z : Tree) (next : ℕ) (bytes rest : List ℕ) → k < i → i ≤ n → bytes ≡ tree_bytes z ++ rest → next ≡ at + 2 + length (tree_bytes z)
    → Ordered n i z → (o : Read Tree) → ToldTree n i next rest o
    → ToldTree n k at (0x22 ∷ i ∷ bytes) (and_then o (λ x at'' rest''. taken (sel i z x) at'' rest''))
unfolding and_then tree_bytes Ordered
second_told n k i at z next bytes rest a b e p u (fault f) t = tt
second_told n k i at z next bytes rest a b e p u (taken x past q) t = (
  ap (λ (l : List ℕ). 0x22 ∷ i ∷ l) (e ∙ ap (λ (l : List ℕ). tree_bytes z ++ l) t.0 ∙ sym (append_assoc (tree_bytes z) (tree_bytes x) q)),
  omega (arith, p, t.1, length-append (tree_bytes z) (tree_bytes x)),
  (a, b, u, t.2),
)

branches_told : (n k i at : ℕ) (read : ℕ → List ℕ → Read Tree) → k < i → i ≤ n → TellsAt n i read → (bytes : List ℕ)
    → ToldTree n k at (0x22 ∷ i ∷ bytes) (branches_at read i (at + 2) bytes)
unfolding branches_at and_then
branches_told n k i at read a b t bytes = go (read (at + 2) bytes) (t (at + 2) bytes)
  where
    go : (z : Read Tree) → ToldTree n i (at + 2) bytes z
        → ToldTree n k at (0x22 ∷ i ∷ bytes) (and_then z (λ z at' rest'. and_then (read at' rest') (λ o at'' rest''. taken (sel i z o) at'' rest'')))
    go (fault f) h = tt
    go (taken z next rest) h = second_told n k i at z next bytes rest a b h.0 h.1 h.2 (read next rest) (t next rest)

selector_told : (f : Branch) (n k at : ℕ) → ((i : ℕ) → TellsAt n i (f i)) → (bytes : List ℕ) → ToldTree n k at (0x22 ∷ bytes) (selector_at f n k at bytes)
unfolding selector_at operand
selector_told f n k at h [] = tt
selector_told f n k at h (i ∷ rest) =
    cond_has (ToldTree n k at (0x22 ∷ i ∷ rest)) (count_out i n) (λ _. tt)
    (λ c.
    cond_has (ToldTree n k at (0x22 ∷ i ∷ rest)) (leb i k) (λ _. tt)
    (λ l. branches_told n k i at (f i) (nleb→lt i k l) (count_in i n (test_no (count_out i n) c)).1 (h i) rest))

from_told : (f : Branch) (n k at : ℕ) → ((i : ℕ) → TellsAt n i (f i)) → (bytes : List ℕ) → ToldTree n k at bytes (tree_from f n k at bytes)
unfolding tree_from tree_bytes Ordered
from_told f n k at h [] = tt
from_told f n k at h (b ∷ rest) =
    cond_has (ToldTree n k at (b ∷ rest)) (eqb b 0x23)
    (λ e. (ap (λ x. x ∷ rest) (eqb→eq b 0x23 e), refl, omega arith))
    (λ _.
    cond_has (ToldTree n k at (b ∷ rest)) (eqb b 0x24)
    (λ e. (ap (λ x. x ∷ rest) (eqb→eq b 0x24 e), refl, omega arith))
    (λ _.
    cond_has (ToldTree n k at (b ∷ rest)) (eqb b 0x22)
    (λ e. rw (eqb→eq b 0x22 e) (selector_told f n k at h rest))
    (λ _. tt)))

within_told : (d n k : ℕ) → TellsAt n k (tree_within d n k)
unfolding tree_within
within_told zero n k at bytes = tt
within_told (suc d) n k at bytes = from_told (tree_within d n) n k at (λ i. within_told d n i) bytes

pub tree_told : (n k at : ℕ) (bytes : List ℕ) → ToldTree n k at bytes (tree_at n k at bytes)
unfolding tree_at
tree_told n k at bytes = within_told (suc (n - k)) n k at bytes

-- the bytes of an ordered tree are taken as that tree
bit_back : (b n k at : ℕ) (q : List ℕ) → b < 2 → tree_from (tree_at n) n k at (tree_bytes (con b) ++ q) ≡ taken (con b) (at + 1) q
unfolding tree_from tree_bytes
bit_back zero n k at q h = refl
bit_back (suc zero) n k at q h = refl
bit_back (suc (suc b)) n k at q h = absurd (omega arith)

module _ (i : ℕ) (z o : Tree) (n k at : ℕ) (q : List ℕ) where
  past : ℕ
  past = at + 2 + length (tree_bytes z)

  sel_back : k < i → i ≤ n → tree_at n i (at + 2) (tree_bytes z ++ (tree_bytes o ++ q)) ≡ taken z past (tree_bytes o ++ q)
      → tree_at n i past (tree_bytes o ++ q) ≡ taken o (past + length (tree_bytes o)) q
      → tree_from (tree_at n) n k at (tree_bytes (sel i z o) ++ q) ≡ taken (sel i z o) (at + length (tree_bytes (sel i z o))) q
  unfolding past tree_from tree_bytes selector_at operand branches_at and_then
  sel_back a b e f =
      let len : past + length (tree_bytes o) ≡ at + length (tree_bytes (sel i z o)) = omega (arith, length-append (tree_bytes z) (tree_bytes o)) in
      rw (count_fits i n (omega arith) b, lt-leb i k a, append_assoc (tree_bytes z) (tree_bytes o) q, e, f, len)

pub tree_back : (x : Tree) (n k at : ℕ) (q : List ℕ) → k ≤ n → Ordered n k x → tree_at n k at (tree_bytes x ++ q) ≡ taken x (at + length (tree_bytes x)) q
unfolding Ordered tree_bytes past
tree_back (con b) n k at q l o = tree_is n k l at (tree_bytes (con b) ++ q) ∙ bit_back b n k at q o
tree_back (sel i z o) n k at q l h =
    tree_is n k l at (tree_bytes (sel i z o) ++ q)
    ∙ sel_back i z o n k at q h.0 h.1 (tree_back z n i (at + 2) (tree_bytes o ++ q) h.1 h.2)
    (tree_back o n i (at + 2 + length (tree_bytes z)) q h.1 h.3)
