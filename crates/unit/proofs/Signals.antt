-- Laws of the signals of a stage, one gate after the other.
use Prim.Native.Nat.{ℕ, zero, suc, ◌+◌, ◌<◌}
use mathlib.Core.Path.{◌≡◌, refl, sym, ap, ap₂, ◌∙◌}
use mathlib.Core.List.{List, [], ◌∷◌, ◌++◌}
use native.Mathlib.Nat.{add-zero}
use native.Mathlib.Numerals.{add-one}
use native.Mathlib.Omega.{arith}
use lib.ListN.{length, get_or, set, length-append, get_or-append}
use lib.Seq.{get_or_at}
use Rattle.base.proofs.Tabulate.{filled_has}
use Rattle.table.specs.Bits.{bit}
use Rattle.sheet.specs.declared.LogicGate.{LogicGate}
use Rattle.sheet.specs.Commands.{no_gate}
use Rattle.unit.specs.Gates.{gate_bit, with_gate, with_gates}

-- the signals s, and after them those of the first k of the gates g
unfoldable pub up_to : List ℕ → (ℕ → LogicGate) → ℕ → List ℕ
up_to s g zero = s
up_to s g (suc k) = with_gate (up_to s g k) (g k)

up_to_more : (s : List ℕ) (g : ℕ → LogicGate) (k : ℕ) → up_to s g (k + 1) ≡ with_gate (up_to s g k) (g k)
unfolding up_to
up_to_more s g k = rw (add-one k)

up_to_length : (s : List ℕ) (g : ℕ → LogicGate) (k : ℕ) → length (up_to s g k) ≡ length s + k
unfolding up_to
up_to_length s g zero = sym (add-zero (length s))
up_to_length s g (suc k) = simp length-append (omega (arith, up_to_length s g k))

pub up_to_cong : (s : List ℕ) (f g : ℕ → LogicGate) (k : ℕ) → ((i : ℕ) → i < k → f i ≡ g i) → up_to s f k ≡ up_to s g k
unfolding up_to
up_to_cong s f g zero h = refl
up_to_cong s f g (suc k) h = ap₂ with_gate (up_to_cong s f g k (λ i l. h i (omega arith))) (h k (omega arith))

-- the first gate first
up_to_front : (s : List ℕ) (g : ℕ → LogicGate) (k : ℕ) → up_to (with_gate s (g 0)) (λ i. g (suc i)) k ≡ up_to s g (suc k)
unfolding up_to
up_to_front s g zero = refl
up_to_front s g (suc k) = ap (λ x. with_gate x (g (suc k))) (up_to_front s g k)

pub gates_up_to : (s : List ℕ) (gs : List LogicGate) → with_gates s gs ≡ up_to s (λ i. get_or gs i no_gate) (length gs)
unfolding with_gates up_to
gates_up_to s [] = refl
gates_up_to s (g ∷ gs) = gates_up_to (with_gate s g) gs ∙ up_to_front s (λ i. get_or (g ∷ gs) i no_gate) (length gs)

-- words that hold the signals so far for value v, with one gate's word put after them
module _ (s : List ℕ) (g : ℕ → LogicGate) (m i : ℕ) (wires : length s ≡ m) (words : List ℕ) (room : m + i < length words) (v : ℕ)
    (so_far : (q : ℕ) → q < m + i → bit (get_or words q 0) v ≡ get_or (up_to s g i) q 0) where
  long : length (up_to s g i) ≡ m + i
  long = up_to_length s g i ∙ ap (λ x. x + i) wires

  pub gate_more : (x : ℕ) → (g i).left < m + i → (g i).right < m + i
      → bit x v ≡ gate_bit (g i).kind (bit (get_or words (g i).left 0) v) (bit (get_or words (g i).right 0) v)
      → (q : ℕ) → q < m + (i + 1) → bit (get_or (set words (m + i) x) q 0) v ≡ get_or (up_to s g (i + 1)) q 0
  gate_more x l r e q h =
      let y : ℕ = gate_bit (g i).kind (get_or (up_to s g i) (g i).left 0) (get_or (up_to s g i) (g i).right 0) in
      rw (up_to_more s g i)
      (filled_has (λ q w. bit w v ≡ get_or (up_to s g i ++ y ∷ []) q 0) words (m + i) x room
      (λ q b. so_far q b ∙ sym (get_or-append (up_to s g i) (y ∷ []) 0 q (rw long b)))
      (e ∙ ap₂ (gate_bit (g i).kind) (so_far (g i).left l) (so_far (g i).right r) ∙ sym (get_or_at (up_to s g i) y [] 0 (m + i) long))
      q (omega arith))
