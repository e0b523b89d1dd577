-- Laws of reading at a place of a slice: what stands there, in the meanings' terms of the bytes that are left; and the head of a sheet.
use Prim.Native.Nat.{ℕ, ◌+◌, ◌<◌, ◌≤◌}
use mathlib.Core.Path.{◌≡◌, refl, sym, ap, ◌∙◌}
use mathlib.Core.Logic.{⊎_elim}
use mathlib.Core.Bool.{Bool, true, false, cond}
use mathlib.Core.List.{List, [], ◌∷◌}
use native.Mathlib.Omega.{arith}
use native.Mathlib.Numerals.{add-one}
use lib.Dec.{leb, leb→le, nleb→lt}
use lib.ListN.{length, get_or, drop, drop_of_length-le}
use lib.Seq.{drop-cons, drop-drop}
use lib.Dec.{eqb}
use borrow.Author.Tests.{eqb-true}
use Rattle.std.specs.Prelude.{Ok, Err}
use Rattle.base.specs.declared.Refusal.{Refusal}
use Rattle.base.specs.Refusals.{refusal_at, cut_short, out_of_range}
use Rattle.base.proofs.Tests.{decide, cond_has}
use Rattle.sheet.specs.Limits.{sizes_out}
use Rattle.table.specs.Drawing.{no_stage}
use Rattle.stage.specs.Form.{StageForm}
use Rattle.stage.specs.Steps.{unless_refused, misplaced, due_number, due, operand}
use Rattle.stage.specs.Read.{wires_at, closed, read_sheet}

module _ (s : List ℕ) (at : ℕ) where
  pub byte_there : at < length s → drop at s ≡ get_or s at 0 ∷ drop (at + 1) s
  byte_there h = drop-cons s at 0 h ∙ ap (λ (p : ℕ). get_or s at 0 ∷ drop p s) (sym (add-one at))

  pub no_byte : length s ≤ at → drop at s ≡ []
  no_byte h = drop_of_length-le s h

-- what the code judges stops or goes on as what comes after it does
module _ (at g : ℕ) where
  pub judged_stops : {A : Type 0} (stop : Refusal → A) (next : A) (f : Refusal) → Err f ≡ unless_refused Err at g (Ok (tt {0})) → unless_refused stop at g next ≡ stop f
  judged_stops stop next f = by (eqb g 0)
    where
      by : (b : Bool) → Err f ≡ cond b (Ok (tt {0})) (Err (refusal_at g at)) → cond b next (stop (refusal_at g at)) ≡ stop f
      by true e = absurd cc
      by false e = cc

  pub judged_goes : (u : Unit {0}) → Ok u ≡ unless_refused Err at g (Ok (tt {0})) → g ≡ 0
  judged_goes u = by (eqb g 0) refl
    where
      by : (b : Bool) → eqb g 0 ≡ b → Ok u ≡ cond b (Ok (tt {0})) (Err (refusal_at g at)) → g ≡ 0
      by true t e = eqb-true g 0 t
      by false t e = absurd cc

-- a byte that is not due is always refused
pub misplaced_stops : {A : Type 0} (known : ℕ → Bool) (b at : ℕ) (stop : Refusal → A) (next : A)
    → unless_refused stop at (misplaced known b) next ≡ stop (refusal_at (misplaced known b) at)
unfolding misplaced
misplaced_stops known b at stop next = cond_has (λ g. unless_refused stop at g next ≡ stop (refusal_at g at)) (known b) (λ _. refl) (λ _. refl)

-- a command that is due
module _ (known : ℕ → Bool) (want at : ℕ) (s : List ℕ) where
  module _ {A : Type 0} (stop : Refusal → A) (next : List ℕ → A) where
    pub due_stops : (f : Refusal) → Err f ≡ due known Err want at (λ rest. Ok (tt {0})) (drop at s) → due known stop want at next (drop at s) ≡ stop f
    unfolding due
    due_stops f e = judged_stops at (due_number known want (drop at s)) stop _ f e

    pub due_goes : (u : Unit {0}) → Ok u ≡ due known Err want at (λ rest. Ok (tt {0})) (drop at s) → due known stop want at next (drop at s) ≡ next (drop (at + 1) s)
    unfolding due
    due_goes u e = rw (judged_goes at (due_number known want (drop at s)) u e) (ap next (drop-drop 1 at s))

  pub due_within : (u : Unit {0}) → Ok u ≡ due known Err want at (λ rest. Ok (tt {0})) (drop at s) → at < length s
  unfolding due due_number
  due_within u e =
      ⊎_elim
      (λ t. let z : ◌≡◌ {A = ℕ} 1 0 = rw (no_byte s at (leb→le (length s) at t)) at (judged_goes at (due_number known want (drop at s)) u e) in absurd (omega arith))
      (λ u. nleb→lt (length s) at u)
      (decide (leb (length s) at))

-- an operand
module _ {A : Type 0} (stop : Refusal → A) (at : ℕ) (next : ℕ → List ℕ → A) (s : List ℕ) (p : ℕ) where
  pub operand_stops : length s ≤ p → operand stop at next (drop p s) ≡ stop (refusal_at cut_short at)
  unfolding operand
  operand_stops h = rw (no_byte s p h)

  pub operand_goes : p < length s → operand stop at next (drop p s) ≡ next (get_or s p 0) (drop (p + 1) s)
  unfolding operand
  operand_goes h = rw (byte_there s p h)

pub two_more : (at : ℕ) → at + 1 + 1 ≡ at + 2
two_more at = omega arith

-- the head of a sheet
module _ (F : StageForm) (s : List ℕ) where
  pub head_stops : (f : Refusal) → Err f ≡ due F.known Err 0x20 0 (λ rest. Ok (tt {0})) s → read_sheet F s ≡ no_stage f
  unfolding read_sheet
  head_stops f e = due_stops F.known 0x20 0 s no_stage _ f e

  module _ (u : Unit {0}) (stands : Ok u ≡ due F.known Err 0x20 0 (λ rest. Ok (tt {0})) s) where
    pub no_inputs : length s ≤ 1 → read_sheet F s ≡ no_stage (refusal_at cut_short 0)
    unfolding read_sheet
    no_inputs h = due_goes F.known 0x20 0 s no_stage _ u stands ∙ operand_stops no_stage 0 _ s 1 h

    module _ (n : ℕ) (n_there : 1 < length s) (n_is : n ≡ get_or s 1 0) where
      pub no_wires : length s ≤ 2 → read_sheet F s ≡ no_stage (refusal_at cut_short 0)
      unfolding read_sheet
      no_wires h = due_goes F.known 0x20 0 s no_stage _ u stands ∙ operand_goes no_stage 0 _ s 1 n_there ∙ operand_stops no_stage 0 _ s 2 h

      module _ (m : ℕ) (m_there : 2 < length s) (m_is : m ≡ get_or s 2 0) where
        sized : read_sheet F s ≡ cond (sizes_out F.most n m) (no_stage (refusal_at out_of_range 0)) (closed F n m (wires_at F m n m 0 3 (drop 3 s)))
        unfolding read_sheet
        sized =
            rw (n_is, m_is)
            (due_goes F.known 0x20 0 s no_stage _ u stands ∙ operand_goes no_stage 0 _ s 1 n_there ∙ operand_goes no_stage 0 _ s 2 m_there)

        pub head_out : sizes_out F.most n m ≡ true → read_sheet F s ≡ no_stage (refusal_at out_of_range 0)
        head_out e = sized ∙ rw e

        pub head_goes : sizes_out F.most n m ≡ false → read_sheet F s ≡ closed F n m (wires_at F m n m 0 3 (drop 3 s))
        head_goes e = sized ∙ rw e
