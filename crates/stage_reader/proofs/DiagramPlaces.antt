-- Laws of reading a diagram at a place of a slice, by what stands there.
use Prim.Native.Nat.{ℕ, ◌+◌, ◌<◌, ◌≤◌}
use mathlib.Core.Path.{◌≡◌, ◌∙◌}
use mathlib.Core.Logic.{⊎_elim}
use mathlib.Core.List.{List}
use native.Mathlib.Omega.{arith}
use lib.Dec.{leb, ltb, leb→le, nleb→lt}
use lib.ListN.{length, get_or, drop}
use borrow.Author.Tests.{lt-leb, le-leb}
use Rattle.std.specs.Prelude.{Ok, Err}
use Rattle.base.specs.declared.Refusal.{Refusal}
use Rattle.base.specs.Refusals.{refusal_at, cut_short, no_signal}
use Rattle.base.proofs.Tests.{decide}
use Rattle.stage.specs.Steps.{taken, fault, and_then, unless_refused, due, turn_number}
use Rattle.diagram.specs.Diagram.{Entry, diagram, next_number, most_entries}
use Rattle.diagram.specs.Read.{diagram_known, entry_refusal, entry_at, entries_at, top_at, diagram_wire_at}
use Rattle.stage_reader.specs.Inner.Numbers.{entry_there}
use Rattle.stage_reader.proofs.Places.{due_stops, due_goes, operand_stops, operand_goes, two_more}

-- an entry, by the number of its refusal
module _ (s : List ℕ) (n : ℕ) (before : List Entry) (at : ℕ) where
  pub entry_cut : length s < at + 3 → entry_at n before at (drop at s) ≡ fault (refusal_at cut_short at)
  unfolding entry_at
  entry_cut h =
      ⊎_elim
      (λ t. operand_stops fault at _ s at (leb→le (length s) at t))
      (λ u. operand_goes fault at _ s at (nleb→lt (length s) at u)
      ∙ ⊎_elim
      (λ t. operand_stops fault at _ s (at + 1) (leb→le (length s) (at + 1) t))
      (λ u. operand_goes fault at _ s (at + 1) (nleb→lt (length s) (at + 1) u) ∙ operand_stops fault at _ s (at + 1 + 1) (omega arith))
      (decide (leb (length s) (at + 1))))
      (decide (leb (length s) at))

  pub entry_opens : at + 3 ≤ length s → entry_at n before at (drop at s)
      ≡ unless_refused fault at (entry_refusal n before (entry_there s at)) (taken (entry_there s at) (at + 3) (drop (at + 3) s))
  unfolding entry_at
  entry_opens h =
      let third : at + 2 + 1 ≡ at + 3 = omega arith in
      operand_goes fault at _ s at (omega arith) ∙ operand_goes fault at _ s (at + 1) (omega arith) ∙ rw (two_more at)
      (operand_goes fault at _ s (at + 2) (omega arith) ∙ rw third)

-- the top, by its number
module _ (s : List ℕ) (es : List Entry) (at : ℕ) where
  pub top_cut : length s ≤ at → top_at es at (drop at s) ≡ fault (refusal_at cut_short at)
  unfolding top_at
  top_cut h = operand_stops fault at _ s at h

  module _ (there : at < length s) where
    pub top_past : next_number es ≤ get_or s at 0 → top_at es at (drop at s) ≡ fault (refusal_at no_signal at)
    unfolding top_at
    top_past h = operand_goes fault at _ s at there ∙ rw (le-leb _ _ h)

    pub top_there : get_or s at 0 < next_number es → top_at es at (drop at s) ≡ taken (diagram es (get_or s at 0)) (at + 1) (drop (at + 1) s)
    unfolding top_at
    top_there h = operand_goes fault at _ s at there ∙ rw (lt-leb _ _ h)

-- a wire, by its number and by how many entries it has
module _ (s : List ℕ) (n m j at : ℕ) where
  pub wire_stops : (f : Refusal) → Err f ≡ due diagram_known Err 0x26 at (λ rest. Ok (tt {0})) (drop at s) → diagram_wire_at n m j at (drop at s) ≡ fault f
  unfolding diagram_wire_at
  wire_stops f e = due_stops diagram_known 0x26 at s fault _ f e

  module _ (u : Unit {0}) (stands : Ok u ≡ due diagram_known Err 0x26 at (λ rest. Ok (tt {0})) (drop at s)) where
    pub no_number : length s ≤ at + 1 → diagram_wire_at n m j at (drop at s) ≡ fault (refusal_at cut_short at)
    unfolding diagram_wire_at
    no_number h = due_goes diagram_known 0x26 at s fault _ u stands ∙ operand_stops fault at _ s (at + 1) h

    module _ (number_there : at + 1 < length s) where
      pub no_count : length s ≤ at + 2 → diagram_wire_at n m j at (drop at s) ≡ fault (refusal_at cut_short at)
      unfolding diagram_wire_at
      no_count h =
          due_goes diagram_known 0x26 at s fault _ u stands ∙ operand_goes fault at _ s (at + 1) number_there ∙ rw (two_more at)
          (operand_stops fault at _ s (at + 2) h)

      pub wire_opens : at + 2 < length s
          → diagram_wire_at n m j at (drop at s)
          ≡ unless_refused fault at (turn_number m j (get_or s (at + 1) 0) (ltb most_entries (get_or s (at + 2) 0)))
          (and_then (entries_at (get_or s (at + 2) 0) n (at + 3) (drop (at + 3) s)) top_at)
      unfolding diagram_wire_at
      wire_opens there =
          let third : at + 2 + 1 ≡ at + 3 = omega arith in
          due_goes diagram_known 0x26 at s fault _ u stands ∙ operand_goes fault at _ s (at + 1) number_there ∙ rw (two_more at)
          (operand_goes fault at _ s (at + 2) there ∙ rw third)
