-- Laws of reading a tree at a place of a slice, by what stands there.
use Prim.Native.Nat.{ℕ, ◌+◌, ◌<◌, ◌≤◌}
use mathlib.Core.Path.{◌≡◌, ◌∙◌}
use mathlib.Core.Bool.{true, false, cond}
use mathlib.Core.List.{List}
use lib.Dec.{leb}
use lib.ListN.{length, get_or, drop}
use borrow.Author.Tests.{ne_eqb}
use Rattle.std.specs.Prelude.{Ok, Err}
use Rattle.base.specs.declared.Refusal.{Refusal}
use Rattle.base.specs.Refusals.{refusal_at, cut_short, out_of_range, not_ascending}
use Rattle.sheet.specs.Limits.{count_out}
use Rattle.table.specs.Tree.{con}
use Rattle.stage.specs.Steps.{taken, fault, unless_refused, misplaced, due, turn_number}
use Rattle.stage.specs.TreeRead.{tree_known, branches_at, selector_at, tree_from, tree_at, tree_wire_at}
use Rattle.stage.proofs.TreeReading.{tree_is}
use Rattle.stage_reader.proofs.Places.{byte_there, no_byte, due_stops, due_goes, operand_stops, operand_goes, two_more}

-- a tree, by its first byte
module _ (s : List ℕ) (n k at : ℕ) (above : k ≤ n) where
  tree_opens : tree_at n k at (drop at s) ≡ tree_from (tree_at n) n k at (drop at s)
  tree_opens = tree_is n k above at (drop at s)

  pub tree_cut : length s ≤ at → tree_at n k at (drop at s) ≡ fault (refusal_at cut_short at)
  unfolding tree_from
  tree_cut h = tree_opens ∙ rw (no_byte s at h)

  module _ (there : at < length s) where
    pub tree_selects : get_or s at 0 ≡ 0x22 → tree_at n k at (drop at s) ≡ selector_at (tree_at n) n k at (drop (at + 1) s)
    unfolding tree_from
    tree_selects e = tree_opens ∙ rw (byte_there s at there, e)

    pub tree_zero : get_or s at 0 ≡ 0x23 → tree_at n k at (drop at s) ≡ taken (con 0) (at + 1) (drop (at + 1) s)
    unfolding tree_from
    tree_zero e = tree_opens ∙ rw (byte_there s at there, e)

    pub tree_one : get_or s at 0 ≡ 0x24 → tree_at n k at (drop at s) ≡ taken (con 1) (at + 1) (drop (at + 1) s)
    unfolding tree_from
    tree_one e = tree_opens ∙ rw (byte_there s at there, e)

    pub tree_misplaced : (get_or s at 0 ≡ 0x22 → ⊥) → (get_or s at 0 ≡ 0x23 → ⊥) → (get_or s at 0 ≡ 0x24 → ⊥)
        → tree_at n k at (drop at s) ≡ fault (refusal_at (misplaced tree_known (get_or s at 0)) at)
    unfolding tree_from
    tree_misplaced a b c = tree_opens ∙ rw (byte_there s at there, ne_eqb _ _ b, ne_eqb _ _ c, ne_eqb _ _ a)

-- a selector, by its input
module _ (s : List ℕ) (n k at : ℕ) where
  pub selector_cut : length s ≤ at + 1 → selector_at (tree_at n) n k at (drop (at + 1) s) ≡ fault (refusal_at cut_short at)
  unfolding selector_at
  selector_cut h = operand_stops fault at _ s (at + 1) h

  module _ (there : at + 1 < length s) where
    selector_opens : selector_at (tree_at n) n k at (drop (at + 1) s)
        ≡ cond (count_out (get_or s (at + 1) 0) n) (fault (refusal_at out_of_range at))
        (cond (leb (get_or s (at + 1) 0) k) (fault (refusal_at not_ascending at))
        (branches_at (tree_at n (get_or s (at + 1) 0)) (get_or s (at + 1) 0) (at + 2) (drop (at + 2) s)))
    unfolding selector_at
    selector_opens = operand_goes fault at _ s (at + 1) there ∙ rw (two_more at)

    pub selector_out : count_out (get_or s (at + 1) 0) n ≡ true → selector_at (tree_at n) n k at (drop (at + 1) s) ≡ fault (refusal_at out_of_range at)
    selector_out e = selector_opens ∙ rw e

    pub selector_input : count_out (get_or s (at + 1) 0) n ≡ false
        → selector_at (tree_at n) n k at (drop (at + 1) s)
        ≡ cond (leb (get_or s (at + 1) 0) k) (fault (refusal_at not_ascending at))
        (branches_at (tree_at n (get_or s (at + 1) 0)) (get_or s (at + 1) 0) (at + 2) (drop (at + 2) s))
    selector_input e = selector_opens ∙ rw e

-- a wire, by its number
module _ (s : List ℕ) (n m j at : ℕ) where
  pub wire_stops : (f : Refusal) → Err f ≡ due tree_known Err 0x21 at (λ rest. Ok (tt {0})) (drop at s) → tree_wire_at n m j at (drop at s) ≡ fault f
  unfolding tree_wire_at
  wire_stops f e = due_stops tree_known 0x21 at s fault _ f e

  module _ (u : Unit {0}) (stands : Ok u ≡ due tree_known Err 0x21 at (λ rest. Ok (tt {0})) (drop at s)) where
    pub wire_cut : length s ≤ at + 1 → tree_wire_at n m j at (drop at s) ≡ fault (refusal_at cut_short at)
    unfolding tree_wire_at
    wire_cut h = due_goes tree_known 0x21 at s fault _ u stands ∙ operand_stops fault at _ s (at + 1) h

    pub wire_opens : at + 1 < length s
        → tree_wire_at n m j at (drop at s) ≡ unless_refused fault at (turn_number m j (get_or s (at + 1) 0) false) (tree_at n 0 (at + 2) (drop (at + 2) s))
    unfolding tree_wire_at
    wire_opens there = due_goes tree_known 0x21 at s fault _ u stands ∙ operand_goes fault at _ s (at + 1) there ∙ rw (two_more at)
