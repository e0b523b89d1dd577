-- Laws of gathering the entries of a diagram: what is read so far is listed, and an entry that is refused refuses the list.
use Prim.Native.Nat.{ℕ, zero, suc, ◌+◌, ◌<◌, ◌≤◌}
use mathlib.Core.Path.{◌≡◌, refl, ◌∙◌}
use mathlib.Core.Logic.{⊎_elim}
use mathlib.Core.List.{List, [], ◌∷◌}
use native.Mathlib.Omega.{arith}
use native.Mathlib.Numerals.{add-one}
use lib.ListN.{length, drop}
use Rattle.base.specs.declared.Refusal.{Refusal}
use Rattle.base.proofs.Tests.{below_suc}
use Rattle.stage.specs.Steps.{taken, fault, and_then, unless_refused}
use Rattle.diagram.specs.Diagram.{Entry, FitsAfter}
use Rattle.diagram.specs.Read.{entry_refusal, entry_at, entries_at, top_at}
use Rattle.diagram.proofs.Reading.{unrefused_fits}
use Rattle.stage_reader.specs.Inner.Listed.{Listed, listed}
use Rattle.stage_reader.specs.Inner.Numbers.{entry_there}
use Rattle.stage_reader.proofs.DiagramPlaces.{entry_opens}

-- the first k entries of a list are read
pub record Gathered (s : List ℕ) (n from k at : ℕ) (l : Listed) : Type 0 where
  pub is : entries_at k n from (drop from s) ≡ taken l.entries at (drop at s)
  pub inputs : l.inputs ≡ n
  pub many : length l.entries ≡ k

pub start : (s : List ℕ) (n from : ℕ) → Gathered s n from 0 from (listed n [])
unfolding entries_at
start s n from = record { is = refl; inputs = refl; many = refl }

-- a refusal among the first entries is the list's
stopped : (n from : ℕ) (bytes : List ℕ) (f : Refusal) (k c : ℕ) → entries_at (suc k) n from bytes ≡ fault f → k < c → entries_at c n from bytes ≡ fault f
unfolding entries_at and_then
stopped n from bytes f k zero e l = absurd (omega arith)
stopped n from bytes f k (suc c) e l = ⊎_elim (λ same. rw (← same) e) (λ later. rw (stopped n from bytes f k c e later)) (below_suc l)

module _ {s : List ℕ} {n from k at : ℕ} {l : Listed} (g : Gathered s n from k at l) where
  -- all entries are read: the top is left
  pub diagram_read : and_then (entries_at k n from (drop from s)) top_at ≡ top_at l.entries at (drop at s)
  unfolding and_then
  diagram_read = rw g.is

  -- the next entry is refused
  pub diagram_refused : (f : Refusal) (c : ℕ) → entry_at n l.entries at (drop at s) ≡ fault f → k < c
      → and_then (entries_at c n from (drop from s)) top_at ≡ fault f
  unfolding entries_at and_then
  diagram_refused f c e h = rw (stopped n from (drop from s) f k c (rw (g.is, e)) h)

  -- it is there: its judgement decides
  module _ (e : Entry) (there : at + 3 ≤ length s) (is : e ≡ entry_there s at) where
    pub judged : entry_at n l.entries at (drop at s) ≡ unless_refused fault at (entry_refusal l.inputs l.entries e) (taken e (at + 3) (drop (at + 3) s))
    judged = rw (g.inputs, is) (entry_opens s n l.entries at there)

    module _ (accepted : entry_refusal l.inputs l.entries e ≡ 0) where
      pub entry_fits : FitsAfter l.inputs l.entries e
      entry_fits = unrefused_fits l.inputs l.entries e accepted

      pub one_more : Gathered s n from (k + 1) (at + 3) (listed l.inputs (e ∷ l.entries))
      unfolding entries_at and_then
      one_more =
          let next : entry_at n l.entries at (drop at s) ≡ taken e (at + 3) (drop (at + 3) s) = judged ∙ rw accepted in
          record { is = rw (add-one k, g.is, next); inputs = g.inputs; many = omega (arith, g.many) }
