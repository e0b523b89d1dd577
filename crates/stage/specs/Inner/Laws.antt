-- What a form owes: its wires are read as they are written, a wire is told by its own bytes, and the count is fair to its drawings.
use Rattle.std.specs.Prelude.{ℕ, ◌+◌, ◌*◌, ◌<◌, ◌≤◌, ◌≡◌, List, ◌++◌, length}
use Rattle.table.specs.Inner.Drawing.{FairCount}
use Rattle.stage.specs.Steps.{Read, taken, fault}
use Rattle.stage.specs.Form.{StageForm}
use Rattle.stage.specs.Bytes.{selector_bytes}
use Rattle.stage.specs.Read.{drawing}

-- what was read, with more bytes behind those that are left
unfoldable pub with_more : {A : Type 0} → List ℕ → Read A → Read A
with_more q (taken x at rest) = taken x at (rest ++ q)
with_more q (fault f) = fault f

-- what is taken are the bytes of a shape that is well formed, and the place moves past them
abbrev pub TakenAs : {A : Type 0} (as_bytes : A → List ℕ) (Formed : A → Type 0) (at : ℕ) → List ℕ → Read A → Type 0
TakenAs as_bytes Formed at bytes (taken x next rest) = (bytes ≡ as_bytes x ++ rest) × (next ≡ at + length (as_bytes x)) × Formed x
TakenAs as_bytes Formed at bytes (fault f) = Unit {0}

-- the same of wire j
abbrev pub ToldWire : (F : StageForm) (n j at : ℕ) → List ℕ → Read F.Shape → Type 0
ToldWire F n j = TakenAs (F.wire_bytes j) (F.WellFormed n)

pub record FormLaws (F : StageForm) : Type 0 where
  -- a wire's bytes: its frame, and those of each selector
  pub frame : ℕ
  pub selectors : F.Shape → ℕ
  pub wire_length : (j : ℕ) (x : F.Shape) → length (F.wire_bytes j x) ≡ frame + selector_bytes * selectors x
  -- what is well formed has no more selectors than this
  pub wire_most : ℕ
  pub few : (n : ℕ) (x : F.Shape) → n ≤ F.most → F.WellFormed n x → selectors x ≤ wire_most
  -- what is taken is what was written
  pub told : (n m j at : ℕ) (bytes : List ℕ) → ToldWire F n j at bytes (F.wire_at n m j at bytes)
  -- what is written is taken
  pub back : (n m j at : ℕ) (x : F.Shape) (q : List ℕ) → j < m → F.WellFormed n x
      → F.wire_at n m j at (F.wire_bytes j x ++ q) ≡ taken x (at + length (F.wire_bytes j x)) q
  -- one byte more than the longest wire has tells it
  pub more : (n m j at : ℕ) (bytes q : List ℕ) → n ≤ F.most → frame + selector_bytes * wire_most < length bytes
      → F.wire_at n m j at (bytes ++ q) ≡ with_more q (F.wire_at n m j at bytes)
  -- no drawing of a table has fewer cells than its count, and the one that is written has as many
  pub fair : (n : ℕ) → n ≤ F.most → FairCount (drawing F) n (F.count n)
  pub reduces : (n : ℕ) (small : n ≤ F.most) → (fair n small).reduced ≡ F.reduced n
