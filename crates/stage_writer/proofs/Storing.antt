-- Laws of writing a stage: what the stores of each part leave.
use Prim.Native.Nat.{ℕ, ◌+◌, ◌<◌, ◌≤◌}
use mathlib.Core.Path.{◌≡◌, refl, ap}
use mathlib.Core.List.{List, [], ◌∷◌, ◌++◌, map}
use native.Mathlib.Omega.{arith}
use native.Mathlib.Numerals.{add-one}
use lib.ListN.{length, get_or, set, take, drop, length-append, drop_of_length-le}
use lib.Seq.{sets, drop-cons, get_or-take, length-take-le}
use Rattle.base.proofs.Tabulate.{sets_append}
use Rattle.table.specs.Tree.{Tree, sel}
use Rattle.stage.specs.Form.{StageForm}
use Rattle.stage.specs.Bytes.{wires_bytes, stage_bytes}
use Rattle.stage.specs.TreeBytes.{tree_bytes}
use Rattle.base.specs.Inner.Put.{Put}
use Rattle.base.proofs.Stores.{put_then}
use Rattle.stage.specs.Written.{stage_drawn, stage_of}

-- one store
pub one_stored : {l b : List ℕ} {at x : ℕ} → b ≡ set l at x → Put l at (x ∷ []) b (at + 1)
one_stored e = record { stored = e; past = refl }

-- a run of stores done, and what remains of it
pub stored_on : (l b x y g : List ℕ) (at next : ℕ) → Put l at x b next → sets l at (x ++ y) ≡ g → sets b next y ≡ g
stored_on l b x y g at next e h = cc (sets_append l at x y, e.stored, e.past)

-- what the three calls of a selector leave
pub selector_stored : {l b1 b2 b3 : List ℕ} (z o : Tree) {at : ℕ} (k : ℕ) {first second past : ℕ} → Put l at (0x22 ∷ k ∷ []) b1 first
    → Put b1 first (tree_bytes z) b2 second → Put b2 second (tree_bytes o) b3 past → Put l at (tree_bytes (sel k z o)) b3 past
unfolding tree_bytes
selector_stored z o k e f g = put_then e (put_then f g)

-- the wires from j on
abbrev pub wires_from : StageForm → ℕ → ℕ → ℕ → List ℕ → List ℕ
wires_from F n m j tables = wires_bytes F j (map (F.reduced n) (drop j (take m tables)))

module _ (F : StageForm) (n m j : ℕ) (tables : List ℕ) (fits : m ≤ length tables) where
  pub wires_step : j < m → wires_from F n m j tables ≡ F.wire_bytes j (F.reduced n (get_or tables j 0)) ++ wires_from F n m (j + 1) tables
  unfolding wires_bytes
  wires_step h =
      let l : j < length (take m tables) = rw (length-take-le m tables fits) h in
      rw (drop-cons (take m tables) j 0 l, get_or-take m tables j 0 h, add-one j)

  pub wires_end : m ≤ j → wires_from F n m j tables ≡ []
  unfolding wires_bytes
  wires_end h = rw (drop_of_length-le (take m tables) {i = j} (rw (length-take-le m tables fits) h))

  -- the next wire is within the stage
  pub wire_fits : (at most : ℕ) → length (stage_of F n m tables) ≤ most → j < m
      → at + length (wires_from F n m j tables) ≡ 3 + length (wires_bytes F 0 (stage_drawn F n m tables))
      → at + length (F.wire_bytes j (F.reduced n (get_or tables j 0))) ≤ most
  unfolding stage_of stage_bytes
  wire_fits at most short h e =
      let x = F.wire_bytes j (F.reduced n (get_or tables j 0)) in
      let y = wires_from F n m (j + 1) tables in
      let all = length-append (wires_bytes F 0 (stage_drawn F n m tables)) (0x2F ∷ []) in
      omega (arith, e, ap length (wires_step h), length-append x y, all, short)

module _ (F : StageForm) (n m : ℕ) (tables : List ℕ) where
  -- the end stands after the wires
  pub stage_ends : 3 + length (wires_bytes F 0 (stage_drawn F n m tables)) + 1 ≡ length (stage_of F n m tables)
  unfolding stage_of stage_bytes
  stage_ends = omega (arith, length-append (wires_bytes F 0 (stage_drawn F n m tables)) (0x2F ∷ []))

  -- what the calls that write a stage leave
  pub stage_stored : {l b1 b2 b3 : List ℕ} {wires_at at past : ℕ} → Put l 0 (0x20 ∷ n ∷ m ∷ []) b1 wires_at
      → Put b1 3 (wires_bytes F 0 (stage_drawn F n m tables)) b2 at → Put b2 at (0x2F ∷ []) b3 past → b3 ≡ sets l 0 (stage_of F n m tables)
  unfolding stage_of stage_bytes
  stage_stored {l} {b1} {b2} {b3} {wires_at} {at} {past} p q r =
      let three : wires_at ≡ 3 = p.past in
      let wires : Put b1 wires_at (wires_bytes F 0 (stage_drawn F n m tables)) b2 at = rw three q in
      (put_then p (put_then wires r)).stored
