-- The theorems on stage sheets, over the form of a wire: the bytes of well-formed drawings are read as those drawings; every accepted sheet is of that kind;
-- what is written is read back.
use Prim.Native.Nat.{ℕ, zero, suc, ◌+◌, ◌^◌, ◌<◌, ◌≤◌}
use mathlib.Core.Path.{◌≡◌, refl, sym, ap, subst, ◌∙◌}
use mathlib.Core.Bool.{cond}
use mathlib.Core.List.{List, [], ◌∷◌, ◌++◌, append_assoc}
use native.Mathlib.Omega.{arith}
use lib.ListN.{length, get_or, take, length-append, length-map}
use lib.Seq.{get_or-take, length-take-le}
use Rattle.base.specs.Each.{Each}
use Rattle.base.specs.Refusals.{refusal_at, out_of_range}
use Rattle.base.proofs.Tests.{cond_has, test_no}
use Rattle.base.proofs.Each.{each_intro}
use Rattle.sheet.specs.Limits.{sizes_out}
use Rattle.sheet.specs.Inner.Sized.{Sized}
use Rattle.sheet.proofs.Sizes.{sizes_in, sizes_fit}
use Rattle.table.specs.Drawing.{StageSheet, got, no_stage}
use Rattle.table.proofs.Drawings.{least_formed}
use Rattle.stage.specs.Steps.{Read, taken, fault, and_then, due_number, due, operand}
use Rattle.stage.specs.Form.{StageForm}
use Rattle.stage.specs.Bytes.{wires_bytes, stage_bytes}
use Rattle.stage.specs.Read.{wires_at, nothing_after, end_at, closed, read_sheet, drawing}
use Rattle.stage.specs.Written.{stage_drawn, stage_of}
use Rattle.stage.specs.Inner.Laws.{TakenAs, ToldWire, FormLaws}
use Rattle.stage.proofs.Steps.{due_has}
use Rattle.stage.proofs.Written.{drawn_least}

-- an accepted sheet is the bytes of its sizes and of one well-formed drawing for each wire
pub record SheetOf (F : StageForm) (bytes : List ℕ) (n m : ℕ) (stage : List F.Shape) : Type 0 where
  pub is : bytes ≡ stage_bytes F n m stage
  pub sizes : Sized F.most n m
  pub one_each : length stage ≡ m
  pub formed : Each (F.WellFormed n) stage

-- the wires from j on
abbrev pub ToldWires : (F : StageForm) (left n j at : ℕ) → List ℕ → Read (List F.Shape) → Type 0
ToldWires F left n j = TakenAs (wires_bytes F j) (λ xs. (length xs ≡ left) × Each (F.WellFormed n) xs)

abbrev ToldSheet : (F : StageForm) → List ℕ → StageSheet F.Shape → Type 0
ToldSheet F bytes (got n m stage) = SheetOf F bytes n m stage
ToldSheet F bytes (no_stage f) = Unit {0}

module _ (F : StageForm) (L : FormLaws F) where
  more_told : (left n j at : ℕ) (x : F.Shape) (next : ℕ) (bytes rest : List ℕ) → ToldWire F n j at bytes (taken x next rest)
      → (y : Read (List F.Shape)) → ToldWires F left n (suc j) next rest y
      → ToldWires F (suc left) n j at bytes (and_then y (λ xs at'' rest''. taken (x ∷ xs) at'' rest''))
  unfolding and_then wires_bytes
  more_told left n j at x next bytes rest h (fault f) t = tt
  more_told left n j at x next bytes rest h (taken xs past q) t =
      let y = F.wire_bytes j x in
      let ys = wires_bytes F (suc j) xs in (
        h.0 ∙ ap (λ (l : List ℕ). y ++ l) t.0 ∙ sym (append_assoc y ys q),
        omega (arith, h.1, t.1, length-append y ys),
        (ap suc t.2.0, (h.2, t.2.1)),
      )

  pub wires_told : (left n m j at : ℕ) (bytes : List ℕ) → ToldWires F left n j at bytes (wires_at F left n m j at bytes)
  unfolding wires_at and_then wires_bytes
  wires_told zero n m j at bytes = (refl, omega arith, (refl, tt))
  wires_told (suc left) n m j at bytes = go (F.wire_at n m j at bytes) (L.told n m j at bytes) (λ next rest. wires_told left n m (suc j) next rest)
    where
      go : (y : Read F.Shape) → ToldWire F n j at bytes y
          → ((next : ℕ) (rest : List ℕ) → ToldWires F left n (suc j) next rest (wires_at F left n m (suc j) next rest))
          → ToldWires F (suc left) n j at bytes
          (and_then y (λ x at' rest. and_then (wires_at F left n m (suc j) at' rest) (λ xs at'' rest''. taken (x ∷ xs) at'' rest'')))
      go (fault f) h t = tt
      go (taken x next rest) h t = more_told left n j at x next bytes rest h (wires_at F left n m (suc j) next rest) (t next rest)

  wires_back : (xs : List F.Shape) (n m j at : ℕ) (q : List ℕ) → j + length xs ≤ m → Each (F.WellFormed n) xs
      → wires_at F (length xs) n m j at (wires_bytes F j xs ++ q) ≡ taken xs (at + length (wires_bytes F j xs)) q
  unfolding wires_at wires_bytes and_then
  wires_back [] n m j at q l o = ap (λ z. taken [] z q) (omega arith)
  wires_back (x ∷ xs) n m j at q l o =
      let y = F.wire_bytes j x in
      let ys = wires_bytes F (suc j) xs in
      let e = L.back n m j at x (ys ++ q) (omega arith) o.0 in
      let f = wires_back xs n m (suc j) (at + length y) q (omega arith) o.1 in
      let len : at + length y + length ys ≡ at + length (y ++ ys) = omega (arith, length-append y ys) in
      rw (append_assoc y ys q, e, f, len)

  end_told : (n m at : ℕ) (stage : List F.Shape) (bytes rest : List ℕ) → (rest ≡ 0x2F ∷ [] → SheetOf F bytes n m stage)
      → ToldSheet F bytes (end_at F.known no_stage (got n m stage) at rest)
  unfolding end_at nothing_after
  end_told n m at stage bytes rest h =
      due_has (ToldSheet F bytes) F.known no_stage 0x2F at (nothing_after no_stage (got n m stage) at) (λ _. tt) rest (λ q e. go q e)
    where
      go : (q : List ℕ) → rest ≡ 0x2F ∷ q → ToldSheet F bytes (nothing_after no_stage (got n m stage) at q)
      go [] e = h e
      go (b ∷ q) e = tt

  closed_told : (n m : ℕ) (bytes rest : List ℕ) → Sized F.most n m → bytes ≡ 0x20 ∷ n ∷ m ∷ rest → (y : Read (List F.Shape)) → ToldWires F m n 0 3 rest y
      → ToldSheet F bytes (closed F n m y)
  unfolding closed stage_bytes
  closed_told n m bytes rest z e (fault f) h = tt
  closed_told n m bytes rest z e (taken stage at q) h =
      end_told n m at stage bytes q
      (λ d. record {
        is = e ∙ ap (λ (l : List ℕ). 0x20 ∷ n ∷ m ∷ l) (h.0 ∙ ap (λ (l : List ℕ). wires_bytes F 0 stage ++ l) d);
        sizes = z;
        one_each = h.2.0;
        formed = h.2.1;
      })

  sheet_told : (bytes : List ℕ) → ToldSheet F bytes (read_sheet F bytes)
  unfolding read_sheet operand
  sheet_told bytes = due_has (ToldSheet F bytes) F.known no_stage 0x20 0 _ (λ _. tt) bytes (λ rest e. rw e (sizes rest))
    where
      sizes : (rest : List ℕ)
          → ToldSheet F (0x20 ∷ rest)
          (operand no_stage 0
          (λ n. operand no_stage 0 (λ m rest. cond (sizes_out F.most n m) (no_stage (refusal_at out_of_range 0)) (closed F n m (wires_at F m n m 0 3 rest))))
          rest)
      sizes [] = tt
      sizes (n ∷ []) = tt
      sizes (n ∷ m ∷ rest) =
          cond_has (ToldSheet F (0x20 ∷ n ∷ m ∷ rest)) (sizes_out F.most n m) (λ _. tt)
          (λ o.
          closed_told n m (0x20 ∷ n ∷ m ∷ rest) rest (sizes_in F.most n m (test_no (sizes_out F.most n m) o)) refl (wires_at F m n m 0 3 rest) (wires_told m n m 0 3 rest))

  -- (2) every accepted sheet is of that kind
  pub accepted : (bytes : List ℕ) (n m : ℕ) (stage : List F.Shape) → read_sheet F bytes ≡ got n m stage → SheetOf F bytes n m stage
  accepted bytes n m stage e = subst (ToldSheet F bytes) e (sheet_told bytes)

  -- (1) the bytes of well-formed drawings, one for each wire, are read as those drawings
  pub read_back : (n m : ℕ) (stage : List F.Shape) → Sized F.most n m → length stage ≡ m → Each (F.WellFormed n) stage
      → read_sheet F (stage_bytes F n m stage) ≡ got n m stage
  unfolding read_sheet due due_number operand stage_bytes closed end_at nothing_after
  read_back n m stage z l o =
      let w = wires_back stage n m 0 3 (0x2F ∷ []) (omega arith) o in
      let w' : wires_at F m n m 0 3 (wires_bytes F 0 stage ++ 0x2F ∷ []) ≡ taken stage (3 + length (wires_bytes F 0 stage)) (0x2F ∷ []) = rw l at w in
      rw (sizes_fit F.most n m z, w')

  -- (3) what is written is read back as what was drawn (the whole round trip: proofs/RoundTrip)
  module _ (n m : ℕ) (tables : List ℕ) (z : Sized F.most n m) (fits : m ≤ length tables) (in_range : (j : ℕ) → j < m → get_or tables j 0 < 2 ^ (2 ^ n)) where
    -- the tables that are read are in range
    pub taken_in : (j : ℕ) → j < length (take m tables) → get_or (take m tables) j 0 < 2 ^ (2 ^ n)
    taken_in j l = let h : j < m = rw (length-take-le m tables fits) at l in rw (get_or-take m tables j 0 h) (in_range j h)

    pub written_back : read_sheet F (stage_of F n m tables) ≡ got n m (stage_drawn F n m tables)
    unfolding stage_of stage_drawn
    written_back =
        let ts = take m tables in
        read_back n m (stage_drawn F n m tables) z (length-map ts (F.reduced n) ∙ length-take-le m tables fits)
        (rw (drawn_least F L n m tables z.n_most)
        (least_formed (drawing F) n (F.count n) (L.fair n z.n_most) ts (each_intro (λ t. t < 2 ^ (2 ^ n)) ts 0 taken_in)))
