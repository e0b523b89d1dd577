-- A sheet longer than any stage, over the form of a wire: the end of a stage and a byte after it stand within one byte more than the longest stage has, so
-- reading looks no further.
use Prim.Native.Nat.{ℕ, zero, suc, ◌+◌, ◌*◌, ◌<◌, ◌≤◌}
use mathlib.Core.Path.{◌≡◌, refl, sym, ap, subst, ◌∙◌}
use mathlib.Core.Logic.{⊎_elim}
use mathlib.Core.List.{List, [], ◌∷◌, ◌++◌}
use native.Mathlib.Omega.{arith}
use native.Mathlib.Nat.{mul-le-mul_right}
use lib.Dec.{leb, leb→le, nleb→lt}
use lib.ListN.{length, take, drop, length-append, take-append-drop}
use lib.Seq.{take_all, length-take-le}
use Rattle.base.specs.Each.{Each}
use Rattle.base.proofs.Tests.{decide, cond_has₂, test_no}
use Rattle.sheet.specs.Limits.{max_wires, sizes_out}
use Rattle.sheet.proofs.Sizes.{sizes_in}
use Rattle.table.specs.Drawing.{StageSheet, got, no_stage}
use Rattle.stage.specs.Steps.{Read, taken, fault, operand}
use Rattle.stage.specs.Form.{StageForm}
use Rattle.stage.specs.Bytes.{wires_bytes, stage_bytes}
use Rattle.stage.specs.Read.{wires_at, nothing_after, end_at, closed, read_sheet}
use Rattle.stage.specs.Inner.Laws.{with_more, ToldWire, FormLaws}
use Rattle.stage.proofs.Steps.{due_more, then_more}
use Rattle.stage.proofs.Lengths.{longest_wire, longest_of, wire_most_lem}
use Rattle.stage.proofs.Sheets.{ToldWires, wires_told, accepted}

module _ (F : StageForm) (L : FormLaws F) where
  -- bytes that tell the wires that are left and the end
  abbrev room_for : ℕ → ℕ
  room_for left = left * longest_wire F L + 2

  wires_more : (left n m j at : ℕ) (bytes q : List ℕ) → n ≤ F.most → room_for left ≤ length bytes
      → wires_at F left n m j at (bytes ++ q) ≡ with_more q (wires_at F left n m j at bytes)
  unfolding wires_at with_more
  wires_more zero n m j at bytes q s h = refl
  wires_more (suc left) n m j at bytes q s h =
      rw (L.more n m j at bytes q s (omega arith))
      (then_more q (F.wire_at n m j at bytes) _ (λ x next rest e.
      let told : ToldWire F n j at bytes (taken x next rest) = subst (ToldWire F n j at bytes) e (L.told n m j at bytes) in
      let long : length bytes ≡ length (F.wire_bytes j x) + length rest = ap length told.0 ∙ length-append (F.wire_bytes j x) rest in
      let short = wire_most_lem F L n j x s told.2 in
      rw (wires_more left n m (suc j) next rest q s (omega arith)) (then_more q (wires_at F left n m (suc j) next rest) _ (λ _ _ _ _. refl))))

  -- the wires leave two bytes to the end
  wires_short : (n left j : ℕ) (xs : List F.Shape) → n ≤ F.most → length xs ≡ left → Each (F.WellFormed n) xs
      → length (wires_bytes F j xs) + 2 ≤ room_for left
  unfolding wires_bytes
  wires_short n left j [] s e o = omega arith
  wires_short n zero j (x ∷ xs) s e o = absurd (omega arith)
  wires_short n (suc left) j (x ∷ xs) s e o =
      let first = wire_most_lem F L n j x s o.0 in
      let others = wires_short n left (suc j) xs s (omega arith) o.1 in
      omega (arith, length-append (F.wire_bytes j x) (wires_bytes F (suc j) xs), first, others)

  -- the end is told by two bytes
  end_more : (whole : StageSheet F.Shape) (at : ℕ) (rest q : List ℕ) → 2 ≤ length rest
      → end_at F.known no_stage whole at (rest ++ q) ≡ end_at F.known no_stage whole at rest
  unfolding end_at nothing_after
  end_more whole at [] q h = absurd (omega arith)
  end_more whole at (b ∷ []) q h = absurd (omega arith)
  end_more whole at (b ∷ d ∷ rest) q h =
      due_more (λ x y. x ≡ y) F.known no_stage 0x2F at (nothing_after no_stage whole at) (λ _. refl) b (d ∷ rest) q refl

  closed_more : (n m : ℕ) (bytes q : List ℕ) → n ≤ F.most → room_for m ≤ length bytes → (y : Read (List F.Shape)) → ToldWires F m n 0 3 bytes y
      → closed F n m (with_more q y) ≡ closed F n m y
  unfolding closed with_more
  closed_more n m bytes q s h (fault f) t = refl
  closed_more n m bytes q s h (taken xs at rest) t =
      let long : length bytes ≡ length (wires_bytes F 0 xs) + length rest = ap length t.0 ∙ length-append (wires_bytes F 0 xs) rest in
      let short = wires_short n m 0 xs s t.2.0 t.2.1 in
      end_more (got n m xs) at rest q (omega arith)

  room_most : (m : ℕ) → m ≤ max_wires → room_for m + 2 ≤ longest_of F L
  room_most m h = omega (arith, mul-le-mul_right (longest_wire F L) h)

  -- no sheet that is accepted is longer than the longest stage
  pub none_longer : (bytes : List ℕ) (n m : ℕ) (stage : List F.Shape) → read_sheet F bytes ≡ got n m stage → length bytes ≤ longest_of F L
  unfolding stage_bytes
  none_longer bytes n m stage e =
      let s = accepted F L bytes n m stage e in
      let short = wires_short n m 0 stage s.sizes.n_most s.one_each s.formed in
      let long : length bytes ≡ 4 + length (wires_bytes F 0 stage) = omega (arith, ap length s.is, length-append (wires_bytes F 0 stage) (0x2F ∷ [])) in
      omega (arith, room_most m s.sizes.m_most)

  -- more bytes than the longest stage has tell the reply
  pub enough : (bytes q : List ℕ) → longest_of F L < length bytes → read_sheet F (bytes ++ q) ≡ read_sheet F bytes
  unfolding read_sheet operand
  enough [] q h = absurd (omega arith)
  enough (b ∷ []) q h = absurd (omega arith)
  enough (b ∷ n ∷ []) q h = absurd (omega arith)
  enough (b ∷ n ∷ m ∷ rest) q h =
      due_more (λ x y. x ≡ y) F.known no_stage 0x20 0 _ (λ _. refl) b (n ∷ m ∷ rest) q
      (cond_has₂ (λ x y. x ≡ y) (sizes_out F.most n m) (λ _. refl)
      (λ o.
      let z = sizes_in F.most n m (test_no (sizes_out F.most n m) o) in
      let room : room_for m ≤ length rest = omega (arith, room_most m z.m_most) in
      rw (wires_more m n m 0 3 rest q z.n_most room)
      (closed_more n m rest q z.n_most room (wires_at F m n m 0 3 rest) (wires_told F L m n m 0 3 rest))))

  -- reading looks at no byte past that one
  pub front_tells : (s : List ℕ) (k : ℕ) → longest_of F L < k → read_sheet F (take k s) ≡ read_sheet F s
  front_tells s k h =
      ⊎_elim (λ t. ap (read_sheet F) (take_all k s (leb→le (length s) k t)))
      (λ u.
      let long : k < length s = nleb→lt (length s) k u in
      sym (enough (take k s) (drop k s) (rw (length-take-le k s (omega arith)) h)) ∙ ap (read_sheet F) (take-append-drop k s))
      (decide (leb (length s) k))
