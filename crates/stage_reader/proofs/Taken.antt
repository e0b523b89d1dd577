-- Laws of what was taken behind what a reader of one wire hands back.
use Prim.Native.Nat.{ℕ, ◌+◌}
use mathlib.Core.Path.{◌≡◌, sym, ap, ◌∙◌}
use mathlib.Core.List.{List, ◌++◌}
use native.Mathlib.Omega.{arith}
use lib.ListN.{length, drop}
use lib.Seq.{drop-drop, drop-append_seam}
use Rattle.base.specs.Cases.{refused_outcome}
use Rattle.base.specs.declared.Refusal.{Refusal}
use Rattle.base.proofs.Cases.{same_refusal}
use Rattle.table.specs.Drawing.{Drawing, drawn_table}
use Rattle.stage.specs.Steps.{Read, taken, fault}
use Rattle.stage.specs.Inner.Laws.{TakenAs}
use Rattle.stage_reader.specs.Inner.Wires.{WireReply, taken_wire, refused_wire, wire_reply, step_of}
use Rattle.stage_reader.specs.declared.steps.Wire.{Wire}
use Rattle.std.specs.Prelude.{Result, IsErrAnd}
use Rattle.stage_reader.proofs.Exits.{exit_told}

-- a table, the cells and the place after them, as the code hands them over
abbrev pub handed : ℕ × (ℕ × (ℕ × Unit {0})) → WireReply
handed x = taken_wire x.0 x.1.0 x.1.1.0

-- the bytes after a part of a slice are those at the place after it
after_part : (s : List ℕ) (at next : ℕ) (x rest : List ℕ) → drop at s ≡ x ++ rest → next ≡ at + length x → rest ≡ drop next s
after_part s at next x rest e f =
    sym (drop-append_seam x rest) ∙ ap (λ (l : List ℕ). drop (length x) l) (sym e) ∙ drop-drop (length x) at s ∙ ap (λ (p : ℕ). drop p s) (sym f)

never : {A : Type 0} (f : Refusal) (t c x : ℕ) → taken_wire t c x ≡ refused_wire f → A
never f t c x e = absurd (omega (arith, ap (λ (r : WireReply). r.answer.outcome) e))

module _ (D : Drawing) where
  -- a refusal is handed on
  pub step_refused_lem : (n : ℕ) (y : Read D.Shape) (f g : Refusal) → y ≡ fault f → g ≡ f → refused_wire g ≡ step_of D n y
  unfolding step_of
  step_refused_lem n y f g e d = rw (e, d)

  -- the same at the exit of a `?`
  pub exit_refused : (n : ℕ) (y : Read D.Shape) (r : Result Wire Refusal) (f g : Refusal) → IsErrAnd r (λ x. x ≡ g) → y ≡ fault f → g ≡ f
      → wire_reply r ≡ step_of D n y
  exit_refused n y r f g h e d = exit_told wire_reply r g (step_of D n y) h (step_refused_lem n y f g e d)

  pub fell : (n : ℕ) (f : Refusal) (y : Read D.Shape) → refused_wire f ≡ step_of D n y → y ≡ fault f
  unfolding step_of
  fell n f (fault g) e = ap fault (sym (same_refusal refused_outcome f g (ap (λ (r : WireReply). r.answer) e)))
  fell n f (taken x past rest) e = never f _ _ _ (sym e)

  module _ (P : D.Shape → Type 0) where
    -- what was taken behind what is handed back
    pub record Took (y : Read D.Shape) (s : List ℕ) (n t c next : ℕ) : Type 0 where
      pub shape : D.Shape
      pub is : y ≡ taken shape next (drop next s)
      pub table : t ≡ drawn_table D n shape
      pub cells : c ≡ D.cells shape
      pub formed : P shape

    -- what is told by its bytes goes on at the slice's place after them, which is handed back
    pub took : (as_bytes : D.Shape → List ℕ) (s : List ℕ) (n at t c next : ℕ) (y : Read D.Shape) → TakenAs as_bytes P at (drop at s) y
        → taken_wire t c next ≡ step_of D n y → Took y s n t c next
    unfolding step_of
    took as_bytes s n at t c next (fault f) h e = never f t c next e
    took as_bytes s n at t c next (taken x past rest) h e =
        let p : next ≡ past = ap (λ (r : WireReply). r.next) e in
        let q : rest ≡ drop next s = after_part s at next (as_bytes x) rest h.0 (p ∙ h.1) in
        record { shape = x; is = cc; table = ap (λ (r : WireReply). r.table) e; cells = ap (λ (r : WireReply). r.cells) e; formed = h.2 }
