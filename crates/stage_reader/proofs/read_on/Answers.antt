-- `read_on` meets its contract: the head judged, then the wires and the end.
use Rattle.std.proofs.Common.{◌≡◌, ℕ, Bool, true, false, refl, sym, ap, ◌∙◌}
use Rattle.sheet.specs.Limits.{sizes_out}
use Rattle.nodes.specs.declared.BoardKind.{BoardKind}
use Rattle.nodes.specs.Counts.{most_inputs}
use Rattle.diagram.specs.Forms.{form_of, drawing_of}
use Rattle.diagram.proofs.Forms.{form_most}
use Rattle.stage_reader.specs.Cases.{stage_reply}
use Rattle.stage_reader.proofs.Exits.{exit_told}
use Rattle.stage_reader.proofs.Places.{head_stops, no_inputs, no_wires, head_out, head_goes}
use Rattle.stage_reader.proofs.Replies.{replies_refused}
use Rattle.stage_reader.proofs.read_on.Goals as goal

-- the test of the sizes by what the form has
abbrev out_on : BoardKind → ℕ → ℕ → Bool
out_on kind n m = sizes_out (form_of kind).most n m

tested : {most : ℕ} {out : Bool} (kind : BoardKind) (n m : ℕ) → most ≡ most_inputs kind → out ≡ sizes_out most n m → out ≡ out_on kind n m
tested kind n m told out = out ∙ ap (λ k. sizes_out k n m) (told ∙ sym (form_most kind))

pub returns-in_err-due : goal.returns-in_err-due
returns-in_err-due c =
    let k = c.args.kind in
    exit_told stage_reply _ _ _ c.from_residual.ensures.1
    (replies_refused (drawing_of k) _ _ _ (head_stops (form_of k) c.args.s.now _ c.in_err-due.ensures) refl)

pub returns-in_err-n : goal.returns-in_err-n
returns-in_err-n c =
    let k = c.args.kind in
    let cut = c.in_err-n.ensures in
    exit_told stage_reply _ _ _ c.from_residual-in_err-n.ensures.1
    (replies_refused (drawing_of k) _ _ _ (no_inputs (form_of k) c.args.s.now _ c.in_ok-due.ensures cut.0) cut.1)

pub returns-in_err-m : goal.returns-in_err-m
returns-in_err-m c =
    let k = c.args.kind in
    let n = c.in_ok-n.ensures in
    let cut = c.in_err-m.ensures in
    exit_told stage_reply _ _ _ c.from_residual-in_err-m.ensures.1
    (replies_refused (drawing_of k) _ _ _ (no_wires (form_of k) c.args.s.now _ c.in_ok-due.ensures _ n.0 n.1 cut.0) cut.1)

pub returns-then-sizes_out : goal.returns-then-sizes_out
returns-then-sizes_out c =
    let k = c.args.kind in
    let n = c.in_ok-n.ensures in
    let m = c.in_ok-m.ensures in
    let out : out_on k c.in_ok-n.n c.in_ok-m.m ≡ true = sym (tested k c.in_ok-n.n c.in_ok-m.m c.most_inputs.ensures c.sizes_out.ensures) ∙ c.if-sizes_out.true in
    replies_refused (drawing_of k) _ _ _ (head_out (form_of k) c.args.s.now _ c.in_ok-due.ensures _ n.0 n.1 _ m.0 m.1 out) c.at.ensures

pub returns : goal.returns
returns c =
    let k = c.args.kind in
    let n = c.in_ok-n.ensures in
    let m = c.in_ok-m.ensures in
    let in_range : out_on k c.in_ok-n.n c.in_ok-m.m ≡ false = sym (tested k c.in_ok-n.n c.in_ok-m.m c.most_inputs.ensures c.sizes_out.ensures) ∙ c.if-sizes_out.false in
    rw (head_goes (form_of k) c.args.s.now _ c.in_ok-due.ensures _ n.0 n.1 _ m.0 m.1 in_range) c.read_wires.ensures
