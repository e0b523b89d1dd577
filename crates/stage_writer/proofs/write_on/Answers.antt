-- `write_on` meets its contract: what is refused, and otherwise the length and the bytes of the stage.
use Rattle.std.proofs.Common.{◌≡◌, ◌<◌, ◌≤◌, length, sym, ap, ◌∙◌}
use Rattle.std.proofs.lemmas.Result.{err_from_is_err_and}
use Rattle.base.specs.Cases.{accepting, accepted_outcome}
use Rattle.base.proofs.Buffers.{fitted_short, fitted_room}
use Rattle.stage.specs.Written.{stage_of}
use Rattle.stage.proofs.Written.{buffer_kept, buffer_written}
use Rattle.diagram.specs.Forms.{form_of}
use Rattle.stage_writer.proofs.write_on.Goals as goal

pub returns-in_err-stage : goal.returns-in_err-stage
returns-in_err-stage c =
    let a = c.args in
    let e = err_from_is_err_and c.from_residual.result c.from_residual.ensures.1 in
    let refused = c.in_err-stage.ensures (length a.buffer.now) in
    rw (e.1, e.2) (sym refused, buffer_kept (form_of a.kind) a.n a.m a.tables a.buffer.now _ refused)

pub returns-then-buffer-length : goal.returns-then-buffer-length
returns-then-buffer-length c =
    let a = c.args in
    let p = c.in_ok-stage.ensures in
    let bytes = stage_of (form_of a.kind) a.n a.m a.tables in
    let long : c.length-length.result ≡ length bytes = rw (p.0, p.1, p.2, p.3) at c.length-length.ensures in
    let short : length a.buffer.now < length bytes = rw long at c.if-buffer-length.true in
    let refused = p.4 (length a.buffer.now) ∙ fitted_short bytes (length a.buffer.now) short in
    rw (c.at.ensures, long) (sym refused, buffer_kept (form_of a.kind) a.n a.m a.tables a.buffer.now _ refused)

pub returns : goal.returns
returns c =
    let a = c.args in
    let p = c.in_ok-stage.ensures in
    let bytes = stage_of (form_of a.kind) a.n a.m a.tables in
    let long : c.length-length.result ≡ length bytes = rw (p.0, p.1, p.2, p.3) at c.length-length.ensures in
    let room : length bytes ≤ length a.buffer.now = rw long at c.if-buffer-length.false in
    let told = p.4 (length a.buffer.now) ∙ fitted_room bytes (length a.buffer.now) room in
    let stored = rw (p.0, p.1, p.2, p.3) at c.put_sheet.ensures in
    (ap (accepting accepted_outcome) long ∙ sym told, buffer_written (form_of a.kind) a.n a.m a.tables a.buffer.now _ told room stored)
