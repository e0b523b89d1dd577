-- `write_copy` meets its contract: the length is told first, and a buffer without the room is left.
use Prim.Native.Nat.{◌<◌, ◌≤◌}
use mathlib.Core.Path.{sym, subst}
use lib.ListN.{length}
use Rattle.base.proofs.Buffers.{fitted_short, fitted_room, buffer_left, buffer_stored}
use Rattle.clean.specs.Copy.{copy_bytes}
use Rattle.clean.proofs.copies.write_copy.Goals as goal

pub returns-then-buffer-length : goal.returns-then-buffer-length
returns-then-buffer-length c =
    let a = c.args in
    let k = c.copy_length-length in
    let less : length a.buffer.now < length (copy_bytes a.sheet) = subst (λ x. length a.buffer.now < x) k.ensures.0 c.if-buffer-length.true in
    let short = fitted_short (copy_bytes a.sheet) (length a.buffer.now) less in
    (rw (c.at.ensures, k.ensures.0) (sym short), buffer_left (copy_bytes a.sheet) a.buffer.now _ short)

pub returns : goal.returns
returns c =
    let a = c.args in
    let k = c.copy_length-length in
    let room : length (copy_bytes a.sheet) ≤ length a.buffer.now =
    subst (λ x. x ≤ length a.buffer.now) k.ensures.0 c.if-buffer-length.false in
    let taken = fitted_room (copy_bytes a.sheet) (length a.buffer.now) room in
    (rw k.ensures.0 (sym taken), buffer_stored (copy_bytes a.sheet) a.buffer.now _ taken room c.put_copy.ensures)
