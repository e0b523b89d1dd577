-- `part` meets its contract: the library's part where the bytes do not end before it, and none where they do.
use Rattle.std.proofs.Common.{ℕ, ◌+◌, ◌<◌, ◌≤◌, ◌≡◌, List, [], length, refl, ap, ◌∙◌, arith}
use Rattle.std.specs.Prelude.{Option, None, Some}
use Rattle.std.specs.Option.{unwrap_or}
use Rattle.std.specs.Slice.{IsGetRangeResult}
use borrow.Author.Tests.{le-leb, lt-leb}
use denote.Ref.{Bor}
use native.Mathlib.Nat.{add-sub_cancel_left}
use Rattle.samples.specs.Inner.Records.{part_of}
use Rattle.samples.proofs.records.part.Goals as goal

got : (s : List ℕ) (from count : ℕ) (o : Option (Bor (List ℕ))) (none : Bor (List ℕ)) → none.now ≡ [] → IsGetRangeResult s from (from + count) o
    → (unwrap_or o none).now ≡ part_of s from count
unfolding part_of
got s from count None none e g = let short : length s < from + count = omega (arith, g) in e ∙ simp (lt-leb _ _ short)
got s from count (Some x) none e g = let long : from + count ≤ length s = g.0.1 in g.0.2 ∙ simp (le-leb _ _ long, add-sub_cancel_left from count)

pub returns : goal.returns
returns c = ap (λ (b : Bor (List ℕ)). b.now) c.unwrap_or.ensures ∙ got c.args.s.now c.args.from c.args.count c.get.result _ refl c.get.ensures.lookup
