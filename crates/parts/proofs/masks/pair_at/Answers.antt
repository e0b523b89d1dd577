-- `pair_at` meets its contract: the two halves are those of the word.
use Rattle.parts.proofs.MaskRows.{pair_made}
use Rattle.parts.proofs.masks.pair_at.Goals as goal

pub returns : goal.returns
returns c =
    let i = c in
    pair_made i.args.masks.now i.args.q i.args.j c.half_at.ensures.0 c.half_at-2.ensures.0
