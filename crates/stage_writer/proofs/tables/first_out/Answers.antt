-- `first_out` meets its contract: what the search of the first m tables finds.
use Rattle.std.proofs.Common.{◌≡◌, ◌^◌, take, ◌∙◌, arith, rules}
use Rattle.std.specs.List.{position}
use Rattle.std.proofs.lemmas.Iterator.{YieldsList-from_slice}
use Rattle.std.proofs.lemmas.Iterator.Search.{position_from_yields_List}
use Rattle.sheet.specs.Limits.{is_beyond}
use Rattle.stage_writer.proofs.Firsts.{first_position}
use Rattle.stage_writer.proofs.tables.first_out.Goals as goal

pub returns : goal.returns
returns c =
    let a = c.args in
    let out = is_beyond (2 ^ a.n) in
    let found : c.position.result ≡ position out (take c.from.result a.tables) =
    position_from_yields_List out _ _ _ c.position.ensures.ran (YieldsList-from_slice _ c.iter.ensures.rest) (λ x b q k. search rules) in
    found ∙ rw c.from.ensures (first_position out a.m a.tables (omega arith))
