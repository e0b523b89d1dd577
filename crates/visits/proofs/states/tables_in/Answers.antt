-- `tables_in` meets its contract: each wire's table is joined from its lanes.
use lib.ListN.{get_or}
use Rattle.base.proofs.Tabulate.{tabulate_four}
use Rattle.visits.specs.Inner.States.{joined_of, state_of}
use Rattle.visits.proofs.states.tables_in.Goals as goal

pub returns : goal.returns
unfolding state_of
returns c =
    let b = c.args.state.now.best in
    tabulate_four (joined_of (get_or b 0 0) (get_or b 1 0) (get_or b 2 0) (get_or b 3 0)) c.joined.ensures c.joined-2.ensures c.joined-3.ensures c.joined-4.ensures
