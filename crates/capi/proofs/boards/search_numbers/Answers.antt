-- `search_numbers` meets its contract: a refused search has no number but its refusal's, and no tables.
use Rattle.std.proofs.Common.{rules}
use Rattle.branch_bound.specs.Reply.{refused_with}
use Rattle.capi.proofs.boards.search_numbers.Goals as goal

pub returns-in-Err-clause-refusal : goal.returns-in-Err-clause-refusal
unfolding refused_with
returns-in-Err-clause-refusal c = search rules

pub returns-in-Err-clause-numbers : goal.returns-in-Err-clause-numbers
unfolding refused_with
returns-in-Err-clause-numbers c = search rules

pub returns-in-Err-clause-tables : goal.returns-in-Err-clause-tables
unfolding refused_with
returns-in-Err-clause-tables c = search rules
