-- `push` meets its contract: the numbers tell the entry that was pushed as well.
use Rattle.std.proofs.Common.{◌≡◌, ◌≤◌, ◌∷◌, ap, ◌∙◌, length, arith, rules}
use Rattle.table.proofs.Wired.{selector_most}
use Rattle.diagram.specs.Diagram.{FitsAfter, wired_entry, entry_price}
use Rattle.stage_reader.specs.Inner.Listed.{Listed, listed}
use Rattle.stage_reader.specs.Inner.Numbers.{most_numbers, as_entry, entries_so_far}
use Rattle.stage_reader.proofs.Numbering.{room_left, cells_most, number_fits, entries_more, told_more}
use Rattle.stage_reader.proofs.numbers.Numbers.push.Goals as goal

pub select-table-requires : goal.select-table-requires
select-table-requires c =
    let x = c.self.inside in
    let t = c.self.invariant in
    let fits : FitsAfter x.n (entries_so_far x) (as_entry c.args.entry) = rw (← c.self.view_is) at c.requires.1 in (
      fits.least,
      fits.most,
      t.small,
      number_fits x t _ (omega (arith, fits.zero_lower, fits.one_lower)),
      number_fits x t _ (omega (arith, fits.zero_lower, fits.one_lower)),
    )

pub bounds-self-inside-own : goal.bounds-self-inside-own
bounds-self-inside-own c = omega (arith, room_left c.self.inside _ c.self.view_is c.requires.0)

pub bounds-self-inside-own-2 : goal.bounds-self-inside-own-2
bounds-self-inside-own-2 c = omega (arith, room_left c.self.inside _ c.self.view_is c.requires.0)

pub overflow_add-self-2 : goal.overflow_add-self-2
unfolding entry_price
overflow_add-self-2 c =
    let x = c.self.inside in
    let t = c.self.invariant in
    let one : c.price-price.result ≤ 1 = rw c.price-price.ensures (selector_most (wired_entry (as_entry c.args.entry))) in
    omega (arith, t.few, cells_most x t)

pub invariant_of-self : goal.invariant_of-self
invariant_of-self c =
    let x = c.self.inside in
    let fits : FitsAfter x.n (entries_so_far x) (as_entry c.args.entry) = rw (← c.self.view_is) at c.requires.1 in
    let room = room_left x _ c.self.view_is c.requires.0 in
    let tables_long : length x.tables ≡ most_numbers = search rules in
    let long : length x.entries ≡ most_numbers = search rules in
    told_more x c.self.invariant c.args.entry _ fits room tables_long long c.select-table.ensures _ c.price-price.ensures

pub returns : goal.returns
returns c =
    let x = c.self.inside in
    let fits : FitsAfter x.n (entries_so_far x) (as_entry c.args.entry) = rw (← c.self.view_is) at c.requires.1 in
    let room = room_left x _ c.self.view_is c.requires.0 in
    let tables_long : length x.tables ≡ most_numbers = search rules in
    let long : length x.entries ≡ most_numbers = search rules in
    ap (listed x.n) (entries_more x c.self.invariant c.args.entry _ fits room tables_long long c.select-table.ensures)
    ∙ ap (λ (l : Listed). listed l.inputs (as_entry c.args.entry ∷ l.entries)) c.self.view_is
