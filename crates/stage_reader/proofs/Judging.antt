-- Laws of judging an entry by what the numbers tell.
use Rattle.std.proofs.Common.{◌≡◌, ℕ, ◌+◌, ◌<◌, ◌≤◌, ◌⊎◌, true, false, cond, ◌||◌, leb, get_or, ◌∙◌, arith}
use Rattle.std.proofs.lemmas.Bool.Decides.{nat_tests}
use borrow.Author.Tests.{lt-leb}
use Rattle.base.specs.Refusals.{out_of_range, no_signal, not_ascending}
use Rattle.sheet.specs.Limits.{count_out}
use Rattle.diagram.specs.Diagram.{next_number}
use Rattle.diagram.specs.Read.{entry_refusal}
use Rattle.stage_reader.specs.Inner.Numbers.{as_entry, no_entry, entries_so_far, Told}
use Rattle.stage_reader.specs.declared.numbers.Entry.{Entry as EntryRead}
use Rattle.stage_reader.specs.declared.numbers.Numbers.TheInside.{Inside}
use Rattle.stage_reader.proofs.Numbering.{own_number}

module _ (x : Inside) (told : Told x) (e : EntryRead) where
  abbrev pub judgement : ℕ
  judgement = entry_refusal x.n (entries_so_far x) (as_entry e)

  pub no_input : count_out e.input x.n ≡ true → judgement ≡ out_of_range
  unfolding entry_refusal
  no_input h = rw h

  module _ (in_range : count_out e.input x.n ≡ false) where
    pub no_such_number : (2 + x.count ≤ e.on_zero) ⊎ ((e.on_zero < 2 + x.count) × (2 + x.count ≤ e.on_one)) → judgement ≡ no_signal
    unfolding entry_refusal
    no_such_number h = let own = own_number x told in rw in_range (grind (arith, nat_tests))

    module _ (zero_there : e.on_zero < 2 + x.count) (one_there : e.on_one < 2 + x.count) where
      abbrev pub zero_input : ℕ
      zero_input = (get_or x.entries e.on_zero no_entry).input

      abbrev pub one_input : ℕ
      one_input = (get_or x.entries e.on_one no_entry).input

      lower : judgement ≡ cond (leb zero_input e.input || leb one_input e.input) not_ascending 0
      unfolding entry_refusal
      lower =
          let own = own_number x told in
          let zero_lower : e.on_zero < next_number (entries_so_far x) = omega arith in
          let one_lower : e.on_one < next_number (entries_so_far x) = omega arith in
          rw (in_range, lt-leb _ _ zero_lower, lt-leb _ _ one_lower, (told.tell e.on_zero zero_lower).input, (told.tell e.on_one one_lower).input)

      pub too_early : (zero_input ≤ e.input) ⊎ ((e.input < zero_input) × (one_input ≤ e.input)) → judgement ≡ not_ascending
      too_early h = lower ∙ grind (arith, nat_tests)

      pub follows : e.input < zero_input → e.input < one_input → judgement ≡ 0
      follows z o = lower ∙ rw (lt-leb _ _ z, lt-leb _ _ o)
