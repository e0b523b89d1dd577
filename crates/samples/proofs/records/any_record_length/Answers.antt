-- `any_record_length` meets its contract: the record of a joint quote has two parts, and any other letter is that of a record of a quote.
use Rattle.std.proofs.Common.{◌≡◌, arith}
use borrow.Author.Tests.{ne_eqb}
use Rattle.samples.specs.Inner.Records.{any_record_length}
use Rattle.samples.proofs.records.any_record_length.Goals as goal

pub returns-in-74 : goal.returns-in-74
unfolding any_record_length
returns-in-74 c =
    let k = c.length_at.ensures in
    let l = c.length_at-in-74.ensures in (
      simp (← c.byte_at-letter.ensures, c.in-74.is) (omega (arith, k.0, l.0)),
      omega arith,
      omega (arith, k.1, l.1),
    )

pub returns-in_default : goal.returns-in_default
unfolding any_record_length
returns-in_default c =
    let other : c.byte_at-letter.result ≡ 0x4A → ⊥ = λ e. omega arith in
    let r = c.record_length.ensures in
    (simp (← c.byte_at-letter.ensures, ne_eqb c.byte_at-letter.result 0x4A other) r.0, r.1, omega (arith, r.2))
