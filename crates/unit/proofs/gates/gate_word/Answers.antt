-- `gate_word` meets its contract: it takes each term as often as a gate of the kind does.
use borrow.Author.Rules.{rules}
use native.Mathlib.Omega.{arith}
use mir.Syntax.{w16}
use mir.Val.{Fits}
use lib.Bits.{and_lt, xor_lt}
use Rattle.sheet.specs.Limits.{word_bits}
use Rattle.unit.proofs.Bits.{times_lt}
use Rattle.unit.proofs.GateTerms.{gate_word}
use Rattle.unit.proofs.gates.gate_word.Goals as goal

pub overflow_mul-result : goal.overflow_mul-result
overflow_mul-result c =
    let a : Fits w16 c.args.a = search rules in
    let b : Fits w16 c.args.b = search rules in
    record { fits = times_lt word_bits (omega arith) (xor_lt word_bits c.args.a c.args.b a.fits b.fits) }

pub overflow_mul-result-2 : goal.overflow_mul-result-2
overflow_mul-result-2 c =
    let a : Fits w16 c.args.a = search rules in
    let b : Fits w16 c.args.b = search rules in
    record { fits = times_lt word_bits (omega arith) (and_lt word_bits c.args.a c.args.b a.fits b.fits) }

pub returns : goal.returns
returns c h = gate_word c.args.kind c.args.a c.args.b (omega arith) (omega arith) (omega arith) h
