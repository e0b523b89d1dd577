-- `put_decimal` meets its contract: the digits of a tenth of the number, and the last one.
use Rattle.std.proofs.Common.{◌/◌, ◌≤◌, length, arith}
use Rattle.text.specs.Text.{decimal}
use Rattle.text.proofs.Decimal.{decimal_one, decimal_more, decimal_length}
use Rattle.text.proofs.Pages.{adds_then, adds_bounded}
use Rattle.text.proofs.Page.+put_decimal.Goals as goal

pub returns-then-x-lt10 : goal.returns-then-x-lt10
returns-then-x-lt10 t c = rw (decimal_one c.args.x c.if-x-lt10.true) (adds_bounded 20 c.put_byte.ensures (omega arith))

pub put_byte-requires-2 : goal.put_byte-requires-2
put_byte-requires-2 t c =
    let fewer : length (decimal (c.args.x / 10)) ≤ 19 = decimal_length (c.args.x / 10) 18 (omega arith) in
    omega (arith, fewer)

pub returns : goal.returns
returns t c =
    let e = decimal_more c.args.x c.if-x-lt10.false in
    let long = decimal_length c.args.x 19 (omega arith) in
    rw e (adds_bounded 20 (adds_then c.put_decimal.ensures c.put_byte-2.ensures) (rw e at long))
