-- `put_decimal` meets its contract: the digits of a tenth of the number, and the last one.
use Rattle.text.proofs.Page.+put_decimal.Given as goal

abbrev pub decreases-put_decimal : goal.decreases-put_decimal
decreases-put_decimal l = l.x
