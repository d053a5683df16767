-- `lines::number::put_digits` writes no digit, one, or the last one behind the others. Assumes nothing.
use Rattle.std.proofs.Common.{arith}
use Rattle.lines.proofs.Text.{digits_none, digits_one, digits_more}
use Rattle.lines.proofs.number.+put_digits.Goals as goal

pub returns-then-places-eq0 : goal.returns-then-places-eq0
returns-then-places-eq0 t c = digits_none _ _ c.if-places-eq0.true (omega arith)

pub returns-then-n-lt10 : goal.returns-then-n-lt10
returns-then-n-lt10 t c = digits_one _ _ c.if-places-eq0.false c.if-n-lt10.true c.put_byte.ensures

pub returns : goal.returns
returns t c = digits_more _ _ c.if-places-eq0.false c.if-n-lt10.false c.put_digits-next.ensures c.put_byte-2.ensures
