use Rattle.std.proofs.Common.{get_or, arith}
use Rattle.commands.proofs.Digits.{digit_small, room, number_more, set_refused, set_all}
use Rattle.commands.proofs.hex.set.Goals as goal

pub returns-in_err-digit : goal.returns-in_err-digit
returns-in_err-digit c = rw c.from_residual.ensures (set_refused c.args.text.now c.loop-b.bits c.loop-b.b-index c.loop-b.invariant.0 c.if-text-ne16.false c.loop-b-test.true c.in_err-digit.ensures)

pub overflow_mul-bits : goal.overflow_mul-bits
overflow_mul-bits c = omega (arith, room c.loop-b.b-index c.loop-b.bits 0 (omega arith) c.loop-b.invariant.1 (omega arith))

pub overflow_add-bits : goal.overflow_add-bits
overflow_add-bits c =
    omega (arith, room c.loop-b.b-index c.loop-b.bits c.in_ok-digit.field-0 (omega arith) c.loop-b.invariant.1 (digit_small (get_or c.args.text.now c.loop-b.b-index 0) c.in_ok-digit.field-0 c.in_ok-digit.ensures))

pub loop-b-preserved : goal.loop-b-preserved
loop-b-preserved c = rw c.from.ensures (
  number_more c.args.text.now c.loop-b.bits c.loop-b.b-index c.loop-b.invariant.0 c.in_ok-digit.field-0 c.loop-b-test.true c.in_ok-digit.ensures,
  (room c.loop-b.b-index c.loop-b.bits c.in_ok-digit.field-0 (omega arith) c.loop-b.invariant.1 (digit_small (get_or c.args.text.now c.loop-b.b-index 0) c.in_ok-digit.field-0 c.in_ok-digit.ensures)).0,
)

pub returns : goal.returns
returns c = set_all c.args.text.now c.loop-b.bits c.loop-b.b-index c.loop-b.invariant.0 c.if-text-ne16.false c.loop-b-test.false
