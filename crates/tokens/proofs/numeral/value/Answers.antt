use Rattle.std.proofs.Common.{◌+◌, ◌-◌, ◌*◌, get_or, drop, arith}
use Rattle.std.proofs.lemmas.Bool.Decides.{nat_tests}
use Rattle.std.proofs.lemmas.List.{at_drop_more}
use Rattle.tokens.specs.Numerals.{value_from}
use Rattle.tokens.proofs.Numerals.{value_grows}
use Rattle.tokens.proofs.numeral.value.Goals as goal

pub returns-then-n-from-clause-number : goal.returns-then-n-from-clause-number
returns-then-n-from-clause-number c =
    let e = at_drop_more (value_from c.loop-digit.n) c.args.digits.now c.loop-digit.digit-index 0 (omega arith) in
    let i = c.loop-digit.invariant in
    let f = c.from.ensures in
    let v = value_grows (c.loop-digit.n * 10 + (get_or c.args.digits.now c.loop-digit.digit-index 0 - 48)) (drop (c.loop-digit.digit-index + 1) c.args.digits.now) in
    grind (arith, nat_tests)
