use Rattle.std.proofs.Common.{◌≡◌, ◌≤◌, drop}
use Rattle.tokens.specs.Numerals.{value_from}
use Rattle.tokens.proofs.numeral.value.Given as goal

abbrev pub invariant-loop-digit : goal.invariant-loop-digit
invariant-loop-digit l = (value_from l.n (drop l.digit-index l.digits) ≡ value_from 0 l.digits) × (l.n ≤ l.most)
