use Rattle.std.proofs.Common.{◌≡◌, ◌*◌, ◌^◌, ◌<◌, drop}
use Rattle.commands.specs.Hex.{number_from}
use Rattle.commands.proofs.hex.set.Given as goal

abbrev pub invariant-loop-b : goal.invariant-loop-b
invariant-loop-b l = (number_from l.bits (drop l.b-index l.text) ≡ number_from 0 l.text) × (l.bits < 2 ^ (4 * l.b-index))
