use Rattle.std.proofs.Common.{arith}
use Rattle.states.specs.State.{state}
use Rattle.states.proofs.Sizes.{cells_pos}
use Rattle.states.proofs.size.+remaining.Goals as goal

pub returns-then-limit-eq0 : goal.returns-then-limit-eq0
returns-then-limit-eq0 t c = λ fits. omega (arith, cells_pos (state c.args.tree.now))
