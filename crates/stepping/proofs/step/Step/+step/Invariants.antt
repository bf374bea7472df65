use Rattle.std.proofs.Common.{◌+◌, ◌*◌, get_or}
use Rattle.states.specs.State.{state}
use Rattle.stepping.specs.Stepping.{load}
use Rattle.stepping.proofs.step.Step.+step.Given as goal

abbrev pub decreases-node : goal.decreases-node
decreases-node l = 4 * get_or l.self.now.rule.now.rank l.n 0

abbrev pub decreases-part : goal.decreases-part
decreases-part l = load l.self.now.rule.now (state l.t.now)

abbrev pub decreases-owned : goal.decreases-owned
decreases-owned l = load l.self.now.rule.now (state l.t) + 1
