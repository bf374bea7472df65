use Rattle.std.proofs.Common.{get_or}
use Rattle.states.proofs.ending.+node_ends.Given as goal

abbrev pub decreases-node_ends : goal.decreases-node_ends
decreases-node_ends l = get_or l.rule.now.rank l.n 0
