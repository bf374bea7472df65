use Rattle.std.proofs.Common.{arith}
use Rattle.checking.specs.Sets.{holds}
use Rattle.checking.proofs.Counting.{ones_counted}
use Rattle.checking.proofs.set.NodeSet.size.Goals as goal

pub returns : goal.returns
unfolding holds
returns c = ones_counted 128 c.args.self.bits (omega arith)
