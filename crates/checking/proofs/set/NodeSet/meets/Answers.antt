use Rattle.std.proofs.Common.{arith}
use Rattle.checking.proofs.Meeting.{meets_is}
use Rattle.checking.proofs.set.NodeSet.meets.Goals as goal

pub returns : goal.returns
returns c = meets_is c.args.self.bits c.args.other.bits (omega arith)
