use Rattle.checking.proofs.Bits.{join_holds}
use Rattle.checking.proofs.set.NodeSet.join.Goals as goal

pub returns : goal.returns
returns c = λ j. join_holds c.args.self.bits c.args.other.bits j
