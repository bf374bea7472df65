use Rattle.std.proofs.Common.{refl}
use Rattle.checking.specs.Sets.{holds}
use Rattle.checking.proofs.set.NodeSet.has.Goals as goal

pub returns : goal.returns
unfolding holds
returns c = refl
