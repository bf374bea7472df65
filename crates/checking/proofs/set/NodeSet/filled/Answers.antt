use Rattle.std.proofs.Common.{arith}
use Rattle.checking.proofs.Bits.{none_holds}
use Rattle.checking.proofs.set.NodeSet.filled.Goals as goal

pub loop-n-init : goal.loop-n-init
loop-n-init g c = record { below = λ m h. absurd (omega arith); rest = λ m h. none_holds m }
