use Rattle.std.proofs.lemmas.Nat.{one_shl}
use Rattle.checking.proofs.Bits.{one_holds}
use Rattle.checking.proofs.set.NodeSet.one.Goals as goal

pub returns : goal.returns
returns c = λ j. rw (one_shl c.args.n 128 c.requires) (one_holds c.args.n j)
