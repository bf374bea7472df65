use Rattle.std.proofs.Common.{rules}
use Rattle.checking.proofs.free.naming.Goals as goal

pub returns : goal.returns
returns c = λ n h. let e = c.filled.ensures n h in search rules
