use Rattle.std.proofs.Common.{rules}
use Rattle.checking.proofs.free.free_sets.Goals as goal

pub returns : goal.returns
returns c = λ v n h. let e = c.from_fn.ensures v in search rules
