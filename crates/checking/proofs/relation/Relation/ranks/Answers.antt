use Rattle.std.proofs.Common.{rules}
use Rattle.checking.specs.Paths.{no_set}
use Rattle.checking.proofs.relation.Relation.ranks.Goals as goal

pub returns-clause-sizes : goal.returns-clause-sizes
returns-clause-sizes c = λ n h. let e = c.map.ensures.items.at n no_set 0 h in search rules
