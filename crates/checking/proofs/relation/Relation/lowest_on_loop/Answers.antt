use Rattle.std.proofs.Common.{rules}
use Rattle.checking.specs.Paths.{in_row}
use Rattle.checking.proofs.relation.Relation.lowest_on_loop.Goals as goal

pub returns : goal.returns
returns c = c.lowest.ensures (λ n. in_row c.args.self.now.rows n n) (λ n b h e. search rules)
