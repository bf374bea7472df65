use Rattle.std.proofs.Common.{rules}
use Rattle.checking.specs.Links.{node}
use Rattle.checking.specs.Answer.{heavy}
use Rattle.checking.proofs.weight.lowest_too_heavy.Goals as goal

pub returns : goal.returns
returns c = c.lowest.ensures (heavy (node c.args.nodes.now)) (λ n b h e. search rules)
