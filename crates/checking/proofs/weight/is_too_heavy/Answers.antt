use Rattle.checking.specs.Links.{node}
use Rattle.checking.proofs.Weigh.{heavy_is}
use Rattle.checking.proofs.weight.is_too_heavy.Goals as goal

pub returns : goal.returns
returns c = heavy_is (node c.args.nodes.now) c.args.n c.remaining.result c.is_none.result c.is_none.ensures (c.remaining.ensures.leaves _ c.requires)
