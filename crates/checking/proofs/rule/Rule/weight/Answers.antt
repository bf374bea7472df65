use Rattle.checking.specs.Links.{node}
use Rattle.checking.proofs.Weighed.{weighs_rest, is_left}
use Rattle.checking.proofs.rule.Rule.weight.Goals as goal

pub unwrap-requires : goal.unwrap-requires
unwrap-requires c =
    let self = c.args.self.now in
    is_left (node self.nodes) self.count self.most self.ranged self.loopless c.args.n (self.light c.args.n) c.remaining.result c.remaining.ensures.leaves

pub returns : goal.returns
returns c =
    let self = c.args.self.now in
    weighs_rest (node self.nodes) self.count self.most self.ranged self.loopless c.args.n c.unwrap.result (rw c.unwrap.ensures at c.remaining.ensures.leaves)
