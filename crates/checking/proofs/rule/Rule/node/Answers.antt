use Rattle.std.proofs.Common.{get_or, sym, subst}
use Rattle.rules.specs.declared.node.Node.{Node}
use Rattle.checking.specs.declared.links.Links.TheVariants.{Unguarded}
use Rattle.checking.specs.Links.{node, targets, Falls}
use Rattle.checking.proofs.Descends.{descends}
use Rattle.checking.proofs.rule.Rule.node.Goals as goal

pub returns : goal.returns
returns c =
    let self = c.args.self.now in
    let k = get_or self.rank c.args.n 0 in
    record {
      is = c.node_at.ensures;
      falls = subst (λ (x : Node). Falls self.rank k (targets Unguarded x)) (sym c.node_at.ensures) (descends self.rank k (targets Unguarded (node self.nodes c.args.n)) (self.falls c.args.n));
    }
