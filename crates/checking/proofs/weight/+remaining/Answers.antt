use Rattle.std.proofs.Common.{◌≡◌, ◌-◌, ◌<◌, ap, ◌∙◌, arith, rules}
use Rattle.checking.specs.declared.links.Links.TheVariants.{Unguarded}
use Rattle.checking.specs.Links.{node, targets}
use Rattle.checking.proofs.Weigh.{less_on, leaves_one, leaves_two}
use Rattle.checking.proofs.weight.+remaining.Goals as goal

pub returns-in-One : goal.returns-in-One
returns-in-One t c =
    let l : 0 < c.args.limit = search rules in
    let r : c.in_ok-rest.rest ≡ c.args.limit - 1 = search rules in
    let e = rw r at c.remaining.ensures in
    record {
      less = less_on c.remaining.result (c.args.limit - 1) c.args.limit (omega arith) e.less;
      leaves = leaves_one (node c.args.nodes.now) c.args.limit l _ c.remaining.result c.in-One.c (c.in-One.ensures ∙ ap (targets Unguarded) c.node_at.ensures) e.leaves;
    }

pub returns-in_ok-left-in-Two : goal.returns-in_ok-left-in-Two
returns-in_ok-left-in-Two t c =
    let l : 0 < c.args.limit = search rules in
    let r : c.in_ok-rest.rest ≡ c.args.limit - 1 = search rules in
    let h = c.in_ok-left-in-Two.ensures.less in
    let e = rw r at c.in_ok-left-in-Two.ensures.leaves in
    record {
      less = less_on c.remaining-in-Two-2.result c.in_ok-left-in-Two.left c.args.limit (omega arith) c.remaining-in-Two-2.ensures.less;
      leaves = leaves_two (node c.args.nodes.now) c.args.limit l _ c.remaining-in-Two-2.result c.in-Two.a c.in-Two.b c.in_ok-left-in-Two.left
          (c.in-Two.ensures ∙ ap (targets Unguarded) c.node_at.ensures) e c.remaining-in-Two-2.ensures.leaves;
    }
