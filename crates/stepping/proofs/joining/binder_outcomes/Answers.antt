use Rattle.std.proofs.Common.{rules}
use Rattle.calculus.specs.Graphs.{graph_of}
use Rattle.calculus.specs.Numbers.{lookup}
use Rattle.calculus.specs.Outcomes.{released}
use Rattle.calculus.specs.Steps.{Outcome as Out}
use Rattle.stepping.specs.Adding.{outcomes_in}
use Rattle.stepping.proofs.Collecting.{collects, gathered}
use Rattle.stepping.proofs.joining.binder_outcomes.Goals as goal

pub returns : goal.returns
returns c =
    let g : Out → Out = λ x. released (graph_of c.args.rule.now) c.args.v (lookup x.1 c.args.v) x in
    collects c.with_each.result c.new.ensures (gathered g (outcomes_in c.args.ps)) (c.with_each.ensures g (λ o r h. search rules))
