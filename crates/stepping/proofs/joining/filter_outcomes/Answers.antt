use Rattle.std.proofs.Common.{rules}
use Rattle.calculus.specs.States.{filter}
use Rattle.calculus.specs.Steps.{Outcome as Out}
use Rattle.stepping.specs.Adding.{outcomes_in}
use Rattle.stepping.proofs.Collecting.{collects, gathered}
use Rattle.stepping.proofs.joining.filter_outcomes.Goals as goal

pub returns : goal.returns
returns c =
    let g : Out → Out = λ x. (filter c.args.n x.0, x.1) in
    collects c.with_each.result c.new.ensures (gathered g (outcomes_in c.args.ps)) (c.with_each.ensures g (λ o r h. search rules))
