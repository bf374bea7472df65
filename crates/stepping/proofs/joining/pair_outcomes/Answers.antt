use Rattle.std.proofs.Common.{[], ◌∷◌, rules}
use Rattle.calculus.specs.Vocabulary.{Concat, Shuffle}
use Rattle.calculus.specs.Lists.{gather}
use Rattle.calculus.specs.States.{pair}
use Rattle.calculus.specs.Steps.{Outcome as Out}
use Rattle.states.specs.State.{state}
use Rattle.stepping.specs.Adding.{outcomes_in}
use Rattle.stepping.proofs.Collecting.{both, first_stops, gathered, unchanged}
use Rattle.stepping.proofs.joining.pair_outcomes.Goals as goal

-- or
pub returns-in_err-with_each-in-Or : goal.returns-in_err-with_each-in-Or
returns-in_err-with_each-in-Or c =
    rw c.in-Or.is
    (first_stops (outcomes_in c.args.ls) (outcomes_in c.args.rs) c.new-none.ensures (unchanged (outcomes_in c.args.ls)) c.in_err-with_each-in-Or.field-0.0 c.from_residual.result
    (c.in_err-with_each-in-Or.ensures (λ x. x) (λ o r h. search rules)) c.from_residual.ensures.1)

pub returns-in_ok-with_each-in-Or : goal.returns-in_ok-with_each-in-Or
returns-in_ok-with_each-in-Or c =
    rw c.in-Or.is
    (both (outcomes_in c.args.ls) (outcomes_in c.args.rs) c.new-none.ensures (unchanged (outcomes_in c.args.ls)) c.in_ok-with_each-in-Or.field-0 c.with_each-in-Or.result
    (unchanged (outcomes_in c.args.rs)) (c.in_ok-with_each-in-Or.ensures (λ x. x) (λ o r h. search rules)) (c.with_each-in-Or.ensures (λ x. x) (λ o r h. search rules)))

-- concatenation
pub returns-in_err-with_each-in-Concat : goal.returns-in_err-with_each-in-Concat
returns-in_err-with_each-in-Concat c =
    let g : Out → Out = λ x. (pair Concat x.0 (state c.args.right.now), x.1) in
    rw c.in-Concat.is
    (first_stops (gather (λ x. g x ∷ []) (outcomes_in c.args.ls)) (outcomes_in c.args.rs) c.new-none.ensures (gathered g (outcomes_in c.args.ls))
    c.in_err-with_each-in-Concat.field-0.0 c.from_residual-in_err-with_each-in-Concat.result (c.in_err-with_each-in-Concat.ensures g (λ o r h. search rules))
    c.from_residual-in_err-with_each-in-Concat.ensures.1)

pub returns-in_ok-with_each-in-Concat : goal.returns-in_ok-with_each-in-Concat
returns-in_ok-with_each-in-Concat c =
    let g : Out → Out = λ x. (pair Concat x.0 (state c.args.right.now), x.1) in
    rw c.in-Concat.is
    (both (gather (λ x. g x ∷ []) (outcomes_in c.args.ls)) (outcomes_in c.args.rs) c.new-none.ensures (gathered g (outcomes_in c.args.ls)) c.in_ok-with_each-in-Concat.field-0
    c.with_each-in-Concat-2.result (unchanged (outcomes_in c.args.rs)) (c.in_ok-with_each-in-Concat.ensures g (λ o r h. search rules))
    (c.with_each-in-Concat-2.ensures (λ x. x) (λ o r h. search rules)))

-- shuffle
pub returns-in_err-with_each-in-Shuffle : goal.returns-in_err-with_each-in-Shuffle
returns-in_err-with_each-in-Shuffle c =
    let g : Out → Out = λ x. (pair Shuffle x.0 (state c.args.right.now), x.1) in
    let h : Out → Out = λ x. (pair Shuffle (state c.args.left.now) x.0, x.1) in
    rw c.in-Shuffle.is
    (first_stops (gather (λ x. g x ∷ []) (outcomes_in c.args.ls)) (gather (λ x. h x ∷ []) (outcomes_in c.args.rs)) c.new-none.ensures (gathered g (outcomes_in c.args.ls))
    c.in_err-with_each-in-Shuffle.field-0.0 c.from_residual-in_err-with_each-in-Shuffle.result (c.in_err-with_each-in-Shuffle.ensures g (λ o r k. search rules))
    c.from_residual-in_err-with_each-in-Shuffle.ensures.1)

pub returns-in_ok-with_each-in-Shuffle : goal.returns-in_ok-with_each-in-Shuffle
returns-in_ok-with_each-in-Shuffle c =
    let g : Out → Out = λ x. (pair Shuffle x.0 (state c.args.right.now), x.1) in
    let h : Out → Out = λ x. (pair Shuffle (state c.args.left.now) x.0, x.1) in
    rw c.in-Shuffle.is
    (both (gather (λ x. g x ∷ []) (outcomes_in c.args.ls)) (gather (λ x. h x ∷ []) (outcomes_in c.args.rs)) c.new-none.ensures (gathered g (outcomes_in c.args.ls))
    c.in_ok-with_each-in-Shuffle.field-0 c.with_each-in-Shuffle-2.result (gathered h (outcomes_in c.args.rs))
    (c.in_ok-with_each-in-Shuffle.ensures g (λ o r k. search rules)) (c.with_each-in-Shuffle-2.ensures h (λ o r k. search rules)))
