use Rattle.std.proofs.Common.{List, [], ◌∷◌, vec_items, ap}
use Rattle.std.specs.Vec.Iter.{into_iter_items}
use Rattle.calculus.specs.States.{State}
use Rattle.calculus.specs.Equality.{same_state}
use Rattle.calculus.specs.Lists.{gather}
use Rattle.states.specs.State.{state}
use Rattle.stepping.specs.declared.outcome.Outcome.{Outcome}
use Rattle.stepping.specs.Adding.{outcomes_in}
use Rattle.stepping.specs.Listed.{outcomes_of, states}
use Rattle.stepping.specs.Holding.{state_of, too_many}
use Rattle.stepping.proofs.Growing.{stops, done, none_left}
use Rattle.stepping.proofs.Next.{many_kept, adds_not}
use Rattle.stepping.proofs.holding.Held.hold_all.Goals as goal

pub returns-in_err-hold : goal.returns-in_err-hold
returns-in_err-hold c =
    let g : List Outcome → List State = λ l. gather state_of (outcomes_of l) in
    adds_not (states (vec_items c.args.self.now.states)) (gather state_of (outcomes_in c.args.outcomes)) (states (vec_items c.hold.new.self.states)) c.from_residual.result
    c.in_err-hold.field-0.0
    (stops same_state too_many many_kept (state c.in-Some.o.tree ∷ []) (g (into_iter_items c.next.new.self)) c.in_err-hold.field-0.0
    (ap g c.into_iter-o-iterator.ensures.into_iter_gives.0) (ap g c.in-Some.ensures.steps.0) c.loop-o.invariant c.in_err-hold.ensures)
    c.from_residual.ensures.1

pub returns : goal.returns
returns c =
    let g : List Outcome → List State = λ l. gather state_of (outcomes_of l) in (
      done same_state (ap g c.into_iter-o-iterator.ensures.into_iter_gives.0) (ap g (none_left c.loop-o.o-iterator c.in-None.ensures.steps.0)) c.loop-o.invariant,
      c.loop-o.self.few,
    )
