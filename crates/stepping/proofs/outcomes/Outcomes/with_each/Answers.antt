use Rattle.std.proofs.Common.{List, [], ◌∷◌, map, Ok, sym, refl, ap, ◌∙◌}
use Rattle.std.specs.Vec.Iter.{into_iter_items}
use Rattle.calculus.specs.Equality.{same_outcome}
use Rattle.calculus.specs.Fullness.{overflowing}
use Rattle.calculus.specs.Steps.{Outcome as Out}
use Rattle.stepping.specs.declared.outcome.Outcome.{Outcome}
use Rattle.stepping.specs.Adding.{outcomes_in}
use Rattle.stepping.specs.Listed.{outcome_of, outcomes_of}
use Rattle.stepping.proofs.Growing.{goes, done, stops, none_left}
use Rattle.stepping.proofs.Overflow.{overflow_kept}
use Rattle.stepping.proofs.Collecting.{extended, not_extended}
use Rattle.stepping.proofs.outcomes.Outcomes.with_each.Goals as goal

pub loop-o-init : goal.loop-o-init
loop-o-init g c = λ h m. record { left = refl }

pub loop-o-preserved : goal.loop-o-preserved
loop-o-preserved g c =
    λ h m.
    let all : List Outcome → List Out = λ l. map h (outcomes_of l) in
    goes same_outcome (outcome_of c.in_ok-make.field-0 ∷ []) (all (into_iter_items c.next.new.self))
    (ap all c.in-Some.ensures.steps.0 ∙ ap (λ (x : Out). x ∷ all (into_iter_items c.next.new.self)) (sym (m c.in-Some.o (Ok c.in_ok-make.field-0) c.in_ok-make.ensures)))
    (c.loop-o.invariant h m) c.in_ok-add.ensures.0

pub returns-in_err-add : goal.returns-in_err-add
returns-in_err-add g c =
    λ h m.
    let all : List Outcome → List Out = λ l. map h (outcomes_of l) in
    not_extended (outcomes_in c.args.self) (map h (outcomes_in c.args.outcomes)) c.from_residual-in_err-add.result c.in_err-add.field-0.0
    (stops same_outcome overflowing overflow_kept (outcome_of c.in_ok-make.field-0 ∷ []) (all (into_iter_items c.next.new.self)) c.in_err-add.field-0.0
    (ap all c.into_iter-o-iterator.ensures.into_iter_gives.0)
    (ap all c.in-Some.ensures.steps.0 ∙ ap (λ (x : Out). x ∷ all (into_iter_items c.next.new.self)) (sym (m c.in-Some.o (Ok c.in_ok-make.field-0) c.in_ok-make.ensures)))
    (c.loop-o.invariant h m) c.in_err-add.ensures)
    c.from_residual-in_err-add.ensures.1

pub returns : goal.returns
returns g c =
    λ h m.
    let all : List Outcome → List Out = λ l. map h (outcomes_of l) in
    extended (outcomes_in c.args.self) (map h (outcomes_in c.args.outcomes)) c.loop-o.self
    (done same_outcome (ap all c.into_iter-o-iterator.ensures.into_iter_gives.0) (ap all (none_left c.loop-o.o-iterator c.in-None.ensures.steps.0)) (c.loop-o.invariant h m))
