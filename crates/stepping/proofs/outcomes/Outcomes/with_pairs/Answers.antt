use Rattle.std.proofs.Common.{◌+◌, List, [], ◌∷◌, ◌++◌, drop, refl, ap, ◌∙◌}
use Rattle.calculus.specs.Equality.{same_outcome}
use Rattle.calculus.specs.Fullness.{overflowing}
use Rattle.calculus.specs.Lists.{gather}
use Rattle.calculus.specs.Steps.{Outcome as Out}
use Rattle.stepping.specs.Adding.{outcomes_in}
use Rattle.stepping.specs.Listed.{outcome_of, outcomes_of}
use Rattle.stepping.specs.Wrapping.{with_one, with_each}
use Rattle.stepping.proofs.Growing.{goes, done, stops}
use Rattle.stepping.proofs.Overflow.{overflow_kept}
use Rattle.stepping.proofs.Collecting.{none_on, pair_on, pairs_on, no_pair, apart, joined, extended, not_extended}
use Rattle.stepping.proofs.outcomes.Outcomes.with_pairs.Goals as goal

pub loop-l-init : goal.loop-l-init
loop-l-init c = record { left = refl }

pub loop-r-init : goal.loop-r-init
loop-r-init c = pairs_on (with_each (outcomes_of c.args.rs.now)) c.args.ls.now c.loop-l.l-index c.l-item.result c.loop-l-test.true c.l-item.is c.loop-l.invariant

pub loop-r-preserved-then-not-compatible : goal.loop-r-preserved-then-not-compatible
loop-r-preserved-then-not-compatible c =
    let x = outcome_of c.l-item.result in
    let rest = gather (with_each (outcomes_of c.args.rs.now)) (outcomes_of (drop (c.loop-l.l-index + 1) c.args.ls.now)) in
    let more = gather (with_one x) (outcomes_of (drop (c.loop-r.r-index + 1) c.args.rs.now)) ++ rest in
    goes same_outcome [] more
    (pair_on x c.args.rs.now c.loop-r.r-index c.r-item.result rest c.loop-r-test.true c.r-item.is ∙
    ap (λ (l : List Out). l ++ more) (apart x (outcome_of c.r-item.result) c.if-not-compatible.ensures)) c.loop-r.invariant refl

pub returns-in_err-add : goal.returns-in_err-add
returns-in_err-add c =
    let x = outcome_of c.l-item.result in
    let rest = gather (with_each (outcomes_of c.args.rs.now)) (outcomes_of (drop (c.loop-l.l-index + 1) c.args.ls.now)) in
    let more = gather (with_one x) (outcomes_of (drop (c.loop-r.r-index + 1) c.args.rs.now)) ++ rest in
    not_extended (outcomes_in c.args.self) (gather (with_each (outcomes_of c.args.rs.now)) (outcomes_of c.args.ls.now)) c.from_residual-in_err-add.result c.in_err-add.field-0.0
    (stops same_outcome overflowing overflow_kept (outcome_of c.in_ok-together.field-0 ∷ []) more c.in_err-add.field-0.0 refl
    (pair_on x c.args.rs.now c.loop-r.r-index c.r-item.result rest c.loop-r-test.true c.r-item.is ∙
    ap (λ (l : List Out). l ++ more) (joined x (outcome_of c.r-item.result) (outcome_of c.in_ok-together.field-0) c.if-not-compatible.ensures c.in_ok-together.ensures))
    c.loop-r.invariant c.in_err-add.ensures)
    c.from_residual-in_err-add.ensures.1

pub loop-r-preserved : goal.loop-r-preserved
loop-r-preserved c =
    let x = outcome_of c.l-item.result in
    let rest = gather (with_each (outcomes_of c.args.rs.now)) (outcomes_of (drop (c.loop-l.l-index + 1) c.args.ls.now)) in
    let more = gather (with_one x) (outcomes_of (drop (c.loop-r.r-index + 1) c.args.rs.now)) ++ rest in
    goes same_outcome (outcome_of c.in_ok-together.field-0 ∷ []) more
    (pair_on x c.args.rs.now c.loop-r.r-index c.r-item.result rest c.loop-r-test.true c.r-item.is ∙
    ap (λ (l : List Out). l ++ more) (joined x (outcome_of c.r-item.result) (outcome_of c.in_ok-together.field-0) c.if-not-compatible.ensures c.in_ok-together.ensures))
    c.loop-r.invariant c.in_ok-add.ensures.0

pub loop-l-preserved : goal.loop-l-preserved
loop-l-preserved c =
    no_pair (outcome_of c.l-item.result) c.args.rs.now c.loop-r.r-index
    (gather (with_each (outcomes_of c.args.rs.now)) (outcomes_of (drop (c.loop-l.l-index + 1) c.args.ls.now))) c.loop-r-test.false c.loop-r.invariant

pub returns : goal.returns
returns c =
    let g = with_each (outcomes_of c.args.rs.now) in
    extended (outcomes_in c.args.self) (gather g (outcomes_of c.args.ls.now)) c.loop-l.self
    (done same_outcome refl (none_on g c.args.ls.now c.loop-l.l-index c.loop-l-test.false) c.loop-l.invariant)
