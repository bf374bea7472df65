use Rattle.std.proofs.Common.{vec_items}
use Rattle.stepping.specs.Listed.{states}
use Rattle.stepping.proofs.Next.{begins, ends, turns, one_full, all_full}
use Rattle.stepping.proofs.held.after.Goals as goal

pub loop-t-init : goal.loop-t-init
loop-t-init c = begins c.args.rule.now c.args.event.now c.args.held.now _ c.new-next.ensures

pub loop-t-preserved : goal.loop-t-preserved
loop-t-preserved c =
    turns c.args.rule.now c.args.event.now c.args.held.now c.loop-t.t-index c.t-item.result (states (vec_items c.loop-t.next.states)) c.loop-t-test.true c.t-item.is
    c.loop-t.invariant _ c.in_ok-outcomes.outcomes c.in_ok-outcomes.ensures c.in_ok-hold_all.ensures

pub returns-in_err-outcomes : goal.returns-in_err-outcomes
returns-in_err-outcomes c =
    one_full c.args.rule.now c.args.event.now c.args.held.now c.loop-t.t-index c.t-item.result (states (vec_items c.loop-t.next.states)) c.loop-t-test.true c.t-item.is
    c.loop-t.invariant c.from_residual.result c.in_err-outcomes.field-0.0 c.in_err-outcomes.ensures c.from_residual.ensures.1

pub returns-in_err-hold_all : goal.returns-in_err-hold_all
returns-in_err-hold_all c =
    all_full c.args.rule.now c.args.event.now c.args.held.now c.loop-t.t-index c.t-item.result (states (vec_items c.loop-t.next.states)) c.loop-t-test.true c.t-item.is
    c.loop-t.invariant c.in_ok-outcomes.outcomes c.from_residual-in_err-hold_all.result c.in_err-hold_all.field-0.0 c.in_ok-outcomes.ensures
    c.in_err-hold_all.ensures c.from_residual-in_err-hold_all.ensures.1

pub returns : goal.returns
returns c =
    ends c.args.rule.now c.args.event.now c.args.held.now c.loop-t.t-index c.loop-t.next.states c.loop-t-test.false c.loop-t.invariant c.loop-t.next.few
