use Rattle.std.proofs.Common.{List, replicate, sym, refl, ap, ◌∙◌, subst, arith, rules}
use Rattle.lines.specs.declared.log.LogLine.{LogLine}
use Rattle.lines.specs.Logs.{left}
use Rattle.checklog.proofs.Counting.{Counting, begun, counted, room, known}
use Rattle.checklog.proofs.survey.Survey.of.Goals as goal

pub loop-line-init : goal.loop-line-init
loop-line-init c =
    let e = ap left c.into_iter-line-iterator.ensures.into_iter_gives ∙ c.of-line-items.ensures in
    (tt, tt, subst (λ (ls : List LogLine). Counting c.args.log.now ls 0 (replicate 48 0)) (sym e) (begun c.args.log.now (replicate 48 0) refl), refl)

pub bounds-survey-from : goal.bounds-survey-from
bounds-survey-from c = omega (arith, c.from.ensures, known c.args.log.now c.in-Some.line c.in-Ok.event c.in-Ok.ensures)

pub bounds-survey-from-in-Ok : goal.bounds-survey-from-in-Ok
bounds-survey-from-in-Ok c = omega (arith, c.from.ensures, known c.args.log.now c.in-Some.line c.in-Ok.event c.in-Ok.ensures)

pub overflow_add-survey : goal.overflow_add-survey
overflow_add-survey c =
    let r = room c.args.log.now (left c.loop-line.line-iterator) (left c.next.new.self) c.in-Some.line c.in-Ok.event c.loop-line.survey.lines c.loop-line.survey.counts c.in-Some.ensures.steps c.in-Ok.ensures c.loop-line.invariant.2 in
    rw c.from.ensures (search rules)

pub overflow_add-survey-in-Ok : goal.overflow_add-survey-in-Ok
overflow_add-survey-in-Ok c =
    let r = room c.args.log.now (left c.loop-line.line-iterator) (left c.next.new.self) c.in-Some.line c.in-Ok.event c.loop-line.survey.lines c.loop-line.survey.counts c.in-Some.ensures.steps c.in-Ok.ensures c.loop-line.invariant.2 in
    search rules

pub loop-line-preserved : goal.loop-line-preserved
loop-line-preserved c =
    rw c.from.ensures (tt, tt, counted c.args.log.now (left c.loop-line.line-iterator) (left c.next.new.self) c.in-Some.line c.in-Ok.event c.loop-line.survey.lines c.loop-line.survey.counts c.in-Some.ensures.steps c.in-Ok.ensures c.loop-line.invariant.2, c.loop-line.invariant.3)
