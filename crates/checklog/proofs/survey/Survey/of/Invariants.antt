use Rattle.std.proofs.Common.{◌≡◌, None}
use Rattle.lines.specs.Logs.{left}
use Rattle.checklog.proofs.Counting.{Counting}
use Rattle.checklog.proofs.survey.Survey.of.Given as goal

abbrev pub invariant-loop-line : goal.invariant-loop-line
invariant-loop-line l =
    (goal.iterator-loop-line).can_next l.line-iterator
    × (goal.iterator-loop-line).is_finite l.line-iterator
    × Counting l.log (left l.line-iterator) l.survey.lines l.survey.counts
    × (l.survey.fault ≡ None)
