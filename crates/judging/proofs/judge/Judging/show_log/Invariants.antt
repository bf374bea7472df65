use Rattle.lines.specs.Logs.{left}
use Rattle.judging.proofs.Lines.{Under}
use Rattle.judging.proofs.judge.Judging.show_log.Given as goal

abbrev pub invariant-loop-line : goal.invariant-loop-line
invariant-loop-line l = Under l.initial.monitor.rule l.self.entries.now l.self.log.now l.monitor (left l.line-iterator)
