use Rattle.std.proofs.Common.{rules}
use Rattle.judging.proofs.Watched.{passed, stops_at}
use Rattle.judging.proofs.judge.Judging.show_line.Goals as goal

pub returns-in_err-read : goal.returns-in_err-read
returns-in_err-read c = λ r es w. stops_at r es c.args.monitor.now w c.args.self.now.entries.now c.args.self.now.log.now c.args.line c.from_residual.result c.in_err-read.field-0.0 c.in_err-read.ensures c.from_residual.ensures.1

pub returns : goal.returns
returns c = λ r es w. passed r es c.args.monitor.now w c.args.self.now.entries.now c.args.self.now.log.now c.args.line c.show.new.self c.in_ok-read.field-0 c.event-event.result c.show.result c.map_err.result c.in_ok-read.ensures c.event-event.ensures c.show.ensures.shows c.show.ensures.uses (search rules)
