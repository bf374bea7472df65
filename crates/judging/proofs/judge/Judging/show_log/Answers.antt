use Rattle.std.proofs.Common.{rules, arith}
use Rattle.judging.proofs.Lines.{before, refused_whole, room, again, stopped, ended}
use Rattle.judging.proofs.judge.Judging.show_log.Goals as goal

pub returns-then-self-gt-MOST_BYTES : goal.returns-then-self-gt-MOST_BYTES
returns-then-self-gt-MOST_BYTES c = refused_whole c.args.self.now.entries.now c.args.self.now.log.now c.args.monitor.now c.requires (omega arith)

pub loop-line-init : goal.loop-line-init
loop-line-init c = before c.args.self.now.entries.now c.args.self.now.log.now c.args.monitor.now _ c.requires (search rules)

pub show_line-requires : goal.show_line-requires
show_line-requires c = room c.loop-line.invariant c.in-Some.ensures.steps (omega arith)

pub loop-line-preserved : goal.loop-line-preserved
loop-line-preserved c =
    let u = c.loop-line.invariant in
    again u c.in-Some.ensures.steps (c.in_ok-show_line.ensures _ u.es u.watches)

pub returns-in_err-show_line : goal.returns-in_err-show_line
returns-in_err-show_line c =
    let u = c.loop-line.invariant in
    stopped u c.in-Some.ensures.steps (omega arith) _ _ _ (c.in_err-show_line.ensures _ u.es u.watches) c.from_residual.ensures.1

pub returns : goal.returns
returns c = ended c.loop-line.invariant (omega arith) c.in-None.ensures.steps.0
