use Rattle.std.proofs.Common.{◌++◌, get_or, refl, arith, rules}
use Rattle.std.specs.Fmt.{HasWritten}
use Rattle.std.proofs.Output.{has_written_append, has_written_of_eq}
use Rattle.checklog.specs.Report.{type_text, counts_text}
use Rattle.checklog.proofs.Counts.{counts_more, counts_all}
use Rattle.checklog.proofs.report.CountsDisplay.fmt.Goals as goal

pub loop-ty-preserved : goal.loop-ty-preserved
loop-ty-preserved g c plain =
    let i = c.loop-ty.invariant plain in
    let counts = c.args.self.now.0.now in
    let t = type_text c.loop-ty.ty (get_or counts c.loop-ty.ty 0) in
    let w : HasWritten g.W.Write.write_str_gives c.loop-ty.f t c.write.new.self = search rules in
    (i.0 ++ t, has_written_append _ _ _ _ _ _ i.1 w, counts_more counts i.0 (i.0 ++ t) (counts_text 0 counts) c.loop-ty.ty (omega arith) refl i.2)

pub returns-clause-writes : goal.returns-clause-writes
returns-clause-writes g c plain ok =
    let i = c.loop-ty.invariant plain in
    let counts = c.args.self.now.0.now in
    has_written_of_eq _ _ _ _ _ (counts_all counts i.0 (counts_text 0 counts) c.loop-ty.ty (omega arith) i.2) i.1
