use Rattle.std.proofs.Common.{take}
use Rattle.std.specs.Fmt.{HasWritten, IsPlainFormatter}
use Rattle.replies.specs.Text.{forms_text}
use Rattle.replies.proofs.text.FormsDisplay.fmt.Given as goal

abbrev pub invariant-loop-usage : goal.invariant-loop-usage
invariant-loop-usage g l =
    IsPlainFormatter l.fn.f → HasWritten g.W.Write.write_str_gives l.fn.f (forms_text (take l.usage-index l.self.0.now)) l.f
