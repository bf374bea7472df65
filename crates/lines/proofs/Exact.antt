-- Reading takes the text of an event, and nothing else.
use Rattle.std.proofs.Common.{◌≡◌, ℕ, List, Result, sym, ap, ◌∙◌, subst}
use Rattle.lines.specs.declared.line.Line.{Line}
use Rattle.lines.specs.declared.fault.LineFault.{LineFault}
use Rattle.lines.specs.Lines.{line_of}
use Rattle.lines.specs.Text.{Exactly}
use Rattle.lines.proofs.Back.{reads_back}
use Rattle.lines.proofs.Only.{reads_only}

pub exactly : (n at : ℕ) (xs : List ℕ) (r : Result Line LineFault) → r ≡ line_of n at xs → Exactly xs r
exactly n at xs r e = subst (Exactly xs) (sym e) (record {
  back = λ f h q. ap (line_of n at) q ∙ reads_back n at f h;
  only = λ f q. reads_only n at xs f q;
})
