use Rattle.std.proofs.Common.{◌≡◌, ℕ, List, ◌++◌, drop}
use Rattle.std.specs.Fmt.{HasWritten, IsPlainFormatter}
use Rattle.checklog.specs.Report.{counts_text}
use Rattle.checklog.proofs.report.CountsDisplay.fmt.Given as goal

abbrev pub invariant-loop-ty : goal.invariant-loop-ty
invariant-loop-ty g l =
    IsPlainFormatter l.fn.f → (s : List ℕ) × HasWritten g.W.Write.write_str_gives l.fn.f s l.f × (s ++ counts_text l.ty (drop l.ty l.self.0.now) ≡ counts_text 0 l.self.0.now)
