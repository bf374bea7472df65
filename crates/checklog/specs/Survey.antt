-- What a log holds, up to the first line that cannot be read.
use Rattle.std.specs.Prelude.{◌≡◌, ℕ, ◌+◌, ◌<◌, cond, List, [], ◌∷◌, length, Some, None, Ok, Err, Option, Result, ◌==◌, slice_index}
use Rattle.lines.specs.declared.line.Line.{Line}
use Rattle.lines.specs.declared.log.LogLine.{LogLine}
use Rattle.lines.specs.declared.fault.LogFault.{LogFault}
use Rattle.lines.specs.Logs.{lines_of, log_line_of}
use Rattle.checklog.specs.declared.survey.Survey.{Survey}

-- goes on to the lines after one that was read
abbrev pub onward : {X : Type 0} → Result Line LogFault → (Line → X) → (LogFault → X) → X
onward (Ok l) f g = f l
onward (Err e) f g = g e

-- the events before the first line that cannot be read
abbrev pub readable : List ℕ → List LogLine → List Line
readable log [] = []
readable log (l ∷ ls) = onward (log_line_of l log) (λ x. x ∷ readable log ls) (λ e. [])

-- why that line cannot be read
abbrev pub first_fault : List ℕ → List LogLine → Option LogFault
first_fault log [] = None
first_fault log (l ∷ ls) = onward (log_line_of l log) (λ x. first_fault log ls) (λ e. Some e)

-- how many events are of a type
abbrev pub of_type : ℕ → List Line → ℕ
of_type t [] = 0
of_type t (x ∷ xs) = cond (x.fields.ty == t) 1 0 + of_type t xs

pub record Surveyed (log : List ℕ) (s : Survey) : Type 0 where
  pub lines : s.lines ≡ length (readable log (lines_of log))
  pub counts : (t : ℕ) → t < 48 → slice_index s.counts t ≡ of_type t (readable log (lines_of log))
  pub fault : s.fault ≡ first_fault log (lines_of log)
