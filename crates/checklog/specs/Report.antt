-- What is printed of a survey.
use Rattle.std.specs.Prelude.{ℕ, ◌+◌, cond, List, [], ◌∷◌, ◌++◌, take, drop, Some, None, codes, decimal, Option, nat_lt}
use Rattle.refusals.specs.Names.{name_of}
use Rattle.refusals.specs.Text.{quoted_of}
use Rattle.refusals.specs.declared.Layer.{Layer}
use Rattle.lines.specs.declared.fault.Cause.{Cause}
use Rattle.lines.specs.declared.fault.LogFault.{LogFault}
use Rattle.lines.specs.Refusals.{cause_text, log_refusal}
use Rattle.checklog.specs.declared.survey.Survey.{Survey}

abbrev pub lines_text : ℕ → List ℕ
lines_text n = codes "lines " ++ (decimal n ++ codes "\n")

-- types that no event has are left out
abbrev pub type_text : ℕ → ℕ → List ℕ
type_text t n = cond (nat_lt 0 n) (codes "type " ++ (decimal t ++ (codes ": " ++ (decimal n ++ codes "\n")))) []

-- the counts of the types from t on
abbrev pub counts_text : ℕ → List ℕ → List ℕ
counts_text t [] = []
counts_text t (n ∷ ns) = type_text t n ++ counts_text (t + 1) ns

abbrev pub line_text : ℕ → ℕ → List ℕ
line_text line number = codes "line " ++ (decimal line ++ (codes ": refused " ++ (decimal number ++ codes " ")))

abbrev pub why_text : Layer → Cause → List ℕ
why_text layer cause = name_of layer ++ (codes ": " ++ (cause_text cause ++ codes " "))

abbrev pub place_text : ℕ → List ℕ
place_text at = codes " at byte " ++ (decimal at ++ codes "\n")

-- the line's number, the refusal, the word that cannot be read, and its place in the log
abbrev pub fault_text : List ℕ → LogFault → List ℕ
fault_text log f =
    ((line_text f.line.word.line (log_refusal f).number ++ why_text (log_refusal f).layer f.line.word.cause)
    ++ quoted_of (take f.line.word.span.len (drop f.line.word.span.at log)))
    ++ place_text f.line.word.span.at

abbrev pub fault_in : List ℕ → Option LogFault → List ℕ
fault_in log None = []
fault_in log (Some f) = fault_text log f

abbrev pub report_text : List ℕ → Survey → List ℕ
report_text log s = (lines_text s.lines ++ counts_text 0 s.counts) ++ fault_in log s.fault
