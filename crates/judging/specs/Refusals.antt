-- What each fault of judging answers: number, layer and place; the number of its line; and its cause in words.
use Rattle.std.specs.Prelude.{ℕ, List, Some, None, codes, Option}
use Rattle.refusals.specs.declared.Layer.TheVariants.{Judging, Showing}
use Rattle.refusals.specs.declared.Place.TheVariants.{Nowhere}
use Rattle.refusals.specs.declared.Refusal.{Refusal}
use Rattle.lines.specs.Refusals.{log_refusal, cause_text}
use Rattle.judging.specs.declared.fault.JudgeFault.{JudgeFault}
use Rattle.judging.specs.declared.fault.JudgeFault.TheVariants.{TooLong, BadLine, Full, Memory}

-- a line is refused as its word is, and full stays with showing; want of memory has no number
abbrev pub refusal_of : JudgeFault → Option Refusal
refusal_of TooLong = Some (record { number = 14; layer = Judging; place = Nowhere })
refusal_of (BadLine f) = Some (log_refusal f)
refusal_of (Full n) = Some (record { number = 32; layer = Showing; place = Nowhere })
refusal_of (Memory n) = None

-- lines are numbered from 1; a log that is too long is refused before its first line
abbrev pub line_of : JudgeFault → ℕ
line_of TooLong = 0
line_of (BadLine f) = f.line.word.line
line_of (Full n) = n
line_of (Memory n) = n

abbrev pub cause_of : JudgeFault → List ℕ
cause_of TooLong = codes "the log is over 65536 bytes"
cause_of (BadLine f) = cause_text f.line.word.cause
cause_of (Full n) = codes "the monitor is full"
cause_of (Memory n) = codes "memory is wanting"
