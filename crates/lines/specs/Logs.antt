-- The lines of a log.
use Rattle.std.specs.Prelude.{ℕ, ◌+◌, List, [], ◌∷◌, length, take, drop, Some, None, Ok, Err, Option, Result}
use Rattle.lines.specs.declared.line.Line.{Line}
use Rattle.lines.specs.declared.log.LogLine.{LogLine}
use Rattle.lines.specs.declared.log.Lines.{Lines}
use Rattle.lines.specs.declared.fault.LineFault.{LineFault}
use Rattle.lines.specs.declared.fault.LogFault.{LogFault}
use Rattle.lines.specs.Lines.{line_of}
use Rattle.std.specs.Option.{option_map}
use Rattle.lines.specs.Pieces.{Piece, piece_of}
use Rattle.tokens.specs.Pieces.{pieces}
use Rattle.lines.specs.Refusals.{in_log}

-- a line ends with byte 10
abbrev pub newline : ℕ
newline = 10

-- a last piece that is empty is no line: the bytes end with the line before, or there are none
abbrev pub trimmed : List (List ℕ) → List (List ℕ)
trimmed [] = []
trimmed ([] ∷ []) = []
trimmed ((x ∷ p) ∷ []) = (x ∷ p) ∷ []
trimmed (p ∷ q ∷ ps) = p ∷ trimmed (q ∷ ps)

-- the place and the number of each line, where the first begins at a place and so many have passed
abbrev pub numbered : ℕ → ℕ → List (List ℕ) → List LogLine
numbered at n [] = []
numbered at n (p ∷ ps) = record { span = record { at = at; len = length p }; number = n + 1 } ∷ numbered (at + length p + 1) (n + 1) ps

abbrev pub lines_from : ℕ → ℕ → List ℕ → List LogLine
lines_from at n xs = numbered at n (trimmed (pieces newline xs))

abbrev pub lines_of : List ℕ → List LogLine
lines_of xs = lines_from 0 0 xs

-- the lines of what is left of a log, if anything is
abbrev pub lines_in : ℕ → Option Piece → List LogLine
lines_in n None = []
lines_in n (Some p) = lines_from p.at n p.bytes

-- the lines that are still to come
abbrev pub left : Lines → List LogLine
left l = lines_in l.passed (option_map piece_of l.rest)

abbrev pub of_log : Result Line LineFault → Result Line LogFault
of_log (Ok x) = Ok x
of_log (Err e) = Err (in_log e)

-- a line of a log; faults have their place in the log
abbrev pub log_line_of : LogLine → List ℕ → Result Line LogFault
log_line_of l log = of_log (line_of l.number l.span.at (take l.span.len (drop l.span.at log)))
