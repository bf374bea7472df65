-- The report of a play.
use Rattle.std.specs.Prelude.{ℕ, cond, List, [], ◌∷◌, ◌++◌, length, drop, Ok, Err, codes, decimal, Result, nat_lt}
use Rattle.calculus.specs.declared.verdict.Verdict.{Verdict}
use Rattle.calculus.specs.Verdicts.{word_of}
use Rattle.reporting.specs.declared.fault.ReportFault.{ReportFault}
use Rattle.reporting.specs.declared.fault.ReportFault.TheVariants.{ShortBuffer}

-- one line, with the byte 10 that ends it
abbrev pub report_text : ℕ → ℕ → Verdict → List ℕ
report_text s t v = codes "shown " ++ (decimal s ++ (codes " taken " ++ (decimal t ++ (codes " " ++ (word_of v ++ (10 ∷ []))))))

-- a text written over the front of some bytes; what stands after it stays
abbrev pub over : List ℕ → List ℕ → List ℕ
over old text = text ++ drop (length text) old

-- a buffer has to have room for the longest report, whatever the length of this one
abbrev pub room : ℕ
room = 42

abbrev pub report_answer : List ℕ → ℕ → ℕ → Verdict → Result ℕ ReportFault
report_answer old s t v = cond (nat_lt (length old) room) (Err ShortBuffer) (Ok (length (report_text s t v)))

abbrev pub report_buffer : List ℕ → ℕ → ℕ → Verdict → List ℕ
report_buffer old s t v = cond (nat_lt (length old) room) old (over old (report_text s t v))
