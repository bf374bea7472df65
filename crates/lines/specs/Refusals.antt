-- What each fault answers: number, layer and place.
use Rattle.std.specs.Prelude.{ℕ, List, codes}
use Rattle.refusals.specs.declared.Layer.TheVariants.{Word}
use Rattle.refusals.specs.declared.Place.TheVariants.{Bytes}
use Rattle.refusals.specs.declared.Refusal.{Refusal}
use Rattle.lines.specs.declared.fault.Cause.{Cause}
use Rattle.lines.specs.declared.fault.Cause.TheVariants.{Bad, TooLarge}
use Rattle.lines.specs.declared.fault.WordFault.{WordFault}
use Rattle.lines.specs.declared.fault.LineFault.{LineFault}
use Rattle.lines.specs.declared.fault.LogFault.{LogFault}

abbrev pub cause_number : Cause → ℕ
cause_number Bad = 12
cause_number TooLarge = 13

abbrev pub cause_text : Cause → List ℕ
cause_text Bad = codes "bad or missing word"
cause_text TooLarge = codes "number too large"

abbrev pub word_refusal : WordFault → Refusal
word_refusal f = record { number = cause_number f.cause; layer = Word; place = Bytes f.span }

-- a line and a log are refused as their word is
abbrev pub in_line : WordFault → LineFault
in_line w = record { word = w }

abbrev pub line_refusal : LineFault → Refusal
line_refusal f = word_refusal f.word

abbrev pub in_log : LineFault → LogFault
in_log l = record { line = l }

abbrev pub log_refusal : LogFault → Refusal
log_refusal f = line_refusal f.line
