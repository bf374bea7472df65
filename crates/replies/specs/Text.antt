-- The text of a reply, one line without its end.
use Rattle.std.specs.Prelude.{ℕ, cond, List, [], ◌++◌, length, flat_map, Some, None, codes, decimal, Option, ◌==◌}
use Rattle.refusals.specs.declared.Place.{Place}
use Rattle.refusals.specs.declared.Place.TheVariants.{Nowhere, Bytes, Node}
use Rattle.refusals.specs.declared.Span.{Span}
use Rattle.refusals.specs.declared.Refusal.{Refusal}
use Rattle.refusals.specs.Names.{name_of}
use Rattle.calculus.specs.Verdicts.{word_of}
use Rattle.monitor.specs.Text.{counts_text}
use Rattle.judging.specs.declared.fault.JudgeFault.{JudgeFault}
use Rattle.judging.specs.declared.judgement.Judgement.{Judgement}
use Rattle.judging.specs.Refusals.{refusal_of, line_of}
use Rattle.commands.specs.declared.command.Usage.{Usage}
use Rattle.commands.specs.Forms.{form_text, forms}
use Rattle.commands.specs.Hex.{hex_text}
use Rattle.replies.specs.Told.{Told, a_rule, done, shown, counts, verdict, held, judged, part, help, refused, expected}

-- a space before each size
abbrev pub size_piece : ℕ → List ℕ
size_piece n = codes " " ++ decimal n

abbrev pub held_text : List ℕ → List ℕ
held_text ns = (codes "held " ++ (decimal (length ns) ++ codes ":")) ++ flat_map size_piece ns

-- a place in bytes by where it begins and how long it is; a node by its number
abbrev pub place_text : Place → List ℕ
place_text Nowhere = []
place_text (Node n) = codes " " ++ decimal n
place_text (Bytes s) = codes " " ++ (decimal s.at ++ (codes " " ++ decimal s.len))

abbrev pub refused_text : Refusal → List ℕ
refused_text f = codes "refused " ++ (decimal f.number ++ (codes " " ++ (name_of f.layer ++ place_text f.place)))

-- 0 and 0 stand for no place
abbrev pub span_of : Place → Span
span_of Nowhere = record { at = 0; len = 0 }
span_of (Node n) = record { at = 0; len = 0 }
span_of (Bytes s) = s

abbrev pub numbers_text : ℕ → Option Refusal → List ℕ
numbers_text line None = codes " memory"
numbers_text line (Some f) =
    codes " fault " ++ (decimal f.number ++ (codes " " ++ (name_of f.layer ++ (codes " " ++ (decimal line ++ (codes " " ++ (decimal (span_of f.place).at ++ (codes " " ++ decimal (span_of f.place).len))))))))

abbrev pub fault_text : JudgeFault → List ℕ
fault_text f = numbers_text (line_of f) (refusal_of f)

abbrev pub fault_in : Option JudgeFault → List ℕ
fault_in None = []
fault_in (Some f) = fault_text f

-- the report without its end, and the fault where there is one
abbrev pub judged_text : Judgement → List ℕ
judged_text j = (counts_text j.counts ++ (codes " " ++ word_of j.verdict)) ++ fault_in j.fault

abbrev pub part_text : List ℕ → List ℕ
part_text bs = cond (length bs == 0) (codes "empty") (hex_text bs)

abbrev pub form_piece : Usage → List ℕ
form_piece u = codes " " ++ (form_text u ++ codes ";")

abbrev pub forms_text : List Usage → List ℕ
forms_text us = codes "commands:" ++ flat_map form_piece us

abbrev pub help_text : List ℕ
help_text = forms_text forms

abbrev pub rule_text : ℕ → List ℕ
rule_text n = codes "rule " ++ decimal n

-- what was expected in place of the command
abbrev pub error_text : Usage → List ℕ
error_text u = codes "error expected " ++ form_text u

abbrev pub reply_text : Told → List ℕ
reply_text (a_rule n) = rule_text n
reply_text done = codes "ok"
reply_text shown = codes "shown"
reply_text (counts c) = counts_text c
reply_text (verdict v) = word_of v
reply_text (held ns) = held_text ns
reply_text (judged j) = judged_text j
reply_text (part bs) = part_text bs
reply_text help = help_text
reply_text (refused f) = refused_text f
reply_text (expected u) = error_text u
