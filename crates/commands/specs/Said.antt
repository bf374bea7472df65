-- What a command says, with lists of numbers for its bytes.
use Rattle.std.specs.Prelude.{ℕ, List, Some, None, Ok, Err, Option, Result, vec_items}
use Rattle.events.specs.declared.derived.Entry.{Entry}
use Rattle.refusals.specs.declared.Layer.{Layer}
use Rattle.refusals.specs.declared.Span.{Span}
use Rattle.commands.specs.declared.command.Command.{Command}
use Rattle.commands.specs.declared.command.Command.TheVariants.{Rule, Entry as EntryFor, Line, Record, BareLine, BareRecord, Counts, Verdict, Held, Judge, Excerpt, Help}
use Rattle.commands.specs.declared.command.Usage.{Usage}
use Rattle.commands.specs.declared.fault.ParseFault.{ParseFault}
use Rattle.commands.specs.declared.fault.ParseFault.TheVariants.{Malformed, Memory}

pub data Said : Type 0 where
  rule : List ℕ → Said
  entry : ℕ → Entry → Said
  text_line : List ℕ → Said
  binary_record : List ℕ → Said
  bare_line : List ℕ → Said
  bare_record : List ℕ → Said
  counts : Said
  verdict : Said
  held : Said
  judge : List ℕ → Said
  excerpt : List ℕ → List ℕ → ℕ → Layer → Span → Said
  help : Said

abbrev pub said_by : Command → Said
said_by (Rule v) = rule (vec_items v)
said_by (EntryFor t e) = entry t e
said_by (Line v) = text_line (vec_items v)
said_by (Record v) = binary_record (vec_items v)
said_by (BareLine v) = bare_line (vec_items v)
said_by (BareRecord v) = bare_record (vec_items v)
said_by Counts = counts
said_by Verdict = verdict
said_by Held = held
said_by (Judge v) = judge (vec_items v)
said_by (Excerpt a) = excerpt (vec_items a.rule) (vec_items a.log) a.number a.layer a.span
said_by Help = help

-- what a line tells: nothing, a command that is not in its form, or what a command says
pub data Told : Type 0 where
  nothing : Told
  malformed : Usage → Told
  says : Said → Told

-- P holds of what a line tells; where memory is wanting it is not known
abbrev pub IfTold : Result (Option Command) ParseFault → (Told → Type 0) → Type 0
IfTold (Ok None) P = P nothing
IfTold (Ok (Some c)) P = P (says (said_by c))
IfTold (Err (Malformed u)) P = P (malformed u)
IfTold (Err (Memory e)) P = Unit {0}
