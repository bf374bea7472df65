-- What each command does, and what is answered.
use Rattle.std.specs.Prelude.{◌≡◌, ℕ, min, List, Some, None, Ok, Err, Option, Result}
use Rattle.std.specs.Result.{result_map_both}
use Rattle.refusals.specs.declared.Layer.{Layer}
use Rattle.refusals.specs.declared.Span.{Span}
use Rattle.refusals.specs.declared.Place.TheVariants.{Bytes}
use Rattle.refusals.specs.declared.Refusal.{Refusal}
use Rattle.events.specs.declared.meaning.Meaning.{Meaning}
use Rattle.events.specs.Meanings.{single}
use Rattle.events.specs.Derivation.{derived, no_entries, with_entry}
use Rattle.records.specs.Records.{record_of, record_refusal}
use Rattle.lines.specs.Lines.{alone}
use Rattle.lines.specs.Refusals.{line_refusal}
use Rattle.checking.specs.declared.rule.Rule.{Rule}
use Rattle.monitor.specs.declared.Monitor.{Monitor}
use Rattle.monitor.specs.declared.fault.ShowFault.{ShowFault}
use Rattle.monitor.specs.Faults.{refusal_of as show_refusal}
use Rattle.monitor.specs.Uses.{Begins, Shows, run_of, counts_of, verdict_of}
use Rattle.loading.specs.declared.fault.RuleFault.{RuleFault}
use Rattle.loading.specs.Refusals.{refusal_of as rule_refusal}
use Rattle.loading.specs.Loading.{Loads}
use Rattle.reporting.specs.Excerpts.{excerpt_of}
use Rattle.judging.specs.declared.judgement.Judgement.{Judgement}
use Rattle.judging.specs.Judging.{Judges}
use Rattle.commands.specs.declared.command.Usage.{Usage}
use Rattle.commands.specs.Said.{Said, rule, entry, text_line, binary_record, bare_line, bare_record, counts as ask_counts, verdict as ask_verdict, held as ask_held, judge, excerpt, help as ask_help, Told as LineTold, nothing, malformed, says}
use Rattle.replies.specs.Told.{Told, told_by, a_rule, done, shown, counts, verdict, held, judged, part, help, refused, expected}
use Rattle.interpreter.specs.declared.Interpreter.{Interpreter}
use Rattle.replies.specs.declared.reply.Reply.{Reply}
use Rattle.interpreter.specs.declared.stop.Stop.{Stop}
use Rattle.interpreter.specs.declared.stop.Stop.TheVariants.{Refused, Memory}
use Rattle.interpreter.specs.Sizes.{sizes_of, Ordered}

-- the same with another monitor
abbrev pub with_monitor : Interpreter → Monitor → Interpreter
with_monitor i m = record { rule = i.rule; entries = i.entries; monitor = m }

-- this is told, and everything stays as it was
abbrev pub Tells : Interpreter → Told → Interpreter → Told → Type 0
Tells i x k t = (k ≡ i) × (t ≡ x)

-- an event is shown to the monitor, or refused as the monitor refuses it
pub data Showing (i : Interpreter) (e : Meaning) : Interpreter → Told → Type 0 where
  is_shown : {m : Monitor} → Shows e i.monitor m (Ok tt) → Showing i e (with_monitor i m) shown
  is_refused : {m : Monitor} (f : ShowFault) {q : Refusal} → Shows e i.monitor m (Err f) → show_refusal f ≡ Some q → Showing i e (with_monitor i m) (refused q)

-- what a line, or a record, is shown as: an event, or a refusal
abbrev pub line_event : List ℕ → Result Meaning Refusal
line_event xs = result_map_both (λ x. single x.fields) line_refusal (alone xs)

abbrev pub record_event : List ℕ → Result Meaning Refusal
record_event xs = result_map_both (λ x. single x.fields) record_refusal (record_of xs)

-- an event that was read is shown, with these further types; bytes that are none are refused
abbrev pub ShowsRead : Interpreter → (Meaning → Meaning) → Result Meaning Refusal → Interpreter → Told → Type 0
ShowsRead i f (Ok e) k t = Showing i (f e) k t
ShowsRead i f (Err q) k t = Tells i (refused q) k t

-- a rule is put in force, with a new monitor; a refusal leaves everything as it was
pub data SetsRule (i : Interpreter) (xs : List ℕ) : Interpreter → Told → Type 0 where
  no_rule : {g : RuleFault} → Loads xs (Err g) → SetsRule i xs i (refused (rule_refusal g))
  in_force : {r : Rule} {m : Monitor} → Loads xs (Ok r) → Begins r m → SetsRule i xs (record { rule = r; entries = i.entries; monitor = m }) (a_rule r.count)

pub record Judging (i : Interpreter) (xs : List ℕ) (k : Interpreter) (t : Told) : Type 0 where
  pub judgement : Judgement
  pub judges : Judges i.rule i.entries xs judgement
  pub tells : t ≡ judged judgement
  pub stays : k ≡ i

pub record Holding (i : Interpreter) (k : Interpreter) (t : Told) : Type 0 where
  pub sizes : List ℕ
  pub rising : Ordered (sizes_of (run_of i.monitor).states) sizes
  pub tells : t ≡ held sizes
  pub stays : k ≡ i

-- the part of the bytes that a fault of this layer and place lies in; its number does not matter
abbrev pub part_of : List ℕ → List ℕ → ℕ → Layer → Span → List ℕ
part_of rs ls n l s = excerpt_of rs ls (record { number = min n 255; layer = l; place = Bytes s })

-- what a command does
abbrev pub Does : Interpreter → Said → Interpreter → Told → Type 0
Does i (rule xs) k t = SetsRule i xs k t
Does i (entry ty e) k t = (k ≡ record { rule = i.rule; entries = with_entry i.entries ty e; monitor = i.monitor }) × (t ≡ done)
Does i (text_line xs) k t = ShowsRead i (λ m. derived m i.entries) (line_event xs) k t
Does i (binary_record xs) k t = ShowsRead i (λ m. derived m i.entries) (record_event xs) k t
Does i (bare_line xs) k t = ShowsRead i (λ m. m) (line_event xs) k t
Does i (bare_record xs) k t = ShowsRead i (λ m. m) (record_event xs) k t
Does i ask_counts k t = Tells i (counts (counts_of i.monitor)) k t
Does i ask_verdict k t = Tells i (verdict (verdict_of i.monitor)) k t
Does i ask_held k t = Holding i k t
Does i (judge xs) k t = Judging i xs k t
Does i (excerpt rs ls n l s) k t = Tells i (part (part_of rs ls n l s)) k t
Does i ask_help k t = Tells i help k t

-- carrying out a command comes to what P says, where a refusal is what is told; where memory is wanting everything stays as it was
abbrev pub ComesTo : (Interpreter → Told → Type 0) → Interpreter → Interpreter → Result Reply Stop → Type 0
ComesTo P i k (Ok y) = P k (told_by y)
ComesTo P i k (Err (Refused q)) = P k (refused q)
ComesTo P i k (Err Memory) = k ≡ i

-- what a line does: one that is no command is passed over, one in another form than its command's is an error
pub data Answers (i : Interpreter) : LineTold → Interpreter → Option Told → Type 0 where
  passed_over : Answers i nothing i None
  an_error : {u : Usage} → Answers i (malformed u) i (Some (expected u))
  a_command : {c : Said} {k : Interpreter} {t : Told} → Does i c k t → Answers i (says c) k (Some t)

-- before any command the rule of one empty node is in force, with no entries
pub record Opens (i : Interpreter) : Type 0 where
  pub one : i.rule.count ≡ 1
  pub none : i.entries ≡ no_entries
  pub begun : Begins i.rule i.monitor
