-- Judging a log by a rule: which events are shown, what stops it, and what is then answered.
use Rattle.std.specs.Prelude.{◌≡◌, ℕ, ◌<◌, ◌≤◌, List, [], ◌∷◌, ◌++◌, length, Some, None, Ok, Err, Option}
use Rattle.events.specs.declared.derived.Entries.{Entries}
use Rattle.events.specs.Meanings.{single}
use Rattle.events.specs.Derivation.{derived}
use Rattle.lines.specs.declared.line.Line.{Line}
use Rattle.lines.specs.declared.log.LogLine.{LogLine}
use Rattle.lines.specs.declared.fault.LogFault.{LogFault}
use Rattle.lines.specs.Logs.{lines_of, log_line_of}
use Rattle.calculus.specs.Vocabulary.{Rule, Meaning}
use Rattle.calculus.specs.Graphs.{graph_of}
use Rattle.calculus.specs.Visited.{Full as Overfull}
use Rattle.calculus.specs.Runs.{begin, run}
use Rattle.monitor.specs.Uses.{Counted, Judged}
use Rattle.judging.specs.declared.fault.JudgeFault.{JudgeFault}
use Rattle.judging.specs.declared.fault.JudgeFault.TheVariants.{TooLong, BadLine, Full, Memory}
use Rattle.judging.specs.declared.judgement.Judgement.{Judgement}

-- the most bytes of a log that is judged
abbrev pub most_bytes : ℕ
most_bytes = 65536

-- what a line of a log means under the entries
abbrev pub event_of : Entries → Line → Meaning
event_of en x = derived (single x.fields) en

-- after some events a further one cannot be shown: a monitor of the rule is full
abbrev pub FullAfter : Rule → List Meaning → Meaning → Type 0
FullAfter r es e = Overfull (graph_of r) e (run (graph_of r) es begin).states

-- Goes r en log es ls shown o: where es were shown already, judging goes through the lines ls; in the end `shown` were shown, and o
-- is what stopped it
pub data Goes (r : Rule) (en : Entries) (log : List ℕ) : List Meaning → List LogLine → List Meaning → Option JudgeFault → Type 0 where
  at_the_end : {es : List Meaning} → Goes r en log es [] es None
  at_a_bad_line : {es : List Meaning} {l : LogLine} {ls : List LogLine} {f : LogFault} → log_line_of l log ≡ Err f → Goes r en log es (l ∷ ls) es (Some (BadLine f))
  where_full : {es : List Meaning} {l : LogLine} {ls : List LogLine} {x : Line} → log_line_of l log ≡ Ok x → FullAfter r es (event_of en x) → Goes r en log es (l ∷ ls) es (Some (Full l.number))
  out_of_memory : {es : List Meaning} {l : LogLine} {ls : List LogLine} {x : Line} → log_line_of l log ≡ Ok x → Goes r en log es (l ∷ ls) es (Some (Memory l.number))
  one_more : {es shown : List Meaning} {l : LogLine} {ls : List LogLine} {x : Line} {o : Option JudgeFault} → log_line_of l log ≡ Ok x → (FullAfter r es (event_of en x) → ⊥)
      → Goes r en log (es ++ (event_of en x ∷ [])) ls shown o → Goes r en log es (l ∷ ls) shown o

-- a log of too many bytes is refused before any line
pub data Stops (r : Rule) (en : Entries) (log : List ℕ) : List Meaning → Option JudgeFault → Type 0 where
  too_long : most_bytes < length log → Stops r en log [] (Some TooLong)
  line_by_line : {shown : List Meaning} {o : Option JudgeFault} → length log ≤ most_bytes → Goes r en log [] (lines_of log) shown o → Stops r en log shown o

-- the judgement: the counts and the verdict are what the reading of the rule says of the events shown
pub record Judges (r : Rule) (en : Entries) (log : List ℕ) (j : Judgement) : Type 0 where
  pub shown : List Meaning
  pub stops : Stops r en log shown j.fault
  pub counts : Counted r shown j.counts
  pub verdict : Judged r shown j.verdict

-- memory did not run out
abbrev pub Sufficed : Option JudgeFault → Type 0
Sufficed None = Unit {0}
Sufficed (Some TooLong) = Unit {0}
Sufficed (Some (BadLine f)) = Unit {0}
Sufficed (Some (Full n)) = Unit {0}
Sufficed (Some (Memory n)) = ⊥

-- no other judgement fits, where memory suffices
pub record Alone (r : Rule) (en : Entries) (log : List ℕ) (j : Judgement) : Type 0 where
  pub only : (k : Judgement) → Judges r en log k → Sufficed j.fault → Sufficed k.fault → j ≡ k
