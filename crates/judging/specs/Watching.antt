-- A monitor while a log is judged; for the steps of judging.
use Rattle.std.specs.Prelude.{◌≡◌, ℕ, List, [], ◌∷◌, ◌++◌, Some, Ok, Err, Option, Result}
use Rattle.std.specs.Result.{result_err}
use Rattle.events.specs.declared.derived.Entries.{Entries}
use Rattle.lines.specs.declared.line.Line.{Line}
use Rattle.lines.specs.declared.log.LogLine.{LogLine}
use Rattle.lines.specs.Logs.{log_line_of}
use Rattle.calculus.specs.Vocabulary.{Rule, Meaning}
use Rattle.monitor.specs.declared.Monitor.{Monitor}
use Rattle.monitor.specs.Uses.{Call, Use, events_in, Counted, Judged}
use Rattle.monitor.specs.declared.fault.ShowFault.{ShowFault}
use Rattle.monitor.specs.declared.fault.ShowFault.TheVariants.{Limit, Full, Memory}
use Rattle.judging.specs.declared.fault.JudgeFault.{JudgeFault}
use Rattle.judging.specs.declared.fault.JudgeFault.TheVariants.{Full as At_full, Memory as No_memory}
use Rattle.judging.specs.declared.judgement.Judgement.{Judgement}
use Rattle.judging.specs.Judging.{event_of, FullAfter, Goes, Stops}

-- a monitor that was begun on the rule and shown these events since, and no others
pub record Watches (r : Rule) (es : List Meaning) (m : Monitor) : Type 0 where
  pub calls : List Call
  pub rule : m.rule ≡ r
  pub used : Use m calls
  pub events : events_in calls ≡ es

-- what is answered of such a monitor
pub record Tells (r : Rule) (es : List Meaning) (o : Option JudgeFault) (j : Judgement) : Type 0 where
  pub counts : Counted r es j.counts
  pub verdict : Judged r es j.verdict
  pub fault : j.fault ≡ o

-- one line was shown, and the monitor watches its event too
pub record Further (r : Rule) (en : Entries) (log : List ℕ) (l : LogLine) (es : List Meaning) (m : Monitor) : Type 0 where
  pub line : Line
  pub reads : log_line_of l log ≡ Ok line
  pub room : FullAfter r es (event_of en line) → ⊥
  pub watches : Watches r (es ++ (event_of en line ∷ [])) m

-- one line of a log: it was shown, or judging stops there
abbrev pub Passes : Rule → Entries → List ℕ → LogLine → List Meaning → Monitor → Result (Unit {0}) JudgeFault → Type 0
Passes r en log l es m (Ok u) = Further r en log l es m
Passes r en log l es m (Err f) = Watches r es m × ((ls : List LogLine) → Goes r en log es (l ∷ ls) es (Some f))

-- a show that is refused stops judging at its line; the limit of shows is never met
abbrev pub StopsAt : LogLine → ShowFault → JudgeFault → Type 0
StopsAt l Full g = g ≡ At_full l.number
StopsAt l Memory g = g ≡ No_memory l.number
StopsAt l Limit g = ⊥

-- a log was gone through up to the first fault, if it has one
pub record Went (r : Rule) (en : Entries) (log : List ℕ) (m : Monitor) (o : Result (Unit {0}) JudgeFault) : Type 0 where
  pub shown : List Meaning
  pub stops : Stops r en log shown (result_err o)
  pub watches : Watches r shown m
