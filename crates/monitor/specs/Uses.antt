-- What a use of a monitor is: it is begun, and then calls are made on it.
use Rattle.std.specs.Prelude.{◌≡◌, ℕ, ◌<◌, ◌≤◌, ◌↔◌, List, [], ◌∷◌, ◌++◌, length, Ok, Err, vec_items, Result}
use Rattle.calculus.specs.Vocabulary.{Rule, Meaning}
use Rattle.calculus.specs.Numbers.{Choice}
use Rattle.calculus.specs.Matching.{Proper}
use Rattle.calculus.specs.Graphs.{graph_of}
use Rattle.calculus.specs.Reading.{whole, beginning, Permits}
use Rattle.calculus.specs.Visited.{Full as Overfull}
use Rattle.calculus.specs.declared.verdict.Verdict.{Verdict}
use Rattle.calculus.specs.declared.verdict.Verdict.TheVariants.{Broken, MayEnd, Open}
use Rattle.calculus.specs.Runs.{Run, begin, show, verdict}
use Rattle.calculus.specs.Theorems.{Greatest}
use Rattle.stepping.specs.Listed.{states}
use Rattle.monitor.specs.declared.Monitor.{Monitor}
use Rattle.monitor.specs.declared.Counts.{Counts}
use Rattle.monitor.specs.declared.fault.ShowFault.{ShowFault}
use Rattle.monitor.specs.declared.fault.ShowFault.TheVariants.{Limit, Full, Memory}

-- a monitor is shown a million events at most
abbrev pub most_shown : ℕ
most_shown = 1000000

-- what a monitor holds, with its counts
abbrev pub run_of : Monitor → Run
run_of m = record { states = states (vec_items m.held); shown = m.shown; taken = m.taken }

abbrev pub counts_of : Monitor → Counts
counts_of m = record { shown = m.shown; taken = m.taken }

abbrev pub verdict_of : Monitor → Verdict
verdict_of m = verdict (graph_of m.rule) (run_of m)

-- a monitor that was begun on a rule
pub record Begins (r : Rule) (m : Monitor) : Type 0 where
  pub rule : m.rule ≡ r
  pub run : run_of m ≡ begin

-- an event was shown: there was room for it, and the monitor holds what the rule's steps give
pub record Shown (e : Meaning) (m n : Monitor) : Type 0 where
  pub few : m.shown < most_shown
  pub room : Overfull (graph_of m.rule) e (run_of m).states → ⊥
  pub rule : n.rule ≡ m.rule
  pub run : run_of n ≡ show (graph_of m.rule) e (run_of m)

-- what showing e does to a monitor, by its answer; a refusal leaves the monitor as it was
abbrev pub Shows : Meaning → Monitor → Monitor → Result (Unit {0}) ShowFault → Type 0
Shows e m n (Ok u) = Shown e m n
Shows e m n (Err Limit) = (most_shown ≤ m.shown) × (n ≡ m)
Shows e m n (Err Full) = (m.shown < most_shown) × (Overfull (graph_of m.rule) e (run_of m).states × (n ≡ m))
Shows e m n (Err Memory) = (m.shown < most_shown) × (n ≡ m)

-- a call on a monitor, with its answer
pub data Call : Type 0 where
  shows : Meaning → Result (Unit {0}) ShowFault → Call
  asks_counts : Counts → Call
  asks_verdict : Verdict → Call

-- what a call does to a run
pub data Does (r : Rule) (M : Run) : Call → Run → Type 0 where
  is_shown : {e : Meaning} → Proper e → M.shown < most_shown → (Overfull (graph_of r) e M.states → ⊥) → Does r M (shows e (Ok tt)) (show (graph_of r) e M)
  at_the_limit : {e : Meaning} → most_shown ≤ M.shown → Does r M (shows e (Err Limit)) M
  is_full : {e : Meaning} → M.shown < most_shown → Overfull (graph_of r) e M.states → Does r M (shows e (Err Full)) M
  out_of_memory : {e : Meaning} → M.shown < most_shown → Does r M (shows e (Err Memory)) M
  answers_counts : Does r M (asks_counts (record { shown = M.shown; taken = M.taken })) M
  answers_verdict : Does r M (asks_verdict (verdict (graph_of r) M)) M

-- the calls that were made since a monitor was begun on a rule, the oldest first, and the run that they led to
pub data Made (r : Rule) : List Call → Run → Type 0 where
  begun : Made r [] begin
  one_more : {cs : List Call} {c : Call} {M N : Run} → Made r cs M → Does r M c N → Made r (cs ++ (c ∷ [])) N

-- those calls were made on this monitor, and no others
abbrev pub Use : Monitor → List Call → Type 0
Use m cs = Made m.rule cs (run_of m)

-- a call that took one monitor to another: every use of the first goes on by it
abbrev pub GoesOn : Monitor → Call → Monitor → Type 0
GoesOn m c n = (cs : List Call) → Use m cs → Use n (cs ++ (c ∷ []))

-- the events shown: those of the shows that were not refused, in their order
abbrev pub events_in : List Call → List Meaning
events_in [] = []
events_in (shows e (Ok u) ∷ cs) = e ∷ events_in cs
events_in (shows e (Err f) ∷ cs) = events_in cs
events_in (asks_counts c ∷ cs) = events_in cs
events_in (asks_verdict v ∷ cs) = events_in cs

-- the rule permits the events, as a beginning or whole; node 0 has no free variable, so any numbers can be chosen
abbrev pub Begun : Rule → Choice → List Meaning → Type 0
Begun r ρ es = Permits (graph_of r).node beginning ((graph_of r).node 0) ρ es

abbrev pub Complete : Rule → Choice → List Meaning → Type 0
Complete r ρ es = Permits (graph_of r).node whole ((graph_of r).node 0) ρ es

-- what the counts say of the events shown
pub record Counted (r : Rule) (es : List Meaning) (c : Counts) : Type 0 where
  pub shown : c.shown ≡ length es
  pub taken : (ρ : Choice) → Greatest (graph_of r).node ρ es c.taken
  pub all : (ρ : Choice) → (c.taken ≡ c.shown) ↔ Begun r ρ es

-- what the verdict says of them
pub record Judged (r : Rule) (es : List Meaning) (v : Verdict) : Type 0 where
  pub broken : (ρ : Choice) → (v ≡ Broken) ↔ (Begun r ρ es → ⊥)
  pub may_end : (ρ : Choice) → (v ≡ MayEnd) ↔ Complete r ρ es
  pub goes_on : (ρ : Choice) → (v ≡ Open) ↔ (Begun r ρ es × (Complete r ρ es → ⊥))
