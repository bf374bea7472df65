-- A monitor that is shown one line of a log.
use Rattle.std.proofs.Common.{◌≡◌, ℕ, List, [], ◌∷◌, ◌++◌, length, IsErrAnd, Ok, Err, MatchResult, Result, sym, refl, ap, ◌∙◌, subst}
use Rattle.events.specs.declared.derived.Entries.{Entries}
use Rattle.events.specs.declared.derived.Derived.{Derived}
use Rattle.events.specs.Meanings.{single}
use Rattle.events.specs.Derivation.{derived}
use Rattle.lines.specs.declared.line.Line.{Line}
use Rattle.lines.specs.declared.log.LogLine.{LogLine}
use Rattle.lines.specs.declared.fault.LogFault.{LogFault}
use Rattle.lines.specs.Logs.{log_line_of}
use Rattle.calculus.specs.Vocabulary.{Rule, Meaning}
use Rattle.calculus.specs.Graphs.{graph_of}
use Rattle.calculus.specs.Visited.{Full as Overfull}
use Rattle.calculus.specs.Runs.{Run, begin, run}
use Rattle.monitor.specs.declared.Monitor.{Monitor}
use Rattle.monitor.specs.declared.fault.ShowFault.{ShowFault}
use Rattle.monitor.specs.declared.fault.ShowFault.TheVariants.{Limit, Full as TooFull, Memory as NoMemory}
use Rattle.monitor.specs.Uses.{shows, run_of, Shown, Shows, Made, begun, GoesOn}
use Rattle.monitor.proofs.Kept.{any_use, led, events_more}
use Rattle.judging.specs.declared.fault.JudgeFault.{JudgeFault}
use Rattle.judging.specs.declared.fault.JudgeFault.TheVariants.{BadLine}
use Rattle.judging.specs.Judging.{event_of, FullAfter, at_a_bad_line, where_full, out_of_memory}
use Rattle.judging.specs.Watching.{Watches, Further, Passes, StopsAt}

-- what a derived event over a line means
abbrev event_in : Derived Line → Meaning
event_in d = derived (single d.below.fields) d.entries

-- before any event
pub fresh : (m : Monitor) → run_of m ≡ begin → Watches m.rule [] m
fresh m q = record { calls = []; rule = refl; used = subst (Made m.rule []) (sym q) begun; events = refl }

module _ (r : Rule) (es : List Meaning) (m : Monitor) (w : Watches r es m) where
  -- the monitor holds what the events lead to
  held : run (graph_of r) es begin ≡ run_of m
  held =
      ap (λ (x : Rule). run (graph_of x) es begin) (sym w.rule) ∙
      (ap (λ (xs : List Meaning). run (graph_of m.rule) xs begin) (sym w.events) ∙ (led m.rule w.calls (run_of m) w.used).is)

  pub so_many : m.shown ≡ length es
  so_many = (any_use m.rule w.calls (run_of m) w.used).counts.shown ∙ ap length w.events

  same_monitor : (n : Monitor) → n ≡ m → Watches r es n
  same_monitor n q = subst (Watches r es) (sym q) w

  module _ (e : Meaning) where
    full_there : FullAfter r es e → Overfull (graph_of m.rule) e (run_of m).states
    full_there h =
        subst (λ (x : Rule). Overfull (graph_of x) e (run_of m).states) (sym w.rule)
        (subst (λ (M : Run). Overfull (graph_of r) e M.states) held h)

    full_here : Overfull (graph_of m.rule) e (run_of m).states → FullAfter r es e
    full_here h =
        subst (λ (M : Run). Overfull (graph_of r) e M.states) (sym held)
        (subst (λ (x : Rule). Overfull (graph_of x) e (run_of m).states) w.rule h)

  module _ (en : Entries) (log : List ℕ) (l : LogLine) where
    further : (n : Monitor) (x : Line) → Ok x ≡ log_line_of l log → Shown (event_of en x) m n
        → GoesOn m (shows (event_of en x) (Ok tt)) n → Further r en log l es n
    further n x q s u = record {
      line = x;
      reads = sym q;
      room = λ h. s.room (full_there (event_of en x) h);
      watches = record {
        calls = w.calls ++ (shows (event_of en x) (Ok tt) ∷ []);
        rule = s.rule ∙ w.rule;
        used = u w.calls w.used;
        events = events_more w.calls (shows (event_of en x) (Ok tt) ∷ []) ∙ ap (λ (xs : List Meaning). xs ++ (event_of en x ∷ [])) w.events;
      };
    }

    -- the event that was shown is the line under the entries
    pub goes_further : (n : Monitor) (x : Line) (d : Derived Line) → Ok x ≡ log_line_of l log → d ≡ record { below = x; entries = en } → Shown (event_in d) m n
        → GoesOn m (shows (event_in d) (Ok tt)) n → Further r en log l es n
    goes_further n x d q e s u =
        further n x q (subst (λ (z : Derived Line). Shown (event_in z) m n) e s)
        (subst (λ (z : Derived Line). GoesOn m (shows (event_in z) (Ok tt)) n) e u)

    -- the event was not shown
    stops_there : (n : Monitor) (x : Line) (d : Derived Line) (f : ShowFault) (g : JudgeFault) → Ok x ≡ log_line_of l log → d ≡ record { below = x; entries = en }
        → StopsAt l f g → Shows (event_in d) m n (Err f) → Passes r en log l es n (Err g)
    stops_there n x d TooFull g q e t h =
        let s : Shows (event_of en x) m n (Err TooFull) = subst (λ (z : Derived Line). Shows (event_in z) m n (Err TooFull)) e h in
        subst (λ (z : JudgeFault). Passes r en log l es n (Err z)) (sym t) (same_monitor n s.1.1, λ ls. where_full (sym q) (full_here (event_of en x) s.1.0))
    stops_there n x d NoMemory g q e t h =
        subst (λ (z : JudgeFault). Passes r en log l es n (Err z)) (sym t) (same_monitor n h.1, λ ls. out_of_memory (sym q))
    stops_there n x d Limit g q e t h = absurd t

    -- what showing the event came to
    pub passed : (n : Monitor) (x : Line) (d : Derived Line) (t : Result (Unit {0}) ShowFault) (o : Result (Unit {0}) JudgeFault) → Ok x ≡ log_line_of l log
        → d ≡ record { below = x; entries = en } → Shows (event_in d) m n t → GoesOn m (shows (event_in d) t) n
        → MatchResult t (λ u. o ≡ Ok u) (λ f. IsErrAnd o (StopsAt l f)) → Passes r en log l es n o
    passed n x d (Ok u) o q e s h k = subst (Passes r en log l es n) (sym k) (goes_further n x d q e s h)
    passed n x d (Err f) (Ok u) q e s h k = absurd k
    passed n x d (Err f) (Err g) q e s h k = stops_there n x d f g q e k s

    pub stops_at : (o : Result (Unit {0}) JudgeFault) (f : LogFault) → Err f ≡ log_line_of l log → IsErrAnd o (λ y. y ≡ BadLine f) → Passes r en log l es m o
    stops_at (Ok u) f q e = absurd e
    stops_at (Err y) f q e = subst (λ (z : JudgeFault). Passes r en log l es m (Err z)) (sym e) (w, λ ls. at_a_bad_line (sym q))
