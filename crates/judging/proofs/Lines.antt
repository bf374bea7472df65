-- The lines of a log, one after the other, and what is told at the end.
use Rattle.std.proofs.Common.{◌≡◌, ℕ, ◌+◌, ◌<◌, ◌≤◌, List, [], ◌∷◌, ◌++◌, length, IsErrAnd, Some, None, Ok, Err, Option, Result, sym, ap, subst, arith}
use Rattle.std.specs.Result.{result_err}
use Rattle.std.proofs.lemmas.List.{length-append}
use Rattle.events.specs.declared.derived.Entries.{Entries}
use Rattle.lines.specs.declared.log.LogLine.{LogLine}
use Rattle.lines.specs.Logs.{lines_of}
use Rattle.lines.proofs.Numbered.{lines_few}
use Rattle.calculus.specs.Vocabulary.{Rule, Meaning}
use Rattle.calculus.specs.Runs.{begin}
use Rattle.monitor.specs.declared.Monitor.{Monitor}
use Rattle.monitor.specs.Uses.{run_of, Begins}
use Rattle.judging.specs.declared.fault.JudgeFault.{JudgeFault}
use Rattle.judging.specs.declared.fault.JudgeFault.TheVariants.{TooLong}
use Rattle.judging.specs.declared.judgement.Judgement.{Judgement}
use Rattle.judging.specs.Judging.{most_bytes, event_of, Goes, at_the_end, one_more, Stops, too_long, line_by_line, Judges}
use Rattle.judging.specs.Watching.{Watches, Tells, Passes, Further, Went}
use Rattle.judging.proofs.Watched.{fresh, so_many}

-- a monitor while lines are still to come: what they lead to is what the whole log leads to
pub record Under (r : Rule) (en : Entries) (log : List ℕ) (m : Monitor) (ls : List LogLine) : Type 0 where
  pub es : List Meaning
  pub watches : Watches r es m
  pub rest : (shown : List Meaning) (o : Option JudgeFault) → Goes r en log es ls shown o → Goes r en log [] (lines_of log) shown o
  pub few : length es + length ls ≤ length log

pub before : (en : Entries) (log : List ℕ) (m : Monitor) (ls : List LogLine) → run_of m ≡ begin → ls ≡ lines_of log → Under m.rule en log m ls
before en log m ls q e =
    subst (Under m.rule en log m) (sym e) (record { es = []; watches = fresh m q; rest = λ shown o g. g; few = omega (arith, lines_few log) })

-- no line of a log that is too long is shown
pub refused_whole : (en : Entries) (log : List ℕ) (m : Monitor) → run_of m ≡ begin → most_bytes < length log → Went m.rule en log m (Err TooLong)
refused_whole en log m q h = record { shown = []; stops = too_long h; watches = fresh m q }

module _ {r : Rule} {en : Entries} {log : List ℕ} {m : Monitor} {ls : List LogLine} (u : Under r en log m ls) where
  pub ended : length log ≤ most_bytes → ls ≡ [] → Went r en log m (Ok tt)
  ended h e = record { shown = u.es; stops = line_by_line h (u.rest u.es None (subst (λ ks. Goes r en log u.es ks u.es None) (sym e) at_the_end)); watches = u.watches }

  module _ {l : LogLine} {rest : List LogLine} (e : ls ≡ l ∷ rest) where
    pub room : length log ≤ most_bytes → m.shown < 1000000
    room h = omega (arith, so_many r u.es m u.watches, u.few, ap length e)

    -- what judging comes to from this line on is what the whole log comes to
    onward : (shown : List Meaning) (o : Option JudgeFault) → Goes r en log u.es (l ∷ rest) shown o → Goes r en log [] (lines_of log) shown o
    onward shown o g = u.rest shown o (subst (λ ks. Goes r en log u.es ks shown o) (sym e) g)

    pub again : {n : Monitor} → Further r en log l u.es n → Under r en log n rest
    again f = record {
      es = u.es ++ (event_of en f.line ∷ []);
      watches = f.watches;
      rest = λ shown o g. onward shown o (one_more f.reads f.room g);
      few = omega (arith, length-append u.es (event_of en f.line ∷ []), u.few, ap length e);
    }

    pub stopped : length log ≤ most_bytes → (n : Monitor) (o : Result (Unit {0}) JudgeFault) (f : JudgeFault) → Passes r en log l u.es n (Err f) → IsErrAnd o (λ y. y ≡ f) → Went r en log n o
    stopped h n (Ok v) f p d = absurd d
    stopped h n (Err y) f p d =
        subst (λ (z : JudgeFault). Went r en log n (Err z)) (sym d) (record { shown = u.es; stops = line_by_line h (onward u.es (Some f) (p.1 rest)); watches = p.0 })

-- what was told is the judgement
pub judged : (r : Rule) (en : Entries) (log : List ℕ) (m n : Monitor) (o : Result (Unit {0}) JudgeFault) (j : Judgement) → Begins r m → Went m.rule en log n o
    → ((s : Rule) (es : List Meaning) → Watches s es n → Tells s es (result_err o) j) → Judges r en log j
judged r en log m n o j b g t =
    let w : Went r en log n o = subst (λ (x : Rule). Went x en log n o) b.rule g in
    let q : Tells r w.shown (result_err o) j = t r w.shown w.watches in
    record { shown = w.shown; stops = subst (Stops r en log w.shown) (sym q.fault) w.stops; counts = q.counts; verdict = q.verdict }
