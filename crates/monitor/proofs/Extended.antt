-- Showing an event, from what stepping answers.
use Rattle.std.proofs.Common.{◌≡◌, ◌<◌, List, [], ◌∷◌, ◌++◌, IsErrAnd, Ok, Err, vec_items, Result, Vec, sym, refl, ap, ◌∙◌, subst}
use borrow.Author.Tests.{clash}
use Rattle.std.specs.declared.alloc.Global.{Global}
use Rattle.calculus.specs.Vocabulary.{Rule, Meaning}
use Rattle.calculus.specs.Matching.{Proper}
use Rattle.calculus.specs.Graphs.{graph_of}
use Rattle.calculus.specs.Runs.{show, move}
use Rattle.stepping.specs.Listed.{states}
use Rattle.states.specs.declared.tree.Tree.{Tree}
use Rattle.calculus.specs.declared.verdict.Verdict.{Verdict}
use Rattle.calculus.specs.Fullness.{refuses}
use Rattle.calculus.proofs.Checked.{well_formed}
use Rattle.calculus.proofs.Overflowing.{full_is, is_full as is_full_held}
use Rattle.stepping.specs.Adding.{Says}
use Rattle.stepping.specs.Holding.{Follows}
use Rattle.stepping.specs.declared.fault.StepFault.{StepFault}
use Rattle.stepping.specs.declared.fault.StepFault.TheVariants.{Full as TooMuch, Memory as NoMemory}
use Rattle.monitor.proofs.Kept.{any_use}
use Rattle.monitor.specs.Faults.{turned}
use Rattle.monitor.specs.declared.Monitor.{Monitor}
use Rattle.monitor.specs.declared.fault.ShowFault.{ShowFault}
use Rattle.monitor.specs.declared.fault.ShowFault.TheVariants.{Limit, Full, Memory}
use Rattle.monitor.specs.Uses.{Call, shows, run_of, Shown, Shows, is_shown, at_the_limit, is_full, out_of_memory, Made, one_more, Use, GoesOn, asks_verdict, answers_verdict, verdict_of, events_in, Judged}

-- what a show did, as one call more of a use
pub one_show : (e : Meaning) (m n : Monitor) (r : Result (Unit {0}) ShowFault) → (m.shown < 1000000 → Proper e) → Shows e m n r → GoesOn m (shows e r) n
one_show e m n (Ok tt) p s cs u =
    let on : Made m.rule (cs ++ (shows e (Ok tt) ∷ [])) (show (graph_of m.rule) e (run_of m)) = one_more u (is_shown (p s.few) s.few s.room) in
    subst (λ (q : Rule). Made q (cs ++ (shows e (Ok tt) ∷ [])) (run_of n)) (sym s.rule)
    (subst (Made m.rule (cs ++ (shows e (Ok tt) ∷ []))) (sym s.run) on)
one_show e m n (Err Limit) p s cs u = subst (λ (k : Monitor). Use k (cs ++ (shows e (Err Limit) ∷ []))) (sym s.1) (one_more u (at_the_limit s.0))
one_show e m n (Err Full) p s cs u = subst (λ (k : Monitor). Use k (cs ++ (shows e (Err Full) ∷ []))) (sym s.1.1) (one_more u (is_full s.0 s.1.0))
one_show e m n (Err Memory) p s cs u = subst (λ (k : Monitor). Use k (cs ++ (shows e (Err Memory) ∷ []))) (sym s.1) (one_more u (out_of_memory s.0))

-- from what stepping answers to what showing does
module _ (e : Meaning) (m : Monitor) (few : m.shown < 1000000) where
  pub taken_in : (n : Monitor) (v : Vec Tree Global) → Follows (graph_of m.rule) e (run_of m).states (Ok v) → n.rule ≡ m.rule → run_of n ≡ move (states (vec_items v)) (run_of m) → Shown e m n
  taken_in n v f r q = record {
    few = few;
    room = λ h. clash (sym f.1 ∙ full_is (graph_of m.rule) (well_formed m.rule) e (run_of m).states h);
    rule = r;
    run = q ∙ ap (λ ts. move ts (run_of m)) f.0;
  }

  refused_as : (f : StepFault) → Says (refuses (graph_of m.rule) e (run_of m).states) f → Shows e m m (Err (turned f))
  refused_as TooMuch s = (few, (is_full_held (graph_of m.rule) (well_formed m.rule) e (run_of m).states s, refl))
  refused_as NoMemory s = (few, refl)

  pub refused_by : (r : Result (Unit {0}) ShowFault) (f : StepFault) → Follows (graph_of m.rule) e (run_of m).states (Err f) → IsErrAnd r (λ y. y ≡ turned f) → Shows e m m r
  refused_by (Ok u) f s j = absurd j
  refused_by (Err y) f s j = subst (λ (z : ShowFault). Shows e m m (Err z)) (sym j) (refused_as f s)

-- the same of the event whose answers were noted
pub as_shown : (d e : Meaning) (m n : Monitor) (r : Result (Unit {0}) ShowFault) → d ≡ e → Proper d → Shows d m n r
    → Shows e m n r × GoesOn m (shows e r) n
as_shown d e m n r q p s =
    subst (λ (x : Meaning). Shows x m n r × GoesOn m (shows x r) n) q (s, one_show d m n r (λ h. p) s)

-- a verdict that was asked for
pub asked : (m : Monitor) (v : Verdict) → v ≡ verdict_of m → GoesOn m (asks_verdict v) m
asked m v q cs u = subst (λ (x : Verdict). Use m (cs ++ (asks_verdict x ∷ []))) (sym q) (one_more u answers_verdict)

pub judged : (m : Monitor) (v : Verdict) → v ≡ verdict_of m → (cs : List Call) → Use m cs → Judged m.rule (events_in cs) v
judged m v q cs u = subst (Judged m.rule (events_in cs)) (sym q) (any_use m.rule cs (run_of m) u).judges
