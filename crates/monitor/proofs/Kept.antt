-- A use is a run of the events shown, so what holds of runs holds of it.
use Rattle.std.proofs.Common.{◌≡◌, List, [], ◌∷◌, ◌++◌, Ok, Err, sym, refl, ap, ◌∙◌, subst, append-nil}
use Rattle.calculus.specs.Vocabulary.{Rule, Meaning}
use Rattle.calculus.specs.Numbers.{Choice}
use Rattle.calculus.specs.Matching.{Proper, AllProper}
use Rattle.calculus.specs.Graphs.{Graph, graph_of}
use Rattle.calculus.specs.Runs.{Run, begin, show, run}
use Rattle.calculus.proofs.Checked.{closed_at_start, well_formed}
use Rattle.calculus.proofs.Following.{follows}
use Rattle.calculus.proofs.Reaching.{held_reached}
use Rattle.monitor.specs.Uses.{Call, shows, asks_counts, asks_verdict, Does, is_shown, at_the_limit, is_full, out_of_memory, answers_counts, answers_verdict, Made, begun, one_more, events_in}
use Rattle.monitor.specs.Promise.{Kept, AnyUse}

pub events_more : (cs ds : List Call) → events_in (cs ++ ds) ≡ events_in cs ++ events_in ds
events_more [] ds = refl
events_more (shows e (Ok u) ∷ cs) ds = ap (λ es. e ∷ es) (events_more cs ds)
events_more (shows e (Err f) ∷ cs) ds = events_more cs ds
events_more (asks_counts c ∷ cs) ds = events_more cs ds
events_more (asks_verdict v ∷ cs) ds = events_more cs ds

proper_more : (es : List Meaning) (e : Meaning) → AllProper es → Proper e → AllProper (es ++ (e ∷ []))
proper_more [] e all p = (p, tt)
proper_more (d ∷ es) e all p = (all.0, proper_more es e all.1 p)

run_more : (G : Graph) (es : List Meaning) (e : Meaning) (M : Run) → run G (es ++ (e ∷ [])) M ≡ show G e (run G es M)
run_more G [] e M = refl
run_more G (d ∷ es) e M = run_more G es e (show G d M)

-- what a use led to
pub record Led (r : Rule) (cs : List Call) (M : Run) : Type 0 where
  pub is : run (graph_of r) (events_in cs) begin ≡ M
  pub proper : AllProper (events_in cs)

-- a call that shows nothing
same : (r : Rule) (cs : List Call) (c : Call) (M : Run) → events_in (c ∷ []) ≡ [] → Led r cs M → Led r (cs ++ (c ∷ [])) M
same r cs c M e l =
    let q : events_in (cs ++ (c ∷ [])) ≡ events_in cs = events_more cs (c ∷ []) ∙ ap (λ es. events_in cs ++ es) e ∙ append-nil (events_in cs) in
    record { is = ap (λ es. run (graph_of r) es begin) q ∙ l.is; proper = subst AllProper (sym q) l.proper }

led_on : (r : Rule) (cs : List Call) (M N : Run) (c : Call) → Does r M c N → Led r cs M → Led r (cs ++ (c ∷ [])) N
led_on r cs M N c (is_shown {e = e} p few room) l =
    let q : events_in (cs ++ (c ∷ [])) ≡ events_in cs ++ (e ∷ []) = events_more cs (shows e (Ok tt) ∷ []) in
    record {
      is = ap (λ es. run (graph_of r) es begin) q ∙ run_more (graph_of r) (events_in cs) e begin ∙ ap (show (graph_of r) e) l.is;
      proper = subst AllProper (sym q) (proper_more (events_in cs) e l.proper p);
    }
led_on r cs M N c (at_the_limit h) l = same r cs c M refl l
led_on r cs M N c (is_full h f) l = same r cs c M refl l
led_on r cs M N c (out_of_memory h) l = same r cs c M refl l
led_on r cs M N c answers_counts l = same r cs c M refl l
led_on r cs M N c answers_verdict l = same r cs c M refl l

pub led : (r : Rule) (cs : List Call) (M : Run) → Made r cs M → Led r cs M
led r cs M begun = record { is = refl; proper = tt }
led r cs M (one_more {cs = ds} {c = c} {M = L} m d) = led_on r ds L M c d (led r ds L m)

pub any_use : AnyUse
any_use r cs M m =
    let l = led r cs M m in
    let f = λ (ρ : Choice). follows (graph_of r) (well_formed r) (closed_at_start r) ρ (events_in cs) l.proper in
    let h = held_reached (graph_of r) (well_formed r) (events_in cs) in
    subst (Kept r cs) l.is (record {
      counts = record { shown = (f (λ v. 0)).shown; taken = λ ρ. (f ρ).taken; all = λ ρ. (f ρ).all };
      judges = record { broken = λ ρ. (f ρ).broken; may_end = λ ρ. (f ρ).may_end; goes_on = λ ρ. (f ρ).goes_on };
      holds = h.0;
      once = h.1;
    })
