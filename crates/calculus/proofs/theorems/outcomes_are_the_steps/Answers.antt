use Rattle.calculus.specs.Graphs.{graph_of}
use Rattle.calculus.proofs.Checked.{well_formed}
use Rattle.calculus.proofs.Listing.{outcomes_step, step_outcomes}
use Rattle.calculus.proofs.Distinct.{outcomes_distinct}
use Rattle.calculus.proofs.Filling.{opens}
use Rattle.calculus.proofs.Overflowing.{exactly, full_is, is_full, overflow_within, within_full}
use Rattle.calculus.proofs.theorems.outcomes_are_the_steps.Goals as goal

pub returns : goal.returns
returns c =
    record {
      listed = λ r e t. ((λ s β. ((λ i. outcomes_step (graph_of r) e t (s, β) i), λ d. step_outcomes (graph_of r) (well_formed r) e d)), outcomes_distinct (graph_of r) e t);
      opened = λ r e n σ. opens (graph_of r) (well_formed r) e n σ;
      full = λ r e t. ((overflow_within (graph_of r) (well_formed r) e t, within_full (graph_of r) (well_formed r) e t), exactly (graph_of r) (well_formed r) e t);
      refused = λ r e ts. (is_full (graph_of r) (well_formed r) e ts, full_is (graph_of r) (well_formed r) e ts);
    }
