use Rattle.calculus.specs.Graphs.{graph_of}
use Rattle.calculus.proofs.Agreement.{complete, sound}
use Rattle.calculus.proofs.Allowing.{begins, may_end_tells, settle_down, settle_up}
use Rattle.calculus.proofs.Checked.{well_formed}
use Rattle.calculus.proofs.theorems.steps_agree_with_the_reading.Goals as goal

pub returns : goal.returns
returns c = record {
  step = λ r e P t ρ m es. (
    complete (graph_of r) (well_formed r) e t ρ m es,
    λ x. sound (graph_of r) (well_formed r) e P x.step ρ m es x.agrees x.on,
  );
  ending = λ r t ρ. (may_end_tells (graph_of r) (well_formed r) t ρ, begins (graph_of r) (well_formed r) t ρ);
  settling = λ r t v k ρ m es. (settle_down (graph_of r) (well_formed r) t v k ρ m es, settle_up (graph_of r) (well_formed r) t v k ρ m es);
}
