use Rattle.calculus.proofs.Binding.{bind_complete, bind_sound, passes_matches}
use Rattle.calculus.proofs.theorems.matching_agrees.Goals as goal

pub returns : goal.returns
returns c = record {
  binding = λ σ p e ρ. (bind_complete σ p e ρ, λ x. bind_sound σ p e x.0 ρ x.1 x.2);
  filter = passes_matches;
}
