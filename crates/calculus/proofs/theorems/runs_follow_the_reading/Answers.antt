use Rattle.calculus.specs.Graphs.{graph_of}
use Rattle.calculus.proofs.Checked.{closed_at_start, well_formed}
use Rattle.calculus.proofs.Following.{follows}
use Rattle.calculus.proofs.Reaching.{held_reached, reads_reached}
use Rattle.calculus.proofs.theorems.runs_follow_the_reading.Goals as goal

pub returns : goal.returns
returns c = record {
  run = λ r ρ es P. follows (graph_of r) (well_formed r) (closed_at_start r) ρ es P;
  held = λ r es. held_reached (graph_of r) (well_formed r) es;
  reached = λ r ρ es P. reads_reached (graph_of r) (well_formed r) (closed_at_start r) ρ es P;
}
