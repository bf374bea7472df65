use Rattle.calculus.specs.Graphs.{graph_of}
use Rattle.calculus.proofs.Checked.{closed_at_start, well_formed}
use Rattle.calculus.proofs.Reaching.{binds_nothing, independent}
use Rattle.calculus.proofs.theorems.reached_states_are_closed.Goals as goal

pub returns : goal.returns
returns c = λ r es t p. (independent (graph_of r) (well_formed r) (closed_at_start r) p, binds_nothing (graph_of r) (well_formed r) (closed_at_start r) p)
