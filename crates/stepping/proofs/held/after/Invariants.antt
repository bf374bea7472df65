use Rattle.std.proofs.Common.{vec_items}
use Rattle.calculus.specs.Graphs.{graph_of}
use Rattle.stepping.specs.Listed.{states}
use Rattle.stepping.proofs.Next.{Passed}
use Rattle.stepping.proofs.held.after.Given as goal

abbrev pub invariant-loop-t : goal.invariant-loop-t
invariant-loop-t l = Passed (graph_of l.rule) l.event l.held l.t-index (states (vec_items l.next.states))
