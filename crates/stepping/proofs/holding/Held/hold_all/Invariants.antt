use Rattle.std.proofs.Common.{vec_items}
use Rattle.std.specs.Vec.Iter.{into_iter_items}
use Rattle.calculus.specs.Lists.{gather}
use Rattle.stepping.specs.Listed.{outcomes_of, states}
use Rattle.stepping.specs.Holding.{state_of}
use Rattle.stepping.proofs.Next.{Holding}
use Rattle.stepping.proofs.holding.Held.hold_all.Given as goal

abbrev pub invariant-loop-o : goal.invariant-loop-o
invariant-loop-o l =
    Holding (states (vec_items l.initial.self.states)) (gather state_of (outcomes_of (into_iter_items l.initial.o-iterator)))
    (states (vec_items l.self.states)) (gather state_of (outcomes_of (into_iter_items l.o-iterator)))
