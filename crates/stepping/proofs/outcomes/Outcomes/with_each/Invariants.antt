use Rattle.std.proofs.Common.{map}
use Rattle.std.specs.Vec.Iter.{into_iter_items}
use Rattle.calculus.specs.Steps.{Outcome as Out}
use Rattle.stepping.specs.Adding.{Makes, outcomes_in}
use Rattle.stepping.specs.Listed.{outcomes_of}
use Rattle.stepping.proofs.Collecting.{Adding}
use Rattle.stepping.proofs.outcomes.Outcomes.with_each.Given as goal

abbrev pub invariant-loop-o : goal.invariant-loop-o
invariant-loop-o g l =
    (h : Out → Out) → Makes (goal.F-post g l.fn.make) h →
    Adding (outcomes_in l.initial.self) (map h (outcomes_of (into_iter_items l.initial.o-iterator))) (outcomes_in l.self) (map h (outcomes_of (into_iter_items l.o-iterator)))
