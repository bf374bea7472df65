use Rattle.std.proofs.Common.{◌+◌, ◌++◌, drop}
use Rattle.calculus.specs.Lists.{gather}
use Rattle.stepping.specs.Adding.{outcomes_in}
use Rattle.stepping.specs.Listed.{outcome_of, outcomes_of}
use Rattle.stepping.specs.Wrapping.{with_one, with_each}
use Rattle.stepping.proofs.Collecting.{Adding}
use Rattle.stepping.proofs.outcomes.Outcomes.with_pairs.Given as goal

abbrev pub invariant-loop-r : goal.invariant-loop-r
invariant-loop-r l =
    Adding (outcomes_in l.fn.self) (gather (with_each (outcomes_of l.rs)) (outcomes_of l.ls)) (outcomes_in l.self)
    (gather (with_one (outcome_of l.l)) (outcomes_of (drop l.r-index l.rs)) ++ gather (with_each (outcomes_of l.rs)) (outcomes_of (drop (l.l-index + 1) l.ls)))

abbrev pub invariant-loop-l : goal.invariant-loop-l
invariant-loop-l l =
    Adding (outcomes_in l.fn.self) (gather (with_each (outcomes_of l.rs)) (outcomes_of l.ls)) (outcomes_in l.self)
    (gather (with_each (outcomes_of l.rs)) (outcomes_of (drop l.l-index l.ls)))
