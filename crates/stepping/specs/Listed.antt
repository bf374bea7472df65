-- The outcomes and states that lists in memory are.
use Rattle.std.specs.Prelude.{List, map}
use Rattle.calculus.specs.States.{State}
use Rattle.calculus.specs.Steps.{Outcome as Out}
use Rattle.states.specs.declared.tree.Tree.{Tree}
use Rattle.states.specs.State.{state}
use Rattle.stepping.specs.declared.outcome.Outcome.{Outcome}

abbrev pub outcome_of : Outcome → Out
outcome_of o = (state o.tree, o.binding)

abbrev pub outcomes_of : List Outcome → List Out
outcomes_of os = map outcome_of os

abbrev pub states : List Tree → List State
states ts = map state ts
