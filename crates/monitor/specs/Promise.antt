-- The promise: after any calls on a monitor, its counts, its verdict and what it holds.
use Rattle.std.specs.Prelude.{◌↔◌, List}
use Rattle.calculus.specs.Vocabulary.{Rule}
use Rattle.calculus.specs.Graphs.{graph_of}
use Rattle.calculus.specs.States.{State}
use Rattle.calculus.specs.Steps.{Reached}
use Rattle.calculus.specs.Lists.{In, Distinct}
use Rattle.calculus.specs.Runs.{Run, verdict}
use Rattle.monitor.specs.Uses.{Call, Made, events_in, Counted, Judged}

pub record Kept (r : Rule) (cs : List Call) (M : Run) : Type 0 where
  pub counts : Counted r (events_in cs) (record { shown = M.shown; taken = M.taken })
  pub judges : Judged r (events_in cs) (verdict (graph_of r) M)
  -- each state held is derived by the steps, and each that is derived is held, once
  pub holds : (t : State) → In t M.states ↔ Reached (graph_of r) (events_in cs) t
  pub once : Distinct M.states

abbrev pub AnyUse : Type 0
AnyUse = (r : Rule) (cs : List Call) (M : Run) → Made r cs M → Kept r cs M
