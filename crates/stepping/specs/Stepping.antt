-- What the step of a part gives, and the measure by which the recursion ends.
use Rattle.std.specs.Prelude.{ℕ, ◌+◌, ◌*◌, max, Result}
use Rattle.calculus.specs.Vocabulary.{Meaning, Rule}
use Rattle.calculus.specs.Graphs.{graph_of}
use Rattle.calculus.specs.States.{State, leaf, pair, binder, filter}
use Rattle.calculus.specs.Outcomes.{outcomes}
use Rattle.calculus.specs.Fullness.{full}
use Rattle.stepping.specs.declared.fault.StepFault.{StepFault}
use Rattle.stepping.specs.declared.outcomes.Outcomes.{Outcomes}
use Rattle.stepping.specs.Adding.{Gives}

-- the outcomes of the state at the event, where it is not full
unfoldable pub Stepped : Rule → Meaning → State → Result Outcomes StepFault → Type 0
Stepped rule e t r = Gives (outcomes (graph_of rule) e t) (full (graph_of rule) e t) r

-- A leaf of rank k opens into states over leaves of lower rank: a binder state over a leaf, or a pair over two, stays below 4k.
-- Cells plus rank would not fall there.
abbrev pub load : Rule → State → ℕ
load rule (leaf n σ) = 4 * (graph_of rule).rank n + 1
load rule (pair o l r) = 1 + max (load rule l) (load rule r)
load rule (binder v t) = 1 + load rule t
load rule (filter n t) = 1 + load rule t
