-- What showing an event does to the held states.
use Rattle.std.specs.Prelude.{◌≡◌, Bool, false, List, [], ◌∷◌, length, Ok, Err, vec_items, Result, Vec, nat_lt}
use Rattle.std.specs.declared.alloc.Global.{Global}
use Rattle.calculus.specs.Vocabulary.{Meaning}
use Rattle.calculus.specs.Graphs.{Graph}
use Rattle.calculus.specs.States.{State}
use Rattle.calculus.specs.Equality.{same_state}
use Rattle.calculus.specs.Lists.{gather}
use Rattle.calculus.specs.Outcomes.{outcomes, after}
use Rattle.calculus.specs.Steps.{Outcome as Out}
use Rattle.calculus.specs.Fullness.{refuses}
use Rattle.states.specs.declared.tree.Tree.{Tree}
use Rattle.stepping.specs.declared.fault.StepFault.{StepFault}
use Rattle.stepping.specs.Listed.{states}
use Rattle.stepping.specs.Adding.{Says, Adds}

-- over 16 states
abbrev pub too_many : List State → Bool
too_many ts = nat_lt 16 (length ts)

abbrev pub AddsStates : List State → List State → List State → Result (Unit {0}) StepFault → Type 0
AddsStates xs zs ys r = Adds same_state too_many xs zs ys r

abbrev pub state_of : Out → List State
state_of x = x.0 ∷ []

-- the states after e of one state
abbrev pub successors : Graph → Meaning → State → List State
successors G e t = gather state_of (outcomes G e t)

-- the states to hold after e, unless showing it is refused; full, only where it is
abbrev pub Follows : Graph → Meaning → List State → Result (Vec Tree Global) StepFault → Type 0
Follows G e ts (Ok v) = (states (vec_items v) ≡ after G e ts) × (refuses G e ts ≡ false)
Follows G e ts (Err f) = Says (refuses G e ts) f
