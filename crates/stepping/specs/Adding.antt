-- What the calls say that add to a list, or make one.
use Rattle.std.specs.Prelude.{◌≡◌, Bool, true, false, List, [], IfOk, Ok, Err, vec_items, Result}
use Rattle.std.specs.declared.alloc.AllocError.{AllocError}
use Rattle.calculus.specs.Equality.{same_outcome}
use Rattle.calculus.specs.Lists.{once}
use Rattle.calculus.specs.Steps.{Outcome as Out}
use Rattle.calculus.specs.Fullness.{overflowing}
use Rattle.stepping.specs.declared.fault.StepFault.{StepFault}
use Rattle.stepping.specs.declared.fault.StepFault.TheVariants.{Full, Memory}
use Rattle.stepping.specs.declared.outcome.Outcome.{Outcome}
use Rattle.stepping.specs.declared.outcomes.Outcomes.{Outcomes}
use Rattle.stepping.specs.Listed.{outcome_of, outcomes_of}

-- the outcomes that a list in memory holds
abbrev pub outcomes_in : Outcomes → List Out
outcomes_in os = outcomes_of (vec_items os.items)

-- what a fault says, where b is that something overflows; want of memory says nothing
abbrev pub Says : Bool → StepFault → Type 0
Says b Full = b ≡ true
Says b Memory = Unit {0}

-- zs were added to xs one by one, each that was not there yet, which gave ys; or the list would be too large
abbrev pub Adds : {A : Type 0} → (A → A → Bool) → (List A → Bool) → List A → List A → List A → Result (Unit {0}) StepFault → Type 0
Adds eq large xs zs ys (Ok u) = (ys ≡ once eq xs zs) × (large ys ≡ false)
Adds eq large xs zs ys (Err f) = Says (large (once eq xs zs)) f

-- the same of outcomes
abbrev pub AddsOutcomes : List Out → List Out → List Out → Result (Unit {0}) StepFault → Type 0
AddsOutcomes xs zs ys r = Adds same_outcome overflowing xs zs ys r

-- the outcomes are xs, unless b
abbrev pub Gives : List Out → Bool → Result Outcomes StepFault → Type 0
Gives xs b (Ok v) = (outcomes_in v ≡ xs) × (b ≡ false)
Gives xs b (Err f) = Says b f

-- the outcomes are xs with those of a list added, each that was not there yet, unless they overflow
abbrev pub Extends : List Out → List Out → Result Outcomes StepFault → Type 0
Extends xs ws r = Gives (once same_outcome xs ws) (overflowing (once same_outcome xs ws)) r

-- the outcomes are those of a list, each once, unless they overflow
abbrev pub Collects : List Out → Result Outcomes StepFault → Type 0
Collects ws r = Extends [] ws r

-- what is made of an outcome is what g gives for it, where there is memory
abbrev pub Makes : (Outcome → Result Outcome AllocError → Type 0) → (Out → Out) → Type 0
Makes post g = (o : Outcome) (r : Result Outcome AllocError) → post o r → IfOk r (λ p. outcome_of p ≡ g (outcome_of o))
