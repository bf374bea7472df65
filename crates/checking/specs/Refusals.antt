-- What each refusal of checking answers: number, layer and place; and its cause in words.
use Rattle.std.specs.Prelude.{ℕ, List, codes}
use Rattle.refusals.specs.declared.Layer.TheVariants.{Checking}
use Rattle.refusals.specs.declared.Place.TheVariants.{Node}
use Rattle.refusals.specs.declared.Refusal.{Refusal}
use Rattle.checking.specs.declared.fault.CheckFault.{CheckFault}
use Rattle.checking.specs.declared.fault.CheckFault.TheVariants.{BadCount, BadLayout, Loop, TooHeavy, FreeAtStart}

abbrev pub checking : ℕ → ℕ → Refusal
checking k n = record { number = k; layer = Checking; place = Node n }

abbrev pub refusal_of : CheckFault → Refusal
refusal_of BadCount = checking 2 0
refusal_of (BadLayout n) = checking 3 n
refusal_of (Loop n) = checking 5 n
refusal_of (TooHeavy n) = checking 6 n
refusal_of FreeAtStart = checking 7 0

abbrev pub cause_of : CheckFault → List ℕ
cause_of BadCount = codes "the count is not 1 to 128"
cause_of (BadLayout n) = codes "a node breaks the layout"
cause_of (Loop n) = codes "a node is on a loop"
cause_of (TooHeavy n) = codes "a node weighs over 1000"
cause_of FreeAtStart = codes "node 0 has a free variable"
