-- Why an event is not shown, what that refusal answers, and its cause in words.
use Rattle.std.specs.Prelude.{ℕ, List, Some, None, Option, codes}
use Rattle.refusals.specs.declared.Layer.TheVariants.{Showing}
use Rattle.refusals.specs.declared.Place.TheVariants.{Nowhere}
use Rattle.refusals.specs.declared.Refusal.{Refusal}
use Rattle.stepping.specs.declared.fault.StepFault.{StepFault}
use Rattle.stepping.specs.declared.fault.StepFault.TheVariants.{Full as TooMuch, Memory as NoMemory}
use Rattle.monitor.specs.declared.fault.ShowFault.{ShowFault}
use Rattle.monitor.specs.declared.fault.ShowFault.TheVariants.{Limit, Full, Memory}

abbrev pub turned : StepFault → ShowFault
turned TooMuch = Full
turned NoMemory = Memory

-- want of memory has no number
abbrev pub refusal_of : ShowFault → Option Refusal
refusal_of Limit = Some (record { number = 31; layer = Showing; place = Nowhere })
refusal_of Full = Some (record { number = 32; layer = Showing; place = Nowhere })
refusal_of Memory = None

abbrev pub cause_of : ShowFault → List ℕ
cause_of Limit = codes "the monitor was shown a million events"
cause_of Full = codes "the monitor is full"
cause_of Memory = codes "memory is wanting"
