-- What each fault of reporting answers: number, layer and place; and its cause in words.
use Rattle.std.specs.Prelude.{ℕ, List, codes}
use Rattle.refusals.specs.declared.Layer.TheVariants.{Report}
use Rattle.refusals.specs.declared.Place.TheVariants.{Nowhere}
use Rattle.refusals.specs.declared.Refusal.{Refusal}
use Rattle.reporting.specs.declared.fault.ReportFault.{ReportFault}
use Rattle.reporting.specs.declared.fault.ReportFault.TheVariants.{ShortBuffer}

abbrev pub refusal_of : ReportFault → Refusal
refusal_of ShortBuffer = record { number = 22; layer = Report; place = Nowhere }

abbrev pub cause_of : ReportFault → List ℕ
cause_of ShortBuffer = codes "the buffer has no room for a report"
