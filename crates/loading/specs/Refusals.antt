-- A rule that is not loaded is refused as reading or checking refuses it.
use Rattle.std.specs.Prelude.{ℕ, List}
use Rattle.refusals.specs.declared.Refusal.{Refusal}
use Rattle.rules.specs.Refusals.{refusal_of as read_refusal, cause_of as read_cause}
use Rattle.checking.specs.Refusals.{refusal_of as check_refusal, cause_of as check_cause}
use Rattle.loading.specs.declared.fault.RuleFault.{RuleFault}
use Rattle.loading.specs.declared.fault.RuleFault.TheVariants.{Read, Check}

abbrev pub refusal_of : RuleFault → Refusal
refusal_of (Read f) = read_refusal f
refusal_of (Check f) = check_refusal f

abbrev pub cause_of : RuleFault → List ℕ
cause_of (Read f) = read_cause f
cause_of (Check f) = check_cause f
