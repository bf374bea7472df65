-- Why a command is not carried out.
use Rattle.std.specs.Prelude.{Some, None, Option}
use Rattle.refusals.specs.declared.Refusal.{Refusal}
use Rattle.interpreter.specs.declared.stop.Stop.{Stop}
use Rattle.interpreter.specs.declared.stop.Stop.TheVariants.{Refused, Memory}

-- want of memory has no refusal
abbrev pub stop_of : Option Refusal → Stop
stop_of None = Memory
stop_of (Some q) = Refused q
