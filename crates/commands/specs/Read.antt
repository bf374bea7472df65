-- What is read of a text, where memory suffices.
use Rattle.std.specs.Prelude.{Some, None, Ok, Err, Option, Result}
use Rattle.commands.specs.declared.command.Usage.{Usage}
use Rattle.commands.specs.declared.fault.TextFault.{TextFault}
use Rattle.commands.specs.declared.fault.TextFault.TheVariants.{Malformed, Memory}
use Rattle.commands.specs.declared.fault.ParseFault.{ParseFault}
use Rattle.commands.specs.declared.fault.ParseFault.TheVariants.{Malformed as Misread, Memory as Wanting}

-- P holds of what was read of a text, and of nothing where the text is not in its form; where memory is wanting it is not known
abbrev pub IfRead : {X Y : Type 0} → (X → Y) → Result X TextFault → (Option Y → Type 0) → Type 0
IfRead view (Ok x) P = P (Some (view x))
IfRead view (Err Malformed) P = P None
IfRead view (Err (Memory e)) P = Unit {0}

-- a text's fault, in a line of this form
abbrev pub fault_in : Usage → TextFault → ParseFault
fault_in u Malformed = Misread u
fault_in u (Memory e) = Wanting e
