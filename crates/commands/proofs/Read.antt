-- What was read of a text.
use Rattle.std.proofs.Common.{Ok, Err, Option, Result}
use Rattle.commands.specs.declared.fault.TextFault.{TextFault}
use Rattle.commands.specs.declared.fault.TextFault.TheVariants.{Malformed, Memory}
use Rattle.commands.specs.Read.{IfRead}

pub IfRead-weaker : {X Y : Type 0} (view : X → Y) (r : Result X TextFault) (P Q : Option Y → Type 0) → ((o : Option Y) → P o → Q o) → IfRead view r P → IfRead view r Q
IfRead-weaker view (Ok x) P Q f p = f _ p
IfRead-weaker view (Err Malformed) P Q f p = f _ p
IfRead-weaker view (Err (Memory e)) P Q f p = tt
