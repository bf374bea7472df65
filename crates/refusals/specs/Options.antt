-- Values that may be absent.
use Rattle.std.specs.Prelude.{Some, None, Option}

-- go on with what was found
abbrev pub on : {X Y : Type 0} → Option X → (X → Option Y) → Option Y
on None f = None
on (Some x) f = f x
