use Rattle.std.proofs.Common.{◌≡◌, ◌^◌, ◌<◌, ◌&&◌}
use Rattle.events.specs.Types.{has, bits_below}
use Rattle.events.proofs.noting.types_among.Given as goal

abbrev pub invariant-loop-ty : goal.invariant-loop-ty
invariant-loop-ty g l =
    (l.bits ≡ bits_below (λ t. has l.set t && has (g.E.Event.meaning l.event).types t) l.ty) × (l.bits < 2 ^ l.ty)
