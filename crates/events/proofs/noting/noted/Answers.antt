use Rattle.std.proofs.Common.{◌∙◌}
use Rattle.events.specs.Sets.{common_every}
use Rattle.events.proofs.noting.noted.Goals as goal

pub returns : goal.returns
returns g c =
    let m = g.E.Event.meaning c.args.event.now in
    let t = c.types_among.ensures ∙ common_every m.types (g.met.E.Event.known c.args.event.now) in
    λ i. record { types = t i; player = c.slot.ensures i; card = c.slot-2.ensures i; strokes = c.slot-3.ensures i }
