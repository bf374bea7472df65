use Rattle.std.proofs.Common.{not, ap, ◌∙◌}
use Rattle.events.specs.Types.{is_empty}
use Rattle.events.proofs.Deriving.{derived_at}
use Rattle.events.proofs.derived.DerivedEvent.is_of.Goals as goal

pub returns-in-Absent : goal.returns-in-Absent
returns-in-Absent g c = c.is_of.ensures ∙ derived_at _ _ c.args.ty _ c.in-Absent.ensures

pub returns-in-AnyOf : goal.returns-in-AnyOf
returns-in-AnyOf g c = ap not c.is_empty.ensures ∙ ap (λ s. not (is_empty s)) c.types_among.ensures ∙ derived_at _ _ c.args.ty _ c.in-AnyOf.ensures

pub returns-in-NoneOf : goal.returns-in-NoneOf
returns-in-NoneOf g c = c.is_empty-in-NoneOf.ensures ∙ ap is_empty c.types_among-in-NoneOf.ensures ∙ derived_at _ _ c.args.ty _ c.in-NoneOf.ensures
