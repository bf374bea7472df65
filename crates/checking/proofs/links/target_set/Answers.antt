use Rattle.std.proofs.Common.{ap, ◌∙◌}
use Rattle.checking.specs.Links.{among}
use Rattle.checking.proofs.Bits.{none_holds}
use Rattle.checking.proofs.links.target_set.Goals as goal

pub returns-in-None : goal.returns-in-None
returns-in-None c = λ j. none_holds j ∙ ap (among j) c.in-None.ensures
