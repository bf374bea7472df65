use Rattle.calculus.proofs.Checked.{closed_at_start, well_formed}
use Rattle.calculus.proofs.theorems.checked_rules_are_well_formed.Goals as goal

pub returns : goal.returns
returns c = λ r. (well_formed r, closed_at_start r)
