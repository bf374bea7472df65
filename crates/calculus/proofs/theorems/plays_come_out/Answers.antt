use Rattle.calculus.proofs.Table.{plays_hold}
use Rattle.calculus.proofs.theorems.plays_come_out.Goals as goal

pub returns : goal.returns
returns c = plays_hold
