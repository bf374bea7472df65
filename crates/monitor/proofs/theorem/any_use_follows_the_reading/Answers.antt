use Rattle.monitor.proofs.Kept.{any_use}
use Rattle.monitor.proofs.theorem.any_use_follows_the_reading.Goals as goal

pub returns : goal.returns
returns c = any_use
