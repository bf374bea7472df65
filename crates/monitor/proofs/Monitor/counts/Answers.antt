use Rattle.std.proofs.Common.{refl}
use Rattle.monitor.specs.Uses.{run_of, one_more, answers_counts}
use Rattle.monitor.proofs.Kept.{any_use}
use Rattle.monitor.proofs.Monitor.counts.Goals as goal

pub returns : goal.returns
returns c = record {
  answer = refl;
  uses = λ cs u. one_more u answers_counts;
  says = λ cs u. (any_use c.args.self.now.rule cs (run_of c.args.self.now) u).counts;
}
