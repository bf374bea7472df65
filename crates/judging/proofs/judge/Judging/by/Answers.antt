use Rattle.calculus.specs.Vocabulary.{Rule}
use Rattle.monitor.specs.Uses.{Begins}
use Rattle.judging.proofs.Lines.{judged}
use Rattle.judging.proofs.Only.{alone}
use Rattle.judging.proofs.judge.Judging.by.Goals as goal

pub returns : goal.returns
returns c =
    let h = λ (r : Rule) (b : Begins r c.args.monitor). judged r c.args.self.now.entries.now c.args.self.now.log.now c.args.monitor c.show_log-shown.new.monitor c.show_log-shown.result c.told.result b c.show_log-shown.ensures c.told.ensures in
    record { judges = h; alone = λ r b. alone r c.args.self.now.entries.now c.args.self.now.log.now _ (h r b) }
