use Rattle.std.proofs.Common.{◌≡◌, rules}
use Rattle.calculus.specs.declared.verdict.Verdict.TheVariants.{Broken, MayEnd, Open}
use Rattle.monitor.specs.Uses.{verdict_of}
use Rattle.monitor.proofs.Extended.{asked, judged}
use Rattle.monitor.proofs.Monitor.verdict.Goals as goal

pub returns-then-self : goal.returns-then-self
returns-then-self c =
    let q : Broken ≡ verdict_of c.args.self.now = search rules in
    record { answer = q; uses = asked c.args.self.now Broken q; says = judged c.args.self.now Broken q }

pub returns-then-any_ends : goal.returns-then-any_ends
returns-then-any_ends c =
    let q : MayEnd ≡ verdict_of c.args.self.now = search rules in
    record { answer = q; uses = asked c.args.self.now MayEnd q; says = judged c.args.self.now MayEnd q }

pub returns-else-any_ends : goal.returns-else-any_ends
returns-else-any_ends c =
    let q : Open ≡ verdict_of c.args.self.now = search rules in
    record { answer = q; uses = asked c.args.self.now Open q; says = judged c.args.self.now Open q }
