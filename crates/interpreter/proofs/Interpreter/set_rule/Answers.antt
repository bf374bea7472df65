use Rattle.loading.specs.Refusals.{refusal_of}
use Rattle.interpreter.specs.declared.stop.Stop.TheVariants.{Refused}
use Rattle.interpreter.specs.Answering.{SetsRule, no_rule}
use Rattle.interpreter.proofs.Doing.{stopped, rule_set}
use Rattle.interpreter.proofs.Interpreter.set_rule.Goals as goal

pub returns-in_err-rule : goal.returns-in_err-rule
returns-in_err-rule c =
    stopped (SetsRule c.args.self.now c.args.bytes.now) c.args.self.now c.args.self.now c.from_residual.result (Refused (refusal_of c.in_err-rule.field-0.0)) c.from_residual.ensures.1
    (no_rule c.in_err-rule.ensures)

pub returns : goal.returns
returns c = rule_set c.args.self.now c.args.bytes.now c.in_ok-rule.rule c.in_ok-self.field-0 c.count.result c.in_ok-rule.ensures c.in_ok-self.ensures c.count.ensures
