use Rattle.std.proofs.Common.{rules}
use Rattle.std.proofs.lemmas.List.{places}
use Rattle.loading.proofs.Reading.{not_read, not_checked, loaded}
use Rattle.loading.proofs.load_by.Goals as goal

pub returns-in_err-count : goal.returns-in_err-count
returns-in_err-count c = not_read c.args.bytes.now c.args.list.now (search rules) c.from_residual.result c.in_err-count.field-0.0 c.in_err-count.ensures.answer c.from_residual.ensures.1

pub returns-in_err-check : goal.returns-in_err-check
returns-in_err-check c =
    not_checked c.args.bytes.now c.args.list.now (search rules) c.in_ok-count.count c.read.new.list _ c.in_ok-count.ensures.answer c.in_ok-count.ensures.list (search (rules, places))
    c.from_residual-in_err-check.result c.in_err-check.field-0.0 c.in_err-check.ensures.says c.from_residual-in_err-check.ensures.1

pub returns : goal.returns
returns c =
    loaded c.args.bytes.now c.args.list.now (search rules) c.in_ok-count.count c.read.new.list _ c.in_ok-count.ensures.answer c.in_ok-count.ensures.list (search (rules, places))
    c.check.new.rule c.in_ok-check.ensures.says c.in_ok-check.ensures.rule
