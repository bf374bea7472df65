use Rattle.std.proofs.Common.{◌+◌, Some, ap, ◌∙◌}
use Rattle.std.proofs.lemmas.List.{take_rest}
use Rattle.tokens.proofs.Cuts.{cut_found, cut_none}
use Rattle.tokens.proofs.pieces.cut.Goals as goal

pub returns-in-Some-clause-first : goal.returns-in-Some-clause-first
returns-in-Some-clause-first c = (cut_found c.args.separator c.args.bytes.now c.in-Some.at c.in-Some.ensures).0

pub returns-in-Some-clause-rest : goal.returns-in-Some-clause-rest
returns-in-Some-clause-rest c =
    ap Some (take_rest c.args.bytes.now (c.in-Some.at + 1)) ∙ (cut_found c.args.separator c.args.bytes.now c.in-Some.at c.in-Some.ensures).1

pub returns-in-None-clause-first : goal.returns-in-None-clause-first
returns-in-None-clause-first c = (cut_none c.args.separator c.args.bytes.now c.in-None.ensures).0

pub returns-in-None-clause-rest : goal.returns-in-None-clause-rest
returns-in-None-clause-rest c = (cut_none c.args.separator c.args.bytes.now c.in-None.ensures).1
