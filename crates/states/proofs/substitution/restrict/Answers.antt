use Rattle.std.proofs.Common.{cond, rules}
use Rattle.rules.proofs.Tables.{tabulated}
use Rattle.calculus.specs.Vocabulary.{None}
use Rattle.calculus.specs.Graphs.{graph_of}
use Rattle.calculus.specs.Numbers.{lookup}
use Rattle.states.proofs.substitution.restrict.Goals as goal

pub returns : goal.returns
returns c =
    tabulated _ (λ v. cond ((graph_of c.args.rule.now).free c.args.n v) (lookup c.args.numbers v) None)
    (λ v. let e = c.from_fn.ensures v in search rules)
