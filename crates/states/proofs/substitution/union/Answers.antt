use Rattle.std.proofs.Common.{rules}
use Rattle.rules.proofs.Tables.{tabulated}
use Rattle.calculus.specs.Numbers.{lookup, or_else}
use Rattle.states.proofs.substitution.union.Goals as goal

pub returns : goal.returns
returns c = tabulated _ (λ v. or_else (lookup c.args.a v) (lookup c.args.b v)) (λ v. let e = c.from_fn.ensures v in search rules)
