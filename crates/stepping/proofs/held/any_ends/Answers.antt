use Rattle.std.proofs.Common.{rules, tests, ◌∙◌}
use Rattle.std.proofs.lemmas.Iterator.{YieldsList-from_slice}
use Rattle.std.proofs.lemmas.Iterator.Search.{any_from_yields_List}
use Rattle.calculus.specs.Graphs.{graph_of}
use Rattle.calculus.specs.States.{may_end}
use Rattle.states.specs.State.{state}
use Rattle.stepping.proofs.Next.{ends_any}
use Rattle.stepping.proofs.held.any_ends.Goals as goal

pub returns : goal.returns
returns c =
    any_from_yields_List (λ t. may_end (graph_of c.args.rule.now) (state t)) _ _ c.any.result c.any.ensures.ran (YieldsList-from_slice c.args.held.now cc)
    (λ x b q k. search (rules, tests)) ∙ ends_any (graph_of c.args.rule.now) c.args.held.now
