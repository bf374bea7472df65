use Rattle.std.proofs.Common.{rules, tests, sym, ◌∙◌}
use Rattle.std.proofs.lemmas.Iterator.{YieldsList-from_slice, YieldsList-from_map, items_from_collect}
use Rattle.std.proofs.lemmas.Result.{IfOk-weaker}
use Rattle.std.proofs.lemmas.Simd.{map-map}
use Rattle.states.specs.State.{state}
use Rattle.interpreter.specs.Sizes.{size_of}
use Rattle.interpreter.proofs.sizes.sizes_of.Goals as goal

pub returns : goal.returns
returns c =
    IfOk-weaker c.collect.result _ _ (λ v e. e ∙ sym (map-map size_of state c.args.trees.now))
    (items_from_collect c.collect.result c.collect.ensures.ran (YieldsList-from_map _ (λ t. size_of (state t)) (YieldsList-from_slice c.args.trees.now cc) c.map.ensures.closure (λ x r q k. search (rules, tests))))
