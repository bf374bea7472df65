use Rattle.std.proofs.Common.{sym, refl, ◌∙◌}
use Rattle.states.proofs.Ends.{ends_either, ends_both, ends_binder, ends_filter}
use Rattle.states.proofs.ending.+node_ends.Goals as goal

pub returns-then-node_ends : goal.returns-then-node_ends
returns-then-node_ends t c =
    let e = ends_either c.args.rule.now c.args.n c.in-Pair.op c.in-Pair.a c.in-Pair.b c.in-Or.is c.in-Pair.ensures.is in
    rw (sym e, sym c.node_ends.ensures, c.if-node_ends.true) refl

pub returns-else-node_ends : goal.returns-else-node_ends
returns-else-node_ends t c =
    let e = ends_either c.args.rule.now c.args.n c.in-Pair.op c.in-Pair.a c.in-Pair.b c.in-Or.is c.in-Pair.ensures.is in
    rw (sym e, sym c.node_ends.ensures, c.if-node_ends.false) c.node_ends-else-node_ends.ensures

pub returns-then-node_ends-2 : goal.returns-then-node_ends-2
returns-then-node_ends-2 t c =
    let e = ends_both c.args.rule.now c.args.n c.in-Pair.op c.in-Pair.a c.in-Pair.b c.in-And.is c.in-Pair.ensures.is in
    rw (sym e, sym c.node_ends-in-And.ensures, c.if-node_ends-2.true) c.node_ends-then-node_ends-2.ensures

pub returns-else-node_ends-2 : goal.returns-else-node_ends-2
returns-else-node_ends-2 t c =
    let e = ends_both c.args.rule.now c.args.n c.in-Pair.op c.in-Pair.a c.in-Pair.b c.in-And.is c.in-Pair.ensures.is in
    rw (sym e, sym c.node_ends-in-And.ensures, c.if-node_ends-2.false) refl

pub returns-in-Binder : goal.returns-in-Binder
returns-in-Binder t c = c.node_ends-in-Binder.ensures ∙ ends_binder c.args.rule.now c.args.n c.in-Binder.field-0 c.in-Binder.c c.in-Binder.ensures.is

pub returns-in-Filter : goal.returns-in-Filter
returns-in-Filter t c = c.node_ends-in-Filter.ensures ∙ ends_filter c.args.rule.now c.args.n c.in-Filter.field-0 c.in-Filter.c c.in-Filter.ensures.is
