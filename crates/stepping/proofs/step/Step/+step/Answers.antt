use Rattle.std.proofs.Common.{sym, refl, ap, ◌∙◌, ap₂}
use Rattle.calculus.specs.Numbers.{no_numbers}
use Rattle.calculus.specs.Graphs.{graph_of}
use Rattle.calculus.specs.States.{pair, binder, filter, child}
use Rattle.states.specs.State.{state}
use Rattle.stepping.proofs.Steps.{stepped_as, stops_by, no_memory}
use Rattle.stepping.proofs.Nodes.{at_empty, at_prefix, at_no_match, at_pair, at_binder, at_filter, at_stays, filter_full}
use Rattle.stepping.proofs.Parts.{of_both, of_left, left_full, right_full, of_binder, under_full, of_filter, of_stays, below_full}
use Rattle.stepping.proofs.step.Step.+step.Goals as goal

-- nodes
pub node-returns-in-Empty : goal.node-returns-in-Empty
node-returns-in-Empty t c = at_empty c.args.self.now.rule.now c.args.self.now.event.now c.args.n c.args.numbers c.new.result c.in-Empty.ensures.is c.new.ensures

pub node-returns-in-Some : goal.node-returns-in-Some
node-returns-in-Some t c =
    at_prefix c.args.self.now.rule.now c.args.self.now.event.now c.args.n c.args.numbers c.in-Prefix.p c.in-Prefix.tail c.in-Some.binding (state c.child-tree.result) c.single.result
    c.in-Prefix.ensures.is c.in-Some.ensures c.child-tree.ensures c.single.ensures

pub node-returns-in-None : goal.node-returns-in-None
node-returns-in-None t c =
    at_no_match c.args.self.now.rule.now c.args.self.now.event.now c.args.n c.args.numbers c.in-Prefix.p c.in-Prefix.tail c.new-in-None.result c.in-Prefix.ensures.is
    c.in-None.ensures c.new-in-None.ensures

pub node-returns-in_err-t-in-Pair : goal.node-returns-in_err-t-in-Pair
node-returns-in_err-t-in-Pair t c = no_memory _ _ _ c.from_residual.result c.from_residual.ensures.1

pub node-returns-in_ok-t-in-Pair : goal.node-returns-in_ok-t-in-Pair
node-returns-in_ok-t-in-Pair t c =
    at_pair c.args.self.now.rule.now c.args.self.now.event.now c.args.n c.args.numbers c.in-Pair.op c.in-Pair.a c.in-Pair.b (state c.in_ok-t-in-Pair.t) c.owned.result
    c.in-Pair.ensures.is (c.in_ok-t-in-Pair.ensures ∙ ap₂ (pair c.in-Pair.op) c.child-left.ensures c.child-right.ensures) c.owned.ensures

pub node-returns-in_err-t-in-Binder : goal.node-returns-in_err-t-in-Binder
node-returns-in_err-t-in-Binder t c = no_memory _ _ _ c.from_residual-in_err-t-in-Binder.result c.from_residual-in_err-t-in-Binder.ensures.1

pub node-returns-in_ok-t-in-Binder : goal.node-returns-in_ok-t-in-Binder
node-returns-in_ok-t-in-Binder t c =
    at_binder c.args.self.now.rule.now c.args.self.now.event.now c.args.n c.args.numbers c.in-Binder.v c.in-Binder.c (state c.in_ok-t-in-Binder.t) c.owned-in-Binder.result
    c.in-Binder.ensures.is
    (c.in_ok-t-in-Binder.ensures ∙ ap (binder c.in-Binder.v) (c.child-below.ensures ∙ ap (child (graph_of c.args.self.now.rule.now) c.in-Binder.c) c.without.ensures))
    c.owned-in-Binder.ensures

pub node-returns-then-not-passes : goal.node-returns-then-not-passes
node-returns-then-not-passes t c =
    at_stays c.args.self.now.rule.now c.args.self.now.event.now c.args.n c.args.numbers c.in-Filter.field-0 c.in-Filter.c no_numbers c.stays.result
    c.in-Filter.ensures.is c.if-not-passes.ensures refl c.stays.ensures

pub node-returns-in_err-ps-in-Filter : goal.node-returns-in_err-ps-in-Filter
node-returns-in_err-ps-in-Filter t c =
    stops_by c.args.self.now.rule.now c.args.self.now.event.now _ (state c.child-t.result) c.in_err-ps-in-Filter.field-0.0 c.from_residual-in_err-ps-in-Filter.result
    (filter_full c.args.self.now.rule.now c.args.self.now.event.now c.args.n c.args.numbers c.in-Filter.field-0 c.in-Filter.c _ c.in-Filter.ensures.is c.if-not-passes.ensures
    c.child-t.ensures) c.in_err-ps-in-Filter.ensures c.from_residual-in_err-ps-in-Filter.ensures.1

pub node-returns-in_ok-ps-in-Filter : goal.node-returns-in_ok-ps-in-Filter
node-returns-in_ok-ps-in-Filter t c =
    at_filter c.args.self.now.rule.now c.args.self.now.event.now c.args.n c.args.numbers c.in-Filter.field-0 c.in-Filter.c (state c.child-t.result) c.in_ok-ps-in-Filter.ps
    c.filter_outcomes.result c.in-Filter.ensures.is c.if-not-passes.ensures c.child-t.ensures c.in_ok-ps-in-Filter.ensures c.filter_outcomes.ensures

-- pairs
pub part-returns-in_err-ls-in-Pair : goal.part-returns-in_err-ls-in-Pair
part-returns-in_err-ls-in-Pair t c =
    let l = state c.deref-left.result.now in
    let r = state c.deref-right.result.now in
    stepped_as c.args.self.now.rule.now c.args.self.now.event.now c.from_residual.result
    (sym (ap state c.in-Pair.is ∙ sym (ap₂ (pair c.in-Pair.op) (ap state c.deref-left.ensures) (ap state c.deref-right.ensures))))
    (stops_by c.args.self.now.rule.now c.args.self.now.event.now (pair c.in-Pair.op l r) l c.in_err-ls-in-Pair.field-0.0 c.from_residual.result
    (left_full c.args.self.now.rule.now c.args.self.now.event.now c.in-Pair.op l r) c.in_err-ls-in-Pair.ensures c.from_residual.ensures.1)

pub part-returns-then-not-visits_second : goal.part-returns-then-not-visits_second
part-returns-then-not-visits_second t c =
    let l = state c.deref-left.result.now in
    let r = state c.deref-right.result.now in
    stepped_as c.args.self.now.rule.now c.args.self.now.event.now c.pair_outcomes.result
    (sym (ap state c.in-Pair.is ∙ sym (ap₂ (pair c.in-Pair.op) (ap state c.deref-left.ensures) (ap state c.deref-right.ensures))))
    (of_left c.args.self.now.rule.now c.args.self.now.event.now c.in-Pair.op l r c.in_ok-ls-in-Pair.ls c.new.result c.pair_outcomes.result c.if-not-visits_second.ensures
    c.in_ok-ls-in-Pair.ensures c.new.ensures c.pair_outcomes.ensures)

pub part-returns-in_err-rs-in-Pair : goal.part-returns-in_err-rs-in-Pair
part-returns-in_err-rs-in-Pair t c =
    let l = state c.deref-left.result.now in
    let r = state c.deref-right.result.now in
    stepped_as c.args.self.now.rule.now c.args.self.now.event.now c.from_residual-in_err-rs-in-Pair.result
    (sym (ap state c.in-Pair.is ∙ sym (ap₂ (pair c.in-Pair.op) (ap state c.deref-left.ensures) (ap state c.deref-right.ensures))))
    (stops_by c.args.self.now.rule.now c.args.self.now.event.now (pair c.in-Pair.op l r) r c.in_err-rs-in-Pair.field-0.0 c.from_residual-in_err-rs-in-Pair.result
    (right_full c.args.self.now.rule.now c.args.self.now.event.now c.in-Pair.op l r c.if-not-visits_second.ensures) c.in_err-rs-in-Pair.ensures c.from_residual-in_err-rs-in-Pair.ensures.1)

pub part-returns-in_ok-rs-in-Pair : goal.part-returns-in_ok-rs-in-Pair
part-returns-in_ok-rs-in-Pair t c =
    let l = state c.deref-left.result.now in
    let r = state c.deref-right.result.now in
    stepped_as c.args.self.now.rule.now c.args.self.now.event.now c.pair_outcomes-in-Pair.result
    (sym (ap state c.in-Pair.is ∙ sym (ap₂ (pair c.in-Pair.op) (ap state c.deref-left.ensures) (ap state c.deref-right.ensures))))
    (of_both c.args.self.now.rule.now c.args.self.now.event.now c.in-Pair.op l r c.in_ok-ls-in-Pair.ls c.in_ok-rs-in-Pair.rs c.pair_outcomes-in-Pair.result c.if-not-visits_second.ensures
    c.in_ok-ls-in-Pair.ensures c.in_ok-rs-in-Pair.ensures c.pair_outcomes-in-Pair.ensures)

-- binder states
pub part-returns-in_err-ps-in-Binder : goal.part-returns-in_err-ps-in-Binder
part-returns-in_err-ps-in-Binder t c =
    let u = state c.deref.result.now in
    stepped_as c.args.self.now.rule.now c.args.self.now.event.now c.from_residual-in_err-ps-in-Binder.result
    (sym (ap state c.in-Binder.is ∙ sym (ap (binder c.in-Binder.v) (ap state c.deref.ensures))))
    (stops_by c.args.self.now.rule.now c.args.self.now.event.now (binder c.in-Binder.v u) u c.in_err-ps-in-Binder.field-0.0 c.from_residual-in_err-ps-in-Binder.result
    (under_full c.args.self.now.rule.now c.args.self.now.event.now c.in-Binder.v u) c.in_err-ps-in-Binder.ensures c.from_residual-in_err-ps-in-Binder.ensures.1)

pub part-returns-in_ok-ps-in-Binder : goal.part-returns-in_ok-ps-in-Binder
part-returns-in_ok-ps-in-Binder t c =
    stepped_as c.args.self.now.rule.now c.args.self.now.event.now c.binder_outcomes.result
    (sym (ap state c.in-Binder.is ∙ sym (ap (binder c.in-Binder.v) (ap state c.deref.ensures))))
    (of_binder c.args.self.now.rule.now c.args.self.now.event.now c.in-Binder.v (state c.deref.result.now) c.in_ok-ps-in-Binder.ps c.binder_outcomes.result c.in_ok-ps-in-Binder.ensures
    c.binder_outcomes.ensures)

-- filter states
pub part-returns-in_err-clone-in-Filter : goal.part-returns-in_err-clone-in-Filter
part-returns-in_err-clone-in-Filter t c = no_memory _ _ _ c.from_residual-in_err-clone-in-Filter.result c.from_residual-in_err-clone-in-Filter.ensures.1

pub part-returns-then-not-passes : goal.part-returns-then-not-passes
part-returns-then-not-passes t c =
    stepped_as c.args.self.now.rule.now c.args.self.now.event.now c.stays.result (sym (ap state c.in-Filter.is))
    (of_stays c.args.self.now.rule.now c.args.self.now.event.now c.in-Filter.n (state c.in-Filter.below.value) (state c.in_ok-clone-in-Filter.field-0) no_numbers c.stays.result
    c.if-not-passes.ensures (c.in_ok-clone-in-Filter.ensures ∙ ap state c.in-Filter.is) refl c.stays.ensures)

pub part-returns-in_err-ps-in-Filter : goal.part-returns-in_err-ps-in-Filter
part-returns-in_err-ps-in-Filter t c =
    let u = state c.deref-in-Filter.result.now in
    stepped_as c.args.self.now.rule.now c.args.self.now.event.now c.from_residual-in_err-ps-in-Filter.result
    (sym (ap state c.in-Filter.is ∙ sym (ap (filter c.in-Filter.n) (ap state c.deref-in-Filter.ensures))))
    (stops_by c.args.self.now.rule.now c.args.self.now.event.now (filter c.in-Filter.n u) u c.in_err-ps-in-Filter.field-0.0 c.from_residual-in_err-ps-in-Filter.result
    (below_full c.args.self.now.rule.now c.args.self.now.event.now c.in-Filter.n u c.if-not-passes.ensures) c.in_err-ps-in-Filter.ensures c.from_residual-in_err-ps-in-Filter.ensures.1)

pub part-returns-in_ok-ps-in-Filter : goal.part-returns-in_ok-ps-in-Filter
part-returns-in_ok-ps-in-Filter t c =
    stepped_as c.args.self.now.rule.now c.args.self.now.event.now c.filter_outcomes.result
    (sym (ap state c.in-Filter.is ∙ sym (ap (filter c.in-Filter.n) (ap state c.deref-in-Filter.ensures))))
    (of_filter c.args.self.now.rule.now c.args.self.now.event.now c.in-Filter.n (state c.deref-in-Filter.result.now) c.in_ok-ps-in-Filter.ps c.filter_outcomes.result c.if-not-passes.ensures
    c.in_ok-ps-in-Filter.ensures c.filter_outcomes.ensures)
