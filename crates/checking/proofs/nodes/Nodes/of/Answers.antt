use Rattle.std.proofs.Common.{◌≡◌, ◌<◌, length, Some, None, Err, sym, refl, ap, ◌∙◌, arith, rules}
use Rattle.checking.specs.declared.fault.CheckFault.TheVariants.{BadLayout}
use Rattle.checking.specs.Nodes.{found}
use Rattle.checking.specs.Answer.{misplaced, answer_of}
use Rattle.checking.proofs.First.{first_hit, first_miss, first_end}
use Rattle.checking.proofs.Placing.{all_empty, placed, not_placed, node_more, node_rest, node_all}
use Rattle.checking.proofs.Checking.{all_ranged, answer_is, refused_at}
use Rattle.checking.proofs.nodes.Nodes.of.Goals as goal

pub loop-n-init : goal.loop-n-init
loop-n-init c = record { good = search rules; below = λ m h. absurd (omega arith); rest = λ m h. all_empty 128 m; long = refl }

pub returns-in_err-nodes : goal.returns-in_err-nodes
returns-in_err-nodes c =
    let l = c.args.list.now in
    let d : c.decode.result ≡ None = c.in_err-nodes.ensures.ok_part in
    let v = rw d at c.in_err-nodes.ensures.value in
    let f = c.loop-n.invariant.good ∙ first_hit (misplaced l) (length l) c.loop-n.n c.loop-n-test.true (not_placed l c.loop-n.n (sym c.decode.ensures ∙ d)) in
    let q : BadLayout c.loop-n.n ≡ c.in_err-nodes.field-0.0 = cc v in
    let a : answer_of l ≡ Err c.in_err-nodes.field-0.0 = refused_at l c.loop-n.n (omega arith) (omega arith) f ∙ ap Err q in
    search rules

pub loop-n-preserved : goal.loop-n-preserved
loop-n-preserved c =
    let l = c.args.list.now in
    let n = c.loop-n.n in
    let x = c.in_ok-nodes.field-0 in
    let e : found l n ≡ Some x = sym c.decode.ensures ∙ c.in_ok-nodes.ensures.ok_part in
    let h : n < length c.loop-n.nodes = omega (arith, c.loop-n.invariant.long) in
    record {
      good = c.loop-n.invariant.good ∙ first_miss (misplaced l) (length l) n c.loop-n-test.true (placed l n x e);
      below = node_more l c.loop-n.nodes n x h e c.loop-n.invariant.below;
      rest = node_rest c.loop-n.nodes n x c.loop-n.invariant.rest;
      long = search rules;
    }

pub invariant_of-result : goal.invariant_of-result
invariant_of-result c =
    let l = c.args.list.now in
    record { ranged = all_ranged l c.loop-n.nodes (node_all l c.loop-n.nodes c.loop-n.n c.loop-n-test.false c.loop-n.invariant.below c.loop-n.invariant.rest) (omega arith) }

pub returns : goal.returns
returns c =
    let l = c.args.list.now in
    record {
      counted = (omega arith, omega arith);
      nodes = node_all l c.loop-n.nodes c.loop-n.n c.loop-n-test.false c.loop-n.invariant.below c.loop-n.invariant.rest;
      answer = answer_is l (omega arith) (omega arith) (c.loop-n.invariant.good ∙ first_end (misplaced l) (length l) c.loop-n.n c.loop-n-test.false);
    }
