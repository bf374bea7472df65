use Rattle.std.proofs.Common.{◌≡◌, List, Err, Result, sym, refl, ap, ◌∙◌, subst, arith}
use Rattle.std.proofs.lemmas.Grind.{common_steps}
use Rattle.checking.specs.Links.{node}
use Rattle.rules.specs.declared.record.NodeRecord.{NodeRecord}
use Rattle.checking.specs.declared.fault.CheckFault.{CheckFault}
use Rattle.checking.specs.Answer.{assessed, answer_of}
use Rattle.checking.specs.Meaning.{Says, Alone}
use Rattle.checking.proofs.Meant.{says, said}
use Rattle.checking.proofs.Checking.{whole, all_inside, all_ranged, beyond, made_loopless, made_light, made_falls, made_named, made_carried, made_closed}
use Rattle.checking.proofs.Written.{written_frees, written_ranks}
use Rattle.checking.proofs.check.check.Goals as goal

-- what it answers is what it should, so that this answer fits, and no other
fits : (l : List NodeRecord) (r : Result (Unit {0}) CheckFault) → r ≡ answer_of l → Says l r
fits l r e = subst (λ (x : Result (Unit {0}) CheckFault). Says l x) (sym e) (says l)

alone : (l : List NodeRecord) (r : Result (Unit {0}) CheckFault) → r ≡ answer_of l → Alone l r
alone l r e = λ q h. e ∙ said l q h

pub invariant_of-rule : goal.invariant_of-rule
invariant_of-rule c =
    let l = c.args.list.now in
    let ns = c.in_ok-nodes.nodes.list in
    let q = c.in_ok-nodes.ensures.nodes in
    let b = c.in_ok-nodes.ensures.counted.1 in
    let j = c.in_ok-free.ensures in
    let G = all_ranged l ns q b in
    let B = beyond l ns q b in
    record {
      some = c.in_ok-nodes.ensures.counted.0;
      most = b;
      ranged = all_inside l ns q;
      loopless = made_loopless (node ns) G B _ _ j.1 j.0;
      light = made_light (node ns) G B _ _ j.1 j.0;
      falls = made_falls (node ns) G B _ _ j.1 j.0;
      named = made_named (node ns) G B _ _ j.1 j.0;
      carried = made_carried (node ns) G B _ _ j.1 j.0;
      closed = made_closed (node ns) G B _ _ j.1 j.0;
    }

pub returns-in_err-nodes-clause-says : goal.returns-in_err-nodes-clause-says
returns-in_err-nodes-clause-says c = fits _ _ (grind (arith, common_steps))

pub returns-in_err-nodes-clause-alone : goal.returns-in_err-nodes-clause-alone
returns-in_err-nodes-clause-alone c = alone _ _ (grind (arith, common_steps))

pub returns-in_err-free : goal.returns-in_err-free
returns-in_err-free c =
    let l = c.args.list.now in
    let n = c.in_ok-nodes.ensures in
    let e : answer_of l ≡ Err c.in_err-free.field-0.0 = n.answer ∙ (ap assessed (sym (whole l c.in_ok-nodes.nodes.list n.nodes)) ∙ c.in_err-free.ensures) in
    let a : c.from_residual-in_err-free.result ≡ answer_of l = grind (arith, common_steps) in
    record { answer = a; says = fits l _ a; alone = alone l _ a; rule = grind (arith, common_steps) }

pub returns : goal.returns
returns c =
    let l = c.args.list.now in
    let ns = c.in_ok-nodes.nodes.list in
    let n = c.in_ok-nodes.ensures in
    let j = c.in_ok-free.ensures in
    let a = sym (n.answer ∙ (ap assessed (sym (whole l ns n.nodes)) ∙ j.0)) in
    record {
      answer = a;
      says = fits l _ a;
      alone = alone l _ a;
      rule = record { counted = refl; decodes = n.nodes; frees = written_frees l ns n.nodes n.counted.1 _ _ j.1 j.0; ranked = written_ranks l ns n.nodes n.counted.1 _ _ j.1 j.0 };
    }
