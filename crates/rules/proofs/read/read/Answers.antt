use Rattle.std.proofs.Common.{◌≡◌, ◌≤◌, ◌++◌, length, drop, get_or, Ok, Err, ◌∙◌, arith, rules}
use Rattle.std.proofs.lemmas.List.{take_rest}
use Rattle.std.proofs.lemmas.Grind.{common_steps}
use Rattle.rules.specs.declared.fault.ReadFault.TheVariants.{ListTooShort}
use Rattle.rules.specs.Bytes.{rule_of, answered, written}
use Rattle.rules.proofs.Reading.{nodes_length, rule_read, short_list, full_list}
use Rattle.rules.proofs.Law.{decodes}
use Rattle.rules.proofs.read.read.Goals as goal

pub returns-in_err-validate-clause-law : goal.returns-in_err-validate-clause-law
returns-in_err-validate-clause-law c = decodes _ _ _ _ (λ i. omega (arith, c.type_inv.bytes i)) (grind (arith, common_steps)) (grind (arith, common_steps))

pub returns-then-list-count : goal.returns-then-list-count
returns-then-list-count c =
    let h : 1 ≤ length c.args.bytes.now = search rules in
    let e = rule_read c.args.bytes.now h c.if-count-lt1.false c.if-count-gt-MOST_NODES.false in
    let v = rw (take_rest c.args.bytes.now 1) at c.in_ok-validate.ensures in
    let s = short_list _ _ _ c.args.list.now v c.if-list-count.true in
    let a : Err ListTooShort ≡ answered (rule_of c.args.bytes.now) c.args.list.now = rw e s.0 in
    let w : c.args.list.now ≡ written (rule_of c.args.bytes.now) c.args.list.now = rw e s.1 in
    record { answer = a; list = w; law = decodes _ _ _ _ (λ i. omega (arith, c.type_inv.bytes i)) a w }

pub returns : goal.returns
returns c =
    let h : 1 ≤ length c.args.bytes.now = search rules in
    let e = rule_read c.args.bytes.now h c.if-count-lt1.false c.if-count-gt-MOST_NODES.false in
    let f = e ∙ (rw (take_rest c.args.bytes.now 1) at c.fill.ensures) in
    let s = full_list c.args.bytes.now c.fill.new.list c.args.list.now f (nodes_length _ _ _ _ _ (rw (take_rest c.args.bytes.now 1) at c.fill.ensures)) c.if-list-count.false in
    let a : Ok (get_or c.args.bytes.now 0 0) ≡ answered (rule_of c.args.bytes.now) c.args.list.now = s.0 in
    let w : c.fill.new.list ++ drop (get_or c.args.bytes.now 0 0) c.args.list.now ≡ written (rule_of c.args.bytes.now) c.args.list.now = s.1 in
    record { answer = a; list = w; law = decodes _ _ _ _ (λ i. omega (arith, c.type_inv.bytes i)) a w }
