use Rattle.std.proofs.Common.{◌≡◌, ◌≤◌, length, Some, vec_items, ◌∙◌, rules}
use Rattle.std.proofs.lemmas.List.{take_rest}
use Rattle.commands.specs.Hex.{pairs_of}
use Rattle.commands.proofs.Pairs.{onto_more}
use Rattle.commands.proofs.hex.pairs.Goals as goal

pub loop-left-preserved : goal.loop-left-preserved
loop-left-preserved c =
    let h : 2 ≤ length c.loop-left.left.now = search rules in
    let e : Some c.in_ok-ok_or.field-0 ≡ c.pair.result = search rules in
    rw (take_rest c.loop-left.left.now 2, c.in_ok-push.ensures.items)
    (onto_more c.loop-left.left.now (vec_items c.loop-left.bytes) c.in_ok-ok_or.field-0 (pairs_of c.args.text.now) h (e ∙ c.pair.ensures) c.loop-left.invariant)
