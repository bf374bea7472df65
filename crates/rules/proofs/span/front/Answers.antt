use Rattle.std.proofs.Common.{ℕ, take, sym, ap, ◌∙◌, arith}
use Rattle.std.proofs.lemmas.List.{take_min, length-take}
use Rattle.rules.specs.Spans.{sizes_of}
use Rattle.rules.proofs.Sizes.{lengths, sizes_most}
use Rattle.rules.proofs.span.front.Goals as goal

pub overflow_add-result : goal.overflow_add-result
overflow_add-result c =
    let m = sizes_most (take c.min.result c.args.list.now) in
    let n = length-take c.min.result c.args.list.now in
    omega arith

pub returns : goal.returns
returns c =
    let a = c.sizes.ensures ∙ (ap (λ (k : ℕ). sizes_of (take k c.args.list.now)) c.min.ensures ∙ (ap sizes_of (take_min c.args.n c.args.list.now) ∙ sym (lengths (take c.args.n c.args.list.now)))) in
    omega arith
