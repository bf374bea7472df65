use Rattle.std.proofs.Common.{sym, ◌∙◌}
use Rattle.checking.specs.Links.{node}
use Rattle.checking.proofs.Weigh.{weighed}
use Rattle.checking.proofs.Assessing.{looping_is, no_loop, rank_is, assessed_loop, assessed_heavy, assessed_open, assessed_fine, open_is}
use Rattle.checking.proofs.check.assess.Goals as goal

pub lowest_too_heavy-requires : goal.lowest_too_heavy-requires
lowest_too_heavy-requires c = weighed (node c.args.nodes.now.list) c.args.nodes.now.ranged (no_loop (node c.args.nodes.now.list) c.paths-paths.result.rows c.paths-paths.ensures c.in_default.ensures)

pub returns-in-Some : goal.returns-in-Some
returns-in-Some c =
    let g = node c.args.nodes.now.list in
    assessed_loop g c.in-Some.n (sym (looping_is g c.paths-paths.result.rows c.paths-paths.ensures) ∙ sym c.in-Some.ensures)

pub returns-in-Some-lowest_too_heavy : goal.returns-in-Some-lowest_too_heavy
returns-in-Some-lowest_too_heavy c =
    let g = node c.args.nodes.now.list in
    assessed_heavy g c.in-Some-lowest_too_heavy.n (sym (looping_is g c.paths-paths.result.rows c.paths-paths.ensures) ∙ sym c.in_default.ensures) (sym c.in-Some-lowest_too_heavy.ensures)

pub returns-then-open_at_start : goal.returns-then-open_at_start
returns-then-open_at_start c =
    let g = node c.args.nodes.now.list in
    assessed_open g (sym (looping_is g c.paths-paths.result.rows c.paths-paths.ensures) ∙ sym c.in_default.ensures) (sym c.in_default-lowest_too_heavy.ensures)
    (sym (open_is g c.free_sets-free.result c.free_sets-free.ensures) ∙ (sym c.open_at_start.ensures ∙ c.if-open_at_start.true))

pub returns : goal.returns
returns c =
    let g = node c.args.nodes.now.list in (
      assessed_fine g (sym (looping_is g c.paths-paths.result.rows c.paths-paths.ensures) ∙ sym c.in_default.ensures) (sym c.in_default-lowest_too_heavy.ensures)
          (sym (open_is g c.free_sets-free.result c.free_sets-free.ensures) ∙ (sym c.open_at_start.ensures ∙ c.if-open_at_start.false)),
      record { frees = c.free_sets-free.ensures; wide = c.ranks.ensures.wide; ranked = λ n h. c.ranks.ensures.sizes n h ∙ rank_is g c.paths-paths.result.rows c.paths-paths.ensures n h },
    )
