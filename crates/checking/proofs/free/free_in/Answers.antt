use Rattle.std.proofs.Common.{◌≡◌, ◌&&◌, ◌||◌, ◌∙◌, rules}
use Rattle.checking.specs.Sets.{holds, any_below}
use Rattle.checking.specs.Paths.{in_row}
use Rattle.checking.specs.Links.{node}
use Rattle.checking.proofs.Frees.{free_is}
use Rattle.checking.proofs.free.free_in.Goals as goal

pub returns : goal.returns
returns c = λ n h.
    let e = c.filled.ensures n h in
    let f : holds c.filled.result n ≡ (holds c.naming-naming.result n || any_below (λ j. in_row c.paths-paths.result.rows n j && holds c.naming-naming.result j) 128) = search rules in
    f ∙ free_is (node c.args.nodes.now.list) c.args.v (in_row c.paths-paths.result.rows n) (holds c.naming-naming.result) n h (λ j. c.paths-paths.ensures n j h) c.naming-naming.ensures
