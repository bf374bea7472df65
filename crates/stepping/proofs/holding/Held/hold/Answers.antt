use Rattle.std.proofs.Common.{vec_items, is_ok, ap, ◌∙◌, arith}
use Rattle.std.proofs.ResultArms.{chosen}
use Rattle.std.proofs.lemmas.List.{length-map, map_push}
use Rattle.states.specs.State.{state}
use Rattle.stepping.specs.Listed.{states}
use Rattle.stepping.proofs.Next.{member_by, found, new_many, new_fits}
use Rattle.stepping.proofs.holding.Held.hold.Goals as goal

pub returns-then-contains : goal.returns-then-contains
returns-then-contains c =
    found (states (vec_items c.args.self.now.states)) (state c.args.t)
    (member_by c.args.t (vec_items c.args.self.now.states) c.deref.result.now _ c.deref.ensures.value c.if-contains.ensures.value) c.args.self.now.few

pub returns-then-len-ge-MOST_HELD : goal.returns-then-len-ge-MOST_HELD
returns-then-len-ge-MOST_HELD c =
    new_many (states (vec_items c.args.self.now.states)) (state c.args.t)
    (member_by c.args.t (vec_items c.args.self.now.states) c.deref.result.now _ c.deref.ensures.value c.if-contains.ensures.value)
    (simp length-map (omega (arith, c.args.self.now.states.ok.0)))

pub returns : goal.returns
returns c =
    let pushed = chosen _ _ _ _ c.push.ensures.items (ap is_ok c.in_ok-push.was) in
    new_fits (states (vec_items c.args.self.now.states)) (state c.args.t) _
    (member_by c.args.t (vec_items c.args.self.now.states) c.deref.result.now _ c.deref.ensures.value c.if-contains.ensures.value)
    (simp length-map (omega (arith, c.args.self.now.states.ok.0))) (ap states pushed ∙ map_push state (vec_items c.args.self.now.states) c.args.t)
