use Rattle.std.proofs.Common.{vec_items, is_ok, ap, ◌∙◌, arith}
use Rattle.std.proofs.ResultArms.{chosen}
use Rattle.std.proofs.lemmas.List.{length-map, map_push}
use Rattle.calculus.specs.States.{cells}
use Rattle.states.specs.State.{state}
use Rattle.stepping.specs.Listed.{outcome_of, outcomes_of}
use Rattle.stepping.proofs.Overflow.{member_by, found, is_large, is_small, new_large, new_many, new_fits, pushed_fits}
use Rattle.stepping.proofs.outcomes.Outcomes.add.Goals as goal
use Rattle.stepping.proofs.outcomes.Outcomes.add.Goals.{then-is_none-via-then-is_none, then-is_none-via-else-is_none+then-len-ge-MOST_OUTCOMES}

pub returns-then-contains : goal.returns-then-contains
returns-then-contains c =
    found (outcomes_of (vec_items c.args.self.now.items)) (outcome_of c.args.o)
    (member_by c.args.o (vec_items c.args.self.now.items) c.deref.result.now _ c.deref.ensures.value c.if-contains.ensures.value) c.args.self.now.fits

pub returns-then-is_none : goal.returns-then-is_none
returns-then-is_none c =
    let xs = outcomes_of (vec_items c.args.self.now.items) in
    let fresh = member_by c.args.o (vec_items c.args.self.now.items) c.deref.result.now _ c.deref.ensures.value c.if-contains.ensures.value in
    elim c.then-is_none.branch [
      | then-is_none-via-then-is_none w ↦ new_large xs (outcome_of c.args.o) fresh (is_large c.remaining.result (cells (state c.args.o.tree)) 64 c.remaining.ensures w.if-is_none.ensures)
      | then-is_none-via-else-is_none+then-len-ge-MOST_OUTCOMES w ↦ new_many xs (outcome_of c.args.o) fresh (simp length-map (omega (arith, c.args.self.now.items.ok.0)))
    ]

pub invariant_of-self : goal.invariant_of-self
invariant_of-self c =
    record {
      fits = pushed_fits (is_ok c.push.result) (vec_items c.push.new.self) (vec_items c.args.self.now.items) c.args.o c.push.ensures.items c.args.self.now.fits
          (is_small c.remaining.result (cells (state c.args.o.tree)) 64 c.remaining.ensures c.if-is_none.ensures) (omega (arith, c.args.self.now.items.ok.0));
    }

pub returns : goal.returns
returns c =
    let fresh = member_by c.args.o (vec_items c.args.self.now.items) c.deref.result.now _ c.deref.ensures.value c.if-contains.ensures.value in
    let pushed = chosen _ _ _ _ c.push.ensures.items (ap is_ok c.in_ok-push.was) in
    new_fits (outcomes_of (vec_items c.args.self.now.items)) (outcome_of c.args.o) _ fresh c.args.self.now.fits
    (is_small c.remaining.result (cells (state c.args.o.tree)) 64 c.remaining.ensures c.if-is_none.ensures) (simp length-map (omega (arith, c.args.self.now.items.ok.0)))
    (ap outcomes_of pushed ∙ map_push outcome_of (vec_items c.args.self.now.items) c.args.o)
