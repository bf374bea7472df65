use Rattle.std.proofs.Common.{sym, ◌∙◌, ap}
use Rattle.calculus.specs.Equality.{same_state}
use Rattle.calculus.proofs.Equality.{same_state_eq, same_state_refl}
use Rattle.states.specs.State.{state}
use Rattle.states.proofs.Equal.{tree_same}
use Rattle.states.proofs.equality.same.Goals as goal

pub returns : goal.returns
returns c =
    let s = state c.args.a.now in
    let t = state c.args.b.now in (
      λ h. same_state_eq s t (sym (tree_same c.args.a.now c.args.b.now) ∙ sym c.eq.ensures ∙ h),
      λ e. c.eq.ensures ∙ tree_same c.args.a.now c.args.b.now ∙ ap (same_state s) (sym e) ∙ same_state_refl s,
    )
