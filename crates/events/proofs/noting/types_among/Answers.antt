use Rattle.std.proofs.Common.{◌≡◌, ◌&&◌, sym, ap, ◌∙◌, arith, rules}
use Rattle.std.proofs.lemmas.Bool.Decides.{nat_tests}
use Rattle.std.proofs.lemmas.Nat.{one_shl}
use Rattle.events.specs.Types.{has, those, bits_below}
use Rattle.events.specs.Sets.{bits_none, bits_more, pow_more}
use Rattle.events.proofs.noting.types_among.Goals as goal
use Rattle.events.proofs.noting.types_among.Goals.{then-contains+then-is_of, else-contains, else-contains-via-then-contains+else-is_of, else-contains-via-else-contains}

pub loop-ty-init : goal.loop-ty-init
loop-ty-init g c = (sym (bits_none _), search rules)

pub loop-ty-preserved : goal.loop-ty-preserved
loop-ty-preserved g c =
    let m = bits_more (λ t. has c.args.set t && has (g.E.Event.meaning c.args.event.now).types t) c.loop-ty.ty in
    let p = pow_more c.loop-ty.ty in
    let q = one_shl c.loop-ty.ty 64 c.loop-ty-test.true in
    elim c.if-contains.branch [
      | then-contains+then-is_of w ↦ (grind (arith, nat_tests), omega (arith, w.bits-is))
      | else-contains w ↦ elim w.else-contains.branch [
        | else-contains-via-then-contains+else-is_of v ↦ (grind (arith, nat_tests), omega (arith, w.bits-is))
        | else-contains-via-else-contains v ↦ (grind (arith, nat_tests), omega (arith, w.bits-is))
      ]
    ]

pub returns : goal.returns
unfolding those
returns g c =
    let e : c.loop-ty.ty ≡ 64 = search rules in
    let b = c.loop-ty.invariant.0 ∙ ap (bits_below (λ t. has c.args.set t && has (g.E.Event.meaning c.args.event.now).types t)) e in
    λ i. record { bits = b i }
