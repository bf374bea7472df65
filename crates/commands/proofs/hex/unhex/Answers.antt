use Rattle.std.proofs.Common.{◌≡◌, vec_items, ◌∙◌, rules}
use Rattle.commands.specs.Hex.{pairs_of, unhexed}
use Rattle.commands.proofs.Exact.{exactly}
use Rattle.commands.proofs.Pairs.{paired}
use Rattle.commands.proofs.Read.{IfRead-weaker}
use Rattle.commands.proofs.hex.unhex.Goals as goal
use Rattle.commands.proofs.hex.unhex.Goals.{in_default-via-then-text-lt2+in_default-1, in_default-via-else-text-lt2}

pub returns-in_default : goal.returns-in_default
returns-in_default c =
    let e : pairs_of c.args.text.now ≡ unhexed c.args.text.now =
    elim c.in_default.branch [
      | in_default-via-then-text-lt2+in_default-1 w ↦ paired c.args.text.now (search rules) (search rules)
      | in_default-via-else-text-lt2 w ↦ paired c.args.text.now (search rules) (search rules)
    ]
    in
    record {
      answer = IfRead-weaker vec_items c.pairs.result _ _ (λ o q. q ∙ e) c.pairs.ensures;
      exact = IfRead-weaker vec_items c.pairs.result _ _ (λ o q. exactly c.args.text.now o (q ∙ e)) c.pairs.ensures;
    }
