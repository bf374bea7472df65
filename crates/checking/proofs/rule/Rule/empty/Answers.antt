use Rattle.std.proofs.Common.{ap, ◌∙◌, arith}
use Rattle.checking.specs.declared.links.Links.TheVariants.{Unguarded}
use Rattle.checking.specs.FreeSets.{FreeSets, is_free}
use Rattle.checking.proofs.Placing.{all_empty}
use Rattle.checking.proofs.Emptied.{empty_inside, empty_link, empty_names, empty_passed, empty_loopless, empty_light, no_free}
use Rattle.checking.proofs.rule.Rule.empty.Goals as goal

pub invariant_of-result : goal.invariant_of-result
invariant_of-result c =
    record {
      some = omega arith;
      most = omega arith;
      ranged = λ n. empty_inside _ (all_empty 128 n) _;
      loopless = λ n. empty_loopless _ n (all_empty 128 n);
      light = λ n. empty_light _ n (all_empty 128 n);
      falls = λ n k h. absurd (empty_link _ (all_empty 128 n) Unguarded k h);
      named = λ v n h. absurd (empty_names _ (all_empty 128 n) v h);
      carried = λ v n k. empty_passed _ (all_empty 128 n) _ n k v;
      closed = λ v. ap (λ (s : FreeSets). is_free s v 0) c.all.ensures ∙ no_free v 0;
    }
