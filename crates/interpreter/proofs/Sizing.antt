-- Sizes in rising order.
use Rattle.std.proofs.Common.{◌≡◌, ℕ, List, subst}
use Rattle.std.proofs.lemmas.List.Sorted.{IsNonDecreasingBy-from_sort}
use Rattle.std.specs.Ordering.{nat_cmp}
use Rattle.std.specs.List.Sorted.{IsPermutation, IsSorted}
use Rattle.interpreter.specs.Sizes.{Ordered}

-- what sorting gives
pub sorted : (whole xs ys : List ℕ) → xs ≡ whole → IsPermutation xs ys → IsSorted nat_cmp ys → Ordered whole ys
sorted whole xs ys e s a = subst (λ (zs : List ℕ). Ordered zs ys) e (record { same = s; order = IsNonDecreasingBy-from_sort (λ x. x) ys a })
