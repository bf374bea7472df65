-- Rows of sets, filled and closed one by one.
use Rattle.std.proofs.Common.{◌≡◌, ℕ, ◌+◌, ◌<◌, ◌≤◌, ◌&&◌, ◌||◌, ◌≢◌, List, length, get_or, set, ◌∙◌, arith, get_or-set_other, get_or-set_same, below_more}
use Rattle.checking.specs.declared.set.NodeSet.{NodeSet}
use Rattle.checking.specs.Sets.{holds}
use Rattle.checking.specs.Paths.{in_row, no_set}

pub pass_more : (old rows : List NodeSet) (i k : ℕ) (r : NodeSet) → i < length rows
    → ((m : ℕ) → m < i → (j : ℕ) → in_row rows m j ≡ (in_row old m j || (in_row old m k && in_row old k j)))
    → ((m : ℕ) → i ≤ m → get_or rows m no_set ≡ get_or old m no_set)
    → ((j : ℕ) → holds r j ≡ (in_row rows i j || (in_row rows i k && in_row old k j)))
    → (m : ℕ) → m < i + 1 → (j : ℕ) → in_row (set rows i r) m j ≡ (in_row old m j || (in_row old m k && in_row old k j))
pass_more old rows i k r l below rest now =
    below_more _ _
    (λ m h j. let ne : m ≢ i = omega arith in rw (get_or-set_other rows i m r no_set ne) (below m h j))
    (λ j. rw (get_or-set_same rows i r no_set l) (now j ∙ rw (rest i (omega arith))))

pub pass_rest : (old rows : List NodeSet) (i : ℕ) (r : NodeSet)
    → ((m : ℕ) → i ≤ m → get_or rows m no_set ≡ get_or old m no_set)
    → (m : ℕ) → i + 1 ≤ m → get_or (set rows i r) m no_set ≡ get_or old m no_set
pass_rest old rows i r rest m h = let ne : m ≢ i = omega arith in get_or-set_other rows i m r no_set ne ∙ rest m (omega arith)
