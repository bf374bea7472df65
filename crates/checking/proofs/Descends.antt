-- Ranks fall to all targets if they fall along all links.
use Rattle.std.proofs.Common.{◌≡◌, ℕ, ◌<◌, true, eqb, List, [], ◌∷◌, get_or, refl}
use Rattle.std.proofs.lemmas.Bool.{eq-eqb, or_left, or_right}
use Rattle.checking.specs.Links.{among, Falls}

pub descends : (ranks : List ℕ) (k : ℕ) (ts : List ℕ) → ((c : ℕ) → among c ts ≡ true → get_or ranks c 0 < k) → Falls ranks k ts
descends ranks k [] f = tt
descends ranks k (t ∷ ts) f = (f t (or_left _ _ (eq-eqb t t refl)), descends ranks k ts (λ c h. f c (or_right (eqb t c) _ h)))
