-- Bytes are below 256.
use Rattle.std.proofs.Common.{ℕ, suc, ◌<◌, List, [], ◌∷◌, get_or}

abbrev pub Octets : List ℕ → Type 0
Octets [] = Unit {0}
Octets (x ∷ xs) = (x < 256) × Octets xs

pub octets : (xs : List ℕ) → ((i : ℕ) → get_or xs i 0 < 256) → Octets xs
octets [] h = tt
octets (x ∷ xs) h = (h 0, octets xs (λ i. h (suc i)))
