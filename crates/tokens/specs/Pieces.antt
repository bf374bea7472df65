-- Cutting bytes at a separator.
use Rattle.std.specs.Prelude.{ℕ, cond, List, [], ◌∷◌, Some, None, Option, ◌==◌}

-- what stands before the first separator
abbrev pub before : ℕ → List ℕ → List ℕ
before sep [] = []
before sep (x ∷ xs) = cond (x == sep) [] (x ∷ before sep xs)

-- what follows it, if there is one
abbrev pub after : ℕ → List ℕ → Option (List ℕ)
after sep [] = None
after sep (x ∷ xs) = cond (x == sep) (Some xs) (after sep xs)

abbrev pub longer : ℕ → List (List ℕ) → List (List ℕ)
longer x [] = (x ∷ []) ∷ []
longer x (p ∷ ps) = (x ∷ p) ∷ ps

-- all that stands between separators: one piece more than there are separators
abbrev pub pieces : ℕ → List ℕ → List (List ℕ)
pieces sep [] = [] ∷ []
pieces sep (x ∷ xs) = cond (x == sep) ([] ∷ pieces sep xs) (longer x (pieces sep xs))

-- the pieces of what follows a separator, if there is one
abbrev pub pieces_in : ℕ → Option (List ℕ) → List (List ℕ)
pieces_in sep None = []
pieces_in sep (Some xs) = pieces sep xs
