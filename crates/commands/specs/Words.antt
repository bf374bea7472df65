-- Words: what stands between single spaces.
use Rattle.std.specs.Prelude.{ℕ, List, [], ◌∷◌, Some, None, Option}
use Rattle.tokens.specs.Pieces.{pieces_in}

abbrev pub space : ℕ
space = 32

-- the words of what follows a space, if there is one: one more than there are spaces; a word may be empty
abbrev pub words_in : Option (List ℕ) → List (List ℕ)
words_in r = pieces_in space r

-- the first word, and those after it
abbrev pub first_of : List (List ℕ) → Option (List ℕ × List (List ℕ))
first_of [] = None
first_of (w ∷ ws) = Some (w, ws)

-- a word with none after it
abbrev pub only_of : List (List ℕ) → Option (List ℕ)
only_of [] = None
only_of (w ∷ []) = Some w
only_of (w ∷ v ∷ ws) = None
