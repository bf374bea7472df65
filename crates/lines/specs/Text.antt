-- The text that an event has as a line: reading takes this, and no other.
use Rattle.std.specs.Prelude.{◌≡◌, ℕ, List, [], ◌∷◌, ◌++◌, Some, None, Ok, decimal, Option, Result}
use Rattle.events.specs.declared.fields.Fields.{Fields}
use Rattle.events.specs.Ranges.{InRange}
use Rattle.lines.specs.declared.line.Line.{Line}
use Rattle.lines.specs.declared.fault.LineFault.{LineFault}
use Rattle.lines.specs.Lines.{space}

-- the word of a filled slot: its letter and its number
abbrev pub word : ℕ → Option ℕ → List (List ℕ)
word l None = []
word l (Some n) = (l ∷ decimal n) ∷ []

-- p the player, c the card, s the strokes, in this order
abbrev pub words_of : Fields → List (List ℕ)
words_of f = word 112 f.player ++ (word 99 f.card ++ word 115 f.strokes)

-- words with a space before each
abbrev pub spaced : List (List ℕ) → List ℕ
spaced [] = []
spaced (w ∷ ws) = space ∷ (w ++ spaced ws)

abbrev pub text_of : Fields → List ℕ
text_of f = decimal f.ty ++ spaced (words_of f)

pub record Exactly (xs : List ℕ) (r : Result Line LineFault) : Type 0 where
  pub back : (f : Fields) → InRange f → xs ≡ text_of f → r ≡ Ok (record { fields = f })
  pub only : (f : Fields) → r ≡ Ok (record { fields = f }) → (xs ≡ text_of f) × InRange f
