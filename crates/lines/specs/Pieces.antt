-- Pieces of some bytes, and where they begin.
use Rattle.std.specs.Prelude.{ℕ, ◌+◌, List, [], ◌∷◌, length, Some, None, Option}
use Rattle.std.specs.Option.{option_map}
use Rattle.tokens.specs.Pieces.{before, after, pieces}
use Rattle.lines.specs.declared.placed.Placed.{Placed}

-- a piece, and where it begins
pub record Piece : Type 0 where
  pub at : ℕ
  pub bytes : List ℕ

abbrev pub piece_of : Placed → Piece
piece_of p = record { at = p.at; bytes = p.bytes.now }

-- what stands before the first separator, and what follows it, if there is one
abbrev pub first_piece : ℕ → Piece → Piece
first_piece sep p = record { at = p.at; bytes = before sep p.bytes }

abbrev pub other_piece : ℕ → Piece → Option Piece
other_piece sep p = option_map (λ xs. record { at = p.at + length (before sep p.bytes) + 1; bytes = xs }) (after sep p.bytes)

-- pieces with one byte between each and the next, the first of them at a place
abbrev pub placed : ℕ → List (List ℕ) → List Piece
placed at [] = []
placed at (p ∷ ps) = record { at = at; bytes = p } ∷ placed (at + length p + 1) ps

-- all pieces of what may be absent
abbrev pub cut_in : ℕ → Option Piece → List Piece
cut_in sep None = []
cut_in sep (Some p) = placed p.at (pieces sep p.bytes)
