-- The words of a line, one after the other.
use Rattle.std.proofs.Common.{◌≡◌, ℕ, ◌+◌, List, ◌∷◌, length, Some, None, Option, refl, ap, ◌∙◌}
use Rattle.std.specs.Option.{option_map}
use Rattle.tokens.specs.Pieces.{before, after, pieces_in}
use Rattle.tokens.proofs.Cuts.{pieces_first}
use Rattle.lines.specs.Pieces.{Piece, first_piece, other_piece, placed, cut_in}

-- the first piece, and those that are cut from what follows it
pub cut_first : (sep : ℕ) (p : Piece) → cut_in sep (Some p) ≡ first_piece sep p ∷ cut_in sep (other_piece sep p)
cut_first sep p = ap (placed p.at) (pieces_first sep p.bytes) ∙ ap (λ ps. first_piece sep p ∷ ps) (go (after sep p.bytes))
  where
    go : (o : Option (List ℕ)) → placed (p.at + length (before sep p.bytes) + 1) (pieces_in sep o) ≡ cut_in sep (option_map (λ xs. record { at = p.at + length (before sep p.bytes) + 1; bytes = xs }) o)
    go None = refl
    go (Some ys) = refl
