-- The lines of a log, one after the other.
use Rattle.std.proofs.Common.{◌≡◌, ℕ, suc, ◌+◌, ◌<◌, ◌≤◌, Bool, true, false, cond, eqb, List, [], ◌∷◌, length, Some, None, Option, refl, ap, ◌∙◌, arith}
use Rattle.std.specs.Option.{option_map}
use Rattle.lines.specs.Pieces.{Piece, first_piece, other_piece}
use Rattle.tokens.specs.Pieces.{before, after, longer, pieces, pieces_in}
use Rattle.lines.specs.Logs.{newline, trimmed, numbered, lines_in, lines_of}
use Rattle.tokens.proofs.Cuts.{pieces_first}

-- where no separator is found, the first piece is all
whole : (sep : ℕ) (xs : List ℕ) → None ≡ after sep xs → xs ≡ before sep xs
whole sep [] e = refl
whole sep (x ∷ xs) e = go (eqb x sep) e (whole sep xs)
  where
    go : (b : Bool) → None ≡ cond b (Some xs) (after sep xs) → (None ≡ after sep xs → xs ≡ before sep xs) → x ∷ xs ≡ cond b [] (x ∷ before sep xs)
    go true e f = absurd (let z : ◌≡◌ {A = ℕ} 0 1 = cc in omega arith)
    go false e f = ap (λ ys. x ∷ ys) (f e)

trimmed_more : (p : List ℕ) (xs : List ℕ) → trimmed (p ∷ pieces newline xs) ≡ p ∷ trimmed (pieces newline xs)
trimmed_more p xs = rw (pieces_first newline xs)

kept : (p : List ℕ) → 0 < length p → trimmed (p ∷ []) ≡ p ∷ []
kept [] h = absurd (omega arith)
kept (x ∷ p) h = refl

-- the first line, and those after it
pub lines_first : (n : ℕ) (p : Piece) → 0 < length p.bytes
    → lines_in n (Some p) ≡ record { span = record { at = p.at; len = length (first_piece newline p).bytes }; number = n + 1 } ∷ lines_in (n + 1) (other_piece newline p)
lines_first n p h =
    ap (λ ps. numbered p.at n (trimmed ps)) (pieces_first newline p.bytes) ∙ go (after newline p.bytes) refl
  where
    go : (o : Option (List ℕ)) → o ≡ after newline p.bytes
        → numbered p.at n (trimmed (before newline p.bytes ∷ pieces_in newline o))
        ≡ record { span = record { at = p.at; len = length (before newline p.bytes) }; number = n + 1 } ∷ lines_in (n + 1) (option_map (λ xs. record { at = p.at + length (before newline p.bytes) + 1; bytes = xs }) o)
    go None e = ap (numbered p.at n) (kept (before newline p.bytes) (omega (arith, ap length (whole newline p.bytes e))))
    go (Some ys) e = ap (numbered p.at n) (trimmed_more (before newline p.bytes) ys)

-- there are no more lines than bytes
trimmed_few : (xs : List ℕ) → length (trimmed (pieces newline xs)) ≤ length xs
trimmed_few [] = omega arith
trimmed_few (x ∷ xs) = go (eqb x newline) (pieces newline xs) (pieces_first newline xs) (trimmed_few xs)
  where
    go : (b : Bool) (ps : List (List ℕ)) → ps ≡ before newline xs ∷ pieces_in newline (after newline xs) → length (trimmed ps) ≤ length xs → length (trimmed (cond b ([] ∷ ps) (longer x ps))) ≤ length (x ∷ xs)
    go b [] e h = absurd (let z : ◌≡◌ {A = ℕ} 0 1 = cc in omega arith)
    go true (p ∷ ps) e h = omega arith
    go false (p ∷ []) e h = omega arith
    go false (p ∷ q ∷ ps) e h = omega arith

numbered_length : (at n : ℕ) (ps : List (List ℕ)) → length (numbered at n ps) ≡ length ps
numbered_length at n [] = refl
numbered_length at n (p ∷ ps) = ap suc (numbered_length (at + length p + 1) (n + 1) ps)

pub lines_few : (xs : List ℕ) → length (lines_of xs) ≤ length xs
lines_few xs = omega (arith, numbered_length 0 0 (trimmed (pieces newline xs)), trimmed_few xs)
