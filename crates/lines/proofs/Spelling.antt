-- Words between spaces.
use Rattle.std.proofs.Common.{◌≡◌, ℕ, ◌+◌, ◌^◌, ◌<◌, Bool, true, false, cond, eqb, leb, List, [], ◌∷◌, ◌++◌, length, Some, None, decimal, Option, refl, ap, ◌∙◌, subst, append-nil, arith}
use Rattle.std.specs.Char.{is_ascii_digit}
use Rattle.std.proofs.lemmas.Bool.{and_parts, eqb-true, ne_eqb, leb-true}
use Rattle.tokens.specs.Numerals.{all_digits}
use Rattle.tokens.proofs.Numerals.{decimal_digits}
use Rattle.std.specs.Option.{option_map}
use Rattle.lines.specs.Pieces.{placed, cut_in}
use Rattle.tokens.specs.Pieces.{before, after, longer, pieces, pieces_in}
use Rattle.lines.specs.Lines.{space, other_words}
use Rattle.lines.specs.Text.{spaced}
use Rattle.tokens.proofs.Cuts.{pieces_first}

-- a cut passes over a word that has no space
abbrev pub Spaceless : List ℕ → Type 0
Spaceless w = (rest : List ℕ) → (before space (w ++ rest) ≡ w ++ before space rest) × (after space (w ++ rest) ≡ after space rest)

pub spaceless_more : (x : ℕ) (w : List ℕ) → eqb x space ≡ false → Spaceless w → Spaceless (x ∷ w)
spaceless_more x w e s rest = (rw (e, (s rest).0), rw (e, (s rest).1))

spaceless_digits : (ds : List ℕ) → all_digits ds ≡ true → Spaceless ds
spaceless_digits [] a = λ rest. (refl, refl)
spaceless_digits (x ∷ ds) a =
    let p = and_parts (is_ascii_digit x) (all_digits ds) a in
    let q = and_parts (leb 48 x) (leb x 57) p.0 in
    spaceless_more x ds (ne_eqb x space (λ e. omega (arith, leb-true 48 x q.0))) (spaceless_digits ds p.1)

pub spaceless_decimal : (n : ℕ) → n < 2 ^ 64 → Spaceless (decimal n)
spaceless_decimal n h = spaceless_digits (decimal n) (decimal_digits n h)

abbrev pub AllSpaceless : List (List ℕ) → Type 0
AllSpaceless [] = Unit {0}
AllSpaceless (w ∷ ws) = Spaceless w × AllSpaceless ws

pieces_spaced : (w : List ℕ) (ws : List (List ℕ)) → Spaceless w → AllSpaceless ws → pieces space (w ++ spaced ws) ≡ w ∷ ws
pieces_spaced w [] s all = pieces_first space (w ++ []) ∙ rw ((s []).0, (s []).1, append-nil w)
pieces_spaced w (v ∷ ws) s all =
    pieces_first space (w ++ spaced (v ∷ ws)) ∙ rw ((s (spaced (v ∷ ws))).0, (s (spaced (v ∷ ws))).1, append-nil w, pieces_spaced v ws all.0 all.1)

pub first_spaced : (w : List ℕ) (ws : List (List ℕ)) → Spaceless w → before space (w ++ spaced ws) ≡ w
first_spaced w [] s = (s []).0 ∙ append-nil w
first_spaced w (v ∷ ws) s = (s (spaced (v ∷ ws))).0 ∙ append-nil w

pub others_spaced : (at : ℕ) (w : List ℕ) (ws : List (List ℕ)) → Spaceless w → AllSpaceless ws → other_words at (w ++ spaced ws) ≡ placed (at + length w + 1) ws
others_spaced at w [] s all = rw (s []).1
others_spaced at w (v ∷ ws) s all = rw ((s (spaced (v ∷ ws))).1, first_spaced w (v ∷ ws) s, pieces_spaced v ws all.0 all.1)

-- bytes are their pieces, with a space between each and the next
abbrev Joined : List ℕ → List (List ℕ) → Type 0
Joined xs [] = ⊥
Joined xs (p ∷ ps) = xs ≡ p ++ spaced ps

pieces_joined : (xs : List ℕ) → Joined xs (pieces space xs)
pieces_joined [] = refl
pieces_joined (x ∷ xs) = go (eqb x space) refl (pieces space xs) (pieces_joined xs)
  where
    go : (b : Bool) → eqb x space ≡ b → (ps : List (List ℕ)) → Joined xs ps → Joined (x ∷ xs) (cond b ([] ∷ ps) (longer x ps))
    go true e [] j = absurd j
    go true e (p ∷ ps) j = ap (λ (k : ℕ). k ∷ xs) (eqb-true x space e) ∙ ap (λ ys. space ∷ ys) j
    go false e [] j = absurd j
    go false e (p ∷ ps) j = ap (λ ys. x ∷ ys) j

pub cut_joined : (xs : List ℕ) → xs ≡ before space xs ++ spaced (pieces_in space (after space xs))
cut_joined xs = subst (Joined xs) (pieces_first space xs) (pieces_joined xs)

pub others_placed : (at : ℕ) (xs : List ℕ) → other_words at xs ≡ placed (at + length (before space xs) + 1) (pieces_in space (after space xs))
others_placed at xs = go (after space xs)
  where
    go : (o : Option (List ℕ)) → cut_in space (option_map (λ ys. record { at = at + length (before space xs) + 1; bytes = ys }) o) ≡ placed (at + length (before space xs) + 1) (pieces_in space o)
    go None = refl
    go (Some ys) = refl
