-- Bytes that are read and written two digits at a time.
use Rattle.std.proofs.Common.{◌≡◌, ℕ, ◌+◌, ◌/◌, ◌%◌, ◌<◌, ◌≤◌, eqb, false, List, [], ◌∷◌, ◌++◌, length, get_or, take, drop, Some, None, Option, sym, refl, ap, ◌∙◌, append_assoc, arith}
use Rattle.std.specs.Option.{option_map}
use Rattle.std.proofs.lemmas.Bool.{ne_eqb}
use Rattle.std.proofs.lemmas.List.{flat_map_more, take_more}
use Rattle.refusals.specs.Options.{on}
use Rattle.commands.specs.Hex.{pair_of, pairs_of, unhexed, digit_text, byte_text, digits_text}

-- what was read so far, and what is still to be read
abbrev pub onto : List ℕ → Option (List ℕ) → Option (List ℕ)
onto bs o = option_map (λ cs. bs ++ cs) o

two_first : (xs : List ℕ) → 2 ≤ length xs → xs ≡ get_or xs 0 0 ∷ get_or xs 1 0 ∷ drop 2 xs
two_first [] h = absurd (omega arith)
two_first (x ∷ []) h = absurd (omega arith)
two_first (x ∷ y ∷ xs) h = refl

-- one byte more
pub onto_more : (xs bs : List ℕ) (b : ℕ) (all : Option (List ℕ)) → 2 ≤ length xs → Some b ≡ pair_of (get_or xs 0 0) (get_or xs 1 0)
    → onto bs (pairs_of xs) ≡ all → onto (bs ++ b ∷ []) (pairs_of (drop 2 xs)) ≡ all
onto_more xs bs b all h e q = go (pairs_of (drop 2 xs)) ∙ sym (ap (λ ys. onto bs (pairs_of ys)) (two_first xs h) ∙ ap (λ o. onto bs (on o (λ b. option_map (λ cs. b ∷ cs) (pairs_of (drop 2 xs))))) (sym e)) ∙ q
  where
    go : (o : Option (List ℕ)) → onto (bs ++ b ∷ []) o ≡ onto bs (option_map (λ cs. b ∷ cs) o)
    go None = refl
    go (Some cs) = ap Some (append_assoc bs (b ∷ []) cs)

-- a text that is neither empty nor `-`
pub paired : (xs : List ℕ) → 0 < length xs → (length xs ≡ 1 → get_or xs 0 0 ≡ 45 → ⊥) → pairs_of xs ≡ unhexed xs
paired [] h n = absurd (omega arith)
paired (x ∷ []) h n = let e : eqb x 45 ≡ false = ne_eqb x 45 (n refl) in rw e
paired (x ∷ y ∷ xs) h n = refl

-- the two digits of one byte more of those that are to be written
pub digits_more : (bs : List ℕ) (i : ℕ) → i < length bs
    → (digits_text (take i bs) ++ (digit_text (get_or bs i 0 / 16) ∷ [])) ++ (digit_text (get_or bs i 0 % 16) ∷ []) ≡ digits_text (take (i + 1) bs)
digits_more bs i h =
    append_assoc (digits_text (take i bs)) (digit_text (get_or bs i 0 / 16) ∷ []) (digit_text (get_or bs i 0 % 16) ∷ [])
    ∙ flat_map_more byte_text [] (take i bs) (get_or bs i 0)
    ∙ ap digits_text (sym (take_more bs i 0 h))
