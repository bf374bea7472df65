-- Cutting bytes at a separator.
use Rattle.std.proofs.Common.{◌≡◌, ℕ, suc, ◌+◌, Bool, true, false, cond, not, eqb, ltb, List, [], ◌∷◌, length, take, drop, Some, None, position, sym, refl, ap, ◌∙◌, arith}
use Rattle.std.specs.List.{position_or_len}
use Rattle.std.proofs.lemmas.Bool.{ltb-false, lt-ltb}
use Rattle.std.proofs.lemmas.Bool.Decides.{nat_tests}
use Rattle.std.proofs.lemmas.List.{take_all}
use Rattle.tokens.specs.Pieces.{before, after, longer, pieces, pieces_in}

-- the first piece stands before the first separator, and the others are cut from what follows it
pub pieces_first : (sep : ℕ) (xs : List ℕ) → pieces sep xs ≡ before sep xs ∷ pieces_in sep (after sep xs)
pieces_first sep [] = refl
pieces_first sep (x ∷ xs) = go (eqb x sep) (pieces_first sep xs)
  where
    go : (b : Bool) → pieces sep xs ≡ before sep xs ∷ pieces_in sep (after sep xs) → cond b ([] ∷ pieces sep xs) (longer x (pieces sep xs)) ≡ cond b [] (x ∷ before sep xs) ∷ pieces_in sep (cond b (Some xs) (after sep xs))
    go true e = refl
    go false e = ap (longer x) e

impossible : {A : Type 0} → ◌≡◌ {A = ℕ} 0 1 → A
impossible z = absurd (omega arith)

module _ (sep : ℕ) where
  -- how many bytes stand before the first separator
  abbrev passed : List ℕ → ℕ
  passed xs = position_or_len (λ x. eqb x sep) xs

  before_is : (xs : List ℕ) → before sep xs ≡ take (passed xs) xs
  before_is [] = refl
  before_is (x ∷ xs) = go (eqb x sep) (before_is xs)
    where
      go : (b : Bool) → before sep xs ≡ take (passed xs) xs → cond b [] (x ∷ before sep xs) ≡ take (cond (not b) (1 + passed xs) 0) (x ∷ xs)
      go true e = refl
      go false e = let q : 1 + passed xs ≡ suc (passed xs) = omega arith in rw q (ap (λ ys. x ∷ ys) e)

  after_is : (xs : List ℕ) → after sep xs ≡ cond (ltb (passed xs) (length xs)) (Some (drop (passed xs + 1) xs)) None
  after_is [] = refl
  after_is (x ∷ xs) = go (eqb x sep) (after_is xs)
    where
      go : (b : Bool) → after sep xs ≡ cond (ltb (passed xs) (length xs)) (Some (drop (passed xs + 1) xs)) None
          → cond b (Some xs) (after sep xs) ≡ cond (ltb (cond (not b) (1 + passed xs) 0) (suc (length xs))) (Some (drop (cond (not b) (1 + passed xs) 0 + 1) (x ∷ xs))) None
      go true e = rw (lt-ltb 0 (suc (length xs)) (omega arith))
      go false e = let q : 1 + passed xs ≡ suc (passed xs) = omega arith in let r : suc (passed xs) + 1 ≡ suc (passed xs + 1) = omega arith in
          let t : ltb (suc (passed xs)) (suc (length xs)) ≡ ltb (passed xs) (length xs) = grind (arith, nat_tests) in
          rw (q, r, t) e

  pub cut_found : (xs : List ℕ) (i : ℕ) → Some i ≡ position (λ x. eqb x sep) xs → (take i xs ≡ before sep xs) × (Some (drop (i + 1) xs) ≡ after sep xs)
  cut_found xs i e = go (ltb (passed xs) (length xs)) e (after_is xs)
    where
      go : (b : Bool) → Some i ≡ cond b (Some (passed xs)) None → after sep xs ≡ cond b (Some (drop (passed xs + 1) xs)) None → (take i xs ≡ before sep xs) × (Some (drop (i + 1) xs) ≡ after sep xs)
      go true e a = let k : i ≡ passed xs = cc in rw k (sym (before_is xs), sym a)
      go false e a = impossible (cc)

  pub cut_none : (xs : List ℕ) → None ≡ position (λ x. eqb x sep) xs → (xs ≡ before sep xs) × (None ≡ after sep xs)
  cut_none xs e = go (ltb (passed xs) (length xs)) refl e (after_is xs)
    where
      go : (b : Bool) → ltb (passed xs) (length xs) ≡ b → None ≡ cond b (Some (passed xs)) None → after sep xs ≡ cond b (Some (drop (passed xs + 1) xs)) None → (xs ≡ before sep xs) × (None ≡ after sep xs)
      go true q e a = impossible (cc)
      go false q e a = (sym (before_is xs ∙ take_all (passed xs) xs (ltb-false (passed xs) (length xs) q)), sym a)
