-- Numbers in digits.
use Rattle.std.proofs.Common.{◌≡◌, ℕ, ◌+◌, ◌*◌, ◌^◌, ◌<◌, ◌≤◌, List, length, get_or, drop, Some, None, Option, sym, ap, ◌∙◌, arith, pow_mono, pow-add}
use Rattle.std.proofs.lemmas.List.{at_drop_more, at_drop_all}
use Rattle.std.proofs.lemmas.Bool.Decides.{nat_tests}
use Rattle.refusals.specs.Options.{on}
use Rattle.commands.specs.Hex.{digit_of, number_from, set_of}

pub digit_small : (x d : ℕ) → Some d ≡ digit_of x → d < 16
digit_small x d e = grind (arith, nat_tests)

-- one digit more is four bits more, and sixteen digits have room
pub room : (i n d : ℕ) → i < 16 → n < 2 ^ (4 * i) → d < 16 → (n * 16 + d < 2 ^ (4 * (i + 1))) × (n * 16 + d < 2 ^ 64)
room i n d h k l =
    let e : 2 ^ (4 * (i + 1)) ≡ 2 ^ (4 * i) * 16 = ap (λ m. 2 ^ m) (omega arith) ∙ pow-add 2 (4 * i) 4 in
    let q : 4 * (i + 1) ≤ 64 = omega arith in
    let m : 2 ^ (4 * (i + 1)) ≤ 2 ^ 64 = pow_mono q in
    (omega arith, omega arith)

module _ (xs : List ℕ) (n i : ℕ) (p : number_from n (drop i xs) ≡ number_from 0 xs) where
  -- the next digit
  next_digit : (o : Option ℕ) → i < length xs → o ≡ digit_of (get_or xs i 0) → on o (λ d. number_from (n * 16 + d) (drop (i + 1) xs)) ≡ number_from 0 xs
  next_digit o h e = ap (λ q. on q (λ d. number_from (n * 16 + d) (drop (i + 1) xs))) e ∙ sym (at_drop_more (number_from n) xs i 0 h) ∙ p

  pub number_more : (d : ℕ) → i < length xs → Some d ≡ digit_of (get_or xs i 0) → number_from (n * 16 + d) (drop (i + 1) xs) ≡ number_from 0 xs
  number_more d h e = next_digit (Some d) h e

  -- a set by its digits
  pub set_refused : length xs ≡ 16 → i < length xs → None ≡ digit_of (get_or xs i 0) → None ≡ set_of xs
  set_refused k h e = rw (k, ← next_digit None h e)

  pub set_all : length xs ≡ 16 → length xs ≤ i → Some (record { bits = n }) ≡ set_of xs
  set_all k h = rw (k, ← p, at_drop_all (number_from n) xs i h)
