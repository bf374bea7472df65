-- Numbers as they are written.
use Rattle.std.proofs.Common.{◌≡◌, ℕ, ◌+◌, ◌-◌, ◌*◌, ◌^◌, ◌<◌, ◌≤◌, Bool, true, false, cond, not, eqb, leb, List, [], ◌∷◌, length, get_or, Some, None, decimal, sym, refl, ap, ◌∙◌, ⊎_elim, arith, rules}
use Rattle.std.specs.Char.{is_ascii_digit}
use Rattle.std.proofs.lemmas.Str.Parse.{IsNumeralModel, numerals_by_fold}
use Rattle.std.proofs.lemmas.Fmt.{decimal_digit, decimal_nonempty, first_decimal, digits_decimal, digits_value-decimal, decimal-digits_value}
use Rattle.std.proofs.lemmas.Bool.{and_parts, and_from, not-true, not_from_false, eqb-false, ne_eqb, le-leb, leb-true, cases_eq}
use Rattle.tokens.specs.Numerals.{all_digits, is_well_formed, value_from, value, within}

-- a further digit makes no number smaller
pub value_grows : (n : ℕ) (xs : List ℕ) → n ≤ value_from n xs
value_grows n [] = omega arith
value_grows n (x ∷ xs) = omega (arith, value_grows (n * 10 + (x - 48)) xs)

own : IsNumeralModel (λ ds. all_digits ds ≡ true) (value_from 0)
own = numerals_by_fold _ (search rules) value_from (search rules)

-- digits, at least one, and no 0 before another
record Formed (ds : List ℕ) : Type 0 where
  digits : all_digits ds ≡ true
  some : 0 < length ds
  zero : get_or ds 0 0 ≡ 48 → length ds ≡ 1

formed_parts : (ds : List ℕ) → is_well_formed ds ≡ true → Formed ds
formed_parts [] e = absurd (let z : ◌≡◌ {A = ℕ} 0 1 = cc in omega arith)
formed_parts (x ∷ []) e = record { digits = and_from (is_ascii_digit x) true e refl; some = omega arith; zero = λ z. refl }
formed_parts (x ∷ y ∷ zs) e =
    let p = and_parts (not (eqb x 48)) (all_digits (x ∷ y ∷ zs)) e in
    record { digits = p.1; some = omega arith; zero = λ z. absurd (eqb-false x 48 (not-true (eqb x 48) p.0) z) }

formed_from : (ds : List ℕ) → Formed ds → is_well_formed ds ≡ true
formed_from [] h = absurd (omega (arith, h.some))
formed_from (x ∷ []) h = (and_parts (is_ascii_digit x) true h.digits).0
formed_from (x ∷ y ∷ zs) h =
    and_from (not (eqb x 48)) (all_digits (x ∷ y ∷ zs)) (not_from_false (eqb x 48) (ne_eqb x 48 (λ q. omega (arith, h.zero q)))) h.digits

pub decimal_digits : (n : ℕ) → n < 2 ^ 64 → all_digits (decimal n) ≡ true
decimal_digits n h = digits_decimal own n h

-- a number as it is written is well formed, and stands for itself
pub decimal_formed : (n : ℕ) → n < 2 ^ 64 → is_well_formed (decimal n) ≡ true
decimal_formed n h = formed_from (decimal n) (record { digits = decimal_digits n h; some = decimal_nonempty n h; zero = alone })
  where
    alone : get_or (decimal n) 0 0 ≡ 48 → length (decimal n) ≡ 1
    alone z = ⊎_elim
        (λ e. ap (λ k. length (decimal k)) e ∙ ap length (decimal_digit 0 (omega arith)))
        (λ d. absurd (omega (arith, first_decimal n (omega arith) h)))
        (cases_eq n 0)

pub within_decimal : (most n : ℕ) → n ≤ most → n < 2 ^ 64 → within most (decimal n) ≡ Some n
within_decimal most n q h = rw (digits_value-decimal own n h, le-leb n most q)

-- and what is well formed is so written
pub written : (most n : ℕ) (ds : List ℕ) → most < 2 ^ 64 → is_well_formed ds ≡ true → within most ds ≡ Some n → (ds ≡ decimal n) × (n ≤ most)
written most n ds h w e = go (leb (value ds) most) refl e
  where
    f : Formed ds
    f = formed_parts ds w

    go : (b : Bool) → leb (value ds) most ≡ b → cond b (Some (value ds)) None ≡ Some n → (ds ≡ decimal n) × (n ≤ most)
    go true q e =
        let v : value ds ≡ n = cc in
        let l : value ds ≤ most = leb-true (value ds) most q in
        (sym (ap decimal (sym v) ∙ decimal-digits_value own ds f.digits f.some f.zero (omega arith)), omega arith)
    go false q e = absurd (let z : ◌≡◌ {A = ℕ} 0 1 = cc in omega arith)
