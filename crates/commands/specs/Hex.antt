-- Bytes in hexadecimal digits.
use Rattle.std.specs.Prelude.{◌≡◌, ℕ, ◌+◌, ◌-◌, ◌*◌, ◌/◌, ◌%◌, ◌<◌, cond, ◌&&◌, List, [], ◌∷◌, map, length, Some, None, Option, ◌==◌, nat_le, nat_lt}
use Rattle.std.specs.List.{flat_map}
use Rattle.std.specs.Option.{option_map}
use Rattle.events.specs.declared.types.TypeSet.{TypeSet}
use Rattle.refusals.specs.Options.{on}

-- what a digit stands for, in either case
abbrev pub digit_of : ℕ → Option ℕ
digit_of c =
    cond (nat_le 48 c && nat_le c 57) (Some (c - 48))
    (cond (nat_le 97 c && nat_le c 102) (Some (c - 87))
    (cond (nat_le 65 c && nat_le c 70) (Some (c - 55)) None))

-- the byte of two digits
abbrev pub pair_of : ℕ → ℕ → Option ℕ
pair_of h l = on (digit_of h) (λ a. on (digit_of l) (λ b. Some (a * 16 + b)))

-- two digits for each byte
abbrev pub pairs_of : List ℕ → Option (List ℕ)
pairs_of [] = Some []
pairs_of (h ∷ []) = None
pairs_of (h ∷ l ∷ xs) = on (pair_of h l) (λ b. option_map (λ bs. b ∷ bs) (pairs_of xs))

-- no bytes at all are written `-`
abbrev pub unhexed : List ℕ → Option (List ℕ)
unhexed [] = None
unhexed (x ∷ []) = cond (x == 45) (Some []) None
unhexed (x ∷ y ∷ xs) = pairs_of (x ∷ y ∷ xs)

-- a digit as it is written, in lower case
abbrev pub digit_text : ℕ → ℕ
digit_text n = cond (nat_lt n 10) (48 + n) (97 + (n - 10))

abbrev pub byte_text : ℕ → List ℕ
byte_text b = digit_text (b / 16) ∷ digit_text (b % 16) ∷ []

abbrev pub digits_text : List ℕ → List ℕ
digits_text bs = flat_map byte_text bs

abbrev pub hex_text : List ℕ → List ℕ
hex_text [] = 45 ∷ []
hex_text (b ∷ bs) = digits_text (b ∷ bs)

abbrev pub Octets : List ℕ → Type 0
Octets [] = Unit {0}
Octets (x ∷ xs) = (x < 256) × Octets xs

-- the letters A to F in lower case
abbrev pub lower_case : ℕ → ℕ
lower_case x = cond (nat_le 65 x && nat_le x 70) (x + 32) x

abbrev pub lowered : List ℕ → List ℕ
lowered xs = map lower_case xs

-- bytes are read of their text, with letters in either case, and of no other text; so what is written of bytes is read back
pub record Exactly (xs : List ℕ) (r : Option (List ℕ)) : Type 0 where
  pub back : (bs : List ℕ) → Octets bs → lowered xs ≡ hex_text bs → r ≡ Some bs
  pub only : (bs : List ℕ) → r ≡ Some bs → (lowered xs ≡ hex_text bs) × Octets bs
  pub written : (bs : List ℕ) → Octets bs → xs ≡ hex_text bs → r ≡ Some bs

-- the number of digits that follow those of n
abbrev pub number_from : ℕ → List ℕ → Option ℕ
number_from n [] = Some n
number_from n (x ∷ xs) = on (digit_of x) (λ d. number_from (n * 16 + d) xs)

-- a set of types: sixteen digits, one for each four of its bits
abbrev pub set_of : List ℕ → Option TypeSet
set_of xs = cond (length xs == 16) (option_map (λ n. record { bits = n }) (number_from 0 xs)) None
