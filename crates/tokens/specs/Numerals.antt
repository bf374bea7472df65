-- Numbers in decimal digits.
use Rattle.std.specs.Prelude.{ℕ, ◌+◌, ◌-◌, ◌*◌, Bool, false, cond, not, ◌&&◌, List, [], ◌∷◌, Some, None, Option, ◌==◌, nat_le}
use Rattle.std.specs.Char.{is_ascii_digit}
use Rattle.std.specs.List.{list_all}

abbrev pub all_digits : List ℕ → Bool
all_digits xs = list_all is_ascii_digit xs

-- digits, at least one, and no 0 before another
abbrev pub is_well_formed : List ℕ → Bool
is_well_formed [] = false
is_well_formed (x ∷ []) = is_ascii_digit x
is_well_formed (x ∷ y ∷ xs) = not (x == 48) && all_digits (x ∷ y ∷ xs)

abbrev pub value_from : ℕ → List ℕ → ℕ
value_from n [] = n
value_from n (x ∷ xs) = value_from (n * 10 + (x - 48)) xs

-- the number that digits stand for
abbrev pub value : List ℕ → ℕ
value xs = value_from 0 xs

-- that number, unless it is over the most
abbrev pub within : ℕ → List ℕ → Option ℕ
within most xs = cond (nat_le (value xs) most) (Some (value xs)) None

-- the number that a word stands for, if it is one
abbrev pub number_of : ℕ → List ℕ → Option ℕ
number_of most xs = cond (is_well_formed xs) (within most xs) None
