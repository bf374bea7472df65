-- Bytes as readable text.
use Rattle.std.specs.Prelude.{ℕ, ◌/◌, ◌%◌, Bool, true, cond, not, ◌&&◌, List, [], ◌∷◌, ◌++◌, ◌==◌, nat_le}
use Rattle.std.specs.Fmt.{digit_glyph}
use Rattle.std.specs.List.{flat_map}

-- printable, and neither a quote nor a backslash
abbrev pub is_plain : ℕ → Bool
is_plain b = nat_le 32 b && (nat_le b 126 && (not (b == 34) && not (b == 92)))

-- a hexadecimal digit, with capital letters
abbrev pub hex_digit : ℕ → ℕ
hex_digit n = digit_glyph true n

-- a byte as it stands, or `\x` and two hexadecimal digits
abbrev pub escaped : ℕ → List ℕ
escaped b = cond (is_plain b) (b ∷ []) (92 ∷ 120 ∷ hex_digit (b / 16) ∷ hex_digit (b % 16) ∷ [])

-- between quotes
abbrev pub quoted_of : List ℕ → List ℕ
quoted_of bs = 34 ∷ (flat_map escaped bs ++ (34 ∷ []))
