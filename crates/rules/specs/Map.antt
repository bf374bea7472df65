-- The map of a node, which announces its fields.
use Rattle.std.specs.Prelude.{ℕ, ◌/◌, ◌%◌, Bool, true, false, ◌==◌}
use Rattle.rules.specs.declared.map.Field.{Field}
use Rattle.rules.specs.declared.map.Field.TheVariants.{Kind, First, Second, Ty, Variable, Player, Card, Strokes}

-- the power of two that a field's bit of a map stands for
abbrev pub bit_of : Field → ℕ
bit_of Kind = 1
bit_of First = 2
bit_of Second = 4
bit_of Ty = 8
bit_of Variable = 16
bit_of Player = 32
bit_of Card = 64
bit_of Strokes = 128

-- how many bytes a field has, where it is there
abbrev pub len_of : Field → ℕ
len_of Kind = 1
len_of First = 1
len_of Second = 1
len_of Ty = 1
len_of Variable = 1
len_of Player = 5
len_of Card = 5
len_of Strokes = 5

-- whether a map announces the field whose bit stands for p
abbrev pub is_set : ℕ → ℕ → Bool
is_set m p = m / p % 2 == 1

-- so many bytes, if the field is there
abbrev pub width_of : Bool → ℕ → ℕ
width_of true k = k
width_of false k = 0
