-- How many bytes a node has, and where it lies.
use Rattle.std.specs.Prelude.{ℕ, ◌+◌, List, [], ◌∷◌, sum_by, length, take, drop}
use Rattle.refusals.specs.declared.Span.{Span}
use Rattle.rules.specs.declared.record.NodeRecord.{NodeRecord}
use Rattle.rules.specs.declared.map.Field.{Field}
use Rattle.rules.specs.declared.map.Field.TheVariants.{Kind, First, Second, Ty, Variable, Player, Card, Strokes}
use Rattle.rules.specs.Map.{bit_of, len_of, is_set, width_of}
use Rattle.rules.specs.Writing.{encoded_all, encoded_rule}

-- in the order of the bytes
abbrev pub all_fields : List Field
all_fields = Kind ∷ First ∷ Second ∷ Ty ∷ Variable ∷ Player ∷ Card ∷ Strokes ∷ []

-- the bytes of those of some fields that are there
abbrev pub widths_of : ℕ → List Field → ℕ
widths_of m fs = sum_by (λ (f : Field). width_of (is_set m (bit_of f)) (len_of f)) fs

-- the map alone says how many bytes a node has
unfoldable pub size_of : ℕ → ℕ
size_of m = 1 + widths_of m all_fields

abbrev pub sizes_of : List NodeRecord → ℕ
sizes_of rs = sum_by (λ (r : NodeRecord). size_of r.map) rs

-- node n begins where the bytes of those before it end, and has its own bytes; past the last node nothing
unfoldable pub span_of : List NodeRecord → ℕ → Span
span_of rs n = record { at = length (encoded_rule (take n rs)); len = length (encoded_all (take 1 (drop n rs))) }
