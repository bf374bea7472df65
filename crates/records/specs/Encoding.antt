-- The bytes that an event has as a record: reading takes these, and no others.
use Rattle.std.specs.Prelude.{◌≡◌, ℕ, ◌+◌, ◌*◌, ◌/◌, ◌%◌, List, [], ◌∷◌, Some, None, Ok, Option, Result}
use Rattle.events.specs.declared.fields.Fields.{Fields}
use Rattle.events.specs.Ranges.{InRange}
use Rattle.records.specs.declared.Record.{Record}
use Rattle.records.specs.declared.RecordFault.{RecordFault}

-- a filled slot in four bytes, or in one, before what follows
abbrev pub put4 : Option ℕ → List ℕ → List ℕ
put4 None xs = xs
put4 (Some n) xs = n / 16777216 ∷ n / 65536 % 256 ∷ n / 256 % 256 ∷ n % 256 ∷ xs

abbrev pub put1 : Option ℕ → List ℕ → List ℕ
put1 None xs = xs
put1 (Some n) xs = n ∷ xs

-- a bit of the map: is the slot filled?
abbrev pub flag : Option ℕ → ℕ
flag None = 0
flag (Some n) = 1

abbrev pub map_of : Fields → ℕ
map_of f = flag f.player + 2 * flag f.card + 4 * flag f.strokes

abbrev pub encoded : Fields → List ℕ
encoded f = map_of f ∷ f.ty ∷ put4 f.player (put4 f.card (put1 f.strokes []))

pub record Exactly (xs : List ℕ) (r : Result Record RecordFault) : Type 0 where
  pub back : (f : Fields) → InRange f → xs ≡ encoded f → r ≡ Ok (record { fields = f })
  pub only : (f : Fields) → r ≡ Ok (record { fields = f }) → (xs ≡ encoded f) × InRange f
