-- What an event means, and what a query answers of that.
use Rattle.std.specs.Prelude.{ℕ, zero, suc, None, Option, nat_eq}
use Rattle.events.specs.declared.meaning.Meaning.{Meaning}
use Rattle.events.specs.declared.fields.Fields.{Fields}
use Rattle.events.specs.Types.{those}

-- what a slot holds: 0 is the player, 1 the card, 2 the strokes, and there are no others
abbrev pub in_slot : Meaning → ℕ → Option ℕ
in_slot m zero = m.player
in_slot m (suc zero) = m.card
in_slot m (suc (suc zero)) = m.strokes
in_slot m (suc (suc (suc s))) = None

-- an event of one type only
abbrev pub single : Fields → Meaning
single f = record { types = those (λ t. nat_eq t f.ty); player = f.player; card = f.card; strokes = f.strokes }
