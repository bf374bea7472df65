-- What the bytes of a record say.
use Rattle.std.specs.Prelude.{ℕ, ◌+◌, ◌*◌, ◌/◌, ◌%◌, Bool, true, false, cond, ◌&&◌, List, [], ◌∷◌, length, Some, None, Ok, Err, Option, Result, ◌==◌, nat_le}
use Rattle.refusals.specs.Options.{on}
use Rattle.refusals.specs.declared.Layer.TheVariants.{Record as InRecord}
use Rattle.refusals.specs.declared.Place.TheVariants.{Bytes}
use Rattle.refusals.specs.declared.Refusal.{Refusal}
use Rattle.events.specs.declared.fields.Fields.{Fields}
use Rattle.records.specs.declared.Record.{Record}
use Rattle.records.specs.declared.RecordFault.{RecordFault}

-- a number of four bytes, the highest first
abbrev pub joined4 : ℕ → ℕ → ℕ → ℕ → ℕ
joined4 a b c d = ((a * 256 + b) * 256 + c) * 256 + d

-- a number of four bytes at the front, and what follows it
abbrev pub bytes4 : List ℕ → Option (ℕ × List ℕ)
bytes4 [] = None
bytes4 (a ∷ []) = None
bytes4 (a ∷ b ∷ []) = None
bytes4 (a ∷ b ∷ c ∷ []) = None
bytes4 (a ∷ b ∷ c ∷ d ∷ xs) = Some (joined4 a b c d, xs)

-- one of one byte, likewise
abbrev pub bytes1 : List ℕ → Option (ℕ × List ℕ)
bytes1 [] = None
bytes1 (a ∷ xs) = Some (a, xs)

-- a field of such a number, if it is announced, and what follows it
abbrev pub field : {N : Type 0} → (List ℕ → Option (N × List ℕ)) → Bool → List ℕ → Option (Option N × List ℕ)
field first false xs = Some (None, xs)
field first true xs = on (first xs) (λ p. Some (Some p.0, p.1))

-- nothing may follow
abbrev pub ended : Fields → List ℕ → Option Fields
ended f [] = Some f
ended f (x ∷ xs) = None

-- the fields that a map announces by bits 0, 1 and 2: player, card and strokes, in this order
abbrev pub announced : ℕ → ℕ → List ℕ → Option Fields
announced map ty xs =
    on (field bytes4 (map % 2 == 1) xs) (λ p.
    on (field bytes4 (map / 2 % 2 == 1) p.1) (λ c.
    on (field bytes1 (map / 4 % 2 == 1) c.1) (λ s.
    ended (record { ty = ty; player = p.0; card = c.0; strokes = s.0 }) s.1)))

abbrev pub fields_of : List ℕ → Option Fields
fields_of [] = None
fields_of (map ∷ []) = None
fields_of (map ∷ ty ∷ xs) = cond (nat_le map 7 && nat_le ty 47) (announced map ty xs) None

-- anything else is a bad record, all of it
abbrev pub or_bad : ℕ → Option Fields → Result Record RecordFault
or_bad n None = Err (record { span = record { at = 0; len = n } })
or_bad n (Some f) = Ok (record { fields = f })

abbrev pub record_of : List ℕ → Result Record RecordFault
record_of xs = or_bad (length xs) (fields_of xs)

abbrev pub record_refusal : RecordFault → Refusal
record_refusal f = record { number = 11; layer = InRecord; place = Bytes f.span }
