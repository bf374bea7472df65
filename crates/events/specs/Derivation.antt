-- What an event means under entries that derive further types from those it has.
use Rattle.std.specs.Prelude.{ℕ, ◌-◌, Bool, cond, not, ◌&&◌, Some, None, Option, nat_le, replicate, slice_index_or, slice_set}
use Rattle.events.specs.declared.meaning.Meaning.{Meaning}
use Rattle.events.specs.declared.types.TypeSet.{TypeSet}
use Rattle.events.specs.declared.derived.Entries.{Entries}
use Rattle.events.specs.declared.derived.Entry.{Entry}
use Rattle.events.specs.declared.derived.Entry.TheVariants.{Absent, AnyOf, NoneOf}
use Rattle.events.specs.Types.{has, those, common, is_empty}

-- is an event of type t, whose entry this is, where the event below is of the types u?
abbrev pub derives : TypeSet → ℕ → Entry → Bool
derives u t Absent = has u t
derives u t (AnyOf s) = not (is_empty (common s u))
derives u t (NoneOf s) = is_empty (common s u)

-- the entries are for the types 48 to 63, in their order
abbrev pub place_of : ℕ → Option ℕ
place_of t = cond (nat_le 48 t && nat_le t 63) (Some (t - 48)) None

abbrev pub entry_for : Entries → ℕ → Entry
entry_for es t = cond (nat_le 48 t && nat_le t 63) (slice_index_or es.list (t - 48) Absent) Absent

-- no type is derived
abbrev pub no_entries : Entries
no_entries = record { list = replicate 16 Absent }

-- another entry for a type; a type that no entry is for leaves them as they are
abbrev pub with_entry : Entries → ℕ → Entry → Entries
with_entry es t e = record { list = cond (nat_le 48 t && nat_le t 63) (slice_set es.list (t - 48) e) es.list }

-- the slots are those of the event below
abbrev pub derived : Meaning → Entries → Meaning
derived m es = record {
  types = those (λ t. derives m.types t (entry_for es t));
  player = m.player;
  card = m.card;
  strokes = m.strokes;
}
