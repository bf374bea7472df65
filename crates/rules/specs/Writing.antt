-- The bytes that a list of records stands for, and how reading gives the records back.
use Rattle.std.specs.Prelude.{◌≡◌, ℕ, ◌/◌, ◌%◌, ◌≤◌, Bool, true, false, ◌&&◌, List, [], ◌∷◌, ◌++◌, map, length, take, drop, is_some, Ok, Result}
use Rattle.rules.specs.declared.record.SlotField.{SlotField}
use Rattle.rules.specs.declared.record.NodeRecord.{NodeRecord}
use Rattle.rules.specs.declared.fault.ReadFault.{ReadFault}
use Rattle.rules.specs.Map.{is_set}
use Rattle.rules.specs.Layout.{most_nodes, decoded}

-- a field before what follows, if its bit is set
abbrev pub byte_if : Bool → ℕ → List ℕ → List ℕ
byte_if true x xs = x ∷ xs
byte_if false x xs = xs

abbrev pub field_if : Bool → SlotField → List ℕ → List ℕ
field_if true f xs = f.tag ∷ f.number / 16777216 ∷ f.number / 65536 % 256 ∷ f.number / 256 % 256 ∷ f.number % 256 ∷ xs
field_if false f xs = xs

abbrev pub encoded : NodeRecord → List ℕ → List ℕ
encoded r xs =
    r.map ∷ byte_if (is_set r.map 1) r.kind (byte_if (is_set r.map 2) r.first (byte_if (is_set r.map 4) r.second
    (byte_if (is_set r.map 8) r.ty (byte_if (is_set r.map 16) r.variable
    (field_if (is_set r.map 32) r.player (field_if (is_set r.map 64) r.card (field_if (is_set r.map 128) r.strokes xs)))))))

-- a field whose bit is not set is 0
abbrev pub kept : Bool → ℕ → ℕ
kept true x = x
kept false x = 0

abbrev pub kept_field : Bool → SlotField → SlotField
kept_field true f = f
kept_field false f = record { tag = 0; number = 0 }

abbrev pub cleaned : NodeRecord → NodeRecord
cleaned r = record {
  map = r.map;
  kind = kept (is_set r.map 1) r.kind;
  first = kept (is_set r.map 2) r.first;
  second = kept (is_set r.map 4) r.second;
  ty = kept (is_set r.map 8) r.ty;
  variable = kept (is_set r.map 16) r.variable;
  player = kept_field (is_set r.map 32) r.player;
  card = kept_field (is_set r.map 64) r.card;
  strokes = kept_field (is_set r.map 128) r.strokes;
}

unfoldable pub encoded_all : List NodeRecord → List ℕ
encoded_all [] = []
encoded_all (r ∷ rs) = encoded r (encoded_all rs)

unfoldable pub all_laid : ℕ → List NodeRecord → Bool
all_laid n [] = true
all_laid n (r ∷ rs) = is_some (decoded n (cleaned r)) && all_laid n rs

-- the bytes of a rule: the count, then the records
abbrev pub encoded_rule : List NodeRecord → List ℕ
encoded_rule rs = length rs ∷ encoded_all rs

-- 1 to 128 records that keep to the layout
pub record Laid (rs : List NodeRecord) : Type 0 where
  pub some : 1 ≤ length rs
  pub most : length rs ≤ most_nodes
  pub lines : all_laid (length rs) rs ≡ true

-- What reading does with bytes xs and a list that held old: what is written well is read back, and nothing else is read.
pub record Decodes (xs : List ℕ) (old : List NodeRecord) (r : Result ℕ ReadFault) (new : List NodeRecord) : Type 0 where
  pub back : (rs : List NodeRecord) → Laid rs → xs ≡ encoded_rule rs → length rs ≤ length old → (r ≡ Ok (length rs)) × (new ≡ map cleaned rs ++ drop (length rs) old)
  pub only : (n : ℕ) → r ≡ Ok n → xs ≡ encoded_rule (take n new)
