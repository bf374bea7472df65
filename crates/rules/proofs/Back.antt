use Rattle.std.proofs.Common.{◌≡◌, ℕ, ◌/◌, ◌%◌, Bool, true, false, List, [], ◌∷◌, map, length, is_some, Some, Ok, refl, ap, ◌∙◌, arith}
use Rattle.std.proofs.lemmas.Bool.{le-leb, and_parts}
use Rattle.rules.specs.declared.record.SlotField.{SlotField}
use Rattle.rules.specs.declared.record.NodeRecord.{NodeRecord}
use Rattle.rules.specs.Map.{is_set}
use Rattle.rules.specs.Layout.{decoded}
use Rattle.rules.specs.Bytes.{byte_of, field_of, record_of, number4, node_of, nodes_of, rule_of, laid}
use Rattle.rules.specs.Writing.{byte_if, field_if, encoded, kept, kept_field, cleaned, encoded_all, all_laid, Laid, encoded_rule}

byte_back : (b : Bool) (x : ℕ) (xs : List ℕ) → byte_of b (byte_if b x xs) ≡ Some (kept b x, xs)
byte_back true x xs = refl
byte_back false x xs = refl

quad : (n : ℕ) → number4 (n / 16777216) (n / 65536 % 256) (n / 256 % 256) (n % 256) ≡ n
quad n = omega arith

field_back : (b : Bool) (f : SlotField) (xs : List ℕ) → field_of b (field_if b f xs) ≡ Some (kept_field b f, xs)
field_back true f xs = ap (λ (n : ℕ). Some (record { tag = f.tag; number = n }, xs)) (quad f.number)
field_back false f xs = refl

record_back : (r : NodeRecord) (xs : List ℕ) → record_of (encoded r xs) ≡ Some (cleaned r, xs)
record_back r xs =
    rw (
      byte_back (is_set r.map 1) r.kind _,
      byte_back (is_set r.map 2) r.first _,
      byte_back (is_set r.map 4) r.second _,
      byte_back (is_set r.map 8) r.ty _,
      byte_back (is_set r.map 16) r.variable _,
      field_back (is_set r.map 32) r.player _,
      field_back (is_set r.map 64) r.card _,
      field_back (is_set r.map 128) r.strokes _,
    )

module _ (all n : ℕ) where
  node_back : (r : NodeRecord) (xs : List ℕ) → is_some (decoded n (cleaned r)) ≡ true → node_of all n (encoded r xs) ≡ Ok (cleaned r, xs)
  node_back r xs h = ap (laid all n (length (encoded r xs))) (record_back r xs) ∙ rw h

  nodes_back : (rs : List NodeRecord) → all_laid n rs ≡ true → nodes_of all n (length rs) (encoded_all rs) ≡ Ok (map cleaned rs)
  unfolding nodes_of encoded_all all_laid
  nodes_back [] h = refl
  nodes_back (r ∷ rs) h =
      let q = and_parts (is_some (decoded n (cleaned r))) (all_laid n rs) h in
      rw (node_back r (encoded_all rs) q.0, nodes_back rs q.1)

-- what is written well is read
pub reads_back : (rs : List NodeRecord) → Laid rs → rule_of (encoded_rule rs) ≡ Ok (map cleaned rs)
reads_back rs h = rw (le-leb 1 (length rs) h.some, le-leb (length rs) 128 h.most) (nodes_back _ (length rs) rs h.lines)
