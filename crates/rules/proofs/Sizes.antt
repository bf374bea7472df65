-- The bytes of a node are as many as its map says.
use Rattle.std.proofs.Common.{◌≡◌, ℕ, ◌+◌, ◌*◌, ◌≤◌, Bool, true, false, zero, suc, drop, slice_get, List, [], ◌∷◌, length, take, sym, refl, ap, ◌∙◌, arith}
use Rattle.std.proofs.lemmas.List.Sums.{sum_by-cons}
use Rattle.rules.specs.declared.record.SlotField.{SlotField}
use Rattle.rules.specs.declared.record.NodeRecord.{NodeRecord}
use Rattle.rules.specs.Map.{is_set, width_of}
use Rattle.rules.specs.Writing.{byte_if, field_if, encoded, encoded_all}
use Rattle.std.specs.Option.{option_map_or}
use Rattle.rules.specs.Spans.{size_of, sizes_of}

byte_length : (b : Bool) (x : ℕ) (xs : List ℕ) → length (byte_if b x xs) ≡ width_of b 1 + length xs
byte_length true x xs = omega arith
byte_length false x xs = omega arith

field_length : (b : Bool) (f : SlotField) (xs : List ℕ) → length (field_if b f xs) ≡ width_of b 5 + length xs
field_length true f xs = omega arith
field_length false f xs = omega arith

encoded_length : (r : NodeRecord) (xs : List ℕ) → length (encoded r xs) ≡ size_of r.map + length xs
unfolding size_of
encoded_length r xs = simp (byte_length, field_length) (omega arith)

-- the bytes of some nodes are those of each
pub lengths : (rs : List NodeRecord) → length (encoded_all rs) ≡ sizes_of rs
unfolding encoded_all
lengths [] = refl
lengths (r ∷ rs) = encoded_length r (encoded_all rs) ∙ (ap (λ (k : ℕ). size_of r.map + k) (lengths rs) ∙ sym (sum_by-cons (λ (q : NodeRecord). size_of q.map) r rs))

-- the bytes of node n, if there is one
pub one_length : (rs : List NodeRecord) (n : ℕ) → option_map_or (λ (r : NodeRecord). size_of r.map) (slice_get rs n) 0 ≡ length (encoded_all (take 1 (drop n rs)))
unfolding encoded_all
one_length [] zero = refl
one_length [] (suc n) = refl
one_length (r ∷ rs) zero = let e = encoded_length r [] in omega arith
one_length (r ∷ rs) (suc n) = one_length rs n

width_most : (b : Bool) (k : ℕ) → width_of b k ≤ k
width_most true k = omega arith
width_most false k = omega arith

pub size_most : (m : ℕ) → size_of m ≤ 21
unfolding size_of
size_most m =
    let a = width_most (is_set m 1) 1 in
    let b = width_most (is_set m 2) 1 in
    let c = width_most (is_set m 4) 1 in
    let d = width_most (is_set m 8) 1 in
    let e = width_most (is_set m 16) 1 in
    let f = width_most (is_set m 32) 5 in
    let g = width_most (is_set m 64) 5 in
    let h = width_most (is_set m 128) 5 in
    omega arith

pub sizes_most : (rs : List NodeRecord) → sizes_of rs ≤ 21 * length rs
sizes_most [] = omega arith
sizes_most (r ∷ rs) = let a = size_most r.map in let b = sizes_most rs in rw (sum_by-cons (λ (q : NodeRecord). size_of q.map) r rs) (omega arith)
