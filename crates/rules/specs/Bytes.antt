-- What the bytes of a rule say.
use Rattle.std.specs.Prelude.{◌≡◌, ℕ, zero, suc, ◌+◌, ◌-◌, ◌*◌, Bool, true, false, cond, ◌&&◌, List, [], ◌∷◌, ◌++◌, length, take, drop, is_some, Some, None, Ok, Err, Option, Result, nat_le}
use Rattle.rules.specs.declared.record.SlotField.{SlotField}
use Rattle.rules.specs.declared.record.NodeRecord.{NodeRecord}
use Rattle.rules.specs.declared.fault.ReadFault.{ReadFault}
use Rattle.rules.specs.declared.fault.ReadFault.TheVariants.{EndsEarly, BadCount, BadLayout, Surplus, ListTooShort}
use Rattle.refusals.specs.Options.{on}
use Rattle.rules.specs.Map.{is_set}
use Rattle.rules.specs.Layout.{most_nodes, decoded}

-- a number of four bytes, the highest first
abbrev pub number4 : ℕ → ℕ → ℕ → ℕ → ℕ
number4 a b c d = ((a * 256 + b) * 256 + c) * 256 + d

-- so many bytes, and what follows them
abbrev pub part_of : ℕ → List ℕ → Option (List ℕ × List ℕ)
part_of n xs = cond (nat_le n (length xs)) (Some (take n xs, drop n xs)) None

-- what is taken off the front of some bytes, if they reach that far, and what follows it
abbrev pub Takes : {X : Type 0} → Option (X × List ℕ) → Option X → List ℕ → Type 0
Takes o None rest = o ≡ None
Takes o (Some x) rest = o ≡ Some (x, rest)

-- a field of one byte, if it is announced, and what follows it; else 0
abbrev pub byte_of : Bool → List ℕ → Option (ℕ × List ℕ)
byte_of false xs = Some (0, xs)
byte_of true [] = None
byte_of true (a ∷ xs) = Some (a, xs)

-- a slot's five bytes
abbrev pub field_of : Bool → List ℕ → Option (SlotField × List ℕ)
field_of false xs = Some (record { tag = 0; number = 0 }, xs)
field_of true [] = None
field_of true (t ∷ []) = None
field_of true (t ∷ a ∷ []) = None
field_of true (t ∷ a ∷ b ∷ []) = None
field_of true (t ∷ a ∷ b ∷ c ∷ []) = None
field_of true (t ∷ a ∷ b ∷ c ∷ d ∷ xs) = Some (record { tag = t; number = number4 a b c d }, xs)

-- the fields that a map announces, from bit 0 up
abbrev pub fields_of : ℕ → List ℕ → Option (NodeRecord × List ℕ)
fields_of m xs =
    on (byte_of (is_set m 1) xs) (λ k.
    on (byte_of (is_set m 2) k.1) (λ f.
    on (byte_of (is_set m 4) f.1) (λ s.
    on (byte_of (is_set m 8) s.1) (λ t.
    on (byte_of (is_set m 16) t.1) (λ v.
    on (field_of (is_set m 32) v.1) (λ p.
    on (field_of (is_set m 64) p.1) (λ c.
    on (field_of (is_set m 128) c.1) (λ e.
    Some (record { map = m; kind = k.0; first = f.0; second = s.0; ty = t.0; variable = v.0; player = p.0; card = c.0; strokes = e.0 }, e.1)))))))))

-- a map and its fields
abbrev pub record_of : List ℕ → Option (NodeRecord × List ℕ)
record_of [] = None
record_of (m ∷ xs) = fields_of m xs

-- one node of a rule of n nodes, of all bytes together; the place of its map is told from what is left
abbrev pub laid : ℕ → ℕ → ℕ → Option (NodeRecord × List ℕ) → Result (NodeRecord × List ℕ) ReadFault
laid all n left None = Err (EndsEarly all)
laid all n left (Some p) = cond (is_some (decoded n p.0)) (Ok p) (Err (BadLayout (all - left)))

-- one node: the bytes are counted first, and then its line of the layout is looked at
abbrev pub node_of : ℕ → ℕ → List ℕ → Result (NodeRecord × List ℕ) ReadFault
node_of all n xs = laid all n (length xs) (record_of xs)

-- records before those that follow, unless these are refused
abbrev pub before : List NodeRecord → Result (List NodeRecord) ReadFault → Result (List NodeRecord) ReadFault
before rs (Err e) = Err e
before rs (Ok qs) = Ok (rs ++ qs)

-- after the last node: nothing
abbrev pub ending : ℕ → List ℕ → Result (List NodeRecord) ReadFault
ending all [] = Ok []
ending all (x ∷ xs) = Err (Surplus (record { at = all - length (x ∷ xs); len = length (x ∷ xs) }))

-- go on after a node
abbrev pub then : Result (NodeRecord × List ℕ) ReadFault → (List ℕ → Result (List NodeRecord) ReadFault) → Result (List NodeRecord) ReadFault
then (Err e) f = Err e
then (Ok p) f = before (p.0 ∷ []) (f p.1)

-- so many nodes and then nothing
unfoldable pub nodes_of : ℕ → ℕ → ℕ → List ℕ → Result (List NodeRecord) ReadFault
nodes_of all n zero xs = ending all xs
nodes_of all n (suc k) xs = then (node_of all n xs) (nodes_of all n k)

-- all the bytes: the count and the records
abbrev pub rule_of : List ℕ → Result (List NodeRecord) ReadFault
rule_of [] = Err (EndsEarly 0)
rule_of (n ∷ xs) = cond (nat_le 1 n && nat_le n most_nodes) (nodes_of (length (n ∷ xs)) n n xs) (Err BadCount)

-- what reading answers, and what the list holds then
abbrev pub answered : Result (List NodeRecord) ReadFault → List NodeRecord → Result ℕ ReadFault
answered (Err e) old = Err e
answered (Ok rs) old = cond (nat_le (length rs) (length old)) (Ok (length rs)) (Err ListTooShort)

-- the records at the front, and what the list held after them; after a refusal all that it held
abbrev pub written : Result (List NodeRecord) ReadFault → List NodeRecord → List NodeRecord
written (Err e) old = old
written (Ok rs) old = cond (nat_le (length rs) (length old)) (rs ++ drop (length rs) old) old

-- only whether
abbrev pub checked : Result (List NodeRecord) ReadFault → Result (Unit {0}) ReadFault
checked (Err e) = Err e
checked (Ok rs) = Ok tt
