-- Worked plays, as one table: rules, events shown to them, and what comes of it.
use Rattle.std.specs.Prelude.{◌≡◌, ℕ, ◌+◌, List, [], ◌∷◌, map, length, Ok, Err, Result}
use Rattle.rules.specs.declared.record.SlotField.{SlotField}
use Rattle.rules.specs.declared.record.NodeRecord.{NodeRecord}
use Rattle.rules.specs.Vars.{index_of}
use Rattle.checking.specs.declared.fault.CheckFault.{CheckFault}
use Rattle.checking.specs.declared.fault.CheckFault.TheVariants.{Loop, TooHeavy}
use Rattle.checking.specs.Weights.{Weigh}
use Rattle.checking.specs.Nodes.{node_at}
use Rattle.checking.specs.Answer.{answer_of}
use Rattle.checking.specs.Made.{Made}
use Rattle.events.specs.Meanings.{single}
use Rattle.calculus.specs.Vocabulary.{Option, None, Some, V0, Slot, Any, Constant, Variable, Pattern, Op, Or, And, Concat, Shuffle, Node, Empty, Prefix, Pair, Binder, Filter, Rule, Meaning}
use Rattle.calculus.specs.Numbers.{Choice}
use Rattle.calculus.specs.Graphs.{graph_of}
use Rattle.calculus.specs.Reading.{whole, beginning, Permits}
use Rattle.calculus.specs.Runs.{Verdict, Broken, MayEnd, Open, begin, run, verdict}
use Rattle.calculus.specs.Theorems.{Greatest}

-- the field that a slot of a pattern takes in a record
abbrev pub field_of : Slot → SlotField
field_of Any = record { tag = 0; number = 0 }
field_of (Constant k) = record { tag = 0; number = k }
field_of (Variable v) = record { tag = 1; number = index_of v }

-- what a slot that asks for something adds to the map
abbrev pub bit_of : ℕ → Slot → ℕ
bit_of b Any = 0
bit_of b (Constant k) = b
bit_of b (Variable v) = b

-- the record of a node with a pattern
abbrev pub patterned : ℕ → Pattern → ℕ → NodeRecord
patterned kind p c = record {
  map = 11 + (bit_of 32 p.player + (bit_of 64 p.card + bit_of 128 p.strokes));
  kind = kind;
  first = c;
  second = 0;
  ty = p.ty;
  variable = 0;
  player = field_of p.player;
  card = field_of p.card;
  strokes = field_of p.strokes;
}

-- the record of any other node
abbrev pub plain : ℕ → ℕ → ℕ → ℕ → ℕ → NodeRecord
plain map kind a b v = record {
  map = map;
  kind = kind;
  first = a;
  second = b;
  ty = 0;
  variable = v;
  player = field_of Any;
  card = field_of Any;
  strokes = field_of Any;
}

-- the number of an operator's kind
abbrev pub kind_of : Op → ℕ
kind_of Concat = 2
kind_of And = 3
kind_of Or = 4
kind_of Shuffle = 5

-- a node as a record, for checking to look at
abbrev pub record_of : Node → NodeRecord
record_of Empty = plain 0 0 0 0 0
record_of (Prefix p t) = patterned 1 p t
record_of (Pair o a b) = plain 7 (kind_of o) a b 0
record_of (Binder v c) = plain 19 6 c 0 (index_of v)
record_of (Filter p c) = patterned 7 p c

-- what the reading says where a run has this verdict
abbrev pub Reads : (ℕ → Node) → Choice → List Meaning → Verdict → Type 0
Reads g ρ es Broken = Permits g beginning (g 0) ρ es → ⊥
Reads g ρ es MayEnd = Permits g whole (g 0) ρ es
Reads g ρ es Open = Permits g beginning (g 0) ρ es × (Permits g whole (g 0) ρ es → ⊥)

-- a run of a checked rule over es comes to n events taken and this verdict, and so does the reading
pub record Comes (r : Rule) (es : List Meaning) (n : ℕ) (w : Verdict) : Type 0 where
  pub shown : (run (graph_of r) es begin).shown ≡ length es
  pub taken : (run (graph_of r) es begin).taken ≡ n
  pub judged : verdict (graph_of r) (run (graph_of r) es begin) ≡ w
  pub greatest : (ρ : Choice) → Greatest (graph_of r).node ρ es n
  pub reads : (ρ : Choice) → Reads (graph_of r).node ρ es w

-- a row of the table
pub data Row : Type 0 where
  -- checking accepts the nodes; of the events so many are taken, and then the verdict is this
  play : List Node → List Meaning → ℕ → Verdict → Row
  -- checking answers this
  answers : List Node → Result (Unit {0}) CheckFault → Row
  -- node 0 weighs so much
  weighs : List Node → ℕ → Row

-- what a row says
abbrev pub Holds : Row → Type 0
Holds (play ns es n w) = (answer_of (map record_of ns) ≡ Ok tt) × ((r : Rule) → Made (map record_of ns) r → Comes r es n w)
Holds (answers ns a) = answer_of (map record_of ns) ≡ a
Holds (weighs ns w) = Weigh (node_at (map record_of ns)) (0 ∷ []) w

infixr 20 ◌▸◌
-- every row of a table holds
pub data AllHold : List Row → Type 0 where
  done : AllHold []
  ◌▸◌ : {x : Row} {xs : List Row} → Holds x → AllHold xs → AllHold (x ∷ xs)

-- an event of one type, with these in player and card
abbrev pub event : ℕ → Option ℕ → Option ℕ → Meaning
event t p c = single (record { ty = t; player = p; card = c; strokes = None })

-- an event with a card
abbrev pub carded : ℕ → ℕ → Meaning
carded t c = event t None (Some c)

-- a pattern that asks for a type only
abbrev pub typed : ℕ → Pattern
typed t = record { ty = t; player = Any; card = Any; strokes = Any }

-- a pattern that asks for a type and something of the card
abbrev pub with_card : ℕ → Slot → Pattern
with_card t s = record { ty = t; player = Any; card = s; strokes = Any }

-- a pattern that asks for a type and something of the player
abbrev pub with_player : ℕ → Slot → Pattern
with_player t s = record { ty = t; player = s; card = Any; strokes = Any }

-- the card rule: cards may be entered at any time, and each then goes its three steps in order, beside the others
abbrev pub card_rule : List Node
card_rule =
    Pair Or 1 2 ∷ Empty ∷ Binder V0 3 ∷ Prefix (with_card 1 (Variable V0)) 4 ∷ Pair Shuffle 0 5 ∷
    Prefix (with_card 2 (Variable V0)) 6 ∷ Prefix (with_card 3 (Variable V0)) 7 ∷ Prefix (with_card 4 (Variable V0)) 1 ∷ []

-- (a or nothing) followed by (a then b, or nothing), where a is type 1 and b is type 2
abbrev pub optional : List Node
optional =
    Pair Concat 1 4 ∷ Pair Or 2 3 ∷ Prefix (typed 1) 3 ∷ Empty ∷ Pair Or 5 3 ∷ Prefix (typed 1) 6 ∷ Prefix (typed 2) 3 ∷ []

-- type 1 and then type 2, or type 1 and then type 3
abbrev pub choice : List Node
choice = Pair Or 1 3 ∷ Prefix (typed 1) 2 ∷ Prefix (typed 2) 5 ∷ Prefix (typed 1) 4 ∷ Prefix (typed 3) 5 ∷ Empty ∷ []

-- type 1 followed by type 2
abbrev pub sequence : List Node
sequence = Pair Concat 1 2 ∷ Prefix (typed 1) 3 ∷ Prefix (typed 2) 3 ∷ Empty ∷ []

-- card and player of one event are the same number
abbrev pub same_number_twice : List Node
same_number_twice =
    Binder V0 1 ∷ Pair And 2 3 ∷ Prefix (with_card 1 (Variable V0)) 4 ∷ Prefix (with_player 1 (Variable V0)) 4 ∷ Empty ∷ []

-- of the events of type 2 there is just one, with card 7
abbrev pub filtered_rule : List Node
filtered_rule = Filter (typed 2) 1 ∷ Prefix (with_card 2 (Constant 7)) 2 ∷ Empty ∷ []

-- type 1 and type 2, in either order, with one card
abbrev pub beside : List Node
beside =
    Binder V0 1 ∷ Pair Shuffle 2 3 ∷ Prefix (with_card 1 (Variable V0)) 4 ∷ Prefix (with_card 2 (Variable V0)) 4 ∷ Empty ∷ []

-- type 1 with a card and then type 2; and at once type 1 and then type 2 with a card, which another binder for the same variable binds
abbrev pub inner_binder : List Node
inner_binder =
    Binder V0 1 ∷ Pair And 2 4 ∷ Prefix (with_card 1 (Variable V0)) 3 ∷ Prefix (typed 2) 7 ∷
    Binder V0 5 ∷ Prefix (typed 1) 6 ∷ Prefix (with_card 2 (Variable V0)) 7 ∷ Empty ∷ []

-- eight ors, each over the next node twice, and an empty node
abbrev pub eight_ors : List Node
eight_ors = Pair Or 1 1 ∷ Pair Or 2 2 ∷ Pair Or 3 3 ∷ Pair Or 4 4 ∷ Pair Or 5 5 ∷ Pair Or 6 6 ∷ Pair Or 7 7 ∷ Pair Or 8 8 ∷ Empty ∷ []

-- nine such ors
abbrev pub nine_ors : List Node
nine_ors = Pair Or 1 1 ∷ Pair Or 2 2 ∷ Pair Or 3 3 ∷ Pair Or 4 4 ∷ Pair Or 5 5 ∷ Pair Or 6 6 ∷ Pair Or 7 7 ∷ Pair Or 8 8 ∷ Pair Or 9 9 ∷ Empty ∷ []

-- the table
abbrev pub plays : List Row
plays =
    -- the card rule: no events; one card entered; its three steps; a step left out; two cards, one of which skips a step
    play card_rule [] 0 MayEnd ∷
    play card_rule (carded 1 7 ∷ []) 1 Open ∷
    play card_rule (carded 1 7 ∷ carded 2 7 ∷ carded 3 7 ∷ carded 4 7 ∷ []) 4 MayEnd ∷
    play card_rule (carded 1 7 ∷ carded 3 7 ∷ []) 1 Broken ∷
    play card_rule (carded 1 7 ∷ carded 1 9 ∷ carded 2 9 ∷ carded 2 7 ∷ carded 3 7 ∷ carded 4 9 ∷ []) 5 Broken ∷
    -- a concatenation whose first part may end goes on with the second, and keeps both ways
    play optional (event 1 None None ∷ event 2 None None ∷ []) 2 MayEnd ∷
    play optional (event 2 None None ∷ []) 0 Broken ∷
    -- both sides of an or are tried; a first part that may not end is not left
    play choice (event 1 None None ∷ event 3 None None ∷ []) 2 MayEnd ∷
    play sequence (event 1 None None ∷ event 2 None None ∷ []) 2 MayEnd ∷
    play sequence (event 2 None None ∷ []) 0 Broken ∷
    -- one number in two slots
    play same_number_twice (event 1 (Some 7) (Some 7) ∷ []) 1 MayEnd ∷
    play same_number_twice (event 1 (Some 7) (Some 8) ∷ []) 0 Broken ∷
    -- a filter, and a further event that breaks it
    play filtered_rule (carded 1 7 ∷ carded 2 7 ∷ carded 1 9 ∷ []) 3 MayEnd ∷
    play filtered_rule (carded 1 7 ∷ carded 2 7 ∷ carded 1 9 ∷ carded 2 7 ∷ []) 3 Broken ∷
    -- settling reaches the expression beside, on either side, and stops at an inner binder for the same variable
    play beside (carded 1 7 ∷ carded 2 7 ∷ []) 2 MayEnd ∷
    play beside (carded 1 7 ∷ carded 2 8 ∷ []) 1 Broken ∷
    play beside (carded 2 7 ∷ carded 1 8 ∷ []) 1 Broken ∷
    play inner_binder (carded 1 7 ∷ carded 2 9 ∷ []) 2 MayEnd ∷
    -- a loop; a weight that is allowed, and one that is not
    answers (Pair Or 0 0 ∷ []) (Err (Loop 0)) ∷
    weighs eight_ors 511 ∷
    answers eight_ors (Ok tt) ∷
    weighs nine_ors 1023 ∷
    answers nine_ors (Err (TooHeavy 0)) ∷
    []

-- the theorem that covers the table
abbrev pub PlaysHold : Type 0
PlaysHold = AllHold plays
