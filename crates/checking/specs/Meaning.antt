-- What checking's answers mean, in the words of paths, weights and least sets.
use Rattle.std.specs.Prelude.{◌≡◌, ℕ, ◌<◌, ◌≤◌, true, List, [], ◌∷◌, length, None, Ok, Err, Result}
use Rattle.rules.specs.declared.record.NodeRecord.{NodeRecord}
use Rattle.rules.specs.declared.node.Var.{Var}
use Rattle.rules.specs.declared.node.Node.{Node}
use Rattle.rules.specs.Layout.{most_nodes}
use Rattle.checking.specs.declared.links.Links.TheVariants.{Unguarded, Free}
use Rattle.checking.specs.declared.fault.CheckFault.{CheckFault}
use Rattle.checking.specs.declared.fault.CheckFault.TheVariants.{BadCount, BadLayout, Loop, TooHeavy, FreeAtStart}
use Rattle.checking.specs.Links.{links, names}
use Rattle.checking.specs.Paths.{Path}
use Rattle.checking.specs.Weights.{most_weight, Weigh}
use Rattle.checking.specs.Nodes.{found, node_at}

-- n has the property, and nothing below it does
abbrev pub Lowest : (ℕ → Type 0) → ℕ → Type 0
Lowest P n = P n × ((m : ℕ) → m < n → P m → ⊥)

-- the least sets: what a pattern names is free, and it goes up along links that do not bind it
pub data FreeIn (g : ℕ → Node) (v : Var) : ℕ → Type 0 where
  here : {n : ℕ} → names v (g n) ≡ true → FreeIn g v n
  up : {n c : ℕ} → links (Free v) g n c ≡ true → FreeIn g v c → FreeIn g v n

-- a path of one or more unguarded links leads from n to n
abbrev pub Looping : (ℕ → Node) → ℕ → Type 0
Looping g n = Path (links Unguarded g) n n

-- n weighs too much
abbrev pub Over : (ℕ → Node) → ℕ → Type 0
Over g n = (w : ℕ) × (Weigh g (n ∷ []) w × (most_weight < w))

abbrev pub Counted : List NodeRecord → Type 0
Counted rs = (1 ≤ length rs) × (length rs ≤ most_nodes)

abbrev pub Never : (ℕ → Type 0) → Type 0
Never P = (n : ℕ) → P n → ⊥

-- record k breaks a line of the layout
abbrev pub Broken : List NodeRecord → ℕ → Type 0
Broken rs k = found rs k ≡ None

-- the answer that fits a list: the first of the five conditions that holds, at the lowest node; or none holds
pub data Says (rs : List NodeRecord) : Result (Unit {0}) CheckFault → Type 0 where
  bad_count : (Counted rs → ⊥) → Says rs (Err BadCount)
  bad_layout : {k : ℕ} → Counted rs → Lowest (Broken rs) k → Says rs (Err (BadLayout k))
  loop : {n : ℕ} → Counted rs → Never (Broken rs) → Lowest (Looping (node_at rs)) n → Says rs (Err (Loop n))
  too_heavy : {n : ℕ} → Counted rs → Never (Broken rs) → Never (Looping (node_at rs)) → Lowest (Over (node_at rs)) n → Says rs (Err (TooHeavy n))
  free_at_start : {v : Var} → Counted rs → Never (Broken rs) → Never (Looping (node_at rs)) → Never (Over (node_at rs)) → FreeIn (node_at rs) v 0 → Says rs (Err FreeAtStart)
  fine : Counted rs → Never (Broken rs) → Never (Looping (node_at rs)) → Never (Over (node_at rs)) → ((v : Var) → FreeIn (node_at rs) v 0 → ⊥) → Says rs (Ok tt)

-- no other answer fits
abbrev pub Alone : List NodeRecord → Result (Unit {0}) CheckFault → Type 0
Alone rs r = (q : Result (Unit {0}) CheckFault) → Says rs q → r ≡ q
