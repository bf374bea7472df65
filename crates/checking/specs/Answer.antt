-- What checking answers, as it can be computed. `Meaning` says the same in the words of paths, weights and least sets.
use Rattle.std.specs.Prelude.{ℕ, zero, suc, ◌+◌, Bool, cond, not, ◌&&◌, ◌||◌, List, [], ◌∷◌, length, is_some, Some, None, Ok, Err, Option, Result, nat_le, nat_lt}
use Rattle.rules.specs.declared.record.NodeRecord.{NodeRecord}
use Rattle.rules.specs.declared.node.Var.{Var}
use Rattle.rules.specs.declared.node.Var.TheVariants.{V0, V1, V2, V3}
use Rattle.rules.specs.declared.node.Node.{Node}
use Rattle.rules.specs.Layout.{most_nodes}
use Rattle.checking.specs.declared.links.Links.TheVariants.{Unguarded, Free}
use Rattle.checking.specs.declared.fault.CheckFault.{CheckFault}
use Rattle.checking.specs.declared.fault.CheckFault.TheVariants.{BadCount, BadLayout, Loop, TooHeavy, FreeAtStart}
use Rattle.checking.specs.Sets.{count, any_below}
use Rattle.checking.specs.Nodes.{found, node_at}
use Rattle.checking.specs.Links.{targets, links, names}
use Rattle.checking.specs.Paths.{reach}
use Rattle.checking.specs.Weights.{most_weight}

-- the lowest of k numbers from i on that passes a test
unfoldable pub first : (ℕ → Bool) → ℕ → ℕ → Option ℕ
first f i zero = None
first f i (suc k) = cond (f i) (Some i) (first f (suc i) k)

-- record k breaks a line of the layout
abbrev pub misplaced : List NodeRecord → ℕ → Bool
misplaced rs k = not (is_some (found rs k))

-- a path of unguarded links leads from n to n
unfoldable pub on_loop : (ℕ → Node) → ℕ → Bool
on_loop g n = reach (links Unguarded g) most_nodes n n

-- the weight, to some depth; where there is no loop a depth of 128 is enough below a node
unfoldable pub weights : (ℕ → Node) → ℕ → List ℕ → ℕ
weights g zero ns = 0
weights g (suc d) [] = 0
weights g (suc d) (n ∷ ns) = suc (weights g d (targets Unguarded (g n))) + weights g (suc d) ns

-- over the most that a node may weigh
unfoldable pub heavy : (ℕ → Node) → ℕ → Bool
heavy g n = nat_lt most_weight (suc (weights g most_nodes (targets Unguarded (g n))))

-- how many nodes paths of unguarded links lead to
unfoldable pub rank : (ℕ → Node) → ℕ → ℕ
rank g n = count (reach (links Unguarded g) most_nodes n) most_nodes

-- v is free in n: its pattern names it, or that of a node that links which do not bind v lead to
unfoldable pub free : (ℕ → Node) → Var → ℕ → Bool
free g v n = names v (g n) || any_below (λ m. reach (links (Free v) g) most_nodes n m && names v (g m)) most_nodes

-- a variable is free in node 0
abbrev pub is_free_at_start : (ℕ → Node) → Bool
is_free_at_start g = free g V0 0 || (free g V1 0 || (free g V2 0 || free g V3 0))

-- refuse at the number found, if any
abbrev pub refusing : Option ℕ → (ℕ → CheckFault) → Result (Unit {0}) CheckFault → Result (Unit {0}) CheckFault
refusing (Some n) f r = Err (f n)
refusing None f r = r

-- nodes past the end are empty, so that looking at all 128 finds the same
abbrev pub assessed : (ℕ → Node) → Result (Unit {0}) CheckFault
assessed g =
    refusing (first (on_loop g) 0 most_nodes) Loop
    (refusing (first (heavy g) 0 most_nodes) TooHeavy
    (cond (is_free_at_start g) (Err FreeAtStart) (Ok tt)))

-- the count, then the layout, then the nodes
abbrev pub answer_of : List NodeRecord → Result (Unit {0}) CheckFault
answer_of rs = cond (nat_le 1 (length rs) && nat_le (length rs) most_nodes) (refusing (first (misplaced rs) 0 (length rs)) BadLayout (assessed (node_at rs))) (Err BadCount)
