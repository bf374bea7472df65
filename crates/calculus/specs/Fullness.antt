-- The executable mirror of full, for code to test.
use Rattle.std.specs.Prelude.{ℕ, zero, suc, Bool, false, ◌&&◌, ◌||◌, List, [], ◌∷◌, length, nat_lt}
use Rattle.calculus.specs.Vocabulary.{Binder, Empty, Filter, Meaning, Node, Pair, Prefix, Substitution}
use Rattle.calculus.specs.Numbers.{restrict, without}
use Rattle.calculus.specs.Matching.{passes, passes_at}
use Rattle.calculus.specs.Graphs.{Graph}
use Rattle.calculus.specs.States.{binder, cells, child, filter, leaf, may_end, pair, State}
use Rattle.calculus.specs.Steps.{Outcome}
use Rattle.calculus.specs.Visited.{visits_second}
use Rattle.calculus.specs.Outcomes.{after, outcomes}

-- an outcome of the list has over 64 cells
abbrev pub any_large : List Outcome → Bool
any_large [] = false
any_large (x ∷ xs) = nat_lt 64 (cells x.0) || any_large xs

-- over 16 outcomes, or one of over 64 cells
abbrev pub overflowing : List Outcome → Bool
overflowing xs = nat_lt 16 (length xs) || any_large xs

-- a visited part of a leaf overflows; the first number bounds the depth
abbrev pub node_full : Graph → Meaning → ℕ → ℕ → Substitution → Node → Bool
node_full G e zero n σ nd = false
node_full G e (suc f) n σ Empty = overflowing (outcomes G e (leaf n σ))
node_full G e (suc f) n σ (Prefix p t) = overflowing (outcomes G e (leaf n σ))
node_full G e (suc f) n σ (Pair o a b) =
    overflowing (outcomes G e (leaf n σ)) || (node_full G e f a (restrict (G.free a) σ) (G.node a) ||
    (visits_second o (may_end G (child G a σ)) && node_full G e f b (restrict (G.free b) σ) (G.node b)))
node_full G e (suc f) n σ (Binder v c) =
    overflowing (outcomes G e (leaf n σ)) || node_full G e f c (restrict (G.free c) (without v σ)) (G.node c)
node_full G e (suc f) n σ (Filter p c) =
    overflowing (outcomes G e (leaf n σ)) || (passes p e && node_full G e f c (restrict (G.free c) σ) (G.node c))

-- a visited part of a state overflows
abbrev pub full : Graph → Meaning → State → Bool
full G e (leaf n σ) = node_full G e (suc (G.rank n)) n σ (G.node n)
full G e (pair o l r) = overflowing (outcomes G e (pair o l r)) || (full G e l || (visits_second o (may_end G l) && full G e r))
full G e (binder v t) = overflowing (outcomes G e (binder v t)) || full G e t
full G e (filter n t) = overflowing (outcomes G e (filter n t)) || (passes_at (G.node n) e && full G e t)

-- one of the held states is so
abbrev pub any_full : Graph → Meaning → List State → Bool
any_full G e [] = false
any_full G e (t ∷ ts) = full G e t || any_full G e ts

-- showing e to these held states is refused
abbrev pub refuses : Graph → Meaning → List State → Bool
refuses G e ts = any_full G e ts || nat_lt 16 (length (after G e ts))
