-- Tests for equal numbers, operators, states and outcomes.
use Rattle.std.specs.Prelude.{ℕ, Bool, true, false, ◌&&◌, ◌==◌}
use Rattle.calculus.specs.Vocabulary.{And, Concat, None, Op, Option, Or, same, Shuffle, Some, Substitution}
use Rattle.calculus.specs.States.{binder, filter, leaf, pair, State}
use Rattle.calculus.specs.Steps.{Outcome}

-- two numbers are equal, or both are missing
abbrev pub same_number : Option ℕ → Option ℕ → Bool
same_number None None = true
same_number None (Some k) = false
same_number (Some j) None = false
same_number (Some j) (Some k) = j == k

-- two substitutions are equal
abbrev pub same_numbers : Substitution → Substitution → Bool
same_numbers σ τ =
    same_number σ.v0 τ.v0 && (same_number σ.v1 τ.v1 && (same_number σ.v2 τ.v2 && same_number σ.v3 τ.v3))

-- two operators are equal
abbrev pub same_op : Op → Op → Bool
same_op Or Or = true
same_op Or And = false
same_op Or Concat = false
same_op Or Shuffle = false
same_op And Or = false
same_op And And = true
same_op And Concat = false
same_op And Shuffle = false
same_op Concat Or = false
same_op Concat And = false
same_op Concat Concat = true
same_op Concat Shuffle = false
same_op Shuffle Or = false
same_op Shuffle And = false
same_op Shuffle Concat = false
same_op Shuffle Shuffle = true

-- two states are equal
abbrev pub same_state : State → State → Bool
same_state (leaf n σ) (leaf k τ) = n == k && same_numbers σ τ
same_state (leaf n σ) (pair o l r) = false
same_state (leaf n σ) (binder v t) = false
same_state (leaf n σ) (filter k t) = false
same_state (pair o l r) (leaf k τ) = false
same_state (pair o l r) (pair p t u) = same_op o p && (same_state l t && same_state r u)
same_state (pair o l r) (binder v t) = false
same_state (pair o l r) (filter k t) = false
same_state (binder w s) (leaf k τ) = false
same_state (binder w s) (pair p t u) = false
same_state (binder w s) (binder v t) = same w v && same_state s t
same_state (binder w s) (filter k t) = false
same_state (filter n s) (leaf k τ) = false
same_state (filter n s) (pair p t u) = false
same_state (filter n s) (binder v t) = false
same_state (filter n s) (filter k t) = n == k && same_state s t

-- two outcomes are equal, as state and binding
abbrev pub same_outcome : Outcome → Outcome → Bool
same_outcome x y = same_state x.0 y.0 && same_numbers x.1 y.1
