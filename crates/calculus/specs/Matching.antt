-- When an event matches a pattern: under chosen numbers, and under settled ones, which yields a binding of the others.
use Rattle.std.specs.Prelude.{◌≡◌, ℕ, ◌^◌, ◌<◌, Bool, true, cond, List, [], ◌∷◌, is_some, ◌==◌}
use Rattle.calculus.specs.Vocabulary.{Option, None, Some, Slot, Any, Constant, Variable, Pattern, Node, Empty, Prefix, Pair, Binder, Filter, Substitution, Meaning, has}
use Rattle.calculus.specs.Numbers.{Choice, lookup, or_else, assign, no_numbers}

-- numbers have 32 bits
abbrev pub Narrow : ℕ → Type 0
Narrow k = k < 2 ^ 32

-- what a slot holds, if anything, has 32 bits
abbrev pub NarrowSlot : Option ℕ → Type 0
NarrowSlot None = Unit {0}
NarrowSlot (Some k) = Narrow k

-- every slot that is filled holds a number of 32 bits
pub record Proper (e : Meaning) : Type 0 where
  pub player : NarrowSlot e.player
  pub card : NarrowSlot e.card
  pub strokes : NarrowSlot e.strokes

-- a slot is as a pattern asks: anything, filled with this number, or filled with the variable's number
abbrev pub Fits : Choice → Slot → Option ℕ → Type 0
Fits ρ Any o = Unit {0}
Fits ρ (Constant k) o = o ≡ Some k
Fits ρ (Variable v) o = o ≡ Some (ρ v)

-- an event matches a pattern under chosen numbers
pub record Matches (ρ : Choice) (p : Pattern) (e : Meaning) : Type 0 where
  pub type : has e.types p.ty ≡ true
  pub player : Fits ρ p.player e.player
  pub card : Fits ρ p.card e.card
  pub strokes : Fits ρ p.strokes e.strokes

-- a slot that holds j, where the variable has the number o: an equal number leaves the binding, a variable without one is bound
abbrev pub bind_variable : ℕ → Option ℕ → Substitution → Substitution → Option Substitution
bind_variable j None same more = Some more
bind_variable j (Some k) same more = cond (j == k) (Some same) None

-- match one slot under the numbers σ, where the slots before it gave the binding β
abbrev pub bind_slot : Substitution → Slot → Option ℕ → Substitution → Option Substitution
bind_slot σ Any o β = Some β
bind_slot σ (Constant k) None β = None
bind_slot σ (Constant k) (Some j) β = cond (j == k) (Some β) None
bind_slot σ (Variable v) None β = None
bind_slot σ (Variable v) (Some j) β = bind_variable j (or_else (lookup σ v) (lookup β v)) β (assign v j β)

-- go on with the binding so far, if there is one
abbrev pub and_then : Option Substitution → (Substitution → Option Substitution) → Option Substitution
and_then None f = None
and_then (Some β) f = f β

-- match an event under the numbers σ: the binding of the variables that σ leaves open, or none
abbrev pub bind : Substitution → Pattern → Meaning → Option Substitution
bind σ p e = cond (has e.types p.ty)
    (and_then (bind_slot σ p.player e.player no_numbers) (λ β. and_then (bind_slot σ p.card e.card β) (λ γ. bind_slot σ p.strokes e.strokes γ)))
    None

-- an event passes a filter: it matches the pattern, which has constants only
abbrev pub passes : Pattern → Meaning → Bool
passes p e = is_some (bind no_numbers p e)

-- an event passes the filter at a node; a node that is no filter lets every event pass
abbrev pub passes_at : Node → Meaning → Bool
passes_at Empty e = true
passes_at (Prefix p t) e = true
passes_at (Pair o a b) e = true
passes_at (Binder v c) e = true
passes_at (Filter p c) e = passes p e

-- the events that pass a test, in their order
abbrev pub select : (Meaning → Bool) → List Meaning → List Meaning
select f [] = []
select f (e ∷ es) = cond (f e) (e ∷ select f es) (select f es)

-- every event of a list is proper
abbrev pub AllProper : List Meaning → Type 0
AllProper [] = Unit {0}
AllProper (e ∷ es) = Proper e × AllProper es
