-- A run: the held states and two counts, event by event, and the verdict.
use Rattle.std.specs.Prelude.{ℕ, suc, Bool, true, false, cond, List, [], ◌∷◌, ◌==◌}
use Rattle.calculus.specs.Vocabulary.{Meaning}
use Rattle.calculus.specs.Graphs.{Graph}
use Rattle.calculus.specs.States.{State, may_end}
use Rattle.calculus.specs.Steps.{start}
use Rattle.calculus.specs.Outcomes.{after}
pub use Rattle.calculus.specs.declared.verdict.Verdict.{Verdict}
pub use Rattle.calculus.specs.declared.verdict.Verdict.TheVariants.{Broken, MayEnd, Open}

-- the held states, how many events were shown, and how many were taken
pub record Run : Type 0 where
  pub states : List State
  pub shown : ℕ
  pub taken : ℕ

-- before any event the start is held
abbrev pub begin : Run
begin = record { states = start ∷ []; shown = 0; taken = 0 }

-- one event more is shown; it is taken where there are states to hold next
abbrev pub move : List State → Run → Run
move [] M = record { states = []; shown = suc M.shown; taken = M.taken }
move (t ∷ ts) M = record { states = t ∷ ts; shown = suc M.shown; taken = suc M.taken }

-- a run shown one event more
abbrev pub show : Graph → Meaning → Run → Run
show G e M = move (after G e M.states) M

-- a run shown further events, in their order
abbrev pub run : Graph → List Meaning → Run → Run
run G [] M = M
run G (e ∷ es) M = run G es (show G e M)

-- one of the states may end
abbrev pub any_ends : Graph → List State → Bool
any_ends G [] = false
any_ends G (t ∷ ts) = cond (may_end G t) true (any_ends G ts)

-- broken where the counts differ; otherwise whether a held state may end
abbrev pub verdict : Graph → Run → Verdict
verdict G M = cond (M.shown == M.taken) (cond (any_ends G M.states) MayEnd Open) Broken
