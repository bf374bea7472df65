-- Numbers for variables: chosen for all of them, or settled for some.
use Rattle.std.specs.Prelude.{◌≡◌, ℕ, Bool, true, cond, ◌&&◌, ◌==◌}
pub use Rattle.rules.specs.ByVar.{tabulate}
use Rattle.rules.specs.ByVar.{at}
use Rattle.calculus.specs.Vocabulary.{Option, None, Some, Var, Substitution, same}

-- a number chosen for each variable
abbrev pub Choice : Type 0
Choice = Var → ℕ

-- the number that a substitution has for a variable, if any
abbrev pub lookup : Substitution → Var → Option ℕ
lookup = at

-- no variable has a number
abbrev pub no_numbers : Substitution
no_numbers = tabulate (λ v. None)

-- only the numbers of the variables that pass a test
abbrev pub restrict : (Var → Bool) → Substitution → Substitution
restrict f σ = tabulate (λ v. cond (f v) (lookup σ v) None)

-- all numbers but that of v
abbrev pub without : Var → Substitution → Substitution
without v σ = tabulate (λ w. cond (same v w) None (lookup σ w))

-- v has the number k, the others what they had
abbrev pub assign : Var → ℕ → Substitution → Substitution
assign v k σ = tabulate (λ w. cond (same v w) (Some k) (lookup σ w))

-- the first number, or else the second
abbrev pub or_else : Option ℕ → Option ℕ → Option ℕ
or_else None o = o
or_else (Some k) o = Some k

-- the numbers of both
abbrev pub union : Substitution → Substitution → Substitution
union β γ = tabulate (λ v. or_else (lookup β v) (lookup γ v))

-- not two different numbers
abbrev pub compatible_at : Option ℕ → Option ℕ → Bool
compatible_at None o = true
compatible_at (Some k) None = true
compatible_at (Some k) (Some j) = k == j

-- no variable has two different numbers
abbrev pub compatible : Substitution → Substitution → Bool
compatible β γ = compatible_at β.v0 γ.v0 && (compatible_at β.v1 γ.v1 && (compatible_at β.v2 γ.v2 && compatible_at β.v3 γ.v3))

-- a settled number goes before a chosen one
abbrev pub or_chosen : Option ℕ → ℕ → ℕ
or_chosen None k = k
or_chosen (Some j) k = j

-- the numbers that are settled, and chosen ones for the other variables
abbrev pub over : Substitution → Choice → Choice
over σ ρ v = or_chosen (lookup σ v) (ρ v)

-- k is chosen for v, the others stay as chosen
abbrev pub update : Choice → Var → ℕ → Choice
update ρ v k w = cond (same v w) k (ρ w)

-- a number, where there is one, is k
abbrev pub Is : Option ℕ → ℕ → Type 0
Is None k = Unit {0}
Is (Some j) k = j ≡ k

-- a binding agrees with chosen numbers
abbrev pub Agrees : Substitution → Choice → Type 0
Agrees β ρ = (v : Var) → Is (lookup β v) (ρ v)
