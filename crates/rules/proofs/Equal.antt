-- The derived equality of substitutions decides whether they are equal.
use Rattle.std.proofs.Common.{◌≡◌, ℕ, Bool, true, ◌&&◌, eqb, Some, None, Option, Decides, sym, refl, ap, ◌∙◌}
use mathlib.Core.Bool.{false≢true}
use Rattle.std.specs.Option.{option_eq}
use Rattle.std.proofs.lemmas.Bool.{and_parts, eqb-true, eq-eqb}
use Rattle.rules.specs.declared.by_var.ByVar.{ByVar}

number_same : (a b : Option ℕ) → option_eq eqb a b ≡ true → a ≡ b
number_same None None q = refl
number_same None (Some k) q = absurd (false≢true q)
number_same (Some j) None q = absurd (false≢true q)
number_same (Some j) (Some k) q = ap Some (eqb-true j k q)

number_itself : (a : Option ℕ) → option_eq eqb a a ≡ true
number_itself None = refl
number_itself (Some k) = eq-eqb k k refl

-- all four numbers are the same
abbrev pub all_same : ByVar (Option ℕ) → ByVar (Option ℕ) → Bool
all_same σ τ = option_eq eqb σ.v0 τ.v0 && (option_eq eqb σ.v1 τ.v1 && (option_eq eqb σ.v2 τ.v2 && option_eq eqb σ.v3 τ.v3))

numbers_same : (σ τ : ByVar (Option ℕ)) → all_same σ τ ≡ true → σ ≡ τ
numbers_same σ τ q =
    let a = and_parts (option_eq eqb σ.v0 τ.v0) (option_eq eqb σ.v1 τ.v1 && (option_eq eqb σ.v2 τ.v2 && option_eq eqb σ.v3 τ.v3)) q in
    let b = and_parts (option_eq eqb σ.v1 τ.v1) (option_eq eqb σ.v2 τ.v2 && option_eq eqb σ.v3 τ.v3) a.1 in
    let c = and_parts (option_eq eqb σ.v2 τ.v2) (option_eq eqb σ.v3 τ.v3) b.1 in
    let p0 = number_same σ.v0 τ.v0 a.0 in
    let p1 = number_same σ.v1 τ.v1 b.0 in
    let p2 = number_same σ.v2 τ.v2 c.0 in
    let p3 = number_same σ.v3 τ.v3 c.1 in
    λ i. record { v0 = p0 i; v1 = p1 i; v2 = p2 i; v3 = p3 i }

numbers_themselves : (σ : ByVar (Option ℕ)) → all_same σ σ ≡ true
numbers_themselves σ = rw (number_itself σ.v0, number_itself σ.v1, number_itself σ.v2, number_itself σ.v3)

-- so where a caller has `==` of two substitutions, it decides whether they are equal
pub decided : (σ τ : ByVar (Option ℕ)) (b : Bool) → b ≡ all_same σ τ → Decides b (σ ≡ τ)
decided σ τ b e = (
  λ h. numbers_same σ τ (sym e ∙ h),
  λ q. e ∙ ap (all_same σ) (sym q) ∙ numbers_themselves σ,
)
