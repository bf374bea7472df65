-- The tests for equal numbers, operators, states and outcomes are right.
use Rattle.std.proofs.Common.{◌≡◌, ℕ, true, ◌&&◌, eqb, sym, refl, ap, ◌∙◌, ap₂, inl, inr}
use mathlib.Core.Bool.{false≢true}
use Rattle.std.proofs.lemmas.Bool.{and_parts, eqb-true, eq-eqb}
use Rattle.calculus.specs.Vocabulary.{And, Concat, None, Op, Option, Or, same, Shuffle, Some, Substitution, Var}
use Rattle.calculus.specs.States.{binder, filter, leaf, pair, State}
use Rattle.calculus.specs.Steps.{Outcome}
use Rattle.calculus.specs.Equality.{same_number, same_numbers, same_op, same_outcome, same_state}
use Rattle.calculus.proofs.Substitutions.{same_case, same_refl}

same_number_eq : (a b : Option ℕ) → same_number a b ≡ true → a ≡ b
same_number_eq None None q = refl
same_number_eq None (Some k) q = absurd (false≢true q)
same_number_eq (Some j) None q = absurd (false≢true q)
same_number_eq (Some j) (Some k) q = ap Some (eqb-true j k q)

same_numbers_eq : (σ τ : Substitution) → same_numbers σ τ ≡ true → σ ≡ τ
same_numbers_eq σ τ q =
    let a = and_parts (same_number σ.v0 τ.v0) (same_number σ.v1 τ.v1 && (same_number σ.v2 τ.v2 && same_number σ.v3 τ.v3)) q in
    let b = and_parts (same_number σ.v1 τ.v1) (same_number σ.v2 τ.v2 && same_number σ.v3 τ.v3) a.1 in
    let c = and_parts (same_number σ.v2 τ.v2) (same_number σ.v3 τ.v3) b.1 in
    let p0 = same_number_eq σ.v0 τ.v0 a.0 in
    let p1 = same_number_eq σ.v1 τ.v1 b.0 in
    let p2 = same_number_eq σ.v2 τ.v2 c.0 in
    let p3 = same_number_eq σ.v3 τ.v3 c.1 in
    λ i. record { v0 = p0 i; v1 = p1 i; v2 = p2 i; v3 = p3 i }

same_op_eq : (o p : Op) → same_op o p ≡ true → o ≡ p
same_op_eq Or Or q = refl
same_op_eq Or And q = absurd (false≢true q)
same_op_eq Or Concat q = absurd (false≢true q)
same_op_eq Or Shuffle q = absurd (false≢true q)
same_op_eq And Or q = absurd (false≢true q)
same_op_eq And And q = refl
same_op_eq And Concat q = absurd (false≢true q)
same_op_eq And Shuffle q = absurd (false≢true q)
same_op_eq Concat Or q = absurd (false≢true q)
same_op_eq Concat And q = absurd (false≢true q)
same_op_eq Concat Concat q = refl
same_op_eq Concat Shuffle q = absurd (false≢true q)
same_op_eq Shuffle Or q = absurd (false≢true q)
same_op_eq Shuffle And q = absurd (false≢true q)
same_op_eq Shuffle Concat q = absurd (false≢true q)
same_op_eq Shuffle Shuffle q = refl

pub same_var_eq : (v w : Var) → same v w ≡ true → v ≡ w
same_var_eq v w q = elim (same_case v w) [ inl s ↦ s.1 | inr s ↦ absurd (false≢true (sym s ∙ q)) ]

pub same_state_eq : (t u : State) → same_state t u ≡ true → t ≡ u
same_state_eq (leaf n σ) (leaf k τ) q =
    let a = and_parts (eqb n k) (same_numbers σ τ) q in ap₂ leaf (eqb-true n k a.0) (same_numbers_eq σ τ a.1)
same_state_eq (leaf n σ) (pair o l r) q = absurd (false≢true q)
same_state_eq (leaf n σ) (binder v t) q = absurd (false≢true q)
same_state_eq (leaf n σ) (filter k t) q = absurd (false≢true q)
same_state_eq (pair o l r) (leaf k τ) q = absurd (false≢true q)
same_state_eq (pair o l r) (pair p t u) q =
    let a = and_parts (same_op o p) (same_state l t && same_state r u) q in
    let b = and_parts (same_state l t) (same_state r u) a.1 in
    let x = same_op_eq o p a.0 in
    let y = same_state_eq l t b.0 in
    let z = same_state_eq r u b.1 in
    λ i. pair (x i) (y i) (z i)
same_state_eq (pair o l r) (binder v t) q = absurd (false≢true q)
same_state_eq (pair o l r) (filter k t) q = absurd (false≢true q)
same_state_eq (binder w s) (leaf k τ) q = absurd (false≢true q)
same_state_eq (binder w s) (pair p t u) q = absurd (false≢true q)
same_state_eq (binder w s) (binder v t) q =
    let a = and_parts (same w v) (same_state s t) q in ap₂ binder (same_var_eq w v a.0) (same_state_eq s t a.1)
same_state_eq (binder w s) (filter k t) q = absurd (false≢true q)
same_state_eq (filter n s) (leaf k τ) q = absurd (false≢true q)
same_state_eq (filter n s) (pair p t u) q = absurd (false≢true q)
same_state_eq (filter n s) (binder v t) q = absurd (false≢true q)
same_state_eq (filter n s) (filter k t) q =
    let a = and_parts (eqb n k) (same_state s t) q in ap₂ filter (eqb-true n k a.0) (same_state_eq s t a.1)

pub same_out_eq : (x y : Outcome) → same_outcome x y ≡ true → x ≡ y
same_out_eq x y q =
    let a = and_parts (same_state x.0 y.0) (same_numbers x.1 y.1) q in
    let s = same_state_eq x.0 y.0 a.0 in
    let t = same_numbers_eq x.1 y.1 a.1 in
    λ i. (s i, t i)

same_number_refl : (a : Option ℕ) → same_number a a ≡ true
same_number_refl None = refl
same_number_refl (Some k) = eq-eqb k k refl

same_numbers_refl : (σ : Substitution) → same_numbers σ σ ≡ true
same_numbers_refl σ = rw (same_number_refl σ.v0, same_number_refl σ.v1, same_number_refl σ.v2, same_number_refl σ.v3)

same_op_refl : (o : Op) → same_op o o ≡ true
same_op_refl Or = refl
same_op_refl And = refl
same_op_refl Concat = refl
same_op_refl Shuffle = refl

pub same_state_refl : (t : State) → same_state t t ≡ true
same_state_refl (leaf n σ) = rw (eq-eqb n n refl, same_numbers_refl σ)
same_state_refl (pair o l r) = rw (same_op_refl o, same_state_refl l, same_state_refl r)
same_state_refl (binder v t) = rw (same_refl v, same_state_refl t)
same_state_refl (filter n t) = rw (eq-eqb n n refl, same_state_refl t)

pub same_out_refl : (x : Outcome) → same_outcome x x ≡ true
same_out_refl x = rw (same_state_refl x.0, same_numbers_refl x.1)
