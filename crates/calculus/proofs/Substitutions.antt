-- Numbers of variables: what the operations hold at each variable, and bindings that agree with chosen numbers.
use Rattle.std.proofs.Common.{◌≡◌, ℕ, Bool, true, false, cond, ◌&&◌, ◌⊎◌, sym, refl, ap, ◌∙◌, inl, inr, arith}
use mathlib.Core.Path.{fun_ext}
use Rattle.std.proofs.lemmas.Bool.{and_parts, eqb-true, eq-eqb}
use Rattle.calculus.specs.Vocabulary.{None, Option, same, Some, Substitution, V0, V1, V2, V3, Var}
use Rattle.calculus.specs.Numbers.{Agrees, assign, Choice, compatible, compatible_at, Is, lookup, no_numbers, or_else, over, tabulate, union, update, without}

pub lookup_tabulate : (f : Var → Option ℕ) (v : Var) → lookup (tabulate f) v ≡ f v
lookup_tabulate f V0 = refl
lookup_tabulate f V1 = refl
lookup_tabulate f V2 = refl
lookup_tabulate f V3 = refl

pub same_case : (v w : Var) → ((same v w ≡ true) × (v ≡ w)) ⊎ (same v w ≡ false)
same_case V0 V0 = inl (refl, refl)
same_case V0 V1 = inr refl
same_case V0 V2 = inr refl
same_case V0 V3 = inr refl
same_case V1 V0 = inr refl
same_case V1 V1 = inl (refl, refl)
same_case V1 V2 = inr refl
same_case V1 V3 = inr refl
same_case V2 V0 = inr refl
same_case V2 V1 = inr refl
same_case V2 V2 = inl (refl, refl)
same_case V2 V3 = inr refl
same_case V3 V0 = inr refl
same_case V3 V1 = inr refl
same_case V3 V2 = inr refl
same_case V3 V3 = inl (refl, refl)

pub same_refl : (v : Var) → same v v ≡ true
same_refl V0 = refl
same_refl V1 = refl
same_refl V2 = refl
same_refl V3 = refl

pub agrees_none : (ρ : Choice) → Agrees no_numbers ρ
agrees_none ρ v = rw lookup_tabulate tt

join_apart : (b g : Option ℕ) (k : ℕ) → compatible_at b g ≡ true → Is (or_else b g) k → Is b k × Is g k
join_apart None g k f h = (tt, h)
join_apart (Some j) None k f h = (h, tt)
join_apart (Some j) (Some i) k f h = (h, sym (eqb-true j i f) ∙ h)

join_made : (b g : Option ℕ) (k : ℕ) → Is b k → Is g k → (compatible_at b g ≡ true) × Is (or_else b g) k
join_made None g k h i = (refl, i)
join_made (Some j) None k h i = (refl, h)
join_made (Some j) (Some i) k h q = (eq-eqb j i (h ∙ sym q), h)

all_at : (a b c d : Bool) → (a && (b && (c && d))) ≡ true → (a ≡ true) × (b ≡ true) × (c ≡ true) × (d ≡ true)
all_at a b c d e =
    let p = and_parts a (b && (c && d)) e in
    let q = and_parts b (c && d) p.1 in
    let r = and_parts c d q.1 in
    (p.0, q.0, r.0, r.1)

agree_at : (β γ : Substitution) → compatible β γ ≡ true → (v : Var) → compatible_at (lookup β v) (lookup γ v) ≡ true
agree_at β γ e = elim [ V0 ↦ q.0 | V1 ↦ q.1 | V2 ↦ q.2 | V3 ↦ q.3 ]
  where
    f : Var → Bool
    f v = compatible_at (lookup β v) (lookup γ v)

    q : (f V0 ≡ true) × (f V1 ≡ true) × (f V2 ≡ true) × (f V3 ≡ true)
    q = all_at (f V0) (f V1) (f V2) (f V3) e

agree_all : (β γ : Substitution) → ((v : Var) → compatible_at (lookup β v) (lookup γ v) ≡ true) → compatible β γ ≡ true
agree_all β γ h = rw (h V0, h V1, h V2, h V3)

pub agrees_apart : (β γ : Substitution) (ρ : Choice) → compatible β γ ≡ true → Agrees (union β γ) ρ → Agrees β ρ × Agrees γ ρ
agrees_apart β γ ρ e h =
    let q : (v : Var) → Is (lookup β v) (ρ v) × Is (lookup γ v) (ρ v) =
    λ v. join_apart (lookup β v) (lookup γ v) (ρ v) (agree_at β γ e v) (rw (lookup_tabulate (λ w. or_else (lookup β w) (lookup γ w)) v) at (h v)) in
    ((λ v. (q v).0), (λ v. (q v).1))

pub agrees_made : (β γ : Substitution) (ρ : Choice) → Agrees β ρ → Agrees γ ρ → (compatible β γ ≡ true) × Agrees (union β γ) ρ
agrees_made β γ ρ h i =
    let q : (v : Var) → (compatible_at (lookup β v) (lookup γ v) ≡ true) × Is (or_else (lookup β v) (lookup γ v)) (ρ v) =
    λ v. join_made (lookup β v) (lookup γ v) (ρ v) (h v) (i v) in
    (agree_all β γ (λ v. (q v).0), λ v. rw (lookup_tabulate (λ w. or_else (lookup β w) (lookup γ w)) v) (q v).1)

-- the variable of a binder state
pub lookup_without : (v : Var) (β : Substitution) (w : Var) → lookup (without v β) w ≡ cond (same v w) None (lookup β w)
lookup_without v β w = lookup_tabulate (λ u. cond (same v u) None (lookup β u)) w

pub agrees_settled : (β : Substitution) (ρ : Choice) (v : Var) (k : ℕ) → lookup β v ≡ Some k → Agrees (without v β) ρ → Agrees β (update ρ v k)
agrees_settled β ρ v k e h w =
    elim (same_case v w) [
      | inl p ↦ rw p.0 (rw (← p.1, e) refl)
      | inr n ↦ rw n (rw (lookup_without v β w, n) at (h w))
    ]

pub agrees_unsettled : (β : Substitution) (ρ : Choice) (v : Var) (k : ℕ) → lookup β v ≡ None → Agrees β ρ → Agrees β (update ρ v k)
agrees_unsettled β ρ v k e h w =
    elim (same_case v w) [
      | inl p ↦ rw (← p.1, e) tt
      | inr n ↦ rw n (h w)
    ]

-- back again
pub agrees_without : (β : Substitution) (ρ : Choice) (v : Var) (k : ℕ) → Agrees β (update ρ v k) → Agrees (without v β) ρ
agrees_without β ρ v k h w =
    elim (same_case v w) [
      | inl p ↦ rw (lookup_without v β w, p.0) tt
      | inr n ↦ rw (lookup_without v β w, n) (rw n at (h w))
    ]

pub agrees_its : (β : Substitution) (ρ : Choice) (v : Var) (k j : ℕ) → lookup β v ≡ Some j → Agrees β (update ρ v k) → j ≡ k
agrees_its β ρ v k j e h = rw (e, same_refl v) at (h v)

pub agrees_other : (β : Substitution) (ρ : Choice) (v : Var) (k : ℕ) → lookup β v ≡ None → Agrees β (update ρ v k) → Agrees β ρ
agrees_other β ρ v k e h w =
    elim (same_case v w) [
      | inl p ↦ rw (← p.1, e) tt
      | inr n ↦ rw n at (h w)
    ]

pub lookup_assign : (v : Var) (k : ℕ) (β : Substitution) (w : Var) → lookup (assign v k β) w ≡ cond (same v w) (Some k) (lookup β w)
lookup_assign v k β w = lookup_tabulate (λ u. cond (same v u) (Some k) (lookup β u)) w

pub agrees_assign : (β : Substitution) (ρ : Choice) (v : Var) (k : ℕ) → k ≡ ρ v → Agrees β ρ → Agrees (assign v k β) ρ
agrees_assign β ρ v k e h w =
    elim (same_case v w) [
      | inl p ↦ rw (lookup_assign v k β w, p.0) (e ∙ ap ρ p.1)
      | inr n ↦ rw (lookup_assign v k β w, n) (h w)
    ]

pub agrees_unassign : (β : Substitution) (ρ : Choice) (v : Var) (k : ℕ) → lookup β v ≡ None → Agrees (assign v k β) ρ → Agrees β ρ × (k ≡ ρ v)
agrees_unassign β ρ v k e h = (
  (λ w. elim (same_case v w) [
    | inl p ↦ rw (← p.1, e) tt
    | inr n ↦ rw (lookup_assign v k β w, n) at (h w)
  ]),
  rw (lookup_assign v k β v, same_refl v) at (h v),
)

pub none_some : {A : Type 0} (a : A) → None ≡ Some a → ⊥
none_some a e = let z : ◌≡◌ {A = ℕ} 0 1 = cc in omega arith

pub union_some : (a b : Option ℕ) (k : ℕ) → or_else a b ≡ Some k → (a ≡ Some k) ⊎ (b ≡ Some k)
union_some None b k e = inr e
union_some (Some j) b k e = inl e

pub none_bound : (v : Var) (k : ℕ) → lookup no_numbers v ≡ Some k → ⊥
none_bound v k x = none_some k (rw (lookup_tabulate (λ w. None) v) at x)

pub over_none : (ρ : Choice) → over no_numbers ρ ≡ ρ
over_none ρ = fun_ext (λ v. rw (lookup_tabulate (λ w. None) v))

pub not_so : (b : Bool) → (b ≡ true → ⊥) → b ≡ false
not_so true h = absurd (h refl)
not_so false h = refl
