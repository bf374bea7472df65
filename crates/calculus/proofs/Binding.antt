-- Matching binds variables that are not settled, and agrees with matching under chosen numbers.
use Rattle.std.proofs.Common.{◌≡◌, ℕ, Bool, true, false, cond, eqb, ◌⊎◌, ◌↔◌, is_some as option_is_some, sym, refl, ap, ◌∙◌, subst, inl, inr}
use mathlib.Core.Bool.{false≢true}
use Rattle.std.proofs.lemmas.Bool.{eqb-true, eq-eqb}
use Rattle.calculus.specs.Vocabulary.{Any, Constant, has, Meaning, None, Option, Pattern, Slot, Some, Substitution, Var, Variable}
use Rattle.calculus.specs.Numbers.{Agrees, assign, Choice, Is, lookup, no_numbers, or_chosen, or_else, over}
use Rattle.calculus.specs.Matching.{and_then, bind, bind_slot, bind_variable, Fits, Matches, Narrow, NarrowSlot, passes, Proper}
use Rattle.calculus.specs.Graphs.{Names, NamesWithin}
use Rattle.calculus.proofs.Substitutions.{agrees_assign, agrees_none, agrees_unassign, lookup_assign, lookup_tabulate, none_some, over_none, same_case}

variable_sound : (j : ℕ) (o : Option ℕ) (β γ δ : Substitution) → bind_variable j o β γ ≡ Some δ →
    ((o ≡ None) × (γ ≡ δ)) ⊎ ((o ≡ Some j) × (β ≡ δ))
variable_sound j None β γ δ e = inl (refl, cc)
variable_sound j (Some k) β γ δ e = go (eqb j k) refl e
  where
    go : (b : Bool) → eqb j k ≡ b → cond b (Some β) None ≡ Some δ → ((Some k ≡ None) × (γ ≡ δ)) ⊎ ((Some k ≡ Some j) × (β ≡ δ))
    go true t q = inr (ap Some (sym (eqb-true j k t)), cc)
    go false t q = inl (cc, cc)

-- a variable's number, settled in σ or bound in β
or_else_none : (a b : Option ℕ) → or_else a b ≡ None → (a ≡ None) × (b ≡ None)
or_else_none None b e = (refl, e)
or_else_none (Some k) b e = (e, cc)

known_over : (a b : Option ℕ) (j k : ℕ) → or_else a b ≡ Some j → Is b k → j ≡ or_chosen a k
known_over None None j k e h = cc
known_over None (Some i) j k e h = cc
known_over (Some i) b j k e h = cc

chosen_none : (a : Option ℕ) (k : ℕ) → a ≡ None → or_chosen a k ≡ k
chosen_none a k e = rw e

moved : (β δ : Substitution) (ρ : Choice) → β ≡ δ → Agrees δ ρ → Agrees β ρ
moved β δ ρ e h = subst (λ (x : Substitution). Agrees x ρ) (sym e) h

pub slot_sound : (σ : Substitution) (s : Slot) (o : Option ℕ) (β δ : Substitution) (ρ : Choice) →
    bind_slot σ s o β ≡ Some δ → Agrees δ ρ → Agrees β ρ × Fits (over σ ρ) s o
slot_sound σ Any o β δ ρ e h = (moved β δ ρ (cc) h, tt)
slot_sound σ (Constant k) None β δ ρ e h = absurd (none_some δ e)
slot_sound σ (Constant k) (Some j) β δ ρ e h =
    elim (variable_sound j (Some k) β β δ e)
    [ inl p ↦ (moved β δ ρ p.1 h, absurd (none_some k (sym p.0))) | inr p ↦ (moved β δ ρ p.1 h, sym p.0) ]
slot_sound σ (Variable v) None β δ ρ e h = absurd (none_some δ e)
slot_sound σ (Variable v) (Some j) β δ ρ e h =
    elim (variable_sound j (or_else (lookup σ v) (lookup β v)) β (assign v j β) δ e) [
      | inl p ↦
          let n = or_else_none (lookup σ v) (lookup β v) p.0 in
          let b = agrees_unassign β ρ v j n.1 (moved (assign v j β) δ ρ p.1 h) in
          (b.0, ap Some (b.1 ∙ sym (chosen_none (lookup σ v) (ρ v) n.0)))
      | inr p ↦ (moved β δ ρ p.1 h, ap Some (known_over (lookup σ v) (lookup β v) j (ρ v) p.0 (moved β δ ρ p.1 h v)))
    ]

pub slot_complete : (σ : Substitution) (s : Slot) (o : Option ℕ) (β : Substitution) (ρ : Choice) →
    Agrees β ρ → Fits (over σ ρ) s o → (δ : Substitution) × (bind_slot σ s o β ≡ Some δ) × Agrees δ ρ
slot_complete σ Any o β ρ h f = (β, refl, h)
slot_complete σ (Constant k) None β ρ h f = absurd (none_some k f)
slot_complete σ (Constant k) (Some j) β ρ h f = (β, rw (eq-eqb j k (cc)), h)
slot_complete σ (Variable v) None β ρ h f = absurd (none_some (over σ ρ v) f)
slot_complete σ (Variable v) (Some j) β ρ h f = go (or_else (lookup σ v) (lookup β v)) refl
  where
    go : (o : Option ℕ) → or_else (lookup σ v) (lookup β v) ≡ o →
        (δ : Substitution) × (bind_variable j o β (assign v j β) ≡ Some δ) × Agrees δ ρ
    go None q =
        let n = or_else_none (lookup σ v) (lookup β v) q in
        let z : j ≡ over σ ρ v = cc in
        (assign v j β, refl, agrees_assign β ρ v j (z ∙ chosen_none (lookup σ v) (ρ v) n.0) h)
    go (Some i) q =
        let z : i ≡ over σ ρ v = known_over (lookup σ v) (lookup β v) i (ρ v) q (h v) in
        (β, rw (eq-eqb j i (cc)), h)

pub slot_free : (σ : Substitution) (s : Slot) (o : Option ℕ) (β δ : Substitution) → bind_slot σ s o β ≡ Some δ →
    (w : Var) (k : ℕ) → lookup δ w ≡ Some k → (lookup β w ≡ Some k) ⊎ (Names w s × (lookup σ w ≡ None) × (o ≡ Some k))
slot_free σ Any o β δ e w k g = let z : β ≡ δ = cc in inl (rw z g)
slot_free σ (Constant i) None β δ e w k g = absurd (none_some δ e)
slot_free σ (Constant i) (Some j) β δ e w k g =
    elim (variable_sound j (Some i) β β δ e) [ inl p ↦ inl (rw p.1 g) | inr p ↦ inl (rw p.1 g) ]
slot_free σ (Variable v) None β δ e w k g = absurd (none_some δ e)
slot_free σ (Variable v) (Some j) β δ e w k g =
    elim (variable_sound j (or_else (lookup σ v) (lookup β v)) β (assign v j β) δ e) [
      | inl p ↦
          elim (same_case v w) [
            | inl q ↦ inr (q.1, rw (← q.1) (or_else_none (lookup σ v) (lookup β v) p.0).0, rw (← p.1, lookup_assign v j β w, q.0) at g)
            | inr n ↦ inl (rw (← p.1, lookup_assign v j β w, n) at g)
          ]
      | inr p ↦ inl (rw p.1 g)
    ]

-- a whole pattern
then_some : (o : Option Substitution) (f : Substitution → Option Substitution) (δ : Substitution) → and_then o f ≡ Some δ →
    (β : Substitution) × (o ≡ Some β) × (f β ≡ Some δ)
then_some None f δ e = absurd (none_some δ e)
then_some (Some β) f δ e = (β, refl, e)

record Bound (σ : Substitution) (p : Pattern) (e : Meaning) (δ : Substitution) : Type 0 where
  β : Substitution
  γ : Substitution
  type : has e.types p.ty ≡ true
  one : bind_slot σ p.player e.player no_numbers ≡ Some β
  second : bind_slot σ p.card e.card β ≡ Some γ
  three : bind_slot σ p.strokes e.strokes γ ≡ Some δ

bound : (σ : Substitution) (p : Pattern) (e : Meaning) (δ : Substitution) → bind σ p e ≡ Some δ → Bound σ p e δ
bound σ p e δ q = go (has e.types p.ty) refl q
  where
    rest : Option Substitution
    rest = and_then (bind_slot σ p.player e.player no_numbers) (λ β. and_then (bind_slot σ p.card e.card β) (λ γ. bind_slot σ p.strokes e.strokes γ))

    go : (b : Bool) → has e.types p.ty ≡ b → cond b rest None ≡ Some δ → Bound σ p e δ
    go false t q = absurd (none_some δ q)
    go true t q =
        let x = then_some (bind_slot σ p.player e.player no_numbers) (λ β. and_then (bind_slot σ p.card e.card β) (λ γ. bind_slot σ p.strokes e.strokes γ)) δ q in
        let y = then_some (bind_slot σ p.card e.card x.0) (λ γ. bind_slot σ p.strokes e.strokes γ) δ x.2 in
        record { β = x.0; γ = y.0; type = t; one = x.1; second = y.1; three = y.2 }

pub bind_sound : (σ : Substitution) (p : Pattern) (e : Meaning) (δ : Substitution) (ρ : Choice) → bind σ p e ≡ Some δ → Agrees δ ρ → Matches (over σ ρ) p e
bind_sound σ p e δ ρ q h =
    let b = bound σ p e δ q in
    let z = slot_sound σ p.strokes e.strokes b.γ δ ρ b.three h in
    let y = slot_sound σ p.card e.card b.β b.γ ρ b.second z.0 in
    let x = slot_sound σ p.player e.player no_numbers b.β ρ b.one y.0 in
    record { type = b.type; player = x.1; card = y.1; strokes = z.1 }

pub bind_complete : (σ : Substitution) (p : Pattern) (e : Meaning) (ρ : Choice) → Matches (over σ ρ) p e →
    (δ : Substitution) × (bind σ p e ≡ Some δ) × Agrees δ ρ
bind_complete σ p e ρ m =
    let x = slot_complete σ p.player e.player no_numbers ρ (agrees_none ρ) m.player in
    let y = slot_complete σ p.card e.card x.0 ρ x.2 m.card in
    let z = slot_complete σ p.strokes e.strokes y.0 ρ y.2 m.strokes in
    (z.0, rw (m.type, x.1, y.1, z.1), z.2)

pub bind_free : (σ : Substitution) (p : Pattern) (e : Meaning) (δ : Substitution) (g : Var → Bool) → bind σ p e ≡ Some δ → NamesWithin p g →
    (w : Var) (k : ℕ) → lookup δ w ≡ Some k → (g w ≡ true) × (lookup σ w ≡ None)
bind_free σ p e δ g q n w k h =
    let b = bound σ p e δ q in
    elim (slot_free σ p.strokes e.strokes b.γ δ b.three w k h) [
      | inr u ↦ (n.strokes w u.0, u.1)
      | inl u ↦ elim (slot_free σ p.card e.card b.β b.γ b.second w k u) [
        | inr y ↦ (n.card w y.0, y.1)
        | inl y ↦ elim (slot_free σ p.player e.player no_numbers b.β b.one w k y) [
          | inr x ↦ (n.player w x.0, x.1)
          | inl x ↦ absurd (none_some k (rw (lookup_tabulate (λ v. None) w) at x))
        ]
      ]
    ]

narrow_slot : (o : Option ℕ) (k : ℕ) → o ≡ Some k → NarrowSlot o → Narrow k
narrow_slot None k q h = absurd (none_some k q)
narrow_slot (Some j) k q h = let z : j ≡ k = cc in subst (λ (i : ℕ). Narrow i) z h

-- what a proper event binds has 32 bits
pub bind_narrow : (σ : Substitution) (p : Pattern) (e : Meaning) (δ : Substitution) → Proper e → bind σ p e ≡ Some δ →
    (w : Var) (k : ℕ) → lookup δ w ≡ Some k → Narrow k
bind_narrow σ p e δ P q w k h =
    let b = bound σ p e δ q in
    elim (slot_free σ p.strokes e.strokes b.γ δ b.three w k h) [
      | inr u ↦ narrow_slot e.strokes k u.2 P.strokes
      | inl u ↦ elim (slot_free σ p.card e.card b.β b.γ b.second w k u) [
        | inr y ↦ narrow_slot e.card k y.2 P.card
        | inl y ↦ elim (slot_free σ p.player e.player no_numbers b.β b.one w k y) [
          | inr x ↦ narrow_slot e.player k x.2 P.player
          | inl x ↦ absurd (none_some k (rw (lookup_tabulate (λ v. None) w) at x))
        ]
      ]
    ]

agrees_where : (o : Option ℕ) (k : ℕ) → ((j : ℕ) → o ≡ Some j → ⊥) → Is o k
agrees_where None k h = tt
agrees_where (Some j) k h = absurd (h j refl)

-- what binds nothing agrees with every choice
pub agrees_any : (β : Substitution) → ((v : Var) (k : ℕ) → lookup β v ≡ Some k → ⊥) → (ρ : Choice) → Agrees β ρ
agrees_any β h ρ v = agrees_where (lookup β v) (ρ v) (h v)

is_some : (o : Option Substitution) → option_is_some o ≡ true → (β : Substitution) × (o ≡ Some β)
is_some None q = absurd (false≢true q)
is_some (Some β) q = (β, refl)

-- an event passes a filter just where it matches the pattern, which names no variable
pub passes_matches : (p : Pattern) (e : Meaning) (ρ : Choice) → NamesWithin p (λ v. false) → (passes p e ≡ true) ↔ Matches ρ p e
passes_matches p e ρ N = (
  (λ q. let b = is_some (bind no_numbers p e) q in
      subst (λ (τ : Choice). Matches τ p e) (over_none ρ)
      (bind_sound no_numbers p e b.0 ρ b.1 (agrees_any b.0 (λ v k h. false≢true (bind_free no_numbers p e b.0 (λ u. false) b.1 N v k h).0) ρ))),
  λ m. let b = bind_complete no_numbers p e ρ (subst (λ (τ : Choice). Matches τ p e) (sym (over_none ρ)) m) in ap option_is_some b.1,
)
