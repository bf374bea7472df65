-- Collecting outcomes in a new list.
use Rattle.std.proofs.Common.{◌≡◌, ℕ, ◌+◌, ◌<◌, ◌≤◌, List, [], ◌∷◌, ◌++◌, map, length, get_or, drop, Bool, true, false, IsErrAnd, Ok, Err, Result, sym, refl, ap, ap₂, ◌∙◌, subst}
use Rattle.std.proofs.lemmas.List.{append_assoc, drop_more, drop_all}
use Rattle.calculus.specs.Vocabulary.{And}
use Rattle.calculus.specs.Numbers.{compatible, union}
use Rattle.calculus.specs.States.{pair}
use Rattle.calculus.specs.Equality.{same_outcome}
use Rattle.calculus.specs.Outcomes.{when}
use Rattle.calculus.specs.Lists.{gather, once}
use Rattle.calculus.specs.Steps.{Outcome as Out}
use Rattle.calculus.specs.Fullness.{overflowing}
use Rattle.stepping.specs.declared.fault.StepFault.{StepFault}
use Rattle.stepping.specs.declared.outcome.Outcome.{Outcome}
use Rattle.stepping.specs.declared.outcomes.Outcomes.{Outcomes}
use Rattle.stepping.specs.Listed.{outcome_of, outcomes_of}
use Rattle.stepping.specs.Wrapping.{with_one}
use Rattle.stepping.specs.Adding.{Says, Gives, Collects, Extends, outcomes_in}
use Rattle.stepping.proofs.Growing.{Runs, says_more, once_append, large_grows}
use Rattle.stepping.proofs.Overflow.{overflow_kept}

abbrev pub Answer : Type 0
Answer = Result Outcomes StepFault

-- the loop invariant, for outcomes
abbrev pub Adding : List Out → List Out → List Out → List Out → Type 0
Adding xs ws ys zs = Runs same_outcome xs ws ys zs

-- the next element of a list that is lent, and none after the last
pub item_on : (g : Out → List Out) (os : List Outcome) (i : ℕ) (p : Outcome) → i < length os → p ≡ get_or os i p →
    gather g (outcomes_of (drop i os)) ≡ g (outcome_of p) ++ gather g (outcomes_of (drop (i + 1) os))
item_on g os i p h is = ap (λ (l : List Outcome). gather g (outcomes_of l)) (drop_more os i p h ∙ ap (λ (q : Outcome). q ∷ drop (i + 1) os) (sym is))

pub none_on : (g : Out → List Out) (os : List Outcome) (i : ℕ) → length os ≤ i → gather g (outcomes_of (drop i os)) ≡ []
none_on g os i h = ap (λ (l : List Outcome). gather g (outcomes_of l)) (drop_all i os h)

-- the next of the pairs with x, before others
pub pair_on : (x : Out) (os : List Outcome) (i : ℕ) (p : Outcome) (rest : List Out) → i < length os → p ≡ get_or os i p →
    gather (with_one x) (outcomes_of (drop i os)) ++ rest ≡ with_one x (outcome_of p) ++ (gather (with_one x) (outcomes_of (drop (i + 1) os)) ++ rest)
pair_on x os i p rest h is =
    ap (λ (l : List Out). l ++ rest) (item_on (with_one x) os i p h is) ∙ append_assoc (with_one x (outcome_of p)) (gather (with_one x) (outcomes_of (drop (i + 1) os))) rest

-- the pairs of an outcome that is next
pub pairs_on : {xs ws ys : List Out} (g : Out → List Out) (os : List Outcome) (i : ℕ) (p : Outcome) → i < length os → p ≡ get_or os i p →
    Adding xs ws ys (gather g (outcomes_of (drop i os))) → Adding xs ws ys (g (outcome_of p) ++ gather g (outcomes_of (drop (i + 1) os)))
pairs_on {xs} {ws} {ys} g os i p h is a = subst (Adding xs ws ys) (item_on g os i p h is) a

-- no pair is left
pub no_pair : {xs ws ys : List Out} (x : Out) (os : List Outcome) (i : ℕ) (rest : List Out) → length os ≤ i →
    Adding xs ws ys (gather (with_one x) (outcomes_of (drop i os)) ++ rest) → Adding xs ws ys rest
no_pair {xs} {ws} {ys} x os i rest h a = subst (Adding xs ws ys) (ap (λ (l : List Out). l ++ rest) (none_on (with_one x) os i h)) a

-- two outcomes whose bindings disagree give none, and others give one
pub apart : (x y : Out) → false ≡ compatible x.1 y.1 → with_one x y ≡ []
apart x y q = ap (λ (b : Bool). when b (pair And x.0 y.0, union x.1 y.1)) (sym q)

pub joined : (x y z : Out) → true ≡ compatible x.1 y.1 → z ≡ (pair And x.0 y.0, union x.1 y.1) → with_one x y ≡ z ∷ []
joined x y z q e = ap (λ (b : Bool). when b (pair And x.0 y.0, union x.1 y.1)) (sym q) ∙ ap (λ (w : Out). w ∷ []) (sym e)

-- what is extended, or stops at a fault
pub extended : (xs ws : List Out) (v : Outcomes) → outcomes_in v ≡ once same_outcome xs ws → Extends xs ws (Ok v)
extended xs ws v e = (e, ap overflowing (sym e) ∙ v.fits)

pub not_extended : (xs ws : List Out) (q : Answer) (f : StepFault) → Says (overflowing (once same_outcome xs ws)) f → IsErrAnd q (λ y. y ≡ f) → Extends xs ws q
not_extended xs ws (Ok v) f a e = absurd e
not_extended xs ws (Err y) f a e = subst (Says (overflowing (once same_outcome xs ws))) (sym e) a

-- a list of which each is made into another
pub gathered : (g : Out → Out) (xs : List Out) → map g xs ≡ gather (λ x. g x ∷ []) xs
gathered g [] = refl
gathered g (x ∷ xs) = ap (λ (l : List Out). g x ∷ l) (gathered g xs)

pub unchanged : (xs : List Out) → map (λ x. x) xs ≡ xs
unchanged [] = refl
unchanged (x ∷ xs) = ap (λ (l : List Out). x ∷ l) (unchanged xs)

pub gives_to : {xs ys : List Out} {a b : Bool} (r : Answer) → xs ≡ ys → a ≡ b → Gives xs a r → Gives ys b r
gives_to (Ok v) p q h = (h.0 ∙ p, sym q ∙ h.1)
gives_to (Err f) p q h = subst (λ (b : Bool). Says b f) q h

-- one list of outcomes collected from none
pub collects : {xs ws us : List Out} (q : Answer) → xs ≡ [] → ws ≡ us → Extends xs ws q → Collects us q
collects {xs} {ws} {us} q n d a = let p = ap₂ (once same_outcome) n d in gives_to q p (ap overflowing p) a

-- two lists, of which the first is collected or stops
module _ (us vs : List Out) {xs ws : List Out} (n : xs ≡ []) (d : ws ≡ us) where
  pub both : {zs : List Out} (v : Outcomes) (q : Answer) → zs ≡ vs → Extends xs ws (Ok v) → Extends (outcomes_in v) zs q → Collects (us ++ vs) q
  both {zs} v q e a b =
      let p =
      ap (λ (l : List Out). once same_outcome l zs) a.0 ∙ sym (once_append same_outcome xs ws zs) ∙
      ap₂ (once same_outcome) n (ap₂ (λ (l m : List Out). l ++ m) d e) in
      gives_to q p (ap overflowing p) b

  pub first_stops : (f : StepFault) (q : Answer) → Extends xs ws (Err f) → IsErrAnd q (λ y. y ≡ f) → Collects (us ++ vs) q
  first_stops f q a e =
      not_extended [] (us ++ vs) q f
      (says_more (overflowing (once same_outcome xs ws)) (overflowing (once same_outcome [] (us ++ vs))) f
      (λ h.
      ap overflowing (once_append same_outcome [] us vs) ∙
      large_grows same_outcome overflowing overflow_kept (once same_outcome [] us) vs (ap overflowing (sym (ap₂ (once same_outcome) n d)) ∙ h)) a) e
