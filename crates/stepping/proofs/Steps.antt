-- What a step gives, however it comes about.
use Rattle.std.proofs.Common.{◌≡◌, Bool, true, false, ◌&&◌, ◌||◌, List, [], IsErrAnd, Ok, Err, sym, refl, ap, ◌∙◌, subst}
use Rattle.calculus.specs.Vocabulary.{Meaning, Rule}
use Rattle.calculus.specs.Graphs.{Graph, graph_of}
use Rattle.calculus.specs.States.{State}
use Rattle.calculus.specs.Outcomes.{outcomes, unique}
use Rattle.calculus.specs.Steps.{Outcome as Out}
use Rattle.calculus.specs.Fullness.{full, overflowing}
use Rattle.stepping.specs.declared.fault.StepFault.{StepFault}
use Rattle.stepping.specs.declared.fault.StepFault.TheVariants.{Memory}
use Rattle.stepping.specs.declared.outcomes.Outcomes.{Outcomes}
use Rattle.stepping.specs.Adding.{Says, Gives, Collects, outcomes_in}
use Rattle.stepping.specs.Stepping.{Stepped}
use Rattle.stepping.proofs.Growing.{says_more}
use Rattle.stepping.proofs.Collecting.{Answer, gives_to}

pub or_none : (a b : Bool) → b ≡ false → (a || b) ≡ a
or_none true b q = refl
or_none false b q = q

pub or_neither : (a b : Bool) → a ≡ false → b ≡ false → (a || b) ≡ false
or_neither a b p q = rw (p, q)

pub and_off : (a b : Bool) → a ≡ false → (a && b) ≡ false
and_off a b q = rw q

pub and_right : (a b : Bool) → b ≡ false → (a && b) ≡ false
and_right true b q = q
and_right false b q = refl

module _ (rule : Rule) (e : Meaning) where
  abbrev pub G : Graph
  G = graph_of rule

  pub is_stepped : (t : State) (r : Answer) → Gives (outcomes G e t) (full G e t) r → Stepped rule e t r
  unfolding Stepped
  is_stepped t r h = h

  pub stepped_is : (t : State) (r : Answer) → Stepped rule e t r → Gives (outcomes G e t) (full G e t) r
  unfolding Stepped
  stepped_is t r h = h

  pub stepped_as : {s t : State} (r : Answer) → s ≡ t → Stepped rule e s r → Stepped rule e t r
  stepped_as r q h = subst (λ (u : State). Stepped rule e u r) q h

  -- the outcomes are those of a list
  pub by_list : (t : State) (ws : List Out) (r : Answer) → unique ws ≡ outcomes G e t → overflowing (outcomes G e t) ≡ full G e t → Collects ws r →
      Stepped rule e t r
  by_list t ws r p q h = is_stepped t r (gives_to r p (ap overflowing p ∙ q) h)

  -- there are none
  pub none_stepped : (t : State) (v : Outcomes) → outcomes G e t ≡ [] → overflowing (outcomes G e t) ≡ full G e t → outcomes_in v ≡ [] →
      Stepped rule e t (Ok v)
  none_stepped t v p q i = is_stepped t (Ok v) (i ∙ sym p, sym q ∙ ap overflowing p)

  -- a fault of a part is a fault of the whole
  pub stops_by : (t u : State) (f : StepFault) (q : Answer) → (full G e u ≡ true → full G e t ≡ true) → Stepped rule e u (Err f) → IsErrAnd q (λ y. y ≡ f) →
      Stepped rule e t q
  stops_by t u f (Ok v) g h i = absurd i
  stops_by t u f (Err y) g h i =
      is_stepped t (Err y) (subst (Says (full G e t)) (sym i) (says_more (full G e u) (full G e t) f g (stepped_is u (Err f) h)))

  pub no_memory : (t : State) (q : Answer) → IsErrAnd q (λ y. y ≡ Memory) → Stepped rule e t q
  no_memory t (Ok v) i = absurd i
  no_memory t (Err y) i = is_stepped t (Err y) (subst (Says (full G e t)) (sym i) tt)
