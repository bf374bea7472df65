-- The states to hold next, held state by held state.
use Rattle.std.proofs.Common.{◌≡◌, ℕ, ◌+◌, ◌<◌, ◌≤◌, Bool, true, false, cond, ◌||◌, List, [], ◌∷◌, ◌++◌, length, get_or, drop, IsErrAnd, Ok, Err, vec_items, Result, Vec, sym, refl, ap, ◌∙◌, subst, ap₂, arith, length-append, ltb-true, le-ltb, lt-ltb}
use Rattle.std.specs.declared.alloc.Global.{Global}
use Rattle.std.specs.List.{list_any}
use Rattle.std.proofs.lemmas.List.{drop_more, drop_all}
use Rattle.calculus.specs.Vocabulary.{Meaning, Rule}
use Rattle.calculus.specs.Graphs.{Graph, graph_of}
use Rattle.calculus.specs.States.{State, may_end}
use Rattle.calculus.specs.Equality.{same_state}
use Rattle.calculus.specs.Lists.{gather, member, once}
use Rattle.calculus.specs.Outcomes.{after}
use Rattle.calculus.specs.Steps.{Outcome as Out}
use Rattle.calculus.specs.Fullness.{any_full, full, refuses}
use Rattle.calculus.specs.Runs.{any_ends}
use Rattle.states.proofs.Equal.{tree_same}
use Rattle.states.specs.contracts.tree.TreePartialEq.TheImpl.{ghosts}
use Rattle.std.proofs.lemmas.Bool.{or_left, or_right}
use Rattle.states.specs.declared.tree.Tree.{Tree}
use Rattle.states.specs.State.{state}
use Rattle.stepping.specs.declared.fault.StepFault.{StepFault}
use Rattle.stepping.specs.declared.outcomes.Outcomes.{Outcomes}
use Rattle.stepping.specs.Listed.{states}
use Rattle.stepping.specs.Adding.{Says, Adds, outcomes_in}
use Rattle.stepping.specs.Stepping.{Stepped}
use Rattle.stepping.specs.Holding.{too_many, state_of, successors, Follows}
use Rattle.stepping.proofs.Growing.{Runs, says_more, goes, done, too_large}
use Rattle.stepping.proofs.Steps.{stepped_is}

-- the loop invariant, for states
abbrev pub Holding : List State → List State → List State → List State → Type 0
Holding xs ws ys zs = Runs same_state xs ws ys zs

-- a search by equality of trees is that of the calculus
pub member_is : (t : Tree) (ts : List Tree) → list_any (λ u. ghosts.eq u t) ts ≡ member same_state (state t) (states ts)
member_is t [] = refl
member_is t (u ∷ ts) = ap₂ (λ (a b : Bool). a || b) (tree_same u t) (member_is t ts)

-- what the search of a list in memory says
pub member_by : (t : Tree) (ts us : List Tree) (b : Bool) → us ≡ ts → b ≡ list_any (λ u. ghosts.eq u t) us → member same_state (state t) (states ts) ≡ b
member_by t ts us b e q = sym (q ∙ ap (list_any (λ u. ghosts.eq u t)) e ∙ member_is t ts)

-- some state may end
pub ends_any : (G : Graph) (ts : List Tree) → list_any (λ t. may_end G (state t)) ts ≡ any_ends G (states ts)
ends_any G [] = refl
ends_any G (t ∷ ts) = go (may_end G (state t)) (ends_any G ts)
  where
    go : (b : Bool) {c d : Bool} → c ≡ d → (b || c) ≡ cond b true d
    go true q = refl
    go false q = q

-- the first of the states from some place on
pub states_on : (ts : List Tree) (i : ℕ) (p : Tree) → i < length ts → p ≡ get_or ts i p → states (drop i ts) ≡ state p ∷ states (drop (i + 1) ts)
states_on ts i p h is = ap states (drop_more ts i p h ∙ ap (λ (q : Tree). q ∷ drop (i + 1) ts) (sym is))

many : (xs : List State) (x : State) → 16 ≤ length xs → too_many (xs ++ x ∷ []) ≡ true
many xs x h = lt-ltb 16 (length (xs ++ x ∷ [])) (omega (arith, length-append xs (x ∷ [])))

-- too many stay too many
pub many_kept : (xs : List State) (x : State) → too_many xs ≡ true → too_many (xs ++ x ∷ []) ≡ true
many_kept xs x q = many xs x (let k : 16 < length xs = ltb-true 16 (length xs) q in omega arith)

-- one state that is held
pub found : (xs : List State) (x : State) → member same_state x xs ≡ true → too_many xs ≡ false → (xs ≡ once same_state xs (x ∷ [])) × (too_many xs ≡ false)
found xs x q fits = (rw q refl, fits)

-- adding to the held states stops at a fault
pub adds_not : (xs zs ys : List State) (q : Result (Unit {0}) StepFault) (f : StepFault) → Says (too_many (once same_state xs zs)) f → IsErrAnd q (λ y. y ≡ f) →
    Adds same_state too_many xs zs ys q
adds_not xs zs ys (Ok u) f a e = absurd e
adds_not xs zs ys (Err y) f a e = subst (Says (too_many (once same_state xs zs))) (sym e) a

-- one state that is not held yet: one too many, or added
pub new_many : (xs : List State) (x : State) → member same_state x xs ≡ false → 16 ≤ length xs → too_many (once same_state xs (x ∷ [])) ≡ true
new_many xs x q h = rw q (many xs x h)

pub new_fits : (xs : List State) (x : State) (ys : List State) → member same_state x xs ≡ false → length xs < 16 → ys ≡ xs ++ x ∷ [] →
    (ys ≡ once same_state xs (x ∷ [])) × (too_many ys ≡ false)
new_fits xs x ys q few e = (rw q e, rw e (le-ltb 16 (length (xs ++ x ∷ [])) (omega (arith, length-append xs (x ∷ [])))))

-- the held states before place i are stepped: what they gave is in ys, and none of them was full
pub record Passed (G : Graph) (e : Meaning) (ts : List Tree) (i : ℕ) (ys : List State) : Type 0 where
  pub holding : Holding [] (gather (successors G e) (states ts)) ys (gather (successors G e) (states (drop i ts)))
  pub spared : any_full G e (states (drop i ts)) ≡ any_full G e (states ts)

follows_err : (G : Graph) (e : Meaning) (ts : List State) (q : Result (Vec Tree Global) StepFault) (f : StepFault) → Says (refuses G e ts) f →
    IsErrAnd q (λ y. y ≡ f) → Follows G e ts q
follows_err G e ts (Ok v) f h i = absurd i
follows_err G e ts (Err y) f h i = subst (Says (refuses G e ts)) (sym i) h

module _ (rule : Rule) (e : Meaning) (ts : List Tree) where
  abbrev G : Graph
  G = graph_of rule

  pub begins : (ys : List State) → ys ≡ [] → Passed G e ts 0 ys
  begins ys i = record {
    holding = record {
      left = ap (λ (l : List State). once same_state l (gather (successors G e) (states ts))) i;
    };
    spared = refl;
  }

  pub ends : (i : ℕ) (v : Vec Tree Global) → length ts ≤ i → Passed G e ts i (states (vec_items v)) → too_many (states (vec_items v)) ≡ false →
      Follows G e (states ts) (Ok v)
  ends i v h a few =
      let n = ap states (drop_all i ts h) in
      let d = done same_state refl (ap (gather (successors G e)) n) a.holding in
      (d, ap₂ (λ (b c : Bool). b || c) (sym a.spared ∙ ap (any_full G e) n) (ap too_many (sym d) ∙ few))

  -- the state at place i
  module _ (i : ℕ) (p : Tree) (ys : List State) (h : i < length ts) (is : p ≡ get_or ts i p) (a : Passed G e ts i ys) where
    on : states (drop i ts) ≡ state p ∷ states (drop (i + 1) ts)
    on = states_on ts i p h is

    pub turns : (bs : List State) (v : Outcomes) → Stepped rule e (state p) (Ok v) →
        (bs ≡ once same_state ys (gather state_of (outcomes_in v))) × (too_many bs ≡ false) → Passed G e ts (i + 1) bs
    turns bs v s b =
        let k = stepped_is rule e (state p) (Ok v) s in
        record {
          holding = goes same_state (successors G e (state p)) (gather (successors G e) (states (drop (i + 1) ts))) (ap (gather (successors G e)) on) a.holding
              (b.0 ∙ ap (λ (l : List Out). once same_state ys (gather state_of l)) k.0);
          spared = ap (λ (c : Bool). c || any_full G e (states (drop (i + 1) ts))) (sym k.1) ∙ ap (any_full G e) (sym on) ∙ a.spared;
        }

    pub one_full : (q : Result (Vec Tree Global) StepFault) (f : StepFault) → Stepped rule e (state p) (Err f) → IsErrAnd q (λ y. y ≡ f) → Follows G e (states ts) q
    one_full q f s j =
        follows_err G e (states ts) q f
        (says_more (full G e (state p)) (refuses G e (states ts)) f
        (λ k. or_left (any_full G e (states ts)) (too_many (after G e (states ts)))
        (sym a.spared ∙ ap (any_full G e) on ∙ or_left (full G e (state p)) (any_full G e (states (drop (i + 1) ts))) k))
        (stepped_is rule e (state p) (Err f) s)) j

    pub all_full : (v : Outcomes) (q : Result (Vec Tree Global) StepFault) (f : StepFault) → Stepped rule e (state p) (Ok v) →
        Says (too_many (once same_state ys (gather state_of (outcomes_in v)))) f → IsErrAnd q (λ y. y ≡ f) → Follows G e (states ts) q
    all_full v q f s b j =
        let k = stepped_is rule e (state p) (Ok v) s in
        follows_err G e (states ts) q f
        (says_more (too_many (once same_state ys (gather state_of (outcomes_in v)))) (refuses G e (states ts)) f
        (λ m. or_right (any_full G e (states ts)) (too_many (after G e (states ts)))
        (too_large same_state too_many many_kept (successors G e (state p)) (gather (successors G e) (states (drop (i + 1) ts))) (ap (gather (successors G e)) on) a.holding
        (ap (λ (l : List Out). too_many (once same_state ys (gather state_of l))) (sym k.0) ∙ m))) b) j
