-- Facts about given nodes, by computation: a certificate holds free variables, ranks and weights, and tests say that they fit.
use Rattle.std.proofs.Common.{◌≡◌, ℕ, zero, suc, ◌+◌, ◌<◌, ◌≤◌, Bool, true, false, not, ◌&&◌, ◌||◌, eqb, ltb, List, [], ◌∷◌, length, get_or, sym, refl, subst, inl, inr, arith}
use mathlib.Core.Bool.{false≢true}
use Rattle.std.proofs.lemmas.Bool.{and_parts, or_cases, or_left, or_right, eqb-true, eq-eqb, ltb-true, cases_lt, le-ltb}
use Rattle.std.proofs.lemmas.List.{get_or_past}
use Rattle.checking.specs.declared.links.Links.TheVariants.{Unguarded, Free}
use Rattle.checking.specs.Links.{node as node_in, targets, among, links, names, slot_names}
use Rattle.checking.specs.FreeSets.{implies}
use Rattle.checking.specs.Paths.{Path, one, more}
use Rattle.checking.specs.Weights.{Weigh, none, some}
use Rattle.checking.specs.Answer.{weights, heavy}
use Rattle.checking.specs.Meaning.{FreeIn as Named, here as named_here, up as named_up, Never, Looping}
use Rattle.calculus.specs.Vocabulary.{Any, Binder, Constant, Empty, Filter, Node, Pair, Prefix, same, Slot, V0, V1, V2, V3, Var, Variable}
use Rattle.calculus.specs.Graphs.{Graph, Names, WellFormed, WellFormedAt, Within}
use Rattle.calculus.proofs.Substitutions.{same_case}
use Rattle.calculus.proofs.Equality.{same_var_eq}

-- a test of every number below n
abbrev pub all_below : (ℕ → Bool) → ℕ → Bool
all_below f zero = true
all_below f (suc k) = f k && all_below f k

pub all_at : (f : ℕ → Bool) (n : ℕ) → all_below f n ≡ true → (k : ℕ) → k < n → f k ≡ true
all_at f zero q k h = absurd (omega arith)
all_at f (suc n) q k h =
    let s = and_parts (f n) (all_below f n) q in
    elim (native.Mathlib.Decide.ℕ_discrete k n) [
      | yes e ↦ subst (λ (z : ℕ). f z ≡ true) (sym e) s.0
      | no d ↦ let h' : k < n = omega arith in all_at f n s.1 k h'
    ]

-- the tests
abbrev subset : (Var → Bool) → (Var → Bool) → Bool
subset f g = implies (f V0) (g V0) && (implies (f V1) (g V1) && (implies (f V2) (g V2) && implies (f V3) (g V3)))

abbrev slot_within : Slot → (Var → Bool) → Bool
slot_within Any f = true
slot_within (Constant k) f = true
slot_within (Variable v) f = f v

abbrev pub fits : Graph → ℕ → Node → Bool
fits G n Empty = true
fits G n (Prefix p t) =
    (slot_within p.player (G.free n) && (slot_within p.card (G.free n) && slot_within p.strokes (G.free n))) && subset (G.free t) (G.free n)
fits G n (Pair o a b) =
    (ltb (G.rank a) (G.rank n) && ltb (G.rank b) (G.rank n)) && (subset (G.free a) (G.free n) && subset (G.free b) (G.free n))
fits G n (Binder v c) = ltb (G.rank c) (G.rank n) && subset (λ w. not (same v w) && G.free c w) (G.free n)
fits G n (Filter p c) = ltb (G.rank c) (G.rank n) && subset (G.free c) (G.free n)

-- and what they say
implied : (a b : Bool) → implies a b ≡ true → a ≡ true → b ≡ true
implied true b q p = q
implied false b q p = absurd (false≢true p)

subset_within : (f g : Var → Bool) → subset f g ≡ true → Within f g
subset_within f g q =
    let a = and_parts (implies (f V0) (g V0)) (implies (f V1) (g V1) && (implies (f V2) (g V2) && implies (f V3) (g V3))) q in
    let b = and_parts (implies (f V1) (g V1)) (implies (f V2) (g V2) && implies (f V3) (g V3)) a.1 in
    let c = and_parts (implies (f V2) (g V2)) (implies (f V3) (g V3)) b.1 in
    elim [ V0 ↦ implied (f V0) (g V0) a.0 | V1 ↦ implied (f V1) (g V1) b.0 | V2 ↦ implied (f V2) (g V2) c.0 | V3 ↦ implied (f V3) (g V3) c.1 ]

slot_names_within : (s : Slot) (f : Var → Bool) → slot_within s f ≡ true → (v : Var) → Names v s → f v ≡ true
slot_names_within Any f q v i = absurd i
slot_names_within (Constant k) f q v i = absurd i
slot_names_within (Variable w) f q v i = subst (λ (u : Var). f u ≡ true) i q

fits_well : (G : Graph) (n : ℕ) (nd : Node) → fits G n nd ≡ true → WellFormedAt G n nd
fits_well G n Empty q = tt
fits_well G n (Prefix p t) q =
    let a = and_parts (slot_within p.player (G.free n) && (slot_within p.card (G.free n) && slot_within p.strokes (G.free n))) (subset (G.free t) (G.free n)) q in
    let b = and_parts (slot_within p.player (G.free n)) (slot_within p.card (G.free n) && slot_within p.strokes (G.free n)) a.0 in
    let c = and_parts (slot_within p.card (G.free n)) (slot_within p.strokes (G.free n)) b.1 in (
      record {
        player = slot_names_within p.player (G.free n) b.0;
        card = slot_names_within p.card (G.free n) c.0;
        strokes = slot_names_within p.strokes (G.free n) c.1;
      },
      subset_within (G.free t) (G.free n) a.1,
    )
fits_well G n (Pair o a b) q =
    let x = and_parts (ltb (G.rank a) (G.rank n) && ltb (G.rank b) (G.rank n)) (subset (G.free a) (G.free n) && subset (G.free b) (G.free n)) q in
    let y = and_parts (ltb (G.rank a) (G.rank n)) (ltb (G.rank b) (G.rank n)) x.0 in
    let z = and_parts (subset (G.free a) (G.free n)) (subset (G.free b) (G.free n)) x.1 in (
      ltb-true (G.rank a) (G.rank n) y.0,
      ltb-true (G.rank b) (G.rank n) y.1,
      subset_within (G.free a) (G.free n) z.0,
      subset_within (G.free b) (G.free n) z.1,
    )
fits_well G n (Binder v c) q =
    let x = and_parts (ltb (G.rank c) (G.rank n)) (subset (λ w. not (same v w) && G.free c w) (G.free n)) q in (
      ltb-true (G.rank c) (G.rank n) x.0,
      λ w f s. subset_within (λ u. not (same v u) && G.free c u) (G.free n) x.1 w (rw (s, f)),
    )
fits_well G n (Filter p c) q =
    let x = and_parts (ltb (G.rank c) (G.rank n)) (subset (G.free c) (G.free n)) q in
    (ltb-true (G.rank c) (G.rank n) x.0, subset_within (G.free c) (G.free n) x.1)

-- free variables, ranks and weights for the nodes of a list
pub record Certificate : Type 0 where
  pub frees : List (Var → Bool)
  pub ranks : List ℕ
  pub weights : List ℕ

abbrev pub none_free : Var → Bool
none_free v = false

abbrev pub certified : List Node → Certificate → Graph
certified ns c = record { node = node_in ns; free = λ n. get_or c.frees n none_free; rank = λ n. get_or c.ranks n 0 }

pub certified_well : (ns : List Node) (c : Certificate) → all_below (λ k. fits (certified ns c) k (node_in ns k)) (length ns) ≡ true → WellFormed (certified ns c)
certified_well ns c q k =
    elim (cases_lt k (length ns)) [
      | inl h ↦ fits_well (certified ns c) k (node_in ns k) (all_at (λ i. fits (certified ns c) i (node_in ns i)) (length ns) q k h)
      | inr h ↦ subst (WellFormedAt (certified ns c) k) (sym (get_or_past ns k Empty h)) tt
    ]

module _ (G : Graph) (W : WellFormed G) where
  among_falls : (n c : ℕ) (nd : Node) → WellFormedAt G n nd → among c (targets Unguarded nd) ≡ true → G.rank c < G.rank n
  among_falls n c Empty F h = absurd (false≢true h)
  among_falls n c (Prefix p t) F h = absurd (false≢true h)
  among_falls n c (Pair o a b) F h =
      elim (or_cases (eqb a c) (eqb b c || false) h) [
        | inl x ↦ subst (λ (z : ℕ). G.rank z < G.rank n) (eqb-true a c x) F.0
        | inr y ↦ elim (or_cases (eqb b c) false y)
            [ inl x ↦ subst (λ (z : ℕ). G.rank z < G.rank n) (eqb-true b c x) F.1 | inr x ↦ absurd (false≢true x) ]
      ]
  among_falls n c (Binder v a) F h =
      elim (or_cases (eqb a c) false h) [ inl x ↦ subst (λ (z : ℕ). G.rank z < G.rank n) (eqb-true a c x) F.0 | inr x ↦ absurd (false≢true x) ]
  among_falls n c (Filter p a) F h =
      elim (or_cases (eqb a c) false h) [ inl x ↦ subst (λ (z : ℕ). G.rank z < G.rank n) (eqb-true a c x) F.0 | inr x ↦ absurd (false≢true x) ]

  link_falls : (n c : ℕ) → links Unguarded G.node n c ≡ true → G.rank c < G.rank n
  link_falls n c h = among_falls n c (G.node n) (W n) h

  path_falls : {n m : ℕ} → Path (links Unguarded G.node) n m → G.rank m < G.rank n
  path_falls (one {i = i} {j = j} h) = link_falls i j h
  path_falls (more {i = i} {j = j} h p) = let a = link_falls i j h in let b = path_falls p in omega arith

  pub loopless : Never (Looping G.node)
  loopless n p = let h = path_falls p in omega arith

  -- free variables are among those of the certificate
  names_slot : (v : Var) (s : Slot) → slot_names v s ≡ true → Names v s
  names_slot v Any q = absurd (false≢true q)
  names_slot v (Constant k) q = absurd (false≢true q)
  names_slot v (Variable w) q = same_var_eq w v q

  names_free : (v : Var) (n : ℕ) (nd : Node) → WellFormedAt G n nd → names v nd ≡ true → G.free n v ≡ true
  names_free v n Empty F h = absurd (false≢true h)
  names_free v n (Prefix p t) F h =
      elim (or_cases (slot_names v p.player) (slot_names v p.card || slot_names v p.strokes) h) [
        | inl x ↦ F.0.player v (names_slot v p.player x)
        | inr y ↦ elim (or_cases (slot_names v p.card) (slot_names v p.strokes) y)
            [ inl x ↦ F.0.card v (names_slot v p.card x) | inr x ↦ F.0.strokes v (names_slot v p.strokes x) ]
      ]
  names_free v n (Pair o a b) F h = absurd (false≢true h)
  names_free v n (Binder w c) F h = absurd (false≢true h)
  names_free v n (Filter p c) F h = absurd (false≢true h)

  only : (v : Var) (a c : ℕ) → (eqb a c || false) ≡ true → G.free c v ≡ true → G.free a v ≡ true
  only v a c h f = elim (or_cases (eqb a c) false h) [ inl x ↦ subst (λ (z : ℕ). G.free z v ≡ true) (sym (eqb-true a c x)) f | inr x ↦ absurd (false≢true x) ]

  up_free : (v : Var) (n c : ℕ) (nd : Node) → WellFormedAt G n nd → among c (targets (Free v) nd) ≡ true → G.free c v ≡ true → G.free n v ≡ true
  up_free v n c Empty F h f = absurd (false≢true h)
  up_free v n c (Prefix p t) F h f = F.1 v (only v t c h f)
  up_free v n c (Pair o a b) F h f =
      elim (or_cases (eqb a c) (eqb b c || false) h)
      [ inl x ↦ F.2 v (subst (λ (z : ℕ). G.free z v ≡ true) (sym (eqb-true a c x)) f) | inr y ↦ F.3 v (only v b c y f) ]
  up_free v n c (Binder w a) F h f =
      elim (same_case w v)
      [ inl s ↦ absurd (false≢true (rw s.0 at h)) | inr s ↦ F.1 v (only v a c (rw s at h) f) s ]
  up_free v n c (Filter p a) F h f = F.1 v (only v a c h f)

  pub named_free : (v : Var) {n : ℕ} → Named G.node v n → G.free n v ≡ true
  named_free v (named_here {n = n} h) = names_free v n (G.node n) (W n) h
  named_free v (named_up {n = n} {c = c} h p) = up_free v n c (G.node n) (W n) h (named_free v p)

-- what nodes weigh together, by a table of weights
abbrev pub total : List ℕ → List ℕ → ℕ
total ws [] = 0
total ws (n ∷ ns) = get_or ws n 1 + total ws ns

module _ (G : Graph) (W : WellFormed G) (ws : List ℕ) (weight : (n : ℕ) → suc (total ws (targets Unguarded (G.node n))) ≡ get_or ws n 1) where
  weigh_all : (f : ℕ) → ((c : ℕ) → G.rank c < f → Weigh G.node (targets Unguarded (G.node c)) (total ws (targets Unguarded (G.node c)))) →
      (cs : List ℕ) → ((c : ℕ) → among c cs ≡ true → G.rank c < f) → Weigh G.node cs (total ws cs)
  weigh_all f below [] h = none
  weigh_all f below (c ∷ cs) h =
      subst (λ (x : ℕ). Weigh G.node (c ∷ cs) (x + total ws cs)) (weight c)
      (some (below c (h c (or_left _ _ (eq-eqb c c refl)))) (weigh_all f below cs (λ d i. h d (or_right (eqb c d) _ i))))

  weigh_below : (f c : ℕ) → G.rank c < f → Weigh G.node (targets Unguarded (G.node c)) (total ws (targets Unguarded (G.node c)))
  weigh_below zero c h = absurd (omega arith)
  weigh_below (suc f) c h =
      weigh_all f (weigh_below f) (targets Unguarded (G.node c)) (λ d i. let k = link_falls G W c d i in omega arith)

  pub weighs_table : (n : ℕ) → Weigh G.node (n ∷ []) (get_or ws n 1 + 0)
  weighs_table n = weigh_all (suc (G.rank n)) (weigh_below (suc (G.rank n))) (n ∷ [])
      (λ c i. elim (or_cases (eqb n c) false i) [ inl x ↦ subst (λ (z : ℕ). G.rank z < suc (G.rank n)) (eqb-true n c x) (omega arith) | inr x ↦ absurd (false≢true x) ])

  weights_most : (d : ℕ) (cs : List ℕ) → weights G.node d cs ≤ total ws cs
  unfolding weights
  weights_most zero cs = omega arith
  weights_most (suc d) [] = omega arith
  weights_most (suc d) (n ∷ ns) =
      let a = weights_most d (targets Unguarded (G.node n)) in let b = weights_most (suc d) ns in let c = weight n in omega arith

  pub light : ((n : ℕ) → get_or ws n 1 ≤ 1000) → (n : ℕ) → heavy G.node n ≡ false
  unfolding heavy
  light h n =
      let a = weights_most 128 (targets Unguarded (G.node n)) in let b = weight n in let c = h n in
      le-ltb 1000 (suc (weights G.node 128 (targets Unguarded (G.node n)))) (omega arith)
