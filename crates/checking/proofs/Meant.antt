use Rattle.std.proofs.Common.{◌≡◌, ℕ, suc, ◌+◌, ◌<◌, ◌≤◌, Bool, true, false, cond, not, ◌&&◌, leb, List, [], ◌∷◌, length, get_or, is_some, Some, None, Ok, Err, Option, Result, sym, refl, ap, ◌∙◌, subst, inl, inr, ⊎_elim, arith}
use Rattle.std.proofs.lemmas.Bool.{le-leb, lt-ltb, leb-true, ltb-true, and_parts, and_from, or_cases, or_parts, or_left, or_right, cases_lt, false≢true, true≢false}
use Rattle.rules.specs.declared.record.NodeRecord.{NodeRecord}
use Rattle.rules.specs.declared.node.Var.{Var}
use Rattle.rules.specs.declared.node.Var.TheVariants.{V0, V1, V2, V3}
use Rattle.rules.specs.declared.node.Node.{Node}
use Rattle.rules.specs.declared.node.Node.TheVariants.{Empty}
use Rattle.std.proofs.lemmas.List.{get_or_past}
use Rattle.rules.specs.Layout.{decoded}
use Rattle.checking.specs.declared.links.Links.TheVariants.{Unguarded, Free}
use Rattle.checking.specs.declared.fault.CheckFault.{CheckFault}
use Rattle.checking.specs.declared.fault.CheckFault.TheVariants.{BadCount, BadLayout, Loop, TooHeavy, FreeAtStart}
use Rattle.checking.specs.Sets.{any_below}
use Rattle.checking.specs.Links.{targets, links, names, Ranged}
use Rattle.checking.specs.Paths.{Path, one, more, reach}
use Rattle.checking.specs.Weights.{Weigh, none, some}
use Rattle.rules.specs.Layout.{blank}
use Rattle.checking.specs.Nodes.{found, node_at}
use Rattle.checking.specs.Answer.{first, misplaced, on_loop, heavy as is_heavy, weights, free, is_free_at_start, assessed, answer_of, refusing}
use Rattle.checking.specs.Meaning.{Lowest, FreeIn, here, up, Looping, Over, Counted, Never, Broken, Says, bad_count, bad_layout, loop, too_heavy, free_at_start, fine}
use Rattle.checking.proofs.First.{first_none, first_some, first_is, first_nowhere}
use Rattle.checking.proofs.Placing.{past}
use Rattle.checking.proofs.Inside.{ranged}
use Rattle.checking.proofs.Reaching.{reach_path, path_reach, path_end}
use Rattle.checking.proofs.Weigh.{weighed}
use Rattle.checking.proofs.Frees.{free_here, free_up}
use Rattle.checking.proofs.Counts.{any_out}
use Rattle.checking.proofs.Inside.{decoded_inside, inside_wider}

clash : (b : Bool) → b ≡ true → b ≡ false → ⊥
clash b p q = true≢false (sym p ∙ q)

-- what a search over 128 numbers says of a test that decides P, where P holds below 128 only
module _ (P : ℕ → Type 0) (f : ℕ → Bool) (N : ℕ) (sound : (n : ℕ) → f n ≡ true → P n) (whole : (n : ℕ) → P n → (n < N) × (f n ≡ true)) where
  pub lowest : (n : ℕ) → first f 0 N ≡ Some n → Lowest P n
  lowest n q = let h = first_some f 0 N n q in (sound n h.0, λ m b p. clash (f m) (whole m p).1 (h.2 m (omega arith) b))

  pub never : first f 0 N ≡ None → Never P
  never q n p = let h = whole n p in let b = h.0 in clash (f n) h.1 (first_none f 0 N q n (omega arith) (omega arith))

-- weights are unique
weigh_one : (g : ℕ → Node) {ns : List ℕ} {x y : ℕ} → Weigh g ns x → Weigh g ns y → x ≡ y
weigh_one g none none = refl
weigh_one g (some {x = x} {y = y} p q) (some {x = x₁} {y = y₁} r s) = let a : x ≡ x₁ = weigh_one g p r in let b : y ≡ y₁ = weigh_one g q s in omega arith

module _ (g : ℕ → Node) (G : Ranged g) (B : (k : ℕ) → 128 ≤ k → g k ≡ Empty) where
  loop_sound : (n : ℕ) → on_loop g n ≡ true → Looping g n
  unfolding on_loop
  loop_sound n h = reach_path (links Unguarded g) 128 n n h

  loop_whole : (n : ℕ) → Looping g n → (n < 128) × (on_loop g n ≡ true)
  unfolding on_loop
  loop_whole n p = (path_end (links Unguarded g) 128 (ranged g G Unguarded) p, path_reach (links Unguarded g) 128 (ranged g G Unguarded) p)

  pub free_sound : (v : Var) (n : ℕ) → free g v n ≡ true → FreeIn g v n
  unfolding free
  free_sound v n x =
      elim (or_cases (names v (g n)) (any_below (λ m. reach (links (Free v) g) 128 n m && names v (g m)) 128) x) [
        | inl y ↦ here y
        | inr y ↦
            let z = any_out (λ m. reach (links (Free v) g) 128 n m && names v (g m)) 128 y in
            let w = and_parts (reach (links (Free v) g) 128 n z.0) (names v (g z.0)) z.2 in
            along (reach_path (links (Free v) g) 128 n z.0 w.0) (here w.1)
      ]
    where
      along : {i j : ℕ} → Path (links (Free v) g) i j → FreeIn g v j → FreeIn g v i
      along (one h) f = up h f
      along (more h p) f = up h (along p f)

  pub free_whole : (v : Var) (n : ℕ) → FreeIn g v n → free g v n ≡ true
  free_whole v n (here h) = free_here g G v n h
  free_whole v n (up {c = c} h p) = free_up g G v n c h (free_whole v c p)

  open_sound : is_free_at_start g ≡ true → (v : Var) × FreeIn g v 0
  open_sound q =
      elim (or_cases (free g V0 0) _ q) [
        | inl h ↦ (V0, free_sound V0 0 h)
        | inr r ↦
            elim (or_cases (free g V1 0) _ r) [
              | inl h ↦ (V1, free_sound V1 0 h)
              | inr s ↦
                  elim (or_cases (free g V2 0) _ s) [ inl h ↦ (V2, free_sound V2 0 h) | inr t ↦ (V3, free_sound V3 0 t) ]
            ]
      ]

  module _ (L : Never (Looping g)) where
    no_reach : (n : ℕ) → n < 128 → reach (links Unguarded g) 128 n n ≡ false
    no_reach n h = go (reach (links Unguarded g) 128 n n) refl
      where
        go : (b : Bool) → reach (links Unguarded g) 128 n n ≡ b → b ≡ false
        go true q = absurd (L n (reach_path (links Unguarded g) 128 n n q))
        go false q = refl

    weight_is : (n : ℕ) → Weigh g (n ∷ []) (suc (weights g 128 (targets Unguarded (g n))) + 0)
    weight_is n = some (weighed g G no_reach n) none

    heavy_sound : (n : ℕ) → is_heavy g n ≡ true → Over g n
    unfolding is_heavy
    heavy_sound n q = (_, (weight_is n, (let h = ltb-true 1000 (suc (weights g 128 (targets Unguarded (g n)))) q in omega arith)))

    heavy_whole : (n : ℕ) → Over g n → (n < 128) × (is_heavy g n ≡ true)
    unfolding is_heavy
    heavy_whole n o =
        let e = weigh_one g (weight_is n) o.1.0 in
        let h = o.1.1 in
        (⊎_elim (λ b. b) (λ b. absurd (few n o.0 (B n b) o.1.0 h)) (cases_lt n 128), lt-ltb 1000 _ (omega arith))
      where
        few : (n w : ℕ) → g n ≡ Empty → Weigh g (n ∷ []) w → 1000 < w → ⊥
        few n w e p h =
            let q : Weigh g (n ∷ []) 1 = some (subst (λ (x : Node). Weigh g (targets Unguarded x) 0) (sym e) none) none in
            let d : w ≡ 1 = weigh_one g p q in
            omega arith

module _ (rs : List NodeRecord) where
  broken_sound : (k : ℕ) → misplaced rs k ≡ true → Broken rs k
  broken_sound k q = go (found rs k) refl q
    where
      go : (o : Option Node) → found rs k ≡ o → not (is_some o) ≡ true → o ≡ None
      go None e h = refl
      go (Some n) e h = absurd (false≢true h)

  broken_whole : (k : ℕ) → Broken rs k → (k < length rs) × (misplaced rs k ≡ true)
  broken_whole k e = (
    ⊎_elim (λ b. b) (λ b. let s : found rs k ≡ Some Empty = ap (λ (r : NodeRecord). decoded (length rs) r) (get_or_past rs k blank b) in
        cc) (cases_lt k (length rs)),
    rw e,
  )

  says_open : Counted rs → Never (Broken rs) → Never (Looping (node_at rs)) → Never (Over (node_at rs)) → Ranged (node_at rs) → ((k : ℕ) → 128 ≤ k → node_at rs k ≡ Empty)
      → (b : Bool) → is_free_at_start (node_at rs) ≡ b → Says rs (cond b (Err FreeAtStart) (Ok tt))
  says_open C W L O G B true q = let h = open_sound (node_at rs) G B q in free_at_start C W L O h.1
  says_open C W L O G B false q = fine C W L O (λ v f. open_clash v (free_whole (node_at rs) G B v 0 f))
    where
      open_clash : (v : Var) → free (node_at rs) v 0 ≡ true → ⊥
      open_clash V0 h = clash _ h (or_parts (free (node_at rs) V0 0) _ q).0
      open_clash V1 h = clash _ h (or_parts (free (node_at rs) V1 0) _ (or_parts (free (node_at rs) V0 0) _ q).1).0
      open_clash V2 h = clash _ h (or_parts (free (node_at rs) V2 0) _ (or_parts (free (node_at rs) V1 0) _ (or_parts (free (node_at rs) V0 0) _ q).1).1).0
      open_clash V3 h = clash _ h (or_parts (free (node_at rs) V2 0) _ (or_parts (free (node_at rs) V1 0) _ (or_parts (free (node_at rs) V0 0) _ q).1).1).1

  says_heavy : Counted rs → Never (Broken rs) → (L : Never (Looping (node_at rs))) (G : Ranged (node_at rs)) (B : (k : ℕ) → 128 ≤ k → node_at rs k ≡ Empty)
      → (o : Option ℕ) → first (is_heavy (node_at rs)) 0 128 ≡ o → Says rs (refusing o TooHeavy (cond (is_free_at_start (node_at rs)) (Err FreeAtStart) (Ok tt)))
  says_heavy C W L G B (Some n) q = too_heavy C W L (lowest (Over (node_at rs)) (is_heavy (node_at rs)) 128 (heavy_sound (node_at rs) G B L) (heavy_whole (node_at rs) G B L) n q)
  says_heavy C W L G B None q =
      says_open C W L (never (Over (node_at rs)) (is_heavy (node_at rs)) 128 (heavy_sound (node_at rs) G B L) (heavy_whole (node_at rs) G B L) q) G B (is_free_at_start (node_at rs)) refl

  says_loop : Counted rs → Never (Broken rs) → (G : Ranged (node_at rs)) (B : (k : ℕ) → 128 ≤ k → node_at rs k ≡ Empty)
      → (o : Option ℕ) → first (on_loop (node_at rs)) 0 128 ≡ o → Says rs (refusing o Loop (refusing (first (is_heavy (node_at rs)) 0 128) TooHeavy (cond (is_free_at_start (node_at rs)) (Err FreeAtStart) (Ok tt))))
  says_loop C W G B (Some n) q = loop C W (lowest (Looping (node_at rs)) (on_loop (node_at rs)) 128 (loop_sound (node_at rs) G B) (loop_whole (node_at rs) G B) n q)
  says_loop C W G B None q =
      says_heavy C W (never (Looping (node_at rs)) (on_loop (node_at rs)) 128 (loop_sound (node_at rs) G B) (loop_whole (node_at rs) G B) q) G B (first (is_heavy (node_at rs)) 0 128) refl

  says_layout : Counted rs → (o : Option ℕ) → first (misplaced rs) 0 (length rs) ≡ o → Says rs (refusing o BadLayout (assessed (node_at rs)))
  says_layout C (Some k) q = bad_layout C (lowest (Broken rs) (misplaced rs) (length rs) broken_sound broken_whole k q)
  says_layout C None q =
      says_loop C (never (Broken rs) (misplaced rs) (length rs) broken_sound broken_whole q)
      (λ k. inside_wider (node_at rs k) (length rs) 128 C.1 (decoded_inside (length rs) (get_or rs k blank)))
      (λ k b. past rs k (let h = C.1 in omega arith)) (first (on_loop (node_at rs)) 0 128) refl

  says_count : (b : Bool) → (leb 1 (length rs) && leb (length rs) 128) ≡ b → Says rs (cond b (refusing (first (misplaced rs) 0 (length rs)) BadLayout (assessed (node_at rs))) (Err BadCount))
  says_count true q = let h = and_parts (leb 1 (length rs)) (leb (length rs) 128) q in says_layout (leb-true 1 (length rs) h.0, leb-true (length rs) 128 h.1) (first (misplaced rs) 0 (length rs)) refl
  says_count false q = bad_count (λ c. clash _ (and_from _ _ (le-leb 1 (length rs) c.0) (le-leb (length rs) 128 c.1)) q)

pub says : (rs : List NodeRecord) → Says rs (answer_of rs)
says rs = says_count rs (leb 1 (length rs) && leb (length rs) 128) refl

-- and the other way round
no_true : (b : Bool) → (b ≡ true → ⊥) → b ≡ false
no_true true f = absurd (f refl)
no_true false f = refl

module _ (P : ℕ → Type 0) (f : ℕ → Bool) (N : ℕ) (sound : (n : ℕ) → f n ≡ true → P n) (whole : (n : ℕ) → P n → (n < N) × (f n ≡ true)) where
  pub found_at : (n : ℕ) → Lowest P n → first f 0 N ≡ Some n
  found_at n l = let h = whole n l.0 in let b = h.0 in first_is f 0 N n (omega arith) (omega arith) h.1 (λ m a c. no_true (f m) (λ t. l.1 m c (sound m t)))

  pub nowhere : Never P → first f 0 N ≡ None
  nowhere l = first_nowhere f 0 N (λ m. no_true (f m) (λ t. l m (sound m t)))

module _ (rs : List NodeRecord) (C : Counted rs) where
  in_range : Ranged (node_at rs)
  in_range k = inside_wider (node_at rs k) (length rs) 128 C.1 (decoded_inside (length rs) (get_or rs k blank))

  outside : (k : ℕ) → 128 ≤ k → node_at rs k ≡ Empty
  outside k b = past rs k (let h = C.1 in omega arith)

  assessed_when : Never (Broken rs) → answer_of rs ≡ assessed (node_at rs)
  assessed_when W = rw (le-leb 1 (length rs) C.0, le-leb (length rs) 128 C.1, nowhere (Broken rs) (misplaced rs) (length rs) (broken_sound rs) (broken_whole rs) W)

  no_loops : Never (Looping (node_at rs)) → first (on_loop (node_at rs)) 0 128 ≡ None
  no_loops L = nowhere (Looping (node_at rs)) (on_loop (node_at rs)) 128 (loop_sound (node_at rs) in_range outside) (loop_whole (node_at rs) in_range outside) L

  no_heavy : Never (Looping (node_at rs)) → Never (Over (node_at rs)) → first (is_heavy (node_at rs)) 0 128 ≡ None
  no_heavy L O = nowhere (Over (node_at rs)) (is_heavy (node_at rs)) 128 (heavy_sound (node_at rs) in_range outside L) (heavy_whole (node_at rs) in_range outside L) O

  is_open : (v : Var) → FreeIn (node_at rs) v 0 → is_free_at_start (node_at rs) ≡ true
  is_open V0 f = or_left _ _ (free_whole (node_at rs) in_range outside V0 0 f)
  is_open V1 f = or_right (free (node_at rs) V0 0) _ (or_left _ _ (free_whole (node_at rs) in_range outside V1 0 f))
  is_open V2 f = or_right (free (node_at rs) V0 0) _ (or_right (free (node_at rs) V1 0) _ (or_left _ _ (free_whole (node_at rs) in_range outside V2 0 f)))
  is_open V3 f = or_right (free (node_at rs) V0 0) _ (or_right (free (node_at rs) V1 0) _ (or_right (free (node_at rs) V2 0) _ (free_whole (node_at rs) in_range outside V3 0 f)))

pub said : (rs : List NodeRecord) (r : Result (Unit {0}) CheckFault) → Says rs r → answer_of rs ≡ r
said rs _ (bad_count f) = rw (no_true (leb 1 (length rs) && leb (length rs) 128) (λ t. let h = and_parts (leb 1 (length rs)) (leb (length rs) 128) t in f (leb-true 1 (length rs) h.0, leb-true (length rs) 128 h.1)))
said rs _ (bad_layout {k = k} C l) = rw (le-leb 1 (length rs) C.0, le-leb (length rs) 128 C.1, found_at (Broken rs) (misplaced rs) (length rs) (broken_sound rs) (broken_whole rs) k l)
said rs _ (loop {n = n} C W l) =
    assessed_when rs C W
    ∙ rw (found_at (Looping (node_at rs)) (on_loop (node_at rs)) 128 (loop_sound (node_at rs) (in_range rs C) (outside rs C)) (loop_whole (node_at rs) (in_range rs C) (outside rs C)) n l)
said rs _ (too_heavy {n = n} C W L l) =
    assessed_when rs C W
    ∙ rw (no_loops rs C L, found_at (Over (node_at rs)) (is_heavy (node_at rs)) 128 (heavy_sound (node_at rs) (in_range rs C) (outside rs C) L) (heavy_whole (node_at rs) (in_range rs C) (outside rs C) L) n l)
said rs _ (free_at_start {v = v} C W L O f) = assessed_when rs C W ∙ rw (no_loops rs C L, no_heavy rs C L O, is_open rs C v f)
said rs _ (fine C W L O f) =
    assessed_when rs C W
    ∙ rw (no_loops rs C L, no_heavy rs C L O, no_true (is_free_at_start (node_at rs)) (λ t. let h = open_sound (node_at rs) (in_range rs C) (outside rs C) t in f h.0 h.1))
