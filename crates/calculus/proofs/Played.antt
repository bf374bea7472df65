-- A play of nodes with a certificate: the run of the certified graph says what the reading and every checked rule of these nodes say.
use Rattle.std.proofs.Common.{◌≡◌, ℕ, zero, suc, ◌+◌, ◌^◌, ◌≤◌, Bool, true, ◌&&◌, eqb, ltb, leb, List, [], ◌∷◌, map, length, get_or, Ok, Err, sym, refl, ◌∙◌, subst, inl, inr, true≢false, arith, lit≤}
use mathlib.Core.Path.{fun_ext}
use Rattle.std.proofs.lemmas.Bool.{eqb-true, leb-true, cases_lt, and_parts, ltb-true}
use Rattle.checking.specs.declared.fault.CheckFault.TheVariants.{TooHeavy}
use Rattle.std.proofs.lemmas.List.{get_or_past}
use Rattle.rules.specs.declared.record.NodeRecord.{NodeRecord}
use Rattle.rules.specs.Layout.{blank, decoded}
use Rattle.checking.specs.declared.links.Links.TheVariants.{Unguarded}
use Rattle.checking.specs.Links.{node as node_in, targets}
use Rattle.checking.specs.Weights.{Weigh}
use Rattle.checking.specs.Nodes.{found, node_at}
use Rattle.checking.specs.Answer.{answer_of, heavy}
use Rattle.checking.specs.Made.{Made}
use Rattle.checking.specs.Meaning.{Counted}
use Rattle.calculus.specs.Vocabulary.{Empty, Meaning, Node, None, Option, Rule, Some}
use Rattle.calculus.specs.Numbers.{Choice}
use Rattle.calculus.specs.Matching.{AllProper, NarrowSlot}
use Rattle.calculus.specs.Graphs.{ClosedAtStart, Graph, graph_of, WellFormed}
use Rattle.calculus.specs.Runs.{begin, Broken, MayEnd, Open, run, Verdict, verdict}
use Rattle.calculus.specs.Theorems.{Follows, Greatest}
use Rattle.calculus.specs.Plays.{Comes, Holds, play, Reads, record_of}
use Rattle.calculus.proofs.Checked.{closed_at_start, well_formed}
use Rattle.calculus.proofs.Following.{follows}
use Rattle.calculus.proofs.Certificates.{all_at, all_below, Certificate, certified, certified_well, fits, light, loopless, named_free, total, weighs_table}
use Rattle.calculus.proofs.Answering.{answers_fine, answers_heavy, nodes_are}

-- each node's record stands for it
abbrev pub Decode : ℕ → List Node → Type 0
Decode m [] = Unit {0}
Decode m (n ∷ ns) = (decoded m (record_of n) ≡ Some n) × Decode m ns

pub decode_at : (m : ℕ) (ns : List Node) → Decode m ns → (k : ℕ) → decoded m (get_or (map record_of ns) k blank) ≡ Some (node_in ns k)
decode_at m [] d k = refl
decode_at m (n ∷ ns) d zero = d.0
decode_at m (n ∷ ns) d (suc k) = decode_at m ns d.1 k

greatest_one : (g : ℕ → Node) (ρ : Choice) (es : List Meaning) (n m : ℕ) → Greatest g ρ es n → Greatest g ρ es m → n ≡ m
greatest_one g ρ es n m p q =
    let a = p.most m q.within q.is in let b = q.most n p.within p.is in omega arith

-- verdict and reading, both ways
module _ (G : Graph) (ρ : Choice) (es : List Meaning) (F : Follows G ρ es (run G es begin)) where
  reads_as : (w : Verdict) → verdict G (run G es begin) ≡ w → Reads G.node ρ es w
  reads_as Broken q = F.broken.0 q
  reads_as MayEnd q = F.may_end.0 q
  reads_as Open q = F.goes_on.0 q

  judged_as : (w : Verdict) → Reads G.node ρ es w → verdict G (run G es begin) ≡ w
  judged_as Broken x = F.broken.1 x
  judged_as MayEnd x = F.may_end.1 x
  judged_as Open x = F.goes_on.1 x

-- a test for proper events
abbrev narrow : Option ℕ → Bool
narrow None = true
narrow (Some k) = ltb k (2 ^ 32)

abbrev pub all_narrow : List Meaning → Bool
all_narrow [] = true
all_narrow (e ∷ es) = (narrow e.player && (narrow e.card && narrow e.strokes)) && all_narrow es

narrow_slot : (o : Option ℕ) → narrow o ≡ true → NarrowSlot o
narrow_slot None q = tt
narrow_slot (Some k) q = ltb-true k (2 ^ 32) q

all_proper : (es : List Meaning) → all_narrow es ≡ true → AllProper es
all_proper [] q = tt
all_proper (e ∷ es) q =
    let a = and_parts (narrow e.player && (narrow e.card && narrow e.strokes)) (all_narrow es) q in
    let b = and_parts (narrow e.player) (narrow e.card && narrow e.strokes) a.0 in
    let c = and_parts (narrow e.card) (narrow e.strokes) b.1 in
    (record { player = narrow_slot e.player b.0; card = narrow_slot e.card c.0; strokes = narrow_slot e.strokes c.1 }, all_proper es a.1)

-- what is computed of a certificate
pub record Certifies (ns : List Node) (c : Certificate) : Type 0 where
  pub decode : Decode (length (map record_of ns)) ns
  pub counted : Counted (map record_of ns)
  pub fit : all_below (λ k. fits (certified ns c) k (node_in ns k)) (length ns) ≡ true
  pub closed : ClosedAtStart (certified ns c)
  pub weighed : all_below (λ k. eqb (suc (total c.weights (targets Unguarded (node_in ns k)))) (get_or c.weights k 1)) (length ns) ≡ true
  pub table : length c.weights ≡ length ns

module _ (ns : List Node) (c : Certificate) (E : Certifies ns c) where
  abbrev rs : List NodeRecord
  rs = map record_of ns

  abbrev T : Graph
  T = certified ns c

  found_at : (k : ℕ) → found rs k ≡ Some (node_in ns k)
  found_at k = decode_at (length rs) ns E.decode k

  are : node_at rs ≡ node_in ns
  are = nodes_are rs (node_in ns) E.counted found_at

  well : WellFormed T
  well = certified_well ns c E.fit

  weight : (n : ℕ) → suc (total c.weights (targets Unguarded (node_in ns n))) ≡ get_or c.weights n 1
  weight n =
      elim (cases_lt n (length ns)) [
        | inl h ↦ eqb-true _ _ (all_at (λ k. eqb (suc (total c.weights (targets Unguarded (node_in ns k)))) (get_or c.weights k 1)) (length ns) E.weighed n h)
        | inr h ↦ rw (get_or_past ns n Empty h, get_or_past c.weights n 1 (let t = E.table in omega arith))
      ]

  pub weighs_so : Weigh (node_at rs) (0 ∷ []) (get_or c.weights 0 1 + 0)
  weighs_so = subst (λ (g : ℕ → Node). Weigh g (0 ∷ []) (get_or c.weights 0 1 + 0)) (sym are) (weighs_table T well c.weights weight 0)

  -- where every weight is at most 1000, checking accepts
  pub accepted : all_below (λ k. leb (get_or c.weights k 1) 1000) (length ns) ≡ true → answer_of rs ≡ Ok tt
  accepted L =
      answers_fine rs (node_in ns) E.counted found_at (loopless T well) (light T well c.weights weight most)
      (λ v f. true≢false (sym (named_free T well v f) ∙ E.closed v))
    where
      most : (n : ℕ) → get_or c.weights n 1 ≤ 1000
      most n =
          elim (cases_lt n (length ns)) [
            | inl h ↦ leb-true (get_or c.weights n 1) 1000 (all_at (λ k. leb (get_or c.weights k 1) 1000) (length ns) L n h)
            | inr h ↦ rw (get_or_past c.weights n 1 (let t = E.table in omega arith)) (lit≤ tt)
          ]

  -- where node 0 is too heavy, checking refuses
  pub refused_heavy : heavy (node_in ns) 0 ≡ true → answer_of rs ≡ Err (TooHeavy 0)
  refused_heavy h = answers_heavy rs (node_in ns) E.counted found_at (loopless T well) h

  module _ (es : List Meaning) (P : AllProper es) (n : ℕ) (w : Verdict) (tk : (run T es begin).taken ≡ n) (vd : verdict T (run T es begin) ≡ w) where
    T-follows : (ρ : Choice) → Follows T ρ es (run T es begin)
    T-follows ρ = follows T well E.closed ρ es P

    pub comes : (r : Rule) → Made rs r → Comes r es n w
    comes r made = record {
      shown = at_zero.shown;
      taken = greatest_one (graph_of r).node zeros es _ n at_zero.taken (great zeros);
      judged = judged_as (graph_of r) zeros es at_zero w (reading zeros);
      greatest = great;
      reads = reading;
    }
      where
        zeros : Choice
        zeros v = 0

        at_zero : Follows (graph_of r) zeros es (run (graph_of r) es begin)
        at_zero = follows (graph_of r) (well_formed r) (closed_at_start r) zeros es P

        same_nodes : (graph_of r).node ≡ node_in ns
        same_nodes = fun_ext made.decodes ∙ are

        great : (ρ : Choice) → Greatest (graph_of r).node ρ es n
        great ρ = subst (λ (g : ℕ → Node). Greatest g ρ es n) (sym same_nodes) (subst (λ (k : ℕ). Greatest (node_in ns) ρ es k) tk (T-follows ρ).taken)

        reading : (ρ : Choice) → Reads (graph_of r).node ρ es w
        reading ρ = subst (λ (g : ℕ → Node). Reads g ρ es w) (sym same_nodes) (reads_as T ρ es (T-follows ρ) w vd)

  pub holds : all_below (λ k. leb (get_or c.weights k 1) 1000) (length ns) ≡ true →
      (es : List Meaning) (n : ℕ) (w : Verdict) → all_narrow es ≡ true → (run T es begin).taken ≡ n → verdict T (run T es begin) ≡ w → Holds (play ns es n w)
  holds L es n w q t v = (accepted L, comes es (all_proper es q) n w t v)
