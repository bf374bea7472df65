-- There is one judgement of a log, where memory suffices.
use Rattle.std.proofs.Common.{◌≡◌, ℕ, ◌≤◌, List, [], ◌∷◌, ◌++◌, Some, Ok, Option, sym, refl, ap, ◌∙◌, subst, arith}
use Rattle.events.specs.declared.derived.Entries.{Entries}
use Rattle.lines.specs.declared.line.Line.{Line}
use Rattle.lines.specs.declared.log.LogLine.{LogLine}
use Rattle.lines.specs.Logs.{lines_of, log_line_of}
use Rattle.calculus.specs.Vocabulary.{Rule, Meaning}
use Rattle.calculus.specs.Numbers.{Choice}
use Rattle.calculus.specs.declared.verdict.Verdict.{Verdict}
use Rattle.calculus.specs.declared.verdict.Verdict.TheVariants.{Broken, MayEnd, Open}
use Rattle.monitor.specs.declared.Counts.{Counts}
use Rattle.monitor.specs.Uses.{Counted, Judged}
use Rattle.judging.specs.declared.fault.JudgeFault.{JudgeFault}
use Rattle.judging.specs.declared.fault.JudgeFault.TheVariants.{BadLine}
use Rattle.judging.specs.declared.judgement.Judgement.{Judgement}
use Rattle.judging.specs.Judging.{event_of, FullAfter, Goes, at_the_end, at_a_bad_line, where_full, out_of_memory, one_more, Stops, too_long, line_by_line, Judges, Sufficed, Alone}

-- two ends of one log
record Same (es fs : List Meaning) (o p : Option JudgeFault) : Type 0 where
  events : es ≡ fs
  fault : o ≡ p

module _ (r : Rule) (en : Entries) (log : List ℕ) where
  same_line : (l : LogLine) (x y : Line) → log_line_of l log ≡ Ok x → log_line_of l log ≡ Ok y → x ≡ y
  same_line l x y p q = cc

  goes_alike : (es fs gs : List Meaning) (ls : List LogLine) (o p : Option JudgeFault) → Goes r en log es ls fs o → Goes r en log es ls gs p → Sufficed o → Sufficed p → Same fs gs o p
  goes_alike es fs gs ls o p at_the_end at_the_end s t = record { events = refl; fault = refl }
  goes_alike es fs gs ls o p (at_a_bad_line {f = f} q) (at_a_bad_line {f = g} v) s t = record { events = refl; fault = let e : f ≡ g = cc in ap (λ h. Some (BadLine h)) e }
  goes_alike es fs gs ls o p (at_a_bad_line q) (where_full v h) s t = absurd (let z : ◌≡◌ {A = ℕ} 0 1 = cc in omega arith)
  goes_alike es fs gs ls o p (at_a_bad_line q) (out_of_memory v) s t = absurd t
  goes_alike es fs gs ls o p (at_a_bad_line q) (one_more v h g) s t = absurd (let z : ◌≡◌ {A = ℕ} 0 1 = cc in omega arith)
  goes_alike es fs gs ls o p (where_full q k) (at_a_bad_line v) s t = absurd (let z : ◌≡◌ {A = ℕ} 0 1 = cc in omega arith)
  goes_alike es fs gs ls o p (where_full q k) (where_full v h) s t = record { events = refl; fault = refl }
  goes_alike es fs gs ls o p (where_full q k) (out_of_memory v) s t = absurd t
  goes_alike es fs gs ls o p (where_full {l = l} {x = x} q k) (one_more {x = y} v h g) s t =
      absurd (h (subst (λ (w : Line). FullAfter r es (event_of en w)) (same_line l x y q v) k))
  goes_alike es fs gs ls o p (out_of_memory q) g s t = absurd s
  goes_alike es fs gs ls o p (one_more q k d) (at_a_bad_line v) s t = absurd (let z : ◌≡◌ {A = ℕ} 0 1 = cc in omega arith)
  goes_alike es fs gs ls o p (one_more {l = l} {x = x} q k d) (where_full {x = y} v h) s t =
      absurd (k (subst (λ (w : Line). FullAfter r es (event_of en w)) (sym (same_line l x y q v)) h))
  goes_alike es fs gs ls o p (one_more q k d) (out_of_memory v) s t = absurd t
  goes_alike es fs gs ls o p (one_more {l = l} {ls = ms} {x = x} q k d) (one_more {x = y} v h g) s t =
      goes_alike (es ++ (event_of en x ∷ [])) fs gs ms o p d
      (subst (λ (w : Line). Goes r en log (es ++ (event_of en w ∷ [])) ms gs p) (sym (same_line l x y q v)) g) s t

  stops_alike : (fs gs : List Meaning) (o p : Option JudgeFault) → Stops r en log fs o → Stops r en log gs p → Sufficed o → Sufficed p → Same fs gs o p
  stops_alike fs gs o p (too_long h) (too_long k) s t = record { events = refl; fault = refl }
  stops_alike fs gs o p (too_long h) (line_by_line k g) s t = absurd (omega arith)
  stops_alike fs gs o p (line_by_line k g) (too_long h) s t = absurd (omega arith)
  stops_alike fs gs o p (line_by_line h d) (line_by_line k g) s t = goes_alike [] fs gs (lines_of log) o p d g s t

  -- the reading says one thing of the events shown
  counts_alike : (es : List Meaning) (c d : Counts) → Counted r es c → Counted r es d → c ≡ d
  counts_alike es c d h k =
      let ρ : Choice = λ v. 0 in
      let a : c.shown ≡ d.shown = h.shown ∙ sym k.shown in
      let p : c.taken ≤ d.taken = (k.taken ρ).most c.taken (h.taken ρ).within (h.taken ρ).is in
      let q : d.taken ≤ c.taken = (h.taken ρ).most d.taken (k.taken ρ).within (k.taken ρ).is in
      let b : c.taken ≡ d.taken = omega arith in
      λ i. record { shown = a i; taken = b i }

  verdicts_alike : (es : List Meaning) (v w : Verdict) → Judged r es v → Judged r es w → v ≡ w
  verdicts_alike es Broken w h k = let ρ : Choice = λ v. 0 in sym ((k.broken ρ).1 ((h.broken ρ).0 refl))
  verdicts_alike es MayEnd w h k = let ρ : Choice = λ v. 0 in sym ((k.may_end ρ).1 ((h.may_end ρ).0 refl))
  verdicts_alike es Open w h k = let ρ : Choice = λ v. 0 in sym ((k.goes_on ρ).1 ((h.goes_on ρ).0 refl))

  pub alone : (j : Judgement) → Judges r en log j → Alone r en log j
  alone j h = record { only = one }
    where
      one : (k : Judgement) → Judges r en log k → Sufficed j.fault → Sufficed k.fault → j ≡ k
      one k g s t =
          let e = stops_alike h.shown g.shown j.fault k.fault h.stops g.stops s t in
          let a : j.counts ≡ k.counts = counts_alike g.shown j.counts k.counts (subst (λ (es : List Meaning). Counted r es j.counts) e.events h.counts) g.counts in
          let b : j.verdict ≡ k.verdict = verdicts_alike g.shown j.verdict k.verdict (subst (λ (es : List Meaning). Judged r es j.verdict) e.events h.verdict) g.verdict in
          let c : j.fault ≡ k.fault = e.fault in
          λ i. record { counts = a i; verdict = b i; fault = c i }
