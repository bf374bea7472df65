-- A log that is read line by line.
use Rattle.std.proofs.Common.{◌≡◌, ℕ, ◌+◌, ◌<◌, ◌≤◌, Bool, true, false, cond, eqb, List, [], ◌∷◌, length, get_or, set, replicate, Some, Ok, Err, Result, sym, refl, ap, ◌∙◌, subst, arith}
use Rattle.std.proofs.lemmas.List.{length-set, get_or-set_same, get_or-set_other, length-replicate, get_or-replicate}
use Rattle.std.proofs.lemmas.Bool.{eqb-true, eqb-false}
use Rattle.lines.specs.declared.line.Line.{Line}
use Rattle.lines.specs.declared.log.LogLine.{LogLine}
use Rattle.lines.specs.declared.fault.LogFault.{LogFault}
use Rattle.lines.specs.Logs.{lines_of, log_line_of}
use Rattle.std.proofs.lemmas.Result.{IfOk-at_ok}
use Rattle.lines.proofs.Known.{log_line_known}
use Rattle.lines.proofs.Numbered.{lines_few}
use Rattle.checklog.specs.Survey.{onward, readable, first_fault, of_type}

-- what was counted so far and the lines to come make up the whole
pub record Counting (log : List ℕ) (ls : List LogLine) (n : ℕ) (counts : List ℕ) : Type 0 where
  pub size : length counts ≡ 48
  pub lines : n + length (readable log ls) ≡ length (readable log (lines_of log))
  pub each : (t : ℕ) → t < 48 → get_or counts t 0 + of_type t (readable log ls) ≡ of_type t (readable log (lines_of log))
  pub fault : first_fault log ls ≡ first_fault log (lines_of log)

-- a line that was read has a type of a line
pub known : (log : List ℕ) (l : LogLine) (x : Line) → Ok x ≡ log_line_of l log → x.fields.ty ≤ 47
known log l x e = IfOk-at_ok (λ y. y.fields.ty ≤ 47) (sym e) (log_line_known l log)

-- a line that was read: one line more, and one event more of its type
counted_at : (log : List ℕ) (l : LogLine) (ls : List LogLine) (x : Line) (n : ℕ) (counts : List ℕ) → Ok x ≡ log_line_of l log
    → Counting log (l ∷ ls) n counts → Counting log ls (n + 1) (set counts x.fields.ty (get_or counts x.fields.ty 0 + 1))
counted_at log l ls x n counts e h = record {
  size = length-set counts x.fields.ty _ ∙ h.size;
  lines = omega (arith, ap length more, h.lines);
  each = λ t q. step t q (eqb x.fields.ty t) refl;
  fault = sym (ap (λ r. onward r (λ y. first_fault log ls) (λ f. Some f)) (sym e)) ∙ h.fault;
}
  where
    k : x.fields.ty ≤ 47
    k = known log l x e

    more : readable log (l ∷ ls) ≡ x ∷ readable log ls
    more = ap (λ r. onward r (λ y. y ∷ readable log ls) (λ f. [])) (sym e)

    step : (t : ℕ) → t < 48 → (b : Bool) → eqb x.fields.ty t ≡ b → get_or (set counts x.fields.ty (get_or counts x.fields.ty 0 + 1)) t 0 + of_type t (readable log ls) ≡ of_type t (readable log (lines_of log))
    step t q true w =
        let u : x.fields.ty ≡ t = eqb-true x.fields.ty t w in
        let i : x.fields.ty < length counts = omega (arith, h.size) in
        let g : get_or (set counts x.fields.ty (get_or counts x.fields.ty 0 + 1)) x.fields.ty 0 ≡ get_or counts x.fields.ty 0 + 1 = get_or-set_same counts x.fields.ty _ 0 i in
        let m : of_type t (readable log (l ∷ ls)) ≡ 1 + of_type t (readable log ls) = ap (of_type t) more ∙ rw w in
        let a : get_or counts t 0 + of_type t (readable log (l ∷ ls)) ≡ of_type t (readable log (lines_of log)) = h.each t q in
        subst (λ (v : ℕ). get_or (set counts x.fields.ty (get_or counts x.fields.ty 0 + 1)) v 0 + of_type t (readable log ls) ≡ of_type t (readable log (lines_of log))) u
        (omega (arith, ap (λ v. get_or counts v 0) u))
    step t q false w =
        let u : t ≡ x.fields.ty → ⊥ = λ d. eqb-false x.fields.ty t w (sym d) in
        let g : get_or (set counts x.fields.ty (get_or counts x.fields.ty 0 + 1)) t 0 ≡ get_or counts t 0 = get_or-set_other counts x.fields.ty t _ 0 u in
        let m : of_type t (readable log (l ∷ ls)) ≡ 0 + of_type t (readable log ls) = ap (of_type t) more ∙ rw w in
        let a : get_or counts t 0 + of_type t (readable log (l ∷ ls)) ≡ of_type t (readable log (lines_of log)) = h.each t q in
        omega arith

pub counted : (log : List ℕ) (ls rest : List LogLine) (l : LogLine) (x : Line) (n : ℕ) (counts : List ℕ) → ls ≡ l ∷ rest → Ok x ≡ log_line_of l log
    → Counting log ls n counts → Counting log rest (n + 1) (set counts x.fields.ty (get_or counts x.fields.ty 0 + 1))
counted log ls rest l x n counts q e h = counted_at log l rest x n counts e (subst (λ (ms : List LogLine). Counting log ms n counts) q h)

-- no line was read yet
pub begun : (log : List ℕ) (counts : List ℕ) → counts ≡ replicate 48 0 → Counting log (lines_of log) 0 counts
begun log counts e = record {
  size = ap length e ∙ length-replicate {A = ℕ} 48 0;
  lines = omega arith;
  each = λ t q. omega (arith, ap (λ cs. get_or cs t 0) e, get_or-replicate {A = ℕ} 48 t 0 0 q);
  fault = refl;
}

-- counts stay below the number of bytes
of_type_few : (t : ℕ) (xs : List Line) → of_type t xs ≤ length xs
of_type_few t [] = omega arith
of_type_few t (x ∷ xs) = go (eqb x.fields.ty t) (of_type_few t xs)
  where
    go : (b : Bool) → of_type t xs ≤ length xs → cond b 1 0 + of_type t xs ≤ length (x ∷ xs)
    go true h = omega arith
    go false h = omega arith

readable_few : (log : List ℕ) (ls : List LogLine) → length (readable log ls) ≤ length ls
readable_few log [] = omega arith
readable_few log (l ∷ ls) = go (log_line_of l log) (readable_few log ls)
  where
    go : (r : Result Line LogFault) → length (readable log ls) ≤ length ls → length (onward r (λ y. y ∷ readable log ls) (λ f. [])) ≤ length (l ∷ ls)
    go (Ok x) h = omega arith
    go (Err f) h = omega arith

pub room : (log : List ℕ) (ls rest : List LogLine) (l : LogLine) (x : Line) (n : ℕ) (counts : List ℕ) → ls ≡ l ∷ rest → Ok x ≡ log_line_of l log
    → Counting log ls n counts → (n + 1 ≤ length log) × (get_or counts x.fields.ty 0 + 1 ≤ length log)
room log ls rest l x n counts q e h =
    let d = counted log ls rest l x n counts q e h in
    let k = known log l x e in
    let i : x.fields.ty < length counts = omega (arith, h.size) in
    let g : get_or (set counts x.fields.ty (get_or counts x.fields.ty 0 + 1)) x.fields.ty 0 ≡ get_or counts x.fields.ty 0 + 1 = get_or-set_same counts x.fields.ty _ 0 i in
    let few = lines_few log in
    let few' = readable_few log (lines_of log) in
    (omega (arith, d.lines), omega (arith, d.each x.fields.ty (omega arith), of_type_few x.fields.ty (readable log (lines_of log))))
