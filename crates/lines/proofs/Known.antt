-- A line that was read has a type of a line.
use Rattle.std.proofs.Common.{◌≡◌, ℕ, ◌≤◌, Bool, true, false, cond, eqb, leb, List, [], ◌∷◌, take, drop, IfSome, IfOk, Some, None, Ok, Err, Option, Result, refl, ◌∙◌, arith}
use Rattle.std.proofs.lemmas.Bool.{leb-true}
use Rattle.events.specs.declared.fields.Fields.{Fields}
use Rattle.lines.specs.declared.fault.WordFault.{WordFault}
use Rattle.lines.specs.declared.fault.Cause.TheVariants.{TooLarge}
use Rattle.lines.specs.declared.line.Line.{Line}
use Rattle.lines.specs.declared.log.LogLine.{LogLine}
use Rattle.lines.specs.declared.fault.LineFault.{LineFault}
use Rattle.tokens.specs.Numerals.{within, value}
use Rattle.lines.specs.Pieces.{Piece}
use Rattle.tokens.specs.Pieces.{before}
use Rattle.refusals.specs.Options.{on}
use Rattle.lines.specs.Lines.{space, fault_of, or_refuse, puts, through, bare, other_words, form_of, numbers_of, formed_first, line_of, type_word}
use Rattle.lines.specs.Logs.{of_log, log_line_of}

-- a slot is filled, and the type stays
abbrev Keeps : ℕ → Option Fields → Type 0
Keeps t o = IfSome o (λ g. g.ty ≡ t)

kept_by : (t : ℕ) (o : Option ℕ) (f : ℕ → Fields) → ((n : ℕ) → (f n).ty ≡ t) → Keeps t (on o (λ n. Some (f n)))
kept_by t None f h = tt
kept_by t (Some n) f h = h n

one_of : (t : ℕ) (p c : Bool) (x y z : Option Fields) → Keeps t x → Keeps t y → Keeps t z → Keeps t (cond p x (cond c y z))
one_of t true c x y z h k l = h
one_of t false true x y z h k l = k
one_of t false false x y z h k l = l

puts_keeps : (f : Fields) (w : List ℕ) → Keeps f.ty (puts f w)
puts_keeps f [] = tt
puts_keeps f (l ∷ ds) = one_of f.ty (eqb l 112) (eqb l 99) _ _ _
    (kept_by f.ty (within 4294967295 ds) (λ n. record { ty = f.ty; player = Some n; card = f.card; strokes = f.strokes }) (λ n. refl))
    (kept_by f.ty (within 4294967295 ds) (λ n. record { ty = f.ty; player = f.player; card = Some n; strokes = f.strokes }) (λ n. refl))
    (kept_by f.ty (within 255 ds) (λ n. record { ty = f.ty; player = f.player; card = f.card; strokes = Some n }) (λ n. refl))

through_keeps : (n : ℕ) (t : ℕ) (f : Fields) (ws : List Piece) → f.ty ≡ t → IfOk (through puts TooLarge n f ws) (λ g. g.ty ≡ t)
through_keeps n t f [] e = e
through_keeps n t f (w ∷ ws) e = go (puts f w.bytes) (puts_keeps f w.bytes) (λ g. through_keeps n t g ws)
  where
    go : (o : Option Fields) → Keeps f.ty o → ((g : Fields) → g.ty ≡ t → IfOk (through puts TooLarge n g ws) (λ g. g.ty ≡ t))
        → IfOk (or_refuse o (fault_of TooLarge n w) (λ g. through puts TooLarge n g ws)) (λ g. g.ty ≡ t)
    go None k h = tt
    go (Some g) k h = h g (k ∙ e)

numbers_known : (n at : ℕ) (xs : List ℕ) → IfOk (numbers_of n at xs) (λ f. f.ty ≤ 47)
numbers_known n at xs = go (leb (value (before space xs)) 47) refl
  where
    low : (r : Result Fields WordFault) (t : ℕ) → t ≤ 47 → IfOk r (λ g. g.ty ≡ t) → IfOk r (λ g. g.ty ≤ 47)
    low (Ok g) t h e = omega arith
    low (Err w) t h e = tt

    go : (b : Bool) → leb (value (before space xs)) 47 ≡ b
        → IfOk (or_refuse (cond b (Some (value (before space xs))) None) (fault_of TooLarge n (type_word at xs)) (λ ty. through puts TooLarge n (bare ty) (other_words at xs))) (λ f. f.ty ≤ 47)
    go true e = low _ (value (before space xs)) (leb-true (value (before space xs)) 47 e) (through_keeps n (value (before space xs)) (bare (value (before space xs))) (other_words at xs) refl)
    go false e = tt

pub line_known : (n at : ℕ) (xs : List ℕ) → IfOk (line_of n at xs) (λ l. l.fields.ty ≤ 47)
line_known n at xs = go (form_of n at xs) (numbers_of n at xs) (numbers_known n at xs)
  where
    go : (r : Result ℕ WordFault) (s : Result Fields WordFault) → IfOk s (λ f. f.ty ≤ 47) → IfOk (formed_first r s) (λ l. l.fields.ty ≤ 47)
    go (Err e) s h = tt
    go (Ok k) (Err e) h = tt
    go (Ok k) (Ok f) h = h

abbrev logged : LogLine → List ℕ → Result Line LineFault
logged l log = line_of l.number l.span.at (take l.span.len (drop l.span.at log))

pub log_line_known : (l : LogLine) (log : List ℕ) → IfOk (log_line_of l log) (λ x. x.fields.ty ≤ 47)
log_line_known l log = go (logged l log) (line_known l.number l.span.at (take l.span.len (drop l.span.at log)))
  where
    go : (r : Result Line LineFault) → IfOk r (λ x. x.fields.ty ≤ 47) → IfOk (of_log r) (λ x. x.fields.ty ≤ 47)
    go (Ok x) h = h
    go (Err e) h = tt
