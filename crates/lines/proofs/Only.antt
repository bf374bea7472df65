-- What is read is the text of the event that comes.
use Rattle.std.proofs.Common.{◌≡◌, ℕ, ◌+◌, ◌^◌, ◌<◌, ◌≤◌, Bool, true, false, cond, ◌&&◌, eqb, leb, List, [], ◌∷◌, ◌++◌, length, Some, None, Ok, Err, decimal, Option, Result, sym, refl, ap, ◌∙◌, subst, arith}
use Rattle.std.proofs.lemmas.Bool.{eqb-true, and_parts, leb-true}
use Rattle.refusals.specs.Options.{on}
use Rattle.events.specs.declared.fields.Fields.{Fields}
use Rattle.events.specs.Ranges.{Below, InRange}
use Rattle.lines.specs.declared.line.Line.{Line}
use Rattle.lines.specs.declared.fault.Cause.{Cause}
use Rattle.lines.specs.declared.fault.Cause.TheVariants.{Bad, TooLarge}
use Rattle.lines.specs.declared.fault.WordFault.{WordFault}
use Rattle.tokens.specs.Numerals.{is_well_formed, within}
use Rattle.lines.specs.Pieces.{Piece, placed}
use Rattle.tokens.specs.Pieces.{before, after, pieces_in}
use Rattle.lines.specs.Lines.{space, fault_of, or_refuse, follows, puts, through, bare, type_word, other_words, form_of, numbers_of, formed_first, line_of}
use Rattle.lines.specs.Text.{word, words_of, spaced, text_of}
use Rattle.tokens.proofs.Numerals.{written}
use Rattle.lines.proofs.Spelling.{cut_joined, others_placed}

impossible : {A : Type 0} → ◌≡◌ {A = ℕ} 0 1 → A
impossible z = absurd (omega arith)

abbrev fields_by : ℕ → Option ℕ → Option ℕ → Option ℕ → Fields
fields_by ty p c s = record { ty = ty; player = p; card = c; strokes = s }

-- words that are taken one after the other, from the answer back
through_parts : {S : Type 0} (step : S → List ℕ → Option S) (cause : Cause) (n : ℕ) (s r : S) (w : Piece) (ws : List Piece)
    → through step cause n s (w ∷ ws) ≡ Ok r → (t : S) × (step s w.bytes ≡ Some t) × (through step cause n t ws ≡ Ok r)
through_parts step cause n s r w ws e = go (step s w.bytes) refl e
  where
    go : (o : Option _) → step s w.bytes ≡ o → or_refuse o (fault_of cause n w) (λ t. through step cause n t ws) ≡ Ok r
        → (t : _) × (step s w.bytes ≡ Some t) × (through step cause n t ws ≡ Ok r)
    go None q h = impossible (cc)
    go (Some t) q h = (t, q, h)

-- what a word was that fits: its letter, its number, and the slot that is filled
data Word (next j : ℕ) (g h : Fields) (w : List ℕ) : Type 0 where
  player : (m : ℕ) → next ≤ 0 → j ≡ 1 → w ≡ 112 ∷ decimal m → m < 2 ^ 32 → fields_by g.ty (Some m) g.card g.strokes ≡ h → Word next j g h w
  card : (m : ℕ) → next ≤ 1 → j ≡ 2 → w ≡ 99 ∷ decimal m → m < 2 ^ 32 → fields_by g.ty g.player (Some m) g.strokes ≡ h → Word next j g h w
  strokes : (m : ℕ) → next ≤ 2 → j ≡ 3 → w ≡ 115 ∷ decimal m → m < 256 → fields_by g.ty g.player g.card (Some m) ≡ h → Word next j g h w

-- the slot is not used up, and the digits are well formed
taken : (next k j : ℕ) (ds : List ℕ) → cond (leb next k && is_well_formed ds) (Some (k + 1)) None ≡ Some j → (next ≤ k) × ((j ≡ k + 1) × (is_well_formed ds ≡ true))
taken next k j ds e = go (leb next k && is_well_formed ds) refl e
  where
    go : (b : Bool) → (leb next k && is_well_formed ds) ≡ b → cond b (Some (k + 1)) None ≡ Some j → (next ≤ k) × ((j ≡ k + 1) × (is_well_formed ds ≡ true))
    go true q h = let p = and_parts (leb next k) (is_well_formed ds) q in (leb-true next k p.0, (cc, p.1))
    go false q h = impossible (cc)

-- the number that is put into a slot
placed_in : (o : Option ℕ) (f : ℕ → Fields) (h : Fields) → on o (λ m. Some (f m)) ≡ Some h → (m : ℕ) × (o ≡ Some m) × (f m ≡ h)
placed_in None f h e = impossible (cc)
placed_in (Some m) f h e = (m, refl, cc)

word_made : (next j : ℕ) (g h : Fields) (w : List ℕ) → follows next w ≡ Some j → puts g w ≡ Some h → Word next j g h w
word_made next j g h [] e q = impossible (cc)
word_made next j g h (l ∷ ds) e q = go (eqb l 112) refl (eqb l 99) refl (eqb l 115) refl e q
  where
    go : (a : Bool) → eqb l 112 ≡ a → (b : Bool) → eqb l 99 ≡ b → (c : Bool) → eqb l 115 ≡ c
        → on (cond a (Some 0) (cond b (Some 1) (cond c (Some 2) None))) (λ k. cond (leb next k && is_well_formed ds) (Some (k + 1)) None) ≡ Some j
        → cond a (on (within 4294967295 ds) (λ m. Some (fields_by g.ty (Some m) g.card g.strokes)))
        (cond b (on (within 4294967295 ds) (λ m. Some (fields_by g.ty g.player (Some m) g.strokes)))
        (on (within 255 ds) (λ m. Some (fields_by g.ty g.player g.card (Some m))))) ≡ Some h
        → Word next j g h (l ∷ ds)
    go true a b p c r e q =
        let t = taken next 0 j ds e in
        let m = placed_in (within 4294967295 ds) (λ m. fields_by g.ty (Some m) g.card g.strokes) h q in
        let w = written 4294967295 m.0 ds (omega arith) t.1.1 m.1 in
        player m.0 t.0 t.1.0 (ap (λ (k : ℕ). k ∷ ds) (eqb-true l 112 a) ∙ ap (λ ys. 112 ∷ ys) w.0) (omega (arith, w.1)) m.2
    go false a true p c r e q =
        let t = taken next 1 j ds e in
        let m = placed_in (within 4294967295 ds) (λ m. fields_by g.ty g.player (Some m) g.strokes) h q in
        let w = written 4294967295 m.0 ds (omega arith) t.1.1 m.1 in
        card m.0 t.0 t.1.0 (ap (λ (k : ℕ). k ∷ ds) (eqb-true l 99 p) ∙ ap (λ ys. 99 ∷ ys) w.0) (omega (arith, w.1)) m.2
    go false a false p true r e q =
        let t = taken next 2 j ds e in
        let m = placed_in (within 255 ds) (λ m. fields_by g.ty g.player g.card (Some m)) h q in
        let w = written 255 m.0 ds (omega arith) t.1.1 m.1 in
        strokes m.0 t.0 t.1.0 (ap (λ (k : ℕ). k ∷ ds) (eqb-true l 115 r) ∙ ap (λ ys. 115 ∷ ys) w.0) (omega (arith, w.1)) m.2
    go false a false p false r e q = impossible (cc)

module _ (n : ℕ) where
  abbrev Taken : ℕ → ℕ → ℕ → Fields → Fields → List (List ℕ) → Type 0
  Taken at next k g f ws = (through follows Bad n next (placed at ws) ≡ Ok k) × (through puts TooLarge n g (placed at ws) ≡ Ok f)

  -- the first word, and what is left to take
  record Step (at next k : ℕ) (g f : Fields) (w : List ℕ) (ws : List (List ℕ)) : Type 0 where
    past : ℕ
    then : Fields
    word : Word next past g then w
    rest : Taken (at + length w + 1) past k then f ws

  stepped : (at next k : ℕ) (g f : Fields) (w : List ℕ) (ws : List (List ℕ)) → Taken at next k g f (w ∷ ws) → Step at next k g f w ws
  stepped at next k g f w ws t =
      let a = through_parts follows Bad n next k (record { at = at; bytes = w }) (placed (at + length w + 1) ws) t.0 in
      let b = through_parts puts TooLarge n g f (record { at = at; bytes = w }) (placed (at + length w + 1) ws) t.1 in
      record { past = a.0; then = b.0; word = word_made next a.0 g b.0 w a.1 b.1; rest = (a.2, b.2) }

  ended : (at next k : ℕ) (g f : Fields) → Taken at next k g f [] → g ≡ f
  ended at next k g f t = let e : ◌≡◌ {A = Result Fields WordFault} (Ok g) (Ok f) = t.1 in cc

  -- Words for slots from 3 on there are none; from 2 on, the strokes; from 1 on, the card too; from 0 on, all.
  from3 : (at next k : ℕ) (g f : Fields) (ws : List (List ℕ)) → next ≡ 3 → Taken at next k g f ws → (ws ≡ []) × (g ≡ f)
  from3 at next k g f [] e t = (refl, ended at next k g f t)
  from3 at next k g f (w ∷ ws) e t = go (stepped at next k g f w ws t).word
    where
      go : {j : ℕ} {h : Fields} → Word next j g h w → (w ∷ ws ≡ []) × (g ≡ f)
      go (player m l q x b y) = absurd (omega arith)
      go (card m l q x b y) = absurd (omega arith)
      go (strokes m l q x b y) = absurd (omega arith)

  record Tail2 (g f : Fields) (ws : List (List ℕ)) : Type 0 where
    words : ws ≡ word 115 f.strokes
    same : f ≡ fields_by g.ty g.player g.card f.strokes
    fits : Below 256 f.strokes

  from2 : (at next k : ℕ) (g f : Fields) (ws : List (List ℕ)) → next ≡ 2 → g.strokes ≡ None → Taken at next k g f ws → Tail2 g f ws
  from2 at next k g f [] e z t =
      subst (λ (h : Fields). Tail2 g h []) (ended at next k g f t) (record { words = ap (word 115) (sym z); same = refl; fits = subst (Below 256) (sym z) tt })
  from2 at next k g f (w ∷ ws) e z t = let s = stepped at next k g f w ws t in go s.word s.rest
    where
      go : {j : ℕ} {h : Fields} → Word next j g h w → Taken (at + length w + 1) j k h f ws → Tail2 g f (w ∷ ws)
      go (player m l q x b y) r = absurd (omega arith)
      go (card m l q x b y) r = absurd (omega arith)
      go {j} {h} (strokes m l q x b y) r =
          let d = from3 (at + length w + 1) j k h f ws q r in
          subst (λ (h : Fields). Tail2 g h (w ∷ ws)) (y ∙ d.1) (record { words = ap (λ (v : List ℕ). v ∷ ws) x ∙ ap (λ vs. (115 ∷ decimal m) ∷ vs) d.0; same = refl; fits = b })

  record Tail1 (g f : Fields) (ws : List (List ℕ)) : Type 0 where
    words : ws ≡ word 99 f.card ++ word 115 f.strokes
    same : f ≡ fields_by g.ty g.player f.card f.strokes
    card : Below (2 ^ 32) f.card
    fits : Below 256 f.strokes

  -- a tail without a card
  lifted1 : (g f : Fields) (ws : List (List ℕ)) → g.card ≡ None → Tail2 g f ws → Tail1 g f ws
  lifted1 g f ws z t =
      let c : f.card ≡ None = ap (λ (h : Fields). h.card) t.same ∙ z in
      record { words = t.words ∙ ap (λ o. word 99 o ++ word 115 f.strokes) (sym c); same = t.same ∙ ap (λ o. fields_by g.ty g.player o f.strokes) (z ∙ sym c); card = subst (Below (2 ^ 32)) (sym c) tt; fits = t.fits }

  from1 : (at next k : ℕ) (g f : Fields) (ws : List (List ℕ)) → next ≡ 1 → g.card ≡ None → g.strokes ≡ None → Taken at next k g f ws → Tail1 g f ws
  from1 at next k g f [] e y z t =
      subst (λ (h : Fields). Tail1 g h []) (ended at next k g f t)
      (lifted1 g g [] y (record { words = ap (word 115) (sym z); same = refl; fits = subst (Below 256) (sym z) tt }))
  from1 at next k g f (w ∷ ws) e y z t = let s = stepped at next k g f w ws t in go s.word s.rest
    where
      go : {j : ℕ} {h : Fields} → Word next j g h w → Taken (at + length w + 1) j k h f ws → Tail1 g f (w ∷ ws)
      go (player m l q x b u) r = absurd (omega arith)
      go {j} {h} (card m l q x b u) r =
          let d = from2 (at + length w + 1) j k h f ws q (ap (λ (h : Fields). h.strokes) (sym u) ∙ z) r in
          let c : f.card ≡ Some m = ap (λ (h : Fields). h.card) (d.same ∙ ap (λ (h : Fields). fields_by h.ty h.player h.card f.strokes) (sym u)) in
          record {
            words = ap (λ (v : List ℕ). v ∷ ws) x ∙ ap (λ vs. (99 ∷ decimal m) ∷ vs) d.words ∙ ap (λ o. word 99 o ++ word 115 f.strokes) (sym c);
            same = d.same ∙ ap (λ (h : Fields). fields_by h.ty h.player h.card f.strokes) (sym u) ∙ ap (λ o. fields_by g.ty g.player o f.strokes) (sym c);
            card = subst (Below (2 ^ 32)) (sym c) b;
            fits = d.fits;
          }
      go {j} {h} (strokes m l q x b u) r =
          let d = from3 (at + length w + 1) j k h f ws q r in
          lifted1 g f (w ∷ ws) y
          (subst (λ (h : Fields). Tail2 g h (w ∷ ws)) (u ∙ d.1) (record { words = ap (λ (v : List ℕ). v ∷ ws) x ∙ ap (λ vs. (115 ∷ decimal m) ∷ vs) d.0; same = refl; fits = b }))

  record Tail0 (g f : Fields) (ws : List (List ℕ)) : Type 0 where
    words : ws ≡ words_of f
    same : f ≡ fields_by g.ty f.player f.card f.strokes
    player : Below (2 ^ 32) f.player
    card : Below (2 ^ 32) f.card
    fits : Below 256 f.strokes

  -- a tail without a player
  lifted0 : (g f : Fields) (ws : List (List ℕ)) → g.player ≡ None → Tail1 g f ws → Tail0 g f ws
  lifted0 g f ws z t =
      let c : f.player ≡ None = ap (λ (h : Fields). h.player) t.same ∙ z in
      record {
        words = t.words ∙ ap (λ o. word 112 o ++ (word 99 f.card ++ word 115 f.strokes)) (sym c);
        same = t.same ∙ ap (λ o. fields_by g.ty o f.card f.strokes) (z ∙ sym c);
        player = subst (Below (2 ^ 32)) (sym c) tt;
        card = t.card;
        fits = t.fits;
      }

  from0 : (at k ty : ℕ) (f : Fields) (ws : List (List ℕ)) → Taken at 0 k (bare ty) f ws → Tail0 (bare ty) f ws
  from0 at k ty f [] t =
      subst (λ (h : Fields). Tail0 (bare ty) h []) (ended at 0 k (bare ty) f t) (record { words = refl; same = refl; player = tt; card = tt; fits = tt })
  from0 at k ty f (w ∷ ws) t = let s = stepped at 0 k (bare ty) f w ws t in go s.word s.rest
    where
      go : {j : ℕ} {h : Fields} → Word 0 j (bare ty) h w → Taken (at + length w + 1) j k h f ws → Tail0 (bare ty) f (w ∷ ws)
      go {j} {h} (player m l q x b u) r =
          let d = from1 (at + length w + 1) j k h f ws q (ap (λ (h : Fields). h.card) (sym u)) (ap (λ (h : Fields). h.strokes) (sym u)) r in
          let c : f.player ≡ Some m = ap (λ (h : Fields). h.player) (d.same ∙ ap (λ (h : Fields). fields_by h.ty h.player f.card f.strokes) (sym u)) in
          record {
            words = ap (λ (v : List ℕ). v ∷ ws) x ∙ ap (λ vs. (112 ∷ decimal m) ∷ vs) d.words ∙ ap (λ o. word 112 o ++ (word 99 f.card ++ word 115 f.strokes)) (sym c);
            same = d.same ∙ ap (λ (h : Fields). fields_by h.ty h.player f.card f.strokes) (sym u) ∙ ap (λ o. fields_by ty o f.card f.strokes) (sym c);
            player = subst (Below (2 ^ 32)) (sym c) b;
            card = d.card;
            fits = d.fits;
          }
      go {j} {h} (card m l q x b u) r =
          let d = from2 (at + length w + 1) j k h f ws q (ap (λ (h : Fields). h.strokes) (sym u)) r in
          let c : f.card ≡ Some m = ap (λ (h : Fields). h.card) (d.same ∙ ap (λ (h : Fields). fields_by h.ty h.player h.card f.strokes) (sym u)) in
          lifted0 (bare ty) f (w ∷ ws) refl (record {
            words = ap (λ (v : List ℕ). v ∷ ws) x ∙ ap (λ vs. (99 ∷ decimal m) ∷ vs) d.words ∙ ap (λ o. word 99 o ++ word 115 f.strokes) (sym c);
            same = d.same ∙ ap (λ (h : Fields). fields_by h.ty h.player h.card f.strokes) (sym u) ∙ ap (λ o. fields_by ty None o f.strokes) (sym c);
            card = subst (Below (2 ^ 32)) (sym c) b;
            fits = d.fits;
          })
      go {j} {h} (strokes m l q x b u) r =
          let d = from3 (at + length w + 1) j k h f ws q r in
          lifted0 (bare ty) f (w ∷ ws) refl (lifted1 (bare ty) f (w ∷ ws) refl
          (subst (λ (h : Fields). Tail2 (bare ty) h (w ∷ ws)) (u ∙ d.1) (record { words = ap (λ (v : List ℕ). v ∷ ws) x ∙ ap (λ vs. (115 ∷ decimal m) ∷ vs) d.0; same = refl; fits = b })))

-- the two passes over a line that was read
passes : (a : Result ℕ WordFault) (b : Result Fields WordFault) (f : Fields) → formed_first a b ≡ Ok (record { fields = f }) → (k : ℕ) × (a ≡ Ok k) × (b ≡ Ok f)
passes (Err e) b f h = impossible (cc)
passes (Ok k) (Err e) f h = impossible (cc)
passes (Ok k) (Ok g) f h = let r : ◌≡◌ {A = Line} (record { fields = g }) (record { fields = f }) = cc in (k, refl, ap (λ (x : Line). Ok x.fields) r)

type_formed : (b : Bool) (r : Result ℕ WordFault) (e : WordFault) (k : ℕ) → cond b r (Err e) ≡ Ok k → (b ≡ true) × (r ≡ Ok k)
type_formed true r e k h = (refl, h)
type_formed false r e k h = impossible (cc)

type_read : (o : Option ℕ) (e : WordFault) (g : ℕ → Result Fields WordFault) (f : Fields) → or_refuse o e g ≡ Ok f → (t : ℕ) × (o ≡ Some t) × (g t ≡ Ok f)
type_read None e g f h = impossible (cc)
type_read (Some t) e g f h = (t, refl, h)

pub reads_only : (n at : ℕ) (xs : List ℕ) (f : Fields) → line_of n at xs ≡ Ok (record { fields = f }) → (xs ≡ text_of f) × InRange f
reads_only n at xs f e =
    let p = passes (form_of n at xs) (numbers_of n at xs) f e in
    let a = type_formed (is_well_formed (before space xs)) (through follows Bad n 0 (other_words at xs)) (fault_of Bad n (type_word at xs)) p.0 p.1 in
    let b = type_read (within 47 (before space xs)) (fault_of TooLarge n (type_word at xs)) (λ ty. through puts TooLarge n (bare ty) (other_words at xs)) f p.2 in
    let w = written 47 b.0 (before space xs) (omega arith) a.0 b.1 in
    let ws = pieces_in space (after space xs) in
    let o = others_placed at xs in
    let d = from0 n (at + length (before space xs) + 1) p.0 b.0 f ws
    (ap (through follows Bad n 0) (sym o) ∙ a.1, ap (through puts TooLarge n (bare b.0)) (sym o) ∙ b.2) in
    let t : f.ty ≡ b.0 = ap (λ (h : Fields). h.ty) d.same in (
      cut_joined xs ∙ ap (λ vs. before space xs ++ spaced vs) d.words ∙ ap (λ ds. ds ++ spaced (words_of f)) (w.0 ∙ ap decimal (sym t)),
      record { ty = omega (arith, w.1); player = d.player; card = d.card; strokes = d.fits },
    )
