-- The text of an event is read, and gives the event back.
use Rattle.std.proofs.Common.{◌≡◌, ℕ, ◌+◌, ◌^◌, ◌≤◌, false, eqb, List, ◌++◌, length, Some, None, Ok, decimal, Option, refl, arith}
use Rattle.events.specs.declared.fields.Fields.{Fields}
use Rattle.events.specs.Ranges.{Below, InRange}
use Rattle.lines.specs.declared.fault.Cause.TheVariants.{Bad, TooLarge}
use Rattle.lines.specs.Pieces.{placed}
use Rattle.tokens.specs.Pieces.{before}
use Rattle.lines.specs.Lines.{space, follows, puts, through, bare, other_words, form_of, numbers_of, line_of}
use Rattle.lines.specs.Text.{word, words_of, text_of}
use Rattle.tokens.proofs.Numerals.{decimal_formed, within_decimal}
use Rattle.lines.proofs.Spelling.{AllSpaceless, spaceless_more, spaceless_decimal, first_spaced, others_spaced}

abbrev fields_by : ℕ → Option ℕ → Option ℕ → Option ℕ → Fields
fields_by ty p c s = record { ty = ty; player = p; card = c; strokes = s }

abbrev words_by : Option ℕ → Option ℕ → Option ℕ → List (List ℕ)
words_by p c s = word 112 p ++ (word 99 c ++ word 115 s)

module _ (n at : ℕ) where
  -- the words of an event are in order
  abbrev Orderly : Option ℕ → Option ℕ → Option ℕ → Type 0
  Orderly p c s = (k : ℕ) × (through follows Bad n 0 (placed at (words_by p c s)) ≡ Ok k)

  orderly : (p c s : Option ℕ) → Below (2 ^ 32) p → Below (2 ^ 32) c → Below 256 s → Orderly p c s
  orderly None None None hp hc hs = (0, refl)
  orderly None None (Some k) hp hc hs = (3, rw (decimal_formed k (omega arith)))
  orderly None (Some j) None hp hc hs = (2, rw (decimal_formed j (omega arith)))
  orderly None (Some j) (Some k) hp hc hs = (3, rw (decimal_formed j (omega arith), decimal_formed k (omega arith)))
  orderly (Some i) None None hp hc hs = (1, rw (decimal_formed i (omega arith)))
  orderly (Some i) None (Some k) hp hc hs = (3, rw (decimal_formed i (omega arith), decimal_formed k (omega arith)))
  orderly (Some i) (Some j) None hp hc hs = (2, rw (decimal_formed i (omega arith), decimal_formed j (omega arith)))
  orderly (Some i) (Some j) (Some k) hp hc hs = (3, rw (decimal_formed i (omega arith), decimal_formed j (omega arith), decimal_formed k (omega arith)))

  -- and fill the slots
  filling : (ty : ℕ) (p c s : Option ℕ) → Below (2 ^ 32) p → Below (2 ^ 32) c → Below 256 s → through puts TooLarge n (bare ty) (placed at (words_by p c s)) ≡ Ok (fields_by ty p c s)
  filling ty None None None hp hc hs = refl
  filling ty None None (Some k) hp hc hs = rw (within_decimal 255 k (omega arith) (omega arith))
  filling ty None (Some j) None hp hc hs = rw (within_decimal 4294967295 j (omega arith) (omega arith))
  filling ty None (Some j) (Some k) hp hc hs = rw (within_decimal 4294967295 j (omega arith) (omega arith), within_decimal 255 k (omega arith) (omega arith))
  filling ty (Some i) None None hp hc hs = rw (within_decimal 4294967295 i (omega arith) (omega arith))
  filling ty (Some i) None (Some k) hp hc hs = rw (within_decimal 4294967295 i (omega arith) (omega arith), within_decimal 255 k (omega arith) (omega arith))
  filling ty (Some i) (Some j) None hp hc hs = rw (within_decimal 4294967295 i (omega arith) (omega arith), within_decimal 4294967295 j (omega arith) (omega arith))
  filling ty (Some i) (Some j) (Some k) hp hc hs =
      rw (within_decimal 4294967295 i (omega arith) (omega arith), within_decimal 4294967295 j (omega arith) (omega arith), within_decimal 255 k (omega arith) (omega arith))

spaceless_word : (l : ℕ) (o : Option ℕ) (m : ℕ) → eqb l space ≡ false → m ≤ 2 ^ 32 → Below m o → (ws : List (List ℕ)) → AllSpaceless ws → AllSpaceless (word l o ++ ws)
spaceless_word l None m e b h ws all = all
spaceless_word l (Some k) m e b h ws all = (spaceless_more l (decimal k) e (spaceless_decimal k (omega arith)), all)

last_word : (o : Option ℕ) → Below 256 o → AllSpaceless (word 115 o)
last_word None h = tt
last_word (Some k) h = (spaceless_more 115 (decimal k) refl (spaceless_decimal k (omega arith)), tt)

spaceless_words : (f : Fields) → InRange f → AllSpaceless (words_of f)
spaceless_words f h =
    spaceless_word 112 f.player (2 ^ 32) refl (omega arith) h.player (word 99 f.card ++ word 115 f.strokes)
    (spaceless_word 99 f.card (2 ^ 32) refl (omega arith) h.card (word 115 f.strokes) (last_word f.strokes h.strokes))

pub reads_back : (n at : ℕ) (f : Fields) → InRange f → line_of n at (text_of f) ≡ Ok (record { fields = f })
reads_back n at f h =
    let t : before space (text_of f) ≡ decimal f.ty = first_spaced (decimal f.ty) (words_of f) (spaceless_decimal f.ty (omega (arith, h.ty))) in
    let a = at + length (decimal f.ty) + 1 in
    let w : other_words at (text_of f) ≡ placed a (words_of f) = others_spaced at (decimal f.ty) (words_of f) (spaceless_decimal f.ty (omega (arith, h.ty))) (spaceless_words f h) in
    let o = orderly n a f.player f.card f.strokes h.player h.card h.strokes in
    let p : form_of n at (text_of f) ≡ Ok o.0 = rw (w, t, decimal_formed f.ty (omega (arith, h.ty))) o.1 in
    let q : numbers_of n at (text_of f) ≡ Ok f =
    rw (w, t, within_decimal 47 f.ty h.ty (omega (arith, h.ty))) (filling n a f.ty f.player f.card f.strokes h.player h.card h.strokes) in
    rw (p, q)
