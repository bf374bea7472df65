-- What the bytes of a line say.
use Rattle.std.specs.Prelude.{◌≡◌, ℕ, ◌+◌, cond, ◌&&◌, List, [], ◌∷◌, length, Some, None, Ok, Err, Option, Result, ◌==◌, nat_le}
use Rattle.std.specs.Borrow.{Bor}
use Rattle.std.specs.Option.{option_map}
use Rattle.events.specs.declared.fields.Fields.{Fields}
use Rattle.lines.specs.declared.line.Line.{Line}
use Rattle.lines.specs.declared.fault.Cause.{Cause}
use Rattle.lines.specs.declared.fault.Cause.TheVariants.{Bad, TooLarge}
use Rattle.lines.specs.declared.fault.WordFault.{WordFault}
use Rattle.lines.specs.declared.fault.LineFault.{LineFault}
use Rattle.tokens.specs.Numerals.{is_well_formed, within}
use Rattle.lines.specs.Pieces.{Piece, piece_of, other_piece, cut_in}
use Rattle.tokens.specs.Pieces.{before}
use Rattle.lines.specs.declared.words.Words.{Words}
use Rattle.refusals.specs.Options.{on}
use Rattle.lines.specs.Refusals.{in_line}

-- words stand between single spaces
abbrev pub space : ℕ
space = 32

abbrev pub words_left : Words → List Piece
words_left w = cut_in space (option_map piece_of w.0)

abbrev pub fault_of : Cause → ℕ → Piece → WordFault
fault_of cause n w = record { cause = cause; span = record { at = w.at; len = length w.bytes }; line = n }

-- go on with what was found, or refuse
abbrev pub or_refuse : {X Y : Type 0} → Option X → WordFault → (X → Result Y WordFault) → Result Y WordFault
or_refuse None e f = Err e
or_refuse (Some x) e f = f x

-- the slot that a letter names: p the player, c the card, s the strokes
abbrev pub slot_of : ℕ → Option ℕ
slot_of l = cond (l == 112) (Some 0) (cond (l == 99) (Some 1) (cond (l == 115) (Some 2) None))

-- one after the slot that a word is for: a letter and digits, and no slot below `next`
abbrev pub follows : ℕ → List ℕ → Option ℕ
follows next [] = None
follows next (l ∷ ds) = on (slot_of l) (λ k. cond (nat_le next k && is_well_formed ds) (Some (k + 1)) None)

-- a word's number in the slot of its letter, unless it is too large
abbrev pub puts : Fields → List ℕ → Option Fields
puts f [] = None
puts f (l ∷ ds) =
    cond (l == 112) (on (within 4294967295 ds) (λ n. Some (record { ty = f.ty; player = Some n; card = f.card; strokes = f.strokes })))
    (cond (l == 99) (on (within 4294967295 ds) (λ n. Some (record { ty = f.ty; player = f.player; card = Some n; strokes = f.strokes })))
    (on (within 255 ds) (λ n. Some (record { ty = f.ty; player = f.player; card = f.card; strokes = Some n }))))

-- takes words one after the other; the first that does not fit is refused
abbrev pub through : {S : Type 0} → (S → List ℕ → Option S) → Cause → ℕ → S → List Piece → Result S WordFault
through step cause n s [] = Ok s
through step cause n s (w ∷ ws) = or_refuse (step s w.bytes) (fault_of cause n w) (λ t. through step cause n t ws)

-- every answer is what a function says
abbrev pub Computes : {S : Type 0} → (S → Bor (List ℕ) → Option S → Type 0) → (S → List ℕ → Option S) → Type 0
Computes {S} answers f = (s : S) (w : Bor (List ℕ)) (r : Option S) → answers s w r → r ≡ f s w.now

abbrev pub bare : ℕ → Fields
bare ty = record { ty = ty; player = None; card = None; strokes = None }

-- the first word, and those after it
abbrev pub type_word : ℕ → List ℕ → Piece
type_word at xs = record { at = at; bytes = before space xs }

abbrev pub other_words : ℕ → List ℕ → List Piece
other_words at xs = cut_in space (other_piece space (record { at = at; bytes = xs }))

-- is the first word a number, and is each other a letter and a number, in the order of the slots?
abbrev pub form_of : ℕ → ℕ → List ℕ → Result ℕ WordFault
form_of n at xs = cond (is_well_formed (before space xs)) (through follows Bad n 0 (other_words at xs)) (Err (fault_of Bad n (type_word at xs)))

-- the numbers, if none is too large
abbrev pub numbers_of : ℕ → ℕ → List ℕ → Result Fields WordFault
numbers_of n at xs = or_refuse (within 47 (before space xs)) (fault_of TooLarge n (type_word at xs)) (λ ty. through puts TooLarge n (bare ty) (other_words at xs))

abbrev pub made : Result Fields WordFault → Result Line LineFault
made (Err e) = Err (in_line e)
made (Ok f) = Ok (record { fields = f })

-- any bad word comes before one whose number is too large
abbrev pub formed_first : Result ℕ WordFault → Result Fields WordFault → Result Line LineFault
formed_first (Err e) r = Err (in_line e)
formed_first (Ok next) r = made r

-- a line with a number, whose first byte has a place
abbrev pub line_of : ℕ → ℕ → List ℕ → Result Line LineFault
line_of n at xs = formed_first (form_of n at xs) (numbers_of n at xs)

-- a line on its own is line 1 and begins at 0
abbrev pub alone : List ℕ → Result Line LineFault
alone xs = line_of 1 0 xs
