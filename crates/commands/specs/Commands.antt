-- What a line says.
use Rattle.std.specs.Prelude.{ℕ, ◌-◌, ◌^◌, cond, List, [], ◌∷◌, Some, None, codes, Option, ◌==◌, nat_le}
use Rattle.std.specs.Option.{option_map}
use Rattle.std.specs.Str.{bytes_eq}
use Rattle.events.specs.declared.derived.Entry.{Entry as Derives}
use Rattle.events.specs.declared.derived.Entry.TheVariants.{Absent, AnyOf, NoneOf}
use Rattle.events.specs.declared.types.TypeSet.{TypeSet}
use Rattle.refusals.specs.Options.{on}
use Rattle.refusals.specs.declared.Layer.{Layer}
use Rattle.refusals.specs.declared.Span.{Span}
use Rattle.tokens.specs.Numerals.{number_of}
use Rattle.tokens.specs.Pieces.{before, after}
use Rattle.commands.specs.declared.command.Usage.{Usage}
use Rattle.commands.specs.declared.command.Usage.TheVariants.{Rule, Entry, Line, Record, Bare, Counts, Verdict, Held, Judge, Excerpt, Help, Unknown}
use Rattle.commands.specs.Forms.{form_of}
use Rattle.commands.specs.Hex.{unhexed, set_of}
use Rattle.commands.specs.Layers.{layer_named}
use Rattle.commands.specs.Said.{Said, rule, entry, text_line, binary_record, bare_line, bare_record, counts, verdict, held, judge, excerpt, help, Told, nothing, malformed, says}
use Rattle.commands.specs.Words.{space, words_in, first_of, only_of}

-- the first word as something is read from it, and then what that and the words after it say
abbrev pub first_as : {X Y : Type 0} → (List ℕ → Option X) → List (List ℕ) → (X → List (List ℕ) → Option Y) → Option Y
first_as read ws next = on (first_of ws) (λ f. on (read f.0) (λ x. next x f.1))

-- a word with none after it, as something is read from it
abbrev pub only_as : {X : Type 0} → (List ℕ → Option X) → List (List ℕ) → Option X
only_as read ws = on (only_of ws) read

-- what no word may follow
abbrev pub alone : {X : Type 0} → List (List ℕ) → X → Option X
alone [] x = Some x
alone (w ∷ ws) x = None

-- HEX
abbrev pub hex_of : List (List ℕ) → Option (List ℕ)
hex_of ws = only_as unhexed ws

-- SENSE HEX16
abbrev pub with_sense : List ℕ → TypeSet → Option Derives
with_sense w s = cond (bytes_eq w (codes "some")) (Some (AnyOf s)) (cond (bytes_eq w (codes "none")) (Some (NoneOf s)) None)

abbrev pub sense_of : List (List ℕ) → Option Derives
sense_of ws = on (first_of ws) (λ f. cond (bytes_eq f.0 (codes "absent")) (alone f.1 Absent) (on (only_as set_of f.1) (with_sense f.0)))

-- T SENSE HEX16
abbrev pub entry_of : List (List ℕ) → Option Said
entry_of ws = first_as (number_of 63) ws (λ t vs. cond (nat_le 48 t) (option_map (entry t) (sense_of vs)) None)

-- AT LEN
abbrev pub span_of : List (List ℕ) → Option Span
span_of ws = first_as (number_of (2 ^ 64 - 1)) ws (λ at vs. option_map (λ len. record { at = at; len = len }) (only_as (number_of (2 ^ 64 - 1)) vs))

-- N LAYER AT LEN
abbrev pub place_of : List (List ℕ) → Option (ℕ × Layer × Span)
place_of ws = first_as (number_of (2 ^ 32 - 1)) ws (λ n vs. first_as layer_named vs (λ l us. option_map (λ s. (n, l, s)) (span_of us)))

-- HEX HEX N LAYER AT LEN
abbrev pub excerpt_of : List (List ℕ) → Option Said
excerpt_of ws = first_as unhexed ws (λ r vs. first_as unhexed vs (λ l us. option_map (λ p. excerpt r l p.0 p.1 p.2) (place_of us)))

-- `bare`, and then `line TEXT` or `record HEX`
abbrev pub bare_of : List ℕ → Option Said
bare_of xs =
    cond (bytes_eq (before space xs) (codes "line")) (option_map bare_line (after space xs))
    (cond (bytes_eq (before space xs) (codes "record")) (option_map bare_record (hex_of (words_in (after space xs)))) None)

-- what a command of a form says by what follows its first word; TEXT is all that follows the space
abbrev pub said_in : Usage → Option (List ℕ) → Option Said
said_in Rule r = option_map rule (hex_of (words_in r))
said_in Entry r = entry_of (words_in r)
said_in Line r = option_map text_line r
said_in Record r = option_map binary_record (hex_of (words_in r))
said_in Bare r = on r bare_of
said_in Counts r = alone (words_in r) counts
said_in Verdict r = alone (words_in r) verdict
said_in Held r = alone (words_in r) held
said_in Judge r = option_map judge (hex_of (words_in r))
said_in Excerpt r = excerpt_of (words_in r)
said_in Help r = alone (words_in r) help
said_in Unknown r = None

abbrev pub or_form : Usage → Option Said → Told
or_form u None = malformed u
or_form u (Some s) = says s

-- a line by the form of its first word, and what follows that
abbrev pub command_of : Usage → Option (List ℕ) → Told
command_of u r = or_form u (said_in u r)

-- an empty line and one that begins with `#` tell nothing
abbrev pub parsed_of : List ℕ → Told
parsed_of [] = nothing
parsed_of (x ∷ xs) = cond (x == 35) nothing (command_of (form_of (before space (x ∷ xs))) (after space (x ∷ xs)))
