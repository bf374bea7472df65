-- The forms of the commands.
use Rattle.std.specs.Prelude.{ℕ, List, [], ◌∷◌, codes}
use Rattle.std.specs.List.{find}
use Rattle.std.specs.Option.{unwrap_or}
use Rattle.std.specs.Str.{bytes_eq}
use Rattle.commands.specs.declared.command.Usage.{Usage}
use Rattle.commands.specs.declared.command.Usage.TheVariants.{Rule, Entry, Line, Record, Bare, Counts, Verdict, Held, Judge, Excerpt, Help, Unknown}
use Rattle.tokens.specs.Pieces.{before}
use Rattle.commands.specs.Words.{space}

-- HEX is an even number of hexadecimal digits, or `-` for none; HEX16 is sixteen of them
abbrev pub form_text : Usage → List ℕ
form_text Rule = codes "rule HEX"
form_text Entry = codes "entry T SENSE HEX16, with T 48 to 63 and SENSE some, none or absent (then no HEX16)"
form_text Line = codes "line TEXT"
form_text Record = codes "record HEX"
form_text Bare = codes "bare line TEXT, or bare record HEX"
form_text Counts = codes "counts"
form_text Verdict = codes "verdict"
form_text Held = codes "held"
form_text Judge = codes "judge HEX"
form_text Excerpt = codes "excerpt HEX HEX N LAYER AT LEN"
form_text Help = codes "help"
form_text Unknown = codes "a command; help lists them"

abbrev pub forms : List Usage
forms = Rule ∷ Entry ∷ Line ∷ Record ∷ Bare ∷ Counts ∷ Verdict ∷ Held ∷ Judge ∷ Excerpt ∷ Help ∷ []

-- the word that a form begins with
abbrev pub form_word : Usage → List ℕ
form_word u = before space (form_text u)

-- the form that begins with a word
abbrev pub form_of : List ℕ → Usage
form_of w = unwrap_or (find (λ u. bytes_eq w (form_word u)) forms) Unknown
