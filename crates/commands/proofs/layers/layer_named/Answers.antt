use Rattle.std.proofs.Common.{◌≡◌, ◌∙◌, rules, tests}
use Rattle.std.specs.Str.{bytes_eq}
use Rattle.std.proofs.lemmas.Iterator.{YieldsList-from_slice}
use Rattle.std.proofs.lemmas.Iterator.Search.{find_from_yields_List}
use Rattle.refusals.specs.Names.{name_of}
use Rattle.commands.specs.Layers.{layers, layer_named}
use Rattle.commands.proofs.Named.{inverse}
use Rattle.commands.proofs.layers.layer_named.Goals as goal

pub returns : goal.returns
returns c =
    let found = find_from_yields_List (λ l. bytes_eq c.args.word.now (name_of l)) _ _ c.find.result c.find.ensures.ran (YieldsList-from_slice layers cc) (λ x b q k. search (rules, tests)) in
    let e : c.copied.result ≡ layer_named c.args.word.now = c.copied.ensures ∙ found in
    record { answer = e; inverse = inverse c.args.word.now c.copied.result e }
