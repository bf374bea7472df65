use Rattle.std.proofs.Common.{unwrap_or, ap, ◌∙◌, rules, tests}
use Rattle.std.specs.Str.{bytes_eq}
use Rattle.std.proofs.lemmas.Iterator.{YieldsList-from_slice}
use Rattle.std.proofs.lemmas.Iterator.Search.{find_from_yields_List}
use Rattle.commands.specs.Forms.{forms, form_word}
use Rattle.commands.specs.declared.command.Usage.TheVariants.{Unknown}
use Rattle.commands.proofs.parse.form_of.Goals as goal

pub returns : goal.returns
returns c =
    let found = find_from_yields_List (λ u. bytes_eq c.args.word.now (form_word u)) _ _ c.find.result c.find.ensures.ran (YieldsList-from_slice forms cc) (λ x b q k. search (rules, tests)) in
    c.unwrap_or.ensures ∙ ap (λ o. unwrap_or o Unknown) (c.copied.ensures ∙ found)
