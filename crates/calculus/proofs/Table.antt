-- The table of worked plays holds: each row by a certificate for its nodes, and by computation.
use Rattle.std.proofs.Common.{List, [], ◌∷◌, map, Err, refl, lit≤}
use Rattle.checking.specs.declared.fault.CheckFault.TheVariants.{Loop, TooHeavy}
use Rattle.checking.specs.Links.{node as node_in}
use Rattle.checking.specs.Answer.{heavy, weights}
use Rattle.events.specs.Types.{has, those, bits_below}
use Rattle.calculus.specs.Vocabulary.{has, Node, Or, Pair}
use Rattle.calculus.specs.Plays.{◌▸◌, answers, beside, card_rule, choice, done, eight_ors, filtered_rule, Holds, inner_binder, nine_ors, optional, PlaysHold, record_of, same_number_twice, sequence}
use Rattle.calculus.proofs.Answering.{answers_loop}
use Rattle.calculus.proofs.Played.{accepted, decode_at, holds, refused_heavy, weighs_so}
use Rattle.calculus.proofs.PlayRules.{besides, besides_fit, cards, cards_fit, choices, choices_fit, eight, eight_fit, filters, filters_fit, inner, inner_fit, nine, nine_fit, options, options_fit, sequences, sequences_fit, twice, twice_fit}

abbrev looped : List Node
looped = Pair Or 0 0 ∷ []

loop_refused : Holds (answers looped (Err (Loop 0)))
loop_refused = answers_loop (map record_of looped) (node_in looped) (lit≤ tt, lit≤ tt) (decode_at 1 looped (refl, tt)) refl

nine_refused : Holds (answers nine_ors (Err (TooHeavy 0)))
unfolding heavy weights
nine_refused = refused_heavy nine_ors nine nine_fit refl

pub plays_hold : PlaysHold
unfolding has those bits_below
plays_hold =
    holds card_rule cards cards_fit refl _ _ _ refl refl refl ▸
    holds card_rule cards cards_fit refl _ _ _ refl refl refl ▸
    holds card_rule cards cards_fit refl _ _ _ refl refl refl ▸
    holds card_rule cards cards_fit refl _ _ _ refl refl refl ▸
    holds card_rule cards cards_fit refl _ _ _ refl refl refl ▸
    holds optional options options_fit refl _ _ _ refl refl refl ▸
    holds optional options options_fit refl _ _ _ refl refl refl ▸
    holds choice choices choices_fit refl _ _ _ refl refl refl ▸
    holds sequence sequences sequences_fit refl _ _ _ refl refl refl ▸
    holds sequence sequences sequences_fit refl _ _ _ refl refl refl ▸
    holds same_number_twice twice twice_fit refl _ _ _ refl refl refl ▸
    holds same_number_twice twice twice_fit refl _ _ _ refl refl refl ▸
    holds filtered_rule filters filters_fit refl _ _ _ refl refl refl ▸
    holds filtered_rule filters filters_fit refl _ _ _ refl refl refl ▸
    holds beside besides besides_fit refl _ _ _ refl refl refl ▸
    holds beside besides besides_fit refl _ _ _ refl refl refl ▸
    holds beside besides besides_fit refl _ _ _ refl refl refl ▸
    holds inner_binder inner inner_fit refl _ _ _ refl refl refl ▸
    loop_refused ▸
    weighs_so eight_ors eight eight_fit ▸
    accepted eight_ors eight eight_fit refl ▸
    weighs_so nine_ors nine nine_fit ▸
    nine_refused ▸
    done
