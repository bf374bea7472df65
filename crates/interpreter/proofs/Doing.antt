-- What commands do, from what the calls below them answer.
use Rattle.std.proofs.Common.{◌≡◌, ℕ, List, Some, None, Ok, Err, Option, Result, sym, ap, subst, refl}
use Rattle.std.specs.Result.{IsErrAnd}
use Rattle.events.specs.declared.meaning.Meaning.{Meaning}
use Rattle.checking.specs.declared.rule.Rule.{Rule}
use Rattle.monitor.specs.declared.Monitor.{Monitor}
use Rattle.monitor.specs.declared.fault.ShowFault.{ShowFault}
use Rattle.monitor.specs.declared.fault.ShowFault.TheVariants.{Limit, Full, Memory}
use Rattle.monitor.specs.Uses.{Begins, Shows}
use Rattle.monitor.specs.Faults.{refusal_of as show_refusal}
use Rattle.loading.specs.Loading.{Loads}
use Rattle.commands.specs.declared.command.Command.{Command}
use Rattle.commands.specs.declared.command.Usage.{Usage}
use Rattle.commands.specs.declared.fault.ParseFault.{ParseFault}
use Rattle.commands.specs.declared.fault.ParseFault.TheVariants.{Malformed}
use Rattle.commands.specs.Said.{said_by, Told as LineTold, says, malformed, nothing, IfTold}
use Rattle.replies.specs.declared.reply.Reply.{Reply}
use Rattle.replies.specs.Told.{Told, a_rule, expected}
use Rattle.interpreter.specs.declared.Interpreter.{Interpreter}
use Rattle.interpreter.specs.declared.stop.Stop.{Stop}
use Rattle.interpreter.specs.Stops.{stop_of}
use Rattle.interpreter.specs.Answering.{with_monitor, Showing, is_refused, SetsRule, in_force, Does, ComesTo, Answers, passed_over, an_error, a_command}

-- a call below stopped, and its fault is turned into this stop
pub stopped : (P : Interpreter → Told → Type 0) (i k : Interpreter) (r : Result Reply Stop) (s : Stop) → IsErrAnd r (λ t. t ≡ s) → ComesTo P i k (Err s) → ComesTo P i k r
stopped P i k (Ok y) s e h = absurd e
stopped P i k (Err t) s e h = subst (λ (x : Stop). ComesTo P i k (Err x)) (sym e) h

-- an event is not shown
pub not_shown : (i : Interpreter) (e : Meaning) (m : Monitor) (f : ShowFault) → Shows e i.monitor m (Err f) → ComesTo (Showing i e) i (with_monitor i m) (Err (stop_of (show_refusal f)))
not_shown i e m Limit h = is_refused Limit h refl
not_shown i e m Full h = is_refused Full h refl
not_shown i e m Memory h = ap (with_monitor i) h.1

pub rule_set : (i : Interpreter) (xs : List ℕ) (r : Rule) (m : Monitor) (n : ℕ) → Loads xs (Ok r) → Begins r m → n ≡ r.count → SetsRule i xs (record { rule = r; entries = i.entries; monitor = m }) (a_rule n)
rule_set i xs r m n l b e = subst (λ (k : ℕ). SetsRule i xs (record { rule = r; entries = i.entries; monitor = m }) (a_rule k)) (sym e) (in_force l b)

-- what is answered to what a line tells
module _ (i : Interpreter) (l : LineTold) where
  pub nothing_said : (o : Option Command) → o ≡ None → IfTold (Ok o) (λ t. t ≡ l) → Answers i l i None
  nothing_said o q h =
      let e : nothing ≡ l = subst (λ (p : Option Command). IfTold (Ok p) (λ t. t ≡ l)) q h in
      subst (λ (x : LineTold). Answers i x i None) e passed_over

  pub said_wrong : (f : ParseFault) (u : Usage) → f ≡ Malformed u → IfTold (Err f) (λ t. t ≡ l) → Answers i l i (Some (expected u))
  said_wrong f u q h =
      let e : malformed u ≡ l = subst (λ (g : ParseFault). IfTold (Err g) (λ t. t ≡ l)) q h in
      subst (λ (x : LineTold). Answers i x i (Some (expected u))) e an_error

  pub command_done : (k : Interpreter) (o : Option Command) (c : Command) (t : Told) → o ≡ Some c → IfTold (Ok o) (λ t. t ≡ l) → Does i (said_by c) k t → Answers i l k (Some t)
  command_done k o c t q h d =
      let e : says (said_by c) ≡ l = subst (λ (p : Option Command). IfTold (Ok p) (λ t. t ≡ l)) q h in
      subst (λ (x : LineTold). Answers i x k (Some t)) e (a_command d)
