use Rattle.monitor.specs.Faults.{refusal_of}
use Rattle.interpreter.specs.Stops.{stop_of}
use Rattle.interpreter.specs.Answering.{Showing, is_shown}
use Rattle.interpreter.proofs.Doing.{stopped, not_shown}
use Rattle.interpreter.proofs.Interpreter.show.Goals as goal

pub returns-in_err-show : goal.returns-in_err-show
returns-in_err-show g c =
    stopped (Showing c.args.self.now (g.E.Event.meaning c.args.event.now)) c.args.self.now _ c.from_residual.result (stop_of (refusal_of c.in_err-show.field-0.0)) c.from_residual.ensures.1
    (not_shown c.args.self.now (g.E.Event.meaning c.args.event.now) c.show.new.self c.in_err-show.field-0.0 c.in_err-show.ensures.shows)

pub returns : goal.returns
returns g c = is_shown c.in_ok-show.ensures.shows
