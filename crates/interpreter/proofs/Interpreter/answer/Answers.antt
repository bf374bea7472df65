use Rattle.commands.specs.Commands.{parsed_of}
use Rattle.replies.specs.Told.{told_by}
use Rattle.interpreter.proofs.Doing.{nothing_said, said_wrong, command_done}
use Rattle.interpreter.proofs.Interpreter.answer.Goals as goal

pub returns-in-Ok-None : goal.returns-in-Ok-None
returns-in-Ok-None c = nothing_said c.args.self.now (parsed_of c.args.line.now) c.in-Ok-None.field-0 c.in-Ok-None.field-0-is c.in-Ok-None.ensures

pub returns-in-Err-Malformed : goal.returns-in-Err-Malformed
returns-in-Err-Malformed c =
    rw c.in-Err-Malformed.field-0-is (said_wrong c.args.self.now (parsed_of c.args.line.now) c.in-Err-Malformed.field-0 c.in-Err-Malformed.usage c.in-Err-Malformed.field-0-is c.in-Err-Malformed.ensures)

pub returns-in_ok-run-in-Ok-Some : goal.returns-in_ok-run-in-Ok-Some
returns-in_ok-run-in-Ok-Some c =
    command_done c.args.self.now (parsed_of c.args.line.now) c.run.new.self c.in-Ok-Some.field-0 c.in-Ok-Some.command (told_by c.in_ok-run-in-Ok-Some.field-0) c.in-Ok-Some.field-0-is c.in-Ok-Some.ensures
    c.in_ok-run-in-Ok-Some.ensures
