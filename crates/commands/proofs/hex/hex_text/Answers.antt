use Rattle.std.proofs.Common.{string_bytes, arith}
use Rattle.std.proofs.lemmas.Result.{IfOk-weaker}
use Rattle.commands.proofs.Exact.{written_back}
use Rattle.commands.proofs.hex.hex_text.Goals as goal

pub returns-clause-back : goal.returns-clause-back
returns-clause-back c =
    IfOk-weaker c.to_string.result _ _ (λ s e. written_back c.args.bytes.now (string_bytes s) (λ i. omega (arith, c.type_inv.bytes i)) e) c.to_string.ensures.ok
