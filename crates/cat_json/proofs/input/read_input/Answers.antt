use Rattle.std.proofs.Common.{rules}
use Rattle.cat_json.proofs.InputsTyped.{input_read-typed}
use Rattle.cat_json.proofs.input.read_input.Goals as goal

pub returns-in-Ok-clause-typed : goal.returns-in-Ok-clause-typed
returns-in-Ok-clause-typed c =
    input_read-typed c.args.decls.now c.args.scope c.args.bytes.now c.in-Ok.input (search rules) (search rules)
