use Rattle.std.proofs.Common.{rules}
use Rattle.cat_json.proofs.InputsTyped.{inputs_read-typed}
use Rattle.cat_json.proofs.input.read_inputs.Goals as goal

pub returns-in_ok-each_input-in-Some-clause-typed : goal.returns-in_ok-each_input-in-Some-clause-typed
returns-in_ok-each_input-in-Some-clause-typed c =
    inputs_read-typed c.args.decls.now c.args.scope c.args.bytes.now c.in_ok-each_input-in-Some.field-0 (search rules)
    (search rules)
