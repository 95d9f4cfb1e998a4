use Rattle.std.proofs.Common.{subst}
use Rattle.cat_value.specs.declared.decls.Decls.{Decls}
use Rattle.cat_value.specs.Inputs.{IsWellTyped}
use Rattle.cat_machine.proofs.Exported.{comes_to, is_given}
use Rattle.cat_app.proofs.runs.run_once.Goals as goal

pub execute-requires-clause-given : goal.execute-requires-clause-given
execute-requires-clause-given c =
    is_given c.args.program.now c.args.code.now c.requires.code c.args.scope c.in-Ok.input
    (subst (λ (ds : Decls). IsWellTyped ds c.args.scope c.in-Ok.input) c.decls.ensures c.in-Ok.ensures.typed)

pub returns-in-Ok-clause-ran : goal.returns-in-Ok-clause-ran
returns-in-Ok-clause-ran c =
    let typed = subst (λ (ds : Decls). IsWellTyped ds c.args.scope c.in-Ok.input) c.decls.ensures c.in-Ok.ensures.typed
    in record {
      input = c.in-Ok.input;
      input_is = cc (c.in-Ok.ensures.read, c.decls.ensures, c.as_bytes.ensures.value, c.in_ok-text.ensures);
      outcome_is =
          comes_to c.args.program.now c.args.code.now c.requires.code c.args.scope c.in-Ok.input typed
          c.in_ok-outcome-in-Ok.outcome c.in_ok-outcome-in-Ok.ensures.outcome;
    }
