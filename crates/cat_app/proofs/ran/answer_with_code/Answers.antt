use Rattle.std.proofs.Common.{◌++◌, ◌∙◌, ℕ, List, ap, subst}
use Rattle.std.specs.Prelude.{string_bytes}
use Rattle.cat_value.specs.declared.decls.Decls.{Decls}
use Rattle.cat_machine.proofs.Exported.{comes_to, is_given}
use Rattle.cat_app.specs.inside.Says.{SaysOutcome}
use Rattle.cat_app.proofs.Replies.{if_ok}
use Rattle.cat_app.proofs.ran.answer_with_code.Goals as goal

pub execute_counted-requires : goal.execute_counted-requires
execute_counted-requires c =
    is_given c.args.built.now.program c.args.built.now.code c.requires.built.code c.args.scope c.args.input.now
    c.requires.typed

pub returns : goal.returns
returns c = if_ok c.behind.result c.behind.ensures (λ reply says.
    let outcome = c.in_ok-outcome.outcome in
    let front = c.in_ok-front.front in
    let told = subst (λ (ds : Decls). SaysOutcome ds c.args.scope c.args.source.now.files outcome c.in_ok-told.told)
    c.decls.ensures c.in_ok-told.ensures in record {
      outcome = outcome;
      front = string_bytes front;
      outcome_is =
          comes_to c.args.built.now.program c.args.built.now.code c.requires.built.code c.args.scope c.args.input.now
          c.requires.typed outcome c.in_ok-outcome.ensures.outcome;
      status = says.0 ∙ told.0;
      front_is = record {
        code = c.args.built.now.code;
        steps = c.in_ok-outcome.steps;
        code_is = c.requires.built.code;
        steps_are = c.in_ok-outcome.ensures.count;
        text_is = c.in_ok-front.ensures;
      };
      reply = says.1 ∙ ap (λ (t : List ℕ). string_bytes front ++ t) told.1;
    })
