use Rattle.std.proofs.Common.{[], refl, subst}
use Rattle.cat_value.specs.declared.decls.Decls.{Decls}
use Rattle.cat_machine.proofs.Exported.{comes_to, is_given}
use Rattle.cat_app.specs.inside.Says.{SaysOutcome}
use Rattle.cat_app.proofs.Replies.{if_ok}
use Rattle.cat_app.proofs.ran.answer.Goals as goal

pub execute-requires : goal.execute-requires
execute-requires c =
    is_given c.args.built.now.program c.args.built.now.code c.requires.built.code c.args.scope c.args.input.now
    c.requires.typed

pub returns : goal.returns
returns c = if_ok c.tell.result c.tell.ensures (λ reply says.
    let told = subst (λ (ds : Decls). SaysOutcome ds c.args.scope c.args.source.now.files c.in_ok-outcome.outcome reply)
    c.decls.ensures says in record {
      outcome = c.in_ok-outcome.outcome;
      front = [];
      outcome_is =
          comes_to c.args.built.now.program c.args.built.now.code c.requires.built.code c.args.scope c.args.input.now
          c.requires.typed c.in_ok-outcome.outcome c.in_ok-outcome.ensures.outcome;
      status = told.0;
      front_is = refl;
      reply = told.1;
    })
