use Rattle.std.proofs.Common.{List, ℕ, subst, sym}
use Rattle.cat_value.specs.declared.decls.Decls.{Decls}
use Rattle.cat_code.specs.declared.code.Code.{Code}
use Rattle.cat_code.specs.Valid.{IsValid}
use Rattle.cat_machine.specs.Running.{IsGiven, GivesOutcome}
use Rattle.cat_app.specs.inside.Says.{SaysOutcome}
use Rattle.cat_app.proofs.Replies.{if_ok}
use Rattle.cat_app.proofs.ExecRuns.{given_by, gives_alone}
use Rattle.cat_app.proofs.executed.executed.Goals as goal

pub execute-requires : goal.execute-requires
execute-requires c =
    subst (λ (code : Code). ∥ IsGiven code c.args.scope c.args.input.now ∥₁) (sym c.code-2.ensures)
    (given_by c.valid_code_runs_to_an_end.ensures c.args.verified.now.code c.args.scope c.args.input.now
    (subst (λ (code : Code). ∥ IsValid code.tables code.instructions ∥₁) c.code.ensures c.code_is_valid.ensures)
    c.requires.typed)

pub returns : goal.returns
returns c = if_ok c.tell.result c.tell.ensures (λ reply says.
    let code = c.args.verified.now.code in
    let made = c.in_ok-outcome.outcome in
    let told = subst (λ (ds : Decls). SaysOutcome ds c.args.scope c.args.verified.now.files made reply) c.decls.ensures
    (subst (λ (fs : List (List ℕ)). SaysOutcome c.decls.result.now c.args.scope fs made reply) c.files.ensures says) in
    record {
      outcome = made;
      typed = c.requires.typed;
      gives = gives_alone code c.args.scope c.args.input.now made
          (given_by c.valid_code_runs_to_an_end.ensures code c.args.scope c.args.input.now
          (subst (λ (x : Code). ∥ IsValid x.tables x.instructions ∥₁) c.code.ensures c.code_is_valid.ensures)
          c.requires.typed)
          (subst (λ (x : Code). GivesOutcome x c.args.scope c.args.input.now made) c.code-2.ensures
          c.in_ok-outcome.ensures.outcome);
      status = told.0;
      reply = told.1;
    })
