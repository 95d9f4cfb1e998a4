use Rattle.std.proofs.Common.{◌≡◌, ◌∙◌, ap, sym, subst}
use Rattle.std.specs.Prelude.{Some, option_map, string_bytes}
use Rattle.cat_value.specs.declared.decls.Decls.{Decls}
use Rattle.cat_value.specs.Inputs.{IsWellTyped}
use Rattle.cat_machine.proofs.Exported.{comes_to, is_given}
use Rattle.cat_app.specs.inside.Reading.{IsReadInput}
use Rattle.cat_app.specs.inside.Says.{SaysOutcome}
use Rattle.cat_app.specs.Many.{ReadInput, outcome_line, element_line}
use Rattle.cat_app.proofs.Replies.{if_ok}
use Rattle.cat_app.proofs.many.reply_on.Goals as goal

pub execute-requires-clause-given : goal.execute-requires-clause-given
execute-requires-clause-given c =
    is_given c.args.built.now.program c.args.built.now.code c.requires.built.code c.args.scope c.in-Ok.input
    (subst (λ (r : ReadInput). IsReadInput c.args.built.now.program.decls c.args.scope r) c.in-Ok.is c.requires.read)

pub returns-in_ok-outcome-in-Ok-clause-line : goal.returns-in_ok-outcome-in-Ok-clause-line
returns-in_ok-outcome-in-Ok-clause-line c = if_ok c.tell.result c.tell.ensures (λ reply says.
    let program = c.args.built.now.program in
    let names = c.args.source.now.files in
    let outcome = c.in_ok-outcome-in-Ok.outcome in
    let typed : IsWellTyped program.decls c.args.scope c.in-Ok.input =
    subst (λ (r : ReadInput). IsReadInput program.decls c.args.scope r) c.in-Ok.is c.requires.read in
    let told = subst (λ (ds : Decls). SaysOutcome ds c.args.scope names outcome reply) c.decls.ensures says in
    let comes = comes_to program c.args.built.now.code c.requires.built.code c.args.scope c.in-Ok.input typed outcome
    c.in_ok-outcome-in-Ok.ensures.outcome in
    subst (λ (r : ReadInput). element_line program c.args.scope names r ≡ Some (string_bytes reply.text))
    (sym c.in-Ok.is) (ap (option_map (outcome_line program c.args.scope names)) comes ∙ ap Some (sym told.1)))
