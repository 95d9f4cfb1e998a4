use Rattle.std.proofs.Common.{◌≡◌, ℕ, List, refl, sym, subst, ◌∙◌}
use Rattle.std.specs.Prelude.{Some, None}
use Rattle.cat_lex.proofs.Fronts.{read_none}
use Rattle.cat_lex.proofs.FirstTokens.{read_suffix, read_utf8, first_of, passes_of}
use Rattle.cat_lex.specs.Values.{token_of}
use Rattle.cat_lex.specs.inside.Steps.{IsFirst}
use Rattle.cat_lex.proofs.lexer.first_token.Goals as goal

pub returns-in_default-clause-cause : goal.returns-in_default-clause-cause
returns-in_default-clause-cause c = (refl, read_none c.args.text.now c.utf8.text (sym c.in_default.ensures))

pub front-requires-clause-suffix : goal.front-requires-clause-suffix
front-requires-clause-suffix c =
    read_suffix c.in-Some.form c.args.text.now c.in-Some.rest.now c.utf8.text (sym c.in-Some.ensures)

pub front-requires-clause-utf8 : goal.front-requires-clause-utf8
front-requires-clause-utf8 c =
    read_utf8 c.in-Some.form c.args.text.now c.in-Some.rest.now c.utf8.text (sym c.in-Some.ensures)

pub tail-requires-clause-utf8 : goal.tail-requires-clause-utf8
tail-requires-clause-utf8 c =
    read_utf8 c.in-Some.form c.args.text.now c.in-Some.rest.now c.utf8.text (sym c.in-Some.ensures)

pub returns-in-Some-2-clause-first : goal.returns-in-Some-2-clause-first
returns-in-Some-2-clause-first c =
    let text = c.args.text.now in
    let token : token_of c.in-Some.form c.front.result.now ≡ Some c.in-Some-2.kind =
    sym c.in_ok-kind.ensures ∙ c.in-Some-2.is in
    subst (λ (rest : List ℕ). IsFirst
    (record { kind = c.in-Some-2.kind; pos = c.args.position }) c.args.position text rest) (sym c.tail.ensures)
    (first_of c.in-Some.form text c.front.result.now c.in-Some.rest.now c.in-Some-2.kind c.args.position c.utf8.text
    (sym c.in-Some.ensures) c.front.ensures token)

pub returns-in-None-clause-cause : goal.returns-in-None-clause-cause
returns-in-None-clause-cause c =
    let none : token_of c.in-Some.form c.front.result.now ≡ None = sym c.in_ok-kind.ensures ∙ c.in-None.is in (
      refl,
      passes_of c.in-Some.form c.args.text.now c.front.result.now c.in-Some.rest.now c.utf8.text
          (sym c.in-Some.ensures) c.front.ensures none,
    )
