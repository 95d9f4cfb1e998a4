use Rattle.std.proofs.Common.{◌≡◌, ℕ, List, false, sym, subst, ap, ◌∙◌}
use Rattle.std.specs.Str.{IsUtf8}
use Rattle.cat_lex.specs.Positions.{position_after}
use Rattle.cat_lex.specs.inside.Reading.{skip_gap}
use Rattle.cat_lex.specs.inside.Steps.{IsAfterGap}
use Rattle.cat_lex.proofs.GapLemmas.{gap_utf8}
use Rattle.cat_lex.proofs.PieceSteps.{gap_suffix, after_gap_step}
use Rattle.cat_lex.proofs.lexer.after_gap.Goals as goal

pub front-requires-clause-suffix : goal.front-requires-clause-suffix
front-requires-clause-suffix c =
    gap_suffix c.args.text.now _ (c.skip_gap-rest.ensures ∙ ap (skip_gap false) c.as_bytes.ensures.value)

pub front-requires-clause-utf8 : goal.front-requires-clause-utf8
front-requires-clause-utf8 c =
    let is : c.skip_gap-rest.result.now ≡ skip_gap false c.args.text.now =
    c.skip_gap-rest.ensures ∙ ap (skip_gap false) c.as_bytes.ensures.value in
    subst IsUtf8 (sym is) (gap_utf8 c.args.text.now c.utf8.text)

pub tail-requires-clause-utf8 : goal.tail-requires-clause-utf8
tail-requires-clause-utf8 c =
    let is : c.skip_gap-rest.result.now ≡ skip_gap false c.args.text.now =
    c.skip_gap-rest.ensures ∙ ap (skip_gap false) c.as_bytes.ensures.value in
    subst IsUtf8 (sym is) (gap_utf8 c.args.text.now c.utf8.text)

pub returns-clause-gap : goal.returns-clause-gap
returns-clause-gap c =
    let is : c.skip_gap-rest.result.now ≡ skip_gap false c.args.text.now =
    c.skip_gap-rest.ensures ∙ ap (skip_gap false) c.as_bytes.ensures.value in
    let position : c.position_after-position.result ≡ position_after c.args.pos c.front.result.now =
    c.position_after-position.ensures.position ∙ ap (position_after c.args.pos) c.as_bytes-2.ensures.value in
    subst (λ (rest : List ℕ). IsAfterGap c.args.pos c.args.text.now c.position_after-position.result rest)
    (sym c.tail.ensures)
    (after_gap_step c.args.pos c.position_after-position.result c.args.text.now c.skip_gap-rest.result.now
    c.front.result.now is c.front.ensures position)
