use Rattle.std.proofs.Common.{◌≡◌, sym, ap, ◌∙◌, subst, Some, IsTrue}
use Rattle.cat_value.specs.declared.value.Value.{Value}
use Rattle.cat_value.specs.declared.value.Value.TheViews as value
use Rattle.cat_value.specs.Typing.{has_type}
use Rattle.cat_value.proofs.Exported.{content_declared}
use Rattle.cat_audit_sound.proofs.TypedLaws.{content_is, case_plain, case_full}
use Rattle.cat_audit_sound.proofs.pointed.case_with.Goals as goal

pub default_of-requires : goal.default_of-requires
default_of-requires c =
    content_declared c.args.decls.now c.args.number c.args.case c.in-Some.found.now c.in-Some-get.found.now
    c.in-Some-content.content (sym c.in-Some.ensures.value) (sym c.in-Some-get.ensures.value) c.in-Some-content.is

pub returns-in-None : goal.returns-in-None
returns-in-None c =
    case_plain c.args.decls.now c.args.number c.args.case
    (content_is c.args.decls.now c.args.number c.args.case c.in-Some.found.now c.in-Some-get.found.now
    (sym c.in-Some.ensures.value) (sym c.in-Some-get.ensures.value) ∙ ap Some c.in-None.is)

pub returns-in_ok-content-in-Some-content-2 : goal.returns-in_ok-content-in-Some-content-2
returns-in_ok-content-in-Some-content-2 c =
    let part = c.in_ok-content-in-Some-content.ensures in
    let same : c.in_ok-content-in-Some-content-2.content ≡ c.in_ok-content-in-Some-content.content =
    c.in_ok-content-in-Some-content-2.ensures in
    case_full c.args.decls.now c.args.number c.args.case c.in-Some-content.content
    c.in_ok-content-in-Some-content-2.content
    (content_is c.args.decls.now c.args.number c.args.case c.in-Some.found.now c.in-Some-get.found.now
    (sym c.in-Some.ensures.value) (sym c.in-Some-get.ensures.value) ∙ ap Some c.in-Some-content.is)
    (ap (λ (v : Value). Some (value.Case c.args.case (Some v))) (sym (same ∙ part.is)))
    (subst (λ (v : Value). IsTrue (has_type c.args.decls.now v c.in-Some-content.content)) (sym same) part.typed)
