use Rattle.std.proofs.Common.{sym, subst, rules}
use Rattle.cat_code.specs.Forms.{form_of}
use Rattle.cat_value.specs.declared.decls.Decls.{Decls}
use Rattle.std.specs.Option.{option_map}
use Rattle.std.specs.Prelude.{IfSome}
use Rattle.cat_verify_shapes.specs.inside.Senses.{IsLow, StandsIn}
use Rattle.cat_verify_shapes.proofs.OperandLemmas.{contents_low, case_none, enumeration_none, case_missing, case_found}
use Rattle.cat_verify_shapes.proofs.making.case_form.Goals as goal

pub returns-in_default : goal.returns-in_default
returns-in_default c =
    let tables = c.args.tables.now in
    let forms = c.args.forms.now in
    case_none tables forms c.args.case (search rules)

pub returns-in_default-get : goal.returns-in_default-get
returns-in_default-get c =
    let tables = c.args.tables.now in
    let forms = c.args.forms.now in
    enumeration_none tables forms c.args.case c.in-Some.place.now (search rules) (search rules)

pub returns-in_default-get-2 : goal.returns-in_default-get-2
returns-in_default-get-2 c =
    let tables = c.args.tables.now in
    let forms = c.args.forms.now in
    case_missing tables forms c.args.case c.in-Some.place.now (search rules) c.in-Some-get.enumeration.now (search
    rules) (search rules)

pub content_form-requires : goal.content_form-requires
content_form-requires c =
    let tables = c.args.tables.now in
    subst (λ (ds : Decls). IfSome c.in-Some-get-2.case.now.content (IsLow ds)) (sym c.get-decls.ensures)
    (contents_low tables.decls c.in-Some.place.now.enumeration c.in-Some.place.now.case
    c.in-Some-get.enumeration.now c.in-Some-get-2.case.now (search rules) (search rules))

pub returns : goal.returns
returns c =
    let tables = c.args.tables.now in
    let forms = c.args.forms.now in
    case_found tables forms c.args.case c.in-Some.place.now (search rules) c.in-Some-get.enumeration.now (search
    rules) c.in-Some-get-2.case.now (record { whole = c.in_ok-whole.whole; content = c.in_ok-content.content })
    (search rules) c.in_ok-whole.ensures
    (subst (λ (ds : Decls). StandsIn ds forms c.in_ok-content.content (option_map (form_of ds)
    c.in-Some-get-2.case.now.content)) c.get-decls.ensures c.in_ok-content.ensures)
