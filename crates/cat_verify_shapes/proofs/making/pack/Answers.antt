use Rattle.std.proofs.Common.{rules}
use Rattle.cat_verify_shapes.proofs.MakingSteps.{pack_few, pack_so}
use Rattle.cat_verify_shapes.proofs.making.pack.Goals as goal

pub returns-in_default : goal.returns-in_default
returns-in_default c =
    let tables = c.args.tables.now in
    let forms = c.args.forms.now in
    let p = c.args.place in
    let s = c.args.shape in
    pack_few tables forms p s c.pop_row.new.shape c.args.count (search rules)

pub returns : goal.returns
returns c =
    let tables = c.args.tables.now in
    let forms = c.args.forms.now in
    let p = c.args.place in
    let s = c.args.shape in
    pack_so tables forms p s c.pop_row.new.shape c.args.count c.in-Some.row c.in_ok-form.form c.in_ok-push.field-0
    (search rules) c.in_ok-form.ensures c.in_ok-push.ensures
