use Rattle.std.proofs.Common.{None, Some, length}
use Rattle.cat_verify_shapes.proofs.CalledLemmas.{scope_of, flags_of}
use Rattle.cat_verify_shapes.proofs.CallSteps.{scope_nowhere, scope_so}
use Rattle.cat_verify_shapes.proofs.calling.scope.Goals as goal

pub returns-in_default : goal.returns-in_default
returns-in_default c =
    let tables = c.args.tables.now in
    let forms = c.args.forms.now in
    scope_nowhere tables forms c.args.place c.args.shape c.args.scope
    (scope_of c.get.result.now tables.decls c.args.scope None c.get.ensures c.in_default.ensures.value)

pub returns : goal.returns
returns c =
    let tables = c.args.tables.now in
    let forms = c.args.forms.now in
    let scope = c.in-Some.declared.now in
    scope_so tables forms c.args.place c.args.shape c.args.scope scope c.in_ok-passed.passed c.push.new.self
    (scope_of c.get.result.now tables.decls c.args.scope (Some scope) c.get.ensures c.in-Some.ensures.value)
    (flags_of c.in_ok-passed.passed c.len.result (length scope.items) c.in_ok-passed.ensures c.len.ensures)
    c.in_ok-push.ensures.ok
