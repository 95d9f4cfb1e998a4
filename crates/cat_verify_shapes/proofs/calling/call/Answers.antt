use Rattle.std.proofs.Common.{sym, length, Some, refl, rules, slice_get, ◌≡◌}
use Rattle.std.proofs.lemmas.Option.{slice_get_read, slice_get_past}
use Rattle.cat_verify_shapes.proofs.CalledLemmas.{unplaced, undeclared}
use Rattle.cat_verify_shapes.proofs.CalleeLemmas.{callee, callee_low, callee_params, called_abroad, called_counted}
use Rattle.cat_verify_shapes.proofs.CalleeLemmas.{called_unlike, called_so}
use Rattle.cat_verify_shapes.proofs.FunctionSteps.{call_nowhere, call_without_entry}
use Rattle.cat_verify_shapes.proofs.calling.call.Goals as goal

pub returns-in_default : goal.returns-in_default
returns-in_default c =
    let tables = c.args.tables.now in
    let forms = c.args.forms.now in
    let p = c.args.place in
    let s = c.args.shape in
    call_without_entry tables forms p s c.args.function c.args.count (search rules)

pub returns-in_default-get : goal.returns-in_default-get
returns-in_default-get c =
    let tables = c.args.tables.now in
    let forms = c.args.forms.now in
    let p = c.args.place in
    let s = c.args.shape in
    let functions = c.args.functions.now in
    call_nowhere tables forms p s c.args.function c.args.count
    (unplaced tables.decls functions c.requires.functions c.args.function (sym (slice_get_past functions
    c.args.function c.in_default-get.ensures.lookup.3)))

pub returns-in_default-function_item : goal.returns-in_default-function_item
returns-in_default-function_item c =
    let tables = c.args.tables.now in
    let forms = c.args.forms.now in
    let p = c.args.place in
    let s = c.args.shape in
    call_nowhere tables forms p s c.args.function c.args.count
    (undeclared c.get-decls.result.now tables.decls c.args.function c.get-decls.ensures
    c.in_default-function_item.ensures)

pub returns-then-declared-shape : goal.returns-then-declared-shape
returns-then-declared-shape c =
    let tables = c.args.tables.now in
    let forms = c.args.forms.now in
    let p = c.args.place in
    let s = c.args.shape in
    let functions = c.args.functions.now in
    let told = c.in-Some-get.declared.now in
    let item = c.in-Some-function_item.item.now in
    let is = callee tables.decls c.get-decls.result.now functions c.requires.functions c.args.function told item
    c.get-decls.ensures
    (slice_get_read functions (length functions) c.args.function told refl c.in-Some-get.ensures.lookup.3.0
    c.in-Some-get.ensures.lookup.1) c.in-Some-function_item.ensures in
    let entry = c.in-Some.field-0.now in
    let at : slice_get tables.functions c.args.function ≡ Some entry = search rules in
    called_abroad tables forms p s c.args.function c.args.count entry told item is at c.if-declared-shape.true

pub returns-then-len-count : goal.returns-then-len-count
returns-then-len-count c =
    let tables = c.args.tables.now in
    let forms = c.args.forms.now in
    let p = c.args.place in
    let s = c.args.shape in
    let functions = c.args.functions.now in
    let told = c.in-Some-get.declared.now in
    let item = c.in-Some-function_item.item.now in
    let is = callee tables.decls c.get-decls.result.now functions c.requires.functions c.args.function told item
    c.get-decls.ensures
    (slice_get_read functions (length functions) c.args.function told refl c.in-Some-get.ensures.lookup.3.0
    c.in-Some-get.ensures.lookup.1) c.in-Some-function_item.ensures in
    let entry = c.in-Some.field-0.now in
    let at : slice_get tables.functions c.args.function ≡ Some entry = search rules in
    called_counted tables forms p s c.args.function c.args.count entry told item is at c.len.result c.len.ensures
    c.if-len-count.true

pub params_forms-requires : goal.params_forms-requires
params_forms-requires c =
    let tables = c.args.tables.now in
    let functions = c.args.functions.now in
    let told = c.in-Some-get.declared.now in
    let item = c.in-Some-function_item.item.now in
    let is = callee tables.decls c.get-decls.result.now functions c.requires.functions c.args.function told item
    c.get-decls.ensures
    (slice_get_read functions (length functions) c.args.function told refl c.in-Some-get.ensures.lookup.3.0
    c.in-Some-get.ensures.lookup.1) c.in-Some-function_item.ensures in
    callee_params tables.decls c.get-decls.result.now c.args.function told item c.get-decls.ensures is
    c.as_slice.result.now c.as_slice.ensures

pub returns-then-not-pop_params : goal.returns-then-not-pop_params
returns-then-not-pop_params c =
    let tables = c.args.tables.now in
    let forms = c.args.forms.now in
    let p = c.args.place in
    let s = c.args.shape in
    let functions = c.args.functions.now in
    let told = c.in-Some-get.declared.now in
    let item = c.in-Some-function_item.item.now in
    let is = callee tables.decls c.get-decls.result.now functions c.requires.functions c.args.function told item
    c.get-decls.ensures
    (slice_get_read functions (length functions) c.args.function told refl c.in-Some-get.ensures.lookup.3.0
    c.in-Some-get.ensures.lookup.1) c.in-Some-function_item.ensures in
    let entry = c.in-Some.field-0.now in
    let at : slice_get tables.functions c.args.function ≡ Some entry = search rules in
    called_unlike tables forms p s c.args.function c.args.count entry told item is at
    c.if-declared-shape.false c.len.result c.len.ensures c.if-len-count.false c.get-decls.result.now
    c.get-decls.ensures c.as_slice.result.now c.as_slice.ensures c.in_ok-locals.locals c.as_slice-2.result.now
    c.in_ok-locals.ensures c.as_slice-2.ensures
    c.pop_params.new.shape c.pop_params.result c.pop_params.ensures c.if-not-pop_params.true

pub of_ty-requires : goal.of_ty-requires
of_ty-requires c =
    let tables = c.args.tables.now in
    let functions = c.args.functions.now in
    let told = c.in-Some-get.declared.now in
    let item = c.in-Some-function_item.item.now in
    let is = callee tables.decls c.get-decls.result.now functions c.requires.functions c.args.function told item
    c.get-decls.ensures
    (slice_get_read functions (length functions) c.args.function told refl c.in-Some-get.ensures.lookup.3.0
    c.in-Some-get.ensures.lookup.1) c.in-Some-function_item.ensures in
    callee_low tables.decls c.get-decls.result.now c.args.function told item c.get-decls.ensures is

pub returns : goal.returns
returns c =
    let tables = c.args.tables.now in
    let forms = c.args.forms.now in
    let p = c.args.place in
    let s = c.args.shape in
    let functions = c.args.functions.now in
    let told = c.in-Some-get.declared.now in
    let item = c.in-Some-function_item.item.now in
    let is = callee tables.decls c.get-decls.result.now functions c.requires.functions c.args.function told item
    c.get-decls.ensures
    (slice_get_read functions (length functions) c.args.function told refl c.in-Some-get.ensures.lookup.3.0
    c.in-Some-get.ensures.lookup.1) c.in-Some-function_item.ensures in
    let entry = c.in-Some.field-0.now in
    let at : slice_get tables.functions c.args.function ≡ Some entry = search rules in
    called_so tables forms p s c.args.function c.args.count entry told item is at
    c.if-declared-shape.false c.len.result c.len.ensures c.if-len-count.false c.get-decls.result.now
    c.get-decls.ensures c.as_slice.result.now c.as_slice.ensures c.in_ok-locals.locals c.as_slice-2.result.now
    c.in_ok-locals.ensures c.as_slice-2.ensures
    c.pop_params.new.shape c.entered-inner.result c.in_ok-result.result c.push.new.self c.in_ok-filled.filled
    c.as_slice-3.result.now c.pop_params.result c.pop_params.ensures c.if-not-pop_params.false
    c.in_ok-result.ensures c.in_ok-push.ensures.ok c.in_ok-filled.ensures c.as_slice-3.ensures
    c.entered-inner.ensures
