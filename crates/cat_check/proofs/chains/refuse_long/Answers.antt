use Rattle.std.proofs.Common.{◌∙◌, List, refl, ap}
use Rattle.cat_value.specs.declared.declaration.ItemDecl.{ItemDecl}
use Rattle.cat_scope.specs.declared.defs.Def.{Def}
use Rattle.cat_scope.specs.Orders.{function_calls}
use Rattle.cat_check.proofs.Chaining.{function_there, told_past}
use Rattle.cat_check.proofs.chains.refuse_long.Goals as goal

pub at-requires : goal.at-requires
at-requires c =
    let same = ap (λ (is : List ItemDecl). function_calls is c.as_slice-defs.result.now) c.as_slice.ensures
    ∙ ap (λ (ds : List Def). function_calls c.args.items.now ds) c.as_slice-defs.ensures in
    function_there c.args.items.now c.args.body.now.defs c.in-Some.function
    (told_past (function_calls c.as_slice.result.now c.as_slice-defs.result.now)
    (function_calls c.args.items.now c.args.body.now.defs) c.in_ok-long.long c.in-Some.function same c.in-Some.is
    c.in_ok-long.ensures)

pub returns-in-Some-clause-cause : goal.returns-in-Some-clause-cause
returns-in-Some-clause-cause c =
    let same = ap (λ (is : List ItemDecl). function_calls is c.as_slice-defs.result.now) c.as_slice.ensures
    ∙ ap (λ (ds : List Def). function_calls c.args.items.now ds) c.as_slice-defs.ensures in
    record {
      number = c.in-Some.function;
      item = c.at.result.now;
      past = told_past (function_calls c.as_slice.result.now c.as_slice-defs.result.now)
          (function_calls c.args.items.now c.args.body.now.defs) c.in_ok-long.long c.in-Some.function same c.in-Some.is
          c.in_ok-long.ensures;
      item_is = c.at.ensures;
      fault_is = refl;
    }
