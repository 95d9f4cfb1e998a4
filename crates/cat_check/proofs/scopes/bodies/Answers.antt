use Rattle.std.proofs.Common.{◌≡◌, ◌∙◌, ◌<◌, ◌+◌, ◌++◌, [], ◌∷◌, List, length, drop, get_or, map, rules, sym, subst, ap}
use Rattle.std.specs.List.{enumerate_from}
use Rattle.std.proofs.lemmas.Result.{err_from_is_err_and}
use Rattle.cat_scope.specs.declared.defs.Body.{Body}
use Rattle.cat_value.specs.declared.declaration.Scope.{Scope}
use Rattle.cat_names.specs.Accepted.{unordered}
use Rattle.cat_names.specs.Bodies.{UnorderedBody, bodies_meant, body_found}
use Rattle.cat_names.specs.Found.{each_found}
use Rattle.cat_names.specs.Lines.{items_about}
use Rattle.cat_check.proofs.Listed.{left_at, left_less}
use Rattle.cat_check.proofs.Whole.{each_off, each_on, front, unordered_more}
use Rattle.cat_check.proofs.scopes.bodies.Goals as goal

pub returns-in_err-body : goal.returns-in_err-body
returns-in_err-body c =
    let p = err_from_is_err_and c.from_residual-in_err-body.result c.from_residual-in_err-body.ensures.1 in
    let ds = c.args.decls.now in
    let f = body_found ds c.args.tree.items in
    let l = c.loop-number in
    let scope : Scope = c.scope-item.result in
    let within : l.number < length ds.scopes = search rules in
    let is : get_or ds.scopes l.number scope ≡ scope = search rules in
    let about : c.replace-own.result ≡ items_about ds l.number c.args.tree.items =
    c.replace-own.ensures.value ∙ c.index_mut.ensures.value
    ∙ left_at ds c.args.tree.items l.number l.lists.items c.index_mut.result.now l.invariant.left within in
    record {
      told = rw (p.1, p.2) (each_off f ds.scopes l.number scope (map unordered l.bodies)
          (bodies_meant ds c.args.tree) c.in_err-body.field-0.0 within is
          (c.in_err-body.ensures c.args.tree.items about) l.invariant.told);
    }

pub loop-number-preserved : goal.loop-number-preserved
loop-number-preserved c =
    let ds = c.args.decls.now in
    let f = body_found ds c.args.tree.items in
    let l = c.loop-number in
    let scope : Scope = c.scope-item.result in
    let body = c.in_ok-body.body in
    let within : l.number < length ds.scopes = search rules in
    let is : get_or ds.scopes l.number scope ≡ scope = search rules in
    let about : c.replace-own.result ≡ items_about ds l.number c.args.tree.items =
    c.replace-own.ensures.value ∙ c.index_mut.ensures.value
    ∙ left_at ds c.args.tree.items l.number l.lists.items c.index_mut.result.now l.invariant.left within in
    let pushed : c.push.new.self ≡ l.bodies ++ body ∷ [] = search rules in
    let made : map unordered l.bodies ++ unordered body ∷ [] ≡ map unordered c.push.new.self =
    unordered_more l.bodies body ∙ ap (λ (bs : List Body). map unordered bs) (sym pushed) in
    record {
      told = subst (λ (us : List UnorderedBody). front us (each_found f (enumerate_from (l.number + 1)
          (drop (l.number + 1) ds.scopes))) ≡ bodies_meant ds c.args.tree) made
          (each_on f ds.scopes l.number scope (unordered body) (map unordered l.bodies) (bodies_meant ds c.args.tree)
          within is (c.in_ok-body.ensures c.args.tree.items about) l.invariant.told);
      left = left_less ds c.args.tree.items l.number l.lists.items c.replace-own.new.dest l.invariant.left;
    }
