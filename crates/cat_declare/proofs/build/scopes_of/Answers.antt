use Rattle.std.proofs.Common.{◌≡◌, ◌∙◌, ◌<◌, ◌++◌, length, get_or, rules, subst, sym, ap}
use Rattle.std.specs.Prelude.{flat_map}
use Rattle.cat_declare.specs.inside.Made.{scope_made, variable_faults, cut}
use Rattle.cat_declare.specs.inside.Tabling.{types_at, scopes_at}
use Rattle.cat_declare.specs.inside.Writings.{as_pair}
use Rattle.cat_declare.proofs.OneMore.{map_next, flat_next}
use Rattle.cat_declare.proofs.build.scopes_of.Goals as goal

pub loop-scope-preserved : goal.loop-scope-preserved
loop-scope-preserved c =
    let x = c.scope-item.result in let i = c.loop-scope.scope-index in
    let xs = c.args.scopes.now in
    let names = types_at c.args.tables.now in let scopes = scopes_at c.args.tables.now in
    let within : i < length xs = search rules in
    let is : get_or xs i x ≡ x = sym
    (c.scope-item.is ∙ ap (λ es. get_or es i x) c.as_slice-scope-items.ensures) in (
      map_next (λ s. scope_made cut names scopes (as_pair s)) xs i x c.loop-scope.made _ _ within is
          c.loop-scope.invariant.0 (search rules) c.in_ok-push.ensures.ok,
      flat_next (λ s. flat_map (variable_faults names scopes) s.parts.now) xs i x c.args.faults.now
          c.loop-scope.faults _ within is
          c.loop-scope.invariant.1 (subst (λ ys. c.items_of.new.faults
          ≡ c.loop-scope.faults ++ flat_map (variable_faults names scopes) ys) c.as_slice.ensures
          c.in_ok-items.ensures.faults),
    )
