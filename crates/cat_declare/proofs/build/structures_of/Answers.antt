use Rattle.std.proofs.Common.{◌≡◌, ◌∙◌, ◌<◌, ◌++◌, length, get_or, rules, subst, sym, ap}
use Rattle.cat_declare.specs.inside.Made.{structure_made, field_faults, cut}
use Rattle.cat_declare.specs.inside.Tabling.{types_at, scopes_at}
use Rattle.cat_declare.specs.inside.Writings.{as_pair}
use Rattle.cat_declare.proofs.OneMore.{map_next, flat_next}
use Rattle.cat_declare.proofs.build.structures_of.Goals as goal

pub loop-structure-preserved : goal.loop-structure-preserved
loop-structure-preserved c =
    let x = c.structure-item.result in let i = c.loop-structure.structure-index in
    let xs = c.args.structures.now in
    let names = types_at c.args.tables.now in let scopes = scopes_at c.args.tables.now in
    let within : i < length xs = search rules in
    let is : get_or xs i x ≡ x = sym
    (c.structure-item.is ∙ ap (λ es. get_or es i x) c.as_slice-structure-items.ensures) in (
      map_next (λ s. structure_made cut names (as_pair s)) xs i x c.loop-structure.made _ _ within is
          c.loop-structure.invariant.0 (search rules) c.in_ok-push.ensures.ok,
      flat_next (λ s. field_faults names s.parts.now) xs i x c.args.faults.now c.loop-structure.faults _ within is
          c.loop-structure.invariant.1 (subst (λ ys. c.fields_of.new.faults
          ≡ c.loop-structure.faults ++ field_faults names ys) c.as_slice.ensures
          c.in_ok-fields.ensures.faults),
    )
