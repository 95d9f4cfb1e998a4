use Rattle.std.proofs.Common.{◌≡◌, ◌∙◌, ◌<◌, ◌++◌, length, get_or, rules, subst, sym, ap}
use Rattle.cat_declare.specs.inside.Made.{enumeration_made, case_faults, cut}
use Rattle.cat_declare.specs.inside.Tabling.{types_at, scopes_at}
use Rattle.cat_declare.specs.inside.Writings.{as_pair}
use Rattle.cat_declare.proofs.OneMore.{map_next, flat_next}
use Rattle.cat_declare.proofs.build.enumerations_of.Goals as goal

pub loop-enumeration-preserved : goal.loop-enumeration-preserved
loop-enumeration-preserved c =
    let x = c.enumeration-item.result in let i = c.loop-enumeration.enumeration-index in
    let xs = c.args.enumerations.now in
    let names = types_at c.args.tables.now in let scopes = scopes_at c.args.tables.now in
    let within : i < length xs = search rules in
    let is : get_or xs i x ≡ x = sym
    (c.enumeration-item.is ∙ ap (λ es. get_or es i x) c.as_slice-enumeration-items.ensures) in (
      map_next (λ s. enumeration_made cut names (as_pair s)) xs i x c.loop-enumeration.made _ _ within is
          c.loop-enumeration.invariant.0 (search rules) c.in_ok-push.ensures.ok,
      flat_next (λ s. case_faults names s.parts.now) xs i x c.args.faults.now c.loop-enumeration.faults _ within is
          c.loop-enumeration.invariant.1 (subst (λ ys. c.cases_of.new.faults
          ≡ c.loop-enumeration.faults ++ case_faults names ys) c.as_slice.ensures
          c.in_ok-cases.ensures.faults),
    )
