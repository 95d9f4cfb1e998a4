use Rattle.std.proofs.Common.{◌∙◌, sym, ap, Some, arith}
use Rattle.std.specs.Option.{option_map}
use Rattle.cat_value.specs.declared.ty.Ty.{Ty}
use Rattle.cat_verify_tables.specs.inside.TypeNaming.{lists_of}
use Rattle.cat_verify_tables.proofs.TypeLemmas.{if_high, if_low}
use Rattle.cat_verify_tables.proofs.types.TypeNames.in_lists.Goals as goal

pub returns-then-lists-ge-HIGHEST : goal.returns-then-lists-ge-HIGHEST
returns-then-lists-ge-HIGHEST c =
    let test = c.if-lists-ge-HIGHEST.true in sym (if_high _ _ c.args.lists (omega (arith, test)))

pub returns-in_default : goal.returns-in_default
returns-in_default c =
    let test = c.if-lists-ge-HIGHEST.false in
    ap (option_map (lists_of c.args.lists)) (sym c.in_default.is ∙ c.in_ok-ty.ensures)
    ∙ sym (if_low _ _ c.args.lists (omega (arith, test)))

pub returns : goal.returns
returns c =
    let test = c.if-lists-ge-HIGHEST.false in
    ap (λ (t : Ty). Some t) c.in_ok-whole.ensures
    ∙ ap (option_map (lists_of c.args.lists)) (sym c.in-Some.is ∙ c.in_ok-ty.ensures)
    ∙ sym (if_low _ _ c.args.lists (omega (arith, test)))
