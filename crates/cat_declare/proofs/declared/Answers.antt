use Rattle.std.proofs.Common.{◌∙◌, subst, sym}
use Rattle.cat_names.specs.Accepted.{IsNamed, IsParsed, parts_of}
use Rattle.cat_declare.specs.inside.Parted.{declared_by}
use Rattle.cat_declare.specs.inside.Tabling.{tree_at}
use Rattle.cat_declare.proofs.Finishing.{is_declared, is_sound, same_parts}
use Rattle.cat_declare.proofs.declared.Goals as goal

pub from_parts-requires : goal.from_parts-requires
from_parts-requires c =
    let tree = tree_at c.in_ok-tables.tables in
    let same = c.in_ok-tables.ensures.tree ∙ c.in_ok-declarations.ensures.tree in
    is_sound tree (subst IsParsed (sym same) c.requires) c.in_ok-parts.ensures.none c.in_ok-parts.parts
    c.in_ok-parts.ensures.made c.in_ok-refuse_cycles.ensures.order c.in_ok-refuse_high.ensures.low

pub returns-clause-named : goal.returns-clause-named
returns-clause-named c =
    let tree = tree_at c.in_ok-tables.tables in
    let same = c.in_ok-tables.ensures.tree ∙ c.in_ok-declarations.ensures.tree in
    let named = is_declared tree c.in_ok-parts.ensures.none c.in_ok-parts.parts c.in_ok-parts.ensures.made
    c.in_ok-refuse_cycles.ensures.order c.in_ok-refuse_high.ensures.low in
    subst (λ t. IsNamed t (parts_of c.from_parts.result)) same
    (subst (IsNamed tree) (same_parts (declared_by c.in_ok-parts.parts) (parts_of c.from_parts.result)
    (sym c.from_parts.ensures.structures) (sym c.from_parts.ensures.enumerations) (sym c.from_parts.ensures.scopes))
    named)
