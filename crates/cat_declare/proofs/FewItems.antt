-- Where no count is passed, scopes have few variables.
use Rattle.std.proofs.Common.{◌≡◌, ◌≤◌, ◌++◌, List, [], ◌∷◌, length, map}
use Rattle.std.proofs.Common.{sym, subst, arith}
use Rattle.std.specs.Prelude.{flat_map}
use Rattle.cat_scope.specs.Names.{AllHave}
use Rattle.cat_tree.specs.declared.program.Variable.{Variable}
use Rattle.cat_tree.specs.declared.program.Item.{Item}
use Rattle.cat_tree.specs.declared.program.Item.TheVariants as item
use Rattle.cat_names.specs.Limits.{most_items}
use Rattle.cat_names.specs.DeclarationFaults.{past, variable_name, param_faults, declaration_faults}
use Rattle.cat_names.specs.Unknown.{twice}
use Rattle.cat_names.specs.Written.{positions, scopes_in}
use Rattle.cat_names.proofs.Exported.{none_past, positions_counted}
use Rattle.cat_declare.specs.declared.written.Declaration.{Declaration}
use Rattle.cat_declare.specs.inside.Naming.{AreFew}
use Rattle.cat_declare.specs.inside.Writings.{as_pair}
use Rattle.cat_declare.proofs.FoundParts.{nothing_in, nothing_behind}

scopes_few : (items : List Item) → flat_map declaration_faults items ≡ []
    → AllHave (λ s. length s.1 ≤ most_items) (scopes_in items)
scopes_few [] none = tt
scopes_few (item.Structure p u fields ∷ more) none =
    scopes_few more (nothing_behind (declaration_faults (item.Structure p u fields)) _ none)
scopes_few (item.Enumeration p u cases ∷ more) none =
    scopes_few more (nothing_behind (declaration_faults (item.Enumeration p u cases)) _ none)
scopes_few (item.Scope p u variables ∷ more) none =
    let later = twice (map variable_name variables) in
    let over = past most_items (positions (map variable_name variables)) in
    let here = nothing_in (declaration_faults (item.Scope p u variables)) _ none in
    let few = none_past most_items (positions (map variable_name variables))
    (nothing_behind later over (nothing_in (later ++ over) (flat_map param_faults variables) here)) in (
      omega (arith, few, positions_counted variable_name variables),
      scopes_few more (nothing_behind (declaration_faults (item.Scope p u variables)) _ none),
    )
scopes_few (item.Block b ∷ more) none = scopes_few more none

all_pairs : (ds : List (Declaration Variable)) → AllHave (λ s. length s.1 ≤ most_items) (map as_pair ds) → AreFew ds
all_pairs [] all = tt
all_pairs (d ∷ ds) all = (all.0, all_pairs ds all.1)

pub declared_few : (items : List Item) (ds : List (Declaration Variable)) → map as_pair ds ≡ scopes_in items
    → flat_map declaration_faults items ≡ [] → AreFew ds
declared_few items ds is none =
    all_pairs ds (subst (AllHave (λ s. length s.1 ≤ most_items)) (sym is) (scopes_few items none))
