-- An enumeration has no more cases than one may have, where no name and no count of its tree is at fault.
use Rattle.std.proofs.Common.{◌≡◌, ◌≤◌, List, [], ◌∷◌, length, map, Ok, ap, subst, arith}
use Rattle.cat_value.specs.declared.decls.Decls.{Decls}
use Rattle.cat_value.specs.declared.declaration.Enumeration.{Enumeration}
use Rattle.cat_tree.specs.declared.name.Name.{Name}
use Rattle.cat_tree.specs.declared.program.CaseItem.{CaseItem}
use Rattle.cat_tree.specs.declared.program.Item.{Item}
use Rattle.cat_tree.specs.declared.program.Item.TheVariants as item
use Rattle.cat_tree.specs.declared.program.Tree.{Tree}
use Rattle.cat_scope.specs.declared.defs.Body.{Body}
use Rattle.cat_scope.specs.Names.{AllHave}
use Rattle.cat_value.specs.Declarations.{most_cases}
use Rattle.cat_names.specs.Found.{each_found}
use Rattle.cat_names.specs.Lookup.{TypeNames}
use Rattle.cat_names.specs.Written.{positions, enumerations_in, types_in}
use Rattle.cat_names.specs.Unknown.{twice}
use Rattle.cat_names.specs.NameFaults.{item_faults}
use Rattle.cat_names.specs.Declarations.{case_declared, enumeration_declared}
use Rattle.cat_names.specs.Accepted.{IsMeant, parts_of}
use Rattle.cat_names.proofs.OkParts.{then_ok, nothing_behind}
use Rattle.cat_names.proofs.DeclaredForward.{each_on, as_many}
use Rattle.cat_names.proofs.DeclaredMade.{declared_parts}
use Rattle.cat_names.proofs.DeclaredCounts.{none_past, positions_counted, fine_items}

-- as many cases as there may be
abbrev HasFewCases : Name × List CaseItem → Type 0
HasFewCases e = length e.1 ≤ most_cases

written_few : (all items : List Item) → AllHave (λ i. item_faults all i ≡ []) items
    → AllHave HasFewCases (enumerations_in items)
written_few all [] fine = tt
written_few all (item.Structure p u fields ∷ more) fine = written_few all more fine.1
written_few all (item.Enumeration p u cases ∷ more) fine =
    let few = none_past most_cases (positions (map (λ c. c.name) cases))
    (nothing_behind (twice (map (λ c. c.name) cases)) _ fine.0) in
    (omega (arith, few, positions_counted (λ (c : CaseItem). c.name) cases), written_few all more fine.1)
written_few all (item.Scope p u variables ∷ more) fine = written_few all more fine.1
written_few all (item.Block b ∷ more) fine = written_few all more fine.1

declared_few : (names : TypeNames) (e : Name × List CaseItem) (d : Enumeration) → enumeration_declared names e ≡ Ok d
    → HasFewCases e → length d.cases ≤ most_cases
declared_few names e d h few = let made = then_ok (each_found (case_declared names) e.1) _ d h in
    let is : record { name = e.0.text; cases = made.0 } ≡ d = cc made.2 in
    let many = as_many (case_declared names) e.1 made.0 made.1 in
    subst (λ cases. length cases ≤ most_cases) (ap (λ (x : Enumeration). x.cases) is) (omega (arith, few, many))

pub few_cases : (tree : Tree) (decls : Decls) (bodies : List Body) → IsMeant tree decls bodies
    → AllHave (λ e. length e.cases ≤ most_cases) decls.enumerations
few_cases tree decls bodies meant =
    let items = tree.items in let names = types_in items in
    let parts = declared_parts items (parts_of decls) meant.named.declared in
    each_on (enumeration_declared names) HasFewCases (λ x. length x.cases ≤ most_cases) (declared_few names)
    (enumerations_in items) decls.enumerations parts.enumerations
    (written_few items items (fine_items tree meant.named.names))
