-- Tables of declarations are tables of their names.
use Rattle.std.proofs.Common.{◌≡◌, ◌∙◌, ◌+◌, ◌≤◌, List, [], ◌∷◌, length, map}
use Rattle.std.proofs.Common.{refl, sym, ap, subst, arith}
use Rattle.std.proofs.lemmas.List.{length-map}
use Rattle.cat_tree.specs.declared.name.Name.{Name}
use Rattle.cat_tree.specs.declared.program.Item.{Item}
use Rattle.cat_tree.specs.declared.program.Item.TheVariants as item
use Rattle.cat_check_names.specs.Table.{Table, IsTableOf}
use Rattle.cat_check_names.proofs.Rows.{numbers_map}
use Rattle.cat_names.specs.Written.{texts, names_of, structures_in, enumerations_in, scopes_in}
use Rattle.cat_declare.specs.declared.written.Declaration.{Declaration}
use Rattle.cat_declare.specs.inside.Writings.{as_pair}

names_are : {T : Type 0} (ds : List (Declaration T)) → map (λ d. d.name.now.text) ds ≡ texts (names_of (map as_pair ds))
names_are [] = refl
names_are (d ∷ ds) = ap (λ ns. d.name.now.text ∷ ns) (names_are ds)

-- a table of declarations is one of their names
pub declared_table : {T : Type 0} (ds : List (Declaration T)) (pairs : List (Name × List T)) (table : Table)
    → map as_pair ds ≡ pairs → IsTableOf (λ d. d.name.now.text) ds table
    → IsTableOf (λ name. name) (texts (names_of pairs)) table
declared_table ds pairs table is known =
    subst (λ names. IsTableOf (λ name. name) names table) (names_are ds ∙ ap (λ ps. texts (names_of ps)) is)
    (λ w. known w ∙ sym (numbers_map (λ d. d.name.now.text) w 0 ds))

-- no more are declared than items stand in a tree
pub lists_few : (items : List Item) → length (structures_in items) + length (enumerations_in items)
    + length (scopes_in items) ≤ length items
lists_few [] = omega arith
lists_few (item.Structure p u fields ∷ more) = omega (arith, lists_few more)
lists_few (item.Enumeration p u cases ∷ more) = omega (arith, lists_few more)
lists_few (item.Scope p u variables ∷ more) = omega (arith, lists_few more)
lists_few (item.Block b ∷ more) = omega (arith, lists_few more)

pub names_counted : {A : Type 0} (xs : List (Name × A)) → length (texts (names_of xs)) ≡ length xs
names_counted [] = refl
names_counted (x ∷ xs) = omega (arith, names_counted xs)

-- as many declarations as pairs
pub as_many_pairs : {T : Type 0} (ds : List (Declaration T)) (pairs : List (Name × List T)) → map as_pair ds ≡ pairs
    → length ds ≡ length pairs
as_many_pairs ds pairs is = sym (length-map ds as_pair) ∙ ap length is
