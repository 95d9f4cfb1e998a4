-- The items of a tree by the scopes that they are about.
use Rattle.std.specs.Prelude.{◌≡◌, ◌<◌, ◌++◌, ℕ, List, [], ◌∷◌, length, Option, None, Some, get_or, option_map, set}
use Rattle.cat_value.specs.declared.decls.Decls.{Decls}
use Rattle.cat_tree.specs.declared.program.Item.{Item}
use Rattle.cat_tree.specs.declared.program.Item.TheVariants as item
use Rattle.cat_names.specs.Lines.{items_about}
use Rattle.cat_names.specs.Lookup.{scope_named}

-- the number of the scope that an item declares, or that it is a block of
abbrev pub scope_about : Decls → Item → Option ℕ
scope_about ds (item.Scope p u variables) = option_map (λ s. s.0) (scope_named u.text ds.scopes)
scope_about ds (item.Block b) = option_map (λ s. s.0) (scope_named b.name.text ds.scopes)
scope_about ds _ = None

-- lists with one item more at the end of the list of a scope, where there is one
abbrev pub with_item : Option ℕ → Item → List (List Item) → List (List Item)
with_item None x lists = lists
with_item (Some scope) x lists = set lists scope (get_or lists scope [] ++ x ∷ [])

-- for each scope there is a list, of those of some items that are about it
pub record AreByScope (ds : Decls) (items : List Item) (lists : List (List Item)) : Type 0 where
  pub count : length lists ≡ length ds.scopes
  pub each : (n : ℕ) → n < length ds.scopes → get_or lists n [] ≡ items_about ds n items
