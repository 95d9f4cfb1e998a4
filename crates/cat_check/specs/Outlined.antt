-- What is kept of a tree once its blocks are read: where its scopes are named.
use Rattle.std.specs.Prelude.{◌≡◌, List, [], ◌∷◌, flat_map}
use Rattle.cat_value.specs.declared.decls.Decls.{Decls}
use Rattle.cat_tree.specs.declared.program.Block.{Block}
use Rattle.cat_tree.specs.declared.program.Item.{Item}
use Rattle.cat_tree.specs.declared.program.Item.TheVariants as item
use Rattle.cat_tree.specs.declared.program.Tree.{Tree}
use Rattle.cat_scope.specs.declared.defs.Body.{Body}
use Rattle.cat_names.specs.Accepted.{IsMeant}
use Rattle.cat_names.specs.ScopeWords.{item_words}
use Rattle.cat_names.specs.Written.{names_of, positions, scopes_in}
use Rattle.cat_check.specs.declared.outline.BlockOutline.{BlockOutline}
use Rattle.cat_check.specs.declared.outline.Outline.{Outline}

-- a block, by the name of its scope and those of the scopes that it calls
abbrev pub block_outline : Block → BlockOutline
block_outline b = record { scope = b.name; words = item_words (item.Block b) }

-- the outline of an item, where it is a block
abbrev pub item_outline : Item → List BlockOutline
item_outline (item.Block b) = block_outline b ∷ []
item_outline _ = []

-- where the names of a tree's scopes stand in their declarations, and its blocks
abbrev pub outline_of : Tree → Outline
outline_of tree = record {
  scopes = positions (names_of (scopes_in tree.items));
  blocks = flat_map item_outline tree.items;
}

-- a tree with this outline means these bodies
abbrev pub IsMeantIn : Outline → Decls → List Body → Type 0
IsMeantIn outline ds bodies = (tree : Tree) × (outline ≡ outline_of tree) × IsMeant tree ds bodies
