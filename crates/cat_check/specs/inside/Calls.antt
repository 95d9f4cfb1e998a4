-- Where a scope calls another.
use Rattle.std.specs.Prelude.{◌≡◌, ◌⊎◌, ℕ, Some}
use Rattle.cat_pos.specs.declared.pos.Pos.{Pos}
use Rattle.cat_value.specs.declared.declaration.Kind.TheVariants as kind
use Rattle.cat_value.specs.declared.declaration.ItemDecl.{ItemDecl}
use Rattle.cat_value.specs.declared.declaration.Scope.{Scope}
use Rattle.cat_value.specs.declared.decls.Decls.{Decls}
use Rattle.cat_tree.specs.declared.name.Name.{Name}
use Rattle.cat_tree.specs.declared.program.Tree.{Tree}
use Rattle.cat_scope.specs.Names.{IsOneOf, scope_items}
use Rattle.cat_names.specs.Lookup.{scope_named}
use Rattle.cat_names.specs.ScopeWords.{words_in, IsWordOf}

-- a scope calls another: by an item, or by a word of its blocks
abbrev pub IsCall : Tree → Decls → ℕ → ℕ → Type 0
IsCall tree ds caller called =
    ((i : ItemDecl) × IsOneOf i (scope_items ds caller) × (i.kind ≡ kind.Called called))
    ⊎ IsWordOf ds (words_in ds caller tree.items) called

-- a word of its blocks at that position names the other
pub record IsWordAt (tree : Tree) (ds : Decls) (caller called : ℕ) (position : Pos) : Type 0 where
  pub word : Name
  pub there : IsOneOf word (words_in ds caller tree.items)
  pub found : ℕ × Scope
  pub found_is : scope_named word.text ds.scopes ≡ Some found
  pub number : found.0 ≡ called
  pub position_is : position ≡ word.pos

-- a scope calls another at that position
abbrev pub IsCallAt : Tree → Decls → ℕ → ℕ → Pos → Type 0
IsCallAt tree ds caller called position =
    ((i : ItemDecl) × IsOneOf i (scope_items ds caller) × (i.kind ≡ kind.Called called) × (position ≡ i.pos))
    ⊎ IsWordAt tree ds caller called position
