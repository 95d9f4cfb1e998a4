-- Where an expression calls scopes: one line a form.
use Rattle.std.specs.Prelude.{flat_map, ◌≡◌, ℕ, List, [], ◌∷◌, ◌++◌, Option, Some, None}
use Rattle.cat_value.specs.declared.declaration.Scope.{Scope}
use Rattle.cat_value.specs.declared.decls.Decls.{Decls}
use Rattle.cat_scope.specs.Names.{AllHave, IsOneOf}
use Rattle.cat_tree.specs.declared.name.Name.{Name}
use Rattle.cat_tree.specs.declared.expression.Node.{Node}
use Rattle.cat_tree.specs.declared.expression.Node.TheOpen.{Node-F}
use Rattle.cat_tree.specs.declared.expression.Node.TheFolds.{fold-Node}
use Rattle.cat_tree.specs.declared.program.Use.{Use}
use Rattle.cat_tree.specs.declared.program.Use.TheVariants as uses
use Rattle.cat_tree.specs.declared.program.Item.{Item}
use Rattle.cat_tree.specs.declared.program.Item.TheVariants as item
use Rattle.cat_names.specs.Lookup.{scope_named}
use Rattle.cat_names.specs.Lines.{items_about}

-- the words of scopes in the parts of an expression, from the left
abbrev pub all_words : List (List Name) → List Name
all_words parts = flat_map (λ words. words) parts

-- an expression, where each part tells its own
abbrev pub words_of : Node-F (List Name) (List Name) (List Name) → List Name
words_of (Node-F.Literal l p) = []
words_of (Node-F.Name w) = []
words_of (Node-F.Case c) = []
words_of (Node-F.Parens p e) = e
words_of (Node-F.Field e w) = e
words_of (Node-F.Prefixed o p e) = e
words_of (Node-F.Sum p t l) = l
words_of (Node-F.Content c e) = e
words_of (Node-F.Call w args) = all_words args
words_of (Node-F.Binary o p a b) = a ++ b
words_of (Node-F.Test e p c) = e
words_of (Node-F.List p es) = all_words es
words_of (Node-F.Structure u fields) = all_words fields
words_of (Node-F.ScopeCall p u fields w) = u ∷ all_words fields
words_of (Node-F.If p c a b) = c ++ a ++ b
words_of (Node-F.Match p e arms) = e ++ all_words arms
words_of (Node-F.Each k p w l e) = l ++ e
words_of (Node-F.Combine c l s e) = l ++ s ++ e

-- the scopes' words of the scope calls in an expression
unfoldable pub scope_words : Node → List Name
scope_words = fold-Node (List Name) (List Name) (List Name) words_of (λ arm. arm.body) (λ field. field.value)

-- those of a condition, where there is one
abbrev pub condition_words : Option Node → List Name
condition_words None = []
condition_words (Some e) = scope_words e

-- those of a line of a block
abbrev pub use_words : Use → List Name
use_words (uses.Definition l p t c e) = condition_words c ++ scope_words e
use_words (uses.Rule l p t c f) = condition_words c
use_words (uses.Assertion p e) = scope_words e
use_words (uses.DateRound p up) = []

-- those of a block
abbrev pub item_words : Item → List Name
item_words (item.Block b) = condition_words b.condition ++ flat_map use_words b.uses
item_words _ = []

-- those of the blocks of the scope of that number
abbrev pub words_in : Decls → ℕ → List Item → List Name
words_in ds scope items = flat_map item_words (items_about ds scope items)

-- one of these words names the scope of that number
pub record IsWordOf (ds : Decls) (words : List Name) (scope : ℕ) : Type 0 where
  pub word : Name
  pub there : IsOneOf word words
  pub found : ℕ × Scope
  pub found_is : scope_named word.text ds.scopes ≡ Some found
  pub number : found.0 ≡ scope

-- each of some scopes is named by one of these words
abbrev pub AreWordsOf : Decls → List Name → List ℕ → Type 0
AreWordsOf ds words scopes = AllHave (IsWordOf ds words) scopes
