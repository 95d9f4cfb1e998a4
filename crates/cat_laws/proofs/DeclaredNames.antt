-- The names of what is declared.
use Rattle.std.proofs.Common.{◌≡◌, ℕ, IsTrue, List, [], ◌∷◌, Ok, Err, subst}
use Rattle.cat_pos.specs.declared.pos.Piece.{Piece}
use Rattle.cat_value.specs.declared.ty.Ty.{Ty}
use Rattle.cat_value.specs.declared.declaration.ItemDecl.{ItemDecl}
use Rattle.cat_scope.specs.Names.{AllHave}
use Rattle.cat_lex.specs.declared.token.Token.{Token}
use Rattle.cat_lex.specs.Lexes.{Lexes}
use Rattle.cat_tree.specs.declared.name.Name.{Name}
use Rattle.cat_tree.specs.declared.program.Item.{Item}
use Rattle.cat_tree.specs.declared.program.Tree.{Tree}
use Rattle.cat_tree.specs.declared.program.Variable.{Variable}
use Rattle.cat_tree.specs.declared.program.Variable.TheVariants as variable
use Rattle.cat_tree.specs.Programs.{SpellsProgram}
use Rattle.cat_names.specs.Declarations.{Declared, called_item_of, declared_of, item_declared, scope_declared}
use Rattle.cat_names.specs.Declarations.{types_declared, variable_item, variable_type}
use Rattle.cat_names.specs.declared.fault.Fault.TheVariants.{NameUnknown}
use Rattle.cat_names.specs.Found.{Found, and_then, both, each_found, or_fault}
use Rattle.cat_names.specs.Lookup.{TypeNames, first_named, type_found}
use Rattle.cat_names.specs.Written.{scopes_in, scope_names_in, types_in}
use Rattle.cat_laws.specs.Unbroken.{AreUnbroken, IsUnbroken, is_unbroken}
use Rattle.cat_laws.proofs.TokenNames.{of_pieces}
use Rattle.cat_laws.proofs.TreeNames.{IsUnbrokenScope, IsUnbrokenVariable, of_tree}

-- ---- answers

-- this holds of the answer, where there is one
abbrev Gives : {A : Type 0} → (A → Type 0) → Found A → Type 0
Gives Has (Ok a) = Has a
Gives Has (Err faults) = Unit {0}

given : {A : Type 0} (Has : A → Type 0) (found : Found A) (a : A) → Gives Has found → found ≡ Ok a → Has a
given Has (Ok b) a h same = let e : b ≡ a = cc same in subst Has e h
given Has (Err faults) a h same = absurd (cc same)

gives_then : {A B : Type 0} (Has : B → Type 0) (found : Found A) (go : A → Found B) → ((a : A) → Gives Has (go a))
    → Gives Has (and_then found go)
gives_then Has (Ok a) go h = h a
gives_then Has (Err faults) go h = tt

gives_after : {A B : Type 0} (Before : A → Type 0) (Has : B → Type 0) (found : Found A) (go : A → Found B)
    → Gives Before found → ((a : A) → Before a → Gives Has (go a)) → Gives Has (and_then found go)
gives_after Before Has (Ok a) go first h = h a first
gives_after Before Has (Err faults) go first h = tt

gives_both : {A B C : Type 0} (One : A → Type 0) (Two : B → Type 0) (Has : C → Type 0) (x : Found A) (y : Found B)
    (go : A → B → Found C) → Gives One x → Gives Two y → ((a : A) (b : B) → One a → Two b → Gives Has (go a b))
    → Gives Has (both x y go)
gives_both One Two Has (Ok a) (Ok b) go one two h = h a b one two
gives_both One Two Has (Ok a) (Err faults) go one two h = tt
gives_both One Two Has (Err faults) (Ok b) go one two h = tt
gives_both One Two Has (Err faults) (Err more) go one two h = tt

anything : {A : Type 0} (found : Found A) → Gives (λ a. Unit {0}) found
anything (Ok a) = tt
anything (Err faults) = tt

gives_each : {A B : Type 0} (Has : A → Type 0) (Gets : B → Type 0) (f : A → Found B)
    → ((a : A) → Has a → Gives Gets (f a)) → (xs : List A) → AllHave Has xs → Gives (AllHave Gets) (each_found f xs)
gives_each Has Gets f one [] all = tt
gives_each Has Gets f one (x ∷ xs) all =
    gives_both Gets (AllHave Gets) (AllHave Gets) (f x) (each_found f xs) _ (one x all.0)
    (gives_each Has Gets f one xs all.1) (λ y ys here more. (here, more))

-- ---- declarations

abbrev IsUnbrokenItem : ItemDecl → Type 0
IsUnbrokenItem i = IsTrue (is_unbroken i.name)

module _ (names : TypeNames) (scopes : List (List ℕ)) where
  of_variable : (v : Variable) → IsUnbrokenVariable v → Gives IsUnbrokenItem (item_declared names scopes v)
  of_variable (variable.Own k p w t params) h =
      gives_both (λ (ty : Ty). Unit {0}) (λ (tys : List Ty). Unit {0}) IsUnbrokenItem (variable_type names t)
      (each_found (λ f. type_found names f.ty) params) (λ ty types. Ok (variable_item k w t ty types))
      (anything (variable_type names t))
      (anything (each_found (λ f. type_found names f.ty) params)) (λ ty types one two. h)
  of_variable (variable.Called w u) h =
      gives_then IsUnbrokenItem (or_fault (NameUnknown u.pos) (first_named (λ name. name) u.text scopes))
      (λ scope. Ok (called_item_of w scope.0)) (λ scope. h)

  of_scope : (s : Name × List Variable) → IsUnbrokenScope s → Gives IsUnbroken (scope_declared names scopes s)
  of_scope s h =
      gives_after (AllHave IsUnbrokenItem) IsUnbroken (each_found (item_declared names scopes) s.1) _
      (gives_each IsUnbrokenVariable IsUnbrokenItem (item_declared names scopes) of_variable s.1 h.1)
      (λ items all. (h.0, all))

of_items : (items : List Item) → AllHave IsUnbrokenScope (scopes_in items)
    → Gives (λ ds. AreUnbroken ds.scopes) (declared_of items)
of_items items h =
    gives_both (λ types. Unit {0}) AreUnbroken (λ (ds : Declared). AreUnbroken ds.scopes) (types_declared items)
    (each_found (scope_declared (types_in items) (scope_names_in items)) (scopes_in items)) _
    (anything (types_declared items))
    (gives_each IsUnbrokenScope IsUnbroken (scope_declared (types_in items) (scope_names_in items))
    (of_scope (types_in items) (scope_names_in items)) (scopes_in items) h) (λ types scopes one two. two)

pub unbroken : (pieces : List Piece) (tokens : List Token) (tree : Tree) (ds : Declared) → Lexes pieces tokens
    → SpellsProgram tree tokens → declared_of tree.items ≡ Ok ds → AreUnbroken ds.scopes
unbroken pieces tokens tree ds lexed spells is =
    given (λ (d : Declared). AreUnbroken d.scopes) (declared_of tree.items) ds
    (of_items tree.items (of_tree tree tokens spells (of_pieces pieces tokens lexed))) is
