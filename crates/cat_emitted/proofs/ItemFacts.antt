-- Items of spelled declarations are right.
use Rattle.std.proofs.Common.{◌≡◌, ◌≢◌, ◌≤◌, ◌⊎◌, ◌&&◌, ℕ, suc, Bool, true, false, not}
use Rattle.std.proofs.Common.{IsTrue}
use Rattle.std.proofs.Common.{List, [], ◌∷◌, ◌++◌, map, length, Option, Some, slice_get, inl, inr, refl, sym, ap}
use Rattle.std.proofs.Common.{◌∙◌}
use Rattle.std.proofs.Common.{arith}
use Rattle.std.specs.Prelude.{codes, if◌then◌else◌}
use Rattle.std.specs.List.{AllByRecursion}
use Rattle.std.proofs.lemmas.List.{length-map}
use Rattle.cat_scope.specs.Names.{AllHave, IsOneOf}
use Rattle.cat_value.specs.declared.ty.Ty.{Ty}
use Rattle.cat_value.specs.declared.declaration.Kind.{Kind}
use Rattle.cat_value.specs.declared.declaration.Kind.TheVariants as kind
use Rattle.cat_value.specs.declared.declaration.ItemDecl.{ItemDecl}
use Rattle.cat_value.specs.declared.declaration.Scope.{Scope}
use Rattle.cat_value.specs.declared.decls.Decls.{Decls}
use Rattle.cat_value.specs.Declarations.{highest, is_declared}
use Rattle.cat_value.specs.Inputs.{is_called, has_none}
use Rattle.cat_value.specs.Inputs as inputs
use Rattle.cat_value.specs.Laws.{IsItem, height_of}
use Rattle.cat_value.proofs.Exported.{found}
use Rattle.cat_code.specs.declared.code.Tables.{Tables}
use Rattle.cat_listing.specs.Texts.{type_text, name_at}
use Rattle.cat_listing.specs.DeclarationLines.{what_text, variable_text, defined_text}
use Rattle.cat_image.specs.declared.tables.ImageKind.TheVariants as words
use Rattle.cat_image.specs.declared.tables.ImageScope.{ImageScope}
use Rattle.cat_image.specs.declared.tables.ImageTables.{ImageTables}
use Rattle.cat_image.specs.Words.{Text, is_type, is_name, is_what}
use Rattle.cat_image.specs.Rows.{is_what_for}
use Rattle.cat_image.specs.Listed.{words_of, item_words, kind_words, is_line}
use Rattle.cat_verify_tables.specs.RowFronts.{is_function}
use Rattle.cat_verify_tables.specs.WrongParts.{IsVariable, IsLow}
use Rattle.cat_verify_tables.specs.WrongParts as wrong
use Rattle.cat_emitted.specs.Spelled.{AreSpelledDecls, IsSpelledItem, IsSpelledScope}
use Rattle.cat_emitted.proofs.ListFacts.{all_at}
use Rattle.cat_emitted.proofs.TypeFacts as types
use Rattle.cat_emitted.proofs.PartFacts.{sound}
use Rattle.cat_emitted.proofs.WordFacts.{type_name, type_line}
use Rattle.cat_emitted.proofs.WhatFacts as what
use Rattle.cat_emitted.proofs.Splits.{one_scope, scope_there}

pub all_from : {A : Type 0} (P : A → Type 0) (xs : List A) → ((k : ℕ) (x : A) → slice_get xs k ≡ Some x → P x)
    → AllHave P xs
all_from P [] each = tt
all_from P (x ∷ xs) each = (each 0 x refl, all_from P xs (λ k y at. each (suc k) y at))

module _ (code : Tables) (files : List Text) (spelled : AreSpelledDecls code.decls)
    (one_entry_each : length code.scopes ≡ length code.decls.scopes) where
  abbrev ds : Decls
  ds = code.decls

  abbrev image : ImageTables
  image = words_of code files

  -- an item of a scope, with what is known of it
  pub record IsFairItem (item : ItemDecl) : Type 0 where
    pub spelled_item : IsSpelledItem item
    pub is_item : IsItem ds item

  pub item_fair : (n k : ℕ) (scope : Scope) (item : ItemDecl) → slice_get ds.scopes n ≡ Some scope
      → slice_get scope.items k ≡ Some item → IsFairItem item
  item_fair n k scope item at own = record {
    spelled_item = all_at IsSpelledItem scope.items k item
        (all_at IsSpelledScope ds.scopes n scope spelled.scopes at).items own;
    is_item = (sound ds).items n k scope item at own;
  }

  -- ---- types

  low_type : (t : Ty) → IsTrue (is_declared ds.structures ds.enumerations t) → height_of ds t ≤ highest
      → IsLow image (type_text ds t)
  low_type t declared low = record {
    known = types.type_known code files spelled t declared;
    low = types.type_low code files spelled highest t declared low;
  }

  params_declared : (item : ItemDecl) → IsItem ds item
      → AllHave (λ t. IsTrue (is_declared ds.structures ds.enumerations t)) item.params
  params_declared item is = all_from _ item.params is.params_declared

  params_low : (ts : List Ty) → AllHave (λ t. IsTrue (is_declared ds.structures ds.enumerations t)) ts
      → AllHave (λ t. height_of ds t ≤ highest) ts → AllByRecursion (IsLow image) (map (type_text ds) ts)
  params_low [] a b = tt
  params_low (t ∷ ts) a b = (low_type t a.0 b.0, params_low ts a.1 b.1)

  -- ---- what a variable is

  variable_is : (item : ItemDecl) → IsFairItem item → IsVariable image (defined_text ds item)
  variable_is item fair = record {
    ty = variable_text ds item;
    params = map (type_text ds) item.params;
    what_is = ap (λ (x : Text). variable_text ds item ++ x) (what.params_same ds spelled item.params);
    ty_is = by item.condition;
    params_are = params_low item.params (params_declared item fair.is_item)
        (all_from (λ t. height_of ds t ≤ highest) item.params fair.is_item.params_low);
    few =
        let many = length-map item.params (type_text ds) in let few = fair.spelled_item.few in omega (arith, many, few);
  }
    where
      by : (c : Bool) → ((if c then codes "condition" else type_text ds item.ty) ≡ codes "condition")
          ⊎ IsLow image (if c then codes "condition" else type_text ds item.ty)
      by true = inl refl
      by false = inr (low_type item.ty fair.is_item.declared fair.is_item.low)

  -- ---- called scopes

  called_there : (item : ItemDecl) → IsFairItem item → (n : ℕ) → item.kind ≡ kind.Called n
      → ((s : ImageScope) → IsOneOf s image.scopes → s.name ≡ what_text ds item (kind.Called n) → ⊥) → ⊥
  called_there item fair n is none =
      let it = found ds.scopes n (fair.is_item.called n is) in
      let there = scope_there ds ds.scopes code.scopes n it.0 one_entry_each it.1 in
      none (one_scope ds it.0 there.0) there.1 (sym (ap (name_at (λ (s : Scope). s.name)) it.1))

  pub not_called : (item : ItemDecl) → IsFairItem item → kind_words item.kind ≡ words.Called
      → ((s : ImageScope) → IsOneOf s image.scopes → s.name ≡ what_text ds item item.kind → ⊥) → ⊥
  not_called item fair called none = by item.kind refl called none
    where
      by : (k : Kind) → item.kind ≡ k → kind_words k ≡ words.Called
          → ((s : ImageScope) → IsOneOf s image.scopes → s.name ≡ what_text ds item k → ⊥) → ⊥
      by (kind.Called n) is c none = called_there item fair n is none
      by kind.Input is c none = cc c
      by kind.Output is c none = cc c
      by kind.Internal is c none = cc c
      by kind.Context is c none = cc c
      by kind.InputOutput is c none = cc c
      by kind.ContextOutput is c none = cc c

  pub not_variable : (item : ItemDecl) → IsFairItem item → kind_words item.kind ≢ words.Called
      → (IsVariable image (what_text ds item item.kind) → ⊥) → ⊥
  not_variable item fair plain none = by item.kind plain none
    where
      by : (k : Kind) → kind_words k ≢ words.Called → (IsVariable image (what_text ds item k) → ⊥) → ⊥
      by (kind.Called n) p none = p refl
      by kind.Input p none = none (variable_is item fair)
      by kind.Output p none = none (variable_is item fair)
      by kind.Internal p none = none (variable_is item fair)
      by kind.Context p none = none (variable_is item fair)
      by kind.InputOutput p none = none (variable_is item fair)
      by kind.ContextOutput p none = none (variable_is item fair)

  -- ---- functions

  called_name : (item : ItemDecl) → IsFairItem item → (n : ℕ) → item.kind ≡ kind.Called n
      → is_name (what_text ds item (kind.Called n)) ≡ true
  called_name item fair n is =
      let it = found ds.scopes n (fair.is_item.called n is) in
      ap (λ (o : Option Scope). is_name (name_at (λ (s : Scope). s.name) o)) it.1
      ∙ type_name it.0.name (all_at IsSpelledScope ds.scopes n it.0 spelled.scopes it.1).name

  pub called_line : (item : ItemDecl) → IsFairItem item → (n : ℕ) → item.kind ≡ kind.Called n
      → is_line (what_text ds item (kind.Called n)) ≡ true
  called_line item fair n is =
      let it = found ds.scopes n (fair.is_item.called n is) in
      ap (λ (o : Option Scope). is_line (name_at (λ (s : Scope). s.name) o)) it.1
      ∙ type_line it.0.name (all_at IsSpelledScope ds.scopes n it.0 spelled.scopes it.1).name

  called_type : (item : ItemDecl) → IsFairItem item → (n : ℕ) → item.kind ≡ kind.Called n
      → is_type (what_text ds item (kind.Called n)) ≡ true
  called_type item fair n is =
      let it = found ds.scopes n (fair.is_item.called n is) in
      let word = (all_at IsSpelledScope ds.scopes n it.0 spelled.scopes it.1).name in
      ap (λ (o : Option Scope). is_type (name_at (λ (s : Scope). s.name) o)) it.1
      ∙ what.word_type ds spelled it.0.name (what.named_wordly ds spelled it.0.name word)

  defined_type : (item : ItemDecl) → IsFairItem item → is_type (defined_text ds item) ≡ has_none item.params
  defined_type item fair =
      ap (λ (x : Text). is_type (variable_text ds item ++ x)) (what.params_same ds spelled item.params)
      ∙ by item.condition item.params
    where
      by : (c : Bool) (ts : List Ty)
          → is_type ((if c then codes "condition" else type_text ds item.ty)
          ++ wrong.params_text (map (type_text ds) ts)) ≡ has_none ts
      by true [] = what.condition_alone ds spelled
      by true (u ∷ ts) = what.condition_with ds spelled u ts
      by false [] = what.type_alone ds spelled item.ty fair.is_item.declared
      by false (u ∷ ts) = what.type_with ds spelled item.ty u ts fair.is_item.declared

  -- an item is a function by its words where it is one
  pub function_same : (item : ItemDecl) → IsFairItem item → is_function (item_words ds item) ≡ inputs.is_function item
  function_same item fair = by item.kind refl
    where
      by : (k : Kind) → item.kind ≡ k
          → not (is_type (what_text ds item k)) ≡ (not (is_called k) && not (has_none item.params))
      by (kind.Called n) is = ap not (called_type item fair n is)
      by kind.Input is = ap not (defined_type item fair)
      by kind.Output is = ap not (defined_type item fair)
      by kind.Internal is = ap not (defined_type item fair)
      by kind.Context is = ap not (defined_type item fair)
      by kind.InputOutput is = ap not (defined_type item fair)
      by kind.ContextOutput is = ap not (defined_type item fair)

  -- ---- as a row of an image

  defined_what : (item : ItemDecl) → IsFairItem item → is_what (defined_text ds item) ≡ true
  defined_what item fair =
      ap (λ (x : Text). is_what (variable_text ds item ++ x)) (what.params_same ds spelled item.params)
      ∙ by item.condition
    where
      by : (c : Bool)
          → is_what ((if c then codes "condition" else type_text ds item.ty)
          ++ wrong.params_text (map (type_text ds) item.params)) ≡ true
      by true = what.condition_params ds spelled item.params (params_declared item fair.is_item)
      by false = what.with_params ds spelled item.ty item.params fair.is_item.declared
          (params_declared item fair.is_item)

  pub what_right : (item : ItemDecl) → IsFairItem item
      → IsTrue (is_what_for (kind_words item.kind) (what_text ds item item.kind))
  what_right item fair = by item.kind refl
    where
      by : (k : Kind) → item.kind ≡ k → IsTrue (is_what_for (kind_words k) (what_text ds item k))
      by (kind.Called n) is = called_name item fair n is
      by kind.Input is = defined_what item fair
      by kind.Output is = defined_what item fair
      by kind.Internal is = defined_what item fair
      by kind.Context is = defined_what item fair
      by kind.InputOutput is = defined_what item fair
      by kind.ContextOutput is = defined_what item fair
