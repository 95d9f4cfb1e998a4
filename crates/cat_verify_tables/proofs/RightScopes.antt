-- Scopes that were told are right.
use Rattle.std.proofs.Common.{◌≡◌, ◌≢◌, ◌≤◌, ◌⊎◌, ℕ, Bool, true, false, List, [], ◌∷◌, ◌++◌, length, map}
use Rattle.std.proofs.Common.{Some}
use Rattle.std.proofs.Common.{inl, inr, sym, ap, ◌∙◌, subst, arith, length-append}
use Rattle.std.specs.Prelude.{codes, flat_map}
use Rattle.std.specs.List.{AllByRecursion, AllZip}
use Rattle.std.proofs.lemmas.List.{length-map}
use Rattle.cat_scope.specs.Names.{AllHave, IsOneOf}
use Rattle.cat_value.specs.declared.ty.Ty.{Ty}
use Rattle.cat_value.specs.declared.declaration.Structure.{Structure}
use Rattle.cat_value.specs.declared.declaration.Enumeration.{Enumeration}
use Rattle.cat_value.specs.declared.declaration.Kind.{Kind}
use Rattle.cat_value.specs.declared.declaration.Kind.TheVariants as kind
use Rattle.cat_value.specs.declared.declaration.ItemDecl.{ItemDecl}
use Rattle.cat_value.specs.declared.declaration.Scope.{Scope}
use Rattle.cat_value.specs.Declarations.{highest}
use Rattle.cat_value.specs.Heights.{height_to}
use Rattle.cat_code.specs.Places as places
use Rattle.cat_names.specs.Limits.{most_items}
use Rattle.cat_check_names.specs.Table.{Table, number_in}
use Rattle.cat_image.specs.declared.tables.ImageItem.{ImageItem}
use Rattle.cat_image.specs.declared.tables.ImageKind.TheVariants as words
use Rattle.cat_image.specs.declared.tables.ImageScope.{ImageScope}
use Rattle.cat_image.specs.declared.tables.ImageTables.{ImageTables}
use Rattle.cat_image.specs.Words.{Text}
use Rattle.cat_image.specs.Listed.{kind_words}
use Rattle.cat_image.specs.Rows.{scope_rows}
use Rattle.cat_verify_tables.specs.declared.scoping.Known.{Known}
use Rattle.cat_verify_tables.specs.RowFronts.{Open, open_in}
use Rattle.cat_verify_tables.specs.TypeWords.{IsKnown, IsTypeName, IsPartName}
use Rattle.cat_verify_tables.specs.WrongParts.{IsLow, IsVariable, IsWrongItem, IsWrongName, IsWrongType}
use Rattle.cat_verify_tables.specs.WrongParts as wrong
use Rattle.cat_verify_tables.specs.inside.Entries.{AreRight, AreTold}
use Rattle.cat_verify_tables.specs.inside.NamedWords.{IsNamedAsType, IsWrongHeader, names_in, numbered}
use Rattle.cat_verify_tables.specs.inside.HeldWords.{ArePlain}
use Rattle.cat_verify_tables.specs.inside.DeclaredWords.{scope_name, structures_named, enumerations_named}
use Rattle.cat_verify_tables.specs.inside.PartWords.{Spells}
use Rattle.cat_verify_tables.specs.inside.ItemWords.{IsHeldOf, IsHeldType, IsWhatOf, IsItemOf, item_names}
use Rattle.cat_verify_tables.specs.inside.ItemWords.{IsScopeOf}
use Rattle.cat_verify_tables.specs.inside.FoundPlaces.{is_found}
use Rattle.cat_verify_tables.proofs.BadLemmas.{files, structures, enumerations}
use Rattle.cat_verify_tables.proofs.CountLemmas.{fewer_before}
use Rattle.cat_verify_tables.proofs.FrontLemmas.{open_scope, opened}
use Rattle.cat_verify_tables.proofs.MadeLemmas.{entry_named, one_there}
use Rattle.cat_verify_tables.proofs.NumberLemmas.{name_at_number}
use Rattle.cat_verify_tables.proofs.PlaceLemmas.{not_lost}
use Rattle.cat_verify_tables.proofs.RightRows.{IsRightScope, before_item}
use Rattle.cat_verify_tables.proofs.RowLemmas.{right_at, told_at}
use Rattle.cat_verify_tables.proofs.SoundLemmas.{have_at}

one_of_two : (xs ys : List Text) (x : Text) → IsOneOf x (xs ++ ys) → IsOneOf x xs ⊎ IsOneOf x ys
one_of_two [] ys x one = inr one
one_of_two (y ∷ xs) ys x (inl same) = inl (inl same)
one_of_two (y ∷ xs) ys x (inr more) = by (one_of_two xs ys x more)
  where
    by : IsOneOf x xs ⊎ IsOneOf x ys → IsOneOf x (y ∷ xs) ⊎ IsOneOf x ys
    by (inl one) = inl (inr one)
    by (inr one) = inr one

-- an item whose types are no higher than a type may be
pub record HasLowTypes (ss : List Structure) (es : List Enumeration) (item : ItemDecl) : Type 0 where
  pub ty : height_to ss es highest item.ty ≤ highest
  pub params : AllHave (λ t. height_to ss es highest t ≤ highest) item.params

module _ (tables : ImageTables) (known : Known) (ss : List Structure) (es : List Enumeration) (scopes : List Scope)
    (files_are : known.files ≡ length tables.files)
    (numbers : known.scopes ≡ numbered 0 (map scope_name tables.scopes))
    (spelled_low : (w : Text) (t : Ty) → Spells known.types w t → height_to ss es highest t ≤ highest
    → IsWrongType tables highest w → ⊥)
    (spelled_known : (w : Text) (t : Ty) → Spells known.types w t → IsKnown tables w)
    (told : AreTold (λ _. IsScopeOf known) [] tables.scopes scopes) where
  low_type : (w : Text) (t : Ty) → Spells known.types w t → height_to ss es highest t ≤ highest → IsLow tables w
  low_type w t spells low =
      record { known = spelled_known w t spells; low = λ high. spelled_low w t spells low (inr high) }

  low_params : (texts : List Text) (params : List Ty) → AllZip (Spells known.types) texts params
      → AllHave (λ t. height_to ss es highest t ≤ highest) params → AllByRecursion (IsLow tables) texts
  low_params [] [] each low = tt
  low_params [] (p ∷ params) each low = absurd each
  low_params (t ∷ texts) [] each low = absurd each
  low_params (t ∷ texts) (p ∷ params) each low = (low_type t p each.0 low.0, low_params texts params each.1 low.1)

  held_variable : (what : Text) (item : ItemDecl)
      → IsHeldOf known.types what (record { ty = item.ty; condition = item.condition; params = item.params })
      → HasLowTypes ss es item → IsVariable tables what
  held_variable what item held low = record {
    ty = held.text;
    params = held.texts;
    what_is = held.what_is;
    ty_is = by item.condition held.ty_is;
    params_are = low_params held.texts item.params held.params_are.each low.params;
    few = held.params_are.few;
  }
    where
      by : (c : Bool) → IsHeldType known.types held.text c item.ty
          → (held.text ≡ codes "condition") ⊎ IsLow tables held.text
      by true is = inl is.0
      by false is = inr (low_type held.text item.ty is low.ty)

  -- what an item that was told is stands against no fault
  called_there : (what : Text) (n : ℕ) → number_in known.scopes what ≡ Some n
      → ((s : ImageScope) → IsOneOf s tables.scopes → s.name ≡ what → ⊥) → ⊥
  called_there what n is none =
      let it = name_at_number 0 (map scope_name tables.scopes) what n
      (sym (ap (λ (t : Table). number_in t what) numbers) ∙ is) in
      let s = entry_named scope_name tables.scopes it.index what it.at in
      none s.0 (one_there tables.scopes it.index s.0 s.1) s.2

  not_called : (x : ImageItem) (item : ItemDecl) (k : Kind) → kind_words k ≡ x.kind → IsWhatOf known x.what item k
      → x.kind ≡ words.Called → ((s : ImageScope) → IsOneOf s tables.scopes → s.name ≡ x.what → ⊥) → ⊥
  not_called x item (kind.Called n) is told called none = called_there x.what n told.0 none
  not_called x item kind.Input is told called none = cc (is ∙ called)
  not_called x item kind.Output is told called none = cc (is ∙ called)
  not_called x item kind.Internal is told called none = cc (is ∙ called)
  not_called x item kind.Context is told called none = cc (is ∙ called)
  not_called x item kind.InputOutput is told called none = cc (is ∙ called)
  not_called x item kind.ContextOutput is told called none = cc (is ∙ called)

  a_variable : (x : ImageItem) (item : ItemDecl) (k : Kind) → kind_words k ≡ x.kind → IsWhatOf known x.what item k
      → HasLowTypes ss es item → x.kind ≢ words.Called → IsVariable tables x.what
  a_variable x item (kind.Called n) is told low other = absurd (other (sym is))
  a_variable x item kind.Input is told low other = held_variable x.what item told low
  a_variable x item kind.Output is told low other = held_variable x.what item told low
  a_variable x item kind.Internal is told low other = held_variable x.what item told low
  a_variable x item kind.Context is told low other = held_variable x.what item told low
  a_variable x item kind.InputOutput is told low other = held_variable x.what item told low
  a_variable x item kind.ContextOutput is told low other = held_variable x.what item told low

  module _ (plain : ArePlain known.types)
      (spelled : AllHave (λ name. (IsTypeName name → ⊥) → ⊥) (names_in known.scopes))
      (enough : length (places.functions_from 0 scopes) ≤ length tables.functions)
      (lows : AllHave (λ (s : Scope). AllHave (HasLowTypes ss es) s.items) scopes) where
    item_right : (others : List ImageScope) (s : ImageScope) (after : List ImageScope)
        → tables.scopes ≡ others ++ s ∷ after → (before : List ImageItem) (x : ImageItem) (behind : List ImageItem)
        → s.items ≡ before ++ x ∷ behind → (item : ItemDecl) → IsItemOf known (item_names before) x item
        → HasLowTypes ss es item → length s.items ≤ most_items
        → IsWrongItem tables (before_item tables others s before) x → ⊥
    item_right others s after are before x behind own item told_item low few = by
      where
        opens : open_in (before_item tables others s before) ≡ opened s.name (item_names before)
        opens = open_scope (files tables ++ structures tables ++ enumerations tables ++ flat_map scope_rows others)
            s.name
            s.entry before

        by : IsWrongItem tables (before_item tables others s before) x → ⊥
        by (wrong.name fault) = told_item.right
            (subst (λ (o : Open). IsWrongName IsPartName o.parts x.name) opens fault)
        by (wrong.too_many many) =
            let late = subst (λ (o : Open). most_items ≤ length o.parts) opens many in
            let named = length-map before (λ (i : ImageItem). i.name) in
            let count = ap length own ∙ length-append before (x ∷ behind) in
            omega (arith, late, named, count, few)
        by (wrong.lost lost) =
            not_lost tables x.pos (ap (λ n. is_found n x.pos) (sym files_are) ∙ told_item.decl.found) lost
        by (wrong.called is none) =
            not_called x item item.kind told_item.decl.kind told_item.decl.what is none
        by (wrong.variable other none) =
            none (a_variable x item item.kind told_item.decl.kind told_item.decl.what low other)
        by (wrong.no_entry function none) =
            let less = fewer_before known plain spelled tables scopes told others s after are before x behind own
            function in
            omega (arith, less, none, enough)

    pub scope_right : AreRight (IsWrongHeader scope_name []) [] tables.scopes
        → AreRight (IsNamedAsType (structures_named tables ++ enumerations_named tables)) [] tables.scopes
        → (others : List ImageScope) (s : ImageScope) (after : List ImageScope)
        → tables.scopes ≡ others ++ s ∷ after → IsRightScope tables others s
    scope_right right apart others s after are =
        let it = told_at (λ _. IsScopeOf known) others s after scopes
        (subst (λ (lines : List ImageScope). AreTold (λ _. IsScopeOf known) [] lines scopes) are told) in
        record {
          name = no_name;
          items = λ before x behind own.
              let item = told_at (λ front. IsItemOf known (item_names front)) before x behind it.entry.items
              (subst (λ (lines : List ImageItem). AreTold (λ front. IsItemOf known (item_names front)) [] lines
              it.entry.items) own it.told.items.each) in
              item_right others s after are before x behind own item.entry item.told
              (have_at _ it.entry.items (length before) item.entry item.at
              (have_at _ scopes (length others) it.entry it.at lows)) it.told.items.few;
        }
      where
        own_name : IsWrongName IsTypeName (map scope_name others) s.name → ⊥
        own_name = right_at (IsWrongHeader scope_name []) [] others s after
            (subst (AreRight (IsWrongHeader scope_name []) []) are right)

        no_type : IsOneOf s.name (structures_named tables ++ enumerations_named tables) → ⊥
        no_type = right_at (IsNamedAsType (structures_named tables ++ enumerations_named tables)) [] others s after
            (subst (AreRight (IsNamedAsType (structures_named tables ++ enumerations_named tables)) []) are apart)

        no_name : IsWrongName IsTypeName
            (structures_named tables ++ enumerations_named tables ++ map scope_name others) s.name → ⊥
        no_name (inr other) = own_name (inr other)
        no_name (inl one) = by (one_of_two (structures_named tables ++ enumerations_named tables)
            (map scope_name others) s.name one)
          where
            by : IsOneOf s.name (structures_named tables ++ enumerations_named tables) ⊎ IsOneOf s.name
                (map scope_name others) → ⊥
            by (inl there) = no_type there
            by (inr there) = own_name (inl there)
