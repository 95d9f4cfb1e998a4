-- Targets that texts name, and the variables that lines declare.
use Rattle.std.proofs.Common.{◌≡◌, ◌≢◌, ℕ, List, [], ◌∷◌, ◌++◌, map, Some, None, slice_get}
use Rattle.std.proofs.Common.{refl, sym, ap, ◌∙◌, subst, arith}
use Rattle.std.specs.Prelude.{codes, option_and_then}
use Rattle.std.specs.Option.{option_map}
use Rattle.cat_scope.specs.Names.{IsOneOf, items_in, scope_items}
use Rattle.cat_value.specs.declared.declaration.Kind.{Kind}
use Rattle.cat_value.specs.declared.declaration.Kind.TheVariants as kind
use Rattle.cat_value.specs.declared.declaration.ItemDecl.{ItemDecl}
use Rattle.cat_value.specs.declared.declaration.Scope.{Scope}
use Rattle.cat_value.specs.declared.decls.Decls.{Decls}
use Rattle.cat_value.specs.declared.outcome.Target.{Target}
use Rattle.cat_names.specs.Lookup.{item_named, scope_named}
use Rattle.cat_check_names.specs.Table.{Table, number_in}
use Rattle.cat_image.specs.declared.tables.ImageKind.TheVariants as words
use Rattle.cat_image.specs.declared.tables.ImageItem.{ImageItem}
use Rattle.cat_image.specs.declared.tables.ImageScope.{ImageScope}
use Rattle.cat_image.specs.declared.tables.ImageTables.{ImageTables}
use Rattle.cat_image.specs.Words.{Text}
use Rattle.cat_image.specs.Listed.{kind_words}
use Rattle.cat_image.specs.inside.Reads.{cut}
use Rattle.cat_image.proofs.CutLemmas.{cut_at}
use Rattle.cat_verify_tables.specs.declared.scoping.Known.{Known}
use Rattle.cat_verify_tables.specs.TypeWords.{IsTypeName, IsPartName}
use Rattle.cat_verify_tables.specs.WrongParts.{IsWrongName, HasItem, NamesVariable}
use Rattle.cat_verify_tables.specs.WrongParts as wrong
use Rattle.cat_verify_tables.specs.inside.Entries.{AreTold, AreRight}
use Rattle.cat_verify_tables.specs.inside.NamedWords.{numbered, IsWrongHeader}
use Rattle.cat_verify_tables.specs.inside.DeclaredWords.{scope_name}
use Rattle.cat_verify_tables.specs.inside.ItemWords.{IsDeclOf, IsWhatOf, IsItemOf, item_names, IsScopeOf}
use Rattle.cat_verify_tables.specs.inside.TargetNaming.{kind_named, number_if_own, own_named, inner_named}
use Rattle.cat_verify_tables.specs.inside.TargetNaming.{variable_named, target_in, target_named}
use Rattle.cat_verify_tables.proofs.ApartLemmas.{once, spelled_names}
use Rattle.cat_verify_tables.proofs.LookupLemmas.{found_at}
use Rattle.cat_verify_tables.proofs.MadeLemmas.{index_of, named_at, told_for}
use Rattle.cat_verify_tables.proofs.NumberLemmas.{name_at_number}
use Rattle.cat_verify_tables.proofs.PlainLemmas.{type_no_dot, part_no_dot}
use Rattle.cat_verify_tables.proofs.WordedLemmas.{told_names}

-- names of items that were told are right
pub items_right : (known : Known) (front lines : List ImageItem) (items : List ItemDecl)
    → AreTold (λ before. IsItemOf known (item_names before)) front lines items
    → AreRight (λ before x. IsWrongName IsPartName (item_names before) x.name) front lines
items_right known front [] [] told = tt
items_right known front [] (y ∷ ys) told = absurd told
items_right known front (x ∷ xs) [] told = absurd told
items_right known front (x ∷ xs) (y ∷ ys) told = (told.0.right, items_right known (front ++ x ∷ []) xs ys told.1)

abbrev pub item_name : ImageItem → Text
item_name i = i.name

-- the number of an item, and its kind
abbrev with_kind : ℕ × ItemDecl → ℕ × Kind
with_kind i = (i.0, i.1.kind)

abbrev IsCalled : Kind → Type 0
IsCalled (kind.Called scope) = Unit {0}
IsCalled _ = ⊥

-- an item of a scope, by its line
pub record IsItemAt (known : Known) (items : List ItemDecl) (i : ImageItem) : Type 0 where
  pub index : ℕ
  pub item : ItemDecl
  pub at : slice_get items index ≡ Some item
  pub decl : IsDeclOf known i item
  pub named : item_named i.name items ≡ Some (index, item)
  pub no_dot : cut 46 i.name ≡ None

pub item_at : (known : Known) (l : ImageScope) (s : Scope) → IsScopeOf known l s → (i : ImageItem)
    → IsOneOf i l.items → IsItemAt known s.items i
item_at known l s told i one =
    let there = index_of i l.items one in
    let each = told.items.each in
    let made = told_for (λ before. IsItemOf known (item_names before)) [] l.items s.items there.0 i each there.1 in
    let names = told_names (λ before. IsItemOf known (item_names before)) item_name (λ (d : ItemDecl). d.name)
    (λ before x d is. is.decl.name) [] l.items s.items each in
    let right = items_right known [] l.items s.items each in
    let at_line = named_at item_name l.items there.0 i there.1 in
    record {
      index = there.0;
      item = made.0;
      at = made.1;
      decl = made.3.decl;
      named = found_at (λ (d : ItemDecl). d.name) i.name s.items there.0 made.0 made.1 made.3.decl.name
          (λ a b one other. once IsPartName item_name [] l.items right a b i.name
          (ap (λ (ns : List Text). slice_get ns a) names ∙ one)
          (ap (λ (ns : List Text). slice_get ns b) names ∙ other));
      no_dot = part_no_dot i.name (spelled_names IsPartName item_name [] l.items right there.0 i.name at_line);
    }

module _ (tables : ImageTables) (known : Known) (ds : Decls)
    (right : AreRight (IsWrongHeader scope_name []) [] tables.scopes)
    (told : AreTold (λ _. IsScopeOf known) [] tables.scopes ds.scopes)
    (numbers : known.scopes ≡ numbered 0 (map scope_name tables.scopes)) where
  names : map scope_name tables.scopes ≡ map (λ (s : Scope). s.name) ds.scopes
  names = told_names (λ _. IsScopeOf known) scope_name (λ (s : Scope). s.name) (λ front l s is. is.name) []
      tables.scopes ds.scopes told

  -- a scope by its line
  record IsScopeAt (l : ImageScope) : Type 0 where
    pub index : ℕ
    pub scope : Scope
    pub at : slice_get ds.scopes index ≡ Some scope
    pub scoped : IsScopeOf known l scope
    pub named : scope_named l.name ds.scopes ≡ Some (index, scope)
    pub no_dot : cut 46 l.name ≡ None

  scope_at : (l : ImageScope) (k : ℕ) → slice_get tables.scopes k ≡ Some l → IsScopeAt l
  scope_at l k there =
      let made = told_for (λ _. IsScopeOf known) [] tables.scopes ds.scopes k l told there in
      let at_line = named_at scope_name tables.scopes k l there in
      record {
        index = k;
        scope = made.0;
        at = made.1;
        scoped = made.3;
        named = found_at (λ (s : Scope). s.name) l.name ds.scopes k made.0 made.1 made.3.name
            (λ a b one other. once IsTypeName scope_name [] tables.scopes right a b l.name
            (ap (λ (ns : List Text). slice_get ns a) names ∙ one)
            (ap (λ (ns : List Text). slice_get ns b) names ∙ other));
        no_dot = type_no_dot l.name (spelled_names IsTypeName scope_name [] tables.scopes right k l.name at_line);
      }

  items_are : (l : ImageScope) (s : IsScopeAt l) → scope_items ds s.index ≡ s.scope.items
  items_are l s = ap items_in s.at

  -- ---- what is named is found

  own_number : (n : ℕ) (k : Kind) → (IsCalled k → ⊥) → number_if_own (n, k) ≡ Some n
  own_number n (kind.Called scope) other = absurd (other tt)
  own_number n kind.Input other = refl
  own_number n kind.Output other = refl
  own_number n kind.Internal other = refl
  own_number n kind.Context other = refl
  own_number n kind.InputOutput other = refl
  own_number n kind.ContextOutput other = refl

  not_called : (k : Kind) → kind_words k ≢ words.Called → IsCalled k → ⊥
  not_called (kind.Called scope) other is = other refl
  not_called kind.Input other is = is
  not_called kind.Output other is = is
  not_called kind.Internal other is = is
  not_called kind.Context other is = is
  not_called kind.InputOutput other is = is
  not_called kind.ContextOutput other is = is

  kind_at : (l : ImageScope) (s : IsScopeAt l) (i : ImageItem) (it : IsItemAt known s.scope.items i)
      → kind_named ds s.index i.name ≡ Some (it.index, it.item.kind)
  kind_at l s i it =
      ap (λ (items : List ItemDecl). option_map with_kind (item_named i.name items)) (items_are l s)
      ∙ ap (option_map with_kind) it.named

  own_at : (l : ImageScope) (s : IsScopeAt l) (i : ImageItem) (it : IsItemAt known s.scope.items i)
      → i.kind ≢ words.Called → own_named ds s.index i.name ≡ Some it.index
  own_at l s i it other =
      ap (option_and_then number_if_own) (kind_at l s i it)
      ∙ own_number it.index it.item.kind
      (not_called it.item.kind (λ called. other (sym it.decl.kind ∙ called)))

  called_at : (k : Kind) → kind_words k ≡ words.Called → (n : ℕ) × (k ≡ kind.Called n)
  called_at (kind.Called n) is = (n, refl)
  called_at kind.Input is = absurd (cc is)
  called_at kind.Output is = absurd (cc is)
  called_at kind.Internal is = absurd (cc is)
  called_at kind.Context is = absurd (cc is)
  called_at kind.InputOutput is = absurd (cc is)
  called_at kind.ContextOutput is = absurd (cc is)

  -- the text of a place behind the name of a scope
  in_scope : (l : ImageScope) (s : IsScopeAt l) (rest : Text)
      → target_named ds (l.name ++ (codes "." ++ rest)) ≡ variable_named ds s.index rest (cut 46 rest)
  in_scope l s rest =
      ap (option_and_then (λ parts. target_in ds parts.1 (option_map (λ x. x.0) (scope_named parts.0 ds.scopes))))
      (cut_at 46 l.name rest s.no_dot)
      ∙ ap (λ o. target_in ds rest (option_map (λ x. x.0) o)) s.named

  own_found : (scope : Text) (i : ImageItem) → HasItem tables scope i → i.kind ≢ words.Called
      → (target : Target) × (target_named ds (scope ++ (codes "." ++ i.name)) ≡ Some target)
  own_found scope i has other =
      let l = has.declared in
      let there = index_of l tables.scopes has.is_declared in
      let s = scope_at l there.0 there.1 in
      let it = item_at known l s.scope s.scoped i has.is_item in
      let target : Target = record { scope = s.index; item = it.index; inner = None } in (
        target,
        subst (λ (w : Text). target_named ds (w ++ (codes "." ++ i.name)) ≡ Some target) has.name
            (in_scope l s i.name ∙ ap (variable_named ds s.index i.name) it.no_dot
            ∙ ap (option_map (λ n. record { scope = s.index; item = n; inner = None })) (own_at l s i it other)),
      )

  inner_found : (scope : Text) (i j : ImageItem) → HasItem tables scope i → i.kind ≡ words.Called
      → HasItem tables i.what j → j.kind ≢ words.Called
      → (target : Target) × (target_named ds (scope ++ (codes "." ++ (i.name ++ (codes "." ++ j.name)))) ≡ Some target)
  unfolding scope_at
  inner_found scope i j has called inside other =
      let l = has.declared in
      let there = index_of l tables.scopes has.is_declared in
      let s = scope_at l there.0 there.1 in
      let it = item_at known l s.scope s.scoped i has.is_item in
      let m = inside.declared in
      let where_m = index_of m tables.scopes inside.is_declared in
      let t = scope_at m where_m.0 where_m.1 in
      let jt = item_at known m t.scope t.scoped j inside.is_item in
      let n = called_at it.item.kind (it.decl.kind ∙ called) in
      let number : n.0 ≡ t.index = called_number i.what m (inside.name) where_m.0 where_m.1 n.0
      (called_told i it.item n.0 n.1 it.decl) in
      let target : Target = record { scope = s.index; item = it.index; inner = Some jt.index } in (
        target,
        subst (λ (w : Text). target_named ds (w ++ (codes "." ++ (i.name ++ (codes "." ++ j.name)))) ≡ Some target)
            has.name
            (in_scope l s (i.name ++ (codes "." ++ j.name))
            ∙ ap (variable_named ds s.index (i.name ++ (codes "." ++ j.name))) (cut_at 46 i.name j.name it.no_dot)
            ∙ ap (option_and_then (inner_named ds s.index j.name)) (kind_at l s i it)
            ∙ ap (λ (k : Kind). inner_named ds s.index j.name (it.index, k)) n.1
            ∙ ap (λ (k : ℕ). option_map (λ x. record { scope = s.index; item = it.index; inner = Some x })
            (own_named ds k j.name)) number
            ∙ ap (option_map (λ x. record { scope = s.index; item = it.index; inner = Some x }))
            (own_at m t j jt other)),
      )
    where
      called_told : (i : ImageItem) (item : ItemDecl) (n : ℕ) → item.kind ≡ kind.Called n → IsDeclOf known i item
          → number_in known.scopes i.what ≡ Some n
      called_told i item n is decl = (subst (IsWhatOf known i.what item) is decl.what).0

      called_number : (what : Text) (m : ImageScope) → m.name ≡ what → (k : ℕ) → slice_get tables.scopes k ≡ Some m
          → (n : ℕ) → number_in known.scopes what ≡ Some n → n ≡ k
      called_number what m named k at n is =
          let it = name_at_number 0 (map scope_name tables.scopes) what n
          (sym (ap (λ (t : Table). number_in t what) numbers) ∙ is) in
          let same : n ≡ it.index = omega (arith, it.number_is) in
          same ∙ once IsTypeName scope_name [] tables.scopes right it.index k what it.at
          (named_at scope_name tables.scopes k m at ∙ ap Some named)

  pub names_found : (place : Text) → NamesVariable tables place
      → (target : Target) × (target_named ds place ≡ Some target)
  names_found place (wrong.own {scope} {i} has other) = own_found scope i has other
  names_found place (wrong.inner {scope} {i} {j} has called inside other) =
      inner_found scope i j has called inside other
