-- Targets that texts name: their texts, their types, and the variables that they are.
use Rattle.std.proofs.Common.{◌≡◌, ◌≢◌, ℕ, false, IsTrue, List, [], ◌∷◌, ◌++◌, map, Option, Some, None}
use Rattle.std.proofs.Common.{slice_get, refl, sym, ap, ◌∙◌, subst, arith, true≢false}
use Rattle.std.specs.Prelude.{codes, is_some, option_and_then}
use Rattle.std.specs.Option.{option_map}
use Rattle.cat_answer.specs.Answer.{called_item, item_text, scope_text, target_text, text_or_nothing}
use Rattle.cat_scope.specs.Names.{is_called, items_in, scope_items}
use Rattle.cat_value.specs.declared.declaration.Kind.{Kind}
use Rattle.cat_value.specs.declared.declaration.Kind.TheVariants as kind
use Rattle.cat_value.specs.declared.declaration.ItemDecl.{ItemDecl}
use Rattle.cat_value.specs.declared.declaration.Scope.{Scope}
use Rattle.cat_value.specs.declared.decls.Decls.{Decls}
use Rattle.cat_value.specs.declared.outcome.Target.{Target}
use Rattle.cat_code.specs.Places.{held_form, target_form}
use Rattle.cat_json.specs.InputsRead.{items_of}
use Rattle.cat_names.specs.Lookup.{item_named, scope_named}
use Rattle.cat_check_names.specs.Table.{Table, number_in}
use Rattle.cat_image.specs.declared.tables.ImageKind.TheVariants as words
use Rattle.cat_image.specs.declared.tables.ImageItem.{ImageItem}
use Rattle.cat_image.specs.declared.tables.ImageTables.{ImageTables}
use Rattle.cat_image.specs.Words.{Text}
use Rattle.cat_image.specs.Listed.{kind_words}
use Rattle.cat_image.specs.inside.Reads.{cut}
use Rattle.cat_image.proofs.CutLemmas.{IsCutTo, cut_told}
use Rattle.cat_verify_tables.specs.declared.scoping.Known.{Known}
use Rattle.cat_verify_tables.specs.WrongParts.{HasItem, NamesVariable}
use Rattle.cat_verify_tables.specs.WrongParts as wrong
use Rattle.cat_verify_tables.specs.inside.Entries.{AreTold}
use Rattle.cat_verify_tables.specs.inside.NamedWords.{numbered}
use Rattle.cat_verify_tables.specs.inside.DeclaredWords.{scope_name}
use Rattle.cat_verify_tables.specs.inside.ItemWords.{IsDeclOf, IsWhatOf, IsItemOf, item_names, IsScopeOf}
use Rattle.cat_verify_tables.specs.inside.TargetNaming.{number_if_own, own_named, inner_named}
use Rattle.cat_verify_tables.specs.inside.TargetNaming.{variable_named, target_in, target_named}
use Rattle.cat_verify_tables.proofs.LookupLemmas.{found_name, found_there}
use Rattle.cat_verify_tables.proofs.MadeLemmas.{entry_named, one_there, told_for, told_of}
use Rattle.cat_verify_tables.proofs.NumberLemmas.{name_at_number}

-- the number of an item, and its kind
abbrev with_kind : ℕ × ItemDecl → ℕ × Kind
with_kind i = (i.0, i.1.kind)

-- an item that is no called scope, by its name in a scope
record IsOwn (items : List ItemDecl) (name : Text) (n : ℕ) : Type 0 where
  pub item : ItemDecl
  pub at : slice_get items n ≡ Some item
  pub named : item.name ≡ name
  pub variable : is_called item.kind ≡ false

own_kind : (k : Kind) (m n : ℕ) → number_if_own (m, k) ≡ Some n → (m ≡ n) × (is_called k ≡ false)
own_kind (kind.Called scope) m n is = absurd (cc is)
own_kind kind.Input m n is = (cc is, refl)
own_kind kind.Output m n is = (cc is, refl)
own_kind kind.Internal m n is = (cc is, refl)
own_kind kind.Context m n is = (cc is, refl)
own_kind kind.InputOutput m n is = (cc is, refl)
own_kind kind.ContextOutput m n is = (cc is, refl)

own_is : (ds : Decls) (scope : ℕ) (name : Text) (n : ℕ) → own_named ds scope name ≡ Some n
    → IsOwn (scope_items ds scope) name n
own_is ds scope name n is = by (item_named name (scope_items ds scope)) refl is
  where
    by : (o : Option (ℕ × ItemDecl)) → item_named name (scope_items ds scope) ≡ o
        → option_and_then number_if_own (option_map with_kind o) ≡ Some n
        → IsOwn (scope_items ds scope) name n
    by None at is = absurd (cc is)
    by (Some f) at is =
        let own = own_kind f.1.kind f.0 n is in
        record {
          item = f.1;
          at = ap (slice_get (scope_items ds scope)) (sym own.0)
              ∙ found_there (λ (i : ItemDecl). i.name) name (scope_items ds scope) f at;
          named = found_name (λ (i : ItemDecl). i.name) name (scope_items ds scope) f at;
          variable = own.1;
        }

pub not_called : (k : Kind) → is_called k ≡ false → kind_words k ≢ words.Called
not_called (kind.Called scope) variable same = true≢false variable
not_called kind.Input variable same = cc same
not_called kind.Output variable same = cc same
not_called kind.Internal variable same = cc same
not_called kind.Context variable same = cc same
not_called kind.InputOutput variable same = cc same
not_called kind.ContextOutput variable same = cc same

-- what a text that names a target is
pub record IsNamedTarget (tables : ImageTables) (ds : Decls) (place : Text) (target : Target) : Type 0 where
  pub text : target_text ds target ≡ place
  pub form : IsTrue (is_some (target_form ds target))
  pub names : NamesVariable tables place

module _ (tables : ImageTables) (known : Known) (ds : Decls)
    (told : AreTold (λ _. IsScopeOf known) [] tables.scopes ds.scopes)
    (numbers : known.scopes ≡ numbered 0 (map scope_name tables.scopes)) where
  -- the line of an item
  record HasLine (scope : Scope) (item : ItemDecl) : Type 0 where
    pub line : ImageItem
    pub decl : IsDeclOf known line item
    pub there : HasItem tables scope.name line

  line_of : (k n : ℕ) (s : Scope) (item : ItemDecl) → slice_get ds.scopes k ≡ Some s → slice_get s.items n ≡ Some item
      → HasLine s item
  line_of k n s item at own =
      let l = told_of (λ _. IsScopeOf known) [] tables.scopes ds.scopes k s told at in
      let x = told_of (λ before. IsItemOf known (item_names before)) [] l.0.items s.items n item l.3.items.each own in
      record {
        line = x.0;
        decl = x.3.decl;
        there = record {
          declared = l.0;
          is_declared = one_there tables.scopes k l.0 l.1;
          name = sym l.3.name;
          is_item = one_there l.0.items n x.0 x.1;
        };
      }

  items_at : (k : ℕ) (s : Scope) → slice_get ds.scopes k ≡ Some s → scope_items ds k ≡ s.items
  items_at k s at = ap items_in at

  scope_there : (k n : ℕ) (item : ItemDecl) → slice_get (scope_items ds k) n ≡ Some item
      → (s : Scope) × (slice_get ds.scopes k ≡ Some s) × (slice_get s.items n ≡ Some item)
  scope_there k n item at = by (slice_get ds.scopes k) refl at
    where
      by : (o : Option Scope) → slice_get ds.scopes k ≡ o → slice_get (items_in o) n ≡ Some item
          → (s : Scope) × (slice_get ds.scopes k ≡ Some s) × (slice_get s.items n ≡ Some item)
      by None is at = absurd (cc at)
      by (Some s) is at = (s, is, at)

  -- ---- a variable of its own

  own_target : (place : Text) (p : Text × Text) (k : ℕ) (s : Scope) (n : ℕ) → place ≡ p.0 ++ 46 ∷ p.1
      → slice_get ds.scopes k ≡ Some s → s.name ≡ p.0 → IsOwn (scope_items ds k) p.1 n
      → IsNamedTarget tables ds place (record { scope = k; item = n; inner = None })
  own_target place p k s n split at named own =
      let target : Target = record { scope = k; item = n; inner = None } in
      let there : slice_get s.items n ≡ Some own.item =
      ap (λ items. slice_get items n) (sym (items_at k s at)) ∙ own.at in
      let line = line_of k n s own.item at there in
      let text : s.name ++ (codes "." ++ own.item.name) ≡ place =
      ap (λ (w : Text). w ++ (codes "." ++ own.item.name)) named
      ∙ ap (λ (w : Text). p.0 ++ (codes "." ++ w)) own.named ∙ sym split in
      record {
        text = ap (λ o. text_or_nothing (option_map (λ x. scope_text ds x target) o)) at
            ∙ ap (λ o. s.name ++ (codes "." ++ text_or_nothing (option_map (λ i. item_text ds i None) o))) there ∙ text;
        form = ap (λ o. is_some (held_form ds o)) own.at;
        names = subst (NamesVariable tables)
            (ap (λ (w : Text). s.name ++ (codes "." ++ w)) (sym line.decl.name) ∙ text)
            (wrong.own line.there (λ called. not_called own.item.kind own.variable (line.decl.kind ∙ called)));
      }

  -- ---- a variable of a called scope

  called_name : (x : ImageItem) (item : ItemDecl) (n : ℕ) → item.kind ≡ kind.Called n → IsDeclOf known x item
      → (t : Scope) → slice_get ds.scopes n ≡ Some t → t.name ≡ x.what
  called_name x item n is decl t at =
      let number = (subst (λ (k : Kind). IsWhatOf known x.what item k) is decl.what).0 in
      let it = name_at_number 0 (map scope_name tables.scopes) x.what n
      (sym (ap (λ (w : Table). number_in w x.what) numbers) ∙ number) in
      let same : n ≡ it.index = omega (arith, it.number_is) in
      let l = entry_named scope_name tables.scopes n x.what
      (ap (slice_get (map scope_name tables.scopes)) same ∙ it.at) in
      let made = told_for (λ _. IsScopeOf known) [] tables.scopes ds.scopes n l.0 told l.1 in
      let one : made.0 ≡ t = cc (sym made.1 ∙ at) in
      ap (λ (s : Scope). s.name) (sym one) ∙ made.3.name ∙ l.2

  inner_target : (place : Text) (p q : Text × Text) (k : ℕ) (s : Scope) (n : ℕ) (item : ItemDecl) (called m : ℕ)
      → place ≡ p.0 ++ 46 ∷ p.1 → p.1 ≡ q.0 ++ 46 ∷ q.1 → slice_get ds.scopes k ≡ Some s → s.name ≡ p.0
      → slice_get s.items n ≡ Some item → item.name ≡ q.0 → item.kind ≡ kind.Called called
      → IsOwn (scope_items ds called) q.1 m
      → IsNamedTarget tables ds place (record { scope = k; item = n; inner = Some m })
  inner_target place p q k s n item called m split parts at named there item_named_so calls own =
      let target : Target = record { scope = k; item = n; inner = Some m } in
      let t = scope_there called m own.item own.at in
      let line = line_of k n s item at there in
      let inner = line_of called m t.0 own.item t.1 t.2 in
      let inner_text : q.0 ++ (codes "." ++ own.item.name) ≡ p.1 =
      ap (λ (w : Text). q.0 ++ (codes "." ++ w)) own.named ∙ sym parts in
      let text : s.name ++ (codes "." ++ (item.name ++ (codes "." ++ own.item.name))) ≡ place =
      ap (λ (w : Text). w ++ (codes "." ++ (item.name ++ (codes "." ++ own.item.name)))) named
      ∙ ap (λ (w : Text). p.0 ++ (codes "." ++ (w ++ (codes "." ++ own.item.name)))) item_named_so
      ∙ ap (λ (w : Text). p.0 ++ (codes "." ++ w)) inner_text ∙ sym split in
      let found : called_item ds item.kind m ≡ Some own.item =
      ap (λ (c : Kind). called_item ds c m) calls
      ∙ ap (λ o. slice_get (items_of o) m) t.1 ∙ t.2 in
      record {
        text = ap (λ o. text_or_nothing (option_map (λ x. scope_text ds x target) o)) at
            ∙ ap (λ o. s.name ++ (codes "." ++ text_or_nothing (option_map (λ i. item_text ds i (Some m)) o))) there
            ∙ ap (λ o. s.name ++ (codes "." ++ (item.name ++ (codes "." ++ text_or_nothing
            (option_map (λ (i : ItemDecl). i.name) o))))) found ∙ text;
        form = form_at at there calls (ap (λ o. slice_get (items_in o) m) t.1 ∙ t.2);
        names = subst (NamesVariable tables)
            (ap (λ (w : Text). s.name ++ (codes "." ++ (w ++ (codes "." ++ inner.line.name)))) (sym line.decl.name)
            ∙ ap (λ (w : Text). s.name ++ (codes "." ++ (item.name ++ (codes "." ++ w)))) (sym inner.decl.name) ∙ text)
            (wrong.inner line.there (sym line.decl.kind ∙ ap kind_words calls)
            (subst (λ (w : Text). HasItem tables w inner.line)
            (called_name line.line item called calls line.decl t.0 t.1)
            inner.there)
            (λ is. not_called own.item.kind own.variable (inner.decl.kind ∙ is)));
      }
    where
      form_at : slice_get ds.scopes k ≡ Some s → slice_get s.items n ≡ Some item → item.kind ≡ kind.Called called
          → slice_get (scope_items ds called) m ≡ Some own.item
          → IsTrue (is_some (target_form ds (record { scope = k; item = n; inner = Some m })))
      form_at at there calls inside = rw (at, there, calls, inside) refl

  -- ---- what is named

  in_scope : (place : Text) (p : Text × Text) (k : ℕ) (s : Scope) (target : Target) → place ≡ p.0 ++ 46 ∷ p.1
      → slice_get ds.scopes k ≡ Some s → s.name ≡ p.0 → (o : Option (Text × Text)) → IsCutTo 46 p.1 o
      → variable_named ds k p.1 o ≡ Some target → IsNamedTarget tables ds place target
  in_scope place p k s target split at named None told is = by (own_named ds k p.1) refl is
    where
      by : (o : Option ℕ) → own_named ds k p.1 ≡ o
          → option_map (λ item. record { scope = k; item = item; inner = None }) o ≡ Some target
          → IsNamedTarget tables ds place target
      by None own is = absurd (cc is)
      by (Some n) own is =
          let same : record { scope = k; item = n; inner = None } ≡ target = cc is in
          subst (IsNamedTarget tables ds place) same
          (own_target place p k s n split at named (own_is ds k p.1 n own))
  in_scope place p k s target split at named (Some q) told is = by (item_named q.0 (scope_items ds k)) refl is
    where
      inner : (f : ℕ × ItemDecl) → item_named q.0 (scope_items ds k) ≡ Some f → (c : Kind) → f.1.kind ≡ c
          → inner_named ds k q.1 (f.0, c) ≡ Some target → IsNamedTarget tables ds place target
      inner f found (kind.Called called) kind_is is = own (own_named ds called q.1) refl is
        where
          own : (o : Option ℕ) → own_named ds called q.1 ≡ o
              → option_map (λ m. record { scope = k; item = f.0; inner = Some m }) o ≡ Some target
              → IsNamedTarget tables ds place target
          own None at_inner is = absurd (cc is)
          own (Some m) at_inner is =
              let same : record { scope = k; item = f.0; inner = Some m } ≡ target = cc is in
              subst (IsNamedTarget tables ds place) same
              (inner_target place p q k s f.0 f.1 called m split told.0 at named
              (ap (λ items. slice_get items f.0) (sym (items_at k s at))
              ∙ found_there (λ (i : ItemDecl). i.name) q.0 (scope_items ds k) f found)
              (found_name (λ (i : ItemDecl). i.name) q.0 (scope_items ds k) f found) kind_is
              (own_is ds called q.1 m at_inner))
      inner f found kind.Input kind_is is = absurd (cc is)
      inner f found kind.Output kind_is is = absurd (cc is)
      inner f found kind.Internal kind_is is = absurd (cc is)
      inner f found kind.Context kind_is is = absurd (cc is)
      inner f found kind.InputOutput kind_is is = absurd (cc is)
      inner f found kind.ContextOutput kind_is is = absurd (cc is)

      by : (o : Option (ℕ × ItemDecl)) → item_named q.0 (scope_items ds k) ≡ o
          → option_and_then (inner_named ds k q.1) (option_map with_kind o) ≡ Some target
          → IsNamedTarget tables ds place target
      by None found is = absurd (cc is)
      by (Some f) found is = inner f found f.1.kind refl is

  pub target_is : (place : Text) (target : Target) → target_named ds place ≡ Some target
      → IsNamedTarget tables ds place target
  target_is place target is = by (cut 46 place) (cut_told 46 place) is
    where
      scoped : (p : Text × Text) → place ≡ p.0 ++ 46 ∷ p.1 → (o : Option (ℕ × Scope)) → scope_named p.0 ds.scopes ≡ o
          → target_in ds p.1 (option_map (λ s. s.0) o) ≡ Some target → IsNamedTarget tables ds place target
      scoped p split None found is = absurd (cc is)
      scoped p split (Some f) found is = in_scope place p f.0 f.1 target split
          (found_there (λ (s : Scope). s.name) p.0 ds.scopes f found)
          (found_name (λ (s : Scope). s.name) p.0 ds.scopes f found) (cut 46 p.1) (cut_told 46 p.1) is

      by : (o : Option (Text × Text)) → IsCutTo 46 place o
          → option_and_then (λ parts. target_in ds parts.1 (option_map (λ s. s.0) (scope_named parts.0 ds.scopes))) o
          ≡ Some target → IsNamedTarget tables ds place target
      by None told is = absurd (cc is)
      by (Some p) told is = scoped p told.0 (scope_named p.0 ds.scopes) refl is
