-- Targets that are variables are right.
use Rattle.std.proofs.Common.{◌≡◌, ℕ, false, List, ◌++◌, length, Option}
use Rattle.std.proofs.Common.{Some}
use Rattle.std.proofs.Common.{None, slice_get, inl, inr, refl, sym, ap, ◌∙◌, subst}
use Rattle.std.specs.Prelude.{codes, option_map}
use Rattle.cat_scope.specs.Names.{items_in, scope_items}
use Rattle.cat_value.specs.declared.declaration.Kind.{Kind}
use Rattle.cat_value.specs.declared.declaration.Kind.TheVariants as kind
use Rattle.cat_value.specs.declared.declaration.ItemDecl.{ItemDecl}
use Rattle.cat_value.specs.declared.declaration.Scope.{Scope}
use Rattle.cat_value.specs.declared.decls.Decls.{Decls}
use Rattle.cat_value.specs.declared.outcome.Target.{Target}
use Rattle.cat_value.specs.Inputs.{is_called}
use Rattle.cat_json.specs.InputsRead.{items_of}
use Rattle.cat_answer.specs.Answer.{target_text, scope_text, item_text, called_item, text_or_nothing}
use Rattle.cat_code.specs.declared.code.Tables.{Tables}
use Rattle.cat_code.specs.declared.code.TargetEntry.{TargetEntry}
use Rattle.cat_code.specs.Places.{target_decl, inner_of, inner_item, called_scope}
use Rattle.cat_listing.specs.Texts.{name_at}
use Rattle.cat_listing.specs.DeclarationLines.{what_text}
use Rattle.cat_image.specs.declared.tables.ImageTables.{ImageTables}
use Rattle.cat_image.specs.Words.{Text}
use Rattle.cat_image.specs.Listed.{words_of, item_words, kind_words, target_words}
use Rattle.cat_verify_tables.specs.WrongParts.{HasItem, NamesVariable, IsWrongTarget}
use Rattle.cat_verify_tables.specs.WrongParts as wrong
use Rattle.cat_verify_tables.proofs.Exported.{one_there, not_called}
use Rattle.cat_lower.specs.Files.{IsVariableTarget}
use Rattle.cat_emitted.specs.Emitted.{IsOfFiles}
use Rattle.cat_emitted.proofs.ListFacts.{one_mapped}
use Rattle.cat_emitted.proofs.Splits.{one_scope, scope_there}
use Rattle.cat_emitted.proofs.PlaceFacts.{not_lost}

-- an item of a scope
pub record IsItemAt (ds : Decls) (scope k : ℕ) (item : ItemDecl) : Type 0 where
  pub owner : Scope
  pub owner_at : slice_get ds.scopes scope ≡ Some owner
  pub item_at : slice_get owner.items k ≡ Some item

pub item_there : (ds : Decls) (scope k : ℕ) (item : ItemDecl) → slice_get (scope_items ds scope) k ≡ Some item
    → IsItemAt ds scope k item
item_there ds scope k item h = by (slice_get ds.scopes scope) refl h
  where
    by : (o : Option Scope) → slice_get ds.scopes scope ≡ o → slice_get (items_in o) k ≡ Some item
        → IsItemAt ds scope k item
    by None e g = cc g
    by (Some s) e g = record { owner = s; owner_at = e; item_at = g }

-- an item of a scope that an item calls
pub record IsInnerAt (ds : Decls) (scope k inner : ℕ) (item : ItemDecl) : Type 0 where
  pub caller : ItemDecl
  pub called : ℕ
  pub caller_at : IsItemAt ds scope k caller
  pub calls : caller.kind ≡ kind.Called called
  pub inner_at : IsItemAt ds called inner item

pub inner_there : (ds : Decls) (scope k inner : ℕ) (item : ItemDecl)
    → inner_of ds inner (slice_get (scope_items ds scope) k) ≡ Some item → IsInnerAt ds scope k inner item
inner_there ds scope k inner item h = by (slice_get (scope_items ds scope) k) refl h
  where
    at : (caller : ItemDecl) → IsItemAt ds scope k caller → (x : Kind) → caller.kind ≡ x
        → inner_item ds inner (called_scope x) ≡ Some item → IsInnerAt ds scope k inner item
    at caller there (kind.Called n) is g =
        record { caller = caller; called = n; caller_at = there; calls = is; inner_at = item_there ds n inner item g }
    at caller there kind.Input is g = cc g
    at caller there kind.Output is g = cc g
    at caller there kind.Internal is g = cc g
    at caller there kind.Context is g = cc g
    at caller there kind.InputOutput is g = cc g
    at caller there kind.ContextOutput is g = cc g

    by : (o : Option ItemDecl) → slice_get (scope_items ds scope) k ≡ o → inner_of ds inner o ≡ Some item
        → IsInnerAt ds scope k inner item
    by None e g = cc g
    by (Some caller) e g = at caller (item_there ds scope k caller e) caller.kind refl g

module _ (code : Tables) (files : List Text) (one_entry_each : length code.scopes ≡ length code.decls.scopes) where
  abbrev ds : Decls
  ds = code.decls

  abbrev image : ImageTables
  image = words_of code files

  has_item : (scope k : ℕ) (item : ItemDecl) (at : IsItemAt ds scope k item)
      → HasItem image at.owner.name (item_words ds item)
  has_item scope k item at =
      let there = scope_there ds ds.scopes code.scopes scope at.owner one_entry_each at.owner_at in
      record {
        declared = one_scope ds at.owner there.0;
        is_declared = there.1;
        name = refl;
        is_item = one_mapped (item_words ds) item at.owner.items (one_there at.owner.items k item at.item_at);
      }

  -- ---- texts

  abbrev in_scope : Option Scope → Target → Text
  in_scope o target = text_or_nothing (option_map (λ s. scope_text ds s target) o)

  abbrev in_items : Scope → Option ItemDecl → Option ℕ → Text
  in_items s o inner = s.name ++ (codes "." ++ text_or_nothing (option_map (λ i. item_text ds i inner) o))

  pub place_text : (target : Target) (item : ItemDecl) (at : IsItemAt ds target.scope target.item item)
      → target_text ds target ≡ at.owner.name ++ (codes "." ++ item_text ds item target.inner)
  place_text target item at =
      ap (λ (o : Option Scope). in_scope o target) at.owner_at
      ∙ ap (λ (o : Option ItemDecl). in_items at.owner o target.inner) at.item_at

  pub inner_text : (caller item : ItemDecl) (n inner : ℕ) → caller.kind ≡ kind.Called n → IsItemAt ds n inner item
      → item_text ds caller (Some inner) ≡ caller.name ++ (codes "." ++ item.name)
  inner_text caller item n inner is at =
      ap (λ (x : Kind). caller.name ++ (codes "."
      ++ text_or_nothing (option_map (λ (i : ItemDecl). i.name) (called_item ds x inner)))) is
      ∙ ap (λ (o : Option Scope). caller.name ++ (codes "."
      ++ text_or_nothing (option_map (λ (i : ItemDecl). i.name) (slice_get (items_of o) inner)))) at.owner_at
      ∙ ap (λ (o : Option ItemDecl). caller.name ++ (codes "."
      ++ text_or_nothing (option_map (λ (i : ItemDecl). i.name) o))) at.item_at

  what_called : (caller : ItemDecl) (n : ℕ) (s : Scope) → caller.kind ≡ kind.Called n
      → slice_get ds.scopes n ≡ Some s → what_text ds caller caller.kind ≡ s.name
  what_called caller n s is at =
      ap (what_text ds caller) is ∙ ap (λ (o : Option Scope). name_at (λ (r : Scope). r.name) o) at

  -- ---- variables

  own_named : (target : Target) (item : ItemDecl) → target.inner ≡ None → IsItemAt ds target.scope target.item item
      → is_called item.kind ≡ false → NamesVariable image (target_text ds target)
  own_named target item none at plain =
      subst (NamesVariable image)
      (sym (place_text target item at
      ∙ ap (λ (o : Option ℕ). at.owner.name ++ (codes "." ++ item_text ds item o)) none))
      (wrong.own (has_item target.scope target.item item at) (not_called item.kind plain))

  inner_named : (target : Target) (inner : ℕ) (item : ItemDecl) → target.inner ≡ Some inner
      → IsInnerAt ds target.scope target.item inner item → is_called item.kind ≡ false
      → NamesVariable image (target_text ds target)
  inner_named target inner item some at plain =
      subst (NamesVariable image)
      (sym (place_text target at.caller at.caller_at
      ∙ ap (λ (o : Option ℕ). at.caller_at.owner.name ++ (codes "." ++ item_text ds at.caller o)) some
      ∙ ap (λ (x : Text). at.caller_at.owner.name ++ (codes "." ++ x))
      (inner_text at.caller item at.called inner at.calls at.inner_at)))
      (wrong.inner (has_item target.scope target.item at.caller at.caller_at) (ap kind_words at.calls)
      (subst (λ (w : Text). HasItem image w (item_words ds item))
      (sym (what_called at.caller at.called at.inner_at.owner at.calls at.inner_at.owner_at))
      (has_item at.called inner item at.inner_at)) (not_called item.kind plain))

  pub target_named : (target : Target) → IsVariableTarget ds target → NamesVariable image (target_text ds target)
  target_named target v = by target.inner refl v.declared
    where
      by : (o : Option ℕ) → target.inner ≡ o → target_decl ds target.scope target.item o ≡ Some v.item
          → NamesVariable image (target_text ds target)
      by None is g = own_named target v.item is (item_there ds target.scope target.item v.item g) v.plain
      by (Some inner) is g =
          inner_named target inner v.item is (inner_there ds target.scope target.item inner v.item g) v.plain

  pub target_right : (entry : TargetEntry) → IsOfFiles files entry.pos → IsVariableTarget ds entry.target
      → IsWrongTarget image (target_words ds entry) → ⊥
  target_right entry placed v (inl far) = not_lost code files entry.pos placed far
  target_right entry placed v (inr none) = none (target_named entry.target v)
