-- What is told of the scope or the function that an instruction names.
use Rattle.std.proofs.Common.{◌≡◌, ℕ, List, map, replicate, Bool, false, Option, Some, None, slice_get, refl, sym, ap}
use Rattle.std.proofs.Common.{◌∙◌}
use Rattle.std.specs.Option.{option_map}
use Rattle.cat_value.specs.declared.declaration.ItemDecl.{ItemDecl}
use Rattle.cat_value.specs.declared.declaration.Scope.{Scope}
use Rattle.cat_value.specs.declared.decls.Decls.{Decls}
use Rattle.cat_scope.specs.Names.{scope_items}
use Rattle.cat_code.specs.Places as places
use Rattle.cat_code.specs.Places.{function_places}
use Rattle.cat_code.specs.Wanted.{are_passed}
use Rattle.cat_verify_tables.specs.declared.places.FunctionPlace.{FunctionPlace}
use Rattle.cat_verify_tables.specs.TableWords.{numbered}
use Rattle.cat_verify_shapes.specs.declared.shape.PendingShape.{PendingShape}
use Rattle.cat_verify_shapes.proofs.ListLemmas.{none_some, some_is, get_map}

pub scope_of : (ds es : Decls) (n : ℕ) (o : Option Scope) → ds ≡ es → o ≡ slice_get ds.scopes n
    → slice_get es.scopes n ≡ o
scope_of ds es n o same is = sym (is ∙ ap (λ (d : Decls). slice_get d.scopes n) same)

pub flags_of : (flags : List Bool) (n count : ℕ) → flags ≡ replicate n false → n ≡ count → flags ≡ replicate count false
flags_of flags n count is e = is ∙ ap (λ (k : ℕ). replicate k false) e

-- the place of a function, where its number is told
pub record IsPlaced (ds : Decls) (f : ℕ) (told : FunctionPlace) : Type 0 where
  pub place : places.FunctionPlace
  pub place_is : slice_get (function_places ds) f ≡ Some place
  pub told_is : numbered place ≡ told

no_place : (o : Option places.FunctionPlace) → None ≡ option_map numbered o → o ≡ None
no_place None e = refl
no_place (Some place) e = absurd (none_some (numbered place) e)

some_place : (ds : Decls) (f : ℕ) (told : FunctionPlace) (o : Option places.FunctionPlace)
    → slice_get (function_places ds) f ≡ o → Some told ≡ option_map numbered o → IsPlaced ds f told
some_place ds f told None is e = absurd (none_some told (sym e))
some_place ds f told (Some place) is e = record {
  place = place;
  place_is = is;
  told_is = sym (some_is told (numbered place) e);
}

no_item : (o : Option places.FunctionPlace) → None ≡ option_map (λ place. place.decl) o → o ≡ None
no_item None e = refl
no_item (Some place) e = absurd (none_some place.decl e)

module _ (ds : Decls) (functions : List FunctionPlace) (told : functions ≡ map numbered (function_places ds)) where
  numbered_at : (f : ℕ) → slice_get functions f ≡ option_map numbered (slice_get (function_places ds) f)
  numbered_at f = ap (λ (l : List FunctionPlace). slice_get l f) told ∙ get_map numbered (function_places ds) f

  pub unplaced : (f : ℕ) → None ≡ slice_get functions f → slice_get (function_places ds) f ≡ None
  unplaced f e = no_place (slice_get (function_places ds) f) (e ∙ numbered_at f)

  pub placed : (f : ℕ) (one : FunctionPlace) → Some one ≡ slice_get functions f → IsPlaced ds f one
  placed f one e = some_place ds f one (slice_get (function_places ds) f) refl (e ∙ numbered_at f)

pub undeclared : (ds es : Decls) (f : ℕ) → ds ≡ es
    → None ≡ option_map (λ place. place.decl) (slice_get (function_places ds) f)
    → slice_get (function_places es) f ≡ None
undeclared ds es f same e =
    ap (λ (d : Decls). slice_get (function_places d) f) (sym same) ∙ no_item (slice_get (function_places ds) f) e

pub item_of_place : (ds es : Decls) (f : ℕ) (item : ItemDecl) (place : places.FunctionPlace) → ds ≡ es
    → Some item ≡ option_map (λ place. place.decl) (slice_get (function_places ds) f)
    → slice_get (function_places es) f ≡ Some place → item ≡ place.decl
item_of_place ds es f item place same e is =
    some_is item place.decl (e ∙ ap (λ (d : Decls). option_map (λ (p : places.FunctionPlace). p.decl)
    (slice_get (function_places d) f)) same
    ∙ ap (λ (o : Option places.FunctionPlace). option_map (λ (p : places.FunctionPlace). p.decl) o) is)

pub passed_as : (ds es : Decls) (frame : PendingShape) (b : Bool) → ds ≡ es
    → b ≡ are_passed (scope_items ds frame.scope) frame.passed → are_passed
    (scope_items es frame.scope) frame.passed ≡ b
passed_as ds es frame b same is =
    sym (is ∙ ap (λ (d : Decls). are_passed (scope_items d frame.scope) frame.passed) same)
