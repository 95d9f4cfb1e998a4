-- What numbers of functions name, and the type of a condition.
use Rattle.std.proofs.Common.{◌≡◌, ℕ, Bool, true, List, map, Option, Some, None, slice_get, refl, sym, ap, ◌∙◌, subst}
use Rattle.std.specs.Prelude.{if◌then◌else◌, Result, Ok, Err, IfOk}
use Rattle.std.specs.Option.{option_map}
use Rattle.cat_value.specs.declared.declaration.ItemDecl.{ItemDecl}
use Rattle.cat_value.specs.declared.decls.Decls.{Decls}
use Rattle.cat_scope.specs.Names.{scope_items}
use Rattle.cat_code.specs.Forms as code
use Rattle.cat_code.specs.Forms.{form_of}
use Rattle.cat_code.specs.Places as places
use Rattle.cat_code.specs.Places.{function_places, held_form}
use Rattle.cat_verify_tables.specs.declared.places.FunctionPlace.{FunctionPlace}
use Rattle.cat_verify_tables.specs.TableWords.{numbered}
use Rattle.cat_verify_shapes.specs.declared.forms.Form.TheVariants as form
use Rattle.cat_verify_shapes.specs.declared.forms.Forms.{Forms}
use Rattle.cat_verify_shapes.specs.inside.Senses.{StandsIn, IsLow}
use Rattle.cat_verify_shapes.proofs.ListLemmas.{none_some, some_is, get_map}
use Rattle.cat_verify_shapes.proofs.DeclLemmas.{place_decl, place_low}
use Rattle.cat_verify_shapes.proofs.TypeForms.{Found}

-- the declaration of a function by its numbers
pub function_decl : (ds : Decls) (functions : List FunctionPlace) (f : ℕ) (place : FunctionPlace)
    → functions ≡ map numbered (function_places ds) → slice_get functions f ≡ Some place
    → slice_get (scope_items ds place.scope) place.item
    ≡ option_map (λ p. p.decl) (slice_get (function_places ds) f)
function_decl ds functions f place all e =
    by_place (slice_get (function_places ds) f) refl
    (sym (get_map numbered (function_places ds) f) ∙ ap (λ (fs : List FunctionPlace). slice_get fs f) (sym all) ∙ e)
  where
    by_place : (o : Option places.FunctionPlace) → slice_get (function_places ds) f ≡ o
        → option_map numbered o ≡ Some place
        → slice_get (scope_items ds place.scope) place.item
        ≡ option_map (λ p. p.decl) (slice_get (function_places ds) f)
    by_place None at h = absurd (none_some place h)
    by_place (Some p) at h =
        subst (λ (q : FunctionPlace). slice_get (scope_items ds q.scope) q.item
        ≡ option_map (λ p. p.decl) (slice_get (function_places ds) f)) (some_is (numbered p) place h)
        (place_decl ds f p at ∙ ap (option_map (λ p. p.decl)) (sym at))

-- a number without a function
pub function_past : (ds : Decls) (functions : List FunctionPlace) (f : ℕ)
    → functions ≡ map numbered (function_places ds) → slice_get functions f ≡ None
    → None ≡ option_map (λ p. p.decl) (slice_get (function_places ds) f)
function_past ds functions f all e =
    by_place (slice_get (function_places ds) f) refl
    (sym (get_map numbered (function_places ds) f) ∙ ap (λ (fs : List FunctionPlace). slice_get fs f) (sym all) ∙ e)
  where
    by_place : (o : Option places.FunctionPlace) → slice_get (function_places ds) f ≡ o → option_map numbered o ≡ None
        → None ≡ option_map (λ p. p.decl) (slice_get (function_places ds) f)
    by_place None at h = ap (option_map (λ p. p.decl)) (sym at)
    by_place (Some p) at h = absurd (none_some (numbered p) (sym h))

pub function_low : (ds : Decls) (f : ℕ) (item : ItemDecl)
    → Some item ≡ option_map (λ p. p.decl) (slice_get (function_places ds) f) → IsLow ds item.ty
function_low ds f item e = by_place (slice_get (function_places ds) f) refl e
  where
    by_place : (o : Option places.FunctionPlace) → slice_get (function_places ds) f ≡ o
        → Some item ≡ option_map (λ p. p.decl) o → IsLow ds item.ty
    by_place None at h = absurd (none_some item (sym h))
    by_place (Some p) at h = subst (λ (i : ItemDecl). IsLow ds i.ty) (some_is p.decl item (sym h)) (place_low ds f p at)

-- the definitions of a condition give a boolean
pub condition_stands : {E : Type 0} (ds : Decls) (forms : Forms) (r : Result ℕ E) (item : ItemDecl)
    → item.condition ≡ true → Found ds forms r form.Truth
    → IfOk r (λ n. StandsIn ds forms (Some n) (held_form ds (Some item)))
condition_stands ds forms (Ok n) item so at = λ d h.
    ap Some (h.means n form.Truth at)
    ∙ sym (ap (λ (b : Bool). Some (if b then code.Truth else form_of ds item.ty)) so)
condition_stands ds forms (Err e) item so at = tt
