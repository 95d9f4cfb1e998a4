-- What is known of the function that an instruction calls, and where the call leads.
use Rattle.std.proofs.Common.{◌≡◌, ℕ, ◌+◌, Bool, true, false, List, [], ◌∷◌, length, map, reverse, Some}
use Rattle.std.proofs.Common.{slice_get, sym, ap, ◌∙◌, subst}
use Rattle.std.specs.Prelude.{Ok, Err}
use Rattle.std.specs.Option.{option_map}
use Rattle.cat_value.specs.declared.ty.Ty.{Ty}
use Rattle.cat_value.specs.declared.declaration.ItemDecl.{ItemDecl}
use Rattle.cat_value.specs.declared.decls.Decls.{Decls}
use Rattle.cat_scope.specs.Names.{AllHave}
use Rattle.cat_code.specs.declared.instr.Instr.TheVariants as instr
use Rattle.cat_code.specs.declared.code.Tables.{Tables}
use Rattle.cat_code.specs.Forms.{form_of}
use Rattle.cat_code.specs.Places as places
use Rattle.cat_code.specs.Places.{function_places}
use Rattle.cat_code.specs.Flow.{flow}
use Rattle.cat_verify_tables.specs.declared.places.FunctionPlace.{FunctionPlace}
use Rattle.cat_verify_tables.specs.TableWords.{numbered}
use Rattle.cat_verify_shapes.specs.declared.forms.Forms.{Forms}
use Rattle.cat_verify_shapes.specs.declared.shape.Shape.{Shape}
use Rattle.cat_verify_shapes.specs.declared.leads.Leads.TheVariants as to
use Rattle.cat_verify_shapes.specs.declared.leads.Stuck.TheVariants as stuck
use Rattle.cat_verify_shapes.specs.inside.Senses.{IsLow, Stands}
use Rattle.cat_verify_shapes.specs.inside.Told.{Tells}
use Rattle.cat_verify_shapes.specs.inside.Taking.{StandFor, TakesAll}
use Rattle.cat_verify_shapes.proofs.DeclLemmas.{place_low, place_params}
use Rattle.cat_verify_shapes.proofs.CalledLemmas.{IsPlaced, placed, item_of_place}
use Rattle.cat_verify_shapes.proofs.FunctionSteps.{call_abroad, call_counted, call_unlike, call_so}

-- the place of a function, by what is told of it
pub record IsCallee (ds : Decls) (f : ℕ) (told : FunctionPlace) (item : ItemDecl) : Type 0 where
  pub place : places.FunctionPlace
  pub place_is : slice_get (function_places ds) f ≡ Some place
  pub scope_is : place.scope ≡ told.scope
  pub decl_is : item ≡ place.decl

pub callee : (ds es : Decls) (functions : List FunctionPlace) → functions ≡ map numbered (function_places ds)
    → (f : ℕ) (told : FunctionPlace) (item : ItemDecl) → es ≡ ds → slice_get functions f ≡ Some told
    → Some item ≡ option_map (λ place. place.decl) (slice_get (function_places es) f) → IsCallee ds f told item
callee ds es functions all f told item same at is = by_place (placed ds functions all f told (sym at))
  where
    by_place : IsPlaced ds f told → IsCallee ds f told item
    by_place one = record {
      place = one.place;
      place_is = one.place_is;
      scope_is = ap (λ (p : FunctionPlace). p.scope) one.told_is;
      decl_is = item_of_place es ds f item one.place same is one.place_is;
    }

module _ (ds es : Decls) (f : ℕ) (told : FunctionPlace) (item : ItemDecl) (same : es ≡ ds)
    (is : IsCallee ds f told item) where
  pub callee_low : IsLow es item.ty
  callee_low =
      subst (λ (d : Decls). IsLow d item.ty) (sym same)
      (subst (λ (i : ItemDecl). IsLow ds i.ty) (sym is.decl_is) (place_low ds f is.place is.place_is))

  pub callee_params : (tys : List Ty) → tys ≡ item.params → AllHave (IsLow es) tys
  callee_params tys are =
      subst (AllHave (IsLow es)) (sym are)
      (subst (λ (d : Decls). AllHave (IsLow d) item.params) (sym same)
      (subst (λ (i : ItemDecl). AllHave (IsLow ds) i.params) (sym is.decl_is)
      (place_params ds f is.place is.place_is)))

module _ (tables : Tables) (forms : Forms) (p : ℕ) (s : Shape) (f n entry : ℕ) (told : FunctionPlace)
    (item : ItemDecl) (is : IsCallee tables.decls f told item)
    (at : slice_get tables.functions f ≡ Some entry) where
  pub called_abroad : (told.scope ≡ s.owner.scope → ⊥)
      → Tells tables forms (Err stuck.Bad) (flow tables [] (instr.Call f n) p) s
  called_abroad other =
      call_abroad tables forms p s f n entry is.place is.place_is at (λ e. other (sym is.scope_is ∙ e))

  pub called_counted : (count : ℕ) → count ≡ length item.params → (count ≡ n → ⊥)
      → Tells tables forms (Err stuck.Bad) (flow tables [] (instr.Call f n) p) s
  called_counted count long other =
      call_counted tables forms p s f n entry is.place is.place_is at
      (λ e. other (long ∙ ap (λ (i : ItemDecl). length i.params) is.decl_is ∙ e))

  module _ (home : told.scope ≡ s.owner.scope) (count : ℕ) (long : count ≡ length item.params) (many : count ≡ n)
      (es : Decls) (same : es ≡ tables.decls) (tys : List Ty) (are : tys ≡ item.params) (ns ms : List ℕ)
      (stand : StandFor es forms ns tys) (seen : ms ≡ ns) where
    home_is : is.place.scope ≡ s.owner.scope
    home_is = is.scope_is ∙ home

    count_is : length is.place.decl.params ≡ n
    count_is = ap (λ (i : ItemDecl). length i.params) (sym is.decl_is) ∙ sym long ∙ many

    stand_is : StandFor tables.decls forms ns is.place.decl.params
    stand_is =
        subst (StandFor tables.decls forms ns) (are ∙ ap (λ (i : ItemDecl). i.params) is.decl_is)
        (subst (λ (d : Decls). StandFor d forms ns tys) same stand)

    pub called_unlike : (r : Shape) (so : Bool) → TakesAll s r (reverse ms) so → so ≡ false
        → Tells tables forms (Err stuck.Bad) (flow tables [] (instr.Call f n) p) s
    called_unlike r so takes off =
        call_unlike tables forms p s r f n entry is.place ns is.place_is at home_is count_is stand_is
        (subst (λ (b : Bool). TakesAll s r (reverse ns) b) off
        (subst (λ (l : List ℕ). TakesAll s r (reverse l) so) seen takes))

    pub called_so : (r inner : Shape) (m : ℕ) (operands : List ℕ) (filled flags : List Bool) (so : Bool)
        → TakesAll s r (reverse ms) so → so ≡ true → Stands es forms m (form_of es item.ty)
        → operands ≡ m ∷ r.operands → filled ≡ flags → flags ≡ r.filled
        → inner ≡ record {
          owner = record { scope = told.scope; function = Some f };
          operands = [];
          locals = ns;
          filled = filled;
          defaults = [];
          loops = [];
          pending = [];
        }
        → Tells tables forms (Ok (to.Two (p + 1) (record r { operands = operands }) entry inner))
        (flow tables [] (instr.Call f n) p) s
    called_so r inner m operands filled flags so takes on stands more copy of_r inner_is =
        call_so tables forms p s r inner f n entry m is.place ns operands filled is.place_is at home_is count_is
        stand_is
        (subst (λ (b : Bool). TakesAll s r (reverse ns) b) on
        (subst (λ (l : List ℕ). TakesAll s r (reverse l) so) seen takes))
        (subst (λ (i : ItemDecl). Stands tables.decls forms m (form_of tables.decls i.ty)) is.decl_is
        (subst (λ (d : Decls). Stands d forms m (form_of d item.ty)) same stands))
        more (copy ∙ of_r)
        (inner_is ∙ ap (λ (k : ℕ). entered_at k) (sym is.scope_is))
      where
        entered_at : ℕ → Shape
        entered_at k = record {
          owner = record { scope = k; function = Some f };
          operands = [];
          locals = ns;
          filled = filled;
          defaults = [];
          loops = [];
          pending = [];
        }
