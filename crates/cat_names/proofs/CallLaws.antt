-- Cases with contents, structures and calls have their types.
use Rattle.std.proofs.Common.{ap, ◌∙◌, ◌≡◌, ◌<◌, ◌&&◌, ℕ, suc, nat_eq, nat_lt, Bool, true, false, IsTrue, is_some, List}
use Rattle.std.proofs.Common.{[], ◌∷◌, length, Option, Some, None, Ok, slice_get, if◌then◌else◌, refl, sym, subst}
use Rattle.std.proofs.Common.{arith, true≢false}
use Rattle.std.specs.Prelude.{option_map, option_and_then}
use Rattle.cat_scope.specs.Fitting.{given_type, numbers_in, are_fields_of, are_call_fields, input_type, field_type}
use Rattle.cat_names.specs.Forms.{given_item, field_named, input_named, output_named}
use Rattle.std.proofs.lemmas.Bool.Decides.{nat_tests}
use Rattle.cat_pos.specs.declared.pos.Pos.{Pos}
use Rattle.cat_value.specs.declared.ty.Ty.{Ty}
use Rattle.cat_value.specs.declared.ty.Ty.TheVariants as flat_ty
use Rattle.cat_value.specs.declared.declaration.Structure.{Structure}
use Rattle.cat_value.specs.declared.declaration.ItemDecl.{ItemDecl}
use Rattle.cat_value.specs.declared.decls.Decls.{Decls}
use Rattle.cat_value.specs.Typing.{is_type}
use Rattle.cat_value.specs.Inputs.{may_be_given, outputs_in}
use Rattle.cat_value.specs.Entries.{some_passes, fields_in, content_of}
use Rattle.cat_value.specs.Laws.{AreSound}
use Rattle.cat_value.proofs.Exported.{is_declared_Structure, within}
use Rattle.cat_tree.specs.declared.name.Name.{Name}
use Rattle.cat_scope.specs.Names.{Names, AllHave, is_function, are_all_in, scope_items}
use Rattle.cat_scope.specs.HasType as typed
use Rattle.cat_scope.proofs.Exported.{placed_Case_Some, placed_Structure, placed_Call, placed_ScopeCall, Each}
use Rattle.cat_names.specs.declared.fault.Fault.TheVariants.{NameUnknown, TypeMismatch}
use Rattle.cat_names.specs.declared.typed.Typed.{Typed}
use Rattle.cat_names.specs.declared.typed.Local.{Local}
use Rattle.cat_names.specs.Found.{faulty, and_then, or_fault}
use Rattle.cat_names.specs.Lookup.{innermost, item_named}
use Rattle.cat_names.specs.Naming.{called_item, unbound_function, function_found, names_in_scope}
use Rattle.cat_names.specs.Parts.{Meaning, arguments_of, call_of, values_of}
use Rattle.cat_names.specs.Compound.{content_of_type, structure_of_fields, scope_call_of}
use Rattle.cat_names.specs.TypedMeanings.{OnFound, AreDeclared, HasItsType, IsTyped}
use Rattle.cat_names.proofs.OnFound.{on_then, on_both, on_both_where, on_where, on_or, on_any}
use Rattle.cat_names.proofs.Lookups.{part_is, first_is}
use Rattle.cat_names.proofs.DeclaredTypes.{item_declared, param_declared, output_declared, field_declared}
use Rattle.cat_names.proofs.DeclaredTypes.{content_declared, enumeration_declared}
use Rattle.cat_names.proofs.LeafLaws.{field_named_is}
use Rattle.cat_names.proofs.PartLaws.{Sound, of_type, ArgumentsStand, arguments_stand, ValuesStand, values_stand}

pub equal_numbers : (a b : ℕ) → IsTrue (nat_eq a b) → a ≡ b
equal_numbers a b h = grind (arith, h)

below : (a b : ℕ) → a < b → IsTrue (nat_lt a b)
below a b h = grind (arith, nat_tests)

-- what holds at each number holds of all
pub each_all : {A : Type 0} (P : A → Type 0) (xs : List A) → ((k : ℕ) (x : A) → slice_get xs k ≡ Some x → P x)
    → AllHave P xs
each_all P [] each = tt
each_all P (x ∷ xs) each = (each 0 x refl, each_all P xs (λ k y e. each (suc k) y e))

-- a structure with fields is declared
structure_declared : (ds : Decls) (n : ℕ) (ks : List ℕ) → IsTrue (are_fields_of ds n ks)
    → IsTrue (is_type ds (flat_ty.Structure n))
structure_declared ds n ks h =
    rw (is_declared_Structure ds.structures ds.enumerations n) (by (slice_get ds.structures n) refl h)
  where
    by : (o : Option Structure) → slice_get ds.structures n ≡ o
        → IsTrue (some_passes (λ fields. nat_eq (length ks) (length fields) && are_all_in (length fields) ks)
        (fields_in o))
        → IsTrue (nat_lt n (length ds.structures))
    by None e g = absurd (true≢false (sym g))
    by (Some s) e g = below n (length ds.structures) (within ds.structures n s e)

-- an input or a context of a name has its number and its type
given_is : (ds : Decls) (s : ℕ) (w : List ℕ) (k : ℕ × Ty) → input_named ds s w ≡ Some k
    → (i : ItemDecl) × (slice_get (scope_items ds s) k.0 ≡ Some i) × (given_type (Some i) ≡ Some k.1)
given_is ds s w k h = by (item_named w (scope_items ds s)) refl h
  where
    Is : ℕ × Ty → Type 0
    Is m = (i : ItemDecl) × (slice_get (scope_items ds s) m.0 ≡ Some i) × (given_type (Some i) ≡ Some m.1)

    at : (i : ℕ × ItemDecl) → slice_get (scope_items ds s) i.0 ≡ Some i.1 → (o : Option Ty) → given_type (Some i.1) ≡ o
        → option_map (λ t. (i.0, t)) o ≡ Some k → Is k
    at i e None g r = cc r
    at i e (Some t) g r = let is : (i.0, t) ≡ k = cc r in subst Is is (i.1, e, g)

    by : (found : Option (ℕ × ItemDecl)) → item_named w (scope_items ds s) ≡ found
        → option_and_then given_item found ≡ Some k → Is k
    by None e g = cc g
    by (Some i) e g = at i (first_is (λ x. x.name) w (scope_items ds s) i e) (given_type (Some i.1)) refl g

input_named_is : (ds : Decls) (s : ℕ) (w : List ℕ) (k : ℕ × Ty) → input_named ds s w ≡ Some k
    → input_type ds s k.0 ≡ Some k.1
input_named_is ds s w k h = let is = given_is ds s w k h in ap given_type is.1 ∙ is.2

input_declared : (ds : Decls) → AreSound ds → (s : ℕ) (w : List ℕ) (k : ℕ × Ty) → input_named ds s w ≡ Some k
    → IsTrue (is_type ds k.1)
input_declared ds sound s w k h = let is = given_is ds s w k h in
    by is.0.ty (may_be_given is.0.kind) is.2 (item_declared ds sound s k.0 is.0 is.1)
  where
    by : (t : Ty) (b : Bool) → (if b then Some t else None) ≡ Some k.1 → IsTrue (is_type ds t) → IsTrue (is_type ds k.1)
    by t true g is = let same : t ≡ k.1 = cc g in subst (λ u. IsTrue (is_type ds u)) same is
    by t false g is = cc g

module _ (ds : Decls) (sound : AreSound ds) (scope : ℕ) (ls : List Local) (ex : Option Ty) where
  abbrev ns : Names
  ns = names_in_scope ds scope

  abbrev Has : Typed → Type 0
  Has = HasItsType ns ls ex

  pub content_has : (p : Pos) (k : ℕ × ℕ) (e : Meaning) → Sound ds sound scope e → AreDeclared ds ls
      → OnFound Has (content_of_type p k e ls (content_of ds k.0 k.1))
  content_has p k e he all = by (content_of ds k.0 k.1) refl
    where
      none : OnFound Has (and_then (e ls None) (λ x. faulty (TypeMismatch p)))
      none = on_then (λ x. Unit {0}) Has (e ls None) _ (on_any (e ls None)) (λ x h. tt)

      by : (content : Option (Option Ty)) → content_of ds k.0 k.1 ≡ content
          → OnFound Has (content_of_type p k e ls content)
      by (Some (Some t)) is = on_then (IsTyped ns ls (Some t)) Has (e ls (Some t)) _
          (he ls (Some t) all (content_declared ds sound k.0 k.1 t is))
          (λ x hx. record {
            typed = typed.case_with t is (of_type ds sound scope ls t x hx);
            placed = rw (placed_Case_Some p k.0 k.1 x.expr) hx.has.placed;
            declared = enumeration_declared ds k.0 k.1 (Some t) is;
          })
      by (Some None) is = none
      by None is = none

  pub structure_has : {A : Type 0} (means : A → Name × Meaning) (u : Name) (fs : List A)
      → Each (λ f. Sound ds sound scope ((means f).1)) fs → AreDeclared ds ls → (n : ℕ)
      → OnFound Has (structure_of_fields means ns u fs ls n)
  structure_has means u fs each all n =
      on_then (ValuesStand ds sound scope ls (field_type ds n)) Has (values_of means (field_named ds n) fs ls) _
      (values_stand ds sound scope means (field_named ds n) (field_type ds n) (field_named_is ds n)
      (λ w k e. field_declared ds sound n k.0 k.1 (field_named_is ds n w k e)) fs each ls all)
      (λ values h. on_where Has (are_fields_of ds n (numbers_in values)) _ _ (λ whole. record {
        typed = typed.structure h.typed whole;
        placed = rw (placed_Structure u.pos n values (is_some ex)) h.placed;
        declared = structure_declared ds n (numbers_in values) whole;
      }))

  pub scope_call_has : {A : Type 0} (means : A → Name × Meaning) (p : Pos) (u : Name) (fs : List A) (w : Name)
      → Each (λ f. Sound ds sound scope ((means f).1)) fs → AreDeclared ds ls → (s : ℕ)
      → OnFound Has (scope_call_of means ns p u fs w ls s)
  scope_call_has means p u fs w each all s =
      on_both (ValuesStand ds sound scope ls (input_type ds s)) (λ o. output_named ds s w.text ≡ Some o) Has
      (values_of means (input_named ds s) fs ls) (or_fault (NameUnknown w.pos) (output_named ds s w.text)) _
      (values_stand ds sound scope means (input_named ds s) (input_type ds s) (input_named_is ds s)
      (input_declared ds sound s) fs each ls all)
      (on_or (NameUnknown w.pos) (output_named ds s w.text))
      (λ values o h is. on_where Has (are_call_fields ds s (numbers_in values)) _ _ (λ whole.
      let found = part_is (λ i. i.ty) (item_named w.text (outputs_in (scope_items ds s))) o is in
      let at = first_is (λ i. i.name) w.text (outputs_in (scope_items ds s)) (o.0, found.0) found.1 in record {
        typed = typed.scope_call h.typed whole (found.0, at, found.2);
        placed = rw (placed_ScopeCall p s values o.0 (is_some ex)) h.placed;
        declared = subst (λ t. IsTrue (is_type ds t)) (sym found.2) (output_declared ds sound s o.0 found.0 at);
      }))

  -- a function that is found
  record IsCallee (f : ℕ × ItemDecl) : Type 0 where
    item : slice_get ns.items f.0 ≡ Some f.1
    function : IsTrue (is_function f.1)

  function_there : (w : Name) → OnFound IsCallee (function_found ns w ls)
  function_there w = by (innermost w.text ls)
    where
      item : (found : Option (ℕ × ItemDecl)) → item_named w.text ns.items ≡ found
          → OnFound IsCallee (called_item w.pos found)
      item None e = tt
      item (Some i) e = on_where IsCallee (is_function i.1) _ (Ok i) (λ function. record {
        item = first_is (λ x. x.name) w.text ns.items i e;
        function = function;
      })

      by : (found : Option (ℕ × Ty)) → OnFound IsCallee (unbound_function ns w found)
      by (Some l) = tt
      by None = item (item_named w.text ns.items) refl

  pub call_has : {A : Type 0} (means : A → Meaning) (w : Name) (args : List A)
      → Each (λ a. Sound ds sound scope (means a)) args → AreDeclared ds ls
      → OnFound Has (and_then (function_found ns w ls) (call_of means w args ls))
  call_has means w args each all = on_then IsCallee Has (function_found ns w ls) _ (function_there w)
      (λ f hf. on_both_where (ArgumentsStand ds sound scope means ls f.1.params) Has
      (nat_eq (length args) (length f.1.params)) _ f (arguments_of means args ls f.1.params) _
      (λ as_many. arguments_stand ds sound scope means args each ls f.1.params all
      (each_all (λ t. IsTrue (is_type ds t)) f.1.params (param_declared ds sound scope f.0 f.1 hf.item))
      (equal_numbers (length args) (length f.1.params) as_many))
      (λ as_many xs hxs. record {
        typed = typed.call f.1.params
            (record {
              decl = f.1;
              decl_is = hf.item;
              function = hf.function;
              params_are = refl;
              ty_is = refl;
            }) hxs.typed;
        placed = rw (placed_Call w.pos f.0 xs) hxs.placed;
        declared = item_declared ds sound scope f.0 f.1 hf.item;
      }))
