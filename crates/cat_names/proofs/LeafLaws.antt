-- Literals, names, cases, fields and outputs have their types.
use Rattle.std.specs.Prelude.{option_and_then}
use Rattle.std.proofs.Common.{◌≡◌, ℕ, zero, suc, IsTrue, List, [], ◌∷◌, Option, Some, None, Ok, slice_get, refl, sym}
use Rattle.std.proofs.Common.{ap, ◌∙◌, subst}
use Rattle.cat_pos.specs.declared.pos.Pos.{Pos}
use Rattle.cat_value.specs.declared.ty.Ty.{Ty}
use Rattle.cat_value.specs.declared.declaration.Field.{Field}
use Rattle.cat_value.specs.declared.declaration.ItemDecl.{ItemDecl}
use Rattle.cat_value.specs.declared.declaration.Kind.{Kind}
use Rattle.cat_value.specs.declared.declaration.Kind.TheVariants as kind
use Rattle.cat_value.specs.declared.decls.Decls.{Decls}
use Rattle.cat_value.specs.Typing.{is_type}
use Rattle.cat_value.specs.Entries.{fields_of, content_of}
use Rattle.cat_value.specs.Laws.{AreSound}
use Rattle.cat_value.proofs.Exported.{is_declared_Boolean, is_declared_Integer, is_declared_Decimal, is_declared_Money}
use Rattle.cat_value.proofs.Exported.{is_declared_Date, is_declared_Duration}
use Rattle.cat_tree.specs.declared.name.Name.{Name}
use Rattle.cat_scope.specs.declared.expr.Literal.{Literal}
use Rattle.cat_scope.specs.declared.expr.Literal.TheVariants as literal
use Rattle.cat_scope.specs.Names.{Names, is_plain, scope_items}
use Rattle.cat_value.specs.Inputs.{outputs_in}
use Rattle.cat_scope.specs.Literals.{literal_type, literal_fits}
use Rattle.cat_scope.specs.Fitting.{field_at, type_in, field_type}
use Rattle.cat_scope.specs.HasType.{HasType}
use Rattle.cat_scope.specs.HasType as typed
use Rattle.cat_scope.proofs.Exported.{placed_Literal, placed_Item, placed_Output, placed_Local, placed_Field}
use Rattle.cat_scope.proofs.Exported.{placed_Case_None}
use Rattle.cat_names.specs.declared.fault.Fault.TheVariants.{NameUnknown, TypeMismatch}
use Rattle.cat_names.specs.declared.typed.Typed.{Typed}
use Rattle.cat_names.specs.declared.typed.Local.{Local}
use Rattle.cat_names.specs.Found.{Found, or_fault}
use Rattle.cat_names.specs.Types.{is_as_expected, structure_of}
use Rattle.cat_names.specs.Lookup.{first_named, innermost, item_named, scope_called, types_of}
use Rattle.cat_names.specs.Naming.{Called, calling, as_called, unbound_scope, called_scope, item_found, bound_or_item}
use Rattle.cat_names.specs.Naming.{name_found, names_in_scope}
use Rattle.cat_names.specs.Operations.{as_expected, literal_of}
use Rattle.cat_names.specs.Forms.{field_among, field_named, field_of, output_named, output_of}
use Rattle.cat_names.specs.Compound.{dotted, case_alone}
use Rattle.cat_names.specs.Parts.{Meaning}
use Rattle.cat_names.specs.TypedMeanings.{OnFound, AreDeclared, HasItsType, IsTyped}
use Rattle.cat_names.proofs.OnFound.{on_then, on_where, on_or}
use Rattle.cat_names.proofs.SameTypes.{structure_is}
use Rattle.cat_names.proofs.Lookups.{part_is, first_is, inner_is}
use Rattle.cat_names.proofs.DeclaredTypes.{item_declared, output_declared, field_declared, enumeration_declared}

pub literal_declared : (ds : Decls) (l : Literal) → IsTrue (is_type ds (literal_type l))
literal_declared ds (literal.Boolean b) = is_declared_Boolean ds.structures ds.enumerations
literal_declared ds (literal.Integer n) = is_declared_Integer ds.structures ds.enumerations
literal_declared ds (literal.Decimal d) = is_declared_Decimal ds.structures ds.enumerations
literal_declared ds (literal.Money c) = is_declared_Money ds.structures ds.enumerations
literal_declared ds (literal.Date d) = is_declared_Date ds.structures ds.enumerations
literal_declared ds (literal.Duration s) = is_declared_Duration ds.structures ds.enumerations

-- bound names have declared types, each at its number
local_declared : (ds : Decls) (ls : List Local) (k : ℕ) (t : Ty) → AreDeclared ds ls → slice_get (types_of ls) k ≡ Some
    t
    → IsTrue (is_type ds t)
local_declared ds [] k t all h = cc h
local_declared ds (l ∷ ls) zero t all h = let is : l.ty ≡ t = cc h in subst (λ u. IsTrue (is_type ds u)) is all.0
local_declared ds (l ∷ ls) (suc k) t all h = local_declared ds ls k t all.1 h

-- the field of a name has its number and its type
pub field_named_is : (ds : Decls) (n : ℕ) (w : List ℕ) (f : ℕ × Ty) → field_named ds n w ≡ Some f
    → field_type ds n f.0 ≡ Some f.1
field_named_is ds n w f h = by (fields_of ds n) h
  where
    by : (fields : Option (List Field)) → option_and_then (field_among w) fields ≡ Some f
        → type_in (field_at fields f.0) ≡ Some f.1
    by None g = cc g
    by (Some fields) g =
        let found = part_is (λ (x : Field). x.ty) (first_named (λ x. x.name) w fields) f g in
        let at = first_is (λ x. x.name) w fields (f.0, found.0) found.1 in
        ap type_in at ∙ ap (λ t. Some t) (sym found.2)

module _ (ds : Decls) (sound : AreSound ds) (scope : ℕ) (ls : List Local) (ex : Option Ty) where
  abbrev ns : Names
  ns = names_in_scope ds scope

  abbrev Has : Typed → Type 0
  Has = HasItsType ns ls ex

  pub on_as_expected : (found : Found Typed) → OnFound Has found → OnFound (IsTyped ns ls ex) (as_expected ex found)
  on_as_expected found h = on_then Has (IsTyped ns ls ex) found _ h
      (λ x has. on_where (IsTyped ns ls ex) (is_as_expected ex x.ty) _ (Ok x) (λ fit. record { has = has; fit = fit }))

  pub literal_has : (p : Pos) (l : Literal) → OnFound Has (literal_of p l)
  literal_has p l = on_where Has (literal_fits l) _ _ (λ within. record {
    typed = typed.literal within;
    placed = rw (placed_Literal p l) refl;
    declared = literal_declared ds l;
  })

  pub name_has : AreDeclared ds ls → (w : Name) → OnFound Has (name_found ns w ls)
  name_has all w = by (innermost w.text ls) refl
    where
      item : (found : Option (ℕ × ItemDecl)) → item_named w.text ns.items ≡ found → OnFound Has (item_found w.pos found)
      item None e = tt
      item (Some i) e = let at = first_is (λ x. x.name) w.text ns.items i e in
          on_where Has (is_plain i.1) _ _ (λ plain. record {
            typed = typed.item (i.1, at, plain, refl);
            placed = rw (placed_Item w.pos i.0) refl;
            declared = item_declared ds sound scope i.0 i.1 at;
          })

      by : (found : Option (ℕ × Ty)) → innermost w.text ls ≡ found → OnFound Has (bound_or_item ns w found)
      by (Some l) e = let at = inner_is w.text ls l e in record {
        typed = typed.local at;
        placed = rw (placed_Local w.pos l.0) refl;
        declared = local_declared ds ls l.0 l.1 all at;
      }
      by None e = item (item_named w.text ns.items) refl

  pub alone_has : (p : Pos) (k : ℕ × ℕ) → OnFound Has (case_alone p k (content_of ds k.0 k.1))
  alone_has p k = by (content_of ds k.0 k.1) refl
    where
      by : (content : Option (Option Ty)) → content_of ds k.0 k.1 ≡ content → OnFound Has (case_alone p k content)
      by (Some None) e = record {
        typed = typed.case_alone e;
        placed = rw (placed_Case_None p k.0 k.1) refl;
        declared = enumeration_declared ds k.0 k.1 None e;
      }
      by (Some (Some t)) e = tt
      by None e = tt

  -- an item that calls a scope
  abbrev IsCalled : Called → Type 0
  IsCalled called = (i : ItemDecl) × (slice_get ns.items called.item ≡ Some i) × (i.kind ≡ kind.Called called.scope)

  called_is : (base : Option Name) (called : Called) → called_scope ns base ls ≡ Some called → IsCalled called
  called_is None called h = cc h
  called_is (Some t) called h = by (innermost t.text ls) h
    where
      kind_is : (k : Kind) (p : Pos) (item : ℕ) (c : Called) → calling p item (scope_called k) ≡ Some c
          → (item ≡ c.item) × (k ≡ kind.Called c.scope)
      kind_is (kind.Called s) p item c h = let is : record { first = p; item = item; scope = s } ≡ c = cc h in
          (ap (λ (x : Called). x.item) is, ap (λ (x : Called). kind.Called x.scope) is)
      kind_is _ p item c h = cc h

      item : (found : Option (ℕ × ItemDecl)) → item_named t.text ns.items ≡ found → as_called t.pos found ≡ Some called
          → IsCalled called
      item None e g = cc g
      item (Some i) e g = let is = kind_is i.1.kind t.pos i.0 called g in
          (i.1, subst (λ k. slice_get ns.items k ≡ Some i.1) is.0 (first_is (λ x. x.name) t.text ns.items i e), is.1)

      by : (found : Option (ℕ × Ty)) → unbound_scope ns t found ≡ Some called → IsCalled called
      by (Some l) g = cc g
      by None g = item (item_named t.text ns.items) refl g

  output_has : (w : Name) (called : Called) → IsCalled called → OnFound Has (output_of ns w called)
  output_has w called is =
      on_then (λ o. output_named ds called.scope w.text ≡ Some o) Has
      (or_fault (NameUnknown w.pos) (output_named ds called.scope w.text)) _
      (on_or (NameUnknown w.pos) (output_named ds called.scope w.text))
      (λ o h. let found = part_is (λ (i : ItemDecl). i.ty)
      (item_named w.text (outputs_in (scope_items ds called.scope))) o h in
      let at = first_is (λ i. i.name) w.text (outputs_in (scope_items ds called.scope)) (o.0, found.0) found.1 in
      record {
        typed = typed.output (record {
          called = is.0;
          scope = called.scope;
          output = found.0;
          called_is = is.1;
          kind_is = is.2;
          output_is = at;
          ty_is = found.2;
        });
        placed = rw (placed_Output called.first called.item o.0) refl;
        declared = subst (λ t. IsTrue (is_type ds t)) (sym found.2)
            (output_declared ds sound called.scope o.0 found.0 at);
      })

  field_has : (w : Name) (e : Typed) → IsTyped ns ls None e → OnFound Has (field_of ns w e)
  field_has w e h =
      on_then (λ n. structure_of e.ty ≡ Some n) Has (or_fault (TypeMismatch e.first) (structure_of e.ty)) _
      (on_or (TypeMismatch e.first) (structure_of e.ty))
      (λ n is. on_then (λ f. field_named ds n w.text ≡ Some f) Has
      (or_fault (NameUnknown w.pos) (field_named ds n w.text)) _
      (on_or (NameUnknown w.pos) (field_named ds n w.text))
      (λ f at. record {
        typed = typed.field n (subst (λ t. HasType ns (types_of ls) e.expr t) (structure_is e.ty n is) h.has.typed)
            (field_named_is ds n w.text f at);
        placed = rw (placed_Field e.first e.expr f.0) h.has.placed;
        declared = field_declared ds sound n f.0 f.1 (field_named_is ds n w.text f at);
      }))

  pub dotted_has : (w : Name) (e : Meaning) → OnFound (IsTyped ns ls None) (e ls None) → (base : Option Name)
      → OnFound Has (dotted ns w e ls (called_scope ns base ls))
  dotted_has w e h base = by (called_scope ns base ls) refl
    where
      by : (o : Option Called) → called_scope ns base ls ≡ o → OnFound Has (dotted ns w e ls o)
      by (Some called) is = output_has w called (called_is base called is)
      by None is = on_then (IsTyped ns ls None) Has (e ls None) _ h (λ x hx. field_has w x hx)
