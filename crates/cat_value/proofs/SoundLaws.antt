-- What the invariant of the declarations says, each fact for itself.
use Rattle.std.proofs.Common.{◌≡◌, ◌↔◌, ℕ, length, Bool, IsTrue, Option, None, List, Some, slice_get, arith, refl, sym}
use Rattle.std.proofs.Common.{true≢false, ◌<◌}
use Rattle.std.specs.List.{list_all}
use Rattle.cat_pos.specs.declared.limits.TheConstants.{ENTRIES_BOUND}
use Rattle.cat_value.specs.declared.ty.Ty.{Ty}
use Rattle.cat_value.specs.declared.ty.Ty.TheOpen.{Ty-F}
use Rattle.cat_value.specs.declared.ty.Ty.TheVariants as flat_ty
use Rattle.cat_value.specs.declared.ty.Ty.TheViews as ty
use Rattle.cat_value.specs.declared.declaration.Structure.{Structure}
use Rattle.cat_value.specs.declared.declaration.Enumeration.{Enumeration}
use Rattle.cat_value.specs.declared.declaration.Kind.{Kind}
use Rattle.cat_value.specs.declared.declaration.Kind.TheVariants.{Called}
use Rattle.cat_value.specs.declared.declaration.ItemDecl.{ItemDecl}
use Rattle.cat_value.specs.declared.declaration.Scope.{Scope}
use Rattle.cat_value.specs.declared.decls.Decls.{Decls}
use Rattle.cat_value.specs.Declarations.{are_sound, is_sound, is_boolean, kind_is_sound, item_is_sound, scope_is_sound}
use Rattle.cat_value.specs.Declarations.{field_is_sound}
use Rattle.std.specs.Option.{is_some}
use Rattle.cat_order.specs.Order.{IsOrder}
use Rattle.cat_order.specs.Computed.{order_of}
use Rattle.cat_order.specs.Cycle.{IsOnCycle}
use Rattle.cat_order.specs.Cause.{HasNoOrder}
use Rattle.cat_value.specs.Dependencies.{type_dependencies, are_ordered}
use Rattle.cat_value.specs.Laws.{IsStructure, IsEnumeration, IsItem, AreSound}
use Rattle.cat_value.proofs.Descending.{list_all_at, structure_sound, enumeration_sound, fields_declared, has_cases}
use Rattle.cat_value.proofs.Descending.{content_declared, structure_low, enumeration_low, within}
use Rattle.cat_value.proofs.Inversions.{whole}

scopes_sound : (ss : List Structure) (es : List Enumeration) (scopes : List Scope) → IsTrue (are_sound ss es scopes)
    → IsTrue (list_all (scope_is_sound ss es (length scopes)) scopes)
unfolding are_sound
scopes_sound ss es scopes h = grind arith

all_counted : (ss : List Structure) (es : List Enumeration) (scopes : List Scope) → IsTrue (are_sound ss es scopes)
    → (length ss < ENTRIES_BOUND) × (length es < ENTRIES_BOUND) × (length scopes < ENTRIES_BOUND)
unfolding are_sound
all_counted ss es scopes h = (grind arith, grind arith, grind arith)

scope_sound : (ds : Decls) (n : ℕ) (scope : Scope) → slice_get ds.scopes n ≡ Some scope
    → IsTrue (scope_is_sound ds.structures ds.enumerations (length ds.scopes) scope)
scope_sound ds n scope e =
    list_all_at _ ds.scopes n scope (scopes_sound ds.structures ds.enumerations ds.scopes ds.sound) e

item_sound : (ds : Decls) (n k : ℕ) (scope : Scope) (item : ItemDecl) → slice_get ds.scopes n ≡ Some scope
    → slice_get scope.items k ≡ Some item
    → IsTrue (item_is_sound ds.structures ds.enumerations (length ds.scopes) item)
item_sound ds n k scope item e f =
    let s = scope_sound ds n scope e in
    let items : IsTrue (list_all (item_is_sound ds.structures ds.enumerations (length ds.scopes)) scope.items) =
    grind arith in
    list_all_at _ scope.items k item items f

boolean_is : (t : Ty) → IsTrue (is_boolean (ty.out-Ty t)) → t ≡ flat_ty.Boolean
boolean_is t h = by (ty.out-Ty t) refl h
  where
    by : (y : Ty-F Ty) → ty.out-Ty t ≡ y → IsTrue (is_boolean y) → t ≡ flat_ty.Boolean
    by Ty-F.Boolean q g = whole t Ty-F.Boolean flat_ty.Boolean q ty.rolls-Boolean
    by _ q g = absurd (true≢false (sym g))

called_sound : (count : ℕ) (t : Ty) (condition : Bool) (kind : Kind) (scope : ℕ)
    → IsTrue (kind_is_sound count t condition kind) → kind ≡ Called scope
    → IsTrue (kind_is_sound count t condition (Called scope))
called_sound count t condition kind scope h e = rw e at h

structure_is : (ds : Decls) (n : ℕ) (s : Structure) → slice_get ds.structures n ≡ Some s → IsStructure ds n s
structure_is ds n s e = record {
  has_field = let h = structure_sound ds n s e in grind arith;
  counted = let h = structure_sound ds n s e in grind arith;
  declared = λ k f g. list_all_at (field_is_sound ds.structures ds.enumerations) s.fields k f (fields_declared ds n s e)
      g;
  low = structure_low ds n (within ds.structures n s e);
}

enumeration_is : (ds : Decls) (n : ℕ) (d : Enumeration) → slice_get ds.enumerations n ≡ Some d → IsEnumeration ds n d
enumeration_is ds n d e = record {
  has_case = has_cases ds n d e;
  counted = let h = enumeration_sound ds n d e in grind arith;
  declared = λ k c t f g. content_declared ds n k d c t e f g;
  low = enumeration_low ds n (within ds.enumerations n d e);
}

item_is : (ds : Decls) (item : ItemDecl) → IsTrue (item_is_sound ds.structures ds.enumerations (length ds.scopes) item)
    → IsItem ds item
item_is ds item h =
    let kind : IsTrue (kind_is_sound (length ds.scopes) item.ty item.condition item.kind) = grind arith in
    let params : IsTrue (list_all (is_sound ds.structures ds.enumerations) item.params) = grind arith in
    record {
      declared = grind arith;
      low = grind arith;
      params_declared = λ k t e. let p = list_all_at _ item.params k t params e in grind arith;
      params_low = λ k t e. let p = list_all_at _ item.params k t params e in grind arith;
      called = λ scope e. let c = called_sound _ _ _ _ scope kind e in grind arith;
      called_boolean = λ scope e. let c = called_sound _ _ _ _ scope kind e in boolean_is item.ty (grind arith);
      called_plain = λ scope e. let c = called_sound _ _ _ _ scope kind e in grind arith;
    }

counted : (ds : Decls) → (length ds.structures < ENTRIES_BOUND) × (length ds.enumerations < ENTRIES_BOUND)
    × (length ds.scopes < ENTRIES_BOUND)
counted ds = all_counted ds.structures ds.enumerations ds.scopes ds.sound

types_ordered : (ss : List Structure) (es : List Enumeration) (scopes : List Scope) → IsTrue (are_sound ss es scopes)
    → IsTrue (are_ordered ss es)
unfolding are_sound
types_ordered ss es scopes h = grind arith

some_is : {A : Type 0} (o : Option A) → IsTrue (is_some o) → (x : A) × (o ≡ Some x)
some_is None h = absurd (true≢false (sym h))
some_is (Some x) h = (x, refl)

-- the laws of orders on which the invariant rests
abbrev IsComputed : Type 0
IsComputed = (deps : List (List ℕ)) (listed : List ℕ) → (order_of deps ≡ Some listed) ↔ IsOrder deps listed

abbrev CyclesLeaveNone : Type 0
CyclesLeaveNone = (deps : List (List ℕ)) (item : ℕ) → IsOnCycle deps item → HasNoOrder deps

order_there : IsComputed → (ss : List Structure) (es : List Enumeration) → IsTrue (are_ordered ss es)
    → (listed : List ℕ) × IsOrder (type_dependencies ss es) listed
unfolding are_ordered
order_there computed ss es h = let o = some_is (order_of (type_dependencies ss es)) h in
    (o.0, (computed (type_dependencies ss es) o.0).0 o.1)

pub sound_is : IsComputed → CyclesLeaveNone → (ds : Decls) → AreSound ds
sound_is computed none ds =
    let order = order_there computed ds.structures ds.enumerations
    (types_ordered ds.structures ds.enumerations ds.scopes ds.sound) in
    record {
      ordered = order;
      acyclic = λ n on. none (type_dependencies ds.structures ds.enumerations) n on order.0 order.1;
      structures = structure_is ds;
      enumerations = enumeration_is ds;
      structures_counted = (counted ds).0;
      enumerations_counted = (counted ds).1;
      scopes_counted = (counted ds).2;
      items_counted = λ n scope e. let h = scope_sound ds n scope e in grind arith;
      items = λ n k scope item e f. item_is ds item (item_sound ds n k scope item e f);
    }
