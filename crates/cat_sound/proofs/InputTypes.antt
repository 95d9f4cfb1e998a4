-- The inputs that scope calls and called scopes make are well typed, and what a run gives has the types of its outputs.
use Rattle.std.proofs.Common.{◌≡◌, ℕ, zero, suc, ◌+◌, Bool, true, false, ◌&&◌, ◌||◌, not, IsTrue, List, [], ◌∷◌, Option}
use Rattle.std.proofs.Common.{Some, None, Ok, Err, slice_get, refl, sym, ap, ◌∙◌, subst, arith, true≢false}
use Rattle.std.proofs.Common.{if◌then◌else◌}
use Rattle.std.specs.Prelude.{nat_eq}
use Rattle.cat_pos.specs.declared.pos.Pos.{Pos}
use Rattle.cat_value.specs.declared.outcome.Target.{Target}
use Rattle.cat_value.specs.declared.ty.Ty.{Ty}
use Rattle.cat_value.specs.declared.ty.Ty.TheOpen.{Ty-F}
use Rattle.cat_value.specs.declared.ty.Ty.TheVariants as flat_ty
use Rattle.cat_value.specs.declared.ty.Ty.TheViews as ty
use Rattle.cat_value.specs.declared.value.Value.{Value}
use Rattle.cat_value.specs.declared.value.Value.TheVariants.{Boolean}
use Rattle.cat_value.specs.declared.decls.Decls.{Decls}
use Rattle.cat_value.specs.declared.declaration.Kind.{Kind}
use Rattle.cat_value.specs.declared.declaration.Kind.TheVariants as kind
use Rattle.cat_value.specs.declared.declaration.ItemDecl.{ItemDecl}
use Rattle.cat_value.specs.declared.declaration.Scope.{Scope}
use Rattle.cat_value.specs.Declarations.{is_boolean}
use Rattle.cat_value.specs.Inputs.{must_be_given, may_be_given, is_given_for, are_given_for, outputs_in}
use Rattle.cat_value.proofs.Exported.{whole}
use Rattle.cat_scope.specs.Replies.{Reply, on_one, known}
use Rattle.cat_scope.specs.Runs.{Run, plain, gives, giving}
use Rattle.cat_scope.specs.Names.{Names, AllHave, is_in, inputs_given, items_in, scope_items, has_none, is_called}
use Rattle.cat_scope.specs.Names.{is_function}
use Rattle.cat_scope.specs.Naming.{is_defined}
use Rattle.cat_scope.specs.Fitting.{given_type, input_type}
use Rattle.cat_scope.specs.Judging.{Held, Judged, decided}
use Rattle.cat_scope.specs.Targets.{absent}
use Rattle.cat_scope.specs.Composed.{value_given}
use Rattle.cat_scope.specs.Calls.{Items, Runs, Scoped, items_of, call_entry, call_input, env_of}
use Rattle.cat_scope.specs.ItemValues.{passed, passed_input}
use Rattle.cat_scope.specs.WellFormed.{is_internal, is_placed}
use Rattle.cat_sound.specs.Settled.{IsHeldOf}
use Rattle.cat_sound.specs.Endings.{Allowed, Ended, EndsIn, ResultsIn, IsOf, types_of, AreOutputsOf, field_numbers}
use Rattle.cat_sound.specs.Endings.{IsFieldOf, IsCallable}
use Rattle.cat_sound.proofs.Results.{both, and_both, local_of}
use Rattle.cat_sound.proofs.Endings.{ends_then, ends_giving, ends_in_front}
use Rattle.cat_sound.proofs.FlatTypes.{of-Boolean}
use Rattle.cat_sound.proofs.FormTypes.{same_some, same_number, not_true}
use Rattle.cat_sound.proofs.TargetTypes.{absent-ends}

-- an item is as the rules on kinds and conditions want it
abbrev pub Placed : ItemDecl → Type 0
Placed item = IsTrue (is_placed item)

pub condition_type : (item : ItemDecl) → Placed item → IsTrue item.condition → item.ty ≡ flat_ty.Boolean
condition_type item placed is =
    by (ty.out-Ty item.ty) refl
    (sym (ap (λ b. not b || is_boolean (ty.out-Ty item.ty)) is)
    ∙ (both (has_none item.params || is_internal item.kind) _ placed).1)
  where
    by : (y : Ty-F Ty) → ty.out-Ty item.ty ≡ y → IsTrue (is_boolean y) → item.ty ≡ flat_ty.Boolean
    by Ty-F.Boolean q g = whole item.ty Ty-F.Boolean flat_ty.Boolean q ty.rolls-Boolean
    by _ q g = not_true g

may-must : (k : Kind) → IsTrue (must_be_given k) → IsTrue (may_be_given k)
may-must kind.Input h = refl
may-must kind.InputOutput h = refl
may-must kind.Context h = refl
may-must kind.ContextOutput h = refl
may-must kind.Internal h = not_true h
may-must kind.Output h = not_true h
may-must (kind.Called scope) h = not_true h

-- ---- scope calls

given_none : (k : ℕ) (fs : List (ℕ × Value)) → value_given k fs ≡ None → is_in k (field_numbers fs) ≡ false
given_none k [] h = refl
given_none k (f ∷ fs) h = by (nat_eq k f.0) h (given_none k fs)
  where
    by : (b : Bool) → (if b then Some f.1 else value_given k fs) ≡ None
        → (value_given k fs ≡ None → is_in k (field_numbers fs) ≡ false)
        → (if b then true else is_in k (field_numbers fs)) ≡ false
    by true g rest = absurd (cc)
    by false g rest = rest g

given_field : (ds : Decls) (type_of : ℕ → Option Ty) (k : ℕ) (fs : List (ℕ × Value)) (v : Value)
    → AllHave (IsFieldOf ds type_of) fs → value_given k fs ≡ Some v → (t : Ty) × (type_of k ≡ Some t) × IsOf ds t v
given_field ds type_of k [] v h is = absurd (cc)
given_field ds type_of k (f ∷ fs) v h is = by (nat_eq k f.0) refl is (given_field ds type_of k fs v h.1)
  where
    by : (b : Bool) → nat_eq k f.0 ≡ b → (if b then Some f.1 else value_given k fs) ≡ Some v
        → (value_given k fs ≡ Some v → (t : Ty) × (type_of k ≡ Some t) × IsOf ds t v)
        → (t : Ty) × (type_of k ≡ Some t) × IsOf ds t v
    by true e g rest =
        (h.0.0, ap type_of (same_number k f.0 e) ∙ h.0.1, subst (λ x. IsOf ds h.0.0 x) (same_some f.1 v g) h.0.2)
    by false e g rest = rest g

no_entry : (ds : Decls) (item : ItemDecl) → Placed item → (m c : Bool) → must_be_given item.kind ≡ m
    → item.condition ≡ c → IsTrue (if m && not c then false else true)
    → IsTrue (is_given_for ds item (if m && c then Some (Boolean false) else None))
no_entry ds item placed true true e f g =
    and_both _ _ (may-must item.kind e)
    (subst (λ u. IsOf ds u (Boolean false)) (sym (condition_type item placed f)) (of-Boolean ds false))
no_entry ds item placed true false e f g = not_true g
no_entry ds item placed false c e f g = ap not e

-- what a field may be for an item
abbrev FieldFits : Decls → ItemDecl → Option Value → Type 0
FieldFits ds item o = (v : Value) → o ≡ Some v → IsTrue (may_be_given item.kind) × IsOf ds item.ty v

entry_typed : (ds : Decls) (item : ItemDecl) (o : Option Value) (there : Bool) → Placed item
    → (o ≡ None → there ≡ false) → FieldFits ds item o
    → IsTrue (if must_be_given item.kind && not item.condition then there else true)
    → IsTrue (is_given_for ds item (call_entry item o))
entry_typed ds item (Some v) there placed missing fits g = let is = fits v refl in and_both _ _ is.0 is.1
entry_typed ds item None there placed missing fits g =
    no_entry ds item placed (must_be_given item.kind) item.condition refl refl
    (sym (ap (λ b. if must_be_given item.kind && not item.condition then b else true) (missing refl)) ∙ g)

call_input-typed : (ds : Decls) (n : ℕ) (fs : List (ℕ × Value)) (items : List ItemDecl) → AllHave Placed items
    → ((j : ℕ) (i : ItemDecl) → slice_get items j ≡ Some i → FieldFits ds i (value_given (n + j) fs))
    → IsTrue (inputs_given n items (field_numbers fs)) → IsTrue (are_given_for ds items (call_input n fs items))
call_input-typed ds n fs [] placed fits h = refl
call_input-typed ds n fs (item ∷ items) placed fits h =
    let two = both _ _ h in
    and_both _ _
    (entry_typed ds item (value_given n fs) (is_in n (field_numbers fs)) placed.0 (given_none n fs)
    (subst (λ (m : ℕ). FieldFits ds item (value_given m fs)) (omega arith) (fits 0 item refl)) two.0)
    (call_input-typed ds (n + 1) fs items placed.1
    (λ j i is. subst (λ (m : ℕ). FieldFits ds i (value_given m fs)) (omega arith) (fits (suc j) i is)) two.1)

if_given : (b : Bool) (u t : Ty) → (if b then Some u else None) ≡ Some t → IsTrue b × (u ≡ t)
if_given true u t h = (refl, same_some u t h)
if_given false u t h = absurd (cc)

types-at : (items : List ItemDecl) (k : ℕ) (o : ItemDecl) → slice_get items k ≡ Some o
    → slice_get (types_of items) k ≡ Some o.ty
types-at [] k o is = absurd (cc)
types-at (item ∷ items) zero o is = ap (λ (i : ItemDecl). Some i.ty) (same_some item o is)
types-at (item ∷ items) (suc k) o is = types-at items k o is

-- an output of what a scope gives
pub output-ends : (ds : Decls) (items : List ItemDecl) (outputs : List Value) (k : ℕ) (o : ItemDecl)
    → AreOutputsOf ds items outputs → slice_get (outputs_in items) k ≡ Some o
    → ResultsIn (IsOf ds o.ty) (known (slice_get outputs k))
output-ends ds items outputs k o are is =
    local_of ds (types_of (outputs_in items)) outputs k o.ty are (types-at (outputs_in items) k o is)

-- a scope that is called: a well-typed input of it ends in values of its outputs
pub record Callee (allowed : Allowed) (ds : Decls) (runs : Runs) (s : ℕ) : Type 0 where
  pub scope : Scope
  pub there : slice_get ds.scopes s ≡ Some scope
  pub placed : AllHave Placed scope.items
  pub ends : (input : Items) → IsTrue (are_given_for ds scope.items input)
      → EndsIn allowed (AreOutputsOf ds scope.items) (runs s input)

pub scope_call-ends : (allowed : Allowed)
    → (ns : Names) (scoped : Scoped) (calls : ℕ → List Value → Run Value) (values : Items) (s : ℕ)
    → scoped.scopes ≡ ns.decls.scopes → Callee allowed ns.decls scoped.runs s
    → IsCallable allowed ns (env_of scoped calls values) s
scope_call-ends allowed ns scoped calls values s same callee fs k t typed complete output =
    let here : items_of scoped s ≡ callee.scope.items = ap items_in (ap (λ ss. slice_get ss s) same ∙ callee.there) in
    let items : scope_items ns.decls s ≡ callee.scope.items = ap items_in callee.there in
    let input =
    call_input-typed ns.decls 0 fs callee.scope.items callee.placed (fits callee.scope.items items)
    (subst (λ xs. IsTrue (inputs_given 0 xs (field_numbers fs))) items (both _ _ complete).1) in
    ends_giving allowed (AreOutputsOf ns.decls callee.scope.items) (IsOf ns.decls t)
    (scoped.runs s (call_input 0 fs (items_of scoped s))) (λ outputs. known (slice_get outputs k))
    (subst (λ xs. EndsIn allowed (AreOutputsOf ns.decls callee.scope.items) (scoped.runs s (call_input 0 fs xs)))
    (sym here) (callee.ends (call_input 0 fs callee.scope.items) input))
    (λ outputs are. subst (λ u. ResultsIn (IsOf ns.decls u) (known (slice_get outputs k))) (sym output.2)
    (output-ends ns.decls callee.scope.items outputs k output.0 are
    (sym (ap (λ xs. slice_get (outputs_in xs) k) items) ∙ output.1)))
  where
    fits : (items : List ItemDecl) → scope_items ns.decls s ≡ items → (j : ℕ) (i : ItemDecl)
        → slice_get items j ≡ Some i → FieldFits ns.decls i (value_given (0 + j) fs)
    fits items is j i at v found =
        let field =
        given_field ns.decls (input_type ns.decls s) j fs v typed
        (subst (λ (m : ℕ). value_given m fs ≡ Some v) (omega arith) found) in
        let kind_is =
        if_given (may_be_given i.kind) i.ty field.0
        (sym (ap given_type (ap (λ xs. slice_get xs j) is ∙ at)) ∙ field.1) in
        (kind_is.0, subst (λ u. IsOf ns.decls u v) (sym kind_is.1) field.2)

-- ---- called scopes

passed-ends : (allowed : Allowed)
    → (ds : Decls) (target : Target) (pos : Pos) (decl : ItemDecl) (found : Option (Held Value)) → Placed decl
    → IsTrue (may_be_given decl.kind)
    → IsHeldOf (allowed.may_stop target || (decl.condition || not (must_be_given decl.kind))) ds decl.ty found
    → Ended allowed (λ o. IsTrue (is_given_for ds decl o)) (passed target pos decl found)
passed-ends allowed ds target pos decl None placed may h = by (must_be_given decl.kind) refl h
  where
    no_more : (a b : Bool) → IsTrue (a || (b || false)) → IsTrue (a || b)
    no_more true b h = refl
    no_more false true h = refl
    no_more false false h = h

    as_given : (r : Reply) → Ended allowed (IsOf ds decl.ty) r
        → Ended allowed (λ o. IsTrue (is_given_for ds decl o)) (on_one r (λ v. Ok (Some v)))
    as_given (Ok v) g = and_both _ _ may g
    as_given (Err s) g = g

    by : (b : Bool) → must_be_given decl.kind ≡ b → IsTrue (allowed.may_stop target || (decl.condition || not b))
        → Ended allowed (λ o. IsTrue (is_given_for ds decl o))
        (if b then on_one (absent target pos decl.condition) (λ v. Ok (Some v)) else Ok None)
    by true e g =
        as_given (absent target pos decl.condition)
        (absent-ends allowed ds decl.ty target pos decl.condition (condition_type decl placed)
        (no_more (allowed.may_stop target) decl.condition g))
    by false e g = ap not e
passed-ends allowed ds target pos decl (Some held) placed may h = and_both _ _ may h

pub not_given : (k : Kind) → may_be_given k ≡ false → must_be_given k ≡ false
not_given kind.Input h = absurd (true≢false h)
not_given kind.InputOutput h = absurd (true≢false h)
not_given kind.Context h = refl
not_given kind.ContextOutput h = refl
not_given kind.Internal h = refl
not_given kind.Output h = refl
not_given (kind.Called scope) h = refl

pub passed_input-ends : (allowed : Allowed)
    → (ds : Decls) (judged_at : ℕ → Judged Value) (target_at : ℕ → Target) (pos : Pos) (n : ℕ) (decls : List ItemDecl)
    → AllHave Placed decls
    →
    ((j : ℕ) (i : ItemDecl) → slice_get decls j ≡ Some i → IsTrue (may_be_given i.kind)
    → EndsIn allowed
    (IsHeldOf (allowed.may_stop (target_at (n + j)) || (i.condition || not (must_be_given i.kind))) ds i.ty)
    (decided (target_at (n + j)) (judged_at (n + j))))
    → EndsIn allowed (λ input. IsTrue (are_given_for ds decls input)) (passed_input judged_at target_at pos n decls)
passed_input-ends allowed ds judged_at target_at pos n [] placed each = (tt, refl)
passed_input-ends allowed ds judged_at target_at pos n (decl ∷ decls) placed each =
    ends_in_front allowed (λ o. IsTrue (is_given_for ds decl o)) (λ input. IsTrue (are_given_for ds decls input))
    (λ input. IsTrue (are_given_for ds (decl ∷ decls) input)) _ _
    (by (may_be_given decl.kind) refl)
    (passed_input-ends allowed ds judged_at target_at pos (n + 1) decls placed.1
    (λ j i is may. subst
    (λ (m : ℕ). EndsIn allowed
    (IsHeldOf (allowed.may_stop (target_at m) || (i.condition || not (must_be_given i.kind))) ds i.ty)
    (decided (target_at m) (judged_at m)))
    (omega arith) (each (suc j) i is may)))
    (λ o input ho hi. and_both _ _ ho hi)
  where
    by : (b : Bool) → may_be_given decl.kind ≡ b
        → EndsIn allowed (λ o. IsTrue (is_given_for ds decl o))
        (if b then giving (decided (target_at n) (judged_at n)) (passed (target_at n) pos decl) else gives None)
    by true e =
        ends_then allowed
        (IsHeldOf (allowed.may_stop (target_at n) || (decl.condition || not (must_be_given decl.kind))) ds decl.ty)
        (λ o. IsTrue (is_given_for ds decl o)) (decided (target_at n) (judged_at n))
        (λ found. plain (passed (target_at n) pos decl found))
        (subst
        (λ (m : ℕ). EndsIn allowed
        (IsHeldOf (allowed.may_stop (target_at m) || (decl.condition || not (must_be_given decl.kind))) ds decl.ty)
        (decided (target_at m) (judged_at m)))
        (omega arith) (each 0 decl refl e))
        (λ found is. (tt, passed-ends allowed ds (target_at n) pos decl found placed.0 e is))
    by false e = (tt, ap not (not_given decl.kind e))

-- ---- functions

internal_defined : (k : Kind) → IsTrue (is_internal k) → IsTrue (not (is_called k)) × IsTrue (not (must_be_given k))
internal_defined kind.Internal h = (refl, refl)
internal_defined kind.Input h = not_true h
internal_defined kind.InputOutput h = not_true h
internal_defined kind.Context h = not_true h
internal_defined kind.ContextOutput h = not_true h
internal_defined kind.Output h = not_true h
internal_defined (kind.Called s) h = not_true h

function_internal : (none internal : Bool) → IsTrue (none || internal) → IsTrue (not none) → IsTrue internal
function_internal true internal h g = not_true g
function_internal false internal h g = h

pub function_defined : (i : ItemDecl) → Placed i → IsTrue (is_function i) → IsTrue (is_defined i)
function_defined i placed is =
    let two = both (not (is_called i.kind)) (not (has_none i.params)) is in
    let internal = function_internal (has_none i.params) (is_internal i.kind)
    (both (has_none i.params || is_internal i.kind) _ placed).0 two.1 in
    let free = internal_defined i.kind internal in
    and_both _ _ free.0 free.1
