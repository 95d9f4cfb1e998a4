-- An input that is read is well typed for its scope.
use Rattle.std.proofs.Common.{◌≡◌, ℕ, zero, suc, ◌<◌, Bool, true, false, IsTrue, List, [], ◌∷◌, length, Option, Some}
use Rattle.std.proofs.Common.{None, Ok, Err, Result, if◌then◌else◌, slice_get, refl, sym, ap, subst, arith, ◌∙◌}
use Rattle.std.specs.List.{list_all}
use Rattle.serde_json.specs.Data.{Data, null, boolean, number, string, array, object, Items, no_items, item, Members}
use Rattle.serde_json.specs.Find.{as_array, as_object}
use Rattle.cat_value.specs.declared.ty.Ty.{Ty}
use Rattle.cat_value.specs.declared.value.Value.{Value}
use Rattle.cat_value.specs.declared.declaration.Structure.{Structure}
use Rattle.cat_value.specs.declared.declaration.Enumeration.{Enumeration}
use Rattle.cat_value.specs.declared.declaration.Kind.{Kind}
use Rattle.cat_value.specs.declared.declaration.Kind.TheVariants.{Input as input, InputOutput, Context, ContextOutput}
use Rattle.cat_value.specs.declared.declaration.Kind.TheVariants.{Output, Internal, Called}
use Rattle.cat_value.specs.declared.declaration.ItemDecl.{ItemDecl}
use Rattle.cat_value.specs.declared.declaration.Scope.{Scope}
use Rattle.cat_value.specs.declared.decls.Decls.{Decls}
use Rattle.cat_value.specs.Declarations.{are_sound, scope_is_sound, item_is_sound}
use Rattle.cat_value.specs.Inputs.{must_be_given, may_be_given, is_given_for, are_given_for, is_input_for, is_input_of}
use Rattle.cat_value.specs.Inputs.{IsWellTyped}
use Rattle.cat_value.specs.Typing.{has_type, is_type}
use Rattle.cat_value.proofs.Exported.{list_all_at, found}
use Rattle.cat_json.specs.declared.refusal.InputRefusal.{InputRefusal}
use Rattle.cat_json.specs.Paths.{Reading}
use Rattle.cat_json.specs.Reads.{Reader, member_in, read_as, data_members}
use Rattle.cat_json.specs.InputsRead.{Input, AreWellTyped, where_there, given_in, variable_in, item_in, items_in}
use Rattle.cat_json.specs.InputsRead.{given_names}
use Rattle.cat_json.specs.InputsRead.{variables_in, input_in, items_of, answered, each_input, read_from, json_of}
use Rattle.cat_json.specs.InputsRead.{array_inputs, input_read, inputs_read}
use Rattle.cat_json.proofs.ScalarsTyped.{made_of-is, with_no_others-is}
use Rattle.cat_json.proofs.ReadTyped.{MembersTyped, ahead-is, member_typed, members_of-typed, read_as-typed, none_typed}

scopes_sound : (ss : List Structure) (es : List Enumeration) (scopes : List Scope) → IsTrue (are_sound ss es scopes)
    → IsTrue (list_all (scope_is_sound ss es (length scopes)) scopes)
unfolding are_sound
scopes_sound ss es scopes h = grind arith

pub items_sound : (ds : Decls) (n : ℕ) (scope : Scope) → slice_get ds.scopes n ≡ Some scope
    → IsTrue (list_all (item_is_sound ds.structures ds.enumerations (length ds.scopes)) scope.items)
items_sound ds n scope e =
    let h = list_all_at _ ds.scopes n scope (scopes_sound ds.structures ds.enumerations ds.scopes ds.sound) e in
    grind arith

-- the type of each item is declared
abbrev pub AreDeclared : Decls → List ItemDecl → Type 0
AreDeclared ds [] = Unit {0}
AreDeclared ds (i ∷ is) = IsTrue (is_type ds i.ty) × AreDeclared ds is

sound-AreDeclared : (ds : Decls) (count : ℕ) (is : List ItemDecl)
    → IsTrue (list_all (item_is_sound ds.structures ds.enumerations count) is) → AreDeclared ds is
sound-AreDeclared ds count [] h = tt
sound-AreDeclared ds count (i ∷ is) h = (grind arith, sound-AreDeclared ds count is (grind arith))

data_members-typed : (ds : Decls) (d : Data) → MembersTyped ds (data_members ds d)
data_members-typed ds null = none_typed ds
data_members-typed ds (boolean b) = none_typed ds
data_members-typed ds (number n) = none_typed ds
data_members-typed ds (string s) = none_typed ds
data_members-typed ds (array items) = none_typed ds
data_members-typed ds (object ms) = members_of-typed ds ms

-- a variable is given
abbrev pub IsGiven : Decls → ItemDecl → Option Value → Type 0
IsGiven ds i given = (v : Value) × (given ≡ Some v) × IsTrue (has_type ds v i.ty)

given_typed : (ds : Decls) (members : List ℕ → Option Reader) (i : ItemDecl) (given : Option Value)
    → MembersTyped ds members → IsTrue (is_type ds i.ty) → given_in members i ≡ Ok given → IsGiven ds i given
given_typed ds members i given typed h e =
    let p = made_of-is Some (member_in members i.name i.ty) given e in
    (p.0, sym p.2, member_typed ds members i.name i.ty p.0 typed h p.1)

must_be : (ds : Decls) (i : ItemDecl) (given : Option Value) → may_be_given i.kind ≡ true → IsGiven ds i given
    → is_given_for ds i given ≡ true
must_be ds i given may h = subst (λ (g : Option Value). is_given_for ds i g ≡ true) (sym h.1) (rw (may, h.2) refl)

may_be : (ds : Decls) (members : List ℕ → Option Reader) (i : ItemDecl) (reader : Option Reader) (given : Option Value)
    → MembersTyped ds members → IsTrue (is_type ds i.ty) → may_be_given i.kind ≡ true → must_be_given i.kind ≡ false
    → where_there reader (given_in members i) ≡ Ok given → is_given_for ds i given ≡ true
may_be ds members i None given typed h may must e =
    let same : None ≡ given = cc in
    subst (λ (g : Option Value). is_given_for ds i g ≡ true) same (rw must refl)
may_be ds members i (Some reader) given typed h may must e =
    must_be ds i given may (given_typed ds members i given typed h e)

nothing : (ds : Decls) (i : ItemDecl) (given : Option Value) → must_be_given i.kind ≡ false → None ≡ given
    → is_given_for ds i given ≡ true
nothing ds i given must same =
    subst (λ (g : Option Value). is_given_for ds i g ≡ true) same (rw must refl)

not_must : (kind : Kind) → may_be_given kind ≡ false → must_be_given kind ≡ false
not_must input e = absurd (cc)
not_must InputOutput e = absurd (cc)
not_must Context e = refl
not_must ContextOutput e = refl
not_must Output e = refl
not_must Internal e = refl
not_must (Called n) e = refl

item_typed : (ds : Decls) (members : List ℕ → Option Reader) (i : ItemDecl) (given : Option Value)
    → MembersTyped ds members → IsTrue (is_type ds i.ty) → item_in members i ≡ Ok given → is_given_for ds i given ≡ true
item_typed ds members i given typed h e = by (may_be_given i.kind) (must_be_given i.kind) refl refl e
  where
    by : (may must : Bool) → may_be_given i.kind ≡ may → must_be_given i.kind ≡ must
        → (if may then variable_in must members i else Ok None) ≡ Ok given → is_given_for ds i given ≡ true
    by false must m n e = let same : None ≡ given = cc in nothing ds i given (not_must i.kind m) same
    by true true m n e = must_be ds i given m (given_typed ds members i given typed h e)
    by true false m n e = may_be ds members i (members i.name) given typed h m n e

items_typed : (ds : Decls) (members : List ℕ → Option Reader) (is : List ItemDecl) (all : Input)
    → MembersTyped ds members → AreDeclared ds is → items_in members is ≡ Ok all → are_given_for ds is all ≡ true
items_typed ds members [] all typed h e = let same : [] ≡ all =
    cc in subst (λ (given : Input). are_given_for ds [] given ≡ true) same refl
items_typed ds members (i ∷ is) all typed h e =
    let p = ahead-is (item_in members i) (items_in members is) all e in
    let first = item_typed ds members i p.0 typed h.0 p.2 in
    let rest = items_typed ds members is p.1 typed h.1 p.3 in
    subst (λ (given : Input). are_given_for ds (i ∷ is) given ≡ true) p.4 (rw (first, rest) refl)

variables_typed : (ds : Decls) (is : List ItemDecl) (d : Data) (ms : Option Members) (all : Input) → AreDeclared ds is
    → variables_in ds is d ms ≡ Ok all → are_given_for ds is all ≡ true
variables_typed ds is d None all h e = absurd (cc)
variables_typed ds is d (Some ms) all h e = items_typed ds (data_members ds d) is all (data_members-typed ds d) h
    (with_no_others-is (given_names is) ms _ all e)

-- an input of a scope
pub input_in-typed : (ds : Decls) (scope : ℕ) (d : Data) (all : Input) → scope < length ds.scopes
    → input_in ds (items_of (slice_get ds.scopes scope)) d ≡ Ok all → IsWellTyped ds scope all
unfolding is_input_of
input_in-typed ds scope d all within e = by (slice_get ds.scopes scope) refl e
  where
    by : (found : Option Scope) → slice_get ds.scopes scope ≡ found → input_in ds (items_of found) d ≡ Ok all
        → is_input_for ds all (slice_get ds.scopes scope) ≡ true
    by None q e = let there = found ds.scopes scope within in absurd (cc there.1)
    by (Some s) q e = rw q
        (variables_typed ds s.items d (as_object d) all
        (sound-AreDeclared ds (length ds.scopes) s.items (items_sound ds scope s q)) e)

answered-is : {A : Type 0} (r : Reading A) (a : A) → answered r ≡ Ok a → r ≡ Ok a
answered-is (Ok b) a e = let same : b ≡ a = cc in ap Ok same
answered-is (Err refusal) a e = absurd (cc)

each_typed : (ds : Decls) (scope : ℕ) (items : Items) (k : ℕ) (all : Input) → scope < length ds.scopes
    → slice_get (each_input ds (items_of (slice_get ds.scopes scope)) items) k ≡ Some (Ok all)
    → IsWellTyped ds scope all
each_typed ds scope no_items k all within e = absurd (cc)
each_typed ds scope (item d items) zero all within e =
    let same : answered (input_in ds (items_of (slice_get ds.scopes scope)) d) ≡ Ok all = cc in
    input_in-typed ds scope d all within (answered-is _ all same)
each_typed ds scope (item d items) (suc k) all within e = each_typed ds scope items k all within e

-- the same, as the calls have it
pub value_typed : (ds : Decls) (d : Data) (t : Ty) (v : Value) → Ok v ≡ read_as ds d t → IsTrue (is_type ds t)
    → IsTrue (has_type ds v t)
value_typed ds d t v e h = read_as-typed ds d t v h (sym e)

pub inputs_typed : (ds : Decls) (scope : ℕ) (items : Items) (all : List (Result Input InputRefusal))
    → scope < length ds.scopes → each_input ds (items_of (slice_get ds.scopes scope)) items ≡ all
    → AreWellTyped ds scope all
unfolding AreWellTyped
inputs_typed ds scope items all within e = λ k input q. each_typed ds scope items k input within
    (ap (λ (r : List (Result Input InputRefusal)). slice_get r k) e ∙ q)

pub input_read-typed : (ds : Decls) (scope : ℕ) (bytes : List ℕ) (all : Input) → scope < length ds.scopes
    → input_read ds scope bytes ≡ Ok all → IsWellTyped ds scope all
input_read-typed ds scope bytes all within e = by (json_of bytes) e
  where
    by : (o : Option Data) → read_from (λ d. answered (input_in ds (items_of (slice_get ds.scopes scope)) d)) o ≡ Ok all
        → IsWellTyped ds scope all
    by None e = absurd (cc)
    by (Some d) e =
        input_in-typed ds scope d all within (answered-is (input_in ds (items_of (slice_get ds.scopes scope)) d) all e)

array_typed : (ds : Decls) (scope : ℕ) (o : Option Items) (all : List (Result Input InputRefusal))
    → scope < length ds.scopes → array_inputs ds (items_of (slice_get ds.scopes scope)) o ≡ Ok all
    → AreWellTyped ds scope all
array_typed ds scope None all within e = absurd (cc)
array_typed ds scope (Some items) all within e =
    let same : each_input ds (items_of (slice_get ds.scopes scope)) items ≡ all = cc in
    inputs_typed ds scope items all within same

pub inputs_read-typed : (ds : Decls) (scope : ℕ) (bytes : List ℕ) (all : List (Result Input InputRefusal))
    → scope < length ds.scopes → inputs_read ds scope bytes ≡ Ok all → AreWellTyped ds scope all
inputs_read-typed ds scope bytes all within e = by (json_of bytes) e
  where
    by : (o : Option Data) → read_from (λ d. array_inputs ds (items_of (slice_get ds.scopes scope)) (as_array d)) o ≡ Ok
        all → AreWellTyped ds scope all
    by None e = absurd (cc)
    by (Some d) e = array_typed ds scope (as_array d) all within e

pub ruleset typed = (value_typed)
