-- What is written of an input of a scope is read as that input, where names are distinct.
use Rattle.std.proofs.Common.{◌≡◌, ℕ, Bool, true, false, true≢false, IsTrue, List, [], ◌∷◌, Option, Some}
use Rattle.std.proofs.Common.{None}
use Rattle.std.proofs.Common.{Ok, if◌then◌else◌, slice_get, refl, sym, ap, ◌∙◌, arith}
use Rattle.std.specs.Option.{option_map}
use Rattle.serde_json.specs.Data.{Members, no_members, put}
use Rattle.serde_json.specs.Find.{get_member}
use Rattle.serde_json.proofs.Views.{get_member-put, get_member-put_other}
use Rattle.cat_value.specs.declared.value.Value.{Value}
use Rattle.cat_value.specs.declared.declaration.ItemDecl.{ItemDecl}
use Rattle.cat_value.specs.declared.declaration.Scope.{Scope}
use Rattle.cat_value.specs.declared.decls.Decls.{Decls}
use Rattle.cat_value.specs.Inputs.{must_be_given, may_be_given, is_given_for, are_given_for, is_input_for, IsWellTyped}
use Rattle.cat_value.specs.Inputs.{is_input_of}
use Rattle.cat_value.proofs.Exported.{list_all_at}
use Rattle.cat_json.specs.Keys.{is_among, unknown_key}
use Rattle.cat_json.specs.Names.{are_distinct, inputs_are_distinct, names_are_distinct}
use Rattle.cat_json.specs.Reads.{read_as, members_of}
use Rattle.cat_json.specs.InputsRead.{Input, where_there, given_in, variable_in, item_in, items_in, given_names}
use Rattle.cat_json.specs.InputsRead.{input_in}
use Rattle.cat_json.specs.InputsRead.{items_of}
use Rattle.cat_json.proofs.Exported.{members_of-get}
use Rattle.cat_answer.specs.Writes.{data_of, inputs_data, input_data}
use Rattle.cat_answer.proofs.ObjectsBack.{not_among, distinct-first, AreKnown, among_themselves, unknown_key-put}
use Rattle.cat_answer.proofs.ObjectsBack.{AreAbsent, AreAbsent-put, absent_anywhere}
use Rattle.cat_answer.proofs.ValuesBack.{IsReadBack, member_back}

-- the cases of an item and what is given of it
abbrev pub Given : ItemDecl → Option Value → Type 0
Given i None = must_be_given i.kind ≡ false
Given i (Some v) = may_be_given i.kind ≡ true

given_and_typed : (ds : Decls) (i : ItemDecl) (is : List ItemDecl) (given : Option Value) (input : Input)
    → IsTrue (are_given_for ds (i ∷ is) (given ∷ input)) → Given i given × IsTrue (are_given_for ds is input)
given_and_typed ds i is None input h = (grind arith, grind arith)
given_and_typed ds i is (Some v) input h = (grind arith, grind arith)

-- what is found of a name that no item with a value has
inputs_data-other : (ds : Decls) (is : List ItemDecl) (input : Input) (others : Members) (name : List ℕ)
    → IsTrue (are_given_for ds is input) → is_among (given_names is) name ≡ false
    → get_member name (inputs_data ds is input others) ≡ get_member name others
inputs_data-other ds [] input others name h other = refl
inputs_data-other ds (i ∷ is) [] others name h other = refl
inputs_data-other ds (i ∷ is) (None ∷ input) others name h other =
    inputs_data-other ds is input others name (given_and_typed ds i is None input h).1 (by (may_be_given i.kind) other)
  where
    by : (b : Bool) → is_among (if b then i.name ∷ given_names is else given_names is) name ≡ false
        → is_among (given_names is) name ≡ false
    by true e = (not_among i.name (given_names is) name e).1
    by false e = e
inputs_data-other ds (i ∷ is) (Some v ∷ input) others name h other =
    let parts = given_and_typed ds i is (Some v) input h in
    let differ = not_among i.name (given_names is) name (rw parts.0 at other) in
    inputs_data-other ds is input (put i.name (data_of ds v i.ty) others) name parts.1 differ.1
    ∙ get_member-put_other name i.name (data_of ds v i.ty) others differ.0

-- an item with a value
value_read : (ds : Decls) (ms : Members) (i : ItemDecl) (v : Value) → IsReadBack ds v
    → IsTrue (is_given_for ds i (Some v))
    → get_member i.name ms ≡ Some (data_of ds v i.ty) → item_in (members_of ds ms) i ≡ Ok (Some v)
value_read ds ms i v back h found = by (may_be_given i.kind) (must_be_given i.kind) refl
  where
    given : given_in (members_of ds ms) i ≡ Ok (Some v)
    given = rw (member_back ds ms i.name i.ty v found (back i.ty (grind arith))) refl

    by : (may must : Bool) → may_be_given i.kind ≡ may
        → (if may then variable_in must (members_of ds ms) i else Ok None) ≡ Ok (Some v)
    by false must e = let none = rw e at h in absurd (true≢false (sym none))
    by true true e = given
    by true false e =
        let there : members_of ds ms i.name ≡ Some (read_as ds (data_of ds v i.ty)) =
        members_of-get ds ms i.name ∙ ap (option_map (read_as ds)) found in
        ap (λ reader. where_there reader (given_in (members_of ds ms) i)) there ∙ given

-- an item without one
nothing_read : (ds : Decls) (ms : Members) (i : ItemDecl) → must_be_given i.kind ≡ false
    → (may_be_given i.kind ≡ true → get_member i.name ms ≡ None) → item_in (members_of ds ms) i ≡ Ok None
nothing_read ds ms i must absent = rw must (by (may_be_given i.kind) refl)
  where
    by : (may : Bool) → may_be_given i.kind ≡ may
        → (if may then variable_in false (members_of ds ms) i else Ok None) ≡ Ok None
    by false e = refl
    by true e =
        let none : members_of ds ms i.name ≡ None =
        members_of-get ds ms i.name ∙ ap (option_map (read_as ds)) (absent e) in
        ap (λ reader. where_there reader (given_in (members_of ds ms) i)) none

-- the names of the items that follow are distinct, and another than the first where that may be given
names_rest : (i : ItemDecl) (is : List ItemDecl) (others : Members) → IsTrue (are_distinct (given_names (i ∷ is)))
    → AreAbsent others (given_names (i ∷ is))
    → IsTrue (are_distinct (given_names is)) × AreAbsent others (given_names is)
    × (may_be_given i.kind ≡ true → (is_among (given_names is) i.name ≡ false) × (get_member i.name others ≡ None))
names_rest i is others distinct absent = by (may_be_given i.kind) refl distinct absent
  where
    by : (b : Bool) → may_be_given i.kind ≡ b
        → IsTrue (are_distinct (if b then i.name ∷ given_names is else given_names is))
        → AreAbsent others (if b then i.name ∷ given_names is else given_names is)
        → IsTrue (are_distinct (given_names is)) × AreAbsent others (given_names is)
        × (may_be_given i.kind ≡ true → (is_among (given_names is) i.name ≡ false)
        × (get_member i.name others ≡ None))
    by true e d a = let rest = distinct-first i.name (given_names is) d in (rest.1, a.1, λ may. (rest.0, a.0))
    by false e d a = (d, a, λ may. absurd (true≢false (sym may ∙ e)))

inputs_back : (ds : Decls) → ((v : Value) → IsReadBack ds v) → (ms : Members) (is : List ItemDecl) (input : Input)
    (others : Members) → inputs_data ds is input others ≡ ms → IsTrue (are_distinct (given_names is))
    → AreAbsent others (given_names is) → IsTrue (are_given_for ds is input)
    → items_in (members_of ds ms) is ≡ Ok input
inputs_back ds back ms [] [] others made distinct absent h = refl
inputs_back ds back ms [] (given ∷ input) others made distinct absent h = absurd (true≢false (sym h))
inputs_back ds back ms (i ∷ is) [] others made distinct absent h = absurd (true≢false (sym h))
inputs_back ds back ms (i ∷ is) (None ∷ input) others made distinct absent h =
    let parts = given_and_typed ds i is None input h in
    let rest = names_rest i is others distinct absent in
    let found = λ (may : may_be_given i.kind ≡ true). ap (get_member i.name) (sym made)
    ∙ inputs_data-other ds is input others i.name parts.1 (rest.2 may).0 ∙ (rest.2 may).1 in
    rw (
      nothing_read ds ms i parts.0 found,
      inputs_back ds back ms is input others made rest.0 rest.1 parts.1,
    ) refl
inputs_back ds back ms (i ∷ is) (Some v ∷ input) others made distinct absent h =
    let parts = given_and_typed ds i is (Some v) input h in
    let rest = names_rest i is others distinct absent in
    let alone = (rest.2 parts.0).0 in
    let found : get_member i.name ms ≡ Some (data_of ds v i.ty) =
    ap (get_member i.name) (sym made)
    ∙ inputs_data-other ds is input (put i.name (data_of ds v i.ty) others) i.name parts.1 alone
    ∙ get_member-put i.name (data_of ds v i.ty) others in
    rw (
      value_read ds ms i v (back v) (grind arith) found,
      inputs_back ds back ms is input (put i.name (data_of ds v i.ty) others) made rest.0
          (AreAbsent-put (given_names is) i.name (data_of ds v i.ty) others alone rest.1) parts.1,
    ) refl

inputs_known : (ds : Decls) (known : List ℕ → Bool) (is : List ItemDecl) (input : Input) (others : Members)
    → AreKnown known (given_names is) → unknown_key known others ≡ None → IsTrue (are_given_for ds is input)
    → unknown_key known (inputs_data ds is input others) ≡ None
inputs_known ds known [] input others are none h = none
inputs_known ds known (i ∷ is) [] others are none h = none
inputs_known ds known (i ∷ is) (None ∷ input) others are none h =
    inputs_known ds known is input others (by (may_be_given i.kind) are) none (given_and_typed ds i is None input h).1
  where
    by : (b : Bool) → AreKnown known (if b then i.name ∷ given_names is else given_names is)
        → AreKnown known (given_names is)
    by true e = e.1
    by false e = e
inputs_known ds known (i ∷ is) (Some v ∷ input) others are none h =
    let parts = given_and_typed ds i is (Some v) input h in
    let names = by (may_be_given i.kind) parts.0 are in
    inputs_known ds known is input (put i.name (data_of ds v i.ty) others) names.1
    (unknown_key-put known i.name (data_of ds v i.ty) others names.0 none) parts.1
  where
    by : (b : Bool) → b ≡ true → AreKnown known (if b then i.name ∷ given_names is else given_names is)
        → (known i.name ≡ true) × AreKnown known (given_names is)
    by true e k = k
    by false e k = absurd (true≢false (sym e))

items_back : (ds : Decls) → ((v : Value) → IsReadBack ds v) → (is : List ItemDecl) (input : Input)
    → IsTrue (are_distinct (given_names is)) → IsTrue (are_given_for ds is input)
    → input_in ds is (input_data ds is input) ≡ Ok input
items_back ds back is input distinct h =
    rw (
      inputs_back ds back (inputs_data ds is input no_members) is input no_members refl distinct
          (absent_anywhere (given_names is)) h,
      inputs_known ds (is_among (given_names is)) is input no_members (among_themselves (given_names is)) refl h,
    ) refl

inputs_distinct : (ds : Decls) (n : ℕ) (scope : Scope) → IsTrue (names_are_distinct ds)
    → slice_get ds.scopes n ≡ Some scope → IsTrue (inputs_are_distinct scope)
unfolding names_are_distinct
inputs_distinct ds n scope h e = list_all_at inputs_are_distinct ds.scopes n scope (grind arith) e

-- what is written of a well-typed input is read as the input
pub input_back : (ds : Decls) → ((v : Value) → IsReadBack ds v) → IsTrue (names_are_distinct ds)
    → (n : ℕ) (input : Input)
    → IsWellTyped ds n input
    → input_in ds (items_of (slice_get ds.scopes n)) (input_data ds (items_of (slice_get ds.scopes n)) input) ≡ Ok input
unfolding is_input_of
input_back ds back distinct n input h = by (slice_get ds.scopes n) refl h
  where
    by : (s : Option Scope) → slice_get ds.scopes n ≡ s → IsTrue (is_input_for ds input s)
        → input_in ds (items_of s) (input_data ds (items_of s) input) ≡ Ok input
    by None e typed = absurd (true≢false (sym typed))
    by (Some scope) e typed = items_back ds back scope.items input (inputs_distinct ds n scope distinct e) typed
