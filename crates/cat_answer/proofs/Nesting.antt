-- What is written nests no deeper than the type is high.
use Rattle.std.proofs.Common.{◌≡◌, ℕ, zero, suc, ◌+◌, ◌≤◌, IsTrue, List, [], ◌∷◌, Option, Some, None}
use Rattle.std.proofs.Common.{slice_get}
use Rattle.std.proofs.Common.{Ordering, Less, Equal, Greater, refl, arith}
use Rattle.std.specs.List.{list_all}
use Rattle.std.specs.Ordering.{nat_cmp, match_ordering}
use Rattle.std.specs.Cmp.Lexicographic.{slice_cmp}
use Rattle.std.proofs.lemmas.Bool.Decides.{nat_tests}
use Rattle.serde_json.specs.Data.{Data, Members, no_members, member, put, depth, items_depth, members_depth}
use Rattle.cat_value.specs.declared.ty.Ty.{Ty}
use Rattle.cat_value.specs.declared.ty.Ty.TheOpen.{Ty-F}
use Rattle.cat_value.specs.declared.ty.Ty.TheViews.{out-Ty}
use Rattle.cat_value.specs.declared.value.Value.{Value}
use Rattle.cat_value.specs.declared.value.Value.TheViews as value
use Rattle.cat_value.specs.declared.declaration.Field.{Field}
use Rattle.cat_value.specs.declared.declaration.Structure.{Structure}
use Rattle.cat_value.specs.declared.declaration.Case.{Case}
use Rattle.cat_value.specs.declared.declaration.Enumeration.{Enumeration}
use Rattle.cat_value.specs.declared.declaration.ItemDecl.{ItemDecl}
use Rattle.cat_value.specs.declared.declaration.Scope.{Scope}
use Rattle.cat_value.specs.declared.decls.Decls.{Decls}
use Rattle.cat_value.specs.Declarations.{highest, item_is_sound}
use Rattle.cat_value.specs.Heights.{highest_field, highest_content, content_height, structure_parts, enumeration_parts}
use Rattle.cat_value.specs.Laws.{height_of, part_height}
use Rattle.cat_value.specs.Entries.{fields_in}
use Rattle.cat_value.proofs.Exported.{Each, Within, value_induction, height_of_is}
use Rattle.cat_json.specs.InputsRead.{Input, items_of}
use Rattle.cat_json.proofs.Exported.{items_sound}
use Rattle.cat_answer.specs.Writes.{data_of, inputs_data, input_data}
use Rattle.cat_answer.specs.WrittenParts.{items_data, members_data, list_written, fields_written, structure_written}
use Rattle.cat_answer.specs.WrittenParts.{content_written, case_written, numbered_written, enumeration_written}
use Rattle.cat_answer.proofs.WriteEquations.{data_of_Boolean, data_of_Integer, data_of_Decimal, data_of_Money}
use Rattle.cat_answer.proofs.WriteEquations.{data_of_Date, data_of_Duration, data_of_List, data_of_Structure}
use Rattle.cat_answer.proofs.WriteEquations.{data_of_Case}

-- the JSON of a value nests no deeper than a type is high
abbrev NestsLow : Decls → Value → Type 0
NestsLow ds v = (t : Ty) → height_of ds t ≤ highest → depth (data_of ds v t) ≤ height_of ds t

-- what nests at most one level deep
shallow : (ds : Decls) (v : Value) → ((t : Ty) → depth (data_of ds v t) ≤ 1) → NestsLow ds v
shallow ds v h t low = let is = height_of_is ds t low in let flat = h t in omega arith

put_depth : (key : List ℕ) (d : Data) (ms : Members) (n : ℕ) → depth d ≤ n → members_depth ms ≤ n
    → members_depth (put key d ms) ≤ n
put_depth key d no_members n h k = omega arith
put_depth key d (member l e ms) n h k =
    by (slice_cmp nat_cmp key l) (put_depth key d ms n h (omega arith))
  where
    by : (o : Ordering) → members_depth (put key d ms) ≤ n
        → members_depth (match_ordering o (member key d (member l e ms)) (member l d ms) (member l e (put key d ms))) ≤
        n
    by Less more = omega arith
    by Equal more = omega arith
    by Greater more = omega arith

items_low : (ds : Decls) (t : Ty) (vs : List Value) → Each (NestsLow ds) vs → height_of ds t ≤ highest
    → items_depth (items_data ds vs t) ≤ height_of ds t
items_low ds t [] h low = omega arith
items_low ds t (v ∷ vs) h low =
    let first = h.0 t low in let rest = items_low ds t vs h.1 low in omega arith

members_low : (ds : Decls) (fs : List Field) (vs : List Value) (others : Members) (n : ℕ) → Each (NestsLow ds) vs
    → highest_field (height_of ds) fs ≤ n → n ≤ highest → members_depth others ≤ n
    → members_depth (members_data ds fs vs others) ≤ n
members_low ds [] vs others n h low top before = before
members_low ds (f ∷ fs) [] others n h low top before = before
members_low ds (f ∷ fs) (v ∷ vs) others n h low top before =
    let first = h.0 f.ty (omega arith) in
    members_low ds fs vs (put f.name (data_of ds v f.ty) others) n h.1 (omega arith) top
    (put_depth f.name (data_of ds v f.ty) others n (omega arith) before)

list_low : (ds : Decls) (vs : List Value) → Each (NestsLow ds) vs → NestsLow ds (value.List vs)
list_low ds vs h t low = by (out-Ty t) refl
  where
    level : (y : Ty-F Ty) → 1 + part_height ds y ≤ highest → depth (list_written ds vs y) ≤ 1 + part_height ds y
    level (Ty-F.List e) bound = let parts = items_low ds e vs h (omega arith) in omega arith
    level _ bound = omega arith

    by : (y : Ty-F Ty) → out-Ty t ≡ y → depth (data_of ds (value.List vs) t) ≤ height_of ds t
    by y q = let is = height_of_is ds t low in rw (data_of_List ds vs t, is) (level (out-Ty t) (omega arith))

structure_low : (ds : Decls) (vs : List Value) → Each (NestsLow ds) vs → NestsLow ds (value.Structure vs)
structure_low ds vs h t low =
    let is = height_of_is ds t low in rw (data_of_Structure ds vs t, is) (level (out-Ty t) (omega arith))
  where
    object : (s : Option Structure) → 1 + structure_parts (height_of ds) s ≤ highest
        → depth (fields_written ds vs (fields_in s)) ≤ 1 + structure_parts (height_of ds) s
    object None bound = omega arith
    object (Some s) bound =
        let parts = members_low ds s.fields vs no_members (highest_field (height_of ds) s.fields) h (omega arith)
        (omega arith) (omega arith) in omega arith

    level : (y : Ty-F Ty) → 1 + part_height ds y ≤ highest → depth (structure_written ds vs y) ≤ 1 + part_height ds y
    level (Ty-F.Structure n) bound = object (slice_get ds.structures n) bound
    level _ bound = omega arith

content_low : (ds : Decls) (name : List ℕ) (wanted : Option Ty) (content : Option Value) → Within (NestsLow ds) content
    → content_height (height_of ds) wanted ≤ highest
    → depth (content_written ds name wanted content) ≤ 1 + content_height (height_of ds) wanted
content_low ds name None None h low = omega arith
content_low ds name None (Some v) h low = omega arith
content_low ds name (Some t) None h low = omega arith
content_low ds name (Some t) (Some v) h low = let part = h t low in omega arith

content_at : (height : Ty → ℕ) (cs : List Case) (n : ℕ) (c : Case) → slice_get cs n ≡ Some c
    → content_height height c.content ≤ highest_content height cs
content_at height [] n c e = grind arith
content_at height (x ∷ xs) zero c e = grind arith
content_at height (x ∷ xs) (suc n) c e = let rest = content_at height xs n c e in omega arith

case_low : (ds : Decls) (k : ℕ) (content : Option Value) → Within (NestsLow ds) content
    → NestsLow ds (value.Case k content)
case_low ds k content h t low =
    let is = height_of_is ds t low in rw (data_of_Case ds k content t, is) (level (out-Ty t) (omega arith))
  where
    among : (cs : List Case) (c : Option Case) → slice_get cs k ≡ c → 1 + highest_content (height_of ds) cs ≤ highest
        → depth (case_written ds content c) ≤ 1 + highest_content (height_of ds) cs
    among cs None e bound = omega arith
    among cs (Some c) e bound =
        let below = content_at (height_of ds) cs k c e in
        let part = content_low ds c.name c.content content h (omega arith) in
        omega arith

    numbered : (e : Option Enumeration) → 1 + enumeration_parts (height_of ds) e ≤ highest
        → depth (numbered_written ds k content e) ≤ 1 + enumeration_parts (height_of ds) e
    numbered None bound = omega arith
    numbered (Some e) bound = among e.cases (slice_get e.cases k) refl bound

    level : (y : Ty-F Ty) → 1 + part_height ds y ≤ highest
        → depth (enumeration_written ds k content y) ≤ 1 + part_height ds y
    level (Ty-F.Enumeration n) bound = numbered (slice_get ds.enumerations n) bound
    level _ bound = omega arith

pub value_low : (ds : Decls) (v : Value) (t : Ty) → height_of ds t ≤ highest
    → depth (data_of ds v t) ≤ height_of ds t
value_low ds =
    value_induction (NestsLow ds)
    (λ b. shallow ds _ (λ t. rw (data_of_Boolean ds b t) (omega arith)))
    (λ n. shallow ds _ (λ t. rw (data_of_Integer ds n t) (omega arith)))
    (λ f. shallow ds _ (λ t. rw (data_of_Decimal ds f t) (omega arith)))
    (λ n. shallow ds _ (λ t. rw (data_of_Money ds n t) (omega arith)))
    (λ day. shallow ds _ (λ t. rw (data_of_Date ds day t) (omega arith)))
    (λ span. shallow ds _ (λ t. rw (data_of_Duration ds span t) (omega arith)))
    (list_low ds) (structure_low ds) (case_low ds)

-- each item's type is at most 64 high
abbrev AreLow : Decls → List ItemDecl → Type 0
AreLow ds [] = Unit {0}
AreLow ds (i ∷ is) = (height_of ds i.ty ≤ highest) × AreLow ds is

sound-AreLow : (ds : Decls) (count : ℕ) (is : List ItemDecl)
    → IsTrue (list_all (item_is_sound ds.structures ds.enumerations count) is) → AreLow ds is
sound-AreLow ds count [] h = tt
sound-AreLow ds count (i ∷ is) h = (grind (arith, nat_tests), sound-AreLow ds count is (grind arith))

inputs_low : (ds : Decls) (is : List ItemDecl) (input : Input) (others : Members) → AreLow ds is
    → members_depth others ≤ highest → members_depth (inputs_data ds is input others) ≤ highest
inputs_low ds [] input others low before = before
inputs_low ds (i ∷ is) [] others low before = before
inputs_low ds (i ∷ is) (None ∷ input) others low before = inputs_low ds is input others low.1 before
inputs_low ds (i ∷ is) (Some v ∷ input) others low before =
    let part = value_low ds v i.ty low.0 in
    let bound = low.0 in
    inputs_low ds is input (put i.name (data_of ds v i.ty) others) low.1
    (put_depth i.name (data_of ds v i.ty) others highest (omega arith) before)

-- an input of a scope nests one level deeper
pub input_low : (ds : Decls) (n : ℕ) (input : Input)
    → depth (input_data ds (items_of (slice_get ds.scopes n)) input) ≤ 1 + highest
input_low ds n input = by (slice_get ds.scopes n) refl
  where
    by : (s : Option Scope) → slice_get ds.scopes n ≡ s → depth (input_data ds (items_of s) input) ≤ 1 + highest
    by None e = omega arith
    by (Some scope) e =
        let parts = inputs_low ds scope.items input no_members
        (sound-AreLow ds _ scope.items (items_sound ds n scope e)) (omega arith) in
        omega arith
