-- What JSON is read as, level by level.
use Rattle.std.proofs.Common.{◌≡◌, ◌≢◌, ℕ, string_bytes, suc, ◌<◌, ◌≤◌, List, [], ◌∷◌, ◌++◌, length, Option, Some, None}
use Rattle.std.proofs.Common.{option_map, Ordering, Less, Equal, Greater, Ok, Err, refl, sym, ap, ◌∙◌, arith, rules}
use Rattle.std.proofs.Common.{max}
use Rattle.std.specs.Ordering.{nat_cmp, match_ordering}
use Rattle.std.specs.Cmp.Lexicographic.{slice_cmp}
use Rattle.serde_json.specs.Data.{Data, null, boolean, number, string, array, object, Items, Members, no_members}
use Rattle.serde_json.specs.Data.{member, depth, items_depth, members_depth}
use Rattle.serde_json.specs.Find.{as_array, as_object, as_bool, as_str, get, get_member}
use Rattle.serde_json.specs.View.{items_view, members_view}
use Rattle.serde_json.specs.declared.value.Value.{Value as Json}
use Rattle.serde_json.proofs.Views.{Entry}
use Rattle.cat_value.specs.declared.ty.Ty.{Ty}
use Rattle.cat_value.specs.declared.ty.Ty.TheOpen.{Ty-F}
use Rattle.cat_value.specs.declared.ty.Ty.TheVariants as flat_ty
use Rattle.cat_value.specs.declared.ty.Ty.TheViews as ty
use Rattle.cat_value.specs.declared.value.Value.TheVariants as flat
use Rattle.cat_value.specs.declared.decls.Decls.{Decls}
use Rattle.cat_value.specs.Entries.{fields_of}
use Rattle.cat_json.specs.Paths.{Reading, made_of}
use Rattle.cat_json.specs.WholeNumbers.{integer_of, whole_in}
use Rattle.cat_json.specs.Scalars.{text_day, truth_in, fraction_in, cents_in, text_in}
use Rattle.cat_json.specs.Reads.{Reader, read_as, read_level, elements_of, members_of, data_elements, data_members}
use Rattle.cat_json.specs.Reads.{list_in, structure_in, enumeration_in, only_key}
use Rattle.cat_json.specs.Spans.{span_in}
use Rattle.std.specs.Prelude.{slice_get}

pub read_as-level : (ds : Decls) (d : Data) (t : Ty) → read_as ds d t ≡ read_level ds d (data_elements ds d)
    (data_members ds d) (ty.out-Ty t)
read_as-level ds null t = refl
read_as-level ds (boolean b) t = refl
read_as-level ds (number n) t = refl
read_as-level ds (string s) t = refl
read_as-level ds (array items) t = refl
read_as-level ds (object ms) t = refl

-- what is read where the type is so
pub at_level : (ds : Decls) (d : Data) (t : Ty) (y : Ty-F Ty) → ty.out-Ty t ≡ y → read_as ds d t ≡ read_level ds d
    (data_elements ds d) (data_members ds d) y
at_level ds d t y e = read_as-level ds d t ∙ ap (read_level ds d (data_elements ds d) (data_members ds d)) e

pub read_as_Boolean : (ds : Decls) (d : Data) → read_as ds d flat_ty.Boolean ≡ made_of flat.Boolean
    (truth_in (as_bool d))
read_as_Boolean ds d = at_level ds d flat_ty.Boolean Ty-F.Boolean (search (rules, ty.the_lemmas))

pub read_as_Integer : (ds : Decls) (d : Data) → read_as ds d flat_ty.Integer ≡ made_of flat.Integer
    (whole_in (integer_of d))
read_as_Integer ds d = at_level ds d flat_ty.Integer Ty-F.Integer (search (rules, ty.the_lemmas))

pub read_as_Decimal : (ds : Decls) (d : Data) → read_as ds d flat_ty.Decimal ≡ made_of flat.Decimal
    (fraction_in (integer_of d) (as_str d))
read_as_Decimal ds d = at_level ds d flat_ty.Decimal Ty-F.Decimal (search (rules, ty.the_lemmas))

pub read_as_Money : (ds : Decls) (d : Data) → read_as ds d flat_ty.Money ≡ made_of flat.Money
    (cents_in (integer_of d) (as_str d))
read_as_Money ds d = at_level ds d flat_ty.Money Ty-F.Money (search (rules, ty.the_lemmas))

pub read_as_Date : (ds : Decls) (d : Data) → read_as ds d flat_ty.Date ≡ made_of flat.Date (text_in text_day (as_str d))
read_as_Date ds d = at_level ds d flat_ty.Date Ty-F.Date (search (rules, ty.the_lemmas))

pub read_as_Duration : (ds : Decls) (d : Data) → read_as ds d flat_ty.Duration ≡ made_of flat.Duration (span_in d)
read_as_Duration ds d = at_level ds d flat_ty.Duration Ty-F.Duration (search (rules, ty.the_lemmas))

pub read_as_List : (ds : Decls) (d : Data) (t : Ty) → read_as ds d (ty.List t) ≡ list_in (as_array d)
    (data_elements ds d) t
read_as_List ds d t = at_level ds d (ty.List t) (Ty-F.List t) (search (rules, ty.the_lemmas))

pub read_as_Structure : (ds : Decls) (d : Data) (n : ℕ) → read_as ds d (flat_ty.Structure n) ≡ structure_in
    (fields_of ds n) (as_object d) (data_members ds d)
read_as_Structure ds d n = at_level ds d (flat_ty.Structure n) (Ty-F.Structure n) (search (rules, ty.the_lemmas))

pub read_as_Enumeration : (ds : Decls) (d : Data) (n : ℕ) → read_as ds d (flat_ty.Enumeration n) ≡ enumeration_in
    (slice_get ds.enumerations n) (as_str d) (as_object d) (data_members ds d)
read_as_Enumeration ds d n = at_level ds d (flat_ty.Enumeration n) (Ty-F.Enumeration n) (search (rules, ty.the_lemmas))

pub ruleset levels = (
  read_as_Boolean,
  read_as_Integer,
  read_as_Decimal,
  read_as_Money,
  read_as_Date,
  read_as_Duration,
  read_as_List,
  read_as_Structure,
  read_as_Enumeration,
)

-- an array, by its elements
pub array_elements : (ds : Decls) (d : Data) (items : Items) → Some items ≡ as_array d
    → (data_elements ds d ≡ elements_of ds items) × (depth d ≡ suc (items_depth items))
array_elements ds null items e = absurd (cc)
array_elements ds (boolean b) items e = absurd (cc)
array_elements ds (number n) items e = absurd (cc)
array_elements ds (string s) items e = absurd (cc)
array_elements ds (array others) items e = let same : items ≡ others =
    cc in (ap (elements_of ds) (sym same), ap (λ i. suc (items_depth i)) (sym same))
array_elements ds (object ms) items e = absurd (cc)

pub elements_of-length : (ds : Decls) (vs : List Json) → length (elements_of ds (items_view vs)) ≡ length vs
elements_of-length ds [] = refl
elements_of-length ds (v ∷ vs) = ap suc (elements_of-length ds vs)

by_order : (ds : Decls) (o : Ordering) (e : Data) (later : Option Reader) (found : Option Data)
    → later ≡ option_map (read_as ds) found
    → match_ordering o later (Some (read_as ds e)) later ≡ option_map (read_as ds)
    (match_ordering o found (Some e) found)
by_order ds Less e later found h = h
by_order ds Equal e later found h = refl
by_order ds Greater e later found h = h

pub members_of-get : (ds : Decls) (ms : Members) (name : List ℕ) → members_of ds ms name ≡ option_map (read_as ds)
    (get_member name ms)
members_of-get ds no_members name = refl
members_of-get ds (member key d ms) name =
    by_order ds (slice_cmp nat_cmp name key) d (members_of ds ms name) (get_member name ms) (members_of-get ds ms name)

-- the member of a name
pub data_members-get : (ds : Decls) (d : Data) (name : List ℕ) → data_members ds d name ≡ option_map (read_as ds)
    (get name d)
data_members-get ds null name = refl
data_members-get ds (boolean b) name = refl
data_members-get ds (number n) name = refl
data_members-get ds (string s) name = refl
data_members-get ds (array items) name = refl
data_members-get ds (object ms) name = members_of-get ds ms name

below_order : (o : Ordering) (e f : Data) (later : Option Data) (n m : ℕ) → match_ordering o later (Some e) later ≡ Some
    f → (later ≡ Some f → depth f ≤ m) → depth e ≤ n → m ≤ n → depth f ≤ n
below_order Less e f later n m h k l i = omega (arith, k h)
below_order Equal e f later n m h k l i = let same : e ≡ f = cc in rw (← same) l
below_order Greater e f later n m h k l i = omega (arith, k h)

member_depth : (ms : Members) (name : List ℕ) (f : Data) → get_member name ms ≡ Some f → depth f ≤ members_depth ms
member_depth no_members name f e = absurd (cc)
member_depth (member key d ms) name f e =
    below_order (slice_cmp nat_cmp name key) d f (get_member name ms) (max (depth d) (members_depth ms))
    (members_depth ms) e (member_depth ms name f) (omega arith) (omega arith)

-- a member nests less deep
pub get-depth : (d : Data) (name : List ℕ) (f : Data) → get name d ≡ Some f → depth f < depth d
get-depth null name f e = absurd (cc)
get-depth (boolean b) name f e = absurd (cc)
get-depth (number n) name f e = absurd (cc)
get-depth (string s) name f e = absurd (cc)
get-depth (array items) name f e = absurd (cc)
get-depth (object ms) name f e = omega (arith, member_depth ms name f e)

-- the key of an object with one member
pub only_key-other : (es : List Entry) → length es ≢ 1 → only_key (Some (members_view es)) ≡ None
only_key-other [] h = refl
only_key-other (e ∷ []) h = absurd (h refl)
only_key-other (e ∷ f ∷ es) h = refl

pub only_key-one : (es : List Entry) (e : Entry) → length es ≡ 1 → slice_get es 0 ≡ Some e
    → only_key (Some (members_view es)) ≡ Some (string_bytes e.0)
only_key-one [] e h is = absurd (cc)
only_key-one (f ∷ []) e h is = let same : f ≡ e = cc in ap (λ (g : Entry). Some (string_bytes g.0)) same
only_key-one (f ∷ g ∷ es) e h is = absurd (omega arith)

pub ruleset parts = (array_elements, elements_of-length, data_members-get, get-depth)

pub ruleset keys = (only_key-other, only_key-one)

-- what is read behind some values that were read
abbrev pub read_before : {A : Type 0} → List A → Reading (List A) → Reading (List A)
read_before values (Ok rest) = Ok (values ++ rest)
read_before values (Err refusal) = Err refusal
