-- A value is read by structures and enumerations alone.
use Rattle.std.proofs.Common.{◌≡◌, ℕ, List, [], ◌∷◌, Option, Some, slice_get, refl, ap, ◌∙◌}
use Rattle.std.specs.Prelude.{Result}
use Rattle.std.specs.Ordering.{match_ordering, nat_cmp}
use Rattle.std.specs.Cmp.Lexicographic.{slice_cmp}
use Rattle.std.proofs.Math.Path.{fun_ext}
use Rattle.serde_json.specs.Data.{Data, null, boolean, number, string, array, object, Items, no_items, item, Members}
use Rattle.serde_json.specs.Data.{no_members, member}
use Rattle.serde_json.specs.Find.{as_object, as_str}
use Rattle.cat_value.specs.declared.ty.Ty.{Ty}
use Rattle.cat_value.specs.declared.ty.Ty.TheOpen.{Ty-F}
use Rattle.cat_value.specs.declared.ty.Ty.TheViews.{out-Ty}
use Rattle.cat_value.specs.declared.value.Value.{Value}
use Rattle.cat_value.specs.declared.declaration.Structure.{Structure}
use Rattle.cat_value.specs.declared.declaration.Enumeration.{Enumeration}
use Rattle.cat_value.specs.declared.decls.Decls.{Decls}
use Rattle.cat_value.specs.Entries.{fields_in}
use Rattle.cat_json.specs.declared.refusal.InputRefusal.{InputRefusal}
use Rattle.cat_json.specs.InputsRead.{answered, json_of, read_from, value_read}
use Rattle.cat_json.specs.Reads.{Reader, elements_of, enumeration_in, members_of, none_named, read_as, read_level}
use Rattle.cat_json.specs.Reads.{structure_in}

module _ (ds us : Decls) (structures : ds.structures ≡ us.structures)
    (enumerations : ds.enumerations ≡ us.enumerations) where
  level : (d : Data) (elements : List Reader) (members : List ℕ → Option Reader) (t : Ty-F Ty)
      → read_level ds d elements members t ≡ read_level us d elements members t
  level d elements members Ty-F.Boolean = refl
  level d elements members Ty-F.Integer = refl
  level d elements members Ty-F.Decimal = refl
  level d elements members Ty-F.Money = refl
  level d elements members Ty-F.Date = refl
  level d elements members Ty-F.Duration = refl
  level d elements members (Ty-F.List t) = refl
  level d elements members (Ty-F.Structure n) =
      ap (λ (ss : List Structure). structure_in (fields_in (slice_get ss n)) (as_object d) members) structures
  level d elements members (Ty-F.Enumeration n) =
      ap (λ (es : List Enumeration). enumeration_in (slice_get es n) (as_str d) (as_object d) members) enumerations

  mutual
    same_data : (d : Data) → read_as ds d ≡ read_as us d
    same_data null = fun_ext (λ t. level null [] none_named (out-Ty t))
    same_data (boolean b) = fun_ext (λ t. level (boolean b) [] none_named (out-Ty t))
    same_data (number n) = fun_ext (λ t. level (number n) [] none_named (out-Ty t))
    same_data (string s) = fun_ext (λ t. level (string s) [] none_named (out-Ty t))
    same_data (array items) = fun_ext (λ t.
        ap (λ (rs : List Reader). read_level ds (array items) rs none_named (out-Ty t)) (same_items items)
        ∙ level (array items) (elements_of us items) none_named (out-Ty t))
    same_data (object ms) = fun_ext (λ t.
        ap (λ (rs : List ℕ → Option Reader). read_level ds (object ms) [] rs (out-Ty t))
        (fun_ext (λ name. same_members ms name))
        ∙ level (object ms) [] (members_of us ms) (out-Ty t))

    same_items : (items : Items) → elements_of ds items ≡ elements_of us items
    same_items no_items = refl
    same_items (item d items) =
        ap (λ (r : Reader). r ∷ elements_of ds items) (same_data d)
        ∙ ap (λ (rs : List Reader). read_as us d ∷ rs) (same_items items)

    same_members : (ms : Members) (name : List ℕ) → members_of ds ms name ≡ members_of us ms name
    same_members no_members name = refl
    same_members (member key d ms) name =
        ap (λ (o : Option Reader). match_ordering (slice_cmp nat_cmp name key) o (Some (read_as ds d)) o)
        (same_members ms name)
        ∙ ap (λ (r : Reader). match_ordering (slice_cmp nat_cmp name key) (members_of us ms name) (Some r)
        (members_of us ms name)) (same_data d)

  pub same_value : (t : Ty) (bytes : List ℕ) → value_read ds t bytes ≡ value_read us t bytes
  same_value t bytes = ap (λ (reading : Data → Result Value InputRefusal). read_from reading (json_of bytes))
      (fun_ext (λ d. ap (λ (r : Reader). answered (r t)) (same_data d)))
