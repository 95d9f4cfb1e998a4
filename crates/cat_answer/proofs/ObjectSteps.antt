-- Objects of inputs and outputs, a member at a time, and positions.
use Rattle.std.proofs.Common.{◌≡◌, ℕ, ◌+◌, ◌<◌, ◌≤◌, true, List, [], ◌∷◌, drop, drop-cons, get_or, length}
use Rattle.std.proofs.Common.{add-one, Option, None, Some, refl, String, Global, string_bytes, string_cmp}
use Rattle.std.specs.Prelude.{slice_get}
use Rattle.std.specs.BTreeMap.{insert_entry}
use Rattle.std.proofs.lemmas.List.{drop_all}
use Rattle.serde_json.specs.Data.{Members}
use Rattle.serde_json.specs.View.{view, members_view}
use Rattle.serde_json.specs.declared.value.Value.{Value as Json}
use Rattle.serde_json.proofs.Views.{Entry, members_view-insert_entry}
use Rattle.cat_value.specs.declared.value.Value.{Value}
use Rattle.cat_value.specs.declared.declaration.ItemDecl.{ItemDecl}
use Rattle.cat_value.specs.declared.decls.Decls.{Decls}
use Rattle.cat_answer.specs.Writes.{data_of, inputs_data}
use Rattle.cat_answer.specs.Answer.{outputs_data}
use Rattle.cat_value.specs.Inputs.{is_output, outputs_in}
use Rattle.cat_answer.proofs.WriteEquations.{drop-get, drop-past}

-- a variable that is given
pub inputs_data-given : (ds : Decls) (entries new : List Entry) (is : List ItemDecl) (input : List (Option Value))
    (n : ℕ) (i : ItemDecl) (v : Value) (key : String Global) (written : Json)
    → n < length is → i ≡ get_or is n i → slice_get input n ≡ Some (Some v)
    → string_bytes key ≡ i.name → view written ≡ data_of ds v i.ty → new ≡ insert_entry string_cmp entries key written
    → inputs_data ds (drop (n + 1) is) (drop (n + 1) input) (members_view new) ≡ inputs_data ds (drop n is)
    (drop n input) (members_view entries)
inputs_data-given ds entries new is input n i v key written within at holds name seen inserted =
    rw (
      inserted,
      members_view-insert_entry entries key written,
      name,
      seen,
      drop-cons is n i,
      ← at,
      drop-get input n
          (Some v) holds,
      add-one,
    ) refl

-- a variable that is not given
pub inputs_data-skip : (ds : Decls) (is : List ItemDecl) (input : List (Option Value)) (n : ℕ) (i : ItemDecl)
    (others : Members)
    → n < length is → i ≡ get_or is n i → slice_get input n ≡ Some None
    → inputs_data ds (drop (n + 1) is) (drop (n + 1) input) others ≡ inputs_data ds (drop n is) (drop n input) others
inputs_data-skip ds is input n i others within at holds =
    rw (drop-cons is n i, ← at, drop-get input n None holds, add-one) refl

inputs_data-none : (ds : Decls) (is : List ItemDecl) (others : Members) → inputs_data ds is [] others ≡ others
inputs_data-none ds [] others = refl
inputs_data-none ds (i ∷ is) others = refl

pub inputs_data-past : (ds : Decls) (is : List ItemDecl) (input : List (Option Value)) (n : ℕ) (others : Members)
    → slice_get input n ≡ None → inputs_data ds (drop n is) (drop n input) others ≡ others
inputs_data-past ds is input n others e = rw (drop-past input n e) (inputs_data-none ds (drop n is) others)

pub inputs_data-end : (ds : Decls) (is : List ItemDecl) (input : List (Option Value)) (n : ℕ) (others : Members)
    → length is ≤ n → inputs_data ds (drop n is) (drop n input) others ≡ others
inputs_data-end ds is input n others h = rw (drop_all n is h) refl

-- an output
pub outputs_data-next : (ds : Decls) (entries new : List Entry) (is : List ItemDecl) (vs : List Value) (n m : ℕ)
    (i : ItemDecl) (v : Value) (key : String Global) (written : Json)
    → n < length is → i ≡ get_or is n i → is_output i.kind ≡ true → slice_get vs m ≡ Some v
    → string_bytes key ≡ i.name → view written ≡ data_of ds v i.ty → new ≡ insert_entry string_cmp entries key written
    → outputs_data ds (outputs_in (drop (n + 1) is)) (drop (m + 1) vs) (members_view new) ≡ outputs_data ds
    (outputs_in (drop n is)) (drop m vs) (members_view entries)
outputs_data-next ds entries new is vs n m i v key written within at output holds name seen inserted =
    rw (
      inserted,
      members_view-insert_entry entries key written,
      name,
      seen,
      drop-cons is n i,
      ← at,
      output,
      drop-get
          vs m v holds,
      add-one,
      add-one,
    ) refl

outputs_data-none : (ds : Decls) (is : List ItemDecl) (others : Members) → outputs_data ds is [] others ≡ others
outputs_data-none ds [] others = refl
outputs_data-none ds (i ∷ is) others = refl

pub outputs_data-past : (ds : Decls) (is : List ItemDecl) (vs : List Value) (m : ℕ) (others : Members)
    → slice_get vs m ≡ None → outputs_data ds is (drop m vs) others ≡ others
outputs_data-past ds is vs m others e = rw (drop-past vs m e) (outputs_data-none ds is others)

pub outputs_data-end : (ds : Decls) (is : List ItemDecl) (vs : List Value) (n m : ℕ) (others : Members) → length is ≤ n
    → outputs_data ds (outputs_in (drop n is)) (drop m vs) others ≡ others
outputs_data-end ds is vs n m others h = rw (drop_all n is h) refl
