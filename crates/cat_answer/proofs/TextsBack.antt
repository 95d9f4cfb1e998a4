-- The texts of values and of inputs are read as what they were written of.
use Rattle.std.proofs.Common.{◌≡◌, ℕ, ◌≤◌, List, Some, String, Global, string_bytes, slice_get}
use Rattle.std.proofs.Common.{ap}
use Rattle.std.proofs.Common.{◌∙◌, arith}
use Rattle.std.proofs.lemmas.Str.{IsUtf8-string_bytes}
use Rattle.serde_json.specs.Data.{Data, depth}
use Rattle.serde_json.specs.Read.{read, max_depth}
use Rattle.cat_value.specs.declared.ty.Ty.{Ty}
use Rattle.cat_value.specs.declared.value.Value.{Value}
use Rattle.cat_value.specs.declared.declaration.ItemDecl.{ItemDecl}
use Rattle.cat_value.specs.declared.decls.Decls.{Decls}
use Rattle.cat_json.specs.InputsRead.{Input, items_of, answered, read_from, json_of, input_in}
use Rattle.cat_json.specs.Reads.{read_as}
use Rattle.cat_json.proofs.Exported.{json_of-read}
use Rattle.cat_answer.specs.Writes.{data_of, input_data}
use Rattle.cat_answer.specs.ReadBack.{IsValueText, IsInputText}
use Rattle.cat_answer.proofs.ValuesBack.{DaysAreRead, value_back}
use Rattle.cat_answer.proofs.InputsBack.{input_back}
use Rattle.cat_answer.proofs.Nesting.{value_low, input_low}

-- a text that is read as some JSON, where that does not nest too deep
abbrev pub IsReadAs : String Global → Data → Type 0
IsReadAs text d = depth d ≤ max_depth → read (string_bytes text) ≡ Some d

json_back : (text : String Global) (d : Data) → IsReadAs text d → depth d ≤ max_depth
    → json_of (string_bytes text) ≡ Some d
json_back text d reads low = json_of-read (string_bytes text) d (IsUtf8-string_bytes text) (reads low)

pub value_text_back : (ds : Decls) (t : Ty) (v : Value) (d : Data) (text : String Global) → DaysAreRead
    → d ≡ data_of ds v t → IsReadAs text d → IsValueText ds t v (string_bytes text)
value_text_back ds t v d text days is reads distinct typed low =
    let nests : depth d ≤ max_depth = rw is (let h = value_low ds v t low in omega arith) in
    ap (read_from (λ x. answered (read_as ds x t))) (json_back text d reads nests)
    ∙ ap (λ x. answered (read_as ds x t)) is ∙ ap answered (value_back days ds distinct v t typed)

pub input_text_back : (ds : Decls) (n : ℕ) (is : List ItemDecl) (input : Input) (d : Data) (text : String Global)
    → DaysAreRead → d ≡ input_data ds is input → is ≡ items_of (slice_get ds.scopes n) → IsReadAs text d
    → IsInputText ds n input (string_bytes text)
input_text_back ds n is input d text days made here reads distinct typed =
    let whole : d ≡ input_data ds (items_of (slice_get ds.scopes n)) input =
    made ∙ ap (λ items. input_data ds items input) here in
    let nests : depth d ≤ max_depth = rw whole (let h = input_low ds n input in omega arith) in
    ap (read_from (λ x. answered (input_in ds (items_of (slice_get ds.scopes n)) x))) (json_back text d reads nests)
    ∙ ap (λ x. answered (input_in ds (items_of (slice_get ds.scopes n)) x)) whole
    ∙ ap answered (input_back ds (value_back days ds distinct) distinct n input typed)

pub ruleset back = (value_text_back, input_text_back)
