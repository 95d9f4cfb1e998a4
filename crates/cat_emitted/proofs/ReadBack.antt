-- Constants of spelled declarations are read back from their texts.
use Rattle.std.proofs.Common.{◌≤◌, IsTrue, List, [], ◌∷◌, ap, ◌∙◌, arith}
use Rattle.serde_json.specs.Data.{depth}
use Rattle.serde_json.specs.Read.{max_depth}
use Rattle.cat_date.proofs.RoundTrip.{day_of_text-day_text}
use Rattle.cat_scope.specs.Names.{AllHave}
use Rattle.cat_value.specs.declared.decls.Decls.{Decls}
use Rattle.cat_code.specs.declared.code.Constant.{Constant}
use Rattle.cat_code.specs.Valid.{constant_is_sound}
use Rattle.cat_json.specs.InputsRead.{read_from, answered}
use Rattle.cat_json.specs.Reads.{read_as}
use Rattle.cat_json.proofs.Exported.{json_of-read}
use Rattle.cat_answer.specs.Writes.{value_bytes, data_of}
use Rattle.cat_answer.proofs.Nesting.{value_low}
use Rattle.cat_answer.proofs.ValuesBack.{value_back}
use Rattle.cat_emitted.specs.Spelled.{AreSpelledDecls}
use Rattle.cat_emitted.proofs.Readings.{IsReadBack}
use Rattle.cat_emitted.proofs.ConstantFacts.{constant_typed, constant_low}
use Rattle.cat_emitted.proofs.DistinctNames.{names_distinct}
use Rattle.cat_emitted.proofs.JsonBack.{text_back, data_utf8}
use Rattle.cat_emitted.proofs.ValueOwn.{value_own}

pub constant_back : (ds : Decls) → AreSpelledDecls ds → (c : Constant) → IsTrue (constant_is_sound ds c)
    → IsReadBack ds c
constant_back ds spelled c sound =
    let d = data_of ds c.value c.ty in
    let typed = constant_typed ds c sound in
    let own = value_own ds spelled c.value c.ty typed in
    let nests : depth d ≤ max_depth =
    let low = value_low ds c.value c.ty (constant_low ds c sound) in
    let type_low = constant_low ds c sound in omega (arith, low, type_low) in
    ap (read_from (λ x. answered (read_as ds x c.ty)))
    (json_of-read (value_bytes ds c.ty c.value) d (data_utf8 d own) (text_back d own nests))
    ∙ ap answered (value_back day_of_text-day_text ds (names_distinct ds spelled) c.value c.ty typed)

pub constants_back : (ds : Decls) → AreSpelledDecls ds → (cs : List Constant)
    → AllHave (λ c. IsTrue (constant_is_sound ds c)) cs → AllHave (IsReadBack ds) cs
constants_back ds spelled [] sound = tt
constants_back ds spelled (c ∷ cs) sound =
    (constant_back ds spelled c sound.0, constants_back ds spelled cs sound.1)
