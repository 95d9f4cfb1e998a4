-- Texts that are plainly values are read as these.
use Rattle.std.proofs.Common.{◌≡◌, ◌≢◌, ℕ, ◌<◌, ◌≤◌, ◌^◌, Bool, true, false, List, [], ◌∷◌, length, get_or}
use Rattle.std.proofs.Common.{refl, sym, ap, subst, ◌∙◌, arith, rules, decimal, Some, codes, pos}
use Rattle.std.specs.Prelude.{nat_le, option_and_then, Result, Ok}
use Rattle.std.specs.Result.{OkIff}
use Rattle.std.specs.Str.{IsUtf8}
use Rattle.std.specs.Str.Parse.{AllDigits, digits_value, ParsesUnsigned}
use Rattle.std.proofs.lemmas.Bool.Decides.{nat_tests}
use Rattle.std.proofs.lemmas.Fmt.{decimal-digits_value, IsAscii-decimal}
use Rattle.std.proofs.lemmas.Str.{IsUtf8-from_ascii}
use Rattle.std.proofs.lemmas.Str.Parse.{numerals_by_value, parse_plain, tells_digits}
use Rattle.json.specs.Json as json
use Rattle.json.specs.Token.{Token}
use Rattle.json.specs.Lex.{tokens}
use Rattle.json.specs.Tree as tree
use Rattle.json.specs.Tree.{HasNumbers}
use Rattle.json.proofs.Printed.Decimals.{IsNumber-decimal}
use Rattle.json.proofs.Printed.Tokens.{tokens-print}
use Rattle.json.proofs.Printed.Trees.{ArePrintable-json_tokens, value-json_tokens}
use Rattle.json.proofs.Printed.Utf8.{IsUtf8-are_ascii}
use Rattle.serde_json.specs.Data.{Data, boolean, number, unsigned}
use Rattle.serde_json.specs.Read.{read, of_json, max_depth}
use Rattle.serde_json.specs.Written.{compact_text, outline}
use Rattle.serde_json.proofs.Numbers.{number_of-decimal}
use Rattle.serde_json.proofs.Texts.{print-outline}
use Rattle.std.proofs.Common.{append-nil, ◌++◌, Option, option_map}
use Rattle.cat_num.specs.Whole.{fits, largest}
use Rattle.cat_value.specs.declared.ty.Ty.TheOpen.{Ty-F}
use Rattle.cat_value.specs.declared.ty.Ty.TheVariants as flat_ty
use Rattle.cat_value.specs.declared.ty.Ty.TheViews as ty
use Rattle.cat_value.specs.declared.value.Value.TheVariants as flat
use Rattle.cat_value.specs.Declarations.{is_boolean}
use Rattle.cat_value.specs.Flat.{integer_typed}
use Rattle.cat_value.proofs.Exported.{has_type_Boolean, has_type_Integer}
use Rattle.cat_json.specs.InputsRead.{answered, read_from}
use Rattle.cat_json.specs.Paths.{made_of}
use Rattle.cat_json.specs.Reads.{read_as}
use Rattle.cat_json.specs.WholeNumbers.{integer_of, whole_in}
use Rattle.cat_json.proofs.Exported.{at_level, json_of-read}
use Rattle.cat_verify_tables.specs.inside.PlainWords.{begins_plainly, truth_text, IsPlainNumber, IsReadAs}

-- ---- numbers

first_digit : (text : List ℕ) → begins_plainly text ≡ true → get_or text 0 0 ≢ 43
first_digit [] plain = absurd (cc)
first_digit (b ∷ []) plain = λ plus. grind (arith, nat_tests)
first_digit (b ∷ c ∷ bs) plain = λ plus. grind (arith, nat_tests)

no_zero : (text : List ℕ) → begins_plainly text ≡ true → get_or text 0 0 ≡ 48 → length text ≡ 1
no_zero [] plain zero = absurd (cc)
no_zero (b ∷ []) plain zero = refl
no_zero (b ∷ c ∷ bs) plain zero = absurd (grind (arith, nat_tests))

-- what is parsed of a text that begins plainly is the number whose decimals it is
pub plainly_parsed : {E : Type 0} (text : List ℕ) (n : ℕ) (r : Result ℕ E) → ParsesUnsigned 32 10 text r
    → begins_plainly text ≡ true → r ≡ Ok n → IsPlainNumber text n
plainly_parsed {E} text n r parses plain is =
    let own = numerals_by_value (AllDigits 10) tells_digits in
    let told : OkIff {E = E} (Ok n) (AllDigits 10 text × (0 < length text) × (digits_value 10 text < 2 ^ 32))
    (digits_value 10 text) =
    subst (λ (r : Result ℕ E). OkIff r (AllDigits 10 text × (0 < length text) × (digits_value 10 text < 2 ^ 32))
    (digits_value 10 text)) is (parse_plain own 32 text r parses (first_digit text plain)) in
    let small : digits_value 10 text < 2 ^ 64 = omega (arith, told.0.2) in
    let back = decimal-digits_value own text told.0.0 told.0.1 (no_zero text plain) small in
    (sym back ∙ ap decimal (sym told.1), omega (arith, told.0.2, told.1))

-- ---- JSON

-- data whose JSON is printed is read back from its text
read_back : (d : Data) → HasNumbers (outline d) → tree.depth (outline d) ≤ max_depth → of_json (outline d) ≡ Some d
    → read (compact_text d) ≡ Some d
read_back d numbers shallow back =
    let j = outline d in
    let printed : tokens (compact_text d) ≡ tree.json_tokens j ++ [] =
    ap tokens (sym (print-outline d)) ∙ tokens-print (tree.json_tokens j) (ArePrintable-json_tokens j numbers)
    ∙ sym (append-nil (tree.json_tokens j)) in
    ap (λ (o : Option (json.Json × List Token)). option_and_then of_json
    (option_and_then (λ p. json.if_last p.0 p.1) o))
    (ap (json.value max_depth) printed ∙ value-json_tokens j max_depth [] shallow) ∙ back

number_read : (n : ℕ) → n < 2 ^ 64 → read (decimal n) ≡ Some (number (unsigned n))
number_read n small =
    read_back (number (unsigned n)) (IsNumber-decimal n small) (omega arith)
    (ap (option_map number) (number_of-decimal n small))

truth_read : (b : Bool) → read (truth_text b) ≡ Some (boolean b)
truth_read true = read_back (boolean true) tt (omega arith) refl
truth_read false = read_back (boolean false) tt (omega arith) refl

number_utf8 : (n : ℕ) → n < 2 ^ 64 → IsUtf8 (decimal n)
number_utf8 n small = IsUtf8-from_ascii (decimal n) (IsAscii-decimal n small)

truth_utf8 : (b : Bool) → IsUtf8 (truth_text b)
truth_utf8 true = IsUtf8-are_ascii (codes "true") refl
truth_utf8 false = IsUtf8-are_ascii (codes "false") refl

-- ---- values

pub number_value : (n : ℕ) → n < 2 ^ 32 → IsReadAs (decimal n) flat_ty.Integer (flat.Integer (pos n))
number_value n low = λ ds.
    let d = number (unsigned n) in
    let small : n < 2 ^ 64 = omega (arith, low) in
    let within : nat_le n largest ≡ true = grind (arith, nat_tests) in
    let fit : fits (pos n) ≡ true = within in
    let out : ty.out-Ty flat_ty.Integer ≡ Ty-F.Integer = search (rules, ty.the_lemmas) in
    let whole : whole_in (integer_of d) ≡ Ok (pos n) = rw fit refl in (
      ap (read_from (λ x. answered (read_as ds x flat_ty.Integer)))
          (json_of-read (decimal n) d (number_utf8 n small) (number_read n small))
          ∙ ap answered (at_level ds d flat_ty.Integer Ty-F.Integer out ∙ ap (made_of flat.Integer) whole),
      has_type_Integer ds (pos n) flat_ty.Integer ∙ ap (integer_typed (pos n)) out ∙ fit,
    )

pub truth_value : (b : Bool) → IsReadAs (truth_text b) flat_ty.Boolean (flat.Boolean b)
truth_value b = λ ds.
    let out : ty.out-Ty flat_ty.Boolean ≡ Ty-F.Boolean = search (rules, ty.the_lemmas) in (
      ap (read_from (λ x. answered (read_as ds x flat_ty.Boolean)))
          (json_of-read (truth_text b) (boolean b) (truth_utf8 b) (truth_read b))
          ∙ ap answered (at_level ds (boolean b) flat_ty.Boolean Ty-F.Boolean out),
      has_type_Boolean ds b flat_ty.Boolean ∙ ap is_boolean out,
    )
