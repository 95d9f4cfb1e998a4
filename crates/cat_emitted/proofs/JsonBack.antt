-- JSON whose keys rise and whose numbers fit is read back from its compact text.
use Rattle.std.proofs.Common.{◌≡◌, ◌≤◌, ◌<◌, ◌+◌, ◌^◌, ℕ, suc, max, pos, negsuc, Bool, true, false, List, [], ◌∷◌}
use Rattle.std.proofs.Common.{◌++◌}
use Rattle.std.proofs.Common.{Option, Some, Less, Greater, refl, sym, ap, ap₂, ◌∙◌, arith}
use Rattle.std.proofs.Common.{append-nil, codes, decimal}
use Rattle.std.specs.Prelude.{option_map, option_and_then}
use Rattle.std.specs.Ordering.{ordering_reverse}
use Rattle.std.specs.Ordering.{nat_cmp}
use Rattle.std.specs.Cmp.Lexicographic.{slice_cmp}
use Rattle.std.proofs.lemmas.Cmp.{nat_list_cmp_total}
use Rattle.std.proofs.lemmas.Fmt.{IsAscii-decimal, IsAscii-signed}
use Rattle.std.proofs.lemmas.Str.{IsUtf8-append, IsUtf8-from_ascii}
use Rattle.std.specs.Fmt.{signed_decimal}
use Rattle.std.specs.Str.{IsUtf8}
use Rattle.json.specs.Print.{quoted}
use Rattle.json.proofs.Printed.Utf8.{IsUtf8-are_ascii, IsUtf8-quoted}
use Rattle.json.specs.Json as json
use Rattle.json.specs.Token.{Token}
use Rattle.json.specs.Lex.{tokens}
use Rattle.json.specs.Tree as tree
use Rattle.json.specs.Tree.{HasNumbers, ItemsHaveNumbers, MembersHaveNumbers}
use Rattle.json.proofs.Printed.Decimals.{IsNumber-decimal, IsNumber-signed_decimal}
use Rattle.json.proofs.Printed.Tokens.{tokens-print}
use Rattle.json.proofs.Printed.Trees.{ArePrintable-json_tokens, value-json_tokens}
use Rattle.serde_json.specs.Data.{Num, unsigned, negative, float, Data, null, boolean, number, string, array, object}
use Rattle.serde_json.specs.Data.{Items, no_items, item, Members, no_members, member, put, depth, items_depth}
use Rattle.serde_json.specs.Data.{members_depth}
use Rattle.serde_json.specs.Read.{read, of_json, of_items, of_members, number_of, max_depth}
use Rattle.serde_json.specs.Written.{compact_text, items_text, members_text, comma_if, outline, items_outline}
use Rattle.serde_json.specs.Written.{members_outline, number_text}
use Rattle.serde_json.proofs.Numbers.{number_of-decimal, number_of-negative}
use Rattle.serde_json.proofs.Texts.{print-outline}

-- ---- keys that rise

-- each key is above that one
abbrev pub AllAbove : List ℕ → Members → Type 0
AllAbove k no_members = Unit {0}
AllAbove k (member l d ms) = (slice_cmp nat_cmp k l ≡ Less) × AllAbove k ms

-- each key is below that one
abbrev AllBelow : Members → List ℕ → Type 0
AllBelow no_members k = Unit {0}
AllBelow (member l d ms) k = (slice_cmp nat_cmp k l ≡ Greater) × AllBelow ms k

-- a number that is read back
abbrev pub FitsBack : Num → Type 0
FitsBack (unsigned n) = n < 2 ^ 64
FitsBack (negative (pos n)) = ⊥
FitsBack (negative (negsuc n)) = n + 1 < 2 ^ 63
FitsBack (float x) = ⊥

-- JSON that is read back: its numbers fit, its texts are UTF-8, and its keys rise
abbrev mutual
  pub IsOwn : Data → Type 0
  IsOwn null = Unit {0}
  IsOwn (boolean b) = Unit {0}
  IsOwn (number n) = FitsBack n
  IsOwn (string s) = IsUtf8 s
  IsOwn (array ds) = AreOwnItems ds
  IsOwn (object ms) = AreOwnMembers ms

  pub AreOwnItems : Items → Type 0
  AreOwnItems no_items = Unit {0}
  AreOwnItems (item d ds) = IsOwn d × AreOwnItems ds

  pub AreOwnMembers : Members → Type 0
  AreOwnMembers no_members = Unit {0}
  AreOwnMembers (member k d ms) = IsUtf8 k × IsOwn d × AllAbove k ms × AreOwnMembers ms

-- ---- numbers

number_fits : (n : Num) → FitsBack n → tree.HasNumbers (json.number (number_text n))
number_fits (unsigned n) small = IsNumber-decimal n small
number_fits (negative (pos n)) small = elim small [ ]
number_fits (negative (negsuc n)) small = IsNumber-signed_decimal (negsuc n) (omega (arith, small))
number_fits (float x) small = elim small [ ]

number_back : (n : Num) → FitsBack n → number_of (number_text n) ≡ Some n
number_back (unsigned n) small = number_of-decimal n small
number_back (negative (pos n)) small = elim small [ ]
number_back (negative (negsuc n)) small = number_of-negative n (omega (arith, small))
number_back (float x) small = elim small [ ]

mutual
  numbers : (d : Data) → IsOwn d → HasNumbers (outline d)
  numbers null own = tt
  numbers (boolean b) own = tt
  numbers (number n) own = number_fits n own
  numbers (string s) own = tt
  numbers (array ds) own = items_numbers ds own
  numbers (object ms) own = members_numbers ms own

  items_numbers : (ds : Items) → AreOwnItems ds → ItemsHaveNumbers (items_outline ds)
  items_numbers no_items own = tt
  items_numbers (item d ds) own = (numbers d own.0, items_numbers ds own.1)

  members_numbers : (ms : Members) → AreOwnMembers ms → MembersHaveNumbers (members_outline ms)
  members_numbers no_members own = tt
  members_numbers (member k d ms) own = (numbers d own.1, members_numbers ms own.3)

-- ---- depths

mutual
  depths : (d : Data) → tree.depth (outline d) ≡ depth d
  depths null = refl
  depths (boolean b) = refl
  depths (number n) = refl
  depths (string s) = refl
  depths (array ds) = ap suc (items_depths ds)
  depths (object ms) = ap suc (members_depths ms)

  items_depths : (ds : Items) → tree.items_depth (items_outline ds) ≡ items_depth ds
  items_depths no_items = refl
  items_depths (item d ds) = ap₂ max (depths d) (items_depths ds)

  members_depths : (ms : Members) → tree.members_depth (members_outline ms) ≡ members_depth ms
  members_depths no_members = refl
  members_depths (member k d ms) = ap₂ max (depths d) (members_depths ms)

-- ---- members, put one behind the other

abbrev join : Members → Members → Members
join no_members ms = ms
join (member l e found) ms = member l e (join found ms)

put_last : (k : List ℕ) (d : Data) (found : Members) → AllBelow found k
    → put k d found ≡ join found (member k d no_members)
put_last k d no_members below = refl
put_last k d (member l e found) below = rw below.0 (ap (member l e) (put_last k d found below.1))

join_more : (found : Members) (k : List ℕ) (d : Data) (ms : Members)
    → join (join found (member k d no_members)) ms ≡ join found (member k d ms)
join_more no_members k d ms = refl
join_more (member l e found) k d ms = ap (member l e) (join_more found k d ms)

join_none : (found : Members) → join found no_members ≡ found
join_none no_members = refl
join_none (member l e found) = ap (member l e) (join_none found)

-- what was found is below all that comes
abbrev AreBelow : Members → Members → Type 0
AreBelow found no_members = Unit {0}
AreBelow found (member k d ms) = AllBelow found k × AreBelow found ms

below_one : (found : Members) (k m : List ℕ) (d : Data) → AllBelow found m → slice_cmp nat_cmp k m ≡ Less
    → AllBelow (join found (member k d no_members)) m
below_one no_members k m d below above = (nat_list_cmp_total.antisymm m k ∙ ap ordering_reverse above, tt)
below_one (member l e found) k m d below above = (below.0, below_one found k m d below.1 above)

below_more : (found : Members) (k : List ℕ) (d : Data) (ms : Members) → AreBelow found ms → AllAbove k ms
    → AreBelow (join found (member k d no_members)) ms
below_more found k d no_members below above = tt
below_more found k d (member m e ms) below above =
    (below_one found k m d below.0 above.0, below_more found k d ms below.1 above.1)

none_below : (ms : Members) → AreBelow no_members ms
none_below no_members = tt
none_below (member k d ms) = (tt, none_below ms)

-- ---- back from JSON

mutual
  data_back : (d : Data) → IsOwn d → of_json (outline d) ≡ Some d
  data_back null own = refl
  data_back (boolean b) own = refl
  data_back (number n) own = ap (option_map number) (number_back n own)
  data_back (string s) own = refl
  data_back (array ds) own = ap (option_map array) (items_back ds own)
  data_back (object ms) own = ap (option_map object) (members_back no_members ms own (none_below ms))

  items_back : (ds : Items) → AreOwnItems ds → of_items (items_outline ds) ≡ Some ds
  items_back no_items own = refl
  items_back (item d ds) own = rw (data_back d own.0) (ap (option_map (item d)) (items_back ds own.1))

  members_back : (found ms : Members) → AreOwnMembers ms → AreBelow found ms
      → of_members (members_outline ms) found ≡ Some (join found ms)
  members_back found no_members own below = ap (λ (ms : Members). Some ms) (sym (join_none found))
  members_back found (member k d ms) own below =
      rw (data_back d own.1)
      (ap (of_members (members_outline ms)) (put_last k d found below.0)
      ∙ members_back (join found (member k d no_members)) ms own.3 (below_more found k d ms below.1 own.2)
      ∙ ap (λ (all : Members). Some all) (join_more found k d ms))

-- ---- from the text

-- the data that tokens are, where they are all that there is
abbrev whole : Option (json.Json × List Token) → Option Data
whole o = option_and_then of_json (option_and_then (λ p. json.if_last p.0 p.1) o)

pub text_back : (d : Data) → IsOwn d → depth d ≤ max_depth → read (compact_text d) ≡ Some d
text_back d own low =
    let j = outline d in
    let shallow : tree.depth j ≤ max_depth = omega (arith, low, depths d) in
    let printed : tokens (compact_text d) ≡ tree.json_tokens j ++ [] =
    ap tokens (sym (print-outline d))
    ∙ tokens-print (tree.json_tokens j) (ArePrintable-json_tokens j (numbers d own))
    ∙ sym (append-nil (tree.json_tokens j)) in
    ap whole (ap (json.value max_depth) printed ∙ value-json_tokens j max_depth [] shallow) ∙ data_back d own

-- ---- the text is UTF-8

number_utf8 : (n : Num) → FitsBack n → IsUtf8 (number_text n)
number_utf8 (unsigned n) small = IsUtf8-from_ascii (decimal n) (IsAscii-decimal n small)
number_utf8 (negative (pos n)) small = elim small [ ]
number_utf8 (negative (negsuc n)) small =
    IsUtf8-from_ascii (signed_decimal (negsuc n)) (IsAscii-signed (negsuc n) (omega (arith, small)))
number_utf8 (float x) small = elim small [ ]

comma_utf8 : (later : Bool) → IsUtf8 (comma_if later)
comma_utf8 true = IsUtf8-are_ascii (44 ∷ []) refl
comma_utf8 false = IsUtf8-are_ascii [] refl

mutual
  pub data_utf8 : (d : Data) → IsOwn d → IsUtf8 (compact_text d)
  data_utf8 null own = IsUtf8-are_ascii (codes "null") refl
  data_utf8 (boolean true) own = IsUtf8-are_ascii (codes "true") refl
  data_utf8 (boolean false) own = IsUtf8-are_ascii (codes "false") refl
  data_utf8 (number n) own = number_utf8 n own
  data_utf8 (string s) own = IsUtf8-quoted s own
  data_utf8 (array ds) own =
      IsUtf8-append (91 ∷ []) (items_text false ds) (IsUtf8-are_ascii (91 ∷ []) refl) (items_utf8 false ds own)
  data_utf8 (object ms) own =
      IsUtf8-append (123 ∷ []) (members_text false ms) (IsUtf8-are_ascii (123 ∷ []) refl) (members_utf8 false ms own)

  items_utf8 : (later : Bool) (ds : Items) → AreOwnItems ds → IsUtf8 (items_text later ds)
  items_utf8 later no_items own = IsUtf8-are_ascii (93 ∷ []) refl
  items_utf8 later (item d ds) own =
      IsUtf8-append (comma_if later) (compact_text d ++ items_text true ds) (comma_utf8 later)
      (IsUtf8-append (compact_text d) (items_text true ds) (data_utf8 d own.0) (items_utf8 true ds own.1))

  members_utf8 : (later : Bool) (ms : Members) → AreOwnMembers ms → IsUtf8 (members_text later ms)
  members_utf8 later no_members own = IsUtf8-are_ascii (125 ∷ []) refl
  members_utf8 later (member k d ms) own =
      let rest = compact_text d ++ members_text true ms in
      IsUtf8-append (comma_if later) (quoted k ++ 58 ∷ rest) (comma_utf8 later)
      (IsUtf8-append (quoted k) (58 ∷ rest) (IsUtf8-quoted k own.0)
      (IsUtf8-append (58 ∷ []) rest (IsUtf8-are_ascii (58 ∷ []) refl)
      (IsUtf8-append (compact_text d) (members_text true ms) (data_utf8 d own.1) (members_utf8 true ms own.3))))
