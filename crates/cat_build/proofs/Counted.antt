-- A tree has no more items, and a structure no more fields, than a u32 numbers: each has a token, and each token a
-- byte.
use Rattle.std.proofs.Common.{◌≡◌, ◌≢◌, ◌≤◌, ◌<◌, ◌+◌, ℕ, Bool, true, false, List, [], ◌∷◌, refl, ap, arith}
use Rattle.std.proofs.lemmas.List.{length-append}
use Rattle.std.specs.Prelude.{◌++◌, length}
use Rattle.cat_pos.specs.declared.limits.TheConstants.{ENTRIES_BOUND}
use Rattle.cat_pos.specs.declared.pos.Pos.{Pos}
use Rattle.cat_pos.specs.declared.pos.Piece.{Piece}
use Rattle.cat_lex.specs.declared.token.Token.{Token}
use Rattle.cat_lex.specs.Lexes.{Lexes, AreTokens, left_after}
use Rattle.cat_lex.proofs.Spelled.{word_some}
use Rattle.cat_tree.specs.declared.name.Name.{Name}
use Rattle.cat_tree.specs.declared.program.Item.{Item}
use Rattle.cat_tree.specs.declared.program.Item.TheVariants as item
use Rattle.cat_tree.specs.declared.program.FieldItem.{FieldItem}
use Rattle.cat_tree.specs.declared.program.Tree.{Tree}
use Rattle.cat_tree.specs.Phrase.{Parts, End, Word, Part, AreSpelled}
use Rattle.cat_tree.specs.Joined.{◌▸◌, all}
use Rattle.cat_tree.specs.Declarations.{field_parts}
use Rattle.cat_tree.specs.Programs.{item_parts}
use Rattle.cat_weave.specs.Causes.{AreReadableTogether, pieces_total}
use Rattle.cat_names.specs.Written.{structures_in}
use Rattle.cat_names.specs.Accepted.{AreCounted, IsParsed}
use Rattle.cat_build.specs.Accepted.{IsTreeOf}

-- ---- tokens

some_length : (word : List ℕ) → word ≢ [] → 0 < length word
some_length [] some = absurd (some refl)
some_length (c ∷ cs) some = omega arith

tokens_of_piece : (piece : Piece) (tokens : List Token) (left : Piece) → AreTokens piece tokens left
    → length tokens + length left.text ≤ length piece.text
tokens_of_piece piece [] left are = omega (arith, ap (λ (p : Piece). length p.text) are)
tokens_of_piece piece (token ∷ tokens) left are =
    let gap = are.0 in
    let word = are.1 in
    let rest = are.2 in
    let split : length piece.text ≡ length (gap ++ (word ++ rest)) = ap (λ (w : List ℕ). length w) are.3 in
    let some : 0 < length word = some_length word (word_some are.5.form word rest are.5.longest.formed) in
    let more = tokens_of_piece (left_after piece (gap ++ word) rest) tokens left are.6 in
    omega (arith, split, some, more, length-append gap (word ++ rest), length-append word rest)

pub tokens_few : (pieces : List Piece) (tokens : List Token) → Lexes pieces tokens
    → length tokens ≤ pieces_total pieces
tokens_few [] tokens lexed = omega (arith, ap (λ (ts : List Token). length ts) lexed)
tokens_few (piece ∷ pieces) tokens lexed =
    let here = lexed.0 in
    let more = lexed.1 in
    let both : length tokens ≡ length (here ++ more) = ap (λ (ts : List Token). length ts) lexed.2 in
    let first = tokens_of_piece piece here lexed.3.left lexed.3.spelled in
    let others = tokens_few pieces more lexed.4 in
    omega (arith, both, first, others, length-append here more)

-- ---- items and fields

-- what stands behind a row has some of the tokens
spelled_behind : (ps qs : Parts) (tokens : List Token) → AreSpelled (ps ▸ qs) tokens
    → (back : List Token) × AreSpelled qs back × (length back ≤ length tokens)
spelled_behind End qs tokens are = (tokens, are, omega arith)
spelled_behind (Word m ps) qs tokens are =
    let more = spelled_behind ps qs are.1 are.4 in
    let one : length tokens ≡ length (are.0 ∷ are.1) = ap (λ (ts : List Token). length ts) are.2 in
    (more.0, more.1, omega (arith, one, more.2))
spelled_behind (Part s e ps) qs tokens are =
    let more = spelled_behind ps qs are.1 are.4 in
    let one : length tokens ≡ length (are.0 ++ are.1) = ap (λ (ts : List Token). length ts) are.2 in
    (more.0, more.1, omega (arith, one, more.2, length-append are.0 are.1))

-- what stands behind a row that has a word in front has less of the tokens
abbrev Behind : Parts → List Token → Type 0
Behind qs tokens = (back : List Token) × AreSpelled qs back × (length back < length tokens)

-- whether a row has a word in front
abbrev has_word : Parts → Bool
has_word End = false
has_word (Word m ps) = true
has_word (Part s e ps) = false

behind_word : (ps qs : Parts) (tokens : List Token) → has_word ps ≡ true → AreSpelled (ps ▸ qs) tokens
    → Behind qs tokens
behind_word End qs tokens begins are = cc begins
behind_word (Part s e ps) qs tokens begins are = cc begins
behind_word (Word m ps) qs tokens begins are =
    let more = spelled_behind ps qs are.1 are.4 in
    let one : length tokens ≡ length (are.0 ∷ are.1) = ap (λ (ts : List Token). length ts) are.2 in
    (more.0, more.1, omega (arith, one, more.2))

-- what stands in front has some of the tokens
spelled_front : (ps qs : Parts) (tokens : List Token) → AreSpelled (ps ▸ qs) tokens
    → (front : List Token) × AreSpelled ps front × (length front ≤ length tokens)
spelled_front End qs tokens are = ([], refl, omega arith)
spelled_front (Word m ps) qs tokens are =
    let more = spelled_front ps qs are.1 are.4 in
    let one : length tokens ≡ length (are.0 ∷ are.1) = ap (λ (ts : List Token). length ts) are.2 in
    (are.0 ∷ more.0, (are.0, more.0, refl, are.3, more.1), omega (arith, one, more.2))
spelled_front (Part s e ps) qs tokens are =
    let more = spelled_front ps qs are.1 are.4 in
    let one : length tokens ≡ length (are.0 ++ are.1) = ap (λ (ts : List Token). length ts) are.2 in (
      are.0 ++ more.0,
      (are.0, more.0, refl, are.3, more.1),
      omega (arith, one, more.2, length-append are.0 are.1, length-append are.0 more.0),
    )

-- where each of a list begins with a word, there are no more of them than tokens
all_few : {A : Type 0} (row : A → Parts)
    → ((x : A) (qs : Parts) (tokens : List Token) → AreSpelled (row x ▸ qs) tokens → Behind qs tokens)
    → (xs : List A) (tokens : List Token) → AreSpelled (all row xs) tokens → length xs ≤ length tokens
all_few row one [] tokens are = omega arith
all_few row one (x ∷ xs) tokens are =
    let more = one x (all row xs) tokens are in
    let others = all_few row one xs more.0 more.1 in
    omega (arith, more.2, others)

one_item : (i : Item) (qs : Parts) (tokens : List Token) → AreSpelled (item_parts i ▸ qs) tokens → Behind qs tokens
one_item (item.Structure p u fields) qs tokens are =
    behind_word (item_parts (item.Structure p u fields)) qs tokens refl are
one_item (item.Enumeration p u cases) qs tokens are =
    behind_word (item_parts (item.Enumeration p u cases)) qs tokens refl are
one_item (item.Scope p u variables) qs tokens are =
    behind_word (item_parts (item.Scope p u variables)) qs tokens refl are
one_item (item.Block b) qs tokens are = behind_word (item_parts (item.Block b)) qs tokens refl are

one_field : (f : FieldItem) (qs : Parts) (tokens : List Token) → AreSpelled (field_parts f ▸ qs) tokens
    → Behind qs tokens
one_field f qs tokens are = behind_word (field_parts f) qs tokens refl are

-- the fields of a structure
fields_few : (p : Pos) (u : Name) (fields : List FieldItem) (qs : Parts) (tokens : List Token)
    → AreSpelled (item_parts (item.Structure p u fields) ▸ qs) tokens → length fields ≤ length tokens
fields_few p u fields qs tokens are =
    let fields_are = spelled_front (all field_parts fields) qs are.4.4.4.1 are.4.4.4.4 in
    let few = all_few field_parts one_field fields fields_are.0 fields_are.1 in
    let one : length tokens ≡ length (are.0 ∷ are.1) = ap (λ (ts : List Token). length ts) are.2 in
    let two : length are.1 ≡ length (are.4.0 ∷ are.4.1) = ap (λ (ts : List Token). length ts) are.4.2 in
    let three : length are.4.1 ≡ length (are.4.4.0 ∷ are.4.4.1) =
    ap (λ (ts : List Token). length ts) are.4.4.2 in
    let four : length are.4.4.1 ≡ length (are.4.4.4.0 ∷ are.4.4.4.1) =
    ap (λ (ts : List Token). length ts) are.4.4.4.2 in
    omega (arith, one, two, three, four, few, fields_are.2)

counted : (items : List Item) (tokens : List Token) → AreSpelled (all item_parts items) tokens
    → length tokens < ENTRIES_BOUND → AreCounted (structures_in items)
counted [] tokens are few = tt
counted (item.Structure p u fields ∷ more) tokens are few =
    let behind = one_item (item.Structure p u fields) (all item_parts more) tokens are in (
      omega (arith, few, fields_few p u fields (all item_parts more) tokens are),
      counted more behind.0 behind.1 (omega (arith, few, behind.2)),
    )
counted (item.Enumeration p u cases ∷ more) tokens are few =
    let behind = one_item (item.Enumeration p u cases) (all item_parts more) tokens are in
    counted more behind.0 behind.1 (omega (arith, few, behind.2))
counted (item.Scope p u variables ∷ more) tokens are few =
    let behind = one_item (item.Scope p u variables) (all item_parts more) tokens are in
    counted more behind.0 behind.1 (omega (arith, few, behind.2))
counted (item.Block b ∷ more) tokens are few =
    let behind = one_item (item.Block b) (all item_parts more) tokens are in
    counted more behind.0 behind.1 (omega (arith, few, behind.2))

-- the tree of pieces was read, and its lists are numbered
pub parsed : (pieces : List Piece) (tree : Tree) → AreReadableTogether pieces → IsTreeOf pieces tree → IsParsed tree
parsed pieces tree readable is =
    let few : length is.tokens < ENTRIES_BOUND =
    omega (arith, tokens_few pieces is.tokens is.lexed, readable.together) in
    let words = is.spelled.spells.words in
    record {
      filled = is.spelled.spells.filled;
      items = omega (arith, few, all_few item_parts one_item tree.items is.tokens words);
      fields = counted tree.items is.tokens words few;
    }
