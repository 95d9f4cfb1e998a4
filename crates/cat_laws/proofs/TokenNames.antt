-- The names that stand in tokens.
use Rattle.std.proofs.Common.{◌≡◌, ℕ, Bool, true, false, IsTrue, List, [], ◌∷◌, ◌++◌, Option, Some, None, sym, subst}
use Rattle.std.specs.Option.{option_map}
use Rattle.cat_pos.specs.declared.pos.Piece.{Piece}
use Rattle.cat_date.specs.declared.day.Day.{Day}
use Rattle.cat_scope.specs.Names.{AllHave}
use Rattle.cat_lex.specs.declared.form.Form.{Form}
use Rattle.cat_lex.specs.declared.form.Form.TheVariants.{TypeWord, Word, Pair, Whole, Decimal, Percent, Amount, Date}
use Rattle.cat_lex.specs.declared.form.Form.TheVariants.{Mark}
use Rattle.cat_lex.specs.declared.token.Token.{Token}
use Rattle.cat_lex.specs.declared.token.TokenKind.{TokenKind}
use Rattle.cat_lex.specs.declared.token.TokenKind.TheVariants as kind
use Rattle.cat_lex.specs.declared.words.Keyword.{Keyword}
use Rattle.cat_lex.specs.Forms.{HasForm}
use Rattle.cat_lex.specs.Lexes.{Lexes, AreTokens, left_after}
use Rattle.cat_lex.specs.Values.{token_of, within, word_kind}
use Rattle.cat_lex.specs.Words.{keyword_of}
use Rattle.cat_laws.specs.Unbroken.{is_unbroken}
use Rattle.cat_laws.proofs.WordBytes.{capital_bytes, name_bytes}

-- the name that a token is, where it is one, holds neither a line feed nor a hyphen
abbrev pub IsUnbrokenKind : TokenKind → Type 0
IsUnbrokenKind (kind.Upper word) = IsTrue (is_unbroken word)
IsUnbrokenKind (kind.Lower word) = IsTrue (is_unbroken word)
IsUnbrokenKind k = Unit {0}

abbrev pub IsUnbrokenToken : Token → Type 0
IsUnbrokenToken t = IsUnbrokenKind t.kind

same_kind : (k other : TokenKind) → IsUnbrokenKind k → Some k ≡ Some other → IsUnbrokenKind other
same_kind k other h same = let e : k ≡ other = cc same in subst IsUnbrokenKind e h

of_within : (fits : Bool) (k other : TokenKind) → IsUnbrokenKind k → within fits k ≡ Some other → IsUnbrokenKind other
of_within true k other h same = same_kind k other h same
of_within false k other h same = absurd (cc same)

of_date : (day : Option Day) (other : TokenKind) → option_map (λ d. kind.Date d) day ≡ Some other
    → IsUnbrokenKind other
of_date None other same = absurd (cc same)
of_date (Some d) other same = same_kind (kind.Date d) other tt same

of_word : (found : Option Keyword) (word : List ℕ) → IsTrue (is_unbroken word) → IsUnbrokenKind (word_kind found word)
of_word None word h = h
of_word (Some k) word h = tt

of_form : (form : Form) (word rest : List ℕ) (k : TokenKind) → HasForm form word rest → token_of form word ≡ Some k
    → IsUnbrokenKind k
of_form TypeWord word rest k has is = same_kind (kind.Upper word) k (capital_bytes word has) is
of_form Word word rest k has is =
    same_kind (word_kind (keyword_of word) word) k (of_word (keyword_of word) word (name_bytes word has)) is
of_form (Pair keyword) word rest k has is = same_kind (kind.Pair keyword) k tt is
of_form Whole word rest k has is = of_within _ _ k tt is
of_form Decimal word rest k has is = of_within _ _ k tt is
of_form Percent word rest k has is = of_within _ _ k tt is
of_form Amount word rest k has is = of_within _ _ k tt is
of_form Date word rest k has is = of_date _ k is
of_form (Mark symbol) word rest k has is = same_kind (kind.Symbol symbol) k tt is

-- ---- pieces

pub all_both : {A : Type 0} (Has : A → Type 0) (xs ys : List A) → AllHave Has xs → AllHave Has ys
    → AllHave Has (xs ++ ys)
all_both Has [] ys one two = two
all_both Has (x ∷ xs) ys one two = (one.0, all_both Has xs ys one.1 two)

pub all_behind : {A : Type 0} (Has : A → Type 0) (xs ys : List A) → AllHave Has (xs ++ ys) → AllHave Has ys
all_behind Has [] ys all = all
all_behind Has (x ∷ xs) ys all = all_behind Has xs ys all.1

of_piece : (piece : Piece) (tokens : List Token) (left : Piece) → AreTokens piece tokens left
    → AllHave IsUnbrokenToken tokens
of_piece piece [] left are = tt
of_piece piece (token ∷ tokens) left are =
    let is = are.5 in (
      of_form is.form are.1 are.2 token.kind is.longest.formed is.kind,
      of_piece (left_after piece (are.0 ++ are.1) are.2) tokens left are.6,
    )

pub of_pieces : (pieces : List Piece) (tokens : List Token) → Lexes pieces tokens → AllHave IsUnbrokenToken tokens
of_pieces [] tokens lexed = subst (AllHave IsUnbrokenToken) (sym lexed) tt
of_pieces (piece ∷ pieces) tokens lexed =
    subst (AllHave IsUnbrokenToken) (sym lexed.2)
    (all_both IsUnbrokenToken lexed.0 lexed.1 (of_piece piece lexed.0 lexed.3.left lexed.3.spelled)
    (of_pieces pieces lexed.1 lexed.4))
