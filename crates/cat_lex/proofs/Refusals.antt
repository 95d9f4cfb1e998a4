-- Pieces that are refused are no tokens, and have one position of refusal.
use Rattle.std.proofs.Common.{◌≡◌, ◌≢◌, ℕ, false, List, [], ◌∷◌, ◌++◌, ◌⊎◌, refl, sym, ap, ◌∙◌, subst, inl, inr}
use Rattle.std.specs.Prelude.{Some, None}
use Rattle.std.specs.Str.{IsUtf8}
use Rattle.cat_pos.specs.declared.pos.Pos.{Pos}
use Rattle.cat_pos.specs.declared.pos.Piece.{Piece}
use Rattle.cat_lex.specs.declared.form.Form.{Form}
use Rattle.cat_lex.specs.declared.token.Token.{Token}
use Rattle.cat_lex.specs.declared.refusal.LexRefusal.{LexRefusal}
use Rattle.cat_lex.specs.declared.refusal.LexRefusal.TheVariants.{NoToken, LiteralRange, Memory}
use Rattle.cat_lex.specs.Gaps.{IsLastGap}
use Rattle.cat_lex.specs.Values.{token_of}
use Rattle.cat_lex.specs.Lexes.{IsToken, AreTokens, IsPieceOf, Lexes, BeginsNoToken, PassesBound, FailsIn, FailsAt}
use Rattle.cat_lex.specs.Lexes.{HasCause}
use Rattle.cat_lex.specs.inside.Reading.{skip_gap}
use Rattle.cat_lex.proofs.GapLemmas.{gap_skipped, last_skipped}
use Rattle.cat_lex.proofs.Sequences.{skipped_to, token_utf8, tokens_utf8, one_token, GoesOn, goes_on, no_more}

-- a fault that no token has
abbrev Denies : (List ℕ → Type 0) → Type 0
Denies P =
    (text word rest : List ℕ) (token : Token) (position : Pos) → P text → IsUtf8 text → text ≡ word ++ rest
    → IsToken token position word rest → ⊥

no_token_denies : Denies BeginsNoToken
no_token_denies text word rest token position none utf8 split is = none is.form word rest split is.longest.formed

passing_denies : Denies PassesBound
passing_denies text word rest token position passes utf8 split is =
    let one = one_token passes.form is.form passes.word passes.rest word rest
    (sym passes.spelled ∙ split) passes.longest is.longest (subst IsUtf8 passes.spelled utf8) in
    let both : None ≡ Some token.kind = sym passes.out_of_bound
    ∙ (ap (λ (f : Form). token_of f passes.word) one.form_is
    ∙ (ap (λ (w : List ℕ). token_of is.form w) one.word_is ∙ is.kind)) in
    cc

fault_skipped : {P : List ℕ → Type 0} (piece : Piece) (position : Pos) (f : FailsIn piece position P)
    → skip_gap false f.left.text ≡ f.rest
fault_skipped piece position f = ap (skip_gap false) f.split ∙ gap_skipped false f.gap f.rest f.skipped f.no_gap

no_end : {P : List ℕ → Type 0} (piece : Piece) (position : Pos) (f : FailsIn piece position P)
    → IsLastGap f.left.text → ⊥
no_end piece position f last = f.some (sym (fault_skipped piece position f) ∙ last_skipped false f.left.text last)

no_token_there : {P : List ℕ → Type 0} (piece : Piece) (position : Pos) (f : FailsIn piece position P) → Denies P
    → IsUtf8 piece.text → (token : Token) (more : List Token) (end : Piece) → AreTokens f.left (token ∷ more) end → ⊥
no_token_there piece position f denies utf8 token more end are =
    let here : skip_gap false f.left.text ≡ are.1 ++ are.2 =
    skipped_to f.left.text are.0 are.1 are.2 are.5.form are.3 are.4 are.5.longest.formed in
    let split : f.rest ≡ are.1 ++ are.2 = sym (fault_skipped piece position f) ∙ here in
    let left : IsUtf8 f.left.text = tokens_utf8 piece f.tokens f.left f.spelled utf8 in
    let first : IsUtf8 f.rest = subst IsUtf8 (sym split)
    (token_utf8 f.left.text are.0 are.1 are.2 are.5.form left are.3 are.4 are.5.longest.formed) in
    denies f.rest are.1 are.2 token _ f.fault first split are.5

goes_further : {P : List ℕ → Type 0} (piece : Piece) (position : Pos) (f : FailsIn piece position P) → Denies P
    → IsUtf8 piece.text → (more : List Token) (end : Piece) → AreTokens f.left more end → IsLastGap end.text → ⊥
goes_further piece position f denies utf8 [] end are last =
    no_end piece position f (subst (λ (p : Piece). IsLastGap p.text) (sym are) last)
goes_further piece position f denies utf8 (token ∷ more) end are last =
    no_token_there piece position f denies utf8 token more end are

stops_before : {P : List ℕ → Type 0} (piece : Piece) (position : Pos) (f : FailsIn piece position P)
    → (more : List Token) (left : Piece) → IsLastGap left.text → AreTokens left more f.left → ⊥
stops_before piece position f more left last are =
    let none : more ≡ [] = no_more left more f.left last are in
    let same : left ≡ f.left = subst (λ (m : List Token). AreTokens left m f.left) none are in
    no_end piece position f (subst (λ (p : Piece). IsLastGap p.text) same last)

by_either : {P : List ℕ → Type 0} (piece : Piece) (position : Pos) (f : FailsIn piece position P) (tokens : List Token)
    (is : IsPieceOf piece tokens) → Denies P
    → GoesOn f.tokens tokens f.left is.left ⊎ GoesOn tokens f.tokens is.left f.left → ⊥
by_either piece position f tokens is denies (inl g) =
    goes_further piece position f denies is.utf8 g.more is.left g.spelled is.ended
by_either piece position f tokens is denies (inr g) = stops_before piece position f g.more is.left is.ended g.spelled

no_piece : {P : List ℕ → Type 0} (piece : Piece) (position : Pos) (tokens : List Token) → FailsIn piece position P
    → Denies P → IsPieceOf piece tokens → ⊥
no_piece piece position tokens f denies is =
    by_either piece position f tokens is denies
    (goes_on piece f.tokens tokens f.left is.left is.utf8 f.spelled is.spelled)

-- each piece of a reading has its tokens
piece_at : (before : List Piece) (piece : Piece) (after : List Piece) (tokens : List Token)
    → Lexes (before ++ (piece ∷ after)) tokens → (here : List Token) × IsPieceOf piece here
piece_at [] piece after tokens lexed = (lexed.0, lexed.3)
piece_at (first ∷ before) piece after tokens lexed = piece_at before piece after lexed.1 lexed.4

no_pieces : {P : List ℕ → Type 0} (pieces : List Piece) (position : Pos) (tokens : List Token)
    → FailsAt pieces position P → Denies P → Lexes pieces tokens → ⊥
no_pieces pieces position tokens f denies lexed =
    let at = piece_at f.before f.piece f.after tokens (subst (λ (ps : List Piece). Lexes ps tokens) f.split lexed) in
    no_piece f.piece position at.0 f.fails denies at.1

-- pieces that are refused are no tokens
pub refused : (pieces : List Piece) (refusal : LexRefusal) (tokens : List Token) → refusal ≢ Memory
    → HasCause pieces refusal → Lexes pieces tokens → ⊥
refused pieces (NoToken position) tokens other cause lexed =
    no_pieces pieces position tokens cause no_token_denies lexed
refused pieces (LiteralRange position) tokens other cause lexed =
    no_pieces pieces position tokens cause passing_denies lexed
refused pieces Memory tokens other cause lexed = other refl
