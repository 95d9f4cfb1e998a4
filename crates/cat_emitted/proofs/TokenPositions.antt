-- The file of a token is that of its piece.
use Rattle.std.proofs.Common.{◌≡◌, ◌<◌, ◌+◌, ℕ, Bool, true, false, List, [], ◌∷◌, ◌++◌, refl, sym, ap, ◌∙◌, subst}
use Rattle.std.proofs.Common.{arith}
use Rattle.std.proofs.Common.{if◌then◌else◌}
use Rattle.cat_pos.specs.declared.limits.TheConstants.{MOST_FILES}
use Rattle.cat_pos.specs.declared.pos.Piece.{Piece}
use Rattle.cat_pos.specs.declared.pos.Pos.{Pos}
use Rattle.cat_pos.specs.Position.{is_line_feed, pos_of, pos_file, pos_column}
use Rattle.cat_pos.proofs.Packing.{file_kept}
use Rattle.cat_lex.specs.Positions.{next_position, position_after}
use Rattle.cat_lex.specs.declared.token.Token.{Token}
use Rattle.cat_lex.specs.Lexes.{Lexes, AreTokens, left_after}
use Rattle.cat_scope.specs.Names.{AllHave}
use Rattle.cat_scope.proofs.Exported.{all_append}

-- ---- positions behind bytes

file_below : (p : Pos) → pos_file p < MOST_FILES
file_below p = omega arith

next_file : (p : Pos) (byte : ℕ) → pos_file (next_position p byte) ≡ pos_file p
next_file p byte = by (is_line_feed byte)
  where
    by : (b : Bool) → pos_file (if b then pos_of (pos_file p) (p.line + 1) 1
        else pos_of (pos_file p) p.line (pos_column p + 1)) ≡ pos_file p
    by true = file_kept (pos_file p) (p.line + 1) 1 (file_below p)
    by false = file_kept (pos_file p) p.line (pos_column p + 1) (file_below p)

pub after_file : (p : Pos) (bytes : List ℕ) → pos_file (position_after p bytes) ≡ pos_file p
after_file p [] = refl
after_file p (byte ∷ bytes) = after_file (next_position p byte) bytes ∙ next_file p byte

-- ---- tokens

module _ (Q : ℕ → Type 0) where
  -- the files of positions have the property
  abbrev pub AreIn : List Token → Type 0
  AreIn tokens = AllHave (λ t. Q (pos_file t.pos)) tokens

  tokens_in : (piece : Piece) (tokens : List Token) (left : Piece) → AreTokens piece tokens left
      → Q (pos_file piece.pos) → AreIn tokens
  tokens_in piece [] left are has = tt
  tokens_in piece (token ∷ tokens) left are has = (
    subst Q (sym (ap pos_file are.5.position_is ∙ after_file piece.pos are.0)) has,
    tokens_in (left_after piece (are.0 ++ are.1) are.2) tokens left are.6
        (subst Q (sym (after_file piece.pos (are.0 ++ are.1))) has),
  )

  pub lexed_in : (pieces : List Piece) (tokens : List Token) → Lexes pieces tokens
      → AllHave (λ piece. Q (pos_file piece.pos)) pieces → AreIn tokens
  lexed_in [] tokens lexed has = subst AreIn (sym lexed) tt
  lexed_in (piece ∷ pieces) tokens lexed has =
      subst AreIn (sym lexed.2)
      (all_append (λ t. Q (pos_file t.pos)) lexed.0 lexed.1
      (tokens_in piece lexed.0 lexed.3.left lexed.3.spelled has.0) (lexed_in pieces lexed.1 lexed.4 has.1))
