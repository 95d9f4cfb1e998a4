-- The program of pieces stands in the files of these.
use Rattle.std.proofs.Common.{◌<◌, ℕ, List, length}
use Rattle.cat_pos.specs.declared.pos.Piece.{Piece}
use Rattle.cat_pos.specs.Position.{pos_file}
use Rattle.cat_value.specs.declared.decls.Decls.{Decls}
use Rattle.cat_weave.specs.declared.source.Source.{Source}
use Rattle.cat_weave.specs.Gathered.{Contents, Whole, gathered}
use Rattle.cat_lex.specs.declared.token.Token.{Token}
use Rattle.cat_lex.specs.Lexes.{Lexes}
use Rattle.cat_tree.specs.declared.program.Tree.{Tree}
use Rattle.cat_tree.specs.Programs.{SpellsProgram, program_parts}
use Rattle.cat_scope.specs.declared.defs.Body.{Body}
use Rattle.cat_scope.specs.Names.{AllHave}
use Rattle.cat_names.specs.Accepted.{IsMeant}
use Rattle.cat_lower.specs.Files.{BodyFits, ScopeFits}
use Rattle.cat_emitted.proofs.TokenPositions.{lexed_in}
use Rattle.cat_emitted.proofs.TreePositions.{parts_files}
use Rattle.cat_emitted.proofs.LinePositions.{bodies_fit}
use Rattle.cat_emitted.proofs.ItemPositions.{declared_fits}
use Rattle.cat_emitted.proofs.SourcePositions.{pieces_in}
use Rattle.std.specs.Prelude.{◌≡◌}

-- its items, and its bodies
pub record ProgramFits (Q : ℕ → Type 0) (decls : Decls) (all : List Body) : Type 0 where
  pub items : AllHave (ScopeFits Q) decls.scopes
  pub bodies : AllHave (BodyFits Q) all

pub program_fits : (Q : ℕ → Type 0) (pieces : List Piece) (tokens : List Token) (tree : Tree) (decls : Decls)
    (bodies : List Body) → Lexes pieces tokens → SpellsProgram tree tokens → IsMeant tree decls bodies
    → AllHave (λ piece. Q (pos_file piece.pos)) pieces → ProgramFits Q decls bodies
program_fits Q pieces tokens tree decls bodies lexed spelled meant has =
    let parts = parts_files Q (program_parts tree) tokens spelled.words (lexed_in Q pieces tokens lexed has) in record {
      items = declared_fits Q tree decls parts meant.named;
      bodies = bodies_fit Q tree decls bodies parts meant.meant;
    }

-- of a source that was gathered, in its files
pub source_fits : (contents : Contents) (main : List ℕ) (source : Source) (tokens : List Token) (tree : Tree)
    (decls : Decls) (bodies : List Body) → gathered contents main ≡ Whole source → Lexes source.pieces tokens
    → SpellsProgram tree tokens → IsMeant tree decls bodies
    → ProgramFits (λ f. f < length source.files) decls bodies
source_fits contents main source tokens tree decls bodies is lexed spelled meant =
    program_fits (λ f. f < length source.files) source.pieces tokens tree decls bodies lexed spelled meant
    (pieces_in contents main source is)
