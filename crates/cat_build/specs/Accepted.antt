-- Which sources are accepted, with their programs.
use Rattle.std.specs.Prelude.{◌≡◌, ◌<◌, ℕ, List, length}
use Rattle.cat_pos.specs.declared.pos.Piece.{Piece}
use Rattle.cat_lex.specs.declared.token.Token.{Token}
use Rattle.cat_lex.specs.Lexes.{Lexes}
use Rattle.cat_tree.specs.declared.program.Tree.{Tree}
use Rattle.cat_tree.specs.Programs.{SpellsLowProgram}
use Rattle.cat_scope.specs.declared.programs.Program.{Program}
use Rattle.cat_names.specs.Accepted.{IsProgramOf}
use Rattle.cat_except.specs.Causes.{MakeForest}
use Rattle.cat_except.specs.Faults.{groups_in}
use Rattle.cat_weave.specs.declared.source.Source.{Source}
use Rattle.cat_weave.specs.Gathered.{Contents, Whole, gathered}

-- the pieces are tokens, which spell a tree whose expressions are at most 256 high
pub record IsTreeOf (pieces : List Piece) (tree : Tree) : Type 0 where
  pub tokens : List Token
  pub lexed : Lexes pieces tokens
  pub spelled : SpellsLowProgram tree tokens

-- the pieces are a tree, of which this is the program
pub record IsProgramIn (pieces : List Piece) (program : Program) : Type 0 where
  pub tree : Tree
  pub spelled : IsTreeOf pieces tree
  pub meant : IsProgramOf tree program.decls program.bodies program.scope_order

-- the exceptions of each scope before one of that number make a forest
abbrev pub MakeForestsTo : ℕ → Program → Type 0
MakeForestsTo bound program = (scope : ℕ) → scope < bound → MakeForest (groups_in program scope)

-- pieces are accepted as a program: it is theirs, and the exceptions of each scope make a forest
pub record IsAccepted (pieces : List Piece) (program : Program) : Type 0 where
  pub program_is : IsProgramIn pieces program
  pub forests : MakeForestsTo (length program.bodies) program

-- a main file is accepted as a program, where files hold these contents: what is gathered of it is
pub record Accepts (contents : Contents) (main : List ℕ) (program : Program) : Type 0 where
  pub source : Source
  pub gathered_is : gathered contents main ≡ Whole source
  pub accepted : IsAccepted source.pieces program
