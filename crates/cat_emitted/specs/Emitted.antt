-- Code whose words are listed: where its positions are, and what its targets and constants are.
use Rattle.std.specs.Prelude.{◌<◌, ◌≤◌, ◌^◌, ℕ, IsTrue, List, length}
use Rattle.std.specs.List.{AllByRecursion}
use Rattle.cat_pos.specs.Position.{pos_file}
use Rattle.cat_pos.specs.declared.pos.Pos.{Pos}
use Rattle.cat_value.specs.declared.declaration.Scope.{Scope}
use Rattle.cat_scope.specs.Names.{AllHave}
use Rattle.cat_code.specs.declared.code.Code.{Code}
use Rattle.cat_code.specs.declared.code.Tables.{Tables}
use Rattle.cat_code.specs.declared.code.TargetEntry.{TargetEntry}
use Rattle.cat_code.specs.declared.instr.Instr.{Instr}
use Rattle.cat_image.specs.Image.{IsImage}
use Rattle.cat_image.specs.InstructionWords.{IsSmallInstr}
use Rattle.cat_image.specs.Listed.{words_of, is_line, IsListable}
use Rattle.cat_lower.specs.Files.{IsVariableTarget}
use Rattle.cat_verify_tables.specs.TableWords.{AreTablesOf}
use Rattle.cat_verify_tables.specs.WrongTables.{IsBadTable}
use Rattle.cat_emitted.specs.Spelled.{AreApart, AreSpelledDecls}
use Rattle.cat_image.specs.Words.{Text, IsSmall}

-- a position in one of some files, of numbers that 32 bits hold
pub record IsOfFiles (files : List Text) (p : Pos) : Type 0 where
  pub there : pos_file p < length files
  pub line : IsSmall p.line
  pub place : IsSmall p.place

-- 32 bits hold the numbers of a position
pub record IsSmallPos (p : Pos) : Type 0 where
  pub line : IsSmall p.line
  pub place : IsSmall p.place

-- each position of code has a property
pub record AllAt (P : Pos → Type 0) (tables : Tables) : Type 0 where
  pub items : AllHave (λ (s : Scope). AllHave (λ i. P i.pos) s.items) tables.decls.scopes
  pub targets : AllHave (λ t. P t.pos) tables.targets
  pub definitions : AllHave P tables.definitions
  pub positions : AllHave P tables.positions

-- each position of code is in one of its files
abbrev pub AreOfFiles : List Text → Tables → Type 0
AreOfFiles files = AllAt (IsOfFiles files)

-- files are called by lines, none by that of another one
pub record AreFileNames (files : List Text) : Type 0 where
  pub apart : AreApart files
  pub lines : AllHave (λ name. IsTrue (is_line name)) files

-- tables with declarations that sources spell, whose positions are in files of these names, and whose targets are
-- variables
pub record AreSpelledTables (files : List Text) (tables : Tables) : Type 0 where
  pub decls : AreSpelledDecls tables.decls
  pub named : AreFileNames files
  pub placed : AreOfFiles files tables
  pub targets : AllHave (λ (t : TargetEntry). IsVariableTarget tables.decls t.target) tables.targets

-- instructions of numbers that 32 bits hold, and no more of them; there is one at least
pub record AreSmall (instructions : List Instr) : Type 0 where
  pub some : 0 < length instructions
  pub few : length instructions ≤ 2 ^ 32
  pub numbers : AllByRecursion IsSmallInstr instructions

-- code of such instructions, if any, all of whose positions have such numbers
pub record IsSmallCode (code : Code) : Type 0 where
  pub positions : AllAt IsSmallPos code.tables
  pub few : length code.instructions ≤ 2 ^ 32
  pub numbers : AllByRecursion IsSmallInstr code.instructions

-- what is listed of code makes an image, whose words tell the tables, and no line of which is bad
pub record IsWellListed (files : List Text) (tables : Tables) (instructions : List Instr) : Type 0 where
  pub listable : IsListable (words_of tables files) instructions
  pub told : AreTablesOf (words_of tables files) tables
  pub right : (n : ℕ) → IsBadTable (words_of tables files) n → ⊥

-- a text is the image of words that tell the code's tables, and of its instructions; no line of the words is bad
pub record IsFairListing (text : Text) (files : List Text) (code : Code) : Type 0 where
  pub image : IsImage text (words_of code.tables files) code.instructions
  pub told : AreTablesOf (words_of code.tables files) code.tables
  pub right : (n : ℕ) → IsBadTable (words_of code.tables files) n → ⊥
