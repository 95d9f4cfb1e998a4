-- The answers to one who asked for a check of a certificate of dead definitions.
use Rattle.std.specs.Prelude.{◌≡◌, ℕ, List, [], ◌∷◌, ◌++◌, Some, codes, filter}
use Rattle.std.specs.List.{list_any}
use Rattle.cat_pos.specs.declared.pos.Pos.{Pos}
use Rattle.cat_io.specs.Shelf.{Shelved}
use Rattle.cat_scope.specs.declared.programs.Program.{Program}
use Rattle.cat_guard.specs.declared.guard.GuardDef.{GuardDef}
use Rattle.cat_guard.specs.declared.table.Table.{Table}
use Rattle.cat_guard.specs.declared.table.TableTarget.{TableTarget}
use Rattle.cat_guard.specs.Tables.{TablesScope}
use Rattle.cat_answer.specs.Answer.{position_text}
use Rattle.cat_cert.specs.declared.refusal.CertRefusal.{CertRefusal}
use Rattle.cat_dead.specs.Checked.{HasDeadCause, IsDeadChecked}
use Rattle.cat_dead.specs.NeverDecides.{NeverDecide}
use Rattle.cat_dead.specs.Winners.{is_same}
use Rattle.cat_weave.specs.declared.source.Source.{Source}
use Rattle.cat_app.specs.Words.{Request}
use Rattle.cat_app.specs.Asked.{IsAsked, IsExtra}
use Rattle.cat_app.specs.Checks.{certificate_line}
use Rattle.cat_app.specs.Lines.{line}
use Rattle.cat_app.specs.declared.request.Mode.TheVariants.{DeadCheck}

-- the line of a definition of a target that decides in no run
abbrev pub never_line : List (List ℕ) → List ℕ → Pos → List ℕ
never_line files name p = name ++ (codes " at " ++ (position_text files p ++ (codes ": never decides" ++ 10 ∷ [])))

-- the lines of some definitions of a target
abbrev pub never_lines : List (List ℕ) → List ℕ → List GuardDef → List ℕ
never_lines files name [] = []
never_lines files name (d ∷ ds) = never_line files name d.pos ++ never_lines files name ds

-- the definitions that stand at some positions
abbrev pub those_at : List Pos → List GuardDef → List GuardDef
those_at ps ds = filter (λ d. list_any (is_same d.pos) ps) ds

-- the lines of those definitions of some targets that stand at some positions
abbrev pub lines_at : List (List ℕ) → List Pos → List TableTarget → List ℕ
lines_at files ps [] = []
lines_at files ps (t ∷ ts) = never_lines files t.name (those_at ps t.defs) ++ lines_at files ps ts

-- a text is a certificate of a scope's dead definitions: those at these positions, which win in no leaf of its trees
-- and decide in no run of the scope on a well-typed input. Each has its line, and behind them stands a yes
pub record HasDead (program : Program) (scope : ℕ) (files : List (List ℕ)) (extra text : List ℕ) : Type 0 where
  pub table : Table
  pub positions : List Pos
  pub tabled : TablesScope program scope table
  pub checked : IsDeadChecked table extra positions
  pub never : NeverDecide program table positions
  pub text_is : text ≡ lines_at files positions table.targets ++ line (codes "Yes") []

-- a text is none, and this line tells why
pub record HasNoDead (program : Program) (scope : ℕ) (extra text : List ℕ) : Type 0 where
  pub table : Table
  pub why : CertRefusal
  pub tabled : TablesScope program scope table
  pub cause : HasDeadCause table extra why
  pub text_is : certificate_line why ≡ Some text

-- of `dead` with EXTRA: what this says of the scope and of the bytes that are to be such a certificate
pub record IsDeadAnswer (Says : Program → ℕ → List (List ℕ) → List ℕ → List ℕ → Type 0) (request : Request)
    (old new : Shelved) (text : List ℕ) : Type 0 where
  pub source : Source
  pub program : Program
  pub scope : ℕ
  pub extra : List ℕ
  pub mode : request.mode ≡ DeadCheck
  pub asked : IsAsked request old source program scope
  pub extra_read : IsExtra request old extra
  pub says : Says program scope source.files extra text
  pub untouched : new ≡ old
