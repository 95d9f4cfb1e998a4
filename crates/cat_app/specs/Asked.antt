-- What is asked for: the source that is gathered, the scope of its program, and the input; and which file is read when.
use Rattle.std.specs.Prelude.{◌≡◌, ◌⊎◌, ℕ, IsTrue, List, Some}
use Rattle.cat_pos.specs.Limits.{most_input_bytes}
use Rattle.cat_io.specs.Shelf.{Shelved, Gives}
use Rattle.cat_scope.specs.declared.programs.Program.{Program}
use Rattle.cat_scope.specs.Named.{number_named}
use Rattle.cat_weave.specs.declared.source.Source.{Source}
use Rattle.cat_weave.specs.Gathered.{Whole, limit_after}
use Rattle.cat_weave.specs.Causes.{ComesTo, HasEnding}
use Rattle.cat_build.specs.Accepted.{IsAccepted}
use Rattle.cat_app.specs.Modes.{reads_extra}
use Rattle.cat_app.specs.Words.{Request}

-- this may be what is gathered of the main file
abbrev pub IsSource : Request → Shelved → Source → Type 0
IsSource request shelf source = HasEnding shelf.content request.file (Whole source)

-- these bytes may be what the input or the certificate has
abbrev pub IsExtra : Request → Shelved → List ℕ → Type 0
IsExtra request shelf extra = Gives (shelf.content request.extra) most_input_bytes extra

-- the source is accepted as a program, of which the scope that is asked for has this number
pub record IsAsked (request : Request) (shelf : Shelved) (source : Source) (program : Program) (scope : ℕ) : Type 0
  where
    pub source_read : IsSource request shelf source
    pub accepted : IsAccepted source.pieces program
    pub named : number_named request.scope 0 program.decls.scopes ≡ Some scope

-- the file that is read at this point, with its limit: those of the source first, and the input or the certificate
-- once the source is accepted and its scope found
abbrev pub IsReadNow : Request → Shelved → List ℕ → ℕ → Type 0
IsReadNow request shelf name limit =
    ((bytes : ℕ) × ComesTo shelf.content request.file name bytes × (limit ≡ limit_after bytes))
    ⊎ ((name ≡ request.extra) × (limit ≡ most_input_bytes) × IsTrue (reads_extra request.mode)
    × ((source : Source) × (program : Program) × (scope : ℕ) × IsAsked request shelf source program scope))
