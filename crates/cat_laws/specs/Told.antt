-- Which shelves tell all that a run reads.
use Rattle.std.specs.Prelude.{◌≡◌, ℕ, List, Option, None, Some, IsSome, ⊤}
use Rattle.cat_io.specs.Shelf.{Shelved}
use Rattle.cat_scope.specs.declared.programs.Program.{Program}
use Rattle.cat_weave.specs.declared.source.Source.{Source}
use Rattle.cat_weave.specs.Gathered.{Ending, Whole, Refused, StopsAt, gathered}
use Rattle.cat_app.specs.Words.{Ask, OfBands, OfListing, OfScope, Request}
use Rattle.cat_app.specs.Asked.{IsAsked}
use Rattle.cat_app.specs.declared.request.Mode.TheVariants.{Run}
use Rattle.cat_app.specs.Complete.{RepliesFit}

-- a run is asked for
abbrev pub IsRun : Request → Type 0
IsRun request = request.mode ≡ Run

-- gathering comes to a source or to a refusal, and to no file whose content isn't told
abbrev pub IsTold : {T : Type 0} → Ending T → Type 0
IsTold (Whole x) = ⊤
IsTold (Refused refusal) = ⊤
IsTold (StopsAt name bytes) = ⊥

-- a run is asked for, and the shelf tells the main file and the files that are gathered with it, and the input where
-- the source is accepted and has the scope
pub record TellsRun (shelf : Shelved) (request : Request) : Type 0 where
  pub mode : IsRun request
  pub source : IsTold (gathered shelf.content request.file)
  pub input : (source : Source) (program : Program) (scope : ℕ) → IsAsked request shelf source program scope
      → IsSome (shelf.content request.extra)

-- the shelf tells every file
abbrev pub TellsAll : Shelved → Type 0
TellsAll shelf = (name : List ℕ) → IsSome (shelf.content name)

-- neither a drill nor a run of listed code is asked for, and what is asked of a scope, if anything is, is of this kind
abbrev pub WhereAsked : Option Ask → (Request → Type 0) → Type 0
WhereAsked None Holds = ⊤
WhereAsked (Some (OfScope request)) Holds = Holds request
WhereAsked (Some (OfListing request)) Holds = ⊥
WhereAsked (Some (OfBands bands)) Holds = ⊥

-- some room is enough for each reply to the words over that shelf, whatever the shelf is left as
abbrev pub HasRoom : List (List ℕ) → Shelved → Type 0
HasRoom words shelf = (room : ℕ) × ((left : Shelved) → RepliesFit words shelf left room)
