-- What the steps of a drill say.
use Rattle.std.specs.Prelude.{◌≡◌, ℕ, List, Option, Some, Result, Ok, Err, string_bytes}
use Rattle.cat_io.specs.Shelf.{Shelved}
use Rattle.cat_scope.specs.declared.programs.Program.{Program}
use Rattle.cat_weave.specs.declared.source.Source.{Source}
use Rattle.cat_weave.specs.declared.source.GatherRefusal.{GatherRefusal}
use Rattle.cat_weave.specs.declared.source.GatherRefusal.TheVariants as gathering
use Rattle.cat_weave.specs.Gathered.{Refused, Whole}
use Rattle.cat_weave.specs.Causes.{AreReadableTogether, HasEnding}
use Rattle.cat_app.specs.Drills.{HasLine, bands_request, bands_shelf}
use Rattle.cat_app.specs.Table.{MayAnswerTo, MayDrill}
use Rattle.cat_app.specs.inside.AskedWords.{HasCases, ask_in}
use Rattle.cat_app.specs.declared.request.AskedFor.{AskedFor}
use Rattle.cat_app.specs.declared.reply.Reply.{Reply}
use Rattle.cat_app.specs.declared.status.Status.TheVariants.{Fine}

-- a reply may answer a drill
abbrev pub MaySayOfBands : ℕ → Reply → Type 0
MaySayOfBands bands reply = MayDrill bands reply.status (string_bytes reply.text)

-- a reply may answer what is asked for, whatever text its number of cases has
abbrev pub MayTellTo : AskedFor → Shelved → Shelved → Reply → Type 0
MayTellTo asked old new reply =
    (cases : Option (List ℕ)) → HasCases cases asked
    → MayAnswerTo (Some (ask_in cases asked)) old new reply.status (string_bytes reply.text)

-- why the source of a drill isn't gathered: for what it holds, or for want of memory
abbrev pub RefusesBands : ℕ → GatherRefusal → Type 0
RefusesBands bands (gathering.NotUtf8 name pos) =
    HasEnding (bands_shelf bands).content bands_request.file (Refused (gathering.NotUtf8 name pos))
RefusesBands bands (gathering.FenceOpen name pos) =
    HasEnding (bands_shelf bands).content bands_request.file (Refused (gathering.FenceOpen name pos))
RefusesBands bands (gathering.IncludeTwice name pos) =
    HasEnding (bands_shelf bands).content bands_request.file (Refused (gathering.IncludeTwice name pos))
RefusesBands bands (gathering.Missing name) = ⊥
RefusesBands bands (gathering.ReadFault name) = ⊥
RefusesBands bands (gathering.TooLarge name) = ⊥
RefusesBands bands gathering.Memory = Unit {0}

-- a source of so many bands is gathered, or refused
abbrev pub GathersBands : ℕ → Result Source GatherRefusal → Type 0
GathersBands bands (Ok source) =
    HasEnding (bands_shelf bands).content bands_request.file (Whole source) × AreReadableTogether source.pieces
GathersBands bands (Err refusal) = RefusesBands bands refusal

-- a reply tells of a drill's runs and audit
abbrev pub SaysLine : ℕ → Source → Program → ℕ → Reply → Type 0
SaysLine bands source program scope reply =
    (reply.status ≡ Fine) × HasLine bands source program scope (string_bytes reply.text)
