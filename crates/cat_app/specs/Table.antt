-- The table of answers: which texts may come with a status, and what the sink took of them.
use Rattle.std.specs.Prelude.{◌≡◌, ◌⊎◌, ℕ, List, Option, None, Some, IsSomeAnd, codes}
use Rattle.cat_io.specs.Shelf.{Shelved, Keeps}
use Rattle.cat_io.specs.declared.shelf.ShelfFault.TheVariants as shelf
use Rattle.cat_io.specs.Sink.{Sunk, Took, FailedAt}
use Rattle.cat_app.specs.Words.{Ask, OfScope, OfListing, OfBands, Request, ListingRequest, ask_of, request_of}
use Rattle.cat_app.specs.Answers.{IsOutcome, IsRefusedFile, IsRefusedSource, IsNoScope, IsRefusedInput, IsUsage}
use Rattle.cat_app.specs.Answers.{IsRefusedRead}
use Rattle.cat_app.specs.Audits.{IsAudited}
use Rattle.cat_app.specs.Checks.{HasCertificate, HasNoCertificate, IsChecked}
use Rattle.cat_app.specs.Deads.{TellsDead}
use Rattle.cat_app.specs.Executed.{IsExecuted}
use Rattle.cat_app.specs.Listings.{IsListed}
use Rattle.cat_app.specs.Many.{AnswersByLine, IsRefusedArray}
use Rattle.cat_app.specs.Unlisted.{IsRefusedImage, IsRefusedCode, HasNoScope, HasRefusedInput, HasRefusedRead}
use Rattle.cat_app.specs.TargetTables.{IsNoTarget, IsTabled}
use Rattle.cat_app.specs.Drills.{HasLine, HasRefusedRun, HasStop, IsOfBands, bands_request, bands_shelf}
use Rattle.cat_app.specs.declared.status.Status.{Status}
use Rattle.cat_app.specs.declared.status.Status.TheVariants.{Fine, Conflict, NoValue, Fault, Source, Input, Found}
use Rattle.cat_app.specs.declared.status.Status.TheVariants.{Certificate, Unsettled, Usage, Missing, ReadFault}
use Rattle.cat_app.specs.declared.status.Status.TheVariants.{WriteFault, Memory, TooLarge, Listing}

-- the texts that may come with a status to a request
abbrev pub MayAnswer : Request → Shelved → Shelved → Status → List ℕ → Type 0
MayAnswer request old new Fine text =
    IsOutcome request old new Fine text ⊎ (IsAudited request old new Fine text
    ⊎ (IsChecked HasCertificate request old new text
    ⊎ (IsListed request old new text
    ⊎ (IsTabled request old new Fine text ⊎ TellsDead request old new Fine text))))
MayAnswer request old new Conflict text = IsOutcome request old new Conflict text
MayAnswer request old new NoValue text = IsOutcome request old new NoValue text
MayAnswer request old new Fault text = IsOutcome request old new Fault text
MayAnswer request old new Source text = IsRefusedFile request old new text ⊎ IsRefusedSource request old new text
MayAnswer request old new Input text = IsRefusedInput request old new text ⊎ IsRefusedArray request old new text
MayAnswer request old new Found text = IsAudited request old new Found text ⊎ TellsDead request old new Found text
MayAnswer request old new Unsettled text =
    IsAudited request old new Unsettled text
    ⊎ (IsTabled request old new Unsettled text ⊎ TellsDead request old new Unsettled text)
MayAnswer request old new Certificate text =
    IsChecked HasNoCertificate request old new text ⊎ TellsDead request old new Certificate text
MayAnswer request old new Usage text = IsNoScope request old new text ⊎ IsNoTarget request old new text
MayAnswer request old new Missing text = IsRefusedRead request old new shelf.Missing (codes "missing file ") text
MayAnswer request old new ReadFault text = IsRefusedRead request old new shelf.Failed (codes "read fault ") text
MayAnswer request old new TooLarge text = IsRefusedRead request old new shelf.Long (codes "too large ") text
MayAnswer request old new status text = ⊥

-- the texts that may come with a status to one who asked for a run of listed code
abbrev pub MayExecute : ListingRequest → Shelved → Shelved → Status → List ℕ → Type 0
MayExecute request old new Fine text = IsExecuted request old new Fine text
MayExecute request old new Conflict text = IsExecuted request old new Conflict text
MayExecute request old new NoValue text = IsExecuted request old new NoValue text
MayExecute request old new Fault text = IsExecuted request old new Fault text
MayExecute request old new Listing text = IsRefusedImage request old new text ⊎ IsRefusedCode request old new text
MayExecute request old new Input text = HasRefusedInput request old new text
MayExecute request old new Usage text = HasNoScope request old new text
MayExecute request old new Missing text = HasRefusedRead request old new shelf.Missing (codes "missing file ") text
MayExecute request old new ReadFault text = HasRefusedRead request old new shelf.Failed (codes "read fault ") text
MayExecute request old new TooLarge text = HasRefusedRead request old new shelf.Long (codes "too large ") text
MayExecute request old new status text = ⊥

-- the texts that may come with a status to one who asked for a drill: refusals are those of a run of `Bands`, over a
-- shelf that has the source of the bands alone
abbrev pub MayDrill : ℕ → Status → List ℕ → Type 0
MayDrill bands Fine text = IsOfBands (HasLine bands) bands text
MayDrill bands Conflict text = IsOfBands (HasStop bands Conflict) bands text
MayDrill bands NoValue text = IsOfBands (HasStop bands NoValue) bands text
MayDrill bands Fault text = IsOfBands (HasStop bands Fault) bands text
MayDrill bands Input text = IsOfBands (HasRefusedRun bands) bands text
MayDrill bands Source text = MayAnswer bands_request (bands_shelf bands) (bands_shelf bands) Source text
MayDrill bands Usage text = MayAnswer bands_request (bands_shelf bands) (bands_shelf bands) Usage text
MayDrill bands status text = ⊥

-- the texts that may come with a status to what is asked, if anything is
abbrev pub MayAnswerTo : Option Ask → Shelved → Shelved → Status → List ℕ → Type 0
MayAnswerTo None old new status text = IsUsage old new status text
MayAnswerTo (Some (OfScope request)) old new status text = MayAnswer request old new status text
MayAnswerTo (Some (OfListing request)) old new status text = MayExecute request old new status text
MayAnswerTo (Some (OfBands bands)) old new status text = (new ≡ old) × MayDrill bands status text

-- the texts that may come with a status to some words
abbrev pub MayReply : List (List ℕ) → Shelved → Shelved → Status → List ℕ → Type 0
MayReply words = MayAnswerTo (ask_of words)

-- at most one name was listed
pub record ListsOne (old new : Shelved) : Type 0 where
  pub name : List ℕ
  pub keeps : Keeps name old new

-- the sink failed at a text that may come, of which it took a front
pub record IsWriteFault (words : List (List ℕ)) (old new : Shelved) (sink sunk : Sunk) : Type 0 where
  pub status : Status
  pub text : List ℕ
  pub may : MayReply words old new status text
  pub failed : FailedAt sink sunk text

-- a whole text is put at once: a status is answered only with its text, written whole; `WriteFault` only by the sink's
-- own fault; `Memory` writes nothing, and at most one name was listed
abbrev pub AnswersAtOnce : List (List ℕ) → Shelved → Shelved → Sunk → Sunk → Status → Type 0
AnswersAtOnce words old new sink sunk WriteFault = IsWriteFault words old new sink sunk
AnswersAtOnce words old new sink sunk Memory = (sunk ≡ sink) × ListsOne old new
AnswersAtOnce words old new sink sunk status =
    (text : List ℕ) × MayReply words old new status text × Took sink sunk text

-- a text was put at once, or of many inputs the line of each
abbrev pub Answers : List (List ℕ) → Shelved → Shelved → Sunk → Sunk → Status → Type 0
Answers words old new sink sunk ended = AnswersAtOnce words old new sink sunk ended
    ⊎ IsSomeAnd (request_of words) (λ request. AnswersByLine request old new sink sunk ended)
