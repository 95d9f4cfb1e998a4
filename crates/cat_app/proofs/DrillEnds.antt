-- How a drill ends whose source is accepted.
use Rattle.std.proofs.Common.{◌≡◌, ℕ, List, sym, subst, ⊎_elim}
use Rattle.std.specs.Prelude.{Option, Some, None}
use Rattle.cat_io.specs.Shelf.{Shelved}
use Rattle.cat_io.specs.Sink.{Sunk}
use Rattle.cat_scope.specs.declared.programs.Program.{Program}
use Rattle.cat_weave.specs.declared.source.Source.{Source}
use Rattle.cat_app.specs.Words.{Ask, OfBands, OfListing, OfScope, ask_of, bands_asked}
use Rattle.cat_app.specs.Drills.{HasLine, HasRefusedRun, HasStop, IsOfBands, bands_request, bands_shelf}
use Rattle.cat_app.specs.Table.{AnswersAtOnce, MayAnswerTo, MayDrill, MayReply}
use Rattle.cat_app.specs.DrillEnds.{EndsDrill, IsToldDrill}
use Rattle.cat_app.specs.declared.status.Status.{Status}
use Rattle.cat_app.specs.declared.status.Status.TheVariants as status
use Rattle.cat_app.proofs.ToldSources.{AreNotAccepted, EndingsAreTold, IsOneProgram, no_refused_file, no_refused_source}
use Rattle.cat_app.proofs.ToldSources.{scope_is_there, told_program, told_scope, told_source}

-- where a number of bands is asked for, it is what is asked
pub of_bands : (o : Option Ask) (bands : ℕ) → bands_asked o ≡ Some bands → o ≡ Some (OfBands bands)
of_bands None bands is = cc is
of_bands (Some (OfScope request)) bands is = cc is
of_bands (Some (OfListing request)) bands is = cc is
of_bands (Some (OfBands other)) bands is = cc is

module _ (one_program : IsOneProgram) (not_accepted : AreNotAccepted) (endings : EndingsAreTold)
    (words : List (List ℕ)) (old new : Shelved) (sink sunk : Sunk) (bands : ℕ) (source : Source) (program : Program)
    (scope : ℕ) (told : IsToldDrill words bands source program scope) where
  -- what may be replied answers this drill
  drill_is : (ended : Status) (text : List ℕ) → MayReply words old new ended text → MayDrill bands ended text
  drill_is ended text may =
      let here = subst (λ (o : Option Ask). MayAnswerTo o old new ended text) (of_bands (ask_of words) bands told.asked)
      may in here.1

  -- what is said is said of this program's scope
  said_here : (Says : Source → Program → ℕ → List ℕ → Type 0) (text : List ℕ) → IsOfBands Says bands text
      → Says source program scope text
  said_here Says text is =
      let sources = told_source endings (bands_shelf bands) bands_request source told.source_told is.source
      is.asked.source_read in
      let programs = told_program one_program endings (bands_shelf bands) bands_request source program told.source_told
      told.accepted is.source is.program is.asked.source_read is.asked.accepted in
      let scopes = told_scope bands_request program scope told.named is.program is.scope programs is.asked.named in
      subst (λ (s : Source). Says s program scope text) sources
      (subst (λ (p : Program). Says is.source p scope text) (sym programs)
      (subst (λ n. Says is.source is.program n text) (sym scopes) is.says))

  pub ends_drill : (ended : Status) → AnswersAtOnce words old new sink sunk ended
      → EndsDrill sink sunk bands source program scope ended
  ends_drill status.Fine is = (is.0, said_here (HasLine bands) is.0 (drill_is status.Fine is.0 is.1), is.2.taken)
  ends_drill status.Conflict is = (
    is.0,
    said_here (HasStop bands status.Conflict) is.0 (drill_is status.Conflict is.0 is.1),
    is.2.taken,
  )
  ends_drill status.NoValue is = (
    is.0,
    said_here (HasStop bands status.NoValue) is.0 (drill_is status.NoValue is.0 is.1),
    is.2.taken,
  )
  ends_drill status.Fault is = (
    is.0,
    said_here (HasStop bands status.Fault) is.0 (drill_is status.Fault is.0 is.1),
    is.2.taken,
  )
  ends_drill status.Input is =
      (is.0, said_here (HasRefusedRun bands) is.0 (drill_is status.Input is.0 is.1), is.2.taken)
  ends_drill status.Source is = absurd (⊎_elim
      (no_refused_file endings (bands_shelf bands) (bands_shelf bands) bands_request source told.source_told is.0)
      (no_refused_source not_accepted endings (bands_shelf bands) (bands_shelf bands) bands_request source program
      told.source_told told.accepted is.0) (drill_is status.Source is.0 is.1))
  ends_drill status.Usage is = absurd (⊎_elim (scope_is_there one_program endings (bands_shelf bands)
      (bands_shelf bands) bands_request source program scope told.source_told told.accepted told.named is.0)
      (λ t. cc t.mode) (drill_is status.Usage is.0 is.1))
  ends_drill status.Found is = absurd (drill_is status.Found is.0 is.1)
  ends_drill status.Unsettled is = absurd (drill_is status.Unsettled is.0 is.1)
  ends_drill status.Certificate is = absurd (drill_is status.Certificate is.0 is.1)
  ends_drill status.Missing is = absurd (drill_is status.Missing is.0 is.1)
  ends_drill status.ReadFault is = absurd (drill_is status.ReadFault is.0 is.1)
  ends_drill status.TooLarge is = absurd (drill_is status.TooLarge is.0 is.1)
  ends_drill status.Listing is = absurd (drill_is status.Listing is.0 is.1)
  ends_drill status.WriteFault is = tt
  ends_drill status.Memory is = tt
