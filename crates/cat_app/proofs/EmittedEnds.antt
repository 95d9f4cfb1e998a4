-- How a run of a listing ends that an emit wrote of a program.
use Rattle.std.proofs.Common.{◌≡◌, ◌∙◌, ℕ, List, [], refl, sym, ap, subst}
use Rattle.std.specs.Prelude.{Option, Some, Ok}
use Rattle.std.specs.Io.KnownBytes.{Appends}
use Rattle.cat_io.specs.Shelf.{Shelved}
use Rattle.cat_io.specs.Sink.{Sunk}
use Rattle.cat_value.specs.declared.decls.Decls.{Decls}
use Rattle.cat_value.specs.declared.value.Value.{Value}
use Rattle.cat_value.specs.Inputs.{IsWellTyped}
use Rattle.cat_scope.specs.declared.programs.Program.{Program}
use Rattle.cat_scope.specs.Named.{number_named}
use Rattle.cat_json.specs.InputsRead.{input_read}
use Rattle.cat_answer.specs.Answer.{answer_of}
use Rattle.cat_weave.specs.declared.source.Source.{Source}
use Rattle.cat_code.specs.declared.code.Code.{Code}
use Rattle.cat_image.specs.Image.{IsImage}
use Rattle.cat_image.specs.Listed.{words_of}
use Rattle.cat_image.specs.declared.image.Image.{Image}
use Rattle.cat_image.specs.declared.refusal.ImageRefusal.{ImageRefusal}
use Rattle.cat_image.specs.Refused as unread
use Rattle.cat_verify.specs.declared.refusal.VerifyRefusal.{VerifyRefusal}
use Rattle.cat_verify.specs.Refused as unverified
use Rattle.cat_emitted.specs.Accepted.{IsAcceptedListing}
use Rattle.cat_machine.proofs.Exported.{comes_to}
use Rattle.cat_app.specs.Words.{ListingRequest}
use Rattle.cat_app.specs.Complete.{EndsRun, WritesOutcome, WritesText}
use Rattle.cat_app.specs.ExecEnds.{EndsExec, IsToldListing}
use Rattle.cat_app.specs.Executed.{TellsRun}
use Rattle.cat_app.specs.Lines.{code_line, image_line, line}
use Rattle.cat_app.specs.Listings.{ListsCode}
use Rattle.cat_app.specs.Table.{AnswersAtOnce}
use Rattle.cat_app.specs.declared.status.Status.{Status}
use Rattle.cat_app.specs.declared.status.Status.TheVariants as status
use Rattle.cat_app.proofs.ExecEnds.{OneImage, OneTable, TellsCode, ends_so}

-- a listing that is accepted tells its code
module _ (text : List ℕ) (files : List (List ℕ)) (code : Code) (is : IsAcceptedListing text files code) where
  is_read : (why : ImageRefusal) (told : List ℕ) → unread.HasCause text why → image_line why ≡ Some told → ⊥
  is_read why told cause says = cc (ap image_line (is.read why cause), says)

  verified : (image : Image) → IsImage text image.tables image.instructions → (why : VerifyRefusal) (told : List ℕ)
      → unverified.HasCause image why → code_line why ≡ Some told → ⊥
  verified image image_is why told cause says = cc (ap code_line (is.verified image image_is why cause), says)

  tells_code : TellsCode text code.tables code.instructions files
  tells_code = record {
    image = words_of code.tables files;
    image_is = is.fair.image;
    told = is.fair.told;
    right = is.fair.right;
    files_are = refl;
    is_read = is_read;
    verified = verified;
  }

-- what code of a program gives is the outcome of its scope
module _ (sink sunk : Sunk) (source : Source) (program : Program) (text : List ℕ)
    (lists : ListsCode source program text) (scope : ℕ) (input : List (Option Value)) where
  outcome_written : (ended : Status)
      → WritesText sink sunk (TellsRun lists.code.tables lists.code.instructions source.files scope input ended)
      → WritesOutcome sink sunk source program scope input ended
  outcome_written ended (told, tells, appends) = record {
    outcome = tells.outcome;
    outcome_is = comes_to program lists.code lists.code_is scope input
        (subst (λ (ds : Decls). IsWellTyped ds scope input) lists.declared tells.typed) tells.outcome tells.gives.alone;
    status = tells.status;
    written = subst (λ (t : List ℕ). Appends sink.taken sunk.taken t)
        (tells.reply ∙ ap (λ (ds : Decls). line (answer_of ds scope source.files tells.outcome) []) lists.declared)
        appends;
  }

  run_written : (ended : Status)
      → EndsExec sink sunk lists.code.tables lists.code.instructions source.files scope input ended
      → EndsRun sink sunk source program scope input ended
  run_written status.Fine ends = outcome_written status.Fine ends
  run_written status.Conflict ends = outcome_written status.Conflict ends
  run_written status.NoValue ends = outcome_written status.NoValue ends
  run_written status.Fault ends = outcome_written status.Fault ends
  run_written status.Source ends = outcome_written status.Source ends
  run_written status.Input ends = outcome_written status.Input ends
  run_written status.Found ends = outcome_written status.Found ends
  run_written status.Unsettled ends = outcome_written status.Unsettled ends
  run_written status.Certificate ends = outcome_written status.Certificate ends
  run_written status.Usage ends = outcome_written status.Usage ends
  run_written status.Missing ends = outcome_written status.Missing ends
  run_written status.TooLarge ends = outcome_written status.TooLarge ends
  run_written status.Listing ends = outcome_written status.Listing ends
  run_written status.ReadFault ends = tt
  run_written status.WriteFault ends = tt
  run_written status.Memory ends = tt

pub ends_emitted : OneImage → OneTable → (words : List (List ℕ)) (old new : Shelved) (sink sunk : Sunk)
    (request : ListingRequest) (source : Source) (program : Program) (scope : ℕ) (input : List (Option Value))
    → IsToldListing words old request source program scope input → (ended : Status)
    → AnswersAtOnce words old new sink sunk ended → EndsRun sink sunk source program scope input ended
ends_emitted one_image one_table words old new sink sunk request source program scope input told ended answers =
    let lists = told.lists in
    let decls = sym lists.declared in
    run_written sink sunk source program told.bytes lists scope input ended
    (ends_so one_image one_table words old new sink sunk request lists.code.tables lists.code.instructions source.files
    scope input (record {
      bytes = told.bytes;
      extra = told.extra;
      asked = told.asked;
      listing_told = told.listing_told;
      listing_short = told.listing_short;
      tells = tells_code told.bytes source.files lists.code (lists.accepted told.listing_short);
      named = subst (λ (ds : Decls). number_named request.scope 0 ds.scopes ≡ Some scope) decls told.named;
      extra_told = told.extra_told;
      extra_short = told.extra_short;
      input_is = subst (λ (ds : Decls). input_read ds scope told.extra ≡ Ok input) decls told.input_is;
    }) ended answers)
