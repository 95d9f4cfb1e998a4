-- Which replies the steps of a run of listed code lead to.
use Rattle.std.proofs.Common.{◌≡◌, ◌∙◌, ℕ, List, refl, sym, subst, inl, inr}
use Rattle.std.specs.Prelude.{Option, Some, None, Ok, Err, codes, string_bytes}
use Rattle.cat_pos.specs.Limits.{most_input_bytes}
use Rattle.cat_io.specs.Shelf.{Shelved, Gives, Reads}
use Rattle.cat_io.specs.declared.shelf.ShelfFault.{ShelfFault}
use Rattle.cat_io.specs.declared.shelf.ShelfFault.TheVariants as shelf
use Rattle.cat_value.specs.declared.value.Value.{Value}
use Rattle.cat_value.specs.declared.outcome.Outcome.{Outcome}
use Rattle.cat_value.specs.declared.outcome.Outcome.TheVariants as outcome
use Rattle.cat_scope.specs.Named.{number_named}
use Rattle.cat_json.specs.declared.refusal.InputRefusal.{InputRefusal}
use Rattle.cat_json.specs.InputsRead.{input_read}
use Rattle.cat_code.specs.declared.code.Code.{Code}
use Rattle.cat_image.specs.Image.{IsImage}
use Rattle.cat_image.specs.Refused as images
use Rattle.cat_image.specs.declared.image.Image.{Image}
use Rattle.cat_image.specs.declared.refusal.ImageRefusal.{ImageRefusal}
use Rattle.cat_verify.specs.Refused as codes_of
use Rattle.cat_verify.specs.declared.refusal.VerifyRefusal.{VerifyRefusal}
use Rattle.cat_app.specs.Words.{ListingRequest}
use Rattle.cat_app.specs.Executed.{IsCodeOf, IsAskedOf, IsListingReadNow, IsExecuted}
use Rattle.cat_app.specs.Lines.{line, status_of}
use Rattle.cat_app.specs.Table.{MayExecute}
use Rattle.cat_app.specs.inside.Says.{Says, SaysFault, SaysInput}
use Rattle.cat_app.specs.inside.SaysOfListings.{SaysCode, SaysImage, SaysRunOf}
use Rattle.cat_app.specs.declared.reply.Reply.{Reply}
use Rattle.cat_app.specs.declared.status.Status.{Status}
use Rattle.cat_app.specs.declared.status.Status.TheVariants.{Usage}

module _ (request : ListingRequest) (old new : Shelved) (reply : Reply) where
  abbrev pub MayBe : Type 0
  MayBe = MayExecute request old new reply.status (string_bytes reply.text)

  -- the read of this file was refused
  pub refused_read : (name : List ℕ) (fault : ShelfFault) → IsListingReadNow request old name most_input_bytes
      → Reads name most_input_bytes old new (Err fault) → SaysFault name fault reply → MayBe
  refused_read name shelf.Missing now read says =
      rw says.0 (record { name = name; limit = most_input_bytes; now = now; read = read; reply = says.1 })
  refused_read name shelf.Failed now read says =
      rw says.0 (record { name = name; limit = most_input_bytes; now = now; read = read; reply = says.1 })
  refused_read name shelf.Long now read says =
      rw says.0 (record { name = name; limit = most_input_bytes; now = now; read = read; reply = says.1 })
  refused_read name shelf.Memory now read says = absurd says

  -- that of the listing, and that of the input
  pub no_file : (fault : ShelfFault) → Reads request.file most_input_bytes old new (Err fault)
      → SaysFault request.file fault reply → MayBe
  no_file fault read says =
      refused_read request.file fault (record { limit_is = refl; file = inl refl }) read says

  pub no_extra : (code : Code) (files : List (List ℕ)) (scope : ℕ) (fault : ShelfFault)
      → IsAskedOf request old code files scope → Reads request.extra most_input_bytes old new (Err fault)
      → SaysFault request.extra fault reply → MayBe
  no_extra code files scope fault asked read says =
      refused_read request.extra fault
      (record { limit_is = refl; file = inr (refl, (code, files, scope, asked)) }) read says

  pub no_image : (bytes : List ℕ) (why : ImageRefusal) → Gives (old.content request.file) most_input_bytes bytes
      → new ≡ old → images.HasCause bytes why → SaysImage why reply → MayBe
  no_image bytes why read same cause says = rw says.0 (inl (record {
    bytes = bytes;
    why = why;
    listing_read = read;
    cause = cause;
    untouched = same;
    reply = says.1;
  }))

  pub no_code : (bytes : List ℕ) (image : Image) (why : VerifyRefusal)
      → Gives (old.content request.file) most_input_bytes bytes → IsImage bytes image.tables image.instructions
      → new ≡ old → codes_of.HasCause image why → SaysCode why reply → MayBe
  no_code bytes image why read is same cause says = rw says.0 (inr (record {
    bytes = bytes;
    image = image;
    why = why;
    listing_read = read;
    image_is = is;
    cause = cause;
    untouched = same;
    reply = says.1;
  }))

  pub no_scope : (bytes : List ℕ) (code : Code) (files : List (List ℕ))
      → Gives (old.content request.file) most_input_bytes bytes → IsCodeOf bytes code files
      → number_named request.scope 0 code.tables.decls.scopes ≡ None → new ≡ old
      → Says Usage (line (codes "no such scope ") request.scope) reply → MayBe
  no_scope bytes code files read is unnamed same says = rw says.0 (record {
    bytes = bytes;
    code = code;
    files = files;
    listing_read = read;
    code_is = is;
    unnamed = unnamed;
    untouched = same;
    reply = says.1;
  })

  pub no_input : (code : Code) (files : List (List ℕ)) (scope : ℕ) (extra : List ℕ) (refusal : InputRefusal)
      → IsAskedOf request old code files scope → Gives (old.content request.extra) most_input_bytes extra → new ≡ old
      → input_read code.tables.decls scope extra ≡ Err refusal → SaysInput refusal reply → MayBe
  no_input code files scope extra refusal asked read same none says = rw says.0 (record {
    code = code;
    files = files;
    scope = scope;
    extra = extra;
    refusal = refusal;
    asked = asked;
    extra_read = read;
    refused = none;
    untouched = same;
    reply = says.1;
  })

  -- an outcome answers with its own status
  executed_at : (o : Outcome) (text : List ℕ) → IsExecuted request old new (status_of o) text
      → MayExecute request old new (status_of o) text
  executed_at (outcome.Value values) text is = is
  executed_at (outcome.Conflict target positions) text is = is
  executed_at (outcome.NoValue target pos) text is = is
  executed_at (outcome.Fault kind pos) text is = is

  executed_so : (ended : Status) (o : Outcome) (text : List ℕ) → ended ≡ status_of o
      → IsExecuted request old new ended text → MayExecute request old new ended text
  executed_so ended o text is answer =
      subst (λ (s : Status). MayExecute request old new s text) (sym is)
      (executed_at o text (subst (λ (s : Status). IsExecuted request old new s text) is answer))

  pub an_execution : (code : Code) (files : List (List ℕ)) (scope : ℕ) (extra : List ℕ) (input : List (Option Value))
      → IsAskedOf request old code files scope → Gives (old.content request.extra) most_input_bytes extra → new ≡ old
      → input_read code.tables.decls scope extra ≡ Ok input → SaysRunOf code files scope input reply → MayBe
  an_execution code files scope extra input asked read same known says =
      executed_so reply.status says.outcome (string_bytes reply.text) says.status (record {
        code = code;
        files = files;
        scope = scope;
        extra = extra;
        input = input;
        asked = asked;
        extra_read = read;
        input_is = known;
        tells = says;
        untouched = same;
      })
