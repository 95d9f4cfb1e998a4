-- What the steps of a run of listed code say.
use Rattle.std.specs.Prelude.{◌≡◌, ℕ, List, Option, Some, string_bytes}
use Rattle.cat_pos.specs.Limits.{most_input_bytes}
use Rattle.cat_io.specs.Shelf.{Shelved, Gives}
use Rattle.cat_value.specs.declared.value.Value.{Value}
use Rattle.cat_code.specs.declared.code.Code.{Code}
use Rattle.cat_image.specs.Image.{IsImage}
use Rattle.cat_image.specs.declared.image.Image.{Image}
use Rattle.cat_image.specs.declared.refusal.ImageRefusal.{ImageRefusal}
use Rattle.cat_verify.specs.declared.refusal.VerifyRefusal.{VerifyRefusal}
use Rattle.cat_app.specs.Executed.{TellsRun}
use Rattle.cat_app.specs.Lines.{code_line, image_line}
use Rattle.cat_app.specs.Table.{MayExecute}
use Rattle.cat_app.specs.inside.AskedWords.{listing_asked}
use Rattle.cat_app.specs.declared.request.ListingWords.{ListingWords}
use Rattle.cat_app.specs.declared.reply.Reply.{Reply}
use Rattle.cat_app.specs.declared.status.Status.TheVariants.{Listing}

-- a reply may answer one who asked for a run of listed code
abbrev pub MayTellOf : ListingWords → Shelved → Shelved → Reply → Type 0
MayTellOf asked old new reply = MayExecute (listing_asked asked) old new reply.status (string_bytes reply.text)

-- the file of the listing may have the bytes of an image
pub record IsImageOf (asked : ListingWords) (shelf : Shelved) (image : Image) : Type 0 where
  pub bytes : List ℕ
  pub listing_read : Gives (shelf.content asked.file.now) most_input_bytes bytes
  pub image_is : IsImage bytes image.tables image.instructions

-- a reply tells why bytes are no image
abbrev pub SaysImage : ImageRefusal → Reply → Type 0
SaysImage why reply = (reply.status ≡ Listing) × (image_line why ≡ Some (string_bytes reply.text))

-- a reply tells why an image isn't one of valid and tame code
abbrev pub SaysCode : VerifyRefusal → Reply → Type 0
SaysCode why reply = (reply.status ≡ Listing) × (code_line why ≡ Some (string_bytes reply.text))

-- a reply tells what code gives a scope on an input
abbrev pub SaysRunOf : Code → List (List ℕ) → ℕ → List (Option Value) → Reply → Type 0
SaysRunOf code files scope input reply =
    TellsRun code.tables code.instructions files scope input reply.status (string_bytes reply.text)
