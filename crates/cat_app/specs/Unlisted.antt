-- Why one who asked for a run of listed code is refused.
use Rattle.std.specs.Prelude.{◌≡◌, ℕ, List, Some, None, Err, codes}
use Rattle.cat_pos.specs.Limits.{most_input_bytes}
use Rattle.cat_io.specs.Shelf.{Shelved, Gives, Reads}
use Rattle.cat_io.specs.declared.shelf.ShelfFault.{ShelfFault}
use Rattle.cat_scope.specs.Named.{number_named}
use Rattle.cat_json.specs.declared.refusal.InputRefusal.{InputRefusal}
use Rattle.cat_json.specs.InputsRead.{input_read}
use Rattle.cat_code.specs.declared.code.Code.{Code}
use Rattle.cat_image.specs.Image.{IsImage}
use Rattle.cat_image.specs.Refused as images
use Rattle.cat_image.specs.declared.image.Image.{Image}
use Rattle.cat_image.specs.declared.refusal.ImageRefusal.{ImageRefusal}
use Rattle.cat_verify.specs.Refused as codes_of
use Rattle.cat_verify.specs.declared.refusal.VerifyRefusal.{VerifyRefusal}
use Rattle.cat_app.specs.Words.{ListingRequest}
use Rattle.cat_app.specs.Lines.{code_line, image_line, input_line, line}
use Rattle.cat_app.specs.Executed.{IsCodeOf, IsAskedOf, IsListingReadNow}

-- the bytes are no image
pub record IsRefusedImage (request : ListingRequest) (old new : Shelved) (text : List ℕ) : Type 0 where
  pub bytes : List ℕ
  pub why : ImageRefusal
  pub listing_read : Gives (old.content request.file) most_input_bytes bytes
  pub cause : images.HasCause bytes why
  pub untouched : new ≡ old
  pub reply : image_line why ≡ Some text

-- they are that of something else than valid and tame code
pub record IsRefusedCode (request : ListingRequest) (old new : Shelved) (text : List ℕ) : Type 0 where
  pub bytes : List ℕ
  pub image : Image
  pub why : VerifyRefusal
  pub listing_read : Gives (old.content request.file) most_input_bytes bytes
  pub image_is : IsImage bytes image.tables image.instructions
  pub cause : codes_of.HasCause image why
  pub untouched : new ≡ old
  pub reply : code_line why ≡ Some text

-- the code has no scope of that name
pub record HasNoScope (request : ListingRequest) (old new : Shelved) (text : List ℕ) : Type 0 where
  pub bytes : List ℕ
  pub code : Code
  pub files : List (List ℕ)
  pub listing_read : Gives (old.content request.file) most_input_bytes bytes
  pub code_is : IsCodeOf bytes code files
  pub unnamed : number_named request.scope 0 code.tables.decls.scopes ≡ None
  pub untouched : new ≡ old
  pub reply : text ≡ line (codes "no such scope ") request.scope

-- the input is none of the scope's
pub record HasRefusedInput (request : ListingRequest) (old new : Shelved) (text : List ℕ) : Type 0 where
  pub code : Code
  pub files : List (List ℕ)
  pub scope : ℕ
  pub extra : List ℕ
  pub refusal : InputRefusal
  pub asked : IsAskedOf request old code files scope
  pub extra_read : Gives (old.content request.extra) most_input_bytes extra
  pub refused : input_read code.tables.decls scope extra ≡ Err refusal
  pub untouched : new ≡ old
  pub reply : input_line refusal ≡ Some text

-- the file that is read now was refused by the shelf, and its name's count rose: this line tells of it
pub record HasRefusedRead (request : ListingRequest) (old new : Shelved) (fault : ShelfFault) (words text : List ℕ)
    : Type 0 where
  pub name : List ℕ
  pub limit : ℕ
  pub now : IsListingReadNow request old name limit
  pub read : Reads name limit old new (Err fault)
  pub reply : text ≡ line words name
