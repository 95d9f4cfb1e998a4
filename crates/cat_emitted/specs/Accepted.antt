-- Listings that are accepted: neither what reads them nor what verifies them refuses them but for want of memory.
use Rattle.std.specs.Prelude.{◌≡◌, List}
use Rattle.cat_code.specs.declared.code.Code.{Code}
use Rattle.cat_image.specs.declared.image.Image.{Image}
use Rattle.cat_image.specs.declared.refusal.ImageRefusal.{ImageRefusal}
use Rattle.cat_image.specs.declared.refusal.ImageRefusal.TheVariants as reading
use Rattle.cat_image.specs.Image.{IsImage}
use Rattle.cat_image.specs.Refused as unread
use Rattle.cat_image.specs.Words.{Text}
use Rattle.cat_verify.specs.declared.refusal.VerifyRefusal.{VerifyRefusal}
use Rattle.cat_verify.specs.declared.refusal.VerifyRefusal.TheVariants as verifying
use Rattle.cat_verify.specs.Refused as unverified
use Rattle.cat_emitted.specs.Emitted.{IsFairListing}

-- a text is the image of code, and there is no cause to refuse the text, nor an image that it is
pub record IsAcceptedListing (text : Text) (files : List Text) (code : Code) : Type 0 where
  pub fair : IsFairListing text files code
  pub read : (refusal : ImageRefusal) → unread.HasCause text refusal → refusal ≡ reading.Memory
  pub verified : (image : Image) → IsImage text image.tables image.instructions → (refusal : VerifyRefusal)
      → unverified.HasCause image refusal → refusal ≡ verifying.Memory
