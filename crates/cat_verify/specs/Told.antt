-- Code that is what an image tells.
use Rattle.std.specs.Prelude.{◌≡◌, ℕ, List}
use Rattle.cat_code.specs.declared.code.Code.{Code}
use Rattle.cat_code.specs.Valid.{IsValid}
use Rattle.cat_image.specs.declared.image.Image.{Image}
use Rattle.cat_verify.specs.Refused.{IsEnding}

-- valid and tame code with its files, whose image this is, and against which nothing stands
pub record IsVerified (image : Image) (code : Code) (files : List (List ℕ)) : Type 0 where
  pub files_are : image.tables.files ≡ files
  pub instructions : image.instructions ≡ code.instructions
  pub ending : IsEnding image code.tables
  pub valid : IsValid code.tables code.instructions
