-- A fair listing of valid code is accepted.
use Rattle.std.proofs.Common.{◌≡◌, ℕ, List, drop, refl, sym, subst}
use Rattle.std.proofs.lemmas.List.{take-append-drop}
use Rattle.std.proofs.Math.Logic.{∥∥₁_elim}
use Rattle.std.proofs.Props.{props}
use Rattle.cat_code.specs.declared.code.Code.{Code}
use Rattle.cat_code.specs.declared.code.Tables.{Tables}
use Rattle.cat_code.specs.declared.instr.Instr.{Instr}
use Rattle.cat_image.specs.declared.image.Image.{Image}
use Rattle.cat_image.specs.declared.tables.ImageTables.{ImageTables}
use Rattle.cat_image.specs.declared.refusal.ImageRefusal.{ImageRefusal}
use Rattle.cat_image.specs.declared.refusal.ImageRefusal.TheVariants as reading
use Rattle.cat_image.specs.Image.{IsImage}
use Rattle.cat_image.specs.Listed.{words_of}
use Rattle.cat_image.specs.Refused as unread
use Rattle.cat_image.specs.Words.{Text}
use Rattle.cat_verify_tables.specs.TableWords.{AreTablesOf}
use Rattle.cat_verify_tables.specs.WrongTables.{IsBadTable}
use Rattle.cat_verify_shapes.specs.Unshaped.{IsUnshaped}
use Rattle.cat_verify.specs.declared.refusal.VerifyRefusal.{VerifyRefusal}
use Rattle.cat_verify.specs.declared.refusal.VerifyRefusal.TheVariants as verifying
use Rattle.cat_verify.specs.Refused as unverified
use Rattle.cat_verify.specs.WrongCode.{IsBadNumber, IsEndless}
use Rattle.cat_verify.proofs.Exported.{numbered, ending, shaped}
use Rattle.cat_emitted.specs.Accepted.{IsAcceptedListing}
use Rattle.cat_emitted.specs.Emitted.{IsFairListing}

-- of lines that tell one table alone, and of texts with one image
module _ (text : List ℕ) (files : List Text) (code : Code) (fair : IsFairListing text files code)
    (one_table : (lines : ImageTables) (a b : Tables) → AreTablesOf lines a → AreTablesOf lines b
    → ((n : ℕ) → IsBadTable lines n → ⊥) → a ≡ b)
    (one_image : (bytes : List ℕ) (a b : ImageTables) (is js : List Instr) → IsImage bytes a is → IsImage bytes b js
    → (a ≡ b) × (is ≡ js)) where
  none_unread : (refusal : ImageRefusal) → unread.HasCause text refusal → refusal ≡ reading.Memory
  none_unread (reading.BadLine n) cause = absurd (cause.4 (record {
    bytes = text;
    tables = words_of code.tables files;
    instructions = code.instructions;
    rest = drop n (unread.lines_of text);
    image = fair.image;
    lines_are = sym (take-append-drop n (unread.lines_of text));
  }))
  none_unread reading.Short cause = absurd (cause.1 (words_of code.tables files) code.instructions fair.image)
  none_unread reading.Memory cause = refl

  -- its tables and its instructions are the code's
  module _ (image : Image) (is : IsImage text image.tables image.instructions) where
    same : (words_of code.tables files ≡ image.tables) × (code.instructions ≡ image.instructions)
    same = one_image text (words_of code.tables files) image.tables code.instructions image.instructions fair.image is

    none_right : (n : ℕ) → IsBadTable image.tables n → ⊥
    none_right n bad = fair.right n (subst (λ (w : ImageTables). IsBadTable w n) (sym same.0) bad)

    table_is : (tables : Tables) → AreTablesOf image.tables tables → code.tables ≡ tables
    table_is tables told = one_table image.tables code.tables tables
        (subst (λ (w : ImageTables). AreTablesOf w code.tables) same.0 fair.told) told none_right

    -- what is said against the image is said against the code
    of_code : (Wrong : Tables → List Instr → ℕ → Type 0) (tables : Tables) (k : ℕ) → AreTablesOf image.tables tables
        → Wrong tables image.instructions k → Wrong code.tables code.instructions k
    of_code Wrong tables k told wrong =
        subst (λ (is : List Instr). Wrong code.tables is k) (sym same.1)
        (subst (λ (t : Tables). Wrong t image.instructions k) (sym (table_is tables told)) wrong)

    none_unverified : (refusal : VerifyRefusal) → unverified.HasCause image refusal → refusal ≡ verifying.Memory
    none_unverified (verifying.BadTable n) cause = absurd (none_right n cause)
    none_unverified (verifying.BadNumber k) cause =
        let wrong = of_code IsBadNumber cause.0 k cause.1.tables_are cause.2 in
        absurd (∥∥₁_elim code.valid (hlevel props) (λ v. numbered code.tables code.instructions v.0 v.1 k wrong))
    none_unverified (verifying.Endless k) cause =
        let wrong = of_code IsEndless cause.0 k cause.1.told.tables_are cause.2 in
        absurd (∥∥₁_elim code.valid (hlevel props) (λ v. ending code.tables code.instructions v.0 v.1 k wrong))
    none_unverified (verifying.BadShape k) cause =
        let wrong = of_code IsUnshaped cause.0 k cause.1.numbered.told.tables_are cause.2 in
        absurd (∥∥₁_elim code.valid (hlevel props) (λ v. shaped code.tables code.instructions v.0 v.1 k wrong))
    none_unverified verifying.Memory cause = refl

  pub accepted_listing : IsAcceptedListing text files code
  accepted_listing = record { fair = fair; read = none_unread; verified = none_unverified }
