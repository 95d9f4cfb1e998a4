use Rattle.std.proofs.Common.{subst, sym, List}
use Rattle.std.proofs.lemmas.Result.{err_from_is_err_and}
use Rattle.cat_code.specs.declared.instr.Instr.{Instr}
use Rattle.cat_image.specs.declared.tables.ImageTables.{ImageTables}
use Rattle.cat_image.specs.Image.{IsImage}
use Rattle.cat_image.proofs.ImageLemmas.{read_image, read_cause}
use Rattle.cat_image.proofs.read.read_listing.Goals as goal

pub from_parts-requires : goal.from_parts-requires
from_parts-requires c =
    ∣ (c.args.bytes.now, c.requires, read_image c.args.bytes.now c.in_ok-reading.reading c.in_ok-reading.ensures) ∣₁

pub returns-clause-read : goal.returns-clause-read
returns-clause-read c =
    subst (λ (tables : ImageTables). IsImage c.args.bytes.now tables c.from_parts.result.instructions)
    (sym c.from_parts.ensures.tables)
    (subst (λ (is : List Instr). IsImage c.args.bytes.now c.in_ok-reading.reading.tables is)
    (sym c.from_parts.ensures.instructions)
    (read_image c.args.bytes.now c.in_ok-reading.reading c.in_ok-reading.ensures))

pub returns-in_err-reading-clause-cause : goal.returns-in_err-reading-clause-cause
returns-in_err-reading-clause-cause c =
    let why = err_from_is_err_and c.from_residual.result c.from_residual.ensures.1 in
    rw (why.1, why.2) (read_cause c.args.bytes.now c.in_err-reading.field-0.0 c.in_err-reading.ensures)
