use Rattle.std.proofs.Common.{◌<◌, ◌∙◌, List, length, map, sym, ap, subst}
use Rattle.std.proofs.lemmas.Result.{err_from_is_err_and}
use Rattle.cat_pos.specs.declared.limits.TheConstants.{ENTRIES_BOUND}
use Rattle.cat_value.specs.declared.decls.Decls.{Decls}
use Rattle.cat_code.specs.Places.{function_places}
use Rattle.cat_image.specs.Words.{Text}
use Rattle.cat_verify_tables.specs.TableWords.{numbered}
use Rattle.cat_verify_tables.proofs.Telling.{entry_cause, files_few}
use Rattle.cat_verify_tables.proofs.tables.tabled_of.Goals as goal

pub returns-in_err-refuse_functions-clause-cause : goal.returns-in_err-refuse_functions-clause-cause
returns-in_err-refuse_functions-clause-cause c =
    let p = err_from_is_err_and c.from_residual-in_err-refuse_functions.result
    c.from_residual-in_err-refuse_functions.ensures.1 in
    rw (p.1, p.2) (entry_cause c.args.image.now c.args.declared.now c.requires.declared c.in_ok-functions.functions
    (c.in_ok-functions.ensures ∙ ap (λ (ds : Decls). map numbered (function_places ds)) c.get.ensures)
    c.in_err-refuse_functions.field-0.0 c.in_err-refuse_functions.ensures.cause)

pub files_of-requires : goal.files_of-requires
files_of-requires c = subst (λ (names : List Text). length names < ENTRIES_BOUND) (sym c.as_slice.ensures)
    (files_few c.args.image.now c.requires.few)

pub tables_of-requires : goal.tables_of-requires
tables_of-requires c = c.requires.declared

pub returns-clause-told : goal.returns-clause-told
returns-clause-told c = record {
  tables = c.in_ok-tables.ensures.told;
  files = c.in_ok-files.ensures ∙ c.as_slice.ensures;
  functions = c.in_ok-functions.ensures ∙ ap (λ (ds : Decls). map numbered (function_places ds)) c.get.ensures;
  enough = c.in_ok-refuse_functions.ensures.enough;
}
