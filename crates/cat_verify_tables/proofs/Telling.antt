-- What is told of an image, and why nothing is told.
use Rattle.std.proofs.Common.{◌≡◌, ◌<◌, IsTrue, List, ◌++◌, length, map, sym, ap, ◌∙◌, subst, arith}
use Rattle.std.specs.Prelude.{is_some}
use Rattle.std.specs.List.{list_all}
use Rattle.std.proofs.lemmas.List.{length-append, length-map}
use Rattle.cat_order.specs.Order.{IsOrder}
use Rattle.cat_pos.specs.declared.limits.TheConstants.{ENTRIES_BOUND}
use Rattle.cat_value.specs.declared.decls.Decls.{Decls}
use Rattle.cat_value.specs.Dependencies.{type_dependencies}
use Rattle.cat_code.specs.Places as places
use Rattle.cat_code.specs.Places.{target_form}
use Rattle.cat_code.specs.Valid.{constant_is_sound}
use Rattle.cat_image.specs.declared.row.Row.TheVariants as row
use Rattle.cat_image.specs.declared.tables.ImageTables.{ImageTables}
use Rattle.cat_verify_tables.specs.declared.places.FunctionPlace.{FunctionPlace}
use Rattle.cat_verify_tables.specs.declared.refusal.TableRefusal.{TableRefusal}
use Rattle.cat_verify_tables.specs.declared.tables.Declared.{Declared}
use Rattle.cat_verify_tables.specs.declared.tables.Tabled.{Tabled}
use Rattle.cat_verify_tables.specs.TableWords.{IsTold, numbered}
use Rattle.cat_verify_tables.specs.WrongTables.{HasCause}
use Rattle.cat_verify_tables.specs.inside.Causes.{Refuses}
use Rattle.cat_verify_tables.specs.inside.DeclarationWords.{AreDeclared, HasFewRows, IsTabled, LacksEntry}
use Rattle.cat_verify_tables.proofs.BadLemmas.{enumerations, files, scopes, structures, tail}
use Rattle.cat_verify_tables.proofs.FunctionFaults.{entry_bad}
use Rattle.cat_verify_tables.proofs.HeaderLemmas.{are_plain, has_cause, scopes_spelled}
use Rattle.cat_verify_tables.proofs.ToldRight.{CyclesLeaveNone, none_bad_told}

pub files_few : (image : ImageTables) → HasFewRows image → length image.files < ENTRIES_BOUND
files_few image few =
    let a = length-append (files image) (structures image ++ (enumerations image ++ (scopes image ++ tail image))) in
    let names = length-map image.files row.File in
    let all = few in omega (arith, a, names, all)

module _ (image : ImageTables) (d : Declared) (is : AreDeclared image d) (functions : List FunctionPlace)
    (functions_are : functions ≡ map numbered (places.function_places d.decls)) where
  -- a function has no line that says where it begins
  pub entry_cause : (why : TableRefusal) → Refuses (LacksEntry image functions d.headers.scopes) why
      → HasCause image why
  entry_cause = has_cause image (LacksEntry image functions d.headers.scopes) (λ n lacks. entry_bad d.headers.known
      (are_plain image d.headers is.headers) (scopes_spelled image d.headers is.headers) image d.decls.scopes
      is.parts.scopes functions functions_are d.headers.scopes is.headers.scopes_at n lacks)

-- what declarations and what stands behind them tell
pub told_is : (image : ImageTables) (d : Declared) → AreDeclared image d → (tabled : Tabled) → IsTabled image d tabled
    → CyclesLeaveNone → HasFewRows image → IsTold image (record {
      tables = tabled.tables;
      files = tabled.files;
      functions = tabled.functions;
      order = d.order;
    })
told_is image d is tabled told cycles few =
    let tables = told.tables in record {
      right = none_bad_told cycles image few d is tabled.tables tables tabled.functions told.functions told.enough;
      tables = tables.words;
      targets = subst
          (λ (ds : Decls). IsTrue (list_all (λ entry. is_some (target_form ds entry.target)) tabled.tables.targets))
          (sym tables.decls) tables.forms;
      constants = subst (λ (ds : Decls). IsTrue (list_all (constant_is_sound ds) tabled.tables.constants))
          (sym tables.decls) tables.constants;
      files = told.files;
      order = subst (λ (ds : Decls). IsOrder (type_dependencies ds.structures ds.enumerations) d.order)
          (sym tables.decls) is.order;
      functions = told.functions
          ∙ ap (λ (ds : Decls). map numbered (places.function_places ds)) (sym tables.decls);
      enough = let count = ap length told.functions ∙ length-map (places.function_places d.decls) numbered in
          let same = ap (λ (ds : Decls). length (places.function_places ds)) tables.decls in
          let all = ap length tables.words.functions in
          let enough = told.enough in omega (arith, count, same, all, enough);
    }
