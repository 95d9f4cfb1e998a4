use Rattle.std.proofs.Common.{◌≡◌, ◌+◌, ◌∙◌, ℕ, List, [], sym, ap, subst}
use Rattle.std.proofs.lemmas.Result.{err_from_is_err_and}
use Rattle.cat_order.specs.Order.{IsOrder}
use Rattle.cat_value.specs.declared.decls.Decls.{Decls}
use Rattle.cat_value.specs.Dependencies.{type_dependencies}
use Rattle.cat_image.specs.Words.{Text}
use Rattle.cat_verify_tables.specs.declared.declared.Declaring.{Declaring}
use Rattle.cat_verify_tables.specs.inside.Causes.{IsFaulty}
use Rattle.cat_verify_tables.specs.inside.DeclarationWords.{parts_of}
use Rattle.cat_verify_tables.specs.inside.DeclaredWords.{AreHeadersOf, ArePartsOf, HasWrongHeader, HasWrongPart}
use Rattle.cat_verify_tables.specs.inside.Entries.{AreRight}
use Rattle.cat_verify_tables.specs.inside.LowWords.{AreLow, HasHighPart}
use Rattle.cat_verify_tables.specs.inside.NamedWords.{IsFileTwice}
use Rattle.cat_verify_tables.specs.inside.Ordering.{ClosesAt}
use Rattle.cat_verify_tables.proofs.BadLemmas.{file_bad, first}
use Rattle.cat_verify_tables.proofs.HeaderLemmas.{are_plain, has_cause, header_bad, numbers_are, part_bad, same_parts}
use Rattle.cat_verify_tables.proofs.RoundFaults.{round_bad}
use Rattle.cat_verify_tables.proofs.WholeLemmas.{all_items, high_bad, sound, there}
use Rattle.cat_verify_tables.proofs.tables.declarations.Goals as goal

pub returns-in_err-refuse_files-clause-cause : goal.returns-in_err-refuse_files-clause-cause
returns-in_err-refuse_files-clause-cause c =
    let p = err_from_is_err_and c.from_residual.result c.from_residual.ensures.1 in
    let tables = c.args.tables.now in
    rw (p.1, p.2) (has_cause tables (IsFaulty IsFileTwice 2 c.as_slice.result.now)
    (λ n wrong. file_bad tables n (subst (λ (fs : List Text). IsFaulty IsFileTwice 2 fs n) c.as_slice.ensures wrong))
    c.in_err-refuse_files.field-0.0 c.in_err-refuse_files.ensures.cause)

pub returns-in_err-headers-clause-cause : goal.returns-in_err-headers-clause-cause
returns-in_err-headers-clause-cause c =
    let p = err_from_is_err_and c.from_residual-in_err-headers.result c.from_residual-in_err-headers.ensures.1 in
    let tables = c.args.tables.now in
    let first_is : c.in_ok-first.first ≡ first tables =
    c.in_ok-first.ensures ∙ ap (λ (n : ℕ). 2 + n) c.len.ensures in
    rw (p.1, p.2) (has_cause tables (HasWrongHeader tables c.in_ok-first.first)
    (λ n wrong. header_bad tables n (subst (λ (k : ℕ). HasWrongHeader tables k n) first_is wrong))
    c.in_err-headers.field-0.0 c.in_err-headers.ensures.cause)

pub parts-requires : goal.parts-requires
parts-requires c =
    let tables = c.args.tables.now in
    let first_is : c.in_ok-first.first ≡ first tables =
    c.in_ok-first.ensures ∙ ap (λ (n : ℕ). 2 + n) c.len.ensures in
    are_plain tables c.in_ok-headers.headers
    (subst (λ (k : ℕ). AreHeadersOf tables k c.in_ok-headers.headers) first_is c.in_ok-headers.ensures.told)

pub returns-in_err-parts-clause-cause : goal.returns-in_err-parts-clause-cause
returns-in_err-parts-clause-cause c =
    let p = err_from_is_err_and c.from_residual-in_err-parts.result c.from_residual-in_err-parts.ensures.1 in
    let tables = c.args.tables.now in
    let headers = c.in_ok-headers.headers in
    let first_is : c.in_ok-first.first ≡ first tables =
    c.in_ok-first.ensures ∙ ap (λ (n : ℕ). 2 + n) c.len.ensures in
    let are = subst (λ (k : ℕ). AreHeadersOf tables k headers) first_is c.in_ok-headers.ensures.told in
    rw (p.1, p.2) (has_cause tables (HasWrongPart tables headers c.in_ok-first.first)
    (λ n wrong. part_bad tables headers are n (subst (λ (k : ℕ). HasWrongPart tables headers k n) first_is wrong))
    c.in_err-parts.field-0.0 c.in_err-parts.ensures.cause)

pub ordered-requires-clause-there : goal.ordered-requires-clause-there
ordered-requires-clause-there c =
    let tables = c.args.tables.now in
    let headers = c.in_ok-headers.headers in
    let first_is : c.in_ok-first.first ≡ first tables =
    c.in_ok-first.ensures ∙ ap (λ (n : ℕ). 2 + n) c.len.ensures in
    let are = subst (λ (k : ℕ). AreHeadersOf tables k headers) first_is c.in_ok-headers.ensures.told in
    there tables c.requires headers are c.in_ok-parts.parts c.in_ok-parts.ensures.told

pub ordered-requires-clause-items : goal.ordered-requires-clause-items
ordered-requires-clause-items c =
    let tables = c.args.tables.now in
    let headers = c.in_ok-headers.headers in
    let first_is : c.in_ok-first.first ≡ first tables =
    c.in_ok-first.ensures ∙ ap (λ (n : ℕ). 2 + n) c.len.ensures in
    let are = subst (λ (k : ℕ). AreHeadersOf tables k headers) first_is c.in_ok-headers.ensures.told in
    all_items tables c.requires headers are c.in_ok-parts.parts c.in_ok-parts.ensures.told

pub returns-in_err-order-clause-cause : goal.returns-in_err-order-clause-cause
returns-in_err-order-clause-cause c =
    let p = err_from_is_err_and c.from_residual-in_err-order.result c.from_residual-in_err-order.ensures.1 in
    let tables = c.args.tables.now in
    let headers = c.in_ok-headers.headers in
    let parts = c.in_ok-parts.parts in
    let told = c.in_ok-parts.ensures.told in
    let first_is : c.in_ok-first.first ≡ first tables =
    c.in_ok-first.ensures ∙ ap (λ (n : ℕ). 2 + n) c.len.ensures in
    let are = subst (λ (k : ℕ). AreHeadersOf tables k headers) first_is c.in_ok-headers.ensures.told in
    rw (p.1, p.2) (has_cause tables (ClosesAt parts.structures parts.enumerations c.in_ok-first.first)
    (λ n closed. round_bad tables headers.known.types parts.structures parts.enumerations
    (numbers_are tables headers are) told.structures told.enumerations n
    (subst (λ (k : ℕ). ClosesAt parts.structures parts.enumerations k n) first_is closed))
    c.in_err-order.field-0.0 c.in_err-order.ensures.cause)

pub returns-in_err-heights-clause-cause : goal.returns-in_err-heights-clause-cause
returns-in_err-heights-clause-cause c =
    let p = err_from_is_err_and c.from_residual-in_err-heights.result c.from_residual-in_err-heights.ensures.1 in
    let tables = c.args.tables.now in
    let headers = c.in_ok-headers.headers in
    let parts = c.in_ok-parts.parts in
    let first_is : c.in_ok-first.first ≡ first tables =
    c.in_ok-first.ensures ∙ ap (λ (n : ℕ). 2 + n) c.len.ensures in
    let are = subst (λ (k : ℕ). AreHeadersOf tables k headers) first_is c.in_ok-headers.ensures.told in
    rw (p.1, p.2) (has_cause tables (HasHighPart parts headers c.in_ok-first.first)
    (λ n high. high_bad tables c.requires headers are parts c.in_ok-parts.ensures.told n
    (subst (λ (k : ℕ). HasHighPart parts headers k n) first_is high))
    c.in_err-heights.field-0.0 c.in_err-heights.ensures.cause)

pub from_parts-decls-requires : goal.from_parts-decls-requires
from_parts-decls-requires c =
    let tables = c.args.tables.now in
    let headers = c.in_ok-headers.headers in
    let first_is : c.in_ok-first.first ≡ first tables =
    c.in_ok-first.ensures ∙ ap (λ (n : ℕ). 2 + n) c.len.ensures in
    let are = subst (λ (k : ℕ). AreHeadersOf tables k headers) first_is c.in_ok-headers.ensures.told in
    sound tables c.requires headers are c.in_ok-parts.parts c.in_ok-parts.ensures.told c.in_ok-heights.heights
    c.in_ok-heights.ensures.low c.in_ok-order.order c.in_ok-order.ensures.order

pub returns-clause-told : goal.returns-clause-told
returns-clause-told c =
    let tables = c.args.tables.now in
    let headers = c.in_ok-headers.headers in
    let first_is : c.in_ok-first.first ≡ first tables =
    c.in_ok-first.ensures ∙ ap (λ (n : ℕ). 2 + n) c.len.ensures in
    let made = c.in_ok-decls.ensures in
    let same : parts_of c.in_ok-decls.decls ≡ c.in_ok-parts.parts = same_parts c.in_ok-decls.decls c.in_ok-parts.parts
    (ap (λ (ds : Decls). ds.structures) made ∙ c.from_parts-decls.ensures.structures)
    (ap (λ (ds : Decls). ds.enumerations) made ∙ c.from_parts-decls.ensures.enumerations)
    (ap (λ (ds : Decls). ds.scopes) made ∙ c.from_parts-decls.ensures.scopes) in
    record {
      files = subst (λ (fs : List Text). AreRight IsFileTwice [] fs) c.as_slice.ensures
          c.in_ok-refuse_files.ensures.right;
      headers = subst (λ (k : ℕ). AreHeadersOf tables k headers) first_is c.in_ok-headers.ensures.told;
      parts = subst (ArePartsOf tables headers) (sym same) c.in_ok-parts.ensures.told;
      order = subst (λ (p : Declaring). IsOrder (type_dependencies p.structures p.enumerations) c.in_ok-order.order)
          (sym same) c.in_ok-order.ensures.order;
      low = subst (λ (p : Declaring). AreLow p c.in_ok-heights.heights) (sym same) c.in_ok-heights.ensures.low;
    }
