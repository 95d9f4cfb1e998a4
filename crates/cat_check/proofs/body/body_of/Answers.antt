use Rattle.std.proofs.Common.{◌≡◌, ◌∙◌, ◌++◌, Ok, Err, List, [], rules, sym, subst, ap, ℕ, Bool}
use Rattle.std.specs.Prelude.{flat_map}
use Rattle.std.proofs.lemmas.Result.{err_from_is_err_and}
use Rattle.cat_pos.specs.declared.pos.Pos.{Pos}
use Rattle.cat_date.specs.declared.rounding.Rounding.{Rounding}
use Rattle.cat_value.specs.declared.declaration.ItemDecl.{ItemDecl}
use Rattle.cat_scope.specs.Orders.{called_in, once}
use Rattle.cat_check_exprs.specs.declared.said.Said.{Said}
use Rattle.cat_check_exprs.specs.Saying.{behind, nothing_said}
use Rattle.cat_names.specs.Bodies as words
use Rattle.cat_names.specs.Bodies.{UnorderedBody}
use Rattle.cat_names.specs.Found.{Found, Tells, and_then, where_none}
use Rattle.cat_names.specs.Lines.{Line, lines_found}
use Rattle.cat_check.proofs.Whole.{all_found, lines_are, lines_exit, outward_exit, rounds_exit}
use Rattle.cat_check.proofs.body.body_of.Goals as goal

pub returns-in_err-all_inward : goal.returns-in_err-all_inward
returns-in_err-all_inward c = λ items about.
    let p = err_from_is_err_and c.from_residual.result c.from_residual.ensures.1 in
    let ds = c.args.here.now.decls.now in
    let n = c.args.here.now.scope in
    let s = c.args.scope.now in
    let rounds = words.rounds_in ds n items in
    let told : Tells {A = Unit {0}} (Err c.in_err-all_inward.field-0.0)
    (where_none (flat_map words.outward_function s.items) (Ok tt)) =
    subst (λ (is : List ItemDecl). Tells {A = Unit {0}} (Err c.in_err-all_inward.field-0.0)
    (where_none (flat_map words.outward_function is) (Ok tt))) c.as_slice-decls.ensures c.in_err-all_inward.ensures in
    rw (p.1, p.2) (outward_exit c.in_err-all_inward.field-0.0 (flat_map words.outward_function s.items)
    (words.contradictions rounds)
    (and_then (lines_found (record { decls = ds; items = s.items }) n items)
    (λ lines. Ok (words.body_of s.items (words.rounding_of rounds) lines))) told)

pub returns-in_err-rounding : goal.returns-in_err-rounding
returns-in_err-rounding c = λ items about.
    let p = err_from_is_err_and c.from_residual-in_err-rounding.result c.from_residual-in_err-rounding.ensures.1 in
    let ds = c.args.here.now.decls.now in
    let n = c.args.here.now.scope in
    let s = c.args.scope.now in
    let rounds = words.rounds_in ds n items in
    let given : c.as_slice-2.result.now ≡ flat_map words.item_rounds c.args.own = search rules in
    let are : c.as_slice-2.result.now ≡ rounds = given ∙ ap (flat_map words.item_rounds) about in
    let told : Tells {A = Rounding} (Err c.in_err-rounding.field-0.0)
    (where_none (words.contradictions rounds) (Ok (words.rounding_of rounds))) =
    subst (λ (rs : List (Pos × Bool)). Tells {A = Rounding} (Err c.in_err-rounding.field-0.0)
    (where_none (words.contradictions rs) (Ok (words.rounding_of rs)))) are c.in_err-rounding.ensures in
    rw (p.1, p.2) (rounds_exit c.in_err-rounding.field-0.0 (flat_map words.outward_function s.items)
    (words.contradictions rounds) (words.rounding_of rounds)
    (and_then (lines_found (record { decls = ds; items = s.items }) n items)
    (λ lines. Ok (words.body_of s.items (words.rounding_of rounds) lines))) told)

pub returns-in_err-defs : goal.returns-in_err-defs
returns-in_err-defs c = λ items about.
    let p = err_from_is_err_and c.from_residual-in_err-defs.result c.from_residual-in_err-defs.ensures.1 in
    let ds = c.args.here.now.decls.now in
    let n = c.args.here.now.scope in
    let s = c.args.scope.now in
    let rounds = words.rounds_in ds n items in
    let lines = lines_found (record { decls = ds; items = s.items }) n items in
    let are = lines_are ds n s items c.args.own c.requires.declared about in
    let told : Tells {A = Said} (Err c.in_err-defs.field-0.0) (behind nothing_said lines) =
    subst (λ (found : Found (List Line)). Tells {A = Said} (Err c.in_err-defs.field-0.0) (behind nothing_said found))
    are
    c.in_err-defs.ensures in
    rw (p.1, p.2) (lines_exit c.in_err-defs.field-0.0
    (flat_map words.outward_function s.items ++ words.contradictions rounds) lines
    (λ found. Ok (words.body_of s.items (words.rounding_of rounds) found)) told)

pub returns : goal.returns
returns c = λ items about.
    let ds = c.args.here.now.decls.now in
    let n = c.args.here.now.scope in
    let s = c.args.scope.now in
    let said = c.in_ok-defs.field-0 in
    let r = c.in_ok-rounding.rounding in
    let rounds = words.rounds_in ds n items in
    let lines = lines_found (record { decls = ds; items = s.items }) n items in
    let given : c.as_slice-2.result.now ≡ flat_map words.item_rounds c.args.own = search rules in
    let are : c.as_slice-2.result.now ≡ rounds = given ∙ ap (flat_map words.item_rounds) about in
    let inward : Tells {A = Unit {0}} (Ok tt) (where_none (flat_map words.outward_function s.items) (Ok tt)) =
    subst (λ (is : List ItemDecl). Tells {A = Unit {0}} (Ok tt)
    (where_none (flat_map words.outward_function is) (Ok tt))) c.as_slice-decls.ensures c.in_ok-all_inward.ensures in
    let agree : where_none (words.contradictions rounds) (Ok (words.rounding_of rounds)) ≡ Ok r =
    subst (λ (rs : List (Pos × Bool)). where_none (words.contradictions rs) (Ok (words.rounding_of rs)) ≡ Ok r) are
    c.in_ok-rounding.ensures in
    let found : behind nothing_said lines ≡ Ok said =
    ap (behind nothing_said) (sym (lines_are ds n s items c.args.own
    c.requires.declared about)) ∙ c.in_ok-defs.ensures in
    let calls : once [] (called_in s.items said.source said.defs said.assertions) ≡ c.in_ok-calls.calls =
    search rules in
    let with_calls : List ℕ → UnorderedBody = λ numbers. record {
      defs = said.defs;
      assertions = said.assertions;
      source = said.source;
      rounding = r;
      calls = numbers;
    } in
    all_found s.items (flat_map words.outward_function s.items) (words.contradictions rounds) (words.rounding_of rounds)
    r lines said inward agree found ∙ ap (λ (numbers : List ℕ). Ok (with_calls numbers)) calls
