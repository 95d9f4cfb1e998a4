-- How far all runs of a scope come, by what code reads of it.
use Rattle.std.proofs.Common.{◌≡◌, ℕ, ◌+◌, true, List, Option, None, Some, Ok, take, slice_get, refl, sym, ap, ◌∙◌}
use Rattle.std.proofs.Common.{subst}
use Rattle.std.proofs.Common.{true≢false}
use Rattle.std.specs.Prelude.{Result, Err, IfSome, IsOk, is_ok}
use Rattle.cat_value.specs.declared.declaration.ItemDecl.{ItemDecl}
use Rattle.cat_value.specs.declared.declaration.Scope.{Scope}
use Rattle.cat_value.specs.declared.decls.Decls.{Decls}
use Rattle.cat_value.specs.Inputs.{IsWellTyped}
use Rattle.cat_scope.specs.declared.defs.Body.{Body}
use Rattle.cat_scope.specs.declared.defs.Def.{Def}
use Rattle.cat_scope.specs.declared.programs.Program.{Program}
use Rattle.cat_scope.specs.declared.stop.Stop.{Stop}
use Rattle.cat_scope.specs.Calls.{Items}
use Rattle.cat_scope.specs.Running.{backwards, scope_run, scoped_of}
use Rattle.cat_sound.specs.Given.{values_at}
use Rattle.cat_guard.specs.declared.table.TableTarget.{TableTarget}
use Rattle.cat_audit_sound.proofs.StandingDefs.{typed_given}
use Rattle.cat_cert.proofs.Lists.{some_at}
use Rattle.cat_dead.proofs.Exported.{some_same}
use Rattle.cat_dead_report.specs.inside.Faultless.{IsReached, is_harmless_at, is_passed_at, is_passed_if}
use Rattle.cat_dead_report.proofs.ReachedRuns.{item_passed, none_before, reached_on}

-- ---- what is reached

-- the value that there is
pub ok_there : {A : Type 0} (r : Result A Stop) → IsOk r → (a : A) × (r ≡ Ok a)
ok_there (Ok a) is = (a, refl)
ok_there (Err stop) is = absurd (true≢false (sym is))

-- a scope of a program has one declaration and one body
pub reached_by : (program : Program) (scope index : ℕ) (decl : Scope) (body : Body)
    → slice_get program.decls.scopes scope ≡ Some decl → slice_get program.bodies scope ≡ Some body
    → ((input : Items) → IsWellTyped program.decls scope input
    → IsOk (values_at (scoped_of scope decl.items body program.decls.scopes (scope_run program)) input index).end)
    → IsReached program scope index
reached_by program scope index decl body at also each other there other_is there_is input typed =
    subst (λ (s : Scope). IsOk (values_at (scoped_of scope s.items there program.decls.scopes (scope_run program)) input
    index).end) (some_same decl other (sym at ∙ other_is))
    (subst (λ (b : Body). IsOk (values_at (scoped_of scope decl.items b program.decls.scopes (scope_run program)) input
    index).end) (some_same body there (sym also ∙ there_is)) (each input typed))

-- each run comes to the first item of the order
pub reached_first : (program : Program) (scope : ℕ) → IsReached program scope 0
reached_first program scope decl body at also input typed =
    ap is_ok (none_before (scoped_of scope decl.items body program.decls.scopes (scope_run program)) input)

-- behind an item that is passed, each comes to the next one
pub goes_past : (program : Program) (scope index item : ℕ) → IsReached program scope index
    → ((decl : Scope) (body : Body) → slice_get program.decls.scopes scope ≡ Some decl
    → slice_get program.bodies scope ≡ Some body
    → (slice_get body.order index ≡ Some item) × (is_passed_if (slice_get decl.items item) ≡ true))
    → IsReached program scope (index + 1)
goes_past program scope index item reached is decl body at also input typed =
    let here = is decl body at also in
    let scoped = scoped_of scope decl.items body program.decls.scopes (scope_run program) in
    let comes = ok_there (values_at scoped input index).end (reached decl body at also input typed) in
    let one = reached_on scoped input index item here.0 comes.0 comes.1
    (item_passed program.decls scoped input (typed_given program.decls scope decl input at typed)
    (backwards (take index body.order)) comes.0 item (slice_get decl.items item) refl here.1) in
    ap is_ok one.1

-- ---- the parts of a scope

-- what code reads of a scope, by what the calls tell
module _ (program : Program) (scope index : ℕ) (ds : Decls) (read : Scope) (items : List ItemDecl) (order : List ℕ)
    (decls_are : ds ≡ program.decls) (read_is : slice_get ds.scopes scope ≡ Some read) (items_are : items ≡ read.items)
    (order_is : IfSome (slice_get program.bodies scope) (λ body. order ≡ body.order)) (decl : Scope) (body : Body)
    (at : slice_get program.decls.scopes scope ≡ Some decl) (also : slice_get program.bodies scope ≡ Some body) where
  its_items : items ≡ decl.items
  its_items =
      items_are ∙ ap (λ (s : Scope). s.items) (some_same read decl
      (sym (ap (λ (xs : Decls). slice_get xs.scopes scope) (sym decls_are) ∙ read_is) ∙ at))

  its_order : order ≡ body.order
  its_order = some_at (slice_get program.bodies scope) body (λ (b : Body). order ≡ b.order) also order_is

-- an item that is passed is there
pub passed_item : (items : List ItemDecl) (o : Option ℕ) → is_passed_at items o ≡ true
    → (item : ℕ) × (o ≡ Some item) × (is_passed_if (slice_get items item) ≡ true)
passed_item items None is = absurd (true≢false (sym is))
passed_item items (Some item) is = (item, refl, is)

pub passed_parts : (program : Program) (scope index item : ℕ) (ds : Decls) (read : Scope) (items : List ItemDecl)
    (order : List ℕ) → ds ≡ program.decls → slice_get ds.scopes scope ≡ Some read → items ≡ read.items
    → IfSome (slice_get program.bodies scope) (λ body. order ≡ body.order) → slice_get order index ≡ Some item
    → is_passed_if (slice_get items item) ≡ true → (decl : Scope) (body : Body)
    → slice_get program.decls.scopes scope ≡ Some decl → slice_get program.bodies scope ≡ Some body
    → (slice_get body.order index ≡ Some item) × (is_passed_if (slice_get decl.items item) ≡ true)
passed_parts program scope index item ds read items order a b c d there passed decl body at also = (
  ap (λ (ns : List ℕ). slice_get ns index) (sym (its_order program scope index ds read items order a b c d decl body at
      also)) ∙ there,
  ap (λ (xs : List ItemDecl). is_passed_if (slice_get xs item)) (sym (its_items program scope index ds read items order
      a b c d decl body at also)) ∙ passed,
)

pub same_parts : (program : Program) (scope index : ℕ) (target : TableTarget) (ds : Decls) (read : Scope)
    (items : List ItemDecl) (order : List ℕ) (defs : List Def) → ds ≡ program.decls
    → slice_get ds.scopes scope ≡ Some read → items ≡ read.items
    → IfSome (slice_get program.bodies scope) (λ body. order ≡ body.order)
    → IfSome (slice_get program.bodies scope) (λ body. defs ≡ body.defs) → (decl : Scope) (body : Body)
    → slice_get program.decls.scopes scope ≡ Some decl → slice_get program.bodies scope ≡ Some body
    → is_harmless_at items order defs index target ≡ true
    → is_harmless_at decl.items body.order body.defs index target ≡ true
same_parts program scope index target ds read items order defs a b c d e decl body at also is =
    let its = its_items program scope index ds read items order a b c d decl body at also in
    let ordered = its_order program scope index ds read items order a b c d decl body at also in
    let defined = some_at (slice_get program.bodies scope) body (λ (b : Body). defs ≡ b.defs) also e in
    ap (λ (xs : List ItemDecl). is_harmless_at xs body.order body.defs index target) (sym its)
    ∙ ap (λ (ns : List ℕ). is_harmless_at items ns body.defs index target) (sym ordered)
    ∙ ap (λ (xs : List Def). is_harmless_at items order xs index target) (sym defined) ∙ is
