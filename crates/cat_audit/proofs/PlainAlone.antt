-- From a plain scope no other scope is reached, and none has a line.
use Rattle.std.proofs.Common.{◌≡◌, ℕ, true, false, IsTrue, List, [], ◌∷◌, ◌++◌, Option, slice_get}
use Rattle.std.proofs.Common.{refl, sym, ap, ◌∙◌, subst, true≢false}
use Rattle.cat_order.specs.Cycle.{DependsOn}
use Rattle.cat_order.specs.Order.{dependencies_of, is_listed}
use Rattle.cat_value.specs.declared.declaration.ItemDecl.{ItemDecl}
use Rattle.cat_value.specs.declared.declaration.Kind.{Kind}
use Rattle.cat_value.specs.declared.declaration.Kind.TheVariants as kind
use Rattle.cat_value.specs.declared.declaration.Scope.{Scope}
use Rattle.cat_scope.specs.declared.defs.Assertion.{Assertion}
use Rattle.cat_scope.specs.declared.defs.Body.{Body}
use Rattle.cat_scope.specs.declared.defs.Def.{Def}
use Rattle.cat_scope.specs.declared.defs.SourcePart.{SourcePart}
use Rattle.cat_scope.specs.declared.defs.SourcePart.TheVariants as part
use Rattle.cat_scope.specs.declared.programs.Program.{Program}
use Rattle.cat_scope.specs.Mentions.{scopes_named}
use Rattle.cat_scope.specs.Names.{AllHave, all_differ, is_called, is_in, items_in}
use Rattle.cat_scope.specs.Orders.{called_by_items, called_by_kind, called_in, in_def, once, scope_dependencies}
use Rattle.cat_sound.proofs.Exported.{scopes-at}
use Rattle.cat_depend.specs.Reached.{EndsWith, IsReached}
use Rattle.cat_depend.specs.Reached as reach
use Rattle.cat_depend.proofs.Exported.{differ_first, in_here}
use Rattle.cat_audit.specs.declared.report.Verdict.{Verdict}
use Rattle.cat_audit.specs.declared.report.CalledLine.{CalledLine}
use Rattle.cat_audit.specs.Called.{called_lines, in_scope_calls, item_line, item_lines, scope_lines}
use Rattle.cat_audit.specs.Plain.{IsPlain}

-- ---- items that call no scope

kind_calls : (k : Kind) → is_called k ≡ false → called_by_kind k ≡ []
kind_calls (kind.Called scope) e = absurd (true≢false e)
kind_calls _ e = refl

kind_line : (f : ℕ → Verdict) (name : List ℕ) (k : Kind) → is_called k ≡ false → item_line f name k ≡ []
kind_line f name (kind.Called scope) e = absurd (true≢false e)
kind_line f name _ e = refl

items_call : (items : List ItemDecl) → AllHave (λ item. is_called item.kind ≡ false) items → called_by_items items ≡ []
items_call [] h = refl
items_call (item ∷ items) h =
    ap (λ (ns : List ℕ). ns ++ called_by_items items) (kind_calls item.kind h.0) ∙ items_call items h.1

items_lines : (f : ℕ → Verdict) (items : List ItemDecl) → AllHave (λ item. is_called item.kind ≡ false) items
    → item_lines f items ≡ []
items_lines f [] h = refl
items_lines f (item ∷ items) h =
    ap (λ (ls : List CalledLine). ls ++ item_lines f items) (kind_line f item.name item.kind h.0)
    ∙ items_lines f items h.1

-- a source calls what stands in its scope calls alone, where its items call nothing
source_calls : (items : List ItemDecl) → called_by_items items ≡ [] → (source : List SourcePart) (defs : List Def)
    (assertions : List Assertion) → called_in items source defs assertions ≡ called_in [] source defs assertions
source_calls items none [] defs assertions = refl
source_calls items none (part.Declaration ∷ source) defs assertions =
    ap (λ (ns : List ℕ). ns ++ called_in items source defs assertions) none
    ∙ source_calls items none source defs assertions
source_calls items none (part.Condition e ∷ source) defs assertions =
    ap (λ (ns : List ℕ). scopes_named e ++ ns) (source_calls items none source defs assertions)
source_calls items none (part.Definition ∷ source) [] assertions = source_calls items none source [] assertions
source_calls items none (part.Definition ∷ source) (d ∷ defs) assertions =
    ap (λ (ns : List ℕ). in_def scopes_named d ++ ns) (source_calls items none source defs assertions)
source_calls items none (part.Assertion ∷ source) defs [] = source_calls items none source defs []
source_calls items none (part.Assertion ∷ source) defs (a ∷ assertions) =
    ap (λ (ns : List ℕ). scopes_named a.condition ++ ns) (source_calls items none source defs assertions)

-- ---- a plain scope

module _ (program : Program) (scope : ℕ) (plain : IsPlain program scope) where
  abbrev decl : Scope
  decl = plain.0

  abbrev body : Body
  body = plain.1

  abbrev deps : List (List ℕ)
  deps = scope_dependencies program.decls.scopes program.bodies

  none : dependencies_of deps scope ≡ []
  none = scopes-at program.decls.scopes program.bodies scope decl body plain.2 plain.3
      ∙ ap (once []) (source_calls decl.items (items_call decl.items plain.4.no_called_scope) body.source body.defs
      body.assertions)
      ∙ plain.4.no_scope_call

  -- no other scope is reached
  pub itself_alone : (n : ℕ) → IsReached deps scope n → n ≡ scope
  itself_alone n reach.itself = refl
  itself_alone n (reach.further via to r on) =
      let from : DependsOn deps scope n = subst (λ (k : ℕ). DependsOn deps k n) (itself_alone via r) on in
      absurd (true≢false (sym (subst (λ (ns : List ℕ). IsTrue (is_listed ns n)) none from)))

  -- no called scope has a line
  pub no_line : (f : ℕ → Verdict) → called_lines program f scope ≡ []
  no_line f = ap (λ (s : Option Scope). item_lines f (items_in s)
      ++ scope_lines f program.decls.scopes (in_scope_calls (slice_get program.bodies scope))) plain.2
      ∙ ap (λ (ls : List CalledLine). ls
      ++ scope_lines f program.decls.scopes (in_scope_calls (slice_get program.bodies scope)))
      (items_lines f decl.items plain.4.no_called_scope)
      ∙ ap (λ (b : Option Body). scope_lines f program.decls.scopes (in_scope_calls b)) plain.3
      ∙ ap (scope_lines f program.decls.scopes) plain.4.no_scope_call

-- ---- lists of one number

-- a list that ends with a number, has no other and has none twice has that one alone
pub one_alone : (n : ℕ) (ns : List ℕ) → EndsWith n ns → all_differ ns ≡ true → AllHave (λ m. m ≡ n) ns → ns ≡ n ∷ []
one_alone n [] ends differ same = absurd (not_empty ends.0 ends.1)
  where
    not_empty : (front : List ℕ) → [] ≡ front ++ n ∷ [] → ⊥
    not_empty [] e = absurd (cc)
    not_empty (m ∷ front) e = absurd (cc)
one_alone n (m ∷ []) ends differ same = ap (λ (k : ℕ). k ∷ []) same.0
one_alone n (m ∷ k ∷ ns) ends differ same =
    absurd (true≢false (sym (subst (λ (j : ℕ). is_in j (k ∷ ns) ≡ true) (same.1.0 ∙ sym same.0) (in_here k ns))
    ∙ differ_first m (k ∷ ns) differ))
