-- Each term of a table has a value.
use Rattle.std.proofs.Common.{◌≡◌, ℕ, Bool, ◌&&◌, IsTrue, List, [], ◌∷◌, map, Some, slice_get, refl, sym}
use Rattle.std.proofs.Common.{subst}
use Rattle.std.proofs.Math.Logic.{∥∥₁_elim}
use Rattle.std.proofs.Props.{props}
use Rattle.std.specs.List.{list_all}
use Rattle.cat_value.specs.declared.decls.Decls.{Decls}
use Rattle.cat_value.specs.declared.declaration.Scope.{Scope}
use Rattle.cat_value.specs.declared.outcome.Target.{Target}
use Rattle.cat_region.specs.declared.dim.Dim.{Dim}
use Rattle.cat_region.specs.declared.dim.Dim.TheVariants as dim
use Rattle.cat_region.specs.Points.{is_point, default_point}
use Rattle.cat_scope.specs.declared.defs.Body.{Body}
use Rattle.cat_scope.specs.Forests.{targets_of}
use Rattle.cat_scope.specs.Names.{Names, AllHave}
use Rattle.cat_scope.specs.WellFormed.{DefTyped, IsWellFormed}
use Rattle.cat_guard.specs.declared.table.Table.{Table}
use Rattle.cat_guard.specs.declared.table.Term.{Term}
use Rattle.cat_guard.specs.Numbering.{firsts}
use Rattle.cat_guard.specs.Questions.{Question}
use Rattle.cat_guard.specs.Tables.{IsTableOf, questions_of}
use Rattle.cat_guard.specs.Terms.{same_term, term_of, terms_of}
use Rattle.cat_guard.specs.Valuations.{dims_of}
use Rattle.cat_guard.proofs.Exported.{firsts_all}
use Rattle.cat_audit_sound.proofs.Exported.{IsOfDef, targets_all, body_is}
use Rattle.cat_search.specs.Searched.{has_value}

abbrev names : Decls → Scope → Names
names ds decl = record { decls = ds; items = decl.items }

abbrev Valued : Dim → Type 0
Valued d = IsTrue (is_point d (default_point d))

has : (d : Dim) → Valued d → IsTrue (has_value d)
has dim.Whole valued = refl
has dim.Money valued = refl
has dim.Day valued = refl
has dim.Decimal valued = refl
has dim.Truth valued = refl
has (dim.Cases n) valued = valued

module _ (ds : Decls) (k : ℕ) (decl : Scope) (body : Body) (typed : AllHave (DefTyped (names ds decl) k) body.defs)
    (targets : List Target) where
  abbrev qs : List Question
  qs = questions_of ds body.defs targets

  all_have : (seen : List Question) → AllHave (IsOfDef (names ds decl) k body.defs typed targets) seen
      → IsTrue (list_all has_value (dims_of (map (term_of decl.items) seen)))
  all_have [] of = refl
  all_have (q ∷ seen) of =
      subst (λ (b : Bool). IsTrue (b && list_all has_value (dims_of (map (term_of decl.items) seen))))
      (sym (has q.dim of.0.asked_of.inhabited)) (all_have seen of.1)

  terms_have : IsTrue (list_all has_value (dims_of (terms_of decl.items qs)))
  terms_have = all_have (firsts same_term [] qs)
      (firsts_all (IsOfDef (names ds decl) k body.defs typed targets) same_term [] qs
      (targets_all (names ds decl) k body.defs typed targets targets))

pub all_valued : (ds : Decls) (bodies : List Body) (order : List ℕ) (k : ℕ) (decl : Scope) (body : Body)
    (table : Table) → ∥ IsWellFormed ds bodies order ∥₁ → slice_get ds.scopes k ≡ Some decl
    → slice_get bodies k ≡ Some body → IsTableOf ds k decl body table
    → IsTrue (list_all has_value (dims_of table.terms))
all_valued ds bodies order k decl body table formed at there is =
    subst (λ (ts : List Term). IsTrue (list_all has_value (dims_of ts))) (sym is.terms_are)
    (∥∥₁_elim formed (hlevel props) (λ well. terms_have ds k decl body
    (body_is ds bodies order well k decl body at there).defs (targets_of ds k decl.items body.order)))
