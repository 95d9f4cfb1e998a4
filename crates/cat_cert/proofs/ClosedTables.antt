-- Where all targets have closed trees there is no gap.
use Rattle.std.proofs.Common.{◌≡◌, ℕ, Bool, true, false, List, [], ◌∷◌, ◌++◌, Option}
use Rattle.std.proofs.Common.{Result, Ok, Err, refl, sym, ◌∙◌, subst, arith, true≢false, if◌then◌else◌}
use Rattle.std.specs.Prelude.{nat_eq}
use Rattle.std.proofs.lemmas.Bool.Decides.{nat_tests}
use Rattle.cat_value.specs.declared.declaration.Scope.{Scope}
use Rattle.cat_value.specs.declared.outcome.Target.{Target}
use Rattle.cat_region.specs.declared.dim.Dim.{Dim}
use Rattle.cat_region.specs.Regions.{Valuation, IsValuation}
use Rattle.cat_scope.specs.declared.defs.Body.{Body}
use Rattle.cat_scope.specs.declared.programs.Program.{Program}
use Rattle.cat_scope.specs.declared.stop.Stop.{Stop}
use Rattle.cat_scope.specs.Judging.{Held}
use Rattle.cat_scope.specs.Names.{AllHave, is_in}
use Rattle.cat_sound.specs.Settled.{IsClosed}
use Rattle.cat_sound.proofs.Exported.{all_more, same_some}
use Rattle.cat_guard.specs.declared.table.Atom.{Atom}
use Rattle.cat_guard.specs.declared.table.Table.{Table}
use Rattle.cat_guard.specs.declared.table.TableTarget.{TableTarget}
use Rattle.cat_guard.specs.declared.tree.CitedTree.{CitedTree}
use Rattle.cat_guard.specs.TableJudging.{Covers, decided}
use Rattle.cat_guard.specs.Tables.{IsTableOf, TablesScope}
use Rattle.cat_guard.specs.Trees.{IsCitedClosed}
use Rattle.cat_guard.specs.Valuations.{dims_of, holds_at}
use Rattle.cat_audit_sound.specs.Audited.{IsTargetAudited, MayDecide, ScopesAudited, none_may_stop}
use Rattle.cat_depend.specs.Reached.{EndsWith}
use Rattle.cat_depend.proofs.Exported.{in_here, in_later}
use Rattle.cat_audit_sound.specs.Audited.{HasNoGap}
use Rattle.cat_audit_table.specs.AuditedTables.{scopes_of}
use Rattle.cat_audit_sound.specs.Audited.{GapLaw}
use Rattle.cat_audit_table.proofs.TableLemmas.{table_in}
use Rattle.cat_cert.specs.Checked.{HasClosedTree, HaveClosedTrees}

-- a tree that is closed before any narrowing covers each valuation
abbrev pub CoverEach : Type 0
CoverEach = (atoms : List Atom) (t : TableTarget) (dims : List Dim) (room : ℕ) (tree : CitedTree)
    → IsCitedClosed atoms t (record { dims = dims; narrowings = []; room = room }) tree
    → (v : Valuation) → IsValuation dims v → Covers t (holds_at atoms v)

may_decide : (target : Target) (r : Result (Option (Held (Unit {0}))) Stop) → MayDecide none_may_stop target r
may_decide target (Ok found) = refl
may_decide target (Err stop) = tt

target_audited : CoverEach → (table : Table) (t : TableTarget) → HasClosedTree table t
    → IsTargetAudited none_may_stop table t
target_audited cover table t closed = record {
  covered = λ stops v is. cover table.atoms t (dims_of table.terms) 0 closed.0 closed.1 v is;
  decides = λ none v is. may_decide t.target (decided t (holds_at table.atoms v)).end;
}

-- ---- the table of a scope that is listed

-- it is that scope's, and its targets have closed trees
pub record IsClosedAt (program : Program) (n : ℕ) (table : Table) : Type 0 where
  pub tabled : TablesScope program n table
  pub closed : AllHave (HasClosedTree table) table.targets

same_number : (k m : ℕ) → nat_eq k m ≡ true → k ≡ m
same_number k m e = grind (arith, nat_tests)

turned : (k m : ℕ) → nat_eq k m ≡ false → nat_eq m k ≡ false
turned k m e = grind (arith, nat_tests)

module _ (program : Program) (default : Table) where
  found_at : (tables : List Table) → AllHave (λ t. TablesScope program t.scope t) tables → HaveClosedTrees tables
      → (n : ℕ) → is_in n (scopes_of tables) ≡ true → IsClosedAt program n (table_in tables default n)
  found_at [] tabled closed n inside = absurd (true≢false (sym inside))
  found_at (t ∷ tables) tabled closed n inside =
      by (nat_eq t.scope n) refl (found_at tables tabled.1 closed.1 n)
    where
      by : (b : Bool) → nat_eq t.scope n ≡ b
          → (is_in n (scopes_of tables) ≡ true → IsClosedAt program n (table_in tables default n))
          → IsClosedAt program n (if b then t else table_in tables default n)
      by true e rest = record {
        tabled = subst (λ (k : ℕ). TablesScope program k t) (same_number t.scope n e) tabled.0;
        closed = closed.0;
      }
      by false e rest =
          rest (subst (λ (b : Bool). (if b then true else is_in n (scopes_of tables)) ≡ true) (turned t.scope n e)
          inside)

  audited : CoverEach → (tables : List Table) → AllHave (λ t. TablesScope program t.scope t) tables
      → HaveClosedTrees tables
      → ScopesAudited none_may_stop (λ n. is_in n (scopes_of tables)) program (λ k. table_in tables default k)
  audited cover tables tabled closed k decl body inside at there =
      let table = table_in tables default k in
      let is = found_at tables tabled closed k inside in
      let one : is.tabled.0 ≡ decl = same_some is.tabled.0 decl (sym is.tabled.2 ∙ at) in
      let two : is.tabled.1 ≡ body = same_some is.tabled.1 body (sym is.tabled.3 ∙ there) in
      record {
        table_is = subst (λ (d : Scope). IsTableOf program.decls k d body table) one
            (subst (λ (b : Body). IsTableOf program.decls k is.tabled.0 b table) two is.tabled.4);
        sound = table.sound;
        targets = all_more (HasClosedTree table) (IsTargetAudited none_may_stop table) table.targets is.closed
            (target_audited cover table);
      }

-- ---- of a scope

at_end : (front : List ℕ) (n : ℕ) → is_in n (front ++ n ∷ []) ≡ true
at_end [] n = in_here n []
at_end (m ∷ front) n = in_later n m (front ++ n ∷ []) (at_end front n)

pub none_left : (program : Program) (scope : ℕ) (tables : List Table)
    → AllHave (λ t. TablesScope program t.scope t) tables → HaveClosedTrees tables
    → IsClosed (λ n. is_in n (scopes_of tables)) program.decls program.bodies → EndsWith scope (scopes_of tables)
    → CoverEach → GapLaw program → HasNoGap program scope
none_left program scope [] tabled closed calls end cover law input typed =
    absurd (true≢false (sym (subst (λ (ns : List ℕ). is_in scope ns ≡ true) (sym end.1) (at_end end.0 scope))))
none_left program scope (t ∷ tables) tabled closed calls end cover law input typed =
    law (λ n. is_in n (scopes_of (t ∷ tables))) (λ k. table_in (t ∷ tables) t k) scope input calls
    (audited program t cover (t ∷ tables) tabled closed)
    (subst (λ (ns : List ℕ). is_in scope ns ≡ true) (sym end.1) (at_end end.0 scope)) typed
