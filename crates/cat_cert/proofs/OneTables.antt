-- A scope and those that it calls have one list of tables.
use Rattle.std.proofs.Common.{◌≡◌, ℕ, Bool, true, false, IsTrue, List, [], ◌∷◌}
use Rattle.std.proofs.Common.{refl, sym, ap, ◌∙◌, subst, true≢false}
use Rattle.std.specs.Prelude.{cond, filter}
use Rattle.std.proofs.Math.Bool.{Bool-set}
use Rattle.cat_value.specs.declared.decls.Decls.{Decls}
use Rattle.cat_value.specs.declared.declaration.Scope.{Scope}
use Rattle.cat_scope.specs.declared.defs.Body.{Body}
use Rattle.cat_scope.specs.declared.programs.Program.{Program}
use Rattle.cat_scope.specs.Names.{AllHave}
use Rattle.cat_sound.proofs.Exported.{same_some}
use Rattle.cat_guard.specs.declared.table.Atom.{Atom}
use Rattle.cat_guard.specs.declared.table.Table.{Table}
use Rattle.cat_guard.specs.declared.table.TableTarget.{TableTarget}
use Rattle.cat_guard.specs.declared.table.Term.{Term}
use Rattle.cat_guard.specs.Soundness.{is_sound}
use Rattle.cat_guard.specs.Tables.{IsTableOf, TablesScope}
use Rattle.cat_depend.specs.Reached.{AreReachedFrom}
use Rattle.cat_audit_table.specs.AuditedTables.{AreTablesOf, scopes_of}

-- ---- the scopes

bool_same : (a b : Bool) → (IsTrue a → IsTrue b) → (IsTrue b → IsTrue a) → a ≡ b
bool_same true true on back = refl
bool_same true false on back = absurd (true≢false (sym (on refl)))
bool_same false true on back = absurd (true≢false (sym (back refl)))
bool_same false false on back = refl

filter_same : (p q : ℕ → Bool) → ((n : ℕ) → p n ≡ q n) → (ns : List ℕ) → filter p ns ≡ filter q ns
filter_same p q same [] = refl
filter_same p q same (n ∷ ns) =
    ap (λ (b : Bool). cond b (n ∷ filter p ns) (filter p ns)) (same n)
    ∙ ap (λ (ms : List ℕ). cond (q n) (n ∷ ms) ms) (filter_same p q same ns)

scopes_once : (program : Program) (scope : ℕ) (one other : List ℕ) → AreReachedFrom program scope one
    → AreReachedFrom program scope other → one ≡ other
scopes_once program scope one other are also =
    are.scopes_are
    ∙ filter_same are.is_reached also.is_reached
    (λ n. bool_same (are.is_reached n) (also.is_reached n) (λ h. (also.decides n).1 ((are.decides n).0 h))
    (λ h. (are.decides n).1 ((also.decides n).0 h))) program.scope_order
    ∙ sym also.scopes_are

-- ---- their tables

abbrev with_parts : (scope : ℕ) (name : List ℕ) (terms : List Term) (atoms : List Atom) (targets : List TableTarget)
    → IsTrue (is_sound terms atoms targets) → Table
with_parts scope name terms atoms targets sound =
    record { scope = scope; name = name; terms = terms; atoms = atoms; targets = targets; sound = sound }

table_same : (a b : Table) → a.scope ≡ b.scope → a.name ≡ b.name → a.terms ≡ b.terms → a.atoms ≡ b.atoms
    → a.targets ≡ b.targets → a ≡ b
table_same a b scope name terms atoms targets =
    subst (λ (n : ℕ). (sound : IsTrue (is_sound b.terms b.atoms b.targets))
    → a ≡ with_parts n b.name b.terms b.atoms b.targets sound) scope
    (subst (λ (ns : List ℕ). (sound : IsTrue (is_sound b.terms b.atoms b.targets))
    → a ≡ with_parts a.scope ns b.terms b.atoms b.targets sound) name
    (subst (λ (ts : List Term). (sound : IsTrue (is_sound ts b.atoms b.targets))
    → a ≡ with_parts a.scope a.name ts b.atoms b.targets sound) terms
    (subst (λ (xs : List Atom). (sound : IsTrue (is_sound a.terms xs b.targets))
    → a ≡ with_parts a.scope a.name a.terms xs b.targets sound) atoms
    (subst (λ (ts : List TableTarget). (sound : IsTrue (is_sound a.terms a.atoms ts))
    → a ≡ with_parts a.scope a.name a.terms a.atoms ts sound) targets
    (λ sound. ap (with_parts a.scope a.name a.terms a.atoms a.targets)
    (Bool-set (is_sound a.terms a.atoms a.targets) true a.sound sound)))))) b.sound

of_one : (ds : Decls) (scope : ℕ) (decl : Scope) (body : Body) (a b : Table) → IsTableOf ds scope decl body a
    → IsTableOf ds scope decl body b → a ≡ b
of_one ds scope decl body a b is also =
    table_same a b (is.scope_is ∙ sym also.scope_is) (is.name_is ∙ sym also.name_is) (is.terms_are ∙ sym also.terms_are)
    (is.atoms_are ∙ sym also.atoms_are) (is.targets_are ∙ sym also.targets_are)

table_once : (program : Program) (scope : ℕ) (a b : Table) → TablesScope program scope a → TablesScope program scope b
    → a ≡ b
table_once program scope a b is also =
    let decl : is.0 ≡ also.0 = same_some is.0 also.0 (sym is.2 ∙ also.2) in
    let body : is.1 ≡ also.1 = same_some is.1 also.1 (sym is.3 ∙ also.3) in
    of_one program.decls scope also.0 also.1 a b
    (subst (λ (d : Scope). IsTableOf program.decls scope d also.1 a) decl
    (subst (λ (x : Body). IsTableOf program.decls scope is.0 x a) body is.4)) also.4

tables_once : (program : Program) (tables others : List Table) → AllHave (λ t. TablesScope program t.scope t) tables
    → AllHave (λ t. TablesScope program t.scope t) others → scopes_of tables ≡ scopes_of others → tables ≡ others
tables_once program [] [] are also same = refl
tables_once program [] (o ∷ others) are also same = absurd (cc)
tables_once program (t ∷ tables) [] are also same = absurd (cc)
tables_once program (t ∷ tables) (o ∷ others) are also same =
    let first : t.scope ≡ o.scope = cc same in
    let rest : scopes_of tables ≡ scopes_of others = cc same in
    let here : TablesScope program o.scope t = subst (λ (n : ℕ). TablesScope program n t) first are.0 in
    ap (λ (x : Table). x ∷ tables) (table_once program o.scope t o here also.0)
    ∙ ap (λ (xs : List Table). o ∷ xs) (tables_once program tables others are.1 also.1 rest)

pub one_tables : (program : Program) (scope : ℕ) (tables others : List Table) → AreTablesOf program scope tables
    → AreTablesOf program scope others → tables ≡ others
one_tables program scope tables others are also =
    tables_once program tables others are.tables_are also.tables_are
    (scopes_once program scope (scopes_of tables) (scopes_of others) are.scopes_are also.scopes_are)
