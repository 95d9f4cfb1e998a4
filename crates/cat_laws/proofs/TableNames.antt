-- The names of a table, where no name of its program holds a line feed or a hyphen.
use Rattle.std.proofs.Common.{◌≡◌, ◌&&◌, ℕ, Bool, true, false, IsTrue, List, [], ◌∷◌, ◌++◌, map, Option, None, Some}
use Rattle.std.proofs.Common.{not, ◌==◌, slice_get, refl, sym, ap, ◌∙◌, subst}
use Rattle.std.specs.List.{list_all}
use Rattle.std.proofs.lemmas.List.Folds.{list_all-append}
use Rattle.cat_value.specs.declared.decls.Decls.{Decls}
use Rattle.cat_value.specs.declared.declaration.ItemDecl.{ItemDecl}
use Rattle.cat_value.specs.declared.declaration.Kind.{Kind}
use Rattle.cat_value.specs.declared.declaration.Kind.TheVariants as kind
use Rattle.cat_value.specs.declared.declaration.Scope.{Scope}
use Rattle.cat_value.specs.declared.outcome.Target.{Target}
use Rattle.cat_scope.specs.declared.defs.Def.{Def}
use Rattle.cat_scope.specs.declared.programs.Program.{Program}
use Rattle.cat_scope.specs.Forests.{targets_of}
use Rattle.cat_scope.specs.Names.{AllHave, items_in}
use Rattle.cat_sound.proofs.Exported.{all_at}
use Rattle.cat_guard.specs.declared.table.Table.{Table}
use Rattle.cat_guard.specs.declared.table.TableTarget.{TableTarget}
use Rattle.cat_guard.specs.Questions.{Question}
use Rattle.cat_guard.specs.Tables.{TablesScope, inner_item, inner_items, item_name, questions_of, target_name}
use Rattle.cat_guard.specs.Tables.{target_of}
use Rattle.cat_cert.specs.Lines.{Due, TargetDue, due_name, dues_of}
use Rattle.cat_cert.specs.Texts.{is_line, names_are_lines}
use Rattle.cat_cert.specs.ScopeTables.{AreNamedInLines}
use Rattle.cat_laws.specs.Unbroken.{AreUnbroken, IsUnbroken, is_inner, is_unbroken}

-- ---- texts

pub both : (a b : Bool) → IsTrue a → IsTrue b → IsTrue (a && b)
both true true one two = refl
both true false one two = two
both false b one two = one

pub first_of : (a b : Bool) → (a && b) ≡ true → a ≡ true
first_of true b h = refl
first_of false b h = h

pub second_of : (a b : Bool) → (a && b) ≡ true → b ≡ true
second_of true b h = h
second_of false b h = cc h

pub unbroken_both : (xs ys : List ℕ) → IsTrue (is_unbroken xs) → IsTrue (is_unbroken ys)
    → IsTrue (is_unbroken (xs ++ ys))
unbroken_both xs ys one two = list_all-append is_inner xs ys ∙ both (is_unbroken xs) (is_unbroken ys) one two

-- a text that holds no line feed and no hyphen holds no line feed
pub line_of : (text : List ℕ) → IsTrue (is_unbroken text) → IsTrue (is_line text)
line_of [] h = refl
line_of (b ∷ text) h =
    both (not (b == 10)) (is_line text)
    (first_of (not (b == 10)) (not (b == 45)) (first_of (is_inner b) (is_unbroken text) h))
    (line_of text (second_of (is_inner b) (is_unbroken text) h))

-- ---- names of items and of targets

abbrev IsNamed : ItemDecl → Type 0
IsNamed item = IsTrue (is_unbroken item.name)

module _ (ds : Decls) (named : AreUnbroken ds.scopes) where
  in_scope : (found : Option Scope) (n : ℕ) → slice_get ds.scopes n ≡ found → AllHave IsNamed (items_in found)
  in_scope None n at = tt
  in_scope (Some s) n at = (all_at IsUnbroken ds.scopes n s named at).1

  in_items : (items : List ItemDecl) → AllHave IsNamed items → (found : Option ItemDecl) (n : ℕ)
      → slice_get items n ≡ found → IsTrue (is_unbroken (item_name found))
  in_items items all None n at = refl
  in_items items all (Some item) n at = all_at IsNamed items n item all at

  in_kind : (k : Kind) → AllHave IsNamed (inner_items ds k)
  in_kind (kind.Called scope) = in_scope (slice_get ds.scopes scope) scope refl
  in_kind _ = tt

  of_inner : (found : Option ItemDecl) (n : ℕ) → IsTrue (is_unbroken (item_name (inner_item ds found n)))
  of_inner None n = refl
  of_inner (Some item) n =
      in_items (inner_items ds item.kind) (in_kind item.kind) (slice_get (inner_items ds item.kind) n) n refl

  of_target : (found : Option ItemDecl) (inner : Option ℕ) → IsTrue (is_unbroken (item_name found))
      → IsTrue (is_unbroken (target_name ds found inner))
  of_target found None name = name
  of_target found (Some n) name =
      unbroken_both (item_name found) (46 ∷ item_name (inner_item ds found n)) name (of_inner found n)

  of_targets : (items : List ItemDecl) → AllHave IsNamed items → (defs : List Def) (qs : List Question)
      (targets : List Target) → AllHave (λ t. IsTrue (is_unbroken t.name)) (map (target_of ds items defs qs) targets)
  of_targets items all defs qs [] = tt
  of_targets items all defs qs (t ∷ targets) = (
    of_target (slice_get items t.item) t.inner (in_items items all (slice_get items t.item) t.item refl),
    of_targets items all defs qs targets,
  )

-- ---- names of tables

-- the names of a table hold neither
pub record IsNamedTable (table : Table) : Type 0 where
  pub name : IsTrue (is_unbroken table.name)
  pub targets : AllHave (λ t. IsTrue (is_unbroken t.name)) table.targets

module _ (program : Program) (named : AreUnbroken program.decls.scopes) where
  pub named_table : (table : Table) → TablesScope program table.scope table → IsNamedTable table
  named_table table is =
      let ds = program.decls in
      let decl = is.0 in
      let body = is.1 in
      let parts = all_at IsUnbroken ds.scopes table.scope decl named is.2 in
      let targets = targets_of ds table.scope decl.items body.order in
      record {
        name = ap is_unbroken is.4.name_is ∙ parts.0;
        targets = subst (AllHave (λ t. IsTrue (is_unbroken t.name))) (sym is.4.targets_are)
            (of_targets ds named decl.items parts.1 body.defs (questions_of ds body.defs targets) targets);
      }

  due_lines : (targets : List TableTarget) → AllHave (λ t. IsTrue (is_unbroken t.name)) targets → (dues : List Due)
      → IsTrue (list_all (λ due. is_line (due_name due)) dues)
      → IsTrue (list_all (λ due. is_line (due_name due)) (map TargetDue targets ++ dues))
  due_lines [] all dues more = more
  due_lines (t ∷ targets) all dues more =
      both (is_line t.name) (list_all (λ due. is_line (due_name due)) (map TargetDue targets ++ dues))
      (line_of t.name all.0) (due_lines targets all.1 dues more)

  -- nor do they hold a line feed
  pub tables_in_lines : (tables : List Table) → AllHave (λ t. TablesScope program t.scope t) tables
      → IsTrue (names_are_lines tables)
  tables_in_lines [] tabled = refl
  tables_in_lines (t ∷ tables) tabled =
      let these = named_table t tabled.0 in
      both (is_line t.name) (list_all (λ due. is_line (due_name due)) (map TargetDue t.targets ++ dues_of tables))
      (line_of t.name these.name) (due_lines t.targets these.targets (dues_of tables) (tables_in_lines tables tabled.1))

-- ---- names of declarations

items_in_lines : (items : List ItemDecl) → AllHave IsNamed items → AllHave (λ item. IsTrue (is_line item.name)) items
items_in_lines [] all = tt
items_in_lines (item ∷ items) all = (line_of item.name all.0, items_in_lines items all.1)

scopes_in_lines : (scopes : List Scope) → AreUnbroken scopes
    → AllHave (λ s. IsTrue (is_line s.name) × AllHave (λ item. IsTrue (is_line item.name)) s.items) scopes
scopes_in_lines [] all = tt
scopes_in_lines (s ∷ scopes) all =
    ((line_of s.name all.0.0, items_in_lines s.items all.0.1), scopes_in_lines scopes all.1)

pub named_in_lines : (ds : Decls) → AreUnbroken ds.scopes → AreNamedInLines ds
named_in_lines ds all = scopes_in_lines ds.scopes all
