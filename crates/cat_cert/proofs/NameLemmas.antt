-- Names that hold no line feed.
use Rattle.std.proofs.Common.{◌≡◌, ◌&&◌, ℕ, Bool, true, false, IsTrue, List, [], ◌∷◌, ◌++◌, map, Option, None, Some}
use Rattle.std.proofs.Common.{not, ◌==◌, slice_get, refl, sym, ap, ◌∙◌, subst}
use Rattle.std.specs.List.{list_all}
use Rattle.std.proofs.lemmas.List.Folds.{list_all-append}
use Rattle.cat_value.specs.declared.decls.Decls.{Decls}
use Rattle.cat_value.specs.declared.declaration.ItemDecl.{ItemDecl}
use Rattle.cat_value.specs.declared.declaration.Kind.{Kind}
use Rattle.cat_value.specs.declared.declaration.Kind.TheVariants as kind
use Rattle.cat_value.specs.declared.declaration.Scope.{Scope}
use Rattle.cat_value.specs.declared.outcome.Target.{Target}
use Rattle.cat_scope.specs.declared.defs.Def.{Def}
use Rattle.cat_scope.specs.declared.programs.Program.{Program}
use Rattle.cat_scope.specs.Forests.{targets_of}
use Rattle.cat_scope.specs.Names.{AllHave, items_in}
use Rattle.cat_sound.proofs.Exported.{all_at}
use Rattle.cat_guard.specs.declared.table.Table.{Table}
use Rattle.cat_guard.specs.declared.table.TableTarget.{TableTarget}
use Rattle.cat_guard.specs.Questions.{Question}
use Rattle.cat_guard.specs.Tables.{TablesScope, inner_item, inner_items, item_name, questions_of, target_name}
use Rattle.cat_guard.specs.Tables.{target_of}
use Rattle.cat_cert.specs.Lines.{ScopeDue, TargetDue, due_name, dues_of}
use Rattle.cat_cert.specs.Texts.{is_line, names_are_lines}
use Rattle.cat_cert.specs.declared.certificate.Certificate.{Certificate}
use Rattle.cat_cert.specs.Checked.{IsCertified, IsChecked, text_over}
use Rattle.cat_cert.specs.ScopeTables.{AreNamedInLines, IsOverScope, IsScopeCertified}

-- ---- lists

both : (a b : Bool) → IsTrue a → IsTrue b → IsTrue (a && b)
both true true one two = refl
both true false one two = two
both false b one two = one

both_lists : {A : Type 0} (p : A → Bool) (xs ys : List A) → IsTrue (list_all p xs) → IsTrue (list_all p ys)
    → IsTrue (list_all p (xs ++ ys))
both_lists p xs ys one two = list_all-append p xs ys ∙ both (list_all p xs) (list_all p ys) one two

-- ---- names of items and of targets

module _ (ds : Decls) (named : AreNamedInLines ds) where
  in_scope : (found : Option Scope) (n : ℕ) → slice_get ds.scopes n ≡ found
      → AllHave (λ item. IsTrue (is_line item.name)) (items_in found)
  in_scope None n at = tt
  in_scope (Some s) n at =
      (all_at (λ s. IsTrue (is_line s.name) × AllHave (λ item. IsTrue (is_line item.name)) s.items) ds.scopes n s
      named at).1

  in_items : (items : List ItemDecl) → AllHave (λ item. IsTrue (is_line item.name)) items → (found : Option ItemDecl)
      → (n : ℕ) → slice_get items n ≡ found → IsTrue (is_line (item_name found))
  in_items items all None n at = refl
  in_items items all (Some item) n at = all_at (λ item. IsTrue (is_line item.name)) items n item all at

  in_kind : (k : Kind) → AllHave (λ item. IsTrue (is_line item.name)) (inner_items ds k)
  in_kind (kind.Called scope) = in_scope (slice_get ds.scopes scope) scope refl
  in_kind _ = tt

  of_inner : (found : Option ItemDecl) (n : ℕ) → IsTrue (is_line (item_name (inner_item ds found n)))
  of_inner None n = refl
  of_inner (Some item) n =
      in_items (inner_items ds item.kind) (in_kind item.kind) (slice_get (inner_items ds item.kind) n) n refl

  of_target : (found : Option ItemDecl) (inner : Option ℕ) → IsTrue (is_line (item_name found))
      → IsTrue (is_line (target_name ds found inner))
  of_target found None line = line
  of_target found (Some n) line =
      both_lists (λ byte. not (byte == 10)) (item_name found) (46 ∷ item_name (inner_item ds found n)) line
      (of_inner found n)

  of_targets : (items : List ItemDecl) → AllHave (λ item. IsTrue (is_line item.name)) items → (defs : List Def)
      → (qs : List Question) (targets : List Target)
      → IsTrue (list_all (λ due. is_line (due_name due)) (map TargetDue (map (target_of ds items defs qs) targets)))
  of_targets items all defs qs [] = refl
  of_targets items all defs qs (t ∷ targets) =
      both (is_line (target_name ds (slice_get items t.item) t.inner))
      (list_all (λ due. is_line (due_name due)) (map TargetDue (map (target_of ds items defs qs) targets)))
      (of_target (slice_get items t.item) t.inner (in_items items all (slice_get items t.item) t.item refl))
      (of_targets items all defs qs targets)

-- ---- names of tables

module _ (program : Program) (named : AreNamedInLines program.decls) where
  of_table : (table : Table) → TablesScope program table.scope table
      → IsTrue (list_all (λ due. is_line (due_name due)) (ScopeDue table.name ∷ map TargetDue table.targets))
  of_table table is =
      let ds = program.decls in
      let decl = is.0 in
      let body = is.1 in
      let parts = all_at (λ (s : Scope). IsTrue (is_line s.name)
      × AllHave (λ item. IsTrue (is_line item.name)) s.items) ds.scopes table.scope decl named is.2 in
      let targets = targets_of ds table.scope decl.items body.order in
      both (is_line table.name) (list_all (λ due. is_line (due_name due)) (map TargetDue table.targets))
      (ap is_line is.4.name_is ∙ parts.0)
      (ap (λ (ts : List TableTarget). list_all (λ due. is_line (due_name due)) (map TargetDue ts)) is.4.targets_are
      ∙ of_targets ds named decl.items parts.1 body.defs (questions_of ds body.defs targets) targets)

  pub of_tables : (tables : List Table) → AllHave (λ t. TablesScope program t.scope t) tables
      → IsTrue (names_are_lines tables)
  of_tables [] tabled = refl
  of_tables (t ∷ tables) tabled =
      both_lists (λ due. is_line (due_name due)) (ScopeDue t.name ∷ map TargetDue t.targets) (dues_of tables)
      (of_table t tabled.0) (of_tables tables tabled.1)

-- what is written over is certified again
abbrev pub OverAgain : Type 0
OverAgain = (tables : List Table) (bytes : List ℕ) (c : Certificate) → IsTrue (names_are_lines tables)
    → IsChecked tables bytes c → IsCertified tables (text_over tables c.trees)

pub certified_again : (program : Program) → AreNamedInLines program.decls → OverAgain → (scope : ℕ)
    (bytes text : List ℕ) → IsOverScope program scope bytes (Some text) → IsScopeCertified program scope text
certified_again program named again scope bytes text is =
    let over = is.2 in (
      is.0,
      is.1,
      subst (IsCertified is.0) (sym over.3)
          (again is.0 bytes over.0 (of_tables program named is.0 is.1.tables_are) over.1),
    )
