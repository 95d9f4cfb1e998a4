-- What is listed of valid code with spelled tables makes an image, whose words tell them, and no line of which is bad.
use Rattle.std.proofs.Common.{◌≡◌, ◌+◌, ℕ, true, IsTrue, List, [], ◌∷◌, length, refl}
use Rattle.std.proofs.Common.{arith, nat_lt}
use Rattle.std.specs.List.{list_all}
use Rattle.std.proofs.Math.Logic.{∥∥₁_elim}
use Rattle.std.proofs.Props.{props}
use Rattle.cat_scope.specs.Names.{AllHave, is_called}
use Rattle.cat_value.specs.declared.declaration.Kind.{Kind}
use Rattle.cat_value.specs.declared.declaration.Kind.TheVariants as kind
use Rattle.cat_value.specs.declared.declaration.ItemDecl.{ItemDecl}
use Rattle.cat_value.specs.declared.declaration.Scope.{Scope}
use Rattle.cat_value.specs.declared.decls.Decls.{Decls}
use Rattle.cat_value.specs.Laws.{IsItem}
use Rattle.cat_code.specs.declared.instr.Instr.{Instr}
use Rattle.cat_code.specs.declared.code.Constant.{Constant}
use Rattle.cat_code.specs.declared.code.Tables.{Tables}
use Rattle.cat_code.specs.Shaped.{Shapes, AreEntries}
use Rattle.cat_code.specs.Places.{case_places, function_places}
use Rattle.cat_code.specs.Valid.{IsValid, constant_is_sound, entries_of}
use Rattle.cat_image.specs.Words.{Text}
use Rattle.cat_image.specs.Listed.{words_of}
use Rattle.cat_verify_tables.specs.TableWords.{AreTablesOf, IsToldWhole, IsBareCall}
use Rattle.cat_verify_tables.proofs.Exported.{tests_have}
use Rattle.cat_emitted.specs.Spelled.{IsSpelledItem}
use Rattle.cat_emitted.specs.Emitted.{AreSmall, AreSpelledTables, IsWellListed}
use Rattle.cat_emitted.proofs.Readings.{IsReadBack}
use Rattle.cat_emitted.proofs.ItemFacts as items
use Rattle.cat_emitted.proofs.ConstantFacts.{constants_told}
use Rattle.cat_emitted.proofs.NoneBad.{none_bad}
use Rattle.cat_emitted.proofs.Listable.{listable}
use Rattle.cat_emitted.proofs.ReadBack.{constants_back}
use Rattle.cat_emitted.proofs.SameDecls.{all_read_alike}

-- each scope has an entry
entries_alike : (shapes : Shapes) (n : ℕ) (scopes : List Scope) (entries : List ℕ) → AreEntries shapes n scopes entries
    → length entries ≡ length scopes
entries_alike shapes n [] [] are = refl
entries_alike shapes n [] (e ∷ es) are = elim are [ ]
entries_alike shapes n (s ∷ ss) [] are = elim are [ ]
entries_alike shapes n (s ∷ ss) (e ∷ es) are = omega (arith, entries_alike shapes (n + 1) ss es are.1)

-- words tell all of an item
told_whole : (ds : Decls) (item : ItemDecl) → IsSpelledItem item → IsItem ds item → IsToldWhole item
told_whole ds item spelled is = record { condition = spelled.condition; called = λ c. by item.kind refl c }
  where
    by : (k : Kind) → item.kind ≡ k → is_called k ≡ true → IsBareCall item
    by (kind.Called n) e c =
        record { ty = is.called_boolean n e; condition = is.called_plain n e; params = spelled.called n e }
    by kind.Input e c = cc c
    by kind.Output e c = cc c
    by kind.Internal e c = cc c
    by kind.Context e c = cc c
    by kind.InputOutput e c = cc c
    by kind.ContextOutput e c = cc c

-- ---- what valid code keeps of its tables

pub record AreValidTables (code : Tables) (instructions : List Instr) : Type 0 where
  pub cases : code.cases ≡ case_places 0 code.decls.enumerations
  pub functions : length code.functions ≡ length (function_places code.decls)
  pub constants : IsTrue (list_all (constant_is_sound code.decls) code.constants)
  pub entries : IsTrue (list_all (λ place. nat_lt place (length instructions)) (entries_of code))
  pub one_entry_each : length code.scopes ≡ length code.decls.scopes

pub valid_tables : (code : Tables) (instructions : List Instr) → ∥ IsValid code instructions ∥₁
    → AreValidTables code instructions
valid_tables code instructions valid = record {
  cases = ∥∥₁_elim valid (hlevel props) (λ v. v.1.cases);
  functions = ∥∥₁_elim valid (hlevel props) (λ v. v.1.functions);
  constants = ∥∥₁_elim valid (hlevel props) (λ v. v.1.constants);
  entries = ∥∥₁_elim valid (hlevel props) (λ v. v.1.entries);
  one_entry_each = ∥∥₁_elim valid (hlevel props)
      (λ v. entries_alike v.0 0 code.decls.scopes code.scopes v.1.shaped.entries);
}

module _ (files : List Text) (code : Tables) (instructions : List Instr) (valid : AreValidTables code instructions)
    (tables : AreSpelledTables files code) (small : AreSmall instructions) where
  sound : AllHave (λ (c : Constant). IsTrue (constant_is_sound code.decls c)) code.constants
  sound = tests_have (constant_is_sound code.decls) code.constants valid.constants

  back : AllHave (IsReadBack code.decls) code.constants
  back = constants_back code.decls tables.decls code.constants sound

  told_items : AllHave (λ (s : Scope). AllHave IsToldWhole s.items) code.decls.scopes
  told_items = items.all_from (λ (s : Scope). AllHave IsToldWhole s.items) code.decls.scopes (λ n s at.
      items.all_from IsToldWhole s.items (λ k i own.
      let fair = items.item_fair code files tables.decls valid.one_entry_each n k s i at own in
      told_whole code.decls i fair.spelled_item fair.is_item))

  told : AreTablesOf (words_of code files) code
  told = record {
    structures = refl;
    enumerations = refl;
    scopes = refl;
    one_entry_each = valid.one_entry_each;
    items = told_items;
    cases = valid.cases;
    targets = refl;
    definitions = refl;
    functions = refl;
    positions = refl;
    constants = constants_told code.decls code.constants sound back;
  }

  pub well_listed : IsWellListed files code instructions
  well_listed = record {
    listable = listable code instructions files tables.decls valid.one_entry_each tables.placed tables.targets
        valid.constants back tables.named.lines valid.entries small.some small.few small.numbers;
    told = told;
    right = none_bad code files tables.decls valid.one_entry_each tables.placed valid.functions tables.targets
        valid.constants back (all_read_alike code files tables.decls) tables.named.apart;
  }
