-- What a tree declares keeps the counts, where no name and no count is at fault.
use Rattle.std.proofs.Common.{◌≡◌, ◌<◌, ◌≤◌, ◌&&◌, nat_lt, not, ℕ, zero, suc, Bool, true, false, IsTrue, List, []}
use Rattle.std.proofs.Common.{◌∷◌, ◌++◌, length, map, Option, Some, None, Ok, slice_get, refl, ap, subst, arith}
use Rattle.std.specs.Prelude.{flat_map}
use Rattle.std.proofs.lemmas.Bool.Decides.{nat_tests}
use Rattle.cat_pos.specs.declared.pos.Pos.{Pos}
use Rattle.cat_pos.specs.declared.limits.TheConstants.{ENTRIES_BOUND}
use Rattle.cat_value.specs.declared.ty.Ty.{Ty}
use Rattle.cat_value.specs.declared.ty.Ty.TheVariants as flat_ty
use Rattle.cat_value.specs.declared.ty.Ty.TheViews as ty
use Rattle.cat_value.specs.declared.declaration.Structure.{Structure}
use Rattle.cat_value.specs.declared.declaration.Enumeration.{Enumeration}
use Rattle.cat_value.specs.declared.declaration.ItemDecl.{ItemDecl}
use Rattle.cat_value.specs.declared.declaration.Scope.{Scope}
use Rattle.cat_value.specs.Declarations.{kind_is_sound, is_boolean, most_cases}
use Rattle.cat_value.proofs.Exported.{within}
use Rattle.cat_tree.specs.declared.name.Name.{Name}
use Rattle.cat_tree.specs.declared.program.FieldItem.{FieldItem}
use Rattle.cat_tree.specs.declared.program.CaseItem.{CaseItem}
use Rattle.cat_tree.specs.declared.program.VariableKind as kinds
use Rattle.cat_tree.specs.declared.program.VariableKind.TheVariants as kind
use Rattle.cat_tree.specs.declared.program.Variable.{Variable}
use Rattle.cat_tree.specs.declared.program.Variable.TheVariants as variable
use Rattle.cat_tree.specs.declared.program.Item.{Item}
use Rattle.cat_tree.specs.declared.program.Item.TheVariants as item
use Rattle.cat_tree.specs.declared.program.Tree.{Tree}
use Rattle.cat_tree.specs.Programs.{has_some, are_filled}
use Rattle.cat_scope.specs.Names.{AllHave}
use Rattle.cat_names.proofs.ListLaws.{each_of}
use Rattle.cat_names.specs.Limits.{most_items, most_parameters}
use Rattle.cat_names.specs.declared.fault.Fault.TheVariants.{NameUnknown}
use Rattle.cat_names.specs.Found.{each_found, or_fault, faults_of}
use Rattle.cat_names.specs.Lookup.{TypeNames, type_found, first_named}
use Rattle.cat_names.specs.Written.{positions, structures_in, enumerations_in, scopes_in, types_in, scope_names_in}
use Rattle.cat_names.specs.Unknown.{twice}
use Rattle.cat_names.specs.DeclarationFaults.{too_many, past, variable_name, param_faults, declared_name}
use Rattle.cat_names.specs.NameFaults.{name_faults, item_faults}
use Rattle.cat_names.specs.Declarations.{Declared, field_declared, structure_declared, case_declared, variable_type}
use Rattle.cat_names.specs.Declarations.{enumeration_declared, kind_declared, variable_item, called_item_of}
use Rattle.cat_names.specs.Declarations.{item_declared, scope_declared, declared_of}
use Rattle.cat_names.specs.Accepted.{AreCounted, IsParsed}
use Rattle.cat_names.proofs.OperationLaws.{both_true}
use Rattle.cat_names.proofs.Lookups.{first_is}
use Rattle.cat_names.proofs.OkParts.{or_ok, then_ok, both_ok, nothing_in, nothing_behind}
use Rattle.cat_names.proofs.DeclaredForward.{each_on, as_many}
use Rattle.cat_names.proofs.DeclaredMade.{DeclaredParts, names_counted}
use Rattle.cat_names.proofs.LowDeclared.{none_each}

-- ---- lists

pub both_all : {A : Type 0} (P Q : A → Type 0) (xs : List A) → AllHave P xs → AllHave Q xs → AllHave (λ x. P x × Q x) xs
both_all P Q [] h i = tt
both_all P Q (x ∷ xs) h i = ((h.0, i.0), both_all P Q xs h.1 i.1)

few_of_none : {A : Type 0} (xs : List A) (n : ℕ) → slice_get xs n ≡ None → length xs ≤ n
few_of_none [] n h = omega arith
few_of_none (x ∷ xs) zero h = cc h
few_of_none (x ∷ xs) (suc n) h = omega (arith, few_of_none xs n h)

pub none_past : (limit : ℕ) (ps : List Pos) → past limit ps ≡ [] → length ps ≤ limit
none_past limit ps h = few_of_none ps limit (by (slice_get ps limit) h)
  where
    by : (o : Option Pos) → too_many o ≡ [] → o ≡ None
    by None e = refl
    by (Some p) e = cc e

pub positions_counted : {A : Type 0} (f : A → Name) (xs : List A) → length (positions (map f xs)) ≡ length xs
positions_counted f [] = refl
positions_counted f (x ∷ xs) = omega (arith, positions_counted f xs)

some_positive : {A : Type 0} (xs : List A) → has_some xs ≡ true → 0 < length xs
some_positive [] h = cc h
some_positive (x ∷ xs) h = omega arith

-- ---- what is written keeps the counts

-- as many as there may be, and one at least
abbrev pub IsFew : {A : Type 0} → List A → Type 0
IsFew xs = (0 < length xs) × (length xs < ENTRIES_BOUND)

filled_first : (a b : Bool) → (a && b) ≡ true → a ≡ true
filled_first true b h = refl
filled_first false b h = cc h

filled_rest : (a b : Bool) → (a && b) ≡ true → b ≡ true
filled_rest true b h = h
filled_rest false b h = cc h

structures_few : (items : List Item) → are_filled items ≡ true → AreCounted (structures_in items)
    → AllHave (λ s. IsFew s.1) (structures_in items)
structures_few [] filled counted = tt
structures_few (item.Structure p u fields ∷ more) filled counted = (
  (some_positive fields (filled_first (has_some fields) (are_filled more) filled), counted.0),
  structures_few more (filled_rest (has_some fields) (are_filled more) filled) counted.1,
)
structures_few (item.Enumeration p u cases ∷ more) filled counted =
    structures_few more (filled_rest (has_some cases) (are_filled more) filled) counted
structures_few (item.Scope p u variables ∷ more) filled counted = structures_few more filled counted
structures_few (item.Block b ∷ more) filled counted = structures_few more filled counted

-- declarations without a fault of names or counts
abbrev AreFine : List Item → List Item → Type 0
AreFine all items = AllHave (λ i. item_faults all i ≡ []) items

enumerations_few : (all items : List Item) → are_filled items ≡ true → AreFine all items
    → AllHave (λ e. IsFew e.1) (enumerations_in items)
enumerations_few all [] filled fine = tt
enumerations_few all (item.Structure p u fields ∷ more) filled fine =
    enumerations_few all more (filled_rest (has_some fields) (are_filled more) filled) fine.1
enumerations_few all (item.Enumeration p u cases ∷ more) filled fine =
    let few = none_past most_cases (positions (map (λ c. c.name) cases))
    (nothing_behind (twice (map (λ c. c.name) cases)) _ fine.0) in (
      (
        some_positive cases (filled_first (has_some cases) (are_filled more) filled),
        omega (arith, few, positions_counted (λ (c : CaseItem). c.name) cases),
      ),
      enumerations_few all more (filled_rest (has_some cases) (are_filled more) filled) fine.1,
    )
enumerations_few all (item.Scope p u variables ∷ more) filled fine = enumerations_few all more filled fine.1
enumerations_few all (item.Block b ∷ more) filled fine = enumerations_few all more filled fine.1

-- a variable with few parameters
abbrev HasFewParams : Variable → Type 0
HasFewParams (variable.Own k p w t params) = length params < ENTRIES_BOUND
HasFewParams (variable.Called w u) = Unit {0}

params_few : (v : Variable) → param_faults v ≡ [] → HasFewParams v
params_few (variable.Own k p w t params) none =
    let few = none_past most_parameters (positions (map (λ f. f.name) params))
    (nothing_behind (twice (map (λ f. f.name) params)) _ none) in
    omega (arith, few, positions_counted (λ (f : FieldItem). f.name) params)
params_few (variable.Called w u) none = tt

-- a scope with few items
abbrev HasFewItems : Name × List Variable → Type 0
HasFewItems s = (length s.1 < ENTRIES_BOUND) × AllHave HasFewParams s.1

scopes_few : (all items : List Item) → AreFine all items → AllHave HasFewItems (scopes_in items)
scopes_few all [] fine = tt
scopes_few all (item.Structure p u fields ∷ more) fine = scopes_few all more fine.1
scopes_few all (item.Enumeration p u cases ∷ more) fine = scopes_few all more fine.1
scopes_few all (item.Scope p u variables ∷ more) fine =
    let later = twice (map variable_name variables) in
    let front = later ++ past most_items (positions (map variable_name variables)) in
    let few = none_past most_items (positions (map variable_name variables))
    (nothing_behind later _ (nothing_in front _ fine.0)) in (
      (
        omega (arith, few, positions_counted variable_name variables),
        each_of (λ v. param_faults v ≡ []) HasFewParams params_few variables
            (none_each param_faults variables (nothing_behind front _ fine.0)),
      ),
      scopes_few all more fine.1,
    )
scopes_few all (item.Block b ∷ more) fine = scopes_few all more fine.1

lists_few : (items : List Item) → (length (structures_in items) ≤ length items)
    × (length (enumerations_in items) ≤ length items) × (length (scopes_in items) ≤ length items)
lists_few [] = (omega arith, omega arith, omega arith)
lists_few (item.Structure p u fields ∷ more) = let rest = lists_few more in
    (omega (arith, rest.0), omega (arith, rest.1), omega (arith, rest.2))
lists_few (item.Enumeration p u cases ∷ more) = let rest = lists_few more in
    (omega (arith, rest.0), omega (arith, rest.1), omega (arith, rest.2))
lists_few (item.Scope p u variables ∷ more) = let rest = lists_few more in
    (omega (arith, rest.0), omega (arith, rest.1), omega (arith, rest.2))
lists_few (item.Block b ∷ more) = let rest = lists_few more in
    (omega (arith, rest.0), omega (arith, rest.1), omega (arith, rest.2))

-- ---- and so does what is declared

structure_few : (names : TypeNames) (s : Name × List FieldItem) (d : Structure) → structure_declared names s ≡ Ok d
    → IsFew s.1 → IsFew d.fields
structure_few names s d h few = let made = then_ok (each_found (field_declared names) s.1) _ d h in
    let is : record { name = s.0.text; fields = made.0 } ≡ d = cc made.2 in
    let many = as_many (field_declared names) s.1 made.0 made.1 in
    subst IsFew (ap (λ (x : Structure). x.fields) is) (omega (arith, few.0, many), omega (arith, few.1, many))

enumeration_few : (names : TypeNames) (e : Name × List CaseItem) (d : Enumeration) → enumeration_declared names e ≡ Ok d
    → IsFew e.1 → IsFew d.cases
enumeration_few names e d h few = let made = then_ok (each_found (case_declared names) e.1) _ d h in
    let is : record { name = e.0.text; cases = made.0 } ≡ d = cc made.2 in
    let many = as_many (case_declared names) e.1 made.0 made.1 in
    subst IsFew (ap (λ (x : Enumeration). x.cases) is) (omega (arith, few.0, many), omega (arith, few.1, many))

-- an item whose kind may be its, with few parameters
pub record IsFineItem (count : ℕ) (i : ItemDecl) : Type 0 where
  pub kind : IsTrue (kind_is_sound count i.ty i.condition i.kind)
  pub params : length i.params < ENTRIES_BOUND

own_kind : (count : ℕ) (t : Ty) (c : Bool) (k : kinds.VariableKind) → kind_is_sound count t c (kind_declared k) ≡ true
own_kind count t c kind.Input = refl
own_kind count t c kind.InputOutput = refl
own_kind count t c kind.Output = refl
own_kind count t c kind.Internal = refl
own_kind count t c kind.Context = refl
own_kind count t c kind.ContextOutput = refl

called_kind : (count n : ℕ) → n < count
    → (nat_lt n count && is_boolean (ty.out-Ty flat_ty.Boolean) && not false) ≡ true
called_kind count n less = both_true _ _
    (both_true (nat_lt n count) (is_boolean (ty.out-Ty flat_ty.Boolean)) (grind (arith, nat_tests, less))
    (rw ty.outs-Boolean refl)) refl

item_fine : (names : TypeNames) (scopes : List (List ℕ)) (v : Variable) (i : ItemDecl)
    → item_declared names scopes v ≡ Ok i → HasFewParams v → IsFineItem (length scopes) i
item_fine names scopes (variable.Own k p w t params) i h few =
    let made = both_ok (variable_type names t) (each_found (λ f. type_found names f.ty) params) _ i h in
    let is : variable_item k w t made.0 made.1 ≡ i = cc made.4 in
    subst (IsFineItem (length scopes)) is (record {
      kind = own_kind (length scopes) made.0 _ k;
      params = omega (arith, few, as_many (λ f. type_found names f.ty) params made.1 made.3);
    })
item_fine names scopes (variable.Called w u) i h few =
    let made = then_ok (or_fault (NameUnknown u.pos) (first_named (λ name. name) u.text scopes)) _ i h in
    let at = or_ok (NameUnknown u.pos) (first_named (λ name. name) u.text scopes) made.0 made.1 in
    let less = within scopes made.0.0 made.0.1 (first_is (λ name. name) u.text scopes made.0 at) in
    let is : called_item_of w made.0.0 ≡ i = cc made.2 in
    subst (IsFineItem (length scopes)) is (record {
      kind = called_kind (length scopes) made.0.0 less;
      params = omega arith;
    })

-- a scope with few items
abbrev pub IsFineScope : ℕ → Scope → Type 0
IsFineScope count d = (length d.items < ENTRIES_BOUND) × AllHave (IsFineItem count) d.items

scope_fine : (names : TypeNames) (scopes : List (List ℕ)) (s : Name × List Variable) (d : Scope)
    → scope_declared names scopes s ≡ Ok d → HasFewItems s → IsFineScope (length scopes) d
scope_fine names scopes s d h few = let made = then_ok (each_found (item_declared names scopes) s.1) _ d h in
    let is : record { name = s.0.text; items = made.0 } ≡ d = cc made.2 in
    subst (IsFineScope (length scopes)) is (
      omega (arith, few.0, as_many (item_declared names scopes) s.1 made.0 made.1),
      each_on (item_declared names scopes) HasFewParams (IsFineItem (length scopes)) (item_fine names scopes) s.1 made.0
          made.1 few.1,
    )

pub fine_items : (tree : Tree) → name_faults tree ≡ [] → AllHave (λ i. item_faults tree.items i ≡ []) tree.items
fine_items tree none =
    let later = twice (flat_map declared_name tree.items) in
    let front = later ++ faults_of (declared_of tree.items) in
    let names = front ++ flat_map (item_faults tree.items) tree.items in
    none_each (item_faults tree.items) tree.items (nothing_behind front _ (nothing_in names _ none))

-- what is declared keeps the counts
pub record AreKept (d : Declared) : Type 0 where
  pub structures : AllHave (λ x. IsFew x.fields) d.structures
  pub enumerations : AllHave (λ x. IsFew x.cases) d.enumerations
  pub scopes : AllHave (IsFineScope (length d.scopes)) d.scopes
  pub structures_counted : length d.structures < ENTRIES_BOUND
  pub enumerations_counted : length d.enumerations < ENTRIES_BOUND
  pub scopes_counted : length d.scopes < ENTRIES_BOUND

pub kept : (tree : Tree) → IsParsed tree → name_faults tree ≡ [] → (d : Declared) → DeclaredParts tree.items d
    → AreKept d
kept tree parsed none d parts =
    let items = tree.items in let names = types_in items in let texts_ = scope_names_in items in
    let fine = fine_items tree none in
    let lists = lists_few items in
    let s_many = as_many (structure_declared names) (structures_in items) d.structures parts.structures in
    let e_many = as_many (enumeration_declared names) (enumerations_in items) d.enumerations parts.enumerations in
    let c_many = as_many (scope_declared names texts_) (scopes_in items) d.scopes parts.scopes in
    let count : length texts_ ≡ length d.scopes = omega (arith, names_counted (scopes_in items), c_many) in
    record {
      structures = each_on (structure_declared names) (λ s. IsFew s.1) (λ x. IsFew x.fields) (structure_few names)
          (structures_in items) d.structures parts.structures
          (structures_few items parsed.filled parsed.fields);
      enumerations = each_on (enumeration_declared names) (λ e. IsFew e.1) (λ x. IsFew x.cases) (enumeration_few names)
          (enumerations_in items) d.enumerations parts.enumerations
          (enumerations_few items items parsed.filled fine);
      scopes = subst (λ n. AllHave (IsFineScope n) d.scopes) count
          (each_on (scope_declared names texts_) HasFewItems (IsFineScope (length texts_)) (scope_fine names texts_)
          (scopes_in items) d.scopes parts.scopes (scopes_few items items fine));
      structures_counted = omega (arith, parsed.items, lists.0, s_many);
      enumerations_counted = omega (arith, parsed.items, lists.1, e_many);
      scopes_counted = omega (arith, parsed.items, lists.2, c_many);
    }
