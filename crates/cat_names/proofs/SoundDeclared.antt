-- What a tree declares keeps what `Decls` keeps, where no name, count or height is at fault and types have an order.
use Rattle.std.proofs.Common.{sym, ◌∙◌, ◌≡◌, ◌<◌, ◌≤◌, ◌&&◌, nat_lt, nat_le, not, ℕ, zero, suc, Bool, true, false}
use Rattle.std.proofs.Common.{IsTrue, List, [], ◌∷◌, length, Option, Some, None, Ok, refl, ap, subst, arith, true≢false}
use Rattle.std.specs.Option.{is_some}
use Rattle.std.specs.List.{list_all}
use Rattle.std.proofs.lemmas.Bool.Decides.{nat_tests}
use Rattle.cat_order.specs.Order.{IsOrder}
use Rattle.cat_order.proofs.Exported.{order_of-iff_IsOrder}
use Rattle.cat_value.specs.declared.ty.Ty.{Ty}
use Rattle.cat_value.specs.declared.ty.Ty.TheVariants as flat_ty
use Rattle.cat_value.specs.declared.ty.Ty.TheViews as ty
use Rattle.cat_value.specs.declared.declaration.Structure.{Structure}
use Rattle.cat_value.specs.declared.declaration.Case.{Case}
use Rattle.cat_value.specs.declared.declaration.Enumeration.{Enumeration}
use Rattle.cat_value.specs.declared.declaration.ItemDecl.{ItemDecl}
use Rattle.cat_value.specs.declared.declaration.Scope.{Scope}
use Rattle.cat_value.specs.Declarations.{is_counted, is_sound, field_is_sound, content_is_sound, case_is_sound}
use Rattle.cat_value.specs.Declarations.{structure_is_sound, enumeration_is_sound, kind_is_sound, item_is_sound}
use Rattle.cat_value.specs.Declarations.{scope_is_sound, all_below, structure_is_low, enumeration_is_low, types_are_low}
use Rattle.cat_value.specs.Declarations.{are_sound, is_boolean, highest}
use Rattle.cat_value.specs.Heights.{height_to}
use Rattle.cat_value.specs.Dependencies.{type_dependencies, are_ordered}
use Rattle.cat_value.proofs.Exported.{within}
use Rattle.cat_tree.specs.declared.program.Tree.{Tree}
use Rattle.cat_scope.specs.Names.{AllHave}
use Rattle.cat_names.proofs.ListLaws.{each_of}
use Rattle.cat_names.specs.Lookup.{TypeNames}
use Rattle.cat_names.specs.Written.{types_in}
use Rattle.cat_names.specs.NameFaults.{name_faults}
use Rattle.cat_names.specs.Declarations.{Declared, declared_of}
use Rattle.cat_names.specs.Heights.{is_high, height_faults}
use Rattle.cat_names.specs.Accepted.{IsParsed}
use Rattle.cat_names.proofs.OperationLaws.{both_true}
use Rattle.cat_names.proofs.OkParts.{all_at}
use Rattle.cat_names.proofs.DeclaredForward.{ContentHas, ItemHas}
use Rattle.cat_names.proofs.MadeTypes.{IsMade, made_declared}
use Rattle.cat_names.proofs.DeclaredMade.{all_made, declared_parts}
use Rattle.cat_names.proofs.LowDeclared.{declared_low}
use Rattle.cat_order.specs.Cycle.{IsOnCycle}
use Rattle.cat_value.specs.declared.ty.Ty.TheOpen.{Ty-F}
use Rattle.cat_value.specs.declared.declaration.Kind.TheVariants.{Called}
use Rattle.cat_value.specs.declared.decls.Decls.{Decls}
use Rattle.cat_value.specs.Laws.{AreSound, IsItem}
use Rattle.cat_names.proofs.DeclaredCounts.{IsFew, IsFineItem, IsFineScope, kept, both_all}

-- ---- tests

all_test : {A : Type 0} (test : A → Bool) (xs : List A) → AllHave (λ x. IsTrue (test x)) xs → IsTrue (list_all test xs)
all_test test [] all = refl
all_test test (x ∷ xs) all = both_true (test x) (list_all test xs) all.0 (all_test test xs all.1)

module _ (d : Declared) where
  abbrev ss : List Structure
  ss = d.structures

  abbrev es : List Enumeration
  es = d.enumerations

  abbrev IsSound : Ty → Type 0
  IsSound t = IsTrue (is_sound ss es t)

  structure_sound : (s : Structure) → IsFew s.fields × AllHave (λ f. IsMade (length ss) (length es) f.ty) s.fields
      → IsTrue (structure_is_sound ss es s)
  structure_sound s (few, all) = both_true _ _ (grind (arith, nat_tests, few.0, few.1))
      (all_test (field_is_sound ss es) s.fields (each_of _ (λ f. IsTrue (field_is_sound ss es f))
      (λ f is. made_declared ss es f.ty is) s.fields all))

  content_sound : (names : TypeNames) (c : Option Ty) → ContentHas names (IsMade (length ss) (length es)) c
      → IsTrue (content_is_sound ss es c)
  content_sound names None is = refl
  content_sound names (Some t) is = made_declared ss es t is

  enumeration_sound : (names : TypeNames) (e : Enumeration)
      → IsFew e.cases × AllHave (λ c. ContentHas names (IsMade (length ss) (length es)) c.content) e.cases
      → IsTrue (enumeration_is_sound ss es e)
  enumeration_sound names e (few, all) = both_true _ _ (grind (arith, nat_tests, few.0, few.1))
      (all_test (case_is_sound ss es) e.cases (each_of _ (λ c. IsTrue (case_is_sound ss es c))
      (λ (c : Case) is. content_sound names c.content is) e.cases all))

  low_test : (t : Ty) → is_high d t ≡ false → IsMade (length ss) (length es) t → IsSound t
  low_test t low made = both_true _ _ (made_declared ss es t made) (by _ low)
    where
      by : (b : Bool) → not b ≡ false → b ≡ true
      by true h = refl
      by false h = cc h

  abbrev IsLowMade : Ty → Type 0
  IsLowMade t = (is_high d t ≡ false) × IsMade (length ss) (length es) t

  item_sound : (names : TypeNames) (count : ℕ) (i : ItemDecl) → IsFineItem count i → ItemHas names
      (λ t. is_high d t ≡ false) i
      → ItemHas names (IsMade (length ss) (length es)) i → IsTrue (item_is_sound ss es count i)
  item_sound names count i fine low made =
      both_true _ _ (both_true _ _ (both_true _ _ fine.kind (low_test i.ty low.type made.type))
      (grind (arith, nat_tests, fine.params)))
      (all_test (is_sound ss es) i.params (each_of IsLowMade IsSound (λ t is. low_test t is.0 is.1) i.params
      (both_all _ _ i.params low.params made.params)))

  scope_sound : (names : TypeNames) (count : ℕ) (s : Scope) → IsFineScope count s
      → AllHave (ItemHas names (λ t. is_high d t ≡ false)) s.items
      → AllHave (ItemHas names (IsMade (length ss) (length es))) s.items → IsTrue (scope_is_sound ss es count s)
  scope_sound names count s fine low made = both_true _ _ (grind (arith, nat_tests, fine.0))
      (all_test (item_is_sound ss es count) s.items
      (each_of _ (λ i. IsTrue (item_is_sound ss es count i))
      (λ i is. item_sound names count i is.0 is.1.0 is.1.1) s.items
      (both_all _ _ s.items fine.1 (both_all _ _ s.items low made))))

  below_test : (test : ℕ → Bool) (n : ℕ) → ((k : ℕ) → k < n → IsTrue (test k)) → IsTrue (all_below test n)
  below_test test zero each = refl
  below_test test (suc n) each =
      both_true _ _ (each n (omega arith)) (below_test test n (λ k less. each k (omega (arith, less))))

  low_is : (t : Ty) → is_high d t ≡ false → IsTrue (nat_le (height_to ss es highest t) highest)
  low_is t low = by _ low
    where
      by : (b : Bool) → not b ≡ false → b ≡ true
      by true h = refl
      by false h = cc h

ordered_test : (ss : List Structure) (es : List Enumeration) (listed : List ℕ)
    → IsOrder (type_dependencies ss es) listed → IsTrue (are_ordered ss es)
unfolding are_ordered
ordered_test ss es listed is =
    ap is_some ((order_of-iff_IsOrder (type_dependencies ss es) listed).1 is)

sound_by : (ss : List Structure) (es : List Enumeration) (scopes : List Scope) → IsTrue (is_counted ss)
    → IsTrue (is_counted es) → IsTrue (is_counted scopes) → IsTrue (list_all (structure_is_sound ss es) ss)
    → IsTrue (list_all (enumeration_is_sound ss es) es)
    → IsTrue (list_all (scope_is_sound ss es (length scopes)) scopes) → IsTrue (are_ordered ss es)
    → IsTrue (types_are_low ss es) → IsTrue (are_sound ss es scopes)
unfolding are_sound
sound_by structures enumerations scopes a b c d e f g h =
    both_true _ _ (both_true _ _ (both_true _ _ (both_true _ _ (both_true _ _
    (both_true _ _ (both_true _ _ a b) c) d) e) f) g) h

pub declared_sound : (tree : Tree) → IsParsed tree → name_faults tree ≡ [] → (d : Declared)
    → declared_of tree.items ≡ Ok d → (listed : List ℕ)
    → IsOrder (type_dependencies d.structures d.enumerations) listed → height_faults tree d ≡ []
    → IsTrue (are_sound d.structures d.enumerations d.scopes)
declared_sound tree parsed none d h listed is low_faults =
    let names = types_in tree.items in
    let parts = declared_parts tree.items d h in
    let low = declared_low tree d h listed is low_faults in
    let made = all_made tree.items d parts in
    let counts = kept tree parsed none d parts in
    sound_by d.structures d.enumerations d.scopes (grind (arith, nat_tests, counts.structures_counted))
    (grind (arith, nat_tests, counts.enumerations_counted)) (grind (arith, nat_tests, counts.scopes_counted))
    (all_test (structure_is_sound d.structures d.enumerations) d.structures
    (each_of _ _ (structure_sound d) d.structures
    (both_all _ _ d.structures counts.structures made.structures)))
    (all_test (enumeration_is_sound d.structures d.enumerations) d.enumerations
    (each_of _ _ (enumeration_sound d names) d.enumerations
    (both_all _ _ d.enumerations counts.enumerations made.enumerations)))
    (all_test (scope_is_sound d.structures d.enumerations (length d.scopes)) d.scopes
    (each_of _ _ (λ s g. scope_sound d names (length d.scopes) s g.0 g.1.0 g.1.1) d.scopes
    (both_all _ _ d.scopes counts.scopes (both_all _ _ d.scopes low.types.scopes made.scopes))))
    (ordered_test d.structures d.enumerations listed is)
    (both_true _ _
    (below_test d (structure_is_low d.structures d.enumerations) (length d.structures)
    (λ n less. low_is d (flat_ty.Structure n) (low.structures n less)))
    (below_test d (enumeration_is_low d.structures d.enumerations) (length d.enumerations)
    (λ n less. low_is d (flat_ty.Enumeration n) (low.enumerations n less))))

-- ---- the same as facts

low_height : (d : Declared) (t : Ty) → is_high d t ≡ false → height_to d.structures d.enumerations highest t ≤ highest
low_height d t h = grind (arith, nat_tests, h)

boolean_of_level : (t : Ty) → is_boolean (ty.out-Ty t) ≡ true → t ≡ flat_ty.Boolean
boolean_of_level t h = sym (ty.roll-out-Ty t) ∙ by (ty.out-Ty t) h
  where
    by : (y : Ty-F Ty) → is_boolean y ≡ true → ty.roll-Ty y ≡ flat_ty.Boolean
    by Ty-F.Boolean e = ty.rolls-Boolean
    by _ e = absurd (true≢false (sym e))

-- what an item that calls a scope keeps to
called_fine : (count n : ℕ) (t : Ty) (c : Bool) → (nat_lt n count && is_boolean (ty.out-Ty t) && not c) ≡ true
    → (n < count) × (t ≡ flat_ty.Boolean) × (c ≡ false)
called_fine count n t c h = by (nat_lt n count) refl (is_boolean (ty.out-Ty t)) refl c h
  where
    by : (a : Bool) → nat_lt n count ≡ a → (b : Bool) → is_boolean (ty.out-Ty t) ≡ b → (d : Bool)
        → (a && b && not d) ≡ true → (n < count) × (t ≡ flat_ty.Boolean) × (d ≡ false)
    by true e true f false g = (grind (arith, nat_tests, e), boolean_of_level t f, refl)
    by true e true f true g = cc g
    by true e false f d g = cc g
    by false e b f d g = cc g

module _ (d : Declared) (sound : IsTrue (are_sound d.structures d.enumerations d.scopes)) where
  abbrev decls : Decls
  decls =
      record { structures = d.structures; enumerations = d.enumerations; scopes = d.scopes; sound = sound }

  called_kind : (i : ItemDecl) → IsFineItem (length d.scopes) i → (n : ℕ) → i.kind ≡ Called n
      → (n < length d.scopes) × (i.ty ≡ flat_ty.Boolean) × (i.condition ≡ false)
  called_kind i fine n is = called_fine (length d.scopes) n i.ty i.condition
      (subst (λ k. kind_is_sound (length d.scopes) i.ty i.condition k ≡ true) is fine.kind)

  item_kept : (names : TypeNames) (i : ItemDecl) → IsFineItem (length d.scopes) i
      → ItemHas names (λ t. is_high d t ≡ false) i
      → ItemHas names (IsMade (length d.structures) (length d.enumerations)) i → IsItem decls i
  item_kept names i fine low made = record {
    declared = made_declared d.structures d.enumerations i.ty made.type;
    low = low_height d i.ty low.type;
    params_declared = λ k t at. made_declared d.structures d.enumerations t (all_at _ i.params k t made.params at);
    params_low = λ k t at. low_height d t (all_at (λ u. is_high d u ≡ false) i.params k t low.params at);
    called = λ n is. (called_kind i fine n is).0;
    called_boolean = λ n is. (called_kind i fine n is).1;
    called_plain = λ n is. (called_kind i fine n is).2;
  }

  pub declared_are_sound : (tree : Tree) → IsParsed tree → name_faults tree ≡ [] → declared_of tree.items ≡ Ok d
      → (listed : List ℕ) → IsOrder (type_dependencies d.structures d.enumerations) listed → height_faults tree d ≡ []
      → ((n : ℕ) → ¬ IsOnCycle (type_dependencies d.structures d.enumerations) n) → AreSound decls
  declared_are_sound tree parsed none h listed is low_faults acyclic =
      let names = types_in tree.items in
      let parts = declared_parts tree.items d h in
      let all_low = declared_low tree d h listed is low_faults in
      let made = all_made tree.items d parts in
      let counts = kept tree parsed none d parts in record {
        structures = λ n s at. record {
          has_field = (all_at (λ x. IsFew x.fields) d.structures n s counts.structures at).0;
          counted = (all_at (λ x. IsFew x.fields) d.structures n s counts.structures at).1;
          declared = λ k f here. made_declared d.structures d.enumerations f.ty
              (all_at _ s.fields k f (all_at _ d.structures n s made.structures at) here);
          low = low_height d (flat_ty.Structure n) (all_low.structures n (within d.structures n s at));
        };
        enumerations = λ n e at. record {
          has_case = (all_at (λ x. IsFew x.cases) d.enumerations n e counts.enumerations at).0;
          counted = (all_at (λ x. IsFew x.cases) d.enumerations n e counts.enumerations at).1;
          declared = λ k c t here is_t. made_declared d.structures d.enumerations t
              (content_made names c.content t is_t
              (all_at _ e.cases k c (all_at _ d.enumerations n e made.enumerations at) here));
          low = low_height d (flat_ty.Enumeration n) (all_low.enumerations n (within d.enumerations n e at));
        };
        ordered = (listed, is);
        acyclic = acyclic;
        structures_counted = counts.structures_counted;
        enumerations_counted = counts.enumerations_counted;
        scopes_counted = counts.scopes_counted;
        items_counted = λ n s at. (all_at (IsFineScope (length d.scopes)) d.scopes n s counts.scopes at).0;
        items = λ n k s i at here. item_kept names i
            (all_at _ s.items k i (all_at (IsFineScope (length d.scopes)) d.scopes n s counts.scopes at).1 here)
            (all_at _ s.items k i (all_at _ d.scopes n s all_low.types.scopes at) here)
            (all_at _ s.items k i (all_at _ d.scopes n s made.scopes at) here);
      }
    where
      content_made : (names : TypeNames) (c : Option Ty) (t : Ty) → c ≡ Some t
          → ContentHas names (IsMade (length d.structures) (length d.enumerations)) c
          → IsMade (length d.structures) (length d.enumerations) t
      content_made names None t e h_ = cc e
      content_made names (Some u) t e h_ = let same : u ≡ t = cc e in
          subst (IsMade (length d.structures) (length d.enumerations)) same h_
