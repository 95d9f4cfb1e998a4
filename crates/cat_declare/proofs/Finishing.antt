-- What was made is what the tree declares, once no fault is left.
use Rattle.std.proofs.Common.{◌≡◌, ◌∙◌, ℕ, zero, suc, ◌+◌, ◌<◌, IsTrue, List, [], ◌∷◌, ◌++◌, length, map, Ok, Result}
use Rattle.std.proofs.Common.{Err, IfOk, true≢false}
use Rattle.std.proofs.Common.{IfErr, sym, ap, subst, arith}
use Rattle.std.specs.Prelude.{flat_map, slice_index_or}
use Rattle.std.proofs.lemmas.List.{length-append, length-map}
use Rattle.cat_pos.specs.declared.limits.TheConstants.{ENTRIES_BOUND}
use Rattle.cat_order.specs.Order.{AreItems, IsOrder, is_listed}
use Rattle.cat_order.specs.Cycle.{IsOnCycle, IsPath}
use Rattle.cat_order.specs.Cause.{HasNoOrder}
use Rattle.cat_value.specs.declared.declaration.Structure.{Structure}
use Rattle.cat_value.specs.declared.declaration.Enumeration.{Enumeration}
use Rattle.cat_value.specs.Declarations.{are_sound}
use Rattle.cat_value.specs.Dependencies.{named_by_fields, named_by_cases}
use Rattle.cat_tree.specs.declared.program.Tree.{Tree}
use Rattle.cat_scope.specs.Names.{IsOneOf}
use Rattle.cat_names.proofs.Exported.{are_made, declared_low, declared_parts, declared_sound, types_are_items}
use Rattle.cat_names.specs.Accepted.{IsNamed, IsParsed, IsRefused, type_cycle, height}
use Rattle.cat_names.specs.Cycles.{IsTypeCycle}
use Rattle.cat_names.specs.Declarations.{Declared, declared_of}
use Rattle.cat_names.specs.DeclarationFaults.{declared_name}
use Rattle.cat_names.specs.Found.{faults_of}
use Rattle.cat_names.specs.Heights.{height_faults}
use Rattle.cat_names.specs.NameFaults.{item_faults, name_faults}
use Rattle.cat_names.specs.Unknown.{twice}
use Rattle.cat_names.specs.Written.{structures_in, enumerations_in, types_in}
use Rattle.cat_names.specs.declared.fault.Fault.{Fault}
use Rattle.cat_names.specs.declared.fault.Refusal.{Refusal}
use Rattle.cat_names.specs.declared.fault.Refusal.TheVariants.{Memory, Refused}
use Rattle.cat_depend.specs.Types.{AreThere}
use Rattle.cat_declare.specs.declared.build.Parts.{Parts}
use Rattle.cat_declare.specs.declared.written.Declarations.{Declarations}
use Rattle.cat_declare.specs.Cause.{HasCause}
use Rattle.cat_declare.specs.inside.Cycling.{HasOrder, Orders, dependencies}
use Rattle.cat_declare.specs.inside.Made.{made, whole, cut, structure_made, enumeration_made}
use Rattle.cat_declare.specs.inside.Parted.{IsMadeOf, declared_by}
use Rattle.cat_declare.specs.inside.Writings.{AreDeclarations}
use Rattle.cat_declare.proofs.DeclaredFaults.{declared_faults}
use Rattle.cat_declare.proofs.DeclaredWhole.{declared_whole}
use Rattle.cat_declare.proofs.FoundParts.{nothing_in, nothing_behind}
use Rattle.cat_declare.proofs.LowWhole.{nothing_cut}
use Rattle.cat_declare.proofs.SameNames.{same_dependencies, structures_there, enumerations_there}
use Rattle.cat_declare.proofs.Tabling.{as_many_pairs, lists_few, names_counted}

pub declares : (tree : Tree) → name_faults tree ≡ [] → declared_of tree.items ≡ Ok (made whole tree.items)
declares tree none =
    let later = twice (flat_map declared_name tree.items) in
    let unknown = faults_of (declared_of tree.items) in
    let inner = flat_map (item_faults tree.items) tree.items in
    declared_whole tree.items (sym (declared_faults tree.items)
    ∙ nothing_behind later unknown (nothing_in (later ++ unknown) inner
    (nothing_in (later ++ unknown ++ inner) _ none)))

pub is_named : (tree : Tree) → name_faults tree ≡ [] → IsNamed tree (made whole tree.items)
is_named tree none = record { names = none; declared = declares tree none }

-- ---- the order

pub all_there : (tree : Tree) → length tree.items < ENTRIES_BOUND → (parts : Parts) → IsMadeOf tree parts
    → AreThere parts.structures parts.enumerations
all_there tree few parts is =
    subst (λ (d : Declared). AreThere d.structures d.enumerations) (sym is) (
    let items = tree.items in let names = types_in items in
    let ss = map (structure_made cut names) (structures_in items) in
    let es = map (enumeration_made cut names) (enumerations_in items) in
    let s_many : length ss ≡ length (structures_in items) =
    length-map (structures_in items) (structure_made cut names) in
    let e_many : length es ≡ length (enumerations_in items) =
    length-map (enumerations_in items) (enumeration_made cut names) in
    let s_names : length names.structures ≡ length ss = names_counted (structures_in items) ∙ sym s_many in
    let e_names : length names.enumerations ≡ length es = names_counted (enumerations_in items) ∙ sym e_many in
    record {
      structures = structures_there names ss es s_names e_names (structures_in items);
      enumerations = enumerations_there names ss es s_names e_names (enumerations_in items);
      few = omega (arith, lists_few items, few, s_many, e_many);
    }
    )

pub made_dependencies : (tree : Tree) (parts : Parts) → IsMadeOf tree parts
    → dependencies (declared_by parts) ≡ dependencies (made whole tree.items)
made_dependencies tree parts is = ap dependencies is ∙ same_dependencies tree.items

pub all_items : (tree : Tree) → name_faults tree ≡ [] → (parts : Parts) → IsMadeOf tree parts
    → AreItems (dependencies (declared_by parts))
all_items tree none parts is = let d = made whole tree.items in
    subst AreItems (sym (made_dependencies tree parts is)) (types_are_items d.structures d.enumerations
    (are_made tree.items d (declared_parts tree.items d (declares tree none))))

-- a type that is a part of itself is one of the declared types
pub refuses_cycle : (tree : Tree) → name_faults tree ≡ [] → (parts : Parts) → IsMadeOf tree parts → (f : Fault)
    → IsTypeCycle tree (declared_by parts) f → IsRefused tree f
refuses_cycle tree none parts is f cycle = type_cycle (made whole tree.items) (is_named tree none) (record {
  number = cycle.number;
  position = cycle.position;
  on_cycle = subst (λ deps. IsOnCycle deps cycle.number) (made_dependencies tree parts is) cycle.on_cycle;
  position_is = cycle.position_is;
  fault_is = cycle.fault_is;
})

pub ordered : {A : Type 0} (tree : Tree) (parts : Parts) → IsMadeOf tree parts → (r : Result A Refusal)
    → Orders tree (declared_by parts) r → IfOk r (λ a. HasOrder tree)
ordered tree parts is (Ok a) h = (h.0, subst (λ deps. IsOrder deps h.0) (made_dependencies tree parts is) h.1)
ordered tree parts is (Err e) h = tt

pub unordered_cause : {A : Type 0} (tree : Tree) → name_faults tree ≡ [] → (parts : Parts) → IsMadeOf tree parts
    → (r : Result A Refusal) → Orders tree (declared_by parts) r → IfErr r (HasCause tree)
unordered_cause tree none parts is (Ok a) h = tt
unordered_cause tree none parts is (Err Memory) h = tt
unordered_cause tree none parts is (Err (Refused f)) h = refuses_cycle tree none parts is f h

-- ---- heights

pub refuses_height : (tree : Tree) → name_faults tree ≡ [] → HasOrder tree
    → ((deps : List (List ℕ)) (n : ℕ) → IsOnCycle deps n → HasNoOrder deps) → (f : Fault)
    → IsOneOf f (height_faults tree (made whole tree.items)) → IsRefused tree f
refuses_height tree none order cycles f h = height (made whole tree.items) (is_named tree none)
    (λ n on. cycles (dependencies (made whole tree.items)) n on order.0 order.1) h

-- ---- the whole

pub is_whole : (tree : Tree) → name_faults tree ≡ [] → (parts : Parts) → IsMadeOf tree parts → HasOrder tree
    → height_faults tree (made whole tree.items) ≡ [] → declared_by parts ≡ made whole tree.items
is_whole tree none parts is order low = is ∙ nothing_cut tree.items
    (declared_low tree (made whole tree.items) (declares tree none) order.0 order.1 low)

pub is_sound : (tree : Tree) → IsParsed tree → name_faults tree ≡ [] → (parts : Parts) → IsMadeOf tree parts
    → HasOrder tree → height_faults tree (made whole tree.items) ≡ []
    → IsTrue (are_sound parts.structures parts.enumerations parts.scopes)
is_sound tree parsed none parts is order low =
    subst (λ (d : Declared). IsTrue (are_sound d.structures d.enumerations d.scopes))
    (sym (is_whole tree none parts is order low))
    (declared_sound tree parsed none (made whole tree.items) (declares tree none) order.0 order.1 low)

pub is_declared : (tree : Tree) → name_faults tree ≡ [] → (parts : Parts) → IsMadeOf tree parts → HasOrder tree
    → height_faults tree (made whole tree.items) ≡ [] → IsNamed tree (declared_by parts)
is_declared tree none parts is order low =
    subst (IsNamed tree) (sym (is_whole tree none parts is order low)) (is_named tree none)

-- ---- numbers on a cycle

listed_within : (deps : List (List ℕ)) (n k : ℕ) → IsTrue (is_listed (slice_index_or deps n []) k) → n < length deps
listed_within [] n k h = absurd (true≢false (sym h))
listed_within (d ∷ deps) zero k h = omega arith
listed_within (d ∷ deps) (suc n) k h = omega (arith, listed_within deps n k h)

pub cycle_within : (deps : List (List ℕ)) (n : ℕ) → IsOnCycle deps n → n < length deps
unfolding IsOnCycle
cycle_within deps n (path, is) = by path is
  where
    by : (p : List ℕ) → IsPath deps n p n → n < length deps
    by [] h = listed_within deps n n h
    by (via ∷ p) h = listed_within deps n via h.0

pub number_within : (tree : Tree) (parts : Parts) (ds : Declarations) → IsMadeOf tree parts → AreDeclarations ds
    → ds.tree.now ≡ tree → (n : ℕ) → n < length (dependencies (declared_by parts))
    → n < length ds.structures + length ds.enumerations
number_within tree parts ds is all same n less =
    let items = tree.items in let names = types_in items in
    let d = made cut items in
    let of_structures = λ (x : Structure). named_by_fields (length d.structures) x.fields in
    let of_enumerations = λ (x : Enumeration). named_by_cases (length d.structures) x.cases in
    let less_made : n < length (dependencies d) = subst (λ x. n < length (dependencies x)) is less in
    let s_many = as_many_pairs ds.structures (structures_in items)
    (all.structures ∙ ap (λ (t : Tree). structures_in t.items) same) in
    let e_many = as_many_pairs ds.enumerations (enumerations_in items)
    (all.enumerations ∙ ap (λ (t : Tree). enumerations_in t.items) same) in
    omega (
      arith,
      less_made,
      s_many,
      e_many,
      length-append (map of_structures d.structures) (map of_enumerations d.enumerations),
      length-map d.structures of_structures,
      length-map d.enumerations of_enumerations,
      length-map (structures_in items) (structure_made cut names),
      length-map (enumerations_in items) (enumeration_made cut names),
    )

-- declarations are equal where their parts are
pub same_parts : (d e : Declared) → d.structures ≡ e.structures → d.enumerations ≡ e.enumerations → d.scopes ≡ e.scopes
    → d ≡ e
same_parts d e s n c =
    ap (λ x. record { structures = x; enumerations = d.enumerations; scopes = d.scopes }) s
    ∙ ap (λ x. record { structures = e.structures; enumerations = x; scopes = d.scopes }) n
    ∙ ap (λ x. record { structures = e.structures; enumerations = e.enumerations; scopes = x }) c
