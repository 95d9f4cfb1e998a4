-- The rows of an image are all due, one behind the other, and lead to its tables and instructions.
use Rattle.std.proofs.Common.{subst, ◌≡◌, ℕ, ◌+◌, ◌≤◌, true, List, [], ◌∷◌, ◌++◌, map, length}
use Rattle.std.proofs.Common.{Option, Some, refl, sym, ap, ◌∙◌, arith, length-append, append-nil, append_assoc}
use Rattle.std.specs.Prelude.{nat_le}
use Rattle.std.specs.List.{flat_map}
use Rattle.std.proofs.lemmas.Bool.{eq-eqb}
use Rattle.std.proofs.lemmas.Bool.Decides.{nat_tests}
use Rattle.cat_code.specs.declared.instr.Instr.{Instr}
use Rattle.cat_image.specs.declared.tables.ImageField.{ImageField}
use Rattle.cat_image.specs.declared.tables.ImageStructure.{ImageStructure}
use Rattle.cat_image.specs.declared.tables.ImageCase.{ImageCase}
use Rattle.cat_image.specs.declared.tables.ImageEnumeration.{ImageEnumeration}
use Rattle.cat_image.specs.declared.tables.ImageItem.{ImageItem}
use Rattle.cat_image.specs.declared.tables.ImageScope.{ImageScope}
use Rattle.cat_image.specs.declared.tables.ImageTables.{ImageTables}
use Rattle.cat_image.specs.declared.row.Row.{Row}
use Rattle.cat_image.specs.declared.row.Row.TheVariants as row
use Rattle.cat_image.specs.declared.reading.Reading.{Reading}
use Rattle.cat_image.specs.Rows.{structure_rows, enumeration_rows, scope_rows, instruction_rows}
use Rattle.cat_image.specs.inside.Reads.{when}
use Rattle.cat_image.specs.inside.Reading.{due, before_last, with_last, inside}
use Rattle.cat_image.specs.inside.Putting.{with_structures, with_enumerations}
use Rattle.cat_image.specs.inside.Putting.{with_scopes, put}
use Rattle.cat_image.proofs.RunLemmas.{puts, puts_append}

-- what was read, with the kind of the last line
abbrev pub at : ImageTables → List Instr → ℕ → Reading
at tables instructions section = record { tables = tables; instructions = instructions; section = section }

-- rows lead to other tables and instructions, and not behind some section
pub record Comes (tables : ImageTables) (is : List Instr) (start : ℕ) (xs : List Row) (new : ImageTables)
    (more : List Instr) (k : ℕ) : Type 0 where
  pub section : ℕ
  pub within : section ≤ k
  pub leads : puts xs (at tables is start) ≡ Some (at new more section)

pub comes_none : (tables : ImageTables) (is : List Instr) (start k : ℕ) → start ≤ k
    → Comes tables is start [] tables is k
comes_none tables is start k within = record { section = start; within = within; leads = refl }

pub comes_append : (tables : ImageTables) (is : List Instr) (start : ℕ) (xs ys : List Row) (middle new : ImageTables)
    (others more : List Instr) (j k : ℕ) → Comes tables is start xs middle others j
    → ((t : ℕ) → t ≤ j → Comes middle others t ys new more k) → Comes tables is start (xs ++ ys) new more k
comes_append tables is start xs ys middle new others more j k first further =
    let rest = further first.section first.within in
    record {
      section = rest.section;
      within = rest.within;
      leads =
          puts_append xs ys (at tables is start) ∙ ap (λ (o : Option Reading). when o (puts ys)) first.leads
          ∙ rest.leads;
    }

-- ---- a row at a time

due_is : (tables : ImageTables) (is : List Instr) (start k : ℕ) (new : ImageTables) → start ≤ k
    → due (at tables is start) k new ≡ Some (at new is k)
due_is tables is start k new within =
    let test : nat_le start k ≡ true = grind (arith, nat_tests) in
    rw test refl

due_comes : (tables : ImageTables) (is : List Instr) (start k : ℕ) (new : ImageTables) (x : Row) → start ≤ k
    → put (at tables is start) x ≡ due (at tables is start) k new → Comes tables is start (x ∷ []) new is k
due_comes tables is start k new x within same = record {
  section = k;
  within = omega arith;
  leads = ap (λ (o : Option Reading). when o (puts [])) (same ∙ due_is tables is start k new within);
}

-- elements of a list, each with one row
pub simple_comes : {A : Type 0} (rows : A → Row) (k : ℕ) (is : List Instr) (with : List A → ImageTables)
    → ((xs : List A) (t : ℕ) (a : A)
    → put (at (with xs) is t) (rows a) ≡ due (at (with xs) is t) k (with (xs ++ a ∷ [])))
    → (us xs : List A) (t : ℕ) → t ≤ k → Comes (with xs) is t (map rows us) (with (xs ++ us)) is k
simple_comes rows k is with step [] xs t within =
    subst (λ (ys : List _). Comes (with xs) is t [] (with ys) is k) (sym (append-nil xs))
    (comes_none (with xs) is t k within)
simple_comes rows k is with step (a ∷ us) xs t within =
    subst (λ (ys : List _). Comes (with xs) is t (map rows (a ∷ us)) (with ys) is k) (append_assoc xs (a ∷ []) us)
    (comes_append (with xs) is t (rows a ∷ []) (map rows us) (with (xs ++ a ∷ []))
    (with ((xs ++ a ∷ []) ++ us)) is is k k
    (due_comes (with xs) is t k (with (xs ++ a ∷ [])) (rows a) within (step xs t a))
    (λ u low. simple_comes rows k is with step us (xs ++ a ∷ []) u low))

-- elements of a list, each with rows of its own
pub flat_comes : {A : Type 0} (rows : A → List Row) (k : ℕ) (is : List Instr) (with : List A → ImageTables)
    → ((xs : List A) (t : ℕ) (a : A) → t ≤ k → Comes (with xs) is t (rows a) (with (xs ++ a ∷ [])) is k)
    → (us xs : List A) (t : ℕ) → t ≤ k → Comes (with xs) is t (flat_map rows us) (with (xs ++ us)) is k
flat_comes rows k is with step [] xs t within =
    subst (λ (ys : List _). Comes (with xs) is t [] (with ys) is k) (sym (append-nil xs))
    (comes_none (with xs) is t k within)
flat_comes rows k is with step (a ∷ us) xs t within =
    subst (λ (ys : List _). Comes (with xs) is t (flat_map rows (a ∷ us)) (with ys) is k) (append_assoc xs (a ∷ []) us)
    (comes_append (with xs) is t (rows a) (flat_map rows us) (with (xs ++ a ∷ []))
    (with ((xs ++ a ∷ []) ++ us)) is is k k
    (step xs t a within)
    (λ u low. flat_comes rows k is with step us (xs ++ a ∷ []) u low))

-- ---- parts of what stands last

pub with_last_is : {A : Type 0} (f : A → A) (front : List A) (a : A)
    → with_last f (front ++ a ∷ []) ≡ Some (front ++ f a ∷ [])
with_last_is f [] a = refl
with_last_is f (b ∷ front) a = ap (λ (o : Option (List _)). Some (before_last f b o)) (with_last_is f front a)

-- each with one row
inner_comes : {A : Type 0} (rows : A → Row) (k : ℕ) (is : List Instr) (with : List A → ImageTables)
    → ((xs : List A) (a : A) → put (at (with xs) is k) (rows a) ≡ Some (at (with (xs ++ a ∷ [])) is k))
    → (us xs : List A) → puts (map rows us) (at (with xs) is k) ≡ Some (at (with (xs ++ us)) is k)
inner_comes rows k is with step [] xs = ap (λ (ys : List _). Some (at (with ys) is k)) (sym (append-nil xs))
inner_comes rows k is with step (a ∷ us) xs =
    ap (λ (o : Option Reading). when o (puts (map rows us))) (step xs a)
    ∙ inner_comes rows k is with step us (xs ++ a ∷ [])
    ∙ ap (λ (ys : List _). Some (at (with ys) is k)) (append_assoc xs (a ∷ []) us)

-- a first row, and then parts
parted_comes : (tables middle new : ImageTables) (is : List Instr) (start k : ℕ) (x : Row) (xs : List Row) → start ≤ k
    → put (at tables is start) x ≡ due (at tables is start) k middle → puts xs (at middle is k) ≡ Some (at new is k)
    → Comes tables is start (x ∷ xs) new is k
parted_comes tables middle new is start k x xs within same rest = record {
  section = k;
  within = omega arith;
  leads = ap (λ (o : Option Reading). when o (puts xs)) (same ∙ due_is tables is start k middle within) ∙ rest;
}

pub structure_comes : (base : ImageTables) (is : List Instr) (front : List ImageStructure) (t : ℕ) (s : ImageStructure)
    → t ≤ 1
    → Comes (record base { structures = front }) is t (structure_rows s)
    (record base { structures = front ++ s ∷ [] }) is 1
structure_comes base is front t s within =
    let with =
    λ (fields : List ImageField). record base
    { structures = front ++ record { name = s.name; fields = fields } ∷ [] } in
    parted_comes (record base { structures = front }) (with []) (with s.fields) is t 1 (row.Structure s.name)
    (map row.Field s.fields)
    within refl
    (inner_comes row.Field 1 is with (λ fields f.
    ap (λ (o : Option (List ImageStructure)). inside (at (with fields) is 1) 1 (with_structures (with fields) o))
    (with_last_is (λ (r : ImageStructure). record r { fields = r.fields ++ f ∷ [] }) front
    (record { name = s.name; fields = fields }))) s.fields [])

pub enumeration_comes : (base : ImageTables) (is : List Instr) (front : List ImageEnumeration) (t : ℕ)
    (e : ImageEnumeration)
    → t ≤ 2 → Comes (record base { enumerations = front }) is t (enumeration_rows e)
    (record base { enumerations = front ++ e ∷ [] }) is 2
enumeration_comes base is front t e within =
    let with =
    λ (cases : List ImageCase). record base { enumerations = front ++ record { name = e.name; cases = cases } ∷ [] } in
    parted_comes (record base { enumerations = front }) (with []) (with e.cases) is t 2 (row.Enumeration e.name)
    (map row.Case e.cases)
    within refl
    (inner_comes row.Case 2 is with (λ cases c.
    ap (λ (o : Option (List ImageEnumeration)). inside (at (with cases) is 2) 2 (with_enumerations (with cases) o))
    (with_last_is (λ (r : ImageEnumeration). record r { cases = r.cases ++ c ∷ [] }) front
    (record { name = e.name; cases = cases }))) e.cases [])

pub scope_comes : (base : ImageTables) (is : List Instr) (front : List ImageScope) (t : ℕ) (s : ImageScope) → t ≤ 3
    → Comes (record base { scopes = front }) is t (scope_rows s) (record base { scopes = front ++ s ∷ [] }) is 3
scope_comes base is front t s within =
    let with =
    λ (items : List ImageItem). record base
    { scopes = front ++ record { name = s.name; entry = s.entry; items = items } ∷ [] } in
    parted_comes (record base { scopes = front }) (with []) (with s.items) is t 3 (row.Scope s.name s.entry)
    (map row.Item s.items)
    within refl
    (inner_comes row.Item 3 is with (λ items i.
    ap (λ (o : Option (List ImageScope)). inside (at (with items) is 3) 3 (with_scopes (with items) o))
    (with_last_is (λ (r : ImageScope). record r { items = r.items ++ i ∷ [] }) front
    (record { name = s.name; entry = s.entry; items = items }))) s.items [])

-- ---- instructions

put_is : (tables : ImageTables) (is : List Instr) (t n : ℕ) (i : Instr) → length is ≡ n
    → put (at tables is t) (row.Instruction n i) ≡ Some (at tables (is ++ i ∷ []) 9)
put_is tables is t n i count = rw (eq-eqb n (length is) (sym count)) refl

pub instructions_come : (tables : ImageTables) (more is : List Instr) (t n : ℕ) → t ≤ 9 → length is ≡ n
    → Comes tables is t (instruction_rows n more) tables (is ++ more) 9
instructions_come tables [] is t n within count =
    subst (λ (js : List Instr). Comes tables is t [] tables js 9) (sym (append-nil is))
    (comes_none tables is t 9 within)
instructions_come tables (i ∷ more) is t n within count =
    let long = length-append is (i ∷ []) in
    let rest = instructions_come tables more (is ++ i ∷ []) 9 (n + 1) (omega arith) (omega (arith, long, count)) in
    subst (λ (js : List Instr). Comes tables is t (instruction_rows n (i ∷ more)) tables js 9)
    (append_assoc is (i ∷ []) more)
    (record {
      section = rest.section;
      within = rest.within;
      leads =
          ap (λ (o : Option Reading). when o (puts (instruction_rows (n + 1) more))) (put_is tables is t n i count)
          ∙ rest.leads;
    })
