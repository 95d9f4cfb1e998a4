-- What is read stands for the rows that were taken.
use Rattle.std.proofs.Common.{subst, ◌≡◌, ℕ, zero, suc, ◌+◌, ◌-◌, ◌≤◌, Bool, true, false, List, [], ◌∷◌, ◌++◌, map}
use Rattle.std.proofs.Common.{length, drop}
use Rattle.std.proofs.Common.{Option, Some, None, refl, sym, ap, ◌∙◌, arith, append-nil, append_assoc}
use Rattle.std.specs.Prelude.{nat_le, ◌==◌, if◌then◌else◌}
use Rattle.std.specs.List.{flat_map}
use Rattle.std.proofs.lemmas.Bool.{leb-true, eqb-true}
use Rattle.std.proofs.lemmas.List.{drop-drop, map_push, flat_map_more}
use Rattle.cat_code.specs.declared.instr.Instr.{Instr}
use Rattle.cat_image.specs.declared.tables.ImageField.{ImageField}
use Rattle.cat_image.specs.declared.tables.ImageStructure.{ImageStructure}
use Rattle.cat_image.specs.declared.tables.ImageCase.{ImageCase}
use Rattle.cat_image.specs.declared.tables.ImageEnumeration.{ImageEnumeration}
use Rattle.cat_image.specs.declared.tables.ImageItem.{ImageItem}
use Rattle.cat_image.specs.declared.tables.ImageScope.{ImageScope}
use Rattle.cat_image.specs.declared.tables.ImageTables.{ImageTables}
use Rattle.cat_image.specs.declared.row.Row.{Row}
use Rattle.cat_image.specs.declared.row.Row.TheVariants as row
use Rattle.cat_image.specs.declared.reading.Reading.{Reading}
use Rattle.cat_image.specs.Rows.{structure_rows, enumeration_rows, scope_rows, instruction_rows, sections, joined}
use Rattle.cat_image.specs.Rows.{rows_of}
use Rattle.cat_image.specs.inside.Reading.{due, before_last, with_last, inside}
use Rattle.cat_image.specs.inside.Putting.{with_structures, with_enumerations, with_scopes, put}
use Rattle.cat_image.proofs.ReadLemmas.{Holds, if_holds}

-- ---- lists of rows

empty_parts : {A : Type 0} (xs ys : List A) → xs ++ ys ≡ [] → ys ≡ []
empty_parts [] ys same = same
empty_parts (x ∷ xs) ys same = absurd (cc)

joined_drop : (n : ℕ) (ps : List (List Row)) → joined ps ≡ [] → joined (drop n ps) ≡ []
joined_drop zero ps none = none
joined_drop (suc n) [] none = refl
joined_drop (suc n) (p ∷ ps) none = joined_drop n ps (empty_parts p (joined ps) none)

-- no rows stand behind one section, and so none behind a later one
later : (n k : ℕ) (ps : List (List Row)) → n ≤ k → joined (drop (suc n) ps) ≡ [] → joined (drop (suc k) ps) ≡ []
later n k ps within none =
    let same : suc n + (k - n) ≡ suc k = omega (arith, within) in
    subst (λ (j : ℕ). joined (drop j ps) ≡ []) same
    (ap joined (sym (drop-drop (k - n) (suc n) ps)) ∙ joined_drop (k - n) (drop (suc n) ps) none)

-- a row more in a section, behind which nothing stands
put_at : (before : List (List Row)) (old new : List Row) (after : List (List Row)) (x : Row) → new ≡ old ++ x ∷ []
    → joined after ≡ [] → joined (before ++ new ∷ after) ≡ joined (before ++ old ∷ after) ++ x ∷ []
put_at [] old new after x is none =
    ap (λ (rows : List Row). new ++ rows) none ∙ append-nil new ∙ is
    ∙ ap (λ (rows : List Row). rows ++ x ∷ []) (sym (append-nil old))
    ∙ ap (λ (rows : List Row). (old ++ rows) ++ x ∷ []) (sym none)
put_at (part ∷ before) old new after x is none =
    ap (λ (rows : List Row). part ++ rows) (put_at before old new after x is none)
    ∙ sym (append_assoc part (joined (before ++ old ∷ after)) (x ∷ []))

rows_more : {A : Type 0} (rows : A → List Row) (xs : List A) (a : A) (x : Row) → rows a ≡ x ∷ []
    → flat_map rows (xs ++ a ∷ []) ≡ flat_map rows xs ++ x ∷ []
rows_more rows xs a x is =
    sym (flat_map_more rows [] xs a) ∙ ap (λ (more : List Row). flat_map rows xs ++ more) is

instructions_more : (n : ℕ) (is : List Instr) (i : Instr)
    → instruction_rows n (is ++ i ∷ []) ≡ instruction_rows n is ++ row.Instruction (n + length is) i ∷ []
instructions_more n [] i =
    let same : n + 0 ≡ n = omega arith in
    ap (λ (m : ℕ). row.Instruction m i ∷ []) (sym same)
instructions_more n (j ∷ is) i =
    let same : n + 1 + length is ≡ n + suc (length is) = omega arith in
    ap (λ (rows : List Row). row.Instruction n j ∷ rows) (instructions_more (n + 1) is i
    ∙ ap (λ (m : ℕ). instruction_rows (n + 1) is ++ row.Instruction m i ∷ []) same)

-- a part more of what stands last
last_step : {A : Type 0} (rows : A → List Row) (f : A → A) (x : Row) → ((a : A) → rows (f a) ≡ rows a ++ x ∷ [])
    → (a : A) (us : List A) → Holds (λ new. flat_map rows new ≡ flat_map rows us ++ x ∷ []) (with_last f us)
    → flat_map rows (before_last f a (with_last f us)) ≡ flat_map rows (a ∷ us) ++ x ∷ []
last_step rows f x step a [] holds =
    append-nil (rows (f a)) ∙ step a ∙ ap (λ (more : List Row). more ++ x ∷ []) (sym (append-nil (rows a)))
last_step rows f x step a (b ∷ bs) holds =
    ap (λ (more : List Row). rows a ++ more) holds ∙ sym (append_assoc (rows a) (flat_map rows (b ∷ bs)) (x ∷ []))

last_more : {A : Type 0} (rows : A → List Row) (f : A → A) (x : Row) → ((a : A) → rows (f a) ≡ rows a ++ x ∷ [])
    → (us : List A) → Holds (λ new. flat_map rows new ≡ flat_map rows us ++ x ∷ []) (with_last f us)
last_more rows f x step [] = tt
last_more rows f x step (a ∷ us) = last_step rows f x step a us (last_more rows f x step us)

-- ---- what stands

-- no rows stand behind the section that is read
pub record IsStanding (r : Reading) : Type 0 where
  pub behind : joined (drop (suc r.section) (sections r.tables r.instructions)) ≡ []

-- a row more stands there
pub record HasMore (r : Reading) (x : Row) (s : Reading) : Type 0 where
  pub rows : rows_of s.tables s.instructions ≡ rows_of r.tables r.instructions ++ x ∷ []
  pub standing : IsStanding s

-- of a section at a time
due_more : (r : Reading) (x : Row) (k : ℕ) (tables : ImageTables) → IsStanding r
    → (joined (drop (suc k) (sections r.tables r.instructions)) ≡ []
    → (rows_of tables r.instructions ≡ rows_of r.tables r.instructions ++ x ∷ [])
    × (joined (drop (suc k) (sections tables r.instructions)) ≡ []))
    → Holds (HasMore r x) (due r k tables)
due_more r x k tables standing more =
    if_holds (HasMore r x) (nat_le r.section k)
    (Some (record { tables = tables; instructions = r.instructions; section = k })) (λ is.
    let both = more (later r.section k (sections r.tables r.instructions) (leb-true r.section k is) standing.behind) in
    record { rows = both.0; standing = record { behind = both.1 } })

inside_more : (r : Reading) (x : Row) (k : ℕ) (o : Option ImageTables) → IsStanding r
    → (joined (drop (suc k) (sections r.tables r.instructions)) ≡ [] → Holds (λ tables.
    (rows_of tables r.instructions ≡ rows_of r.tables r.instructions ++ x ∷ [])
    × (joined (drop (suc k) (sections tables r.instructions)) ≡ [])) o)
    → Holds (HasMore r x) (inside r k o)
inside_more r x k None standing more = tt
inside_more r x k (Some tables) standing more =
    if_holds (HasMore r x) (r.section == k)
    (Some (record { tables = tables; instructions = r.instructions; section = k })) (λ is.
    let same : r.section ≡ k = eqb-true r.section k is in
    let both =
    more (subst (λ (j : ℕ). joined (drop (suc j) (sections r.tables r.instructions)) ≡ []) same standing.behind) in
    record { rows = both.0; standing = record { behind = both.1 } })

structures_more : (r : Reading) (f : ImageField) (o : Option (List ImageStructure))
    → Holds (λ new. flat_map structure_rows new ≡ flat_map structure_rows r.tables.structures ++ row.Field f ∷ []) o
    → joined (drop 2 (sections r.tables r.instructions)) ≡ [] → Holds (λ tables.
    (rows_of tables r.instructions ≡ rows_of r.tables r.instructions ++ row.Field f ∷ [])
    × (joined (drop 2 (sections tables r.instructions)) ≡ [])) (with_structures r.tables o)
structures_more r f None holds none = tt
structures_more r f (Some new) holds none = (
  put_at (map row.File r.tables.files ∷ []) (flat_map structure_rows r.tables.structures) (flat_map structure_rows new)
      (drop 2 (sections r.tables r.instructions)) (row.Field f) holds none,
  none,
)

enumerations_more : (r : Reading) (c : ImageCase) (o : Option (List ImageEnumeration))
    → Holds (λ new. flat_map enumeration_rows new
    ≡ flat_map enumeration_rows r.tables.enumerations ++ row.Case c ∷ []) o
    → joined (drop 3 (sections r.tables r.instructions)) ≡ [] → Holds (λ tables.
    (rows_of tables r.instructions ≡ rows_of r.tables r.instructions ++ row.Case c ∷ [])
    × (joined (drop 3 (sections tables r.instructions)) ≡ [])) (with_enumerations r.tables o)
enumerations_more r c None holds none = tt
enumerations_more r c (Some new) holds none = (
  put_at (map row.File r.tables.files ∷ flat_map structure_rows r.tables.structures ∷ [])
      (flat_map enumeration_rows r.tables.enumerations) (flat_map enumeration_rows new)
      (drop 3 (sections r.tables r.instructions)) (row.Case c) holds none,
  none,
)

scopes_more : (r : Reading) (i : ImageItem) (o : Option (List ImageScope))
    → Holds (λ new. flat_map scope_rows new ≡ flat_map scope_rows r.tables.scopes ++ row.Item i ∷ []) o
    → joined (drop 4 (sections r.tables r.instructions)) ≡ [] → Holds (λ tables.
    (rows_of tables r.instructions ≡ rows_of r.tables r.instructions ++ row.Item i ∷ [])
    × (joined (drop 4 (sections tables r.instructions)) ≡ [])) (with_scopes r.tables o)
scopes_more r i None holds none = tt
scopes_more r i (Some new) holds none = (
  put_at (map row.File r.tables.files ∷ flat_map structure_rows r.tables.structures
      ∷ flat_map enumeration_rows r.tables.enumerations ∷ [])
      (flat_map scope_rows r.tables.scopes) (flat_map scope_rows new)
      (drop 4 (sections r.tables r.instructions)) (row.Item i) holds none,
  none,
)

-- a list of a kind is one element longer
simple_more : {A : Type 0} (rows : A → Row) (r : Reading) (k : ℕ) (a : A) (us : List A) (new : ImageTables)
    (before after : List (List Row)) → IsStanding r
    → sections r.tables r.instructions ≡ before ++ map rows us ∷ after
    → sections new r.instructions ≡ before ++ map rows (us ++ a ∷ []) ∷ after
    → drop (suc k) (sections r.tables r.instructions) ≡ after → drop (suc k) (sections new r.instructions) ≡ after
    → Holds (HasMore r (rows a)) (due r k new)
simple_more rows r k a us new before after standing old_is new_is behind behind_new =
    due_more r (rows a) k new standing (λ none.
    let empty : joined after ≡ [] = ap joined (sym behind) ∙ none in (
      ap joined new_is
          ∙ put_at before (map rows us) (map rows (us ++ a ∷ [])) after (rows a) (map_push rows us a) empty
          ∙ ap (λ (ps : List (List Row)). joined ps ++ rows a ∷ []) (sym old_is),
      ap joined behind_new ∙ empty,
    ))

-- the same of a list whose elements have rows of their own
parted_more : {A : Type 0} (rows : A
    → List Row) (x : Row) (r : Reading) (k : ℕ) (a : A) (us : List A) (new : ImageTables)
    (before after : List (List Row)) → IsStanding r → rows a ≡ x ∷ []
    → sections r.tables r.instructions ≡ before ++ flat_map rows us ∷ after
    → sections new r.instructions ≡ before ++ flat_map rows (us ++ a ∷ []) ∷ after
    → drop (suc k) (sections r.tables r.instructions) ≡ after → drop (suc k) (sections new r.instructions) ≡ after
    → Holds (HasMore r x) (due r k new)
parted_more rows x r k a us new before after standing one old_is new_is behind behind_new =
    due_more r x k new standing (λ none.
    let empty : joined after ≡ [] = ap joined (sym behind) ∙ none in (
      ap joined new_is
          ∙ put_at before (flat_map rows us) (flat_map rows (us ++ a ∷ [])) after x (rows_more rows us a x one) empty
          ∙ ap (λ (ps : List (List Row)). joined ps ++ x ∷ []) (sym old_is),
      ap joined behind_new ∙ empty,
    ))

-- what a row more leads to
pub put_more : (r : Reading) (x : Row) → IsStanding r → Holds (HasMore r x) (put r x)
put_more r (row.File name) standing =
    simple_more row.File r 0 name r.tables.files (record r.tables { files = r.tables.files ++ name ∷ [] })
    ([])
    (flat_map structure_rows r.tables.structures ∷ flat_map enumeration_rows r.tables.enumerations
    ∷ flat_map scope_rows r.tables.scopes ∷ map row.Target r.tables.targets
    ∷ map row.Definition r.tables.definitions ∷ map row.Function r.tables.functions
    ∷ map row.Position r.tables.positions ∷ map row.Constant r.tables.constants
    ∷ instruction_rows 0 r.instructions ∷ [])
    standing refl refl refl refl
put_more r (row.Structure name) standing =
    parted_more structure_rows (row.Structure name) r 1 (record { name = name; fields = [] }) r.tables.structures
    (record r.tables { structures = r.tables.structures ++ record { name = name; fields = [] } ∷ [] })
    (map row.File r.tables.files ∷ [])
    (flat_map enumeration_rows r.tables.enumerations ∷ flat_map scope_rows r.tables.scopes
    ∷ map row.Target r.tables.targets ∷ map row.Definition r.tables.definitions
    ∷ map row.Function r.tables.functions ∷ map row.Position r.tables.positions
    ∷ map row.Constant r.tables.constants ∷ instruction_rows 0 r.instructions ∷ [])
    standing refl refl refl refl refl
put_more r (row.Field f) standing =
    let add = λ (s : ImageStructure). record s { fields = s.fields ++ f ∷ [] } in
    inside_more r (row.Field f) 1 (with_structures r.tables (with_last add r.tables.structures)) standing
    (structures_more r f (with_last add r.tables.structures)
    (last_more structure_rows add (row.Field f)
    (λ s. ap (λ (rows : List Row). row.Structure s.name ∷ rows) (map_push row.Field s.fields f)) r.tables.structures))
put_more r (row.Enumeration name) standing =
    parted_more enumeration_rows (row.Enumeration name) r 2 (record { name = name; cases = [] }) r.tables.enumerations
    (record r.tables { enumerations = r.tables.enumerations ++ record { name = name; cases = [] } ∷ [] })
    (map row.File r.tables.files ∷ flat_map structure_rows r.tables.structures ∷ [])
    (flat_map scope_rows r.tables.scopes ∷ map row.Target r.tables.targets
    ∷ map row.Definition r.tables.definitions ∷ map row.Function r.tables.functions
    ∷ map row.Position r.tables.positions ∷ map row.Constant r.tables.constants
    ∷ instruction_rows 0 r.instructions ∷ [])
    standing refl refl refl refl refl
put_more r (row.Case c) standing =
    let add = λ (e : ImageEnumeration). record e { cases = e.cases ++ c ∷ [] } in
    inside_more r (row.Case c) 2 (with_enumerations r.tables (with_last add r.tables.enumerations)) standing
    (enumerations_more r c (with_last add r.tables.enumerations)
    (last_more enumeration_rows add (row.Case c)
    (λ e. ap (λ (rows : List Row). row.Enumeration e.name ∷ rows) (map_push row.Case e.cases c)) r.tables.enumerations))
put_more r (row.Scope name entry) standing =
    parted_more scope_rows (row.Scope name entry) r 3
    (record { name = name; entry = entry; items = [] }) r.tables.scopes
    (record r.tables { scopes = r.tables.scopes ++ record { name = name; entry = entry; items = [] } ∷ [] })
    (map row.File r.tables.files ∷ flat_map structure_rows r.tables.structures
    ∷ flat_map enumeration_rows r.tables.enumerations ∷ [])
    (map row.Target r.tables.targets ∷ map row.Definition r.tables.definitions
    ∷ map row.Function r.tables.functions ∷ map row.Position r.tables.positions
    ∷ map row.Constant r.tables.constants ∷ instruction_rows 0 r.instructions ∷ [])
    standing refl refl refl refl refl
put_more r (row.Item i) standing =
    let add = λ (s : ImageScope). record s { items = s.items ++ i ∷ [] } in
    inside_more r (row.Item i) 3 (with_scopes r.tables (with_last add r.tables.scopes)) standing
    (scopes_more r i (with_last add r.tables.scopes)
    (last_more scope_rows add (row.Item i)
    (λ s. ap (λ (rows : List Row). row.Scope s.name s.entry ∷ rows) (map_push row.Item s.items i)) r.tables.scopes))
put_more r (row.Target target) standing =
    simple_more row.Target r 4 target r.tables.targets (record r.tables { targets = r.tables.targets ++ target ∷ [] })
    (map row.File r.tables.files ∷ flat_map structure_rows r.tables.structures
    ∷ flat_map enumeration_rows r.tables.enumerations ∷ flat_map scope_rows r.tables.scopes ∷ [])
    (map row.Definition r.tables.definitions ∷ map row.Function r.tables.functions
    ∷ map row.Position r.tables.positions ∷ map row.Constant r.tables.constants
    ∷ instruction_rows 0 r.instructions ∷ [])
    standing refl refl refl refl
put_more r (row.Definition p) standing =
    simple_more row.Definition r 5 p r.tables.definitions
    (record r.tables { definitions = r.tables.definitions ++ p ∷ [] })
    (map row.File r.tables.files ∷ flat_map structure_rows r.tables.structures
    ∷ flat_map enumeration_rows r.tables.enumerations ∷ flat_map scope_rows r.tables.scopes
    ∷ map row.Target r.tables.targets ∷ [])
    (map row.Function r.tables.functions ∷ map row.Position r.tables.positions
    ∷ map row.Constant r.tables.constants ∷ instruction_rows 0 r.instructions ∷ [])
    standing refl refl refl refl
put_more r (row.Function entry) standing =
    simple_more row.Function r 6 entry r.tables.functions
    (record r.tables { functions = r.tables.functions ++ entry ∷ [] })
    (map row.File r.tables.files ∷ flat_map structure_rows r.tables.structures
    ∷ flat_map enumeration_rows r.tables.enumerations ∷ flat_map scope_rows r.tables.scopes
    ∷ map row.Target r.tables.targets ∷ map row.Definition r.tables.definitions ∷ [])
    (map row.Position r.tables.positions ∷ map row.Constant r.tables.constants
    ∷ instruction_rows 0 r.instructions ∷ [])
    standing refl refl refl refl
put_more r (row.Position p) standing =
    simple_more row.Position r 7 p r.tables.positions (record r.tables { positions = r.tables.positions ++ p ∷ [] })
    (map row.File r.tables.files ∷ flat_map structure_rows r.tables.structures
    ∷ flat_map enumeration_rows r.tables.enumerations ∷ flat_map scope_rows r.tables.scopes
    ∷ map row.Target r.tables.targets ∷ map row.Definition r.tables.definitions
    ∷ map row.Function r.tables.functions ∷ [])
    (map row.Constant r.tables.constants ∷ instruction_rows 0 r.instructions ∷ [])
    standing refl refl refl refl
put_more r (row.Constant c) standing =
    simple_more row.Constant r 8 c r.tables.constants (record r.tables { constants = r.tables.constants ++ c ∷ [] })
    (map row.File r.tables.files ∷ flat_map structure_rows r.tables.structures
    ∷ flat_map enumeration_rows r.tables.enumerations ∷ flat_map scope_rows r.tables.scopes
    ∷ map row.Target r.tables.targets ∷ map row.Definition r.tables.definitions
    ∷ map row.Function r.tables.functions ∷ map row.Position r.tables.positions ∷ [])
    (instruction_rows 0 r.instructions ∷ [])
    standing refl refl refl refl
put_more r (row.Instruction place i) standing =
    if_holds (HasMore r (row.Instruction place i)) (place == length r.instructions)
    (Some (record { tables = r.tables; instructions = r.instructions ++ i ∷ []; section = 9 })) (λ is.
    let same : 0 + length r.instructions ≡ place =
    let at = eqb-true place (length r.instructions) is in omega (arith, at) in
    record {
      rows = put_at
          (map row.File r.tables.files ∷ flat_map structure_rows r.tables.structures
          ∷ flat_map enumeration_rows r.tables.enumerations ∷ flat_map scope_rows r.tables.scopes
          ∷ map row.Target r.tables.targets ∷ map row.Definition r.tables.definitions
          ∷ map row.Function r.tables.functions ∷ map row.Position r.tables.positions
          ∷ map row.Constant r.tables.constants ∷ [])
          (instruction_rows 0 r.instructions) (instruction_rows 0 (r.instructions ++ i ∷ [])) []
          (row.Instruction place i)
          (instructions_more 0 r.instructions i
          ∙ ap (λ (m : ℕ). instruction_rows 0 r.instructions ++ row.Instruction m i ∷ []) same) refl;
      standing = record { behind = refl };
    })
