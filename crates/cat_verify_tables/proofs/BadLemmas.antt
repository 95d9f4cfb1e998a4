-- Faults of entries make lines of tables bad.
use Rattle.std.proofs.Common.{◌≡◌, ◌≤◌, ◌+◌, ◌⊎◌, ℕ, suc, false, List, [], ◌∷◌, ◌++◌, length, take, drop}
use Rattle.std.proofs.Common.{map}
use Rattle.std.proofs.Common.{Option, Some, slice_get, inl, inr, refl, sym, ap, ◌∙◌, subst, arith, append-nil}
use Rattle.std.specs.Prelude.{flat_map}
use Rattle.std.proofs.lemmas.List.{append_assoc, length-append, length-map, map-append}
use Rattle.cat_value.specs.Declarations.{most_cases}
use Rattle.cat_image.specs.declared.row.Row.{Row}
use Rattle.cat_image.specs.declared.row.Row.TheVariants as row
use Rattle.cat_image.specs.declared.tables.ImageField.{ImageField}
use Rattle.cat_image.specs.declared.tables.ImageStructure.{ImageStructure}
use Rattle.cat_image.specs.declared.tables.ImageCase.{ImageCase}
use Rattle.cat_image.specs.declared.tables.ImageEnumeration.{ImageEnumeration}
use Rattle.cat_image.specs.declared.tables.ImageTables.{ImageTables}
use Rattle.cat_image.specs.Words.{Text}
use Rattle.cat_image.specs.Rows.{rows_of, structure_rows, enumeration_rows, scope_rows}
use Rattle.cat_verify_tables.specs.TypeWords.{IsTypeName, IsPartName}
use Rattle.cat_verify_tables.specs.RowFronts.{Open, begins_with_part, declared_in, open_in}
use Rattle.cat_verify_tables.specs.WrongParts.{IsWrongName, IsWrongPart}
use Rattle.cat_verify_tables.specs.WrongTables.{IsWrong, IsBadTable}
use Rattle.cat_verify_tables.specs.WrongTables as wrong
use Rattle.cat_verify_tables.specs.inside.Causes.{IsFaulty, IsFaultyIn, lines_in}
use Rattle.cat_verify_tables.specs.inside.NamedWords.{IsFileTwice, IsWrongHeaderAt, field_count, case_count}
use Rattle.cat_verify_tables.specs.inside.DeclaredWords.{structure_name, enumeration_name, structures_named}
use Rattle.cat_verify_tables.proofs.RowLemmas.{bad_row, length_front, split_at}
use Rattle.cat_verify_tables.proofs.FrontLemmas.{declared_both, declared_behind_files, files_of_files}
use Rattle.cat_verify_tables.proofs.FrontLemmas.{structures_declare}
use Rattle.cat_verify_tables.proofs.FrontLemmas.{enumerations_declare, structures_many, enumerations_many, opened}
use Rattle.cat_verify_tables.proofs.FrontLemmas.{open_structure, open_enumeration}

-- ---- where rows stand

flat_both : {A B : Type 0} (f : A → List B) (xs ys : List A) → flat_map f (xs ++ ys) ≡ flat_map f xs ++ flat_map f ys
flat_both f [] ys = refl
flat_both f (x ∷ xs) ys =
    ap (λ zs. f x ++ zs) (flat_both f xs ys) ∙ sym (append_assoc (f x) (flat_map f xs) (flat_map f ys))

-- entries with one row each
row_split : {A : Type 0} (make : A → Row) (front rest : List Row) (xs : List A) (k : ℕ) (x : A)
    → slice_get xs k ≡ Some x
    → front ++ (map make xs ++ rest) ≡ (front ++ map make (take k xs)) ++ make x ∷ (map make (drop (suc k) xs) ++ rest)
row_split make front rest xs k x at =
    let before = map make (take k xs) in
    let after = map make (drop (suc k) xs) in
    let mid : map make xs ≡ before ++ make x ∷ after =
    ap (map make) (split_at xs k x at) ∙ map-append make (take k xs) (x ∷ drop (suc k) xs) in
    ap (λ ys. front ++ (ys ++ rest)) mid ∙ ap (λ ys. front ++ ys) (append_assoc before (make x ∷ after) rest)
    ∙ sym (append_assoc front before (make x ∷ (after ++ rest)))

-- entries with rows of their own
group_split : {A : Type 0} (rows : A → List Row) (front rest : List Row) (xs : List A) (k : ℕ) (x : A)
    (a b : List Row) (r : Row) → slice_get xs k ≡ Some x → rows x ≡ a ++ r ∷ b
    → front ++ (flat_map rows xs ++ rest)
    ≡ (front ++ flat_map rows (take k xs) ++ a) ++ r ∷ (b ++ (flat_map rows (drop (suc k) xs) ++ rest))
group_split rows front rest xs k x a b r at own =
    let before = flat_map rows (take k xs) in
    let after = flat_map rows (drop (suc k) xs) in
    let mid : flat_map rows xs ≡ before ++ ((a ++ r ∷ b) ++ after) =
    ap (flat_map rows) (split_at xs k x at) ∙ flat_both rows (take k xs) (x ∷ drop (suc k) xs)
    ∙ ap (λ ys. before ++ (ys ++ after)) own in
    ap (λ ys. front ++ (ys ++ rest)) mid
    ∙ ap (λ ys. front ++ ys) (append_assoc before ((a ++ r ∷ b) ++ after) rest)
    ∙ sym (append_assoc front before (((a ++ r ∷ b) ++ after) ++ rest))
    ∙ ap (λ ys. front ++ before ++ ys) (append_assoc (a ++ r ∷ b) after rest ∙ append_assoc a (r ∷ b) (after ++ rest))
    ∙ sym (append_assoc (front ++ before) a (r ∷ (b ++ (after ++ rest))))

-- what stands against a case behind others
pub data IsBadCase (tables : ImageTables) (name : Text) (before : List ImageCase) (c : ImageCase) : Type 0 where
  named : IsWrongName IsTypeName (map (λ (d : ImageCase). d.name) before) c.name → IsBadCase tables name before c
  typed : (ty : Text) → c.content ≡ Some ty → IsWrongPart tables name ty → IsBadCase tables name before c
  late : most_cases ≤ length before → IsBadCase tables name before c

-- ---- bad lines

module _ (tables : ImageTables) where
  -- what is bad at one line is so at an equal one
  pub bad_at : (n m : ℕ) → n ≡ m → IsBadTable tables n → IsBadTable tables m
  bad_at n m same bad = subst (λ (k : ℕ). IsBadTable tables k) same bad

  pub row_bad : {A : Type 0} (make : A → Row) (front rest : List Row) (xs : List A) (first k : ℕ) (x : A)
      → rows_of tables [] ≡ front ++ (map make xs ++ rest) → first ≡ length front + 2 → slice_get xs k ≡ Some x
      → IsWrong tables (front ++ map make (take k xs)) (map make (drop (suc k) xs) ++ rest) (make x)
      → IsBadTable tables (first + k)
  row_bad make front rest xs first k x are begun at bad =
      let many = length-append front (map make (take k xs)) in
      let own = length-map (take k xs) make in
      let before = length_front xs k x at in
      bad_at (length (front ++ map make (take k xs)) + 2) (first + k) (omega (arith, many, own, before, begun))
      (bad_row tables (front ++ map make (take k xs)) (map make (drop (suc k) xs) ++ rest) (make x)
      (are ∙ row_split make front rest xs k x at) bad)

  pub group_bad : {A : Type 0} (rows : A → List Row) (parts : A → ℕ)
      → ((xs : List A) → length (flat_map rows xs) ≡ lines_in parts xs) → (front rest : List Row) (xs : List A)
      (first k : ℕ) (x : A) (a b : List Row) (r : Row) → rows_of tables [] ≡ front ++ (flat_map rows xs ++ rest)
      → first ≡ length front + 2 → slice_get xs k ≡ Some x → rows x ≡ a ++ r ∷ b
      → IsWrong tables (front ++ flat_map rows (take k xs) ++ a) (b ++ (flat_map rows (drop (suc k) xs) ++ rest)) r
      → IsBadTable tables (first + lines_in parts (take k xs) + length a)
  group_bad rows parts count front rest xs first k x a b r are begun at own bad =
      let all = front ++ flat_map rows (take k xs) ++ a in
      let one = length-append (front ++ flat_map rows (take k xs)) a in
      let two = length-append front (flat_map rows (take k xs)) in
      let many = count (take k xs) in
      bad_at (length all + 2) (first + lines_in parts (take k xs) + length a) (omega (arith, one, two, many, begun))
      (bad_row tables all (b ++ (flat_map rows (drop (suc k) xs) ++ rest)) r
      (are ∙ group_split rows front rest xs k x a b r at own) bad)

  -- ---- sections

  abbrev pub files : List Row
  files = map row.File tables.files

  abbrev pub structures : List Row
  structures = flat_map structure_rows tables.structures

  abbrev pub enumerations : List Row
  enumerations = flat_map enumeration_rows tables.enumerations

  abbrev pub scopes : List Row
  scopes = flat_map scope_rows tables.scopes

  -- what stands behind scopes
  abbrev pub tail : List Row
  tail = map row.Target tables.targets ++ (map row.Definition tables.definitions
      ++ (map row.Function tables.functions ++ (map row.Position tables.positions
      ++ (map row.Constant tables.constants ++ []))))

  behind_structures : rows_of tables [] ≡ (files ++ structures) ++ (enumerations ++ (scopes ++ tail))
  behind_structures = sym (append_assoc files structures (enumerations ++ (scopes ++ tail)))

  pub behind_enumerations : rows_of tables [] ≡ (files ++ structures ++ enumerations) ++ (scopes ++ tail)
  behind_enumerations =
      behind_structures ∙ sym (append_assoc (files ++ structures) enumerations (scopes ++ tail))

  -- ---- files

  pub file_bad : (line : ℕ) → IsFaulty IsFileTwice 2 tables.files line → IsBadTable tables line
  file_bad line faulty =
      bad_at (2 + faulty.index) line (sym faulty.line_is)
      (row_bad row.File [] (structures ++ (enumerations ++ (scopes ++ tail))) tables.files 2 faulty.index faulty.entry
      refl refl faulty.at
      (wrong.file_twice (subst (λ names. IsFileTwice names faulty.entry)
      (sym (files_of_files (take faulty.index tables.files))) faulty.fault)))

  -- ---- names of structures

  abbrev pub first : ℕ
  first = 2 + length tables.files

  files_many : first ≡ length files + 2
  files_many = let many = length-map tables.files row.File in omega (arith, many)

  structure_front : (k : ℕ) → declared_in (files ++ flat_map structure_rows (take k tables.structures) ++ [])
      ≡ map structure_name (take k tables.structures)
  structure_front k =
      ap declared_in (append-nil (files ++ flat_map structure_rows (take k tables.structures)))
      ∙ declared_behind_files tables.files (flat_map structure_rows (take k tables.structures))
      ∙ structures_declare (take k tables.structures)

  pub structure_name_bad : (line : ℕ)
      → IsFaultyIn field_count (IsWrongHeaderAt structure_name []) first tables.structures line → IsBadTable tables line
  structure_name_bad line faulty =
      let ss = tables.structures in
      let s = faulty.entry in
      let k = faulty.index in
      bad_at (first + lines_in field_count (take k ss) + 0) line (omega (arith, faulty.fault.0))
      (group_bad structure_rows field_count structures_many files (enumerations ++ (scopes ++ tail)) ss first k s []
      (map row.Field s.fields) (row.Structure s.name) refl files_many faulty.at refl
      (wrong.structure (subst (λ names. IsWrongName IsTypeName names s.name) (sym (structure_front k)) faulty.fault.1)))

  -- ---- structures with their fields

  no_fields_begin : (fs : List ImageField) (rest : List Row) → fs ≡ [] → begins_with_part rest ≡ false
      → begins_with_part (map row.Field fs ++ rest) ≡ false
  no_fields_begin fs rest none other =
      ap (λ (gs : List ImageField). begins_with_part (map row.Field gs ++ rest)) none ∙ other

  pub no_fields_bad : (k : ℕ) (s : ImageStructure) → slice_get tables.structures k ≡ Some s → s.fields ≡ []
      → begins_with_part
      (flat_map structure_rows (drop (suc k) tables.structures) ++ (enumerations ++ (scopes ++ tail))) ≡ false
      → IsBadTable tables (first + lines_in field_count (take k tables.structures))
  no_fields_bad k s at none other =
      let ss = tables.structures in
      bad_at (first + lines_in field_count (take k ss) + 0) (first + lines_in field_count (take k ss)) (omega arith)
      (group_bad structure_rows field_count structures_many files (enumerations ++ (scopes ++ tail)) ss first k s []
      (map row.Field s.fields) (row.Structure s.name) refl files_many at refl
      (wrong.no_fields (no_fields_begin s.fields
      (flat_map structure_rows (drop (suc k) ss) ++ (enumerations ++ (scopes ++ tail))) none other)))

  -- a field behind others of its structure
  field_rows : (s : ImageStructure) (i : ℕ) (f : ImageField) → slice_get s.fields i ≡ Some f
      → structure_rows s ≡ (row.Structure s.name ∷ map row.Field (take i s.fields))
      ++ row.Field f ∷ map row.Field (drop (suc i) s.fields)
  field_rows s i f at = ap (λ rs. row.Structure s.name ∷ rs)
      (ap (map row.Field) (split_at s.fields i f at)
      ∙ map-append row.Field (take i s.fields) (f ∷ drop (suc i) s.fields))

  pub field_bad : (k : ℕ) (s : ImageStructure) (i : ℕ) (f : ImageField) → slice_get tables.structures k ≡ Some s
      → slice_get s.fields i ≡ Some f
      → IsWrongName IsPartName (map (λ (g : ImageField). g.name) (take i s.fields)) f.name
      ⊎ IsWrongPart tables s.name f.ty
      → IsBadTable tables (first + lines_in field_count (take k tables.structures) + 1 + i)
  field_bad k s i f at within fault =
      let ss = tables.structures in
      let header = row.Structure s.name ∷ map row.Field (take i s.fields) in
      let front = files ++ flat_map structure_rows (take k ss) in
      let is_open = open_structure front s.name (take i s.fields) in
      let own = length-map (take i s.fields) row.Field in
      let before = length_front s.fields i f within in
      bad_at (first + lines_in field_count (take k ss) + length header)
      (first + lines_in field_count (take k ss) + 1 + i) (omega (arith, own, before))
      (group_bad structure_rows field_count structures_many files (enumerations ++ (scopes ++ tail)) ss first k s header
      (map row.Field (drop (suc i) s.fields)) (row.Field f) refl files_many at (field_rows s i f within)
      (by fault is_open))
    where
      by : IsWrongName IsPartName (map (λ (g : ImageField). g.name) (take i s.fields)) f.name
          ⊎ IsWrongPart tables s.name f.ty → {front rest : List Row}
          → open_in front ≡ opened s.name (map (λ (g : ImageField). g.name) (take i s.fields))
          → IsWrong tables front rest (row.Field f)
      by (inl name) is_open =
          wrong.field_name (subst (λ (o : Open). IsWrongName IsPartName o.parts f.name) (sym is_open) name)
      by (inr part) is_open = wrong.field_type (subst (λ (o : Open). IsWrongPart tables o.name f.ty) (sym is_open) part)

  -- ---- enumerations with their cases

  abbrev pub second : ℕ
  second = first + lines_in field_count tables.structures

  pub structures_end : second ≡ length (files ++ structures) + 2
  structures_end =
      let both = length-append files structures in
      let many = structures_many tables.structures in omega (arith, both, many, files_many)

  enumeration_front : (k : ℕ)
      → declared_in (files ++ structures ++ flat_map enumeration_rows (take k tables.enumerations) ++ [])
      ≡ structures_named tables ++ map enumeration_name (take k tables.enumerations)
  enumeration_front k =
      let es = flat_map enumeration_rows (take k tables.enumerations) in
      ap declared_in (append-nil (files ++ structures ++ es) ∙ append_assoc files structures es)
      ∙ declared_behind_files tables.files (structures ++ es) ∙ declared_both structures es
      ∙ ap (λ (names : List Text). names ++ declared_in es) (structures_declare tables.structures)
      ∙ ap (λ (names : List Text). structures_named tables ++ names)
      (enumerations_declare (take k tables.enumerations))

  pub enumeration_name_bad : (line : ℕ)
      → IsFaultyIn case_count (IsWrongHeaderAt enumeration_name (structures_named tables)) second tables.enumerations
      line
      → IsBadTable tables line
  enumeration_name_bad line faulty =
      let es = tables.enumerations in
      let e = faulty.entry in
      let k = faulty.index in
      bad_at (second + lines_in case_count (take k es) + 0) line (omega (arith, faulty.fault.0))
      (group_bad enumeration_rows case_count enumerations_many (files ++ structures) (scopes ++ tail) es second k e []
      (map row.Case e.cases) (row.Enumeration e.name) behind_structures structures_end faulty.at refl
      (wrong.enumeration (subst (λ names. IsWrongName IsTypeName names e.name) (sym (enumeration_front k))
      faulty.fault.1)))

  no_cases_begin : (cs : List ImageCase) (rest : List Row) → cs ≡ [] → begins_with_part rest ≡ false
      → begins_with_part (map row.Case cs ++ rest) ≡ false
  no_cases_begin cs rest none other =
      ap (λ (ds : List ImageCase). begins_with_part (map row.Case ds ++ rest)) none ∙ other

  pub no_cases_bad : (k : ℕ) (e : ImageEnumeration) → slice_get tables.enumerations k ≡ Some e → e.cases ≡ []
      → begins_with_part (flat_map enumeration_rows (drop (suc k) tables.enumerations) ++ (scopes ++ tail)) ≡ false
      → IsBadTable tables (second + lines_in case_count (take k tables.enumerations))
  no_cases_bad k e at none other =
      let es = tables.enumerations in
      bad_at (second + lines_in case_count (take k es) + 0) (second + lines_in case_count (take k es)) (omega arith)
      (group_bad enumeration_rows case_count enumerations_many (files ++ structures) (scopes ++ tail) es second k e []
      (map row.Case e.cases) (row.Enumeration e.name) behind_structures structures_end at refl
      (wrong.no_cases (no_cases_begin e.cases
      (flat_map enumeration_rows (drop (suc k) es) ++ (scopes ++ tail)) none other)))

  case_rows : (e : ImageEnumeration) (i : ℕ) (c : ImageCase) → slice_get e.cases i ≡ Some c
      → enumeration_rows e ≡ (row.Enumeration e.name ∷ map row.Case (take i e.cases))
      ++ row.Case c ∷ map row.Case (drop (suc i) e.cases)
  case_rows e i c at = ap (λ rs. row.Enumeration e.name ∷ rs)
      (ap (map row.Case) (split_at e.cases i c at) ∙ map-append row.Case (take i e.cases) (c ∷ drop (suc i) e.cases))

  case_wrong : (name content_name : Text) (content : Option Text) (before : List ImageCase) (front rest : List Row)
      → IsBadCase tables name before (record { name = content_name; content = content })
      → open_in front ≡ opened name (map (λ (d : ImageCase). d.name) before)
      → IsWrong tables front rest (row.Case (record { name = content_name; content = content }))
  case_wrong name own content before front rest (named fault) is_open =
      wrong.case_name (subst (λ (o : Open). IsWrongName IsTypeName o.parts own) (sym is_open) fault)
  case_wrong name own content before front rest (typed ty is part) is_open =
      subst (λ (it : Option Text). IsWrong tables front rest (row.Case (record { name = own; content = it }))) (sym is)
      (wrong.case_content (subst (λ (o : Open). IsWrongPart tables o.name ty) (sym is_open) part))
  case_wrong name own content before front rest (late many) is_open =
      let count = length-map before (λ (d : ImageCase). d.name) in
      wrong.too_many_cases
      (subst (λ (o : Open). most_cases ≤ length o.parts) (sym is_open) (omega (arith, many, count)))

  pub case_bad : (k : ℕ) (e : ImageEnumeration) (i : ℕ) (c : ImageCase) → slice_get tables.enumerations k ≡ Some e
      → slice_get e.cases i ≡ Some c → IsBadCase tables e.name (take i e.cases) c
      → IsBadTable tables (second + lines_in case_count (take k tables.enumerations) + 1 + i)
  case_bad k e i c at within fault =
      let es = tables.enumerations in
      let header = row.Enumeration e.name ∷ map row.Case (take i e.cases) in
      let front = files ++ structures ++ flat_map enumeration_rows (take k es) in
      let is_open = open_enumeration front e.name (take i e.cases) in
      let own = length-map (take i e.cases) row.Case in
      let before = length_front e.cases i c within in
      bad_at (second + lines_in case_count (take k es) + length header)
      (second + lines_in case_count (take k es) + 1 + i) (omega (arith, own, before))
      (group_bad enumeration_rows case_count enumerations_many (files ++ structures) (scopes ++ tail) es second k e
      header (map row.Case (drop (suc i) e.cases)) (row.Case c) behind_structures structures_end at
      (case_rows e i c within) (case_wrong e.name c.name c.content (take i e.cases) (front ++ header)
      (map row.Case (drop (suc i) e.cases) ++ (flat_map enumeration_rows (drop (suc k) es) ++ (scopes ++ tail)))
      fault is_open))
