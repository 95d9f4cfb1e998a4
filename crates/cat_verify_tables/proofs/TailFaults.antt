-- Faults of targets, positions and constants make lines bad.
use Rattle.std.proofs.Common.{◌≡◌, ◌+◌, ℕ, suc, List, [], ◌++◌, length, map, take, drop, Some}
use Rattle.std.proofs.Common.{inl, inr, sym, ◌∙◌, arith}
use Rattle.std.proofs.lemmas.List.{append_assoc, length-append, length-map}
use Rattle.cat_value.specs.declared.decls.Decls.{Decls}
use Rattle.cat_value.specs.declared.outcome.Target.{Target}
use Rattle.cat_image.specs.declared.row.Row.{Row}
use Rattle.cat_image.specs.declared.row.Row.TheVariants as row
use Rattle.cat_image.specs.declared.tables.ImagePos.{ImagePos}
use Rattle.cat_image.specs.declared.tables.ImageTables.{ImageTables}
use Rattle.cat_image.specs.Words.{Text}
use Rattle.cat_image.specs.Rows.{rows_of}
use Rattle.cat_verify_tables.specs.WrongParts.{IsLost, IsWrongTarget, NamesVariable}
use Rattle.cat_verify_tables.specs.WrongTables.{IsBadTable, IsWrong, IsWrongConstant}
use Rattle.cat_verify_tables.specs.WrongTables as wrong
use Rattle.cat_verify_tables.specs.inside.Causes.{IsFaulty, lines_in}
use Rattle.cat_verify_tables.specs.inside.FoundPlaces.{IsPosLost}
use Rattle.cat_verify_tables.specs.inside.NamedWords.{item_count}
use Rattle.cat_verify_tables.specs.inside.TargetNaming.{IsWrongEntry, target_named}
use Rattle.cat_verify_tables.proofs.BadLemmas.{bad_at, behind_enumerations, enumerations, files, row_bad, scopes}
use Rattle.cat_verify_tables.proofs.BadLemmas.{structures, tail}
use Rattle.cat_verify_tables.proofs.BadScopes.{enumerations_end, third}
use Rattle.cat_verify_tables.proofs.FrontLemmas.{scopes_many}
use Rattle.cat_verify_tables.proofs.PlaceLemmas.{lost}

-- a fault of a single line
section_bad : {A : Type 0} (tables : ImageTables) (make : A → Row) (Fault : A → Type 0)
    → ((x : A) → Fault x → (front rest : List Row) → IsWrong tables front rest (make x)) → (front rest : List Row)
    (xs : List A) (first : ℕ) → rows_of tables [] ≡ front ++ (map make xs ++ rest) → first ≡ length front + 2
    → (line : ℕ) → IsFaulty (λ _. Fault) first xs line → IsBadTable tables line
section_bad tables make Fault wrongs front rest xs first are begun line faulty =
    bad_at tables (first + faulty.index) line (sym faulty.line_is)
    (row_bad tables make front rest xs first faulty.index faulty.entry are begun faulty.at
    (wrongs faulty.entry faulty.fault (front ++ map make (take faulty.index xs))
    (map make (drop (suc faulty.index) xs) ++ rest)))

module _ (tables : ImageTables) where
  abbrev targets : List Row
  targets = map row.Target tables.targets

  abbrev definitions : List Row
  definitions = map row.Definition tables.definitions

  abbrev functions : List Row
  functions = map row.Function tables.functions

  abbrev positions : List Row
  positions = map row.Position tables.positions

  abbrev constants : List Row
  constants = map row.Constant tables.constants

  -- the first line of each section
  abbrev pub targets_at : ℕ
  targets_at = third tables + lines_in item_count tables.scopes

  abbrev pub definitions_at : ℕ
  definitions_at = targets_at + length tables.targets

  abbrev pub positions_at : ℕ
  positions_at = definitions_at + length tables.definitions + length tables.functions

  abbrev pub constants_at : ℕ
  constants_at = positions_at + length tables.positions

  -- what stands in front of each section
  abbrev to_scopes : List Row
  to_scopes = files tables ++ structures tables ++ enumerations tables ++ scopes tables

  scopes_end : targets_at ≡ length to_scopes + 2
  scopes_end =
      let both = length-append (files tables ++ structures tables ++ enumerations tables) (scopes tables) in
      let many = scopes_many tables.scopes in
      let before = enumerations_end tables in omega (arith, both, many, before)

  behind_scopes : rows_of tables [] ≡ to_scopes ++ tail tables
  behind_scopes = behind_enumerations tables
      ∙ sym (append_assoc (files tables ++ structures tables ++ enumerations tables) (scopes tables) (tail tables))

  pub target_bad : (line : ℕ) → IsFaulty (λ _. IsWrongTarget tables) targets_at tables.targets line
      → IsBadTable tables line
  target_bad = section_bad tables row.Target (IsWrongTarget tables) (λ t fault front rest. wrong.target fault) to_scopes
      (definitions ++ (functions ++ (positions ++ (constants ++ [])))) tables.targets targets_at behind_scopes
      scopes_end

  to_targets : rows_of tables [] ≡ (to_scopes ++ targets)
      ++ (definitions ++ (functions ++ (positions ++ (constants ++ []))))
  to_targets = behind_scopes
      ∙ sym (append_assoc to_scopes targets (definitions ++ (functions ++ (positions ++ (constants ++ [])))))

  targets_end : definitions_at ≡ length (to_scopes ++ targets) + 2
  targets_end =
      let both = length-append to_scopes targets in
      let many = length-map tables.targets row.Target in
      let before = scopes_end in omega (arith, both, many, before)

  pub definition_bad : (line : ℕ) → IsFaulty (λ _. IsLost tables) definitions_at tables.definitions line
      → IsBadTable tables line
  definition_bad = section_bad tables row.Definition (IsLost tables) (λ p fault front rest. wrong.definition fault)
      (to_scopes ++ targets) (functions ++ (positions ++ (constants ++ []))) tables.definitions definitions_at
      to_targets
      targets_end

  abbrev to_functions : List Row
  to_functions = to_scopes ++ targets ++ definitions ++ functions

  behind_functions : rows_of tables [] ≡ to_functions ++ (positions ++ (constants ++ []))
  behind_functions =
      to_targets
      ∙ sym (append_assoc (to_scopes ++ targets) definitions (functions ++ (positions ++ (constants ++ []))))
      ∙ sym (append_assoc (to_scopes ++ targets ++ definitions) functions (positions ++ (constants ++ [])))

  functions_end : positions_at ≡ length to_functions + 2
  functions_end =
      let one = length-append (to_scopes ++ targets) definitions in
      let other = length-append (to_scopes ++ targets ++ definitions) functions in
      let ds = length-map tables.definitions row.Definition in
      let fs = length-map tables.functions row.Function in
      let before = targets_end in omega (arith, one, other, ds, fs, before)

  pub position_bad : (line : ℕ) → IsFaulty (λ _. IsLost tables) positions_at tables.positions line
      → IsBadTable tables line
  position_bad = section_bad tables row.Position (IsLost tables) (λ p fault front rest. wrong.position fault)
      to_functions (constants ++ []) tables.positions positions_at behind_functions functions_end

  pub constant_bad : (line : ℕ) → IsFaulty (λ _. IsWrongConstant tables) constants_at tables.constants line
      → IsBadTable tables line
  constant_bad = section_bad tables row.Constant (IsWrongConstant tables) (λ c fault front rest. wrong.constant fault)
      (to_functions ++ positions) [] tables.constants constants_at
      (behind_functions ∙ sym (append_assoc to_functions positions (constants ++ [])))
      (let both = length-append to_functions positions in
      let many = length-map tables.positions row.Position in
      let before = functions_end in omega (arith, both, many, before))

  -- ---- faults as they are told

  pub lost_bad : (first : ℕ) (ps : List ImagePos) (line : ℕ)
      → IsFaulty (λ _. IsPosLost (length tables.files)) first ps line → IsFaulty (λ _. IsLost tables) first ps line
  lost_bad first ps line faulty = record {
    index = faulty.index;
    entry = faulty.entry;
    at = faulty.at;
    line_is = faulty.line_is;
    fault = lost tables faulty.entry faulty.fault;
  }

  -- a target that isn't named is no variable
  pub entry_bad : (ds : Decls)
      → ((place : Text) → NamesVariable tables place → (target : Target) × (target_named ds place ≡ Some target))
      → (first line : ℕ) → IsFaulty (λ _. IsWrongEntry ds (length tables.files)) first tables.targets line
      → IsFaulty (λ _. IsWrongTarget tables) first tables.targets line
  entry_bad ds found first line faulty = record {
    index = faulty.index;
    entry = faulty.entry;
    at = faulty.at;
    line_is = faulty.line_is;
    fault = by faulty.fault;
  }
    where
      by : IsWrongEntry ds (length tables.files) faulty.entry → IsWrongTarget tables faulty.entry
      by (inl missed) = inl (lost tables faulty.entry.pos missed)
      by (inr none) = inr (λ names. let it = found faulty.entry.place names in cc (sym none ∙ it.1))
