-- Tables whose parts were told are told, and faults of their parts make lines bad.
use Rattle.std.proofs.Common.{◌≡◌, ◌+◌, ℕ, List, [], length, map, take, sym, ap, ◌∙◌, subst, arith}
use Rattle.std.proofs.lemmas.List.{take_all}
use Rattle.cat_pos.specs.declared.pos.Pos.{Pos}
use Rattle.cat_value.specs.declared.declaration.Structure.{Structure}
use Rattle.cat_value.specs.declared.declaration.Enumeration.{Enumeration}
use Rattle.cat_value.specs.declared.decls.Decls.{Decls}
use Rattle.cat_value.specs.Table.{AreHeights}
use Rattle.cat_code.specs.declared.code.CasePlace.{CasePlace}
use Rattle.cat_code.specs.declared.code.Constant.{Constant}
use Rattle.cat_code.specs.declared.code.Tables.{Tables}
use Rattle.cat_code.specs.declared.code.TargetEntry.{TargetEntry}
use Rattle.cat_code.specs.Places as places
use Rattle.cat_image.specs.declared.tables.ImageConstant.{ImageConstant}
use Rattle.cat_image.specs.declared.tables.ImagePos.{ImagePos}
use Rattle.cat_image.specs.declared.tables.ImageScope.{ImageScope}
use Rattle.cat_image.specs.declared.tables.ImageTarget.{ImageTarget}
use Rattle.cat_image.specs.declared.tables.ImageTables.{ImageTables}
use Rattle.cat_verify_tables.specs.declared.constants.Typing.{Typing}
use Rattle.cat_verify_tables.specs.declared.tables.Declared.{Declared}
use Rattle.cat_verify_tables.specs.TableWords.{AreTablesOf}
use Rattle.cat_verify_tables.specs.WrongTables.{IsBadTable}
use Rattle.cat_verify_tables.specs.inside.Causes.{IsFaulty, lines_in}
use Rattle.cat_verify_tables.specs.inside.ConstantWords.{IsConstantBy, IsWrongConstantBy}
use Rattle.cat_verify_tables.specs.inside.DeclarationWords.{AreConstantsTold, AreDeclared, AreTablesTold}
use Rattle.cat_verify_tables.specs.inside.DeclarationWords.{constants_from, definitions_from, positions_from}
use Rattle.cat_verify_tables.specs.inside.DeclarationWords.{targets_from}
use Rattle.cat_verify_tables.specs.inside.DeclaredWords.{scopes_from}
use Rattle.cat_verify_tables.specs.inside.Entries.{AreTold}
use Rattle.cat_verify_tables.specs.inside.FoundPlaces.{IsPosLost, IsPosOf}
use Rattle.cat_verify_tables.specs.inside.NamedWords.{item_count}
use Rattle.cat_verify_tables.specs.inside.TargetNaming.{IsEntryOf, IsWrongEntry}
use Rattle.cat_verify_tables.proofs.TablesLemmas.{constants_are, constants_bad, constants_fit, tables_are, targets_bad}
use Rattle.cat_verify_tables.proofs.TablesLemmas.{targets_formed}
use Rattle.cat_verify_tables.proofs.TailFaults.{constants_at, definition_bad, definitions_at, lost_bad, position_bad}
use Rattle.cat_verify_tables.proofs.TailFaults.{positions_at, targets_at}

-- targets begin behind all scopes
pub targets_begin : (image : ImageTables) (scopes : List ImageScope) (begin many at : ℕ) → scopes ≡ image.scopes
    → begin ≡ scopes_from image (2 + length image.files) → many ≡ length scopes
    → at ≡ begin + lines_in item_count (take many scopes) → at ≡ targets_from image
targets_begin image scopes begin many at are begun count is =
    let all : take many scopes ≡ scopes = take_all many scopes (omega (arith, count)) in
    let same = ap (lines_in item_count) (all ∙ are) in omega (arith, is, begun, same)

-- ---- positions

module _ (image : ImageTables) (files : ℕ) (lines : List ImagePos) (files_are : files ≡ length image.files) where
  lost_moved : (first other : ℕ) (others : List ImagePos) → first ≡ other → lines ≡ others → (line : ℕ)
      → IsFaulty (λ _. IsPosLost files) first lines line
      → IsFaulty (λ _. IsPosLost (length image.files)) other others line
  lost_moved first other others first_is lines_are line faulty =
      subst (λ (xs : List ImagePos). IsFaulty (λ _. IsPosLost (length image.files)) other xs line) lines_are
      (subst (λ (k : ℕ). IsFaulty (λ _. IsPosLost (length image.files)) k lines line) first_is
      (subst (λ (n : ℕ). IsFaulty (λ _. IsPosLost n) first lines line) files_are faulty))

  pub definition_faults : (first : ℕ) → first ≡ definitions_from image → lines ≡ image.definitions → (line : ℕ)
      → IsFaulty (λ _. IsPosLost files) first lines line → IsBadTable image line
  definition_faults first first_is lines_are line faulty = definition_bad image line
      (lost_bad image (definitions_at image) image.definitions line
      (lost_moved first (definitions_at image) image.definitions first_is lines_are line faulty))

  pub position_faults : (first : ℕ) → first ≡ positions_from image → lines ≡ image.positions → (line : ℕ)
      → IsFaulty (λ _. IsPosLost files) first lines line → IsBadTable image line
  position_faults first first_is lines_are line faulty = position_bad image line
      (lost_bad image (positions_at image) image.positions line
      (lost_moved first (positions_at image) image.positions first_is lines_are line faulty))

  pub positions_told : (others : List ImagePos) → lines ≡ others → (ps : List Pos)
      → AreTold (λ _. IsPosOf files) [] lines ps → AreTold (λ _. IsPosOf (length image.files)) [] others ps
  positions_told others lines_are ps told =
      subst (λ (xs : List ImagePos). AreTold (λ _. IsPosOf (length image.files)) [] xs ps) lines_are
      (subst (λ (n : ℕ). AreTold (λ _. IsPosOf n) [] lines ps) files_are told)

module _ (image : ImageTables) (d : Declared) (is : AreDeclared image d) where
  -- ---- targets

  module _ (ds : Decls) (files : ℕ) (lines : List ImageTarget) (decls_are : ds ≡ d.decls)
      (files_are : files ≡ length image.files) (lines_are : lines ≡ image.targets) where
    pub target_faults : (first : ℕ) → first ≡ targets_from image → (line : ℕ)
        → IsFaulty (λ _. IsWrongEntry ds files) first lines line → IsBadTable image line
    target_faults first first_is line faulty = targets_bad image d is line
        (subst (λ (xs : List ImageTarget).
        IsFaulty (λ _. IsWrongEntry d.decls (length image.files)) (targets_at image) xs line) lines_are
        (subst (λ (k : ℕ). IsFaulty (λ _. IsWrongEntry d.decls (length image.files)) k lines line) first_is
        (subst (λ (n : ℕ). IsFaulty (λ _. IsWrongEntry d.decls n) first lines line) files_are
        (subst (λ (x : Decls). IsFaulty (λ _. IsWrongEntry x files) first lines line) decls_are faulty))))

    pub targets_told : (entries : List TargetEntry) → AreTold (λ _. IsEntryOf ds files) [] lines entries
        → AreTold (λ _. IsEntryOf d.decls (length image.files)) [] image.targets entries
    targets_told entries told =
        subst (λ (xs : List ImageTarget). AreTold (λ _. IsEntryOf d.decls (length image.files)) [] xs entries) lines_are
        (subst (λ (n : ℕ). AreTold (λ _. IsEntryOf d.decls n) [] lines entries) files_are
        (subst (λ (x : Decls). AreTold (λ _. IsEntryOf x files) [] lines entries) decls_are told))

  -- ---- constants

  -- the heights that no type is too high by
  pub heights_are : (ds : Decls) → ds ≡ d.decls → AreHeights ds.structures ds.enumerations d.heights
  heights_are ds same =
      let m = is.low.measures in
      let are = is.low.are in
      subst (λ (x : Decls). AreHeights x.structures x.enumerations d.heights) (sym same)
      (subst (AreHeights d.decls.structures d.decls.enumerations) is.low.heights_are
      (subst (λ (ss : List Structure). AreHeights ss d.decls.enumerations m.heights) are.structures
      (subst (λ (es : List Enumeration). AreHeights m.structures.now es m.heights) are.enumerations are.heights)))

  module _ (t : Typing) (decls_are : t.decls.now ≡ d.decls) (types_are : t.types.now ≡ d.headers.known.types)
      (lines : List ImageConstant) (lines_are : lines ≡ image.constants) where
    pub constant_faults : (first : ℕ) → first ≡ constants_from image → (line : ℕ)
        → IsFaulty (λ _. IsWrongConstantBy t) first lines line → IsBadTable image line
    constant_faults first first_is line faulty = constants_bad image d is t decls_are types_are line
        (subst (λ (xs : List ImageConstant). IsFaulty (λ _. IsWrongConstantBy t) (constants_at image) xs line) lines_are
        (subst (λ (k : ℕ). IsFaulty (λ _. IsWrongConstantBy t) k lines line) first_is faulty))

    pub constants_told : (constants : List Constant) → AreTold (λ _. IsConstantBy t) [] lines constants
        → AreConstantsTold image d.decls constants
    constants_told constants told =
        let values =
        subst (λ (xs : List ImageConstant). AreTold (λ _. IsConstantBy t) [] xs constants) lines_are told in
        record {
          words = constants_are image d is t decls_are types_are constants values;
          sound = constants_fit image d is t decls_are types_are constants values;
        }

  -- ---- all of them

  module _ (tables : Tables) (decls : tables.decls ≡ d.decls)
      (cases : tables.cases ≡ places.case_places 0 d.decls.enumerations)
      (entries : tables.scopes ≡ map (λ (s : ImageScope). s.entry) image.scopes)
      (functions : tables.functions ≡ image.functions) where
    pub all_told : AreTold (λ _. IsEntryOf d.decls (length image.files)) [] image.targets tables.targets
        → AreTold (λ _. IsPosOf (length image.files)) [] image.definitions tables.definitions
        → AreTold (λ _. IsPosOf (length image.files)) [] image.positions tables.positions
        → AreConstantsTold image d.decls tables.constants → AreTablesTold image d tables
    all_told targets definitions positions constants = record {
      decls = decls;
      words = subst (AreTablesOf image) same
          (tables_are image d is tables.targets tables.definitions tables.positions tables.constants targets
          definitions positions constants.words);
      targets = targets;
      definitions = definitions;
      positions = positions;
      forms = targets_formed image d is tables.targets targets;
      constants = constants.sound;
    }
      where
        same : record tables {
          decls = d.decls;
          cases = places.case_places 0 d.decls.enumerations;
          scopes = map (λ (s : ImageScope). s.entry) image.scopes;
          functions = image.functions;
        } ≡ tables
        same =
            ap (λ (x : Decls). record tables {
              decls = x;
              cases = places.case_places 0 d.decls.enumerations;
              scopes = map (λ (s : ImageScope). s.entry) image.scopes;
              functions = image.functions;
            }) (sym decls)
            ∙ ap (λ (x : List CasePlace). record tables {
              cases = x;
              scopes = map (λ (s : ImageScope). s.entry) image.scopes;
              functions = image.functions;
            }) (sym cases)
            ∙ ap (λ (x : List ℕ). record tables { scopes = x; functions = image.functions }) (sym entries)
            ∙ ap (λ (x : List ℕ). record tables { functions = x }) (sym functions)
