-- Tables behind declarations: their words, and the lines of what is wrong.
use Rattle.std.proofs.Common.{◌≡◌, ℕ, IsTrue, List, [], ◌∷◌, ◌++◌, length, map, refl, sym, ap, ◌∙◌, subst}
use Rattle.std.specs.Prelude.{is_some}
use Rattle.std.specs.List.{list_all}
use Rattle.std.specs.Cmp.Derive.{both_true}
use Rattle.cat_pos.specs.declared.pos.Pos.{Pos}
use Rattle.cat_value.specs.declared.decls.Decls.{Decls}
use Rattle.cat_code.specs.declared.code.Constant.{Constant}
use Rattle.cat_code.specs.declared.code.TargetEntry.{TargetEntry}
use Rattle.cat_code.specs.Places as places
use Rattle.cat_code.specs.Places.{target_form}
use Rattle.cat_code.specs.Valid.{constant_is_sound}
use Rattle.cat_image.specs.declared.tables.ImagePos.{ImagePos}
use Rattle.cat_image.specs.declared.tables.ImageScope.{ImageScope}
use Rattle.cat_image.specs.declared.tables.ImageTarget.{ImageTarget}
use Rattle.cat_image.specs.declared.tables.ImageTables.{ImageTables}
use Rattle.cat_image.specs.Words.{Text}
use Rattle.cat_image.specs.Listed.{pos_words, scopes_words, target_words}
use Rattle.cat_verify_tables.specs.declared.constants.Typing.{Typing}
use Rattle.cat_verify_tables.specs.declared.scoping.Known.{Known}
use Rattle.cat_verify_tables.specs.declared.tables.Declared.{Declared}
use Rattle.cat_verify_tables.specs.declared.types.TypeNames.{TypeNames}
use Rattle.cat_verify_tables.specs.TableWords.{AreConstantsOf, AreTablesOf}
use Rattle.cat_verify_tables.specs.WrongTables.{IsBadTable}
use Rattle.cat_verify_tables.specs.inside.Causes.{IsFaulty}
use Rattle.cat_verify_tables.specs.inside.ConstantWords.{IsConstantBy, IsWrongConstantBy}
use Rattle.cat_verify_tables.specs.inside.DeclarationWords.{AreDeclared}
use Rattle.cat_verify_tables.specs.inside.DeclaredWords.{structures_named, enumerations_named}
use Rattle.cat_verify_tables.specs.inside.Entries.{AreTold}
use Rattle.cat_verify_tables.specs.inside.FoundPlaces.{IsPosOf}
use Rattle.cat_verify_tables.specs.inside.PartWords.{IsStructureOf, IsEnumerationOf}
use Rattle.cat_verify_tables.specs.inside.TargetNaming.{IsEntryOf, IsWrongEntry}
use Rattle.cat_verify_tables.proofs.ConstantFaults.{constants_sound, constants_told, constants_wrong}
use Rattle.cat_verify_tables.proofs.HeaderLemmas.{knows, numbers_are}
use Rattle.cat_verify_tables.proofs.KnownLemmas.{Knows}
use Rattle.cat_verify_tables.proofs.NumberLemmas.{AreNumbered}
use Rattle.cat_verify_tables.proofs.TailFaults.{constant_bad, constants_at, entry_bad, target_bad, targets_at}
use Rattle.cat_verify_tables.proofs.TargetLemmas.{names_found}
use Rattle.cat_verify_tables.proofs.TargetTold.{target_is}
use Rattle.cat_verify_tables.proofs.WholeItems.{scopes_whole}
use Rattle.cat_verify_tables.proofs.WordedLemmas.{enumerations_worded, structures_worded, told_map}
use Rattle.cat_verify_tables.proofs.WordedScopes.{one_entry_each, scopes_worded}

module _ (image : ImageTables) (d : Declared) (is : AreDeclared image d) where
  abbrev known : Known
  known = d.headers.known

  numbered : AreNumbered known.types (structures_named image) (enumerations_named image)
  numbered = numbers_are image d.headers is.headers

  -- ---- wrong lines

  pub targets_bad : (line : ℕ)
      → IsFaulty (λ _. IsWrongEntry d.decls (length image.files)) (targets_at image) image.targets line
      → IsBadTable image line
  targets_bad line faulty = target_bad image line (entry_bad image d.decls
      (names_found image known d.decls is.headers.scopes is.parts.scopes is.headers.scope_numbers) (targets_at image)
      line faulty)

  module _ (t : Typing) (decls : t.decls.now ≡ d.decls) (types : t.types.now ≡ known.types) where
    own_numbered : AreNumbered t.types.now (structures_named image) (enumerations_named image)
    own_numbered = subst (λ (ts : TypeNames). AreNumbered ts (structures_named image) (enumerations_named image))
        (sym types) numbered

    own_knows : Knows image t.types.now
    own_knows = subst (Knows image) (sym types) (knows image d.headers is.headers)

    own_structures : AreTold (λ _. IsStructureOf t.types.now) [] image.structures t.decls.now.structures
    own_structures =
        subst (λ (ts : TypeNames). AreTold (λ _. IsStructureOf ts) [] image.structures t.decls.now.structures)
        (sym types)
        (subst (λ (ds : Decls). AreTold (λ _. IsStructureOf known.types) [] image.structures ds.structures) (sym decls)
        is.parts.structures)

    own_enumerations : AreTold (λ _. IsEnumerationOf t.types.now) [] image.enumerations t.decls.now.enumerations
    own_enumerations =
        subst (λ (ts : TypeNames). AreTold (λ _. IsEnumerationOf ts) [] image.enumerations t.decls.now.enumerations)
        (sym types)
        (subst (λ (ds : Decls). AreTold (λ _. IsEnumerationOf known.types) [] image.enumerations ds.enumerations)
        (sym decls) is.parts.enumerations)

    abbrev entries : List ℕ
    entries = map (λ (s : ImageScope). s.entry) image.scopes

    own_scopes : image.scopes ≡ scopes_words t.decls.now t.decls.now.scopes entries
    own_scopes = subst (λ (ds : Decls). image.scopes ≡ scopes_words ds ds.scopes entries) (sym decls)
        (scopes_worded image known d.decls numbered is.parts.structures is.parts.enumerations
        is.headers.scope_numbers is.parts.scopes)

    own_entries : length entries ≡ length t.decls.now.scopes
    own_entries = subst (λ (ds : Decls). length entries ≡ length ds.scopes) (sym decls)
        (one_entry_each image known d.decls numbered is.parts.structures is.parts.enumerations
        is.headers.scope_numbers is.parts.scopes)

    pub constants_bad : (line : ℕ)
        → IsFaulty (λ _. IsWrongConstantBy t) (constants_at image) image.constants line → IsBadTable image line
    constants_bad line faulty = constant_bad image line (constants_wrong image t own_numbered own_structures
        own_enumerations own_knows entries own_scopes own_entries (constants_at image) line faulty)

    pub constants_are : (cs : List Constant) → AreTold (λ _. IsConstantBy t) [] image.constants cs
        → AreConstantsOf d.decls image.constants cs
    constants_are cs told = subst (λ (ds : Decls). AreConstantsOf ds image.constants cs) decls
        (constants_told image t own_numbered own_structures own_enumerations own_knows [] image.constants cs told)

    pub constants_fit : (cs : List Constant) → AreTold (λ _. IsConstantBy t) [] image.constants cs
        → IsTrue (list_all (constant_is_sound d.decls) cs)
    constants_fit cs told = subst (λ (ds : Decls). IsTrue (list_all (constant_is_sound ds) cs)) decls
        (constants_sound image t own_numbered own_structures own_enumerations own_knows [] image.constants cs told)

  -- ---- words

  positions_worded : (lines : List ImagePos) (ps : List Pos) → AreTold (λ _. IsPosOf (length image.files)) [] lines ps
      → lines ≡ map pos_words ps
  positions_worded lines ps =
      told_map (λ _. IsPosOf (length image.files)) pos_words (λ front l p told. sym told.words) [] lines ps

  entry_worded : (front : List ImageTarget) (l : ImageTarget) (entry : TargetEntry)
      → IsEntryOf d.decls (length image.files) l entry → l ≡ target_words d.decls entry
  entry_worded front l entry told =
      let it = target_is image known d.decls is.parts.scopes is.headers.scope_numbers l.place entry.target told.target
      in
      ap (λ (place : Text). record l { place = place }) (sym it.text)
      ∙ ap (λ (pos : ImagePos). record (target_words d.decls entry) { pos = pos }) (sym told.pos)

  forms : (front lines : List ImageTarget) (entries : List TargetEntry)
      → AreTold (λ _. IsEntryOf d.decls (length image.files)) front lines entries
      → IsTrue (list_all (λ entry. is_some (target_form d.decls entry.target)) entries)
  forms front [] [] told = refl
  forms front [] (e ∷ entries) told = absurd told
  forms front (l ∷ lines) [] told = absurd told
  forms front (l ∷ lines) (e ∷ entries) told = both_true
      (target_is image known d.decls is.parts.scopes is.headers.scope_numbers l.place e.target told.0.target).form
      (forms (front ++ l ∷ []) lines entries told.1)

  pub targets_formed : (entries : List TargetEntry)
      → AreTold (λ _. IsEntryOf d.decls (length image.files)) [] image.targets entries
      → IsTrue (list_all (λ entry. is_some (target_form d.decls entry.target)) entries)
  targets_formed entries told = forms [] image.targets entries told

  -- the tables of these declarations
  pub tables_are : (targets : List TargetEntry) (definitions positions : List Pos) (constants : List Constant)
      → AreTold (λ _. IsEntryOf d.decls (length image.files)) [] image.targets targets
      → AreTold (λ _. IsPosOf (length image.files)) [] image.definitions definitions
      → AreTold (λ _. IsPosOf (length image.files)) [] image.positions positions
      → AreConstantsOf d.decls image.constants constants → AreTablesOf image (record {
        decls = d.decls;
        cases = places.case_places 0 d.decls.enumerations;
        scopes = map (λ (s : ImageScope). s.entry) image.scopes;
        targets = targets;
        definitions = definitions;
        functions = image.functions;
        positions = positions;
        constants = constants;
      })
  tables_are targets definitions positions constants entries one other values = record {
    structures = structures_worded image known.types d.decls numbered is.parts.structures is.parts.enumerations;
    enumerations = enumerations_worded image known.types d.decls numbered is.parts.structures is.parts.enumerations;
    scopes = scopes_worded image known d.decls numbered is.parts.structures is.parts.enumerations
        is.headers.scope_numbers is.parts.scopes;
    one_entry_each = one_entry_each image known d.decls numbered is.parts.structures is.parts.enumerations
        is.headers.scope_numbers is.parts.scopes;
    items = scopes_whole known [] image.scopes d.decls.scopes is.parts.scopes;
    cases = refl;
    targets = told_map (λ _. IsEntryOf d.decls (length image.files)) (target_words d.decls) entry_worded []
        image.targets targets entries;
    definitions = positions_worded image.definitions definitions one;
    functions = refl;
    positions = positions_worded image.positions positions other;
    constants = values;
  }
