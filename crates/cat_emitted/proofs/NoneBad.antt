-- No line of the tables of code with spelled declarations is bad.
use Rattle.std.proofs.Common.{◌≡◌, ℕ, IsTrue, List, ◌∷◌, ◌++◌, map, length, refl, subst, inl}
use Rattle.std.specs.List.{list_all}
use Rattle.cat_pos.specs.declared.pos.Pos.{Pos}
use Rattle.cat_scope.specs.Names.{AllHave, IsOneOf}
use Rattle.cat_code.specs.declared.code.Constant.{Constant}
use Rattle.cat_code.specs.declared.code.Tables.{Tables}
use Rattle.cat_code.specs.declared.code.TargetEntry.{TargetEntry}
use Rattle.cat_code.specs.Places.{function_places}
use Rattle.cat_code.specs.Valid.{constant_is_sound}
use Rattle.cat_image.specs.declared.tables.ImagePos.{ImagePos}
use Rattle.cat_image.specs.declared.tables.ImageTarget.{ImageTarget}
use Rattle.cat_image.specs.declared.tables.ImageConstant.{ImageConstant}
use Rattle.cat_image.specs.declared.tables.ImageTables.{ImageTables}
use Rattle.cat_image.specs.Words.{Text}
use Rattle.cat_image.specs.Listed.{words_of, pos_words, target_words, constant_words}
use Rattle.cat_verify_tables.specs.WrongParts.{IsLost, IsWrongTarget}
use Rattle.cat_verify_tables.specs.WrongTables.{IsBadTable, IsWrongConstant}
use Rattle.cat_verify_tables.proofs.Exported.{none_is_bad, tests_have}
use Rattle.cat_emitted.specs.Spelled.{AreSpelledDecls, AreApart}
use Rattle.cat_lower.specs.Files.{IsVariableTarget}
use Rattle.cat_emitted.specs.Emitted.{IsOfFiles, AreOfFiles}
use Rattle.cat_emitted.proofs.Readings.{IsReadBack, AreReadAlike}
use Rattle.cat_emitted.proofs.ListFacts.{all_of_one, apart_across, one_unmapped}
use Rattle.cat_emitted.proofs.PartFacts.{structures_are_right, enumerations_are_right}
use Rattle.cat_emitted.proofs.ScopeFacts.{scopes_are_right}
use Rattle.cat_emitted.proofs.TargetFacts.{target_right}
use Rattle.cat_emitted.proofs.ConstantFacts.{constant_right}
use Rattle.cat_emitted.proofs.PlaceFacts.{not_lost}

module _ (code : Tables) (files : List Text) (spelled : AreSpelledDecls code.decls)
    (one_entry_each : length code.scopes ≡ length code.decls.scopes) (placed : AreOfFiles files code)
    (functions : length code.functions ≡ length (function_places code.decls))
    (targets : AllHave (λ (t : TargetEntry). IsVariableTarget code.decls t.target) code.targets)
    (constants : IsTrue (list_all (constant_is_sound code.decls) code.constants))
    (back : AllHave (IsReadBack code.decls) code.constants) (alike : AreReadAlike (words_of code files) code.decls)
    (files_apart : AreApart files) where
  abbrev image : ImageTables
  image = words_of code files

  files_right : (before : List Text) (name : Text) (after : List Text) → files ≡ before ++ name ∷ after
      → IsOneOf name before → ⊥
  files_right before name after are one =
      apart_across before (name ∷ after) name (subst AreApart are files_apart) one (inl refl)

  targets_right : (t : ImageTarget) → IsOneOf t image.targets → IsWrongTarget image t → ⊥
  targets_right t one wrong =
      let own = one_unmapped (target_words code.decls) t code.targets one in
      target_right code files one_entry_each own.0
      (all_of_one (λ (e : TargetEntry). IsOfFiles files e.pos) code.targets own.0 placed.targets own.1)
      (all_of_one (λ (e : TargetEntry). IsVariableTarget code.decls e.target) code.targets own.0 targets own.1)
      (subst (IsWrongTarget image) own.2 wrong)

  positions_right : (ps : List Pos) → AllHave (IsOfFiles files) ps → (p : ImagePos) → IsOneOf p (map pos_words ps)
      → IsLost image p → ⊥
  positions_right ps all p one lost =
      let own = one_unmapped pos_words p ps one in
      not_lost code files own.0 (all_of_one (IsOfFiles files) ps own.0 all own.1) (subst (IsLost image) own.2 lost)

  constants_right : (c : ImageConstant) → IsOneOf c image.constants → IsWrongConstant image c → ⊥
  constants_right c one wrong =
      let own = one_unmapped (constant_words code.decls) c code.constants one in
      constant_right code files spelled alike own.0
      (all_of_one (λ (x : Constant). IsTrue (constant_is_sound code.decls x)) code.constants own.0
      (tests_have (constant_is_sound code.decls) code.constants constants) own.1)
      (all_of_one (IsReadBack code.decls) code.constants own.0 back own.1) (subst (IsWrongConstant image) own.2 wrong)

  pub none_bad : (n : ℕ) → IsBadTable image n → ⊥
  none_bad = none_is_bad image (record {
    files = files_right;
    structures = structures_are_right code files spelled;
    enumerations = enumerations_are_right code files spelled;
    scopes = scopes_are_right code files spelled one_entry_each placed functions;
    lines = record {
      targets = targets_right;
      definitions = positions_right code.definitions placed.definitions;
      positions = positions_right code.positions placed.positions;
      constants = constants_right;
    };
  })
