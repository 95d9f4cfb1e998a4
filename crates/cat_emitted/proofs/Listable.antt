-- The words of code with spelled declarations may stand in lines.
use Rattle.std.proofs.Common.{◌≡◌, ◌≤◌, ◌<◌, ◌^◌, ℕ, IsTrue, List, [], ◌∷◌, map, length}
use Rattle.std.proofs.Common.{refl, arith, nat_lt}
use Rattle.std.specs.Prelude.{codes, flat_map}
use Rattle.std.specs.List.{AllByRecursion, list_all}
use Rattle.std.proofs.lemmas.Bool.Decides.{nat_tests}
use Rattle.cat_scope.specs.Names.{AllHave}
use Rattle.cat_scope.proofs.Exported.{all_append}
use Rattle.cat_code.specs.declared.instr.Instr.{Instr}
use Rattle.cat_code.specs.declared.code.Constant.{Constant}
use Rattle.cat_code.specs.declared.code.Tables.{Tables}
use Rattle.cat_code.specs.declared.code.TargetEntry.{TargetEntry}
use Rattle.cat_code.specs.Valid.{constant_is_sound, entries_of}
use Rattle.cat_answer.specs.Answer.{target_text}
use Rattle.cat_answer.specs.Writes.{value_bytes}
use Rattle.cat_listing.specs.Texts.{type_text}
use Rattle.cat_image.specs.declared.row.Row.{Row}
use Rattle.cat_image.specs.declared.row.Row.TheVariants as row
use Rattle.cat_image.specs.declared.tables.ImageTables.{ImageTables}
use Rattle.cat_image.specs.Words.{Text, IsSmall, pos_text}
use Rattle.cat_image.specs.InstructionWords.{IsSmallInstr}
use Rattle.cat_image.specs.Rows.{row_text, IsRow, structure_rows, enumeration_rows, scope_rows}
use Rattle.cat_image.specs.Rows.{instruction_rows, rows_of}
use Rattle.cat_image.specs.Listed.{words_of, is_line, IsListable, target_words, constant_words, pos_words}
use Rattle.cat_verify_tables.proofs.Exported.{tests_have, map_have, each_has}
use Rattle.cat_emitted.specs.Spelled.{AreSpelledDecls}
use Rattle.cat_lower.specs.Files.{IsVariableTarget}
use Rattle.cat_emitted.specs.Emitted.{IsOfFiles, AreOfFiles}
use Rattle.cat_emitted.proofs.Readings.{IsReadBack}
use Rattle.cat_emitted.proofs.ListFacts.{all_at, all_left, all_right}
use Rattle.cat_emitted.proofs.WordFacts.{line_append}
use Rattle.cat_emitted.proofs.LineFacts.{plain_line, blank_line, pos_line}
use Rattle.cat_emitted.proofs.ValueLines.{value_line}
use Rattle.cat_emitted.proofs.PlaceFacts.{small_pos}
use Rattle.cat_emitted.proofs.TargetLines.{target_line, target_name}
use Rattle.cat_emitted.proofs.ConstantFacts.{constant_declared}
use Rattle.cat_emitted.proofs.WhatFacts as what
use Rattle.cat_emitted.proofs.ItemFacts as items
use Rattle.cat_emitted.proofs.ListedRows as rows
use Rattle.cat_emitted.proofs.ListedRows.{MayStand}

-- ---- lists

rows_right : (rs : List Row) → AllHave MayStand rs → AllByRecursion IsRow rs
rows_right [] all = tt
rows_right (r ∷ rs) all = (all.0.row, rows_right rs all.1)

rows_lined : (rs : List Row) → AllHave MayStand rs → AllByRecursion (λ line. IsTrue (is_line line)) (map row_text rs)
rows_lined [] all = tt
rows_lined (r ∷ rs) all = (all.0.line, rows_lined rs all.1)

-- places below a small number are small
small_places : (bound : ℕ) → bound ≤ 2 ^ 32 → (places : List ℕ) → AllHave (λ p. IsTrue (nat_lt p bound)) places
    → AllHave IsSmall places
small_places bound small [] all = tt
small_places bound small (p ∷ ps) all =
    let below : p < bound = let h = all.0 in grind (arith, nat_tests, h) in
    (omega (arith, below, small), small_places bound small ps all.1)

module _ (code : Tables) (instructions : List Instr) (files : List Text) (spelled : AreSpelledDecls code.decls)
    (one_entry_each : length code.scopes ≡ length code.decls.scopes) (placed : AreOfFiles files code)
    (targets : AllHave (λ (t : TargetEntry). IsVariableTarget code.decls t.target) code.targets)
    (constants : IsTrue (list_all (constant_is_sound code.decls) code.constants))
    (back : AllHave (IsReadBack code.decls) code.constants)
    (files_lined : AllHave (λ name. IsTrue (is_line name)) files)
    (entries : IsTrue (list_all (λ place. nat_lt place (length instructions)) (entries_of code)))
    (some : 0 < length instructions) (few : length instructions ≤ 2 ^ 32)
    (small : AllByRecursion IsSmallInstr instructions) where
  abbrev image : ImageTables
  image = words_of code files

  entries_small : AllHave IsSmall (entries_of code)
  entries_small = small_places (length instructions) few (entries_of code)
      (tests_have (λ place. nat_lt place (length instructions)) (entries_of code) entries)

  target_stands : (t : TargetEntry) → IsOfFiles files t.pos → IsVariableTarget code.decls t.target
      → MayStand (row.Target (target_words code.decls t))
  target_stands t there v =
      let small_place = small_pos files t.pos there in
      let line = (target_line code files spelled one_entry_each t.target v).line in
      record {
        row = (target_name code files spelled one_entry_each t.target v, small_place);
        line = line_append (codes "target ") _ (plain_line (codes "target ") refl)
            (line_append (target_text code.decls t.target) _ line
            (blank_line (pos_text (pos_words t.pos)) (pos_line (pos_words t.pos) small_place)));
      }

  targets_stand : AllHave MayStand (map row.Target image.targets)
  targets_stand = map_have MayStand row.Target image.targets
      (map_have (λ t. MayStand (row.Target t)) (target_words code.decls) code.targets
      (items.all_from (λ t. MayStand (row.Target (target_words code.decls t))) code.targets (λ k t own.
      target_stands t (all_at (λ (e : TargetEntry). IsOfFiles files e.pos) code.targets k t placed.targets own)
      (all_at (λ (e : TargetEntry). IsVariableTarget code.decls e.target) code.targets k t targets own))))

  constant_stands : (c : Constant) → IsTrue (constant_is_sound code.decls c) → IsReadBack code.decls c
      → MayStand (row.Constant (constant_words code.decls c))
  constant_stands c sound read =
      let declared = constant_declared code.decls c sound in
      record {
        row = what.constant_is code.decls spelled c.ty (value_bytes code.decls c.ty c.value) declared;
        line = line_append (codes "const ") _ (plain_line (codes "const ") refl)
            (line_append (type_text code.decls c.ty) _ (what.type_lined code.decls spelled c.ty declared)
            (blank_line (value_bytes code.decls c.ty c.value) (value_line code.decls c read)));
      }

  constants_stand : AllHave MayStand (map row.Constant image.constants)
  constants_stand = map_have MayStand row.Constant image.constants
      (map_have (λ c. MayStand (row.Constant c)) (constant_words code.decls) code.constants
      (items.all_from (λ c. MayStand (row.Constant (constant_words code.decls c))) code.constants (λ k c own.
      constant_stands c
      (all_at (λ (x : Constant). IsTrue (constant_is_sound code.decls x)) code.constants k c
      (tests_have (constant_is_sound code.decls) code.constants constants) own)
      (all_at (IsReadBack code.decls) code.constants k c back own))))

  all_stand : AllHave MayStand (rows_of image instructions)
  all_stand =
      let fs = map row.File files in
      let ss = flat_map structure_rows image.structures in
      let es = flat_map enumeration_rows image.enumerations in
      let cs = flat_map scope_rows image.scopes in
      let ts = map row.Target image.targets in
      let ds = map row.Definition image.definitions in
      let ns = map row.Function image.functions in
      let ps = map row.Position image.positions in
      let ks = map row.Constant image.constants in
      let is = instruction_rows 0 instructions in
      all_append MayStand fs _ (map_have MayStand row.File files
      (each_has (λ name. IsTrue (is_line name)) (λ name. MayStand (row.File name)) rows.file_stands files files_lined))
      (all_append MayStand ss _ (rows.structures_stand code files spelled one_entry_each placed)
      (all_append MayStand es _ (rows.enumerations_stand code files spelled one_entry_each placed)
      (all_append MayStand cs _ (rows.scopes_stand code files spelled one_entry_each placed
      (all_left IsSmall code.scopes code.functions entries_small))
      (all_append MayStand ts _ targets_stand
      (all_append MayStand ds _ (rows.definitions_stand code files spelled one_entry_each placed)
      (all_append MayStand ns _ (map_have MayStand row.Function code.functions
      (each_has IsSmall (λ n. MayStand (row.Function n)) rows.function_stands code.functions
      (all_right IsSmall code.scopes code.functions entries_small)))
      (all_append MayStand ps _ (rows.positions_stand code files spelled one_entry_each placed)
      (all_append MayStand ks _ constants_stand
      (all_append MayStand is [] (rows.instructions_stand 0 instructions (omega (arith, few)) small) tt)))))))))

  pub listable : IsListable image instructions
  listable = record {
    rows = rows_right (rows_of image instructions) all_stand;
    some = some;
    lines = (plain_line (codes "catala-code 1") refl, rows_lined (rows_of image instructions) all_stand);
  }
