-- The code that a gathered source is built into is well listed under the names of its files.
use Rattle.std.proofs.Common.{◌≡◌, ◌<◌, ◌∙◌, ℕ, nat_lt, IsTrue, List, [], ◌∷◌, ◌++◌, length, sym, ap, subst, arith}
use Rattle.std.proofs.lemmas.Bool.Decides.{nat_tests}
use Rattle.cat_value.specs.declared.decls.Decls.{Decls}
use Rattle.cat_weave.specs.declared.source.Source.{Source}
use Rattle.cat_weave.specs.Gathered.{Contents, Whole, gathered}
use Rattle.cat_scope.specs.Names.{AllHave}
use Rattle.cat_code.specs.declared.code.TargetEntry.{TargetEntry}
use Rattle.cat_code.specs.Valid.{entries_of}
use Rattle.cat_lower.specs.Files.{IsVariableTarget, TargetFits, ScopeFits, TablesFit}
use Rattle.cat_lower.proofs.Exported.{tables_fit}
use Rattle.cat_build.specs.declared.Built.{Built}
use Rattle.cat_build.specs.Built.{IsBuiltOf}
use Rattle.cat_image.specs.Listed.{is_line}
use Rattle.cat_verify_tables.proofs.Exported.{tests_have, each_has}
use Rattle.cat_emitted.specs.Spelled.{AreSpelledDecls}
use Rattle.cat_emitted.specs.Emitted.{AllAt, IsSmallCode, IsWellListed}
use Rattle.cat_emitted.proofs.DeclaredNames.{declared_spelled}
use Rattle.cat_emitted.proofs.FileNames.{files_lines}
use Rattle.cat_emitted.proofs.FittedTables.{IsThere, tables_of_files}
use Rattle.cat_emitted.proofs.ProgramPositions.{source_fits}
use Rattle.cat_emitted.proofs.WellListed.{AreValidTables, well_listed, valid_tables}

-- where a scope is entered, there are instructions
entered : (n : ℕ) (scopes functions : List ℕ) → 0 < length scopes
    → AllHave (λ p. IsTrue (nat_lt p n)) (scopes ++ functions) → 0 < n
entered n [] functions some all = omega (arith, some)
entered n (p ∷ ps) functions some all =
    let below : p < n = let h = all.0 in grind (arith, nat_tests, h) in omega (arith, below)

module _ (contents : Contents) (main : List ℕ) (source : Source) (built : Built)
    (is : gathered contents main ≡ Whole source) (whole : IsBuiltOf source.pieces built) where
  abbrev IsIn : ℕ → Type 0
  IsIn f = f < length source.files

  fitted : TablesFit IsIn built.code.tables
  fitted =
      let program = whole.accepted.program_is in
      let low = whole.lowered in
      let fits =
      source_fits contents main source program.spelled.tokens program.tree built.program.decls built.program.bodies is
      program.spelled.lexed program.spelled.spelled.spells program.meant.meant in
      tables_fit IsIn low.calc built.program.bodies built.code.tables built.code.instructions low.code_is low.made
      fits.bodies (subst (λ (ds : Decls). AllHave (ScopeFits IsIn) ds.scopes) (sym low.decls) fits.items)

  -- each position of the code is in one of the source's files
  pub there : AllAt (IsThere source.files) built.code.tables
  there = let tables = built.code.tables in record {
    items = fitted.items;
    targets = each_has (TargetFits IsIn tables.decls) (λ (t : TargetEntry). IsThere source.files t.pos)
        (λ t fits. fits.place) tables.targets fitted.targets;
    definitions = fitted.definitions;
    positions = fitted.positions;
  }

  spelled_decls : AreSpelledDecls built.code.tables.decls
  spelled_decls =
      let program = whole.accepted.program_is in
      subst AreSpelledDecls (sym (whole.lowered.code_is.decls ∙ whole.lowered.decls))
      (declared_spelled source.pieces program.spelled.tokens program.tree built.program.decls program.spelled.lexed
      program.spelled.spelled.spells program.meant.meant.named)

  valid : AreValidTables built.code.tables built.code.instructions
  valid = valid_tables built.code.tables built.code.instructions built.code.valid

  some_instruction : 0 < length built.program.decls.scopes → 0 < length built.code.instructions
  some_instruction some =
      let tables = built.code.tables in
      let count = length built.code.instructions in
      let entries = valid.one_entry_each in
      let same = ap (λ (ds : Decls). length ds.scopes) (whole.lowered.code_is.decls ∙ whole.lowered.decls) in
      entered count tables.scopes tables.functions (omega (arith, some, entries, same))
      (tests_have (λ place. nat_lt place count) (entries_of tables) valid.entries)

  pub built_listed : IsTrue (is_line main) → 0 < length built.program.decls.scopes → IsSmallCode built.code
      → IsWellListed source.files built.code.tables built.code.instructions
  built_listed line some small =
      let tables = built.code.tables in
      well_listed source.files tables built.code.instructions valid
      (record {
        decls = spelled_decls;
        named = files_lines contents main source line is;
        placed = tables_of_files source.files tables there small.positions;
        targets = each_has (TargetFits IsIn tables.decls) (λ (t : TargetEntry). IsVariableTarget tables.decls t.target)
            (λ t fits. fits.variable) tables.targets fitted.targets;
      }) (record { some = some_instruction some; few = small.few; numbers = small.numbers })
