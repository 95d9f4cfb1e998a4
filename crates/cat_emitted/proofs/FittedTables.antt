-- Positions of code are of its files where these have them, and where 32 bits hold their numbers.
use Rattle.std.specs.Prelude.{◌<◌, List, length}
use Rattle.cat_pos.specs.Position.{pos_file}
use Rattle.cat_pos.specs.declared.pos.Pos.{Pos}
use Rattle.cat_value.specs.declared.declaration.ItemDecl.{ItemDecl}
use Rattle.cat_value.specs.declared.declaration.Scope.{Scope}
use Rattle.cat_scope.specs.Names.{AllHave}
use Rattle.cat_code.specs.declared.code.Tables.{Tables}
use Rattle.cat_code.specs.declared.code.TargetEntry.{TargetEntry}
use Rattle.cat_image.specs.Words.{Text}
use Rattle.cat_verify_tables.proofs.Exported.{both_have}
use Rattle.cat_emitted.specs.Emitted.{IsOfFiles, IsSmallPos, AllAt, AreOfFiles}

abbrev pub IsThere : List Text → Pos → Type 0
IsThere files p = pos_file p < length files

of_them : (files : List Text) (p : Pos) → IsThere files p → IsSmallPos p → IsOfFiles files p
of_them files p there small = record { there = there; line = small.line; place = small.place }

pub tables_of_files : (files : List Text) (tables : Tables) → AllAt (IsThere files) tables → AllAt IsSmallPos tables
    → AreOfFiles files tables
tables_of_files files tables there small = record {
  items = both_have (λ (s : Scope). AllHave (λ i. IsThere files i.pos) s.items)
      (λ (s : Scope). AllHave (λ i. IsSmallPos i.pos) s.items)
      (λ (s : Scope). AllHave (λ i. IsOfFiles files i.pos) s.items)
      (λ s h k. both_have (λ (i : ItemDecl). IsThere files i.pos) (λ (i : ItemDecl). IsSmallPos i.pos)
      (λ (i : ItemDecl). IsOfFiles files i.pos) (λ i. of_them files i.pos) s.items h k) tables.decls.scopes
      there.items small.items;
  targets = both_have (λ (t : TargetEntry). IsThere files t.pos) (λ (t : TargetEntry). IsSmallPos t.pos)
      (λ (t : TargetEntry). IsOfFiles files t.pos) (λ t. of_them files t.pos) tables.targets there.targets
      small.targets;
  definitions = both_have (IsThere files) IsSmallPos (IsOfFiles files) (of_them files) tables.definitions
      there.definitions small.definitions;
  positions = both_have (IsThere files) IsSmallPos (IsOfFiles files) (of_them files) tables.positions
      there.positions small.positions;
}
