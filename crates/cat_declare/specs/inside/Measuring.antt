-- The heights of what was made of a tree.
use Rattle.cat_value.specs.Table.{AreHeights}
use Rattle.cat_names.specs.Declarations.{Declared}
use Rattle.cat_names.specs.Lookup.{TypeNames}
use Rattle.cat_declare.specs.declared.heights.Measures.{Measures}
use Rattle.cat_declare.specs.inside.Parted.{declared_by}
use Rattle.cat_declare.specs.inside.Tabling.{AreTables, types_at}

-- what is measured
abbrev pub measured : Measures → Declared
measured m = declared_by m.parts.now

-- the names of its types
abbrev pub types_measured : Measures → TypeNames
types_measured m = types_at m.tables.now

-- the tables are those of a tree, and the heights those of what is measured
pub record AreMeasures (m : Measures) : Type 0 where
  pub tables : AreTables m.tables.now
  pub heights : AreHeights m.parts.now.structures m.parts.now.enumerations m.heights
