-- What was made of a tree.
use Rattle.std.specs.Prelude.{◌≡◌}
use Rattle.cat_tree.specs.declared.program.Tree.{Tree}
use Rattle.cat_names.specs.Declarations.{Declared}
use Rattle.cat_declare.specs.declared.build.Parts.{Parts}
use Rattle.cat_declare.specs.inside.Made.{made, cut}

-- the parts, as declarations
abbrev pub declared_by : Parts → Declared
declared_by parts =
    record { structures = parts.structures; enumerations = parts.enumerations; scopes = parts.scopes }

-- they are what a tree declares, where each of its names names something, and with no list too deep
abbrev pub IsMadeOf : Tree → Parts → Type 0
IsMadeOf tree parts = declared_by parts ≡ made cut tree.items
