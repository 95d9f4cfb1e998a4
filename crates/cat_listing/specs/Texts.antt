-- Texts of positions and types, and lines in a row.
use Rattle.std.specs.Prelude.{ℕ, List, [], ◌∷◌, ◌++◌, Option, Some, None, slice_get, codes, decimal}
use Rattle.cat_pos.specs.declared.pos.Pos.{Pos}
use Rattle.cat_pos.specs.Position.{pos_file, pos_column}
use Rattle.cat_value.specs.declared.ty.Ty.{Ty}
use Rattle.cat_value.specs.declared.ty.Ty.TheOpen.{Ty-F}
use Rattle.cat_value.specs.declared.ty.Ty.TheFolds.{fold-Ty}
use Rattle.cat_value.specs.declared.declaration.Structure.{Structure}
use Rattle.cat_value.specs.declared.declaration.Enumeration.{Enumeration}
use Rattle.cat_value.specs.declared.decls.Decls.{Decls}

-- a text of lines
abbrev pub Text : Type 0
Text = List ℕ

-- what stands for each element of a list, one behind the other
abbrev pub lines_of : {A : Type 0} → (A → Text) → List A → Text
lines_of lines [] = []
lines_of lines (x ∷ xs) = lines x ++ lines_of lines xs

-- a position by the number of its file
abbrev pub place_text : Pos → Text
place_text p = decimal (pos_file p) ++ (codes ":" ++ (decimal p.line ++ (codes ":" ++ decimal (pos_column p))))

-- the name of what a number names
abbrev pub name_at : {A : Type 0} → (A → Text) → Option A → Text
name_at name None = []
name_at name (Some x) = name x

-- a type, where that of its elements is written
abbrev pub type_by : Decls → Ty-F Text → Text
type_by ds Ty-F.Boolean = codes "boolean"
type_by ds Ty-F.Integer = codes "integer"
type_by ds Ty-F.Decimal = codes "decimal"
type_by ds Ty-F.Money = codes "money"
type_by ds Ty-F.Date = codes "date"
type_by ds Ty-F.Duration = codes "duration"
type_by ds (Ty-F.List element) = codes "list of " ++ element
type_by ds (Ty-F.Structure n) = name_at (λ (s : Structure). s.name) (slice_get ds.structures n)
type_by ds (Ty-F.Enumeration n) = name_at (λ (e : Enumeration). e.name) (slice_get ds.enumerations n)

-- a type as sources write it
unfoldable pub type_text : Decls → Ty → Text
type_text ds = fold-Ty Text (type_by ds)
