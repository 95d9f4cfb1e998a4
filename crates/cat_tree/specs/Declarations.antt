-- The words of fields, cases and variables.
use Rattle.std.specs.Prelude.{List, [], ◌∷◌, Option, Some, None}
use Rattle.cat_pos.specs.declared.pos.Pos.{Pos}
use Rattle.cat_lex.specs.declared.words.Keyword.TheVariants as key
use Rattle.cat_lex.specs.declared.words.DoubleKeyword.TheVariants as pair
use Rattle.cat_lex.specs.declared.symbol.Symbol.TheVariants as symbol
use Rattle.cat_tree.specs.declared.name.Type as types
use Rattle.cat_tree.specs.declared.program.FieldItem.{FieldItem}
use Rattle.cat_tree.specs.declared.program.CaseItem.{CaseItem}
use Rattle.cat_tree.specs.declared.program.VariableKind.{VariableKind}
use Rattle.cat_tree.specs.declared.program.VariableKind.TheVariants.{Input, InputOutput, Output, Internal, Context}
use Rattle.cat_tree.specs.declared.program.VariableKind.TheVariants.{ContextOutput}
use Rattle.cat_tree.specs.declared.program.Variable.{Variable}
use Rattle.cat_tree.specs.declared.program.Variable.TheVariants as variable
use Rattle.cat_tree.specs.Phrase.{Parts, End}
use Rattle.cat_tree.specs.Wording.{◌▹◌, key_at, «word», words, sign, lower, upper}
use Rattle.cat_tree.specs.Literals.{type_parts}
use Rattle.cat_tree.specs.Joined.{◌▸◌, with_commas}

-- a name with its type: w content T
abbrev pub typed_parts : FieldItem → Parts
typed_parts f = lower f.name ▹ «word» key.Content ▹ type_parts f.ty End

-- a field: data w content T
abbrev pub field_parts : FieldItem → Parts
field_parts f = «word» key.Data ▹ typed_parts f

-- the type of a case's content, where it has one
abbrev pub content_parts : Option types.Type → Parts
content_parts None = End
content_parts (Some t) = «word» key.Content ▹ type_parts t End

-- a case: -- U [content T]
abbrev pub case_parts : CaseItem → Parts
case_parts c = sign symbol.MinusMinus ▹ upper c.name ▹ content_parts c.content

-- the words of a kind
abbrev pub kind_parts : VariableKind → Pos → Parts
kind_parts Input p = key_at key.Input p ▹ End
kind_parts InputOutput p = key_at key.Input p ▹ «word» key.Output ▹ End
kind_parts Output p = key_at key.Output p ▹ End
kind_parts Internal p = key_at key.Internal p ▹ End
kind_parts Context p = key_at key.Context p ▹ End
kind_parts ContextOutput p = key_at key.Context p ▹ «word» key.Output ▹ End

-- what a variable is: of a type, or a condition
abbrev pub variable_type_parts : Option types.Type → Parts
variable_type_parts None = «word» key.Condition ▹ End
variable_type_parts (Some t) = «word» key.Content ▹ type_parts t End

-- the parameters of a variable, where it has some
abbrev pub params_parts : List FieldItem → Parts
params_parts [] = End
params_parts (p ∷ more) = words pair.DependsOn ▹ with_commas typed_parts (p ∷ more)

-- a variable: of a kind, or a scope that is called
abbrev pub variable_parts : Variable → Parts
variable_parts (variable.Own k p w t params) = kind_parts k p ▸ lower w ▹ variable_type_parts t ▸ params_parts params
variable_parts (variable.Called w u) = lower w ▹ «word» key.Scope ▹ upper u ▹ End
