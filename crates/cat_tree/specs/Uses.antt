-- The words and parts of what a scope block holds: definitions, rules, assertions and roundings.
use Rattle.std.specs.Prelude.{Bool, true, false, List, [], ◌∷◌, Option, Some, None}
use Rattle.cat_lex.specs.declared.words.Keyword.{Keyword}
use Rattle.cat_lex.specs.declared.words.Keyword.TheVariants as key
use Rattle.cat_lex.specs.declared.words.DoubleKeyword.TheVariants as pair
use Rattle.cat_lex.specs.declared.symbol.Symbol.TheVariants as symbol
use Rattle.cat_tree.specs.declared.name.Name.{Name}
use Rattle.cat_tree.specs.declared.expression.Node.{Node}
use Rattle.cat_tree.specs.declared.program.SurfaceLabel.{SurfaceLabel}
use Rattle.cat_tree.specs.declared.program.Exception.{Exception}
use Rattle.cat_tree.specs.declared.program.Exception.TheVariants as exception
use Rattle.cat_tree.specs.declared.program.Lead.{Lead}
use Rattle.cat_tree.specs.declared.program.TargetName.{TargetName}
use Rattle.cat_tree.specs.declared.program.Fulfilled.{Fulfilled}
use Rattle.cat_tree.specs.declared.program.Fulfilled.TheVariants as fulfilled
use Rattle.cat_tree.specs.declared.program.Use.{Use}
use Rattle.cat_tree.specs.declared.program.Use.TheVariants as uses
use Rattle.cat_tree.specs.Phrase.{Parts, End}
use Rattle.cat_tree.specs.Wording.{◌▹◌, key_at, pair_at, «word», words, sign, lower, part}
use Rattle.cat_tree.specs.Grammar.{phrase}
use Rattle.cat_tree.specs.Joined.{◌▸◌, with_commas}

-- a label: label w
abbrev pub label_parts : Option SurfaceLabel → Parts
label_parts None = End
label_parts (Some l) = key_at key.Label l.pos ▹ lower l.name ▹ End

-- what it is an exception to: exception [w]
abbrev pub exception_parts : Exception → Parts
exception_parts exception.No = End
exception_parts (exception.OnlyRoot p) = key_at key.Exception p ▹ End
exception_parts (exception.Labelled p w) = key_at key.Exception p ▹ lower w ▹ End

-- what stands before a definition or a rule
abbrev pub lead_parts : Lead → Parts
lead_parts l = label_parts l.label ▸ exception_parts l.exception

-- a name alone
abbrev pub name_parts : Name → Parts
name_parts w = lower w ▹ End

-- the variable of a called scope: . w
abbrev pub inner_parts : Option Name → Parts
inner_parts None = End
inner_parts (Some w) = sign symbol.Dot ▹ lower w ▹ End

-- the names of parameters: of w, w
abbrev pub names_parts : List Name → Parts
names_parts [] = End
names_parts (w ∷ more) = «word» key.Of ▹ with_commas name_parts (w ∷ more)

-- what is defined
abbrev pub target_parts : TargetName → Parts
target_parts t = lower t.name ▹ inner_parts t.inner ▸ names_parts t.params

-- the condition of a definition or a rule, without its block's, and the word behind it
abbrev pub use_condition_parts : Option Node → Parts
use_condition_parts None = End
use_condition_parts (Some e) = words pair.UnderCondition ▹ part 0 (phrase e) ▹ «word» key.Consequence ▹ End

-- what a rule says of the condition variable that it is for
abbrev pub fulfilled_parts : Fulfilled → Parts
fulfilled_parts fulfilled.Yes = «word» key.Fulfilled ▹ End
fulfilled_parts fulfilled.No = «word» key.Not ▹ «word» key.Fulfilled ▹ End

-- how dates are rounded
abbrev pub rounding_word : (up : Bool) → Keyword
rounding_word true = key.Increasing
rounding_word false = key.Decreasing

-- a line of a scope block
abbrev pub use_parts : Use → Parts
use_parts (uses.Definition l p t c e) = lead_parts l ▸ key_at key.Definition p ▹ target_parts t ▸ use_condition_parts c
    ▸ «word»
    key.Equals ▹ part 0 (phrase e) ▹ End
use_parts (uses.Rule l p t c f) = lead_parts l ▸ key_at key.Rule p ▹ target_parts t ▸ use_condition_parts c ▸
    fulfilled_parts f
use_parts (uses.Assertion p e) = key_at key.Assertion p ▹ part 0 (phrase e) ▹ End
use_parts (uses.DateRound p up) = pair_at pair.DateRound p ▹ «word» (rounding_word up) ▹ End
