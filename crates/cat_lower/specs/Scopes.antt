-- The code of a scope: its functions, and behind them its items in their order, its assertions and its outputs.
use Rattle.std.specs.Prelude.{ℕ, ◌+◌, List, [], ◌∷◌, Option, Some, None, slice_get, if◌then◌else◌}
use Rattle.cat_value.specs.declared.ty.Ty.{Ty}
use Rattle.cat_value.specs.declared.declaration.Kind.{Kind}
use Rattle.cat_value.specs.declared.declaration.Kind.TheVariants as kind
use Rattle.cat_value.specs.declared.declaration.ItemDecl.{ItemDecl}
use Rattle.cat_value.specs.Inputs.{must_be_given, may_be_given, is_output}
use Rattle.cat_scope.specs.Names.{is_function, scope_items}
use Rattle.cat_calc.specs.declared.term.DefaultTerm.{DefaultTerm}
use Rattle.cat_calc.specs.declared.calcs.CalcScope.{CalcScope}
use Rattle.cat_calc.specs.Reducing.{term_of}
use Rattle.cat_code.specs.declared.instr.Instr.TheVariants as instr
use Rattle.cat_code.specs.declared.code.TargetEntry.{TargetEntry}
use Rattle.cat_lower.specs.Laying.{Ends, Coded, nothing, one, then_code, led, end_of, over}
use Rattle.cat_lower.specs.Rows.{Standing}
use Rattle.cat_lower.specs.Terms.{target_code, context_code}

-- a scope that is lowered: its number, where its expressions stand, and its terms
pub record ScopeStanding : Type 0 where
  pub number : ℕ
  pub here : Standing
  pub scope : CalcScope

-- a target of the scope, told at a declaration
abbrev pub target_at : ScopeStanding → ℕ → Option ℕ → ItemDecl → TargetEntry
target_at at item inner decl =
    record { target = record { scope = at.number; item = item; inner = inner }; pos = decl.pos }

-- the term of a target of the scope, where it has one
abbrev pub term_at : ScopeStanding → ℕ → Option ℕ → Option DefaultTerm
term_at at item inner = term_of at.scope.terms (record { scope = at.number; item = item; inner = inner })

-- pushes the value of a variable or of a function, by the types of its parameters
abbrev pub variable_code : ScopeStanding → ℕ → ItemDecl → Coded
variable_code at item decl =
    target_code at.here (target_at at item None decl) decl.ty decl.params decl.condition (term_at at item None)

-- a function, which gives back its value
abbrev pub function_code : ScopeStanding → ℕ → ItemDecl → Coded
function_code at item decl = then_code (variable_code at item decl) (one instr.Return)

-- the functions among the items from a number on
abbrev pub functions_code : ScopeStanding → ℕ → List ItemDecl → Coded
functions_code at n [] = nothing
functions_code at n (item ∷ items) =
    if is_function item
    then then_code (function_code at n item) (functions_code at (n + 1) items)
    else functions_code at (n + 1) items

-- where these functions begin
abbrev pub function_entries : ScopeStanding → ℕ → List ItemDecl → Ends → List ℕ
function_entries at n [] ends = []
function_entries at n (item ∷ items) ends =
    if is_function item
    then ends.place ∷ function_entries at (n + 1) items (end_of (function_code at n item) ends)
    else function_entries at (n + 1) items ends

-- an input or a context of a called scope
abbrev pub inner_code : ScopeStanding → ℕ → ItemDecl → ℕ → ItemDecl → Coded
inner_code at item decl n inner =
    if must_be_given inner.kind
    then then_code
    (target_code at.here (target_at at item (Some n) decl) inner.ty [] inner.condition (term_at at item (Some n)))
    (one (instr.Pass n))
    else context_code at.here (target_at at item (Some n) decl) inner.ty n (term_at at item (Some n))

-- the inputs and contexts of a called scope from number n on, in the order of their declarations
abbrev pub inner_codes : ScopeStanding → ℕ → ItemDecl → ℕ → List ItemDecl → Coded
inner_codes at item decl n [] = nothing
inner_codes at item decl n (inner ∷ rest) =
    if may_be_given inner.kind
    then then_code (inner_code at item decl n inner) (inner_codes at item decl (n + 1) rest)
    else inner_codes at item decl (n + 1) rest

-- a called scope, whose outputs are put into its slot
abbrev pub called_code : ScopeStanding → ℕ → ItemDecl → ℕ → Coded
called_code at item decl called =
    led (instr.Scope called) (then_code (inner_codes at item decl 0 (scope_items at.here.names.decls called))
    (led instr.Enter (one (instr.Store item))))

-- a variable whose value is put into its slot; a function has none
abbrev pub stored_code : ScopeStanding → ℕ → ItemDecl → List Ty → Coded
stored_code at item decl [] = then_code (variable_code at item decl) (one (instr.Store item))
stored_code at item decl (t ∷ ts) = nothing

-- an item by its kind: an input is there, and a context may be
abbrev pub kind_code : ScopeStanding → ℕ → ItemDecl → Kind → Coded
kind_code at item decl kind.Input = nothing
kind_code at item decl kind.InputOutput = nothing
kind_code at item decl kind.Context = over (λ t. instr.Given item t) (stored_code at item decl decl.params)
kind_code at item decl kind.ContextOutput = over (λ t. instr.Given item t) (stored_code at item decl decl.params)
kind_code at item decl (kind.Called called) = called_code at item decl called
kind_code at item decl _ = stored_code at item decl decl.params

-- an item, where there is one
abbrev pub item_code : ScopeStanding → ℕ → Option ItemDecl → Coded
item_code at item None = nothing
item_code at item (Some decl) = kind_code at item decl decl.kind

-- the items of an order
abbrev pub items_code : ScopeStanding → List ℕ → Coded
items_code at [] = nothing
items_code at (n ∷ ns) = then_code (item_code at n (slice_get at.here.names.items n)) (items_code at ns)

-- the values of the outputs among the items from number n on
abbrev pub outputs_code : ℕ → List ItemDecl → Coded
outputs_code n [] = nothing
outputs_code n (item ∷ items) =
    if is_output item.kind then led (instr.Slot n) (outputs_code (n + 1) items) else outputs_code (n + 1) items

-- how many of some items are outputs
abbrev pub output_count : List ItemDecl → ℕ
output_count [] = 0
output_count (item ∷ items) = if is_output item.kind then 1 + output_count items else output_count items
