-- What constants, owners and instructions in front tell of types.
use Rattle.std.specs.Prelude.{ℕ, Bool, Option, Some, None, slice_get, is_none}
use Rattle.cat_code.specs.declared.instr.Instr.{Instr}
use Rattle.cat_code.specs.declared.instr.Instr.TheVariants as instr
use Rattle.cat_code.specs.declared.code.Constant.{Constant}
use Rattle.cat_code.specs.declared.code.Tables.{Tables}
use Rattle.cat_code.specs.Forms.{Form, form_of, outputs_form}
use Rattle.cat_code.specs.Shapes.{Owner}
use Rattle.cat_code.specs.Places.{FunctionPlace, function_places}
use Rattle.cat_code.specs.Leads.{Flow, elements_of}

-- the case for which the third instruction in front asks
abbrev pub case_asked : Option Instr → Option ℕ
case_asked (Some (instr.IsCase c)) = Some c
case_asked _ = None

-- a list of a type: what a collecting loop is told by
abbrev pub collected_by : Option Form → (Form → Flow) → Flow
collected_by None go = None
collected_by (Some t) go = elements_of t go

-- the type of a constant
abbrev pub constant_form : Tables → ℕ → Option Form
constant_form tables k = of (slice_get tables.constants k)
  where
    of : Option Constant → Option Form
    of None = None
    of (Some c) = Some (form_of tables.decls c.ty)

-- what an owner gives: a scope the structure of its outputs, a function a value of its type
abbrev pub result_form : Tables → Owner → Option Form
result_form tables owner = of owner.function
  where
    at : Option FunctionPlace → Option Form
    at None = None
    at (Some place) = Some (form_of tables.decls place.decl.ty)

    of : Option ℕ → Option Form
    of None = Some (outputs_form tables.decls owner.scope)
    of (Some f) = at (slice_get (function_places tables.decls) f)

-- whether an owner is a scope
abbrev pub is_scope : Owner → Bool
is_scope owner = is_none owner.function
