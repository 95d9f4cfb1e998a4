-- The structures, enumerations and scopes that inputs are read by. A name that has other than ASCII letters is open.
use Rattle.std.specs.Prelude.{ℕ, false, List, [], ◌∷◌, Option, None, Some, codes}
use Rattle.cat_pos.specs.Position.{pos_of}
use Rattle.cat_pos.specs.declared.pos.Pos.{Pos}
use Rattle.cat_value.specs.declared.ty.Ty.{Ty}
use Rattle.cat_value.specs.declared.ty.Ty.TheVariants as ty
use Rattle.cat_value.specs.declared.ty.Ty.TheViews as view
use Rattle.cat_value.specs.declared.declaration.Field.{Field}
use Rattle.cat_value.specs.declared.declaration.Structure.{Structure}
use Rattle.cat_value.specs.declared.declaration.Case.{Case}
use Rattle.cat_value.specs.declared.declaration.Enumeration.{Enumeration}
use Rattle.cat_value.specs.declared.declaration.Kind.{Kind}
use Rattle.cat_value.specs.declared.declaration.Kind.TheVariants as kind
use Rattle.cat_value.specs.declared.declaration.ItemDecl.{ItemDecl}
use Rattle.cat_value.specs.declared.declaration.Scope.{Scope}

-- a field of that name and type
abbrev pub field : List ℕ → Ty → Field
field name t = record { name = name; ty = t }

-- a case of that name, with what it holds
abbrev pub case : List ℕ → Option Ty → Case
case name content = record { name = name; content = content }

-- where all of them stand: positions are not looked at
abbrev pub start : Pos
start = pos_of 0 1 1

-- an item of that name, kind and type
abbrev pub item : List ℕ → Kind → Ty → ItemDecl
item name k t = record { name = name; pos = start; kind = k; ty = t; condition = false; params = [] }

-- `Pair` and `Home`
abbrev pub pair : Structure
pair = record {
  name = codes "Pair";
  fields =
      field (codes "count") ty.Integer ∷ field (codes "flags") (view.List ty.Boolean) ∷ [];
}

-- a home, the share in which has that name
abbrev pub home : List ℕ → Structure
home share = record {
  name = codes "Home";
  fields =
      field (codes "owner") (ty.Structure 0) ∷ field (codes "kinds") (view.List (ty.Enumeration 0))
      ∷ field (codes "since") ty.Duration ∷ field share ty.Decimal ∷ [];
}

-- `Individual` and `Person`
abbrev pub individual : Structure
individual = record {
  name = codes "Individual";
  fields = field (codes "income") ty.Money ∷ field (codes "number_of_children") ty.Integer ∷ [];
}

-- a person with a credit
abbrev pub person : Structure
person = record {
  name = codes "Person";
  fields = field (codes "income") ty.Money ∷ field (codes "credit") (ty.Enumeration 2) ∷ [];
}

-- `Choice` and `Letter`
abbrev pub choice : Enumeration
choice = record {
  name = codes "Choice";
  cases =
      case (codes "Nothing") None ∷ case (codes "Many") (Some (view.List ty.Integer))
      ∷ case (codes "One") (Some (ty.Structure 0)) ∷ [];
}

-- a letter, two cases of which have these names
abbrev pub letter : List ℕ → List ℕ → Enumeration
letter plain amount = record {
  name = codes "Letter";
  cases =
      case plain None ∷ case amount (Some ty.Money) ∷ case (codes "Of") (Some (ty.Enumeration 0)) ∷ [];
}

-- `TaxCredit`
abbrev pub tax_credit : Enumeration
tax_credit = record {
  name = codes "TaxCredit";
  cases = case (codes "NoTaxCredit") None ∷ case (codes "ChildrenTaxCredit") (Some ty.Integer) ∷ [];
}

-- `S` and `Kinds`
abbrev pub types_scope : Scope
types_scope = record {
  name = codes "S";
  items =
      item (codes "b") kind.Context ty.Boolean ∷ item (codes "n") kind.Input ty.Integer
      ∷ item (codes "list") kind.Context (view.List ty.Integer) ∷ item (codes "home") kind.Context (ty.Structure 1)
      ∷ item (codes "letter") kind.Context (ty.Enumeration 1) ∷ item (codes "x") kind.Output ty.Integer
      ∷ item (codes "t") (kind.Called 1) ty.Boolean ∷ [];
}

-- a scope with an item of each kind
abbrev pub kinds_scope : Scope
kinds_scope = record {
  name = codes "Kinds";
  items =
      item (codes "aside") kind.Internal ty.Integer ∷ item (codes "first") kind.Input ty.Money
      ∷ item (codes "both") kind.InputOutput ty.Date ∷ item (codes "last") kind.ContextOutput ty.Decimal ∷ [];
}

-- `IncomeTaxComputation` and `Tax`
abbrev pub income_tax_scope : Scope
income_tax_scope = record {
  name = codes "IncomeTaxComputation";
  items =
      item (codes "individual") kind.Input (ty.Structure 2)
      ∷ item (codes "fixed_percentage") kind.Internal ty.Decimal
      ∷ item (codes "income_tax") kind.Output ty.Money ∷ [];
}

-- a scope with a list of persons as its input
abbrev pub tax_scope : Scope
tax_scope = record {
  name = codes "Tax";
  items =
      item (codes "persons") kind.Input (view.List (ty.Structure 3)) ∷ item (codes "due") kind.Internal ty.Money
      ∷ item (codes "total") kind.Output ty.Money ∷ [];
}

-- all structures
abbrev pub structures : List ℕ → List Structure
structures share = pair ∷ home share ∷ individual ∷ person ∷ []

-- all enumerations
abbrev pub enumerations : List ℕ → List ℕ → List Enumeration
enumerations plain amount = choice ∷ letter plain amount ∷ tax_credit ∷ []

-- all scopes
abbrev pub scopes : List Scope
scopes = types_scope ∷ kinds_scope ∷ income_tax_scope ∷ tax_scope ∷ []
