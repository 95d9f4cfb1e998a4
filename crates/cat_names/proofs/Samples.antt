-- What the worked examples are put together from.
use Rattle.std.proofs.Common.{ℕ, pos, false, IsTrue, List, [], ◌∷◌, Some, None}
use Rattle.cat_pos.specs.Position.{pos_of}
use Rattle.cat_pos.specs.declared.pos.Pos.{Pos}
use Rattle.cat_value.specs.declared.ty.Ty.{Ty}
use Rattle.cat_value.specs.declared.ty.Ty.TheVariants as flat_ty
use Rattle.cat_value.specs.declared.declaration.Kind.{Kind}
use Rattle.cat_value.specs.declared.declaration.Kind.TheVariants as kind
use Rattle.cat_value.specs.declared.declaration.ItemDecl.{ItemDecl}
use Rattle.cat_value.specs.declared.declaration.Scope.{Scope}
use Rattle.cat_value.specs.declared.decls.Decls.{Decls}
use Rattle.cat_value.specs.Declarations.{are_sound}
use Rattle.cat_tree.specs.declared.name.Name.{Name}
use Rattle.cat_tree.specs.declared.name.Base.{Base}
use Rattle.cat_tree.specs.declared.name.Base.TheVariants as base
use Rattle.cat_tree.specs.declared.expression.SurfaceLiteral.TheVariants as literal
use Rattle.cat_tree.specs.declared.expression.Node.{Node}
use Rattle.cat_tree.specs.declared.expression.Node.TheVariants as leaf
use Rattle.cat_tree.specs.declared.program.VariableKind as kinds
use Rattle.cat_tree.specs.declared.program.VariableKind.TheVariants as written
use Rattle.cat_tree.specs.declared.program.Exception.TheVariants as exception
use Rattle.cat_tree.specs.declared.program.Lead.{Lead}
use Rattle.cat_tree.specs.declared.program.TargetName.{TargetName}
use Rattle.cat_tree.specs.declared.program.Use.{Use}
use Rattle.cat_tree.specs.declared.program.Use.TheVariants as uses
use Rattle.cat_tree.specs.declared.program.Variable.{Variable}
use Rattle.cat_tree.specs.declared.program.Variable.TheVariants as variable
use Rattle.cat_tree.specs.declared.program.Item.{Item}
use Rattle.cat_tree.specs.declared.program.Item.TheVariants as item
use Rattle.cat_tree.specs.declared.program.Tree.{Tree}

abbrev pub at : ℕ → ℕ → Pos
at l c = pos_of 0 l c

-- a name of one letter
abbrev pub name : ℕ → Pos → Name
name letter p = record { text = letter ∷ []; pos = p }

-- letters
abbrev pub a : ℕ
a = 97

abbrev pub b : ℕ
b = 98

abbrev pub n : ℕ
n = 110

abbrev pub q : ℕ
q = 113

abbrev pub s : ℕ
s = 115

abbrev pub x : ℕ
x = 120

abbrev pub S : ℕ
S = 83

abbrev pub T : ℕ
T = 84

abbrev pub local : ℕ → Pos → Node
local letter p = leaf.Name (name letter p)

abbrev pub whole : ℕ → Pos → Node
whole k p = leaf.Literal (literal.Int (pos k)) p

-- `K w content T`
abbrev pub own : kinds.VariableKind → Pos → Name → Base → Pos → Variable
own k p w t at_type = variable.Own k p w (Some (record { lists = 0; base = t; pos = at_type })) []

-- `definition w equals e`, without a label
abbrev pub plain : Lead
plain = record { label = None; exception = exception.No }

abbrev pub target : Name → TargetName
target w = record { name = w; inner = None; params = [] }

abbrev pub definition : Pos → Name → Node → Use
definition p w e = uses.Definition plain p (target w) None e

-- `scope S:` with these lines
abbrev pub block : Pos → Name → List Use → Item
block p w lines = item.Block (record { pos = p; name = w; condition = None; uses = lines })

-- `declaration scope S: input n content integer output x content T`, from line 2 on
abbrev pub head_of : Base → List Use → Tree
head_of t lines = record {
  items =
      item.Scope (at 2 1) (name S (at 2 19))
      (own written.Input (at 3 3) (name n (at 3 9)) base.Integer (at 3 19)
      ∷ own written.Output (at 4 3) (name x (at 4 10)) t (at 4 20) ∷ [])
      ∷ block (at 5 1) (name S (at 5 7)) lines ∷ [];
}

-- the items of S
abbrev pub item_of : ℕ → Pos → Kind → Ty → ItemDecl
item_of letter p k t =
    record { name = letter ∷ []; pos = p; kind = k; ty = t; condition = false; params = [] }

abbrev pub head_scopes : Ty → List Scope
head_scopes t = record {
  name = S ∷ [];
  items = item_of n (at 3 9) kind.Input flat_ty.Integer ∷ item_of x (at 4 10) kind.Output t ∷ [];
} ∷ []

abbrev pub HeadSound : Ty → Type 0
HeadSound t = IsTrue (are_sound [] [] (head_scopes t))

-- the declarations of S
abbrev pub head_decls : (t : Ty) → HeadSound t → Decls
head_decls t sound = record { structures = []; enumerations = []; scopes = head_scopes t; sound = sound }
