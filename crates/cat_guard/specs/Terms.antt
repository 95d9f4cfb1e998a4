-- The terms and atoms that questions have: which are one, and which are free.
use Rattle.std.specs.Prelude.{ℕ, ◌&&◌, nat_eq, Bool, true, false, List, [], ◌∷◌, ◌++◌, map, Option, Some, None}
use Rattle.std.specs.Prelude.{slice_get}
use Rattle.std.specs.Prelude.{if◌then◌else◌}
use Rattle.std.specs.Ordering.{int_eq}
use Rattle.cat_pos.specs.declared.pos.Pos.{Pos}
use Rattle.cat_value.specs.declared.declaration.ItemDecl.{ItemDecl}
use Rattle.cat_value.specs.Inputs.{must_be_given}
use Rattle.cat_region.specs.declared.dim.Dim.{Dim}
use Rattle.cat_region.specs.declared.dim.Dim.TheVariants as dim
use Rattle.cat_region.specs.declared.cut.Threshold.{Threshold}
use Rattle.cat_region.specs.declared.cut.Threshold.TheVariants as threshold
use Rattle.cat_region.specs.declared.cut.Cut.{Cut}
use Rattle.cat_region.specs.declared.cut.Cut.TheVariants as cut
use Rattle.cat_scope.specs.declared.expr.Expr.{Expr}
use Rattle.cat_scope.specs.declared.expr.Arm.{Arm}
use Rattle.cat_scope.specs.declared.expr.FieldValue.{FieldValue}
use Rattle.cat_scope.specs.declared.expr.Expr.TheOpen.{Expr-F}
use Rattle.cat_scope.specs.declared.expr.Expr.TheViews.{out-Expr}
use Rattle.cat_scope.specs.declared.expr.Expr.TheFolds.{fold-Expr}
use Rattle.cat_scope.specs.SameTree.{same_tree}
use Rattle.cat_guard.specs.declared.table.InputPath.{InputPath}
use Rattle.cat_guard.specs.declared.table.Term.{Term}
use Rattle.cat_guard.specs.declared.table.Atom.{Atom}
use Rattle.cat_guard.specs.Questions.{Question}
use Rattle.cat_guard.specs.Numbering.{firsts, number_of}

-- two dimensions are one
abbrev pub same_dim : Dim → Dim → Bool
same_dim dim.Whole dim.Whole = true
same_dim dim.Money dim.Money = true
same_dim dim.Day dim.Day = true
same_dim dim.Decimal dim.Decimal = true
same_dim dim.Truth dim.Truth = true
same_dim (dim.Cases n) (dim.Cases m) = nat_eq n m
same_dim _ _ = false

-- two constants are one
abbrev pub same_threshold : Threshold → Threshold → Bool
same_threshold (threshold.Whole a) (threshold.Whole b) = int_eq a b
same_threshold (threshold.Money a) (threshold.Money b) = int_eq a b
same_threshold (threshold.Day a) (threshold.Day b) = int_eq a b
same_threshold (threshold.Decimal f) (threshold.Decimal g) = int_eq f.num g.num && nat_eq f.den g.den
same_threshold _ _ = false

-- two cuts are one
abbrev pub same_cut : Cut → Cut → Bool
same_cut (cut.Below a) (cut.Below b) = same_threshold a b
same_cut (cut.AtMost a) (cut.AtMost b) = same_threshold a b
same_cut cut.IsTrue cut.IsTrue = true
same_cut (cut.IsCase k) (cut.IsCase m) = nat_eq k m
same_cut _ _ = false

-- the terms of two questions are one: their expressions agree but for positions, and are of one dimension
abbrev pub same_term : Question → Question → Bool
same_term q r = same_tree q.standing r.standing q.expr r.expr && same_dim q.dim r.dim

-- two questions are one
abbrev pub same_question : Question → Question → Bool
same_question q r = same_term q r && same_cut q.cut r.cut

-- an input variable
abbrev pub input_path : ℕ → Option ItemDecl → Option InputPath
input_path item None = None
input_path item (Some decl) = if must_be_given decl.kind then Some (record { item = item; fields = [] }) else None

-- a field further
abbrev pub field_path : ℕ → Option InputPath → Option InputPath
field_path k None = None
field_path k (Some path) = Some (record { item = path.item; fields = path.fields ++ k ∷ [] })

-- the path that an expression is, by its form
abbrev pub path_in : List ItemDecl → Expr-F (Option InputPath) (Unit {0}) (Unit {0}) → Option InputPath
path_in items (Expr-F.Item p item) = input_path item (slice_get items item)
path_in items (Expr-F.Field p e k) = field_path k e
path_in items _ = None

-- the path that an expression is: an input variable of the scope, or a path of fields from one
unfoldable pub path_of : List ItemDecl → Expr → Option InputPath
path_of items = fold-Expr (Option InputPath) (Unit {0}) (Unit {0}) (path_in items) (λ a. tt) (λ f. tt)

-- the position of the first token, by the form
abbrev pub token_in : Expr-F Expr Arm FieldValue → Pos
token_in (Expr-F.Literal p l) = p
token_in (Expr-F.Item p item) = p
token_in (Expr-F.Output p item k) = p
token_in (Expr-F.Local p k) = p
token_in (Expr-F.Field p e k) = p
token_in (Expr-F.Unary p o e) = p
token_in (Expr-F.Binary p o q a b) = p
token_in (Expr-F.And p a b) = p
token_in (Expr-F.Or p a b) = p
token_in (Expr-F.If p c a b) = p
token_in (Expr-F.Match p e arms) = p
token_in (Expr-F.IsCase p e n k) = p
token_in (Expr-F.Case p n k content) = p
token_in (Expr-F.Structure p n fields) = p
token_in (Expr-F.List p es) = p
token_in (Expr-F.ForAll p l test) = p
token_in (Expr-F.Exists p l test) = p
token_in (Expr-F.Map p l e) = p
token_in (Expr-F.Filter p l test) = p
token_in (Expr-F.Combine p l start e) = p
token_in (Expr-F.Contains p q l e) = p
token_in (Expr-F.Length p l) = p
token_in (Expr-F.Sum p kind l) = p
token_in (Expr-F.Call p f es) = p
token_in (Expr-F.ScopeCall p s fields k) = p

-- the position of an expression's first token
abbrev pub token_of : Expr → Pos
token_of e = token_in (out-Expr e)

-- the term that a question has
abbrev pub term_of : List ItemDecl → Question → Term
term_of items q = record {
  expr = q.expr;
  function = q.standing.function;
  params = q.standing.params;
  path = path_of items q.expr;
  dim = q.dim;
  pos = token_of q.expr;
}

-- the terms of questions, by first appearance
abbrev pub terms_of : List ItemDecl → List Question → List Term
terms_of items qs = map (term_of items) (firsts same_term [] qs)

-- the number of a question's term
abbrev pub term_number : List Question → Question → ℕ
term_number qs q = number_of same_term q (firsts same_term [] qs)

-- the atom that a question is
abbrev pub atom_of : List Question → Question → Atom
atom_of qs q = record { term = term_number qs q; cut = q.cut }

-- the atoms of questions, by first appearance
abbrev pub atoms_of : List Question → List Atom
atoms_of qs = map (atom_of qs) (firsts same_question [] qs)

-- the number of the atom that a question is
abbrev pub atom_number : List Question → Question → ℕ
atom_number qs q = number_of same_question q (firsts same_question [] qs)
