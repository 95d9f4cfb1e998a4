-- Where `[]` may stand: it takes its type from its place, so its place must be one that expects a list.
use Rattle.std.specs.Prelude.{◌&&◌, Bool, true, false, List, [], ◌∷◌, Option, Some, None}
use Rattle.cat_scope.specs.declared.expr.Expr.{Expr}
use Rattle.cat_scope.specs.declared.expr.Expr.TheOpen.{Expr-F}
use Rattle.cat_scope.specs.declared.expr.Expr.TheFolds.{fold-Expr}
use Rattle.cat_scope.specs.declared.defs.Def.{Def}
use Rattle.cat_scope.specs.declared.defs.Assertion.{Assertion}
use Rattle.cat_scope.specs.declared.defs.SourcePart.{SourcePart}
use Rattle.cat_scope.specs.declared.defs.SourcePart.TheVariants as part
use Rattle.cat_scope.specs.declared.defs.Body.{Body}

-- whether each `[]` stands where a type is expected, where one is expected of the whole or not
abbrev pub Placed : Type 0
Placed = Bool → Bool

-- a field, a content, an argument: a type is expected of each
abbrev pub all_placed : List Placed → Bool
all_placed [] = true
all_placed (e ∷ es) = e true && all_placed es

-- a case's content: a type is expected of it
abbrev pub content_placed : Option Placed → Bool
content_placed None = true
content_placed (Some e) = e true

-- elements or arms: of the first what is expected of the whole, and of each later one the type of the first. Where
-- there is none, a type must be expected of the whole
abbrev pub row_placed : List Placed → Placed
row_placed [] expected = expected
row_placed (e ∷ es) expected = e expected && all_placed es

-- an expression, where each part tells so of itself
abbrev pub placed_of : Expr-F Placed Placed Placed → Placed
placed_of (Expr-F.Literal p l) expected = true
placed_of (Expr-F.Item p item) expected = true
placed_of (Expr-F.Output p item k) expected = true
placed_of (Expr-F.Local p k) expected = true
placed_of (Expr-F.Field p e k) expected = e false
placed_of (Expr-F.Unary p o e) expected = e false
placed_of (Expr-F.Binary p o q a b) expected = a false && b false
placed_of (Expr-F.And p a b) expected = a false && b false
placed_of (Expr-F.Or p a b) expected = a false && b false
placed_of (Expr-F.If p c a b) expected = c false && row_placed (a ∷ b ∷ []) expected
placed_of (Expr-F.Match p e arms) expected = e false && row_placed arms expected
placed_of (Expr-F.IsCase p e n k) expected = e false
placed_of (Expr-F.Case p n k content) expected = content_placed content
placed_of (Expr-F.Structure p n fields) expected = all_placed fields
placed_of (Expr-F.List p es) expected = row_placed es expected
placed_of (Expr-F.ForAll p l test) expected = l false && test false
placed_of (Expr-F.Exists p l test) expected = l false && test false
placed_of (Expr-F.Map p l e) expected = l false && e false
placed_of (Expr-F.Filter p l test) expected = l false && test false
placed_of (Expr-F.Combine p l start e) expected = l false && start false && e true
placed_of (Expr-F.Contains p q l e) expected = l false && e false
placed_of (Expr-F.Length p l) expected = l false
placed_of (Expr-F.Sum p kind l) expected = l false
placed_of (Expr-F.Call p f es) expected = all_placed es
placed_of (Expr-F.ScopeCall p s fields k) expected = all_placed fields

-- whether each `[]` of an expression stands where a type is expected
unfoldable pub lists_placed : Expr → Placed
lists_placed = fold-Expr Placed Placed Placed placed_of (λ arm. arm.body) (λ field. field.value)

-- a condition, where there is one: no type is expected of it
abbrev pub condition_placed : Option Expr → Bool
condition_placed None = true
condition_placed (Some e) = lists_placed e false

-- a type is expected of a consequence, and none of a condition
abbrev pub def_placed : Def → Bool
def_placed d = condition_placed d.condition && lists_placed d.consequence true

-- each of some definitions
abbrev pub defs_placed : List Def → Bool
defs_placed [] = true
defs_placed (d ∷ ds) = def_placed d && defs_placed ds

-- the condition of each assertion: no type is expected of it
abbrev pub assertions_placed : List Assertion → Bool
assertions_placed [] = true
assertions_placed (a ∷ rest) = lists_placed a.condition false && assertions_placed rest

-- a block's condition: no type is expected of it
abbrev pub part_placed : SourcePart → Bool
part_placed part.Declaration = true
part_placed (part.Condition e) = lists_placed e false
part_placed part.Definition = true
part_placed part.Assertion = true

-- each of some parts of a source
abbrev pub parts_placed : List SourcePart → Bool
parts_placed [] = true
parts_placed (p ∷ rest) = part_placed p && parts_placed rest

-- in all that is said of a scope
abbrev pub body_placed : Body → Bool
body_placed body = parts_placed body.source && defs_placed body.defs && assertions_placed body.assertions
