-- What an expression names: items, functions that it calls, and scopes that it calls.
use Rattle.std.specs.Prelude.{ℕ, List, [], ◌∷◌, ◌++◌, Option, Some, None}
use Rattle.cat_scope.specs.declared.expr.Expr.{Expr}
use Rattle.cat_scope.specs.declared.expr.Expr.TheOpen.{Expr-F}
use Rattle.cat_scope.specs.declared.expr.Expr.TheFolds.{fold-Expr}

-- one list behind another
abbrev pub joined : List (List ℕ) → List ℕ
joined [] = []
joined (ns ∷ rest) = ns ++ joined rest

-- the numbers of a part that may be missing
abbrev pub in_option : Option (List ℕ) → List ℕ
in_option None = []
in_option (Some ns) = ns

-- numbers as the parts of an expression have them, from the left
abbrev pub in_parts : Expr-F (List ℕ) (List ℕ) (List ℕ) → List ℕ
in_parts (Expr-F.Literal p l) = []
in_parts (Expr-F.Item p item) = []
in_parts (Expr-F.Output p item k) = []
in_parts (Expr-F.Local p k) = []
in_parts (Expr-F.Field p e k) = e
in_parts (Expr-F.Unary p o e) = e
in_parts (Expr-F.Binary p o q a b) = a ++ b
in_parts (Expr-F.And p a b) = a ++ b
in_parts (Expr-F.Or p a b) = a ++ b
in_parts (Expr-F.If p c a b) = c ++ a ++ b
in_parts (Expr-F.Match p e arms) = e ++ joined arms
in_parts (Expr-F.IsCase p e n k) = e
in_parts (Expr-F.Case p n k content) = in_option content
in_parts (Expr-F.Structure p n fields) = joined fields
in_parts (Expr-F.List p es) = joined es
in_parts (Expr-F.ForAll p l test) = l ++ test
in_parts (Expr-F.Exists p l test) = l ++ test
in_parts (Expr-F.Map p l e) = l ++ e
in_parts (Expr-F.Filter p l test) = l ++ test
in_parts (Expr-F.Combine p l start e) = l ++ start ++ e
in_parts (Expr-F.Contains p q l e) = l ++ e
in_parts (Expr-F.Length p l) = l
in_parts (Expr-F.Sum p kind l) = l
in_parts (Expr-F.Call p f es) = joined es
in_parts (Expr-F.ScopeCall p s fields k) = joined fields

-- the item that an expression names itself, the function that it calls, and the scope that it calls
abbrev pub own_item : Expr-F (List ℕ) (List ℕ) (List ℕ) → List ℕ
own_item (Expr-F.Item p item) = item ∷ []
own_item (Expr-F.Output p item k) = item ∷ []
own_item (Expr-F.Call p f es) = f ∷ []
own_item _ = []

-- the function that an expression calls itself
abbrev pub own_function : Expr-F (List ℕ) (List ℕ) (List ℕ) → List ℕ
own_function (Expr-F.Call p f es) = f ∷ []
own_function _ = []

-- the scope that an expression calls itself
abbrev pub own_scope : Expr-F (List ℕ) (List ℕ) (List ℕ) → List ℕ
own_scope (Expr-F.ScopeCall p s fields k) = s ∷ []
own_scope _ = []

-- the numbers that an expression and its parts have themselves, by first appearance
unfoldable pub named_by : (Expr-F (List ℕ) (List ℕ) (List ℕ) → List ℕ) → Expr → List ℕ
named_by own = fold-Expr (List ℕ) (List ℕ) (List ℕ) (λ e. own e ++ in_parts e) (λ arm. arm.body) (λ field. field.value)

-- the items that an expression names, the functions that it calls, and the scopes that it calls
abbrev pub items_named : Expr → List ℕ
items_named = named_by own_item

-- the functions that an expression calls
abbrev pub functions_named : Expr → List ℕ
functions_named = named_by own_function

-- the scopes that it calls in scope calls
abbrev pub scopes_named : Expr → List ℕ
scopes_named = named_by own_scope
