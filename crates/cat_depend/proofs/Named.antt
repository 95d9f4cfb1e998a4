-- The equation of the wanted numbers at each form of expression.
use Rattle.std.proofs.Common.{◌≡◌, ℕ, List, [], ◌∷◌, ◌++◌, map, Some, None, refl, sym, ap, ◌∙◌, Bool, true}
use Rattle.std.proofs.Common.{false}
use Rattle.std.proofs.lemmas.List.{append_assoc}
use Rattle.cat_pos.specs.declared.pos.Pos.{Pos}
use Rattle.cat_scope.specs.declared.expr.Literal.{Literal}
use Rattle.cat_scope.specs.declared.operators.UnaryOp.{UnaryOp}
use Rattle.cat_scope.specs.declared.operators.BinaryOp.{BinaryOp}
use Rattle.cat_scope.specs.declared.operators.SumKind.{SumKind}
use Rattle.cat_scope.specs.declared.expr.Expr.{Expr}
use Rattle.cat_scope.specs.declared.expr.FieldValue.{FieldValue}
use Rattle.cat_scope.specs.declared.expr.Arm.{Arm}
use Rattle.cat_scope.specs.declared.expr.Expr.TheVariants as leaf
use Rattle.cat_scope.specs.declared.expr.Expr.TheViews as expr
use Rattle.cat_scope.specs.declared.expr.Expr.TheViews.{out-Expr}
use Rattle.cat_scope.specs.declared.expr.Expr.TheOpen.{Expr-F}
use Rattle.cat_scope.specs.declared.expr.Expr.TheFolds.{map-Expr}
use Rattle.cat_scope.specs.Mentions.{joined, in_parts}
use Rattle.cat_scope.proofs.Exported.{names_in_field, names_in_arm, names_in_field_is, names_in_arm_is}
use Rattle.cat_scope.proofs.Exported.{of_form, names_by_level}
use Rattle.cat_depend.specs.declared.naming.Wanted.{Wanted}
use Rattle.cat_depend.specs.declared.naming.Wanted.TheVariants.{Items, Functions, Scopes}
use Rattle.cat_depend.specs.inside.Wanted.{own_of, named, item_in, function_in, scope_in, in_each, in_fields, in_arms}

-- an expression whose parts tell their numbers
abbrev Level : Type 0
Level = Expr-F (List ℕ) (List ℕ) (List ℕ)

-- where each part tells its numbers
abbrev told : Wanted → Expr-F Expr Arm FieldValue → Level
told w = map-Expr Expr Arm FieldValue (List ℕ) (List ℕ) (List ℕ) (named w) (names_in_arm (own_of w))
    (names_in_field (own_of w))

-- the forms that name nothing themselves
abbrev is_quiet : Level → Bool
is_quiet (Expr-F.Item p item) = false
is_quiet (Expr-F.Output p item k) = false
is_quiet (Expr-F.Call p f es) = false
is_quiet (Expr-F.ScopeCall p s fields k) = false
is_quiet _ = true

quiet : (w : Wanted) (x : Level) → is_quiet x ≡ true → own_of w x ≡ []
quiet Items (Expr-F.Item p item) h = cc h
quiet Items (Expr-F.Output p item k) h = cc h
quiet Items (Expr-F.Call p f es) h = cc h
quiet Items _ h = refl
quiet Functions (Expr-F.Call p f es) h = cc h
quiet Functions _ h = refl
quiet Scopes (Expr-F.ScopeCall p s fields k) h = cc h
quiet Scopes _ h = refl

at_form : (w : Wanted) (e : Expr) (x : Expr-F Expr Arm FieldValue) → out-Expr e ≡ x
    → named w e ≡ of_form (own_of w) (told w x)
at_form w e x is = names_by_level (own_of w) e ∙ ap (λ y. of_form (own_of w) (told w y)) is

of_parts : (w : Wanted) (e : Expr) (x : Expr-F Expr Arm FieldValue) → out-Expr e ≡ x → is_quiet (told w x) ≡ true
    → named w e ≡ in_parts (told w x)
of_parts w e x is h = at_form w e x is ∙ ap (λ ns. ns ++ in_parts (told w x)) (quiet w (told w x) h)

-- ---- lists of parts

fields_are : (w : Wanted) (fs : List FieldValue) → joined (map (names_in_field (own_of w)) fs) ≡ in_fields w fs
fields_are w [] = refl
fields_are w (f ∷ fs) = rw (names_in_field_is (own_of w) f, fields_are w fs) refl

arms_are : (w : Wanted) (arms : List Arm) → joined (map (names_in_arm (own_of w)) arms) ≡ in_arms w arms
arms_are w [] = refl
arms_are w (a ∷ arms) = rw (names_in_arm_is (own_of w) a, arms_are w arms) refl

each_are : (w : Wanted) (es : List Expr) → joined (map (named w) es) ≡ in_each w es
each_are w [] = refl
each_are w (e ∷ es) = rw (each_are w es) refl

-- ---- what a form has itself

own_item_is : (w : Wanted) (p : Pos) (item : ℕ) → of_form (own_of w) (Expr-F.Item p item) ≡ item_in w item
own_item_is Items p item = refl
own_item_is _ p item = refl

own_output_is : (w : Wanted) (p : Pos) (item k : ℕ) → of_form (own_of w) (Expr-F.Output p item k) ≡ item_in w item
own_output_is Items p item k = refl
own_output_is _ p item k = refl

own_call_is : (w : Wanted) (p : Pos) (f : ℕ) (es : List (List ℕ)) → own_of w (Expr-F.Call p f es) ≡ function_in w f
own_call_is Scopes p f es = refl
own_call_is _ p f es = refl

own_scope_call_is : (w : Wanted) (p : Pos) (s : ℕ) (fs : List (List ℕ)) (k : ℕ)
    → own_of w (Expr-F.ScopeCall p s fs k) ≡ scope_in w s
own_scope_call_is Scopes p s fs k = refl
own_scope_call_is _ p s fs k = refl

-- ---- forms

pub names_Literal : (w : Wanted) (p : Pos) (l : Literal) → named w (leaf.Literal p l) ≡ []
names_Literal w p l = of_parts w (leaf.Literal p l) (Expr-F.Literal p l) (expr.outs-Literal p l) refl

pub names_Local : (w : Wanted) (p : Pos) (k : ℕ) → named w (leaf.Local p k) ≡ []
names_Local w p k = of_parts w (leaf.Local p k) (Expr-F.Local p k) (expr.outs-Local p k) refl

pub names_Item : (w : Wanted) (p : Pos) (item : ℕ) → named w (leaf.Item p item) ≡ item_in w item
names_Item w p item = at_form w (leaf.Item p item) (Expr-F.Item p item) (expr.outs-Item p item) ∙ own_item_is w p item

pub names_Output : (w : Wanted) (p : Pos) (item k : ℕ) → named w (leaf.Output p item k) ≡ item_in w item
names_Output w p item k = at_form w (leaf.Output p item k) (Expr-F.Output p item k) (expr.outs-Output p item k)
    ∙ own_output_is w p item k

pub names_Field : (w : Wanted) (p : Pos) (e : Expr) (k : ℕ) → named w (expr.Field p e k) ≡ named w e
names_Field w p e k = of_parts w (expr.Field p e k) (Expr-F.Field p e k) (expr.outs-Field p e k) refl

pub names_Unary : (w : Wanted) (p : Pos) (o : UnaryOp) (e : Expr) → named w (expr.Unary p o e) ≡ named w e
names_Unary w p o e = of_parts w (expr.Unary p o e) (Expr-F.Unary p o e) (expr.outs-Unary p o e) refl

pub names_IsCase : (w : Wanted) (p : Pos) (e : Expr) (n k : ℕ) → named w (expr.IsCase p e n k) ≡ named w e
names_IsCase w p e n k = of_parts w (expr.IsCase p e n k) (Expr-F.IsCase p e n k) (expr.outs-IsCase p e n k) refl

pub names_Length : (w : Wanted) (p : Pos) (l : Expr) → named w (expr.Length p l) ≡ named w l
names_Length w p l = of_parts w (expr.Length p l) (Expr-F.Length p l) (expr.outs-Length p l) refl

pub names_Sum : (w : Wanted) (p : Pos) (kind : SumKind) (l : Expr) → named w (expr.Sum p kind l) ≡ named w l
names_Sum w p kind l = of_parts w (expr.Sum p kind l) (Expr-F.Sum p kind l) (expr.outs-Sum p kind l) refl

pub names_Binary : (w : Wanted) (p : Pos) (o : BinaryOp) (q : Pos) (a b : Expr)
    → named w (expr.Binary p o q a b) ≡ named w a ++ named w b
names_Binary w p o q a b =
    of_parts w (expr.Binary p o q a b) (Expr-F.Binary p o q a b) (expr.outs-Binary p o q a b) refl

pub names_And : (w : Wanted) (p : Pos) (a b : Expr) → named w (expr.And p a b) ≡ named w a ++ named w b
names_And w p a b = of_parts w (expr.And p a b) (Expr-F.And p a b) (expr.outs-And p a b) refl

pub names_Or : (w : Wanted) (p : Pos) (a b : Expr) → named w (expr.Or p a b) ≡ named w a ++ named w b
names_Or w p a b = of_parts w (expr.Or p a b) (Expr-F.Or p a b) (expr.outs-Or p a b) refl

pub names_ForAll : (w : Wanted) (p : Pos) (l e : Expr) → named w (expr.ForAll p l e) ≡ named w l ++ named w e
names_ForAll w p l e = of_parts w (expr.ForAll p l e) (Expr-F.ForAll p l e) (expr.outs-ForAll p l e) refl

pub names_Exists : (w : Wanted) (p : Pos) (l e : Expr) → named w (expr.Exists p l e) ≡ named w l ++ named w e
names_Exists w p l e = of_parts w (expr.Exists p l e) (Expr-F.Exists p l e) (expr.outs-Exists p l e) refl

pub names_Map : (w : Wanted) (p : Pos) (l e : Expr) → named w (expr.Map p l e) ≡ named w l ++ named w e
names_Map w p l e = of_parts w (expr.Map p l e) (Expr-F.Map p l e) (expr.outs-Map p l e) refl

pub names_Filter : (w : Wanted) (p : Pos) (l e : Expr) → named w (expr.Filter p l e) ≡ named w l ++ named w e
names_Filter w p l e = of_parts w (expr.Filter p l e) (Expr-F.Filter p l e) (expr.outs-Filter p l e) refl

pub names_Contains : (w : Wanted) (p q : Pos) (l e : Expr)
    → named w (expr.Contains p q l e) ≡ named w l ++ named w e
names_Contains w p q l e =
    of_parts w (expr.Contains p q l e) (Expr-F.Contains p q l e) (expr.outs-Contains p q l e) refl

pub names_If : (w : Wanted) (p : Pos) (c a b : Expr) → named w (expr.If p c a b) ≡ named w c ++ named w a ++ named w b
names_If w p c a b = of_parts w (expr.If p c a b) (Expr-F.If p c a b) (expr.outs-If p c a b) refl

pub names_Combine : (w : Wanted) (p : Pos) (l s e : Expr)
    → named w (expr.Combine p l s e) ≡ named w l ++ named w s ++ named w e
names_Combine w p l s e = of_parts w (expr.Combine p l s e) (Expr-F.Combine p l s e) (expr.outs-Combine p l s e) refl

pub names_Match : (w : Wanted) (p : Pos) (e : Expr) (arms : List Arm)
    → named w (expr.Match p e arms) ≡ named w e ++ in_arms w arms
names_Match w p e arms = of_parts w (expr.Match p e arms) (Expr-F.Match p e arms) (expr.outs-Match p e arms) refl
    ∙ ap (λ ns. named w e ++ ns) (arms_are w arms)

pub names_Case_None : (w : Wanted) (p : Pos) (n k : ℕ) → named w (expr.Case p n k None) ≡ []
names_Case_None w p n k = of_parts w (expr.Case p n k None) (Expr-F.Case p n k None) (expr.outs-Case p n k None) refl

pub names_Case_Some : (w : Wanted) (p : Pos) (n k : ℕ) (e : Expr) → named w (expr.Case p n k (Some e)) ≡ named w e
names_Case_Some w p n k e =
    of_parts w (expr.Case p n k (Some e)) (Expr-F.Case p n k (Some e)) (expr.outs-Case p n k (Some e)) refl

pub names_Structure : (w : Wanted) (p : Pos) (n : ℕ) (fs : List FieldValue)
    → named w (expr.Structure p n fs) ≡ in_fields w fs
names_Structure w p n fs =
    of_parts w (expr.Structure p n fs) (Expr-F.Structure p n fs) (expr.outs-Structure p n fs) refl ∙ fields_are w fs

pub names_List : (w : Wanted) (p : Pos) (es : List Expr) → named w (expr.List p es) ≡ in_each w es
names_List w p es = of_parts w (expr.List p es) (Expr-F.List p es) (expr.outs-List p es) refl ∙ each_are w es

pub names_Call : (w : Wanted) (p : Pos) (f : ℕ) (es : List Expr)
    → named w (expr.Call p f es) ≡ function_in w f ++ in_each w es
names_Call w p f es = at_form w (expr.Call p f es) (Expr-F.Call p f es) (expr.outs-Call p f es)
    ∙ rw (own_call_is w p f (map (named w) es), each_are w es) refl

pub names_ScopeCall : (w : Wanted) (p : Pos) (s : ℕ) (fs : List FieldValue) (k : ℕ)
    → named w (expr.ScopeCall p s fs k) ≡ scope_in w s ++ in_fields w fs
names_ScopeCall w p s fs k =
    at_form w (expr.ScopeCall p s fs k) (Expr-F.ScopeCall p s fs k) (expr.outs-ScopeCall p s fs k)
    ∙ rw (own_scope_call_is w p s (map (names_in_field (own_of w)) fs) k, fields_are w fs) refl

-- numbers of one part behind those of another
pub behind : (old a b mid new all : List ℕ) → mid ≡ old ++ a → new ≡ mid ++ b → all ≡ a ++ b → new ≡ old ++ all
behind old a b mid new all first second whole =
    second ∙ ap (λ ns. ns ++ b) first ∙ append_assoc old a b ∙ ap (λ ns. old ++ ns) (sym whole)

pub ruleset names = (
  names_Literal,
  names_Local,
  names_Item,
  names_Output,
  names_Field,
  names_Unary,
  names_IsCase,
  names_Length,
  names_Sum,
  names_Binary,
  names_And,
  names_Or,
  names_ForAll,
  names_Exists,
  names_Map,
  names_Filter,
  names_Contains,
  names_If,
  names_Combine,
  names_Match,
  names_Case_None,
  names_Case_Some,
  names_Structure,
  names_List,
  names_Call,
  names_ScopeCall,
)
