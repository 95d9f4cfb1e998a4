-- The key of each form as the code spells it.
use Rattle.std.proofs.Common.{◌≡◌, ℕ, ◌+◌, List, [], ◌∷◌, ◌++◌, map, length, Some, None, refl}
use Rattle.std.proofs.Common.{sym, ap, ◌∙◌, arith}
use Rattle.std.proofs.lemmas.List.{append_assoc, append-nil, length-map}
use Rattle.cat_pos.specs.declared.pos.Pos.{Pos}
use Rattle.cat_scope.specs.declared.expr.Literal.{Literal}
use Rattle.cat_scope.specs.declared.expr.Arm.{Arm}
use Rattle.cat_scope.specs.declared.expr.FieldValue.{FieldValue}
use Rattle.cat_scope.specs.declared.expr.Expr.{Expr}
use Rattle.cat_scope.specs.declared.expr.Expr.TheOpen.{Expr-F}
use Rattle.cat_scope.specs.declared.expr.Expr.TheVariants as leaf
use Rattle.cat_scope.specs.declared.expr.Expr.TheViews as expr
use Rattle.cat_scope.specs.declared.expr.Expr.TheViews.{out-Expr}
use Rattle.cat_scope.specs.declared.operators.UnaryOp.{UnaryOp}
use Rattle.cat_scope.specs.declared.operators.BinaryOp.{BinaryOp}
use Rattle.cat_scope.specs.declared.operators.SumKind.{SumKind}
use Rattle.cat_scope.specs.OperatorNumbers.{unary_number, binary_number, sum_number}
use Rattle.cat_scope.specs.Same.{Standing}
use Rattle.cat_audit_keys.specs.Keys.{Branch, Slot, key_of, key_in, joined, literal_numbers, local_numbers, spelled}
use Rattle.cat_audit_keys.specs.Keys.{pattern_numbers, patterns_numbers, field_numbers, bodies, values}
use Rattle.cat_audit_keys.proofs.KeyForms.{arm_of, field_of, opened, key_level, arm_is, field_is}
use Rattle.cat_audit_keys.specs.inside.Fronts.{front_of, keys_of, body_keys, value_keys, patterns_in, fields_in}

abbrev Form : Type 0
Form = Expr-F Expr Arm FieldValue

-- what is spelled, front and parts
in_two : (form : ℕ) (own : List ℕ) (inner : List (List ℕ))
    → spelled form own inner ≡ front_of form own (length inner) ++ joined inner
in_two form own inner =
    ap (λ (k : List ℕ). form ∷ length own ∷ k) (sym (append_assoc own (length inner ∷ []) (joined inner)))

one_part : (form : ℕ) (own a : List ℕ) → spelled form own (a ∷ []) ≡ front_of form own 1 ++ a
one_part form own a = in_two form own (a ∷ []) ∙ ap (λ (k : List ℕ). front_of form own 1 ++ k) (append-nil a)

two_parts : (form : ℕ) (own a b : List ℕ) → spelled form own (a ∷ b ∷ []) ≡ front_of form own 2 ++ (a ++ b)
two_parts form own a b =
    in_two form own (a ∷ b ∷ []) ∙ ap (λ (k : List ℕ). front_of form own 2 ++ (a ++ k)) (append-nil b)

three_parts : (form : ℕ) (own a b c : List ℕ)
    → spelled form own (a ∷ b ∷ c ∷ []) ≡ front_of form own 3 ++ (a ++ (b ++ c))
three_parts form own a b c =
    in_two form own (a ∷ b ∷ c ∷ []) ∙ ap (λ (k : List ℕ). front_of form own 3 ++ (a ++ (b ++ k))) (append-nil c)

at : (g : Standing) (e : Expr) (y : Form) → out-Expr e ≡ y → key_of g e ≡ key_in g (opened g y)
at g e y is = key_level g e ∙ ap (λ (x : Form). key_in g (opened g x)) is

pub key_Literal : (g : Standing) (p : Pos) (l : Literal)
    → key_of g (leaf.Literal p l) ≡ front_of 0 (literal_numbers l) 0
key_Literal g p l =
    at g (leaf.Literal p l) (Expr-F.Literal p l) (expr.outs-Literal p l)

pub key_Item : (g : Standing) (p : Pos) (i : ℕ)
    → key_of g (leaf.Item p i) ≡ front_of 1 (i ∷ []) 0
key_Item g p i =
    at g (leaf.Item p i) (Expr-F.Item p i) (expr.outs-Item p i)

pub key_Output : (g : Standing) (p : Pos) (i k : ℕ)
    → key_of g (leaf.Output p i k) ≡ front_of 2 (i ∷ k ∷ []) 0
key_Output g p i k =
    at g (leaf.Output p i k) (Expr-F.Output p i k) (expr.outs-Output p i k)

pub key_Local : (g : Standing) (p : Pos) (k : ℕ)
    → key_of g (leaf.Local p k) ≡ front_of 3 (local_numbers g k) 0
key_Local g p k =
    at g (leaf.Local p k) (Expr-F.Local p k) (expr.outs-Local p k)

pub key_Field : (g : Standing) (p : Pos) (e : Expr) (k : ℕ)
    → key_of g (expr.Field p e k) ≡ front_of 4 (k ∷ []) 1 ++ key_of g e
key_Field g p e k =
    at g (expr.Field p e k) (Expr-F.Field p e k) (expr.outs-Field p e k) ∙ one_part 4 (k ∷ []) (key_of g e)

pub key_Unary : (g : Standing) (p : Pos) (o : UnaryOp) (e : Expr)
    → key_of g (expr.Unary p o e) ≡ front_of 5 (unary_number o ∷ []) 1 ++ key_of g e
key_Unary g p o e =
    at g (expr.Unary p o e) (Expr-F.Unary p o e) (expr.outs-Unary p o e) ∙ one_part 5 (unary_number o ∷ []) (key_of g e)

pub key_Binary : (g : Standing) (p : Pos) (o : BinaryOp) (q : Pos) (a b : Expr)
    → key_of g (expr.Binary p o q a b) ≡ front_of 6 (binary_number o ∷ []) 2 ++ (key_of g a ++ key_of g b)
key_Binary g p o q a b =
    at g (expr.Binary p o q a b) (Expr-F.Binary p o q a b) (expr.outs-Binary p o q a b)
    ∙ two_parts 6 (binary_number o ∷ []) (key_of g a) (key_of g b)

pub key_And : (g : Standing) (p : Pos) (a b : Expr)
    → key_of g (expr.And p a b) ≡ front_of 7 [] 2 ++ (key_of g a ++ key_of g b)
key_And g p a b =
    at g (expr.And p a b) (Expr-F.And p a b) (expr.outs-And p a b) ∙ two_parts 7 [] (key_of g a) (key_of g b)

pub key_Or : (g : Standing) (p : Pos) (a b : Expr)
    → key_of g (expr.Or p a b) ≡ front_of 8 [] 2 ++ (key_of g a ++ key_of g b)
key_Or g p a b =
    at g (expr.Or p a b) (Expr-F.Or p a b) (expr.outs-Or p a b) ∙ two_parts 8 [] (key_of g a) (key_of g b)

pub key_If : (g : Standing) (p : Pos) (a b c : Expr)
    → key_of g (expr.If p a b c) ≡ front_of 9 [] 3 ++ (key_of g a ++ (key_of g b ++ key_of g c))
key_If g p a b c =
    at g (expr.If p a b c) (Expr-F.If p a b c) (expr.outs-If p a b c)
    ∙ three_parts 9 [] (key_of g a) (key_of g b) (key_of g c)

pub key_IsCase : (g : Standing) (p : Pos) (e : Expr) (n k : ℕ)
    → key_of g (expr.IsCase p e n k) ≡ front_of 11 (n ∷ k ∷ []) 1 ++ key_of g e
key_IsCase g p e n k =
    at g (expr.IsCase p e n k) (Expr-F.IsCase p e n k) (expr.outs-IsCase p e n k)
    ∙ one_part 11 (n ∷ k ∷ []) (key_of g e)

pub key_ForAll : (g : Standing) (p : Pos) (a b : Expr)
    → key_of g (expr.ForAll p a b) ≡ front_of 15 [] 2 ++ (key_of g a ++ key_of g b)
key_ForAll g p a b =
    at g (expr.ForAll p a b) (Expr-F.ForAll p a b) (expr.outs-ForAll p a b) ∙ two_parts 15 [] (key_of g a) (key_of g b)

pub key_Exists : (g : Standing) (p : Pos) (a b : Expr)
    → key_of g (expr.Exists p a b) ≡ front_of 16 [] 2 ++ (key_of g a ++ key_of g b)
key_Exists g p a b =
    at g (expr.Exists p a b) (Expr-F.Exists p a b) (expr.outs-Exists p a b) ∙ two_parts 16 [] (key_of g a) (key_of g b)

pub key_Map : (g : Standing) (p : Pos) (a b : Expr)
    → key_of g (expr.Map p a b) ≡ front_of 17 [] 2 ++ (key_of g a ++ key_of g b)
key_Map g p a b =
    at g (expr.Map p a b) (Expr-F.Map p a b) (expr.outs-Map p a b) ∙ two_parts 17 [] (key_of g a) (key_of g b)

pub key_Filter : (g : Standing) (p : Pos) (a b : Expr)
    → key_of g (expr.Filter p a b) ≡ front_of 18 [] 2 ++ (key_of g a ++ key_of g b)
key_Filter g p a b =
    at g (expr.Filter p a b) (Expr-F.Filter p a b) (expr.outs-Filter p a b) ∙ two_parts 18 [] (key_of g a) (key_of g b)

pub key_Combine : (g : Standing) (p : Pos) (a b c : Expr)
    → key_of g (expr.Combine p a b c) ≡ front_of 19 [] 3 ++ (key_of g a ++ (key_of g b ++ key_of g c))
key_Combine g p a b c =
    at g (expr.Combine p a b c) (Expr-F.Combine p a b c) (expr.outs-Combine p a b c)
    ∙ three_parts 19 [] (key_of g a) (key_of g b) (key_of g c)

pub key_Contains : (g : Standing) (p q : Pos) (a b : Expr)
    → key_of g (expr.Contains p q a b) ≡ front_of 20 [] 2 ++ (key_of g a ++ key_of g b)
key_Contains g p q a b =
    at g (expr.Contains p q a b) (Expr-F.Contains p q a b) (expr.outs-Contains p q a b)
    ∙ two_parts 20 [] (key_of g a) (key_of g b)

pub key_Length : (g : Standing) (p : Pos) (e : Expr)
    → key_of g (expr.Length p e) ≡ front_of 21 [] 1 ++ key_of g e
key_Length g p e =
    at g (expr.Length p e) (Expr-F.Length p e) (expr.outs-Length p e) ∙ one_part 21 [] (key_of g e)

pub key_Sum : (g : Standing) (p : Pos) (o : SumKind) (e : Expr)
    → key_of g (expr.Sum p o e) ≡ front_of 22 (sum_number o ∷ []) 1 ++ key_of g e
key_Sum g p o e =
    at g (expr.Sum p o e) (Expr-F.Sum p o e) (expr.outs-Sum p o e) ∙ one_part 22 (sum_number o ∷ []) (key_of g e)

pub key_Case_None : (g : Standing) (p : Pos) (n k : ℕ)
    → key_of g (expr.Case p n k None) ≡ front_of 12 (n ∷ k ∷ []) 0
key_Case_None g p n k = at g (expr.Case p n k None) (Expr-F.Case p n k None) (expr.outs-Case p n k None)

pub key_Case_Some : (g : Standing) (p : Pos) (n k : ℕ) (e : Expr)
    → key_of g (expr.Case p n k (Some e)) ≡ front_of 12 (n ∷ k ∷ []) 1 ++ key_of g e
key_Case_Some g p n k e =
    at g (expr.Case p n k (Some e)) (Expr-F.Case p n k (Some e)) (expr.outs-Case p n k (Some e))
    ∙ one_part 12 (n ∷ k ∷ []) (key_of g e)

-- ---- lists of parts

keys_are : (g : Standing) (es : List Expr) → joined (map (key_of g) es) ≡ keys_of g es
keys_are g [] = refl
keys_are g (e ∷ es) = ap (λ (k : List ℕ). key_of g e ++ k) (keys_are g es)

values_are : (g : Standing) (fs : List FieldValue) → joined (values (map (field_of g) fs)) ≡ value_keys g fs
values_are g [] = refl
values_are g (f ∷ fs) =
    ap (λ (x : Slot (List ℕ)). x.1 ++ joined (values (map (field_of g) fs))) (field_is g f)
    ∙ ap (λ (k : List ℕ). key_of g f.value ++ k) (values_are g fs)

values_many : (g : Standing) (fs : List FieldValue) → length (values (map (field_of g) fs)) ≡ length fs
values_many g [] = refl
values_many g (f ∷ fs) = let rest = values_many g fs in omega (arith, rest)

fields_are : (g : Standing) (fs : List FieldValue) → field_numbers (map (field_of g) fs) ≡ fields_in fs
fields_are g [] = refl
fields_are g (f ∷ fs) =
    ap (λ (x : Slot (List ℕ)). x.0 ∷ field_numbers (map (field_of g) fs)) (field_is g f)
    ∙ ap (λ (k : List ℕ). f.field ∷ k) (fields_are g fs)

bodies_are : (g : Standing) (arms : List Arm) → joined (bodies (map (arm_of g) arms)) ≡ body_keys g arms
bodies_are g [] = refl
bodies_are g (a ∷ arms) =
    ap (λ (x : Branch (List ℕ)). x.1 ++ joined (bodies (map (arm_of g) arms))) (arm_is g a)
    ∙ ap (λ (k : List ℕ). key_of g a.body ++ k) (bodies_are g arms)

bodies_many : (g : Standing) (arms : List Arm) → length (bodies (map (arm_of g) arms)) ≡ length arms
bodies_many g [] = refl
bodies_many g (a ∷ arms) = let rest = bodies_many g arms in omega (arith, rest)

patterns_are : (g : Standing) (arms : List Arm) → patterns_numbers (map (arm_of g) arms) ≡ patterns_in arms
patterns_are g [] = refl
patterns_are g (a ∷ arms) =
    ap (λ (x : Branch (List ℕ)). pattern_numbers x.0 ++ patterns_numbers (map (arm_of g) arms)) (arm_is g a)
    ∙ ap (λ (k : List ℕ). pattern_numbers a.pattern ++ k) (patterns_are g arms)

-- the same front where what it is made of is the same
one_front : (form : ℕ) {own own2 : List ℕ} {n m : ℕ} {k l : List ℕ} → own ≡ own2 → n ≡ m → k ≡ l
    → front_of form own n ++ k ≡ front_of form own2 m ++ l
one_front form {own2 = own2} {n = n} {m = m} {k = k} a b c =
    ap (λ (x : List ℕ). front_of form x n ++ k) a ∙ ap (λ (x : ℕ). front_of form own2 x ++ k) b
    ∙ ap (λ (x : List ℕ). front_of form own2 m ++ x) c

pub key_List : (g : Standing) (p : Pos) (es : List Expr)
    → key_of g (expr.List p es) ≡ front_of 14 [] (length es) ++ keys_of g es
key_List g p es =
    at g (expr.List p es) (Expr-F.List p es) (expr.outs-List p es) ∙ in_two 14 [] (map (key_of g) es)
    ∙ one_front 14 {own = []} refl (length-map es (key_of g)) (keys_are g es)

pub key_Call : (g : Standing) (p : Pos) (i : ℕ) (es : List Expr)
    → key_of g (expr.Call p i es) ≡ front_of 23 (i ∷ []) (length es) ++ keys_of g es
key_Call g p i es =
    at g (expr.Call p i es) (Expr-F.Call p i es) (expr.outs-Call p i es) ∙ in_two 23 (i ∷ []) (map (key_of g) es)
    ∙ one_front 23 {own = i ∷ []} refl (length-map es (key_of g)) (keys_are g es)

pub key_Structure : (g : Standing) (p : Pos) (n : ℕ) (fs : List FieldValue)
    → key_of g (expr.Structure p n fs) ≡ front_of 13 (n ∷ fields_in fs) (length fs) ++ value_keys g fs
key_Structure g p n fs =
    at g (expr.Structure p n fs) (Expr-F.Structure p n fs) (expr.outs-Structure p n fs)
    ∙ in_two 13 (n ∷ field_numbers (map (field_of g) fs)) (values (map (field_of g) fs))
    ∙ one_front 13 (ap (λ (k : List ℕ). n ∷ k) (fields_are g fs)) (values_many g fs) (values_are g fs)

pub key_ScopeCall : (g : Standing) (p : Pos) (s : ℕ) (fs : List FieldValue) (k : ℕ)
    → key_of g (expr.ScopeCall p s fs k) ≡ front_of 24 (s ∷ k ∷ fields_in fs) (length fs) ++ value_keys g fs
key_ScopeCall g p s fs k =
    at g (expr.ScopeCall p s fs k) (Expr-F.ScopeCall p s fs k) (expr.outs-ScopeCall p s fs k)
    ∙ in_two 24 (s ∷ k ∷ field_numbers (map (field_of g) fs)) (values (map (field_of g) fs))
    ∙ one_front 24 (ap (λ (l : List ℕ). s ∷ k ∷ l) (fields_are g fs)) (values_many g fs) (values_are g fs)

pub key_Match : (g : Standing) (p : Pos) (e : Expr) (arms : List Arm)
    → key_of g (expr.Match p e arms)
    ≡ front_of 10 (patterns_in arms) (length arms + 1) ++ (key_of g e ++ body_keys g arms)
key_Match g p e arms =
    at g (expr.Match p e arms) (Expr-F.Match p e arms) (expr.outs-Match p e arms)
    ∙ in_two 10 (patterns_numbers (map (arm_of g) arms)) (key_of g e ∷ bodies (map (arm_of g) arms))
    ∙ one_front 10 (patterns_are g arms) (more (bodies_many g arms))
    (ap (λ (k : List ℕ). key_of g e ++ k) (bodies_are g arms))
  where
    more : length (bodies (map (arm_of g) arms)) ≡ length arms
        → length (key_of g e ∷ bodies (map (arm_of g) arms)) ≡ length arms + 1
    more h = omega (arith, h)

pub ruleset keys = (
  key_Literal,
  key_Item,
  key_Output,
  key_Local,
  key_Field,
  key_Unary,
  key_Binary,
  key_And,
  key_Or,
  key_If,
  key_IsCase,
  key_ForAll,
  key_Exists,
  key_Map,
  key_Filter,
  key_Combine,
  key_Contains,
  key_Length,
  key_Sum,
  key_Case_None,
  key_Case_Some,
  key_List,
  key_Call,
  key_Structure,
  key_ScopeCall,
  key_Match,
  append_assoc,
)

-- what is pushed one behind the other
pub front_made : (key : List ℕ) (form : ℕ) (own : List ℕ) (parts : ℕ)
    → key ++ form ∷ [] ++ length own ∷ [] ++ own ++ parts ∷ [] ≡ key ++ front_of form own parts
front_made key form own parts =
    ap (λ (k : List ℕ). k ++ own ++ parts ∷ []) (append_assoc key (form ∷ []) (length own ∷ []))
    ∙ ap (λ (k : List ℕ). k ++ parts ∷ []) (append_assoc key (form ∷ length own ∷ []) own)
    ∙ append_assoc key (form ∷ length own ∷ [] ++ own) (parts ∷ [])

pub ruleset joins = (append_assoc, front_made)
