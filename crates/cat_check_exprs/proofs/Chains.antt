-- What each form means, part after part: then the exit of a part is the exit of the whole.
use Rattle.std.proofs.Common.{◌≡◌, ◌∙◌, ℕ, zero, suc, List, [], ◌∷◌, ◌++◌, Option, Some, None, Ok, Err, refl, ap}
use Rattle.std.proofs.Common.{sym, min, option_map, arith, rules}
use Rattle.std.proofs.lemmas.List.{append_assoc}
use Rattle.std.proofs.Common.{Bool, true, false, nat_eq}
use Rattle.std.specs.Option.{is_some}
use Rattle.cat_pos.specs.declared.pos.Pos.{Pos}
use Rattle.cat_value.specs.declared.ty.Ty.{Ty}
use Rattle.cat_value.specs.declared.ty.Ty.TheViews as types
use Rattle.cat_value.specs.Entries.{content_of}
use Rattle.cat_tree.specs.Accumulation.{accumulation}
use Rattle.cat_tree.specs.declared.name.Name.{Name}
use Rattle.cat_tree.specs.declared.name.CaseName.{CaseName}
use Rattle.cat_tree.specs.declared.name.Type as written
use Rattle.cat_tree.specs.declared.expression.Operator.{Operator}
use Rattle.cat_tree.specs.declared.expression.Each.{Each}
use Rattle.cat_tree.specs.declared.expression.Pattern.{Pattern}
use Rattle.cat_tree.specs.declared.expression.Pattern.TheVariants as patterns
use Rattle.cat_tree.specs.declared.expression.SurfaceArm.{SurfaceArm}
use Rattle.cat_tree.specs.declared.expression.Node.{Node}
use Rattle.cat_tree.specs.declared.expression.Node.TheViews as node
use Rattle.cat_tree.specs.declared.expression.Node.TheViews.{out-Node}
use Rattle.cat_scope.specs.declared.expr.Arm as bodies
use Rattle.cat_scope.specs.declared.expr.Expr.{Expr}
use Rattle.cat_scope.specs.declared.expr.ArmPattern.{ArmPattern}
use Rattle.cat_scope.specs.declared.expr.ArmPattern.TheVariants as resolved
use Rattle.cat_scope.specs.Names.{Names}
use Rattle.cat_names.specs.declared.typed.Local.{Local}
use Rattle.cat_names.specs.declared.typed.Typed.{Typed}
use Rattle.cat_names.specs.declared.fault.Fault.{Fault}
use Rattle.cat_names.specs.declared.fault.Fault.TheVariants.{MatchCases, NameUnknown, TypeMismatch}
use Rattle.cat_names.specs.Compound.{combine_over, content_of_type, dotted, over_list}
use Rattle.cat_names.specs.Found.{Found, and_then, both, faulty, or_fault, where_true}
use Rattle.cat_names.specs.Forms.{bound, combine_of, each_of, output_of}
use Rattle.cat_names.specs.Lookup.{base_type, nested_list, type_found, type_names}
use Rattle.cat_names.specs.Meaning.{arm_meant, meant, name_alone}
use Rattle.cat_names.specs.Naming.{Called, called_scope, case_found, case_first}
use Rattle.cat_names.specs.Operations.{as_expected, binary_of, sum_of}
use Rattle.cat_names.specs.Parts.{Meaning}
use Rattle.cat_names.specs.Parts as parts
use Rattle.cat_names.specs.Types.{element_of, flat_of}
use Rattle.cat_names.proofs.Exported.{meant_Binary, meant_Call, meant_Case, meant_Combine, meant_Content, meant_Each}
use Rattle.cat_names.proofs.Exported.{meant_Field, meant_If, meant_List, meant_Literal, meant_Match, meant_Name}
use Rattle.cat_names.proofs.Exported.{meant_Parens, meant_Prefixed, meant_ScopeCall, meant_Structure, meant_Sum}
use Rattle.cat_names.proofs.Exported.{meant_Test, views}
use Rattle.cat_check_forms.specs.Taken.{content_bound, cut, element_bound, none_of, output_found, pattern_bound}
use Rattle.cat_check_forms.specs.Taken.{some_content, with_content, with_local}
use Rattle.cat_check_exprs.specs.inside.Chains.{behind, or_field, paired}

-- two parts, and then what follows from them
both_is : {A B C : Type 0} (a : Found A) (b : Found B) (go : A → B → Found C)
    → both a b go ≡ and_then (paired a b) (λ p. go p.0 p.1)
both_is (Ok x) (Ok y) go = refl
both_is (Ok x) (Err fs) go = refl
both_is (Err fs) (Ok y) go = refl
both_is (Err fs) (Err gs) go = refl

-- two things that may be found go on alike
alike : {A B : Type 0} (found : Found A) (go more : A → Found B) → ((a : A) → go a ≡ more a)
    → and_then found go ≡ and_then found more
alike (Ok a) go more same = same a
alike (Err fs) go more same = refl

pub chain_Binary : (ns : Names) (o : Operator) (p : Pos) (a b : Node) (ls : List Local) (ex : Option Ty)
    → meant ns (node.Binary o p a b) ls ex ≡ as_expected ex
    (and_then (paired (meant ns a ls None) (meant ns b ls None)) (λ operands. binary_of o p operands.0 operands.1))
chain_Binary ns o p a b ls ex = meant_Binary ns o p a b ls ex
    ∙ ap (as_expected ex) (both_is (meant ns a ls None) (meant ns b ls None) (binary_of o p))

-- a form over a list, and then under the name for its elements
over_is : (p : Pos) (w : Name) (e : Found Ty) (go : Local → Found Typed)
    → and_then e (λ t. go (bound w t)) ≡ and_then (and_then e (λ t. Ok (bound w t))) go
over_is p w (Ok t) go = refl
over_is p w (Err fs) go = refl

pub chain_Each : (ns : Names) (k : Each) (p : Pos) (w : Name) (l e : Node) (ls : List Local) (ex : Option Ty)
    → meant ns (node.Each k p w l e) ls ex ≡ as_expected ex
    (and_then (meant ns l ls None) (λ x. and_then (element_bound p w x)
    (λ local. and_then (meant ns e (ls ++ local ∷ []) None) (each_of ns k p x))))
chain_Each ns k p w l e ls ex = meant_Each ns k p w l e ls ex
    ∙ ap (as_expected ex) (alike (meant ns l ls None) (over_list ns k p w (meant ns e) ls)
    (λ x. and_then (element_bound p w x) (λ local. and_then (meant ns e (ls ++ local ∷ []) None) (each_of ns k p x)))
    (λ x. over_is p w (or_fault (TypeMismatch p) (element_of x.ty))
    (λ local. and_then (meant ns e (ls ++ local ∷ []) None) (each_of ns k p x))))

pub chain_Combine : (ns : Names) (p : Pos) (w : Name) (l : Node) (acc : Name) (s e : Node) (ls : List Local)
    (ex : Option Ty)
    → meant ns (node.Combine (accumulation p w acc) l s e) ls ex ≡ as_expected ex
    (and_then (paired (meant ns l ls None) (meant ns s ls None)) (λ x. and_then (element_bound p w x.0)
    (λ local. and_then (meant ns e (ls ++ local ∷ [] ++ bound acc x.1.ty ∷ []) (Some x.1.ty)) (combine_of p x.0 x.1))))
chain_Combine ns p w l acc s e ls ex = meant_Combine ns p w l acc s e ls ex
    ∙ ap (as_expected ex) (both_is (meant ns l ls None) (meant ns s ls None) (combine_over p w acc (meant ns e) ls)
    ∙ alike (paired (meant ns l ls None) (meant ns s ls None))
    (λ x. combine_over p w acc (meant ns e) ls x.0 x.1)
    (λ x. and_then (element_bound p w x.0) (λ local. and_then
    (meant ns e (ls ++ local ∷ [] ++ bound acc x.1.ty ∷ []) (Some x.1.ty)) (combine_of p x.0 x.1)))
    (λ x. under x.0 x.1))
  where
    under : (l s : Typed) → combine_over p w acc (meant ns e) ls l s ≡ and_then (element_bound p w l)
        (λ local. and_then (meant ns e (ls ++ local ∷ [] ++ bound acc s.ty ∷ []) (Some s.ty)) (combine_of p l s))
    under l s = alike (or_fault (TypeMismatch p) (element_of l.ty))
        (λ t. and_then (meant ns e (ls ++ bound w t ∷ bound acc s.ty ∷ []) (Some s.ty)) (combine_of p l s))
        (λ t. and_then (meant ns e (ls ++ bound w t ∷ [] ++ bound acc s.ty ∷ []) (Some s.ty)) (combine_of p l s))
        (λ t. ap (λ inside. and_then (meant ns e inside (Some s.ty)) (combine_of p l s))
        (sym (append_assoc ls (bound w t ∷ []) (bound acc s.ty ∷ []))))
        ∙ over_is p w (or_fault (TypeMismatch p) (element_of l.ty))
        (λ local. and_then (meant ns e (ls ++ local ∷ [] ++ bound acc s.ty ∷ []) (Some s.ty)) (combine_of p l s))

-- an output of a called scope, or else a field
through : (ns : Names) (w : Name) (base found : Found Typed)
    → found ≡ and_then (and_then found (λ x. Ok (Some x))) (or_field ns w base)
through ns w base (Ok x) = refl
through ns w base (Err fs) = refl

dotted_is : (ns : Names) (w : Name) (e : Meaning) (ls : List Local) (called : Option Called)
    → dotted ns w e ls called ≡ and_then (output_found ns w called) (or_field ns w (e ls None))
dotted_is ns w e ls None = refl
dotted_is ns w e ls (Some called) = through ns w (e ls None) (output_of ns w called)

pub chain_Field : (ns : Names) (e : Node) (w : Name) (ls : List Local) (ex : Option Ty)
    → meant ns (node.Field e w) ls ex ≡ as_expected ex
    (and_then (output_found ns w (called_scope ns (name_alone (out-Node e)) ls)) (or_field ns w (meant ns e ls None)))
chain_Field ns e w ls ex = meant_Field ns e w ls ex
    ∙ ap (as_expected ex) (dotted_is ns w (meant ns e) ls (called_scope ns (name_alone (out-Node e)) ls))

-- a list is nothing that is added up
no_sum : (p : Pos) (t : Ty) (l : Typed) → sum_of p (types.List t) l ≡ faulty (TypeMismatch p)
no_sum p t l = rw (none t) refl
  where
    none : (u : Ty) → flat_of (types.List u) ≡ None
    none u = search (rules, views)

sums : (p : Pos) (t u : Ty) (l : Found Typed)
    → both (Ok (types.List t)) l (sum_of p) ≡ both (Ok (types.List u)) l (sum_of p)
sums p t u (Ok l) = no_sum p t l ∙ sym (no_sum p u l)
sums p t u (Err fs) = refl

one : (n : ℕ) → 1 ≡ min (suc (suc n)) 1
one n = omega arith

sum_cut : (p at : Pos) (n : ℕ) (t : Option Ty) (l : Found Typed)
    → both (or_fault (NameUnknown at) (option_map (nested_list n) t)) l (sum_of p)
    ≡ both (or_fault (NameUnknown at) (option_map (nested_list (min n 1)) t)) l (sum_of p)
sum_cut p at n None l = refl
sum_cut p at zero (Some t) l = refl
sum_cut p at (suc zero) (Some t) l = refl
sum_cut p at (suc (suc n)) (Some t) l = sums p (nested_list (suc n) t) t l
    ∙ ap (λ (k : ℕ). both (Ok (nested_list k t)) l (sum_of p)) (one n)

pub chain_Sum : (ns : Names) (p : Pos) (t : written.Type) (l : Node) (ls : List Local) (ex : Option Ty)
    → meant ns (node.Sum p t l) ls ex ≡ as_expected ex
    (both (type_found (type_names ns.decls) (cut t)) (meant ns l ls None) (sum_of p))
chain_Sum ns p t l ls ex = meant_Sum ns p t l ls ex
    ∙ ap (as_expected ex) (sum_cut p t.pos t.lists (base_type (type_names ns.decls) t.base) (meant ns l ls None))

-- a case with its content
content_is : (p : Pos) (k : ℕ × ℕ) (e : Meaning) (ls : List Local) (content : Option (Option Ty))
    → content_of_type p k e ls content
    ≡ and_then (e ls (some_content content)) (with_content p k (some_content content))
content_is p k e ls None = refl
content_is p k e ls (Some None) = refl
content_is p k e ls (Some (Some t)) = refl

pub chain_Content : (ns : Names) (c : CaseName) (e : Node) (ls : List Local) (ex : Option Ty)
    → meant ns (node.Content c e) ls ex ≡ as_expected ex (and_then (case_found ns c) (λ k. and_then
    (meant ns e ls (some_content (content_of ns.decls k.0 k.1)))
    (with_content (case_first c) k (some_content (content_of ns.decls k.0 k.1)))))
chain_Content ns c e ls ex = meant_Content ns c e ls ex
    ∙ ap (as_expected ex) (alike (case_found ns c)
    (λ k. content_of_type (case_first c) k (meant ns e) ls (content_of ns.decls k.0 k.1))
    (λ k. and_then (meant ns e ls (some_content (content_of ns.decls k.0 k.1)))
    (with_content (case_first c) k (some_content (content_of ns.decls k.0 k.1))))
    (λ k. content_is (case_first c) k (meant ns e) ls (content_of ns.decls k.0 k.1)))

-- an arm, and what its pattern binds
bound_on : {A : Type 0} (p : Pos) (q : ArmPattern) (w : Option Name) (content : Option (Option Ty)) (ls : List Local)
    (go : ArmPattern × List Local → Found A)
    → and_then (and_then {B = ArmPattern × List Local} (parts.with_content p w content ls)
    (λ inside. Ok (q, inside))) go
    ≡ and_then (and_then {B = ArmPattern × Option Local} (content_bound p w content) (λ local. Ok (q, local)))
    (λ b. go (b.0, with_local ls b.1))
bound_on p q None content ls go = refl
bound_on p q (Some w) None ls go = refl
bound_on p q (Some w) (Some None) ls go = refl
bound_on p q (Some w) (Some (Some t)) ls go = refl

tested_on : {A B C : Type 0} (test : Bool) (fault : Fault) (a : Found A) (b : Found B) (go : A → Found C)
    (more : B → Found C) → and_then a go ≡ and_then b more
    → and_then (where_true test fault a) go ≡ and_then (where_true test fault b) more
tested_on true fault a b go more same = same
tested_on false fault a b go more same = refl

found_on : {A B C D : Type 0} (found : Found D) (f : D → Found A) (g : D → Found B) (go : A → Found C)
    (more : B → Found C) → ((d : D) → and_then (f d) go ≡ and_then (g d) more)
    → and_then (and_then found f) go ≡ and_then (and_then found g) more
found_on (Ok d) f g go more same = same d
found_on (Err fs) f g go more same = refl

abbrev names_of : Pos → Option Name → Option (Option Ty) → List Local → ℕ → Found (ArmPattern × List Local)
names_of p w content ls k =
    and_then (parts.with_content p w content ls) (λ inside. Ok (resolved.Case k (is_some w), inside))

abbrev name_of : Pos → Option Name → Option (Option Ty) → ℕ → Found (ArmPattern × Option Local)
name_of p w content k = and_then (content_bound p w content) (λ local. Ok (resolved.Case k (is_some w), local))

pattern_is : {A : Type 0} (ns : Names) (p : Pos) (n : ℕ) (q : Pattern) (ls : List Local)
    (go : ArmPattern × List Local → Found A) → and_then (parts.pattern_of ns p n q ls) go
    ≡ and_then (pattern_bound ns p n q) (λ b. go (b.0, with_local ls b.1))
pattern_is ns p n patterns.Anything ls go = refl
pattern_is ns p n (patterns.Case c w) ls go = found_on (case_found ns c)
    (λ k. where_true (nat_eq k.0 n) (TypeMismatch p) (names_of p w (content_of ns.decls n k.1) ls k.1))
    (λ k. where_true (nat_eq k.0 n) (TypeMismatch p) (name_of p w (content_of ns.decls n k.1) k.1))
    go (λ b. go (b.0, with_local ls b.1))
    (λ k. tested_on (nat_eq k.0 n) (TypeMismatch p) (names_of p w (content_of ns.decls n k.1) ls k.1)
    (name_of p w (content_of ns.decls n k.1) k.1) go (λ b. go (b.0, with_local ls b.1))
    (bound_on p (resolved.Case k.1 (is_some w)) w (content_of ns.decls n k.1) ls go))

pub chain_arm : (ns : Names) (p : Pos) (n : ℕ) (a : SurfaceArm) (ls : List Local) (ex : Option Ty)
    → parts.arm_of ns p n (arm_meant ns a) ls ex ≡ and_then (pattern_bound ns p n a.pattern)
    (λ b. and_then (meant ns a.body (with_local ls b.1) ex)
    (λ x. Ok (record { pattern = b.0; body = x.expr }, x.ty)))
chain_arm ns p n a ls ex = pattern_is {A = bodies.Arm × Ty} ns p n a.pattern ls
    (λ q. and_then (meant ns a.body q.1 ex) (λ x. Ok (record { pattern = q.0; body = x.expr }, x.ty)))

pub ruleset arms = (chain_arm)

-- a first part, and those behind it
led_by : {A B : Type 0} (x : A) (t : B) (found : Found (List A))
    → and_then {B = List A × B} found (λ xs. Ok (x ∷ xs, t))
    ≡ and_then {B = List A × B} (behind (x ∷ []) found) (λ xs. Ok (xs, t))
led_by x t (Ok xs) = refl
led_by x t (Err fs) = refl

pub chain_arms : (ns : Names) (p : Pos) (n : ℕ) (all : List SurfaceArm) (a : SurfaceArm) (rest : List SurfaceArm)
    (ls : List Local)
    (ex : Option Ty) → all ≡ a ∷ rest → parts.arms_of (arm_meant ns) ns p n all ls ex
    ≡ and_then (parts.arm_of ns p n (arm_meant ns a) ls ex) (λ x.
    and_then (behind (x.0 ∷ []) (parts.all_arms (arm_meant ns) ns p n rest ls x.1)) (λ xs. Ok (xs, x.1)))
chain_arms ns p n all a rest ls ex is = ap (λ arms. parts.arms_of (arm_meant ns) ns p n arms ls ex) is
    ∙ alike (parts.arm_of ns p n (arm_meant ns a) ls ex)
    (λ x. and_then {B = List bodies.Arm × Ty} (parts.all_arms (arm_meant ns) ns p n rest ls x.1)
    (λ xs. Ok (x.0 ∷ xs, x.1)))
    (λ x. and_then {B = List bodies.Arm × Ty} (behind (x.0 ∷ []) (parts.all_arms (arm_meant ns) ns p n rest ls x.1))
    (λ xs. Ok (xs, x.1)))
    (λ x. led_by x.0 x.1 (parts.all_arms (arm_meant ns) ns p n rest ls x.1))

pub no_arms : (ns : Names) (p : Pos) (n : ℕ) (all : List SurfaceArm) (ls : List Local) (ex : Option Ty) → all ≡ []
    → parts.arms_of (arm_meant ns) ns p n all ls ex ≡ faulty (MatchCases p)
no_arms ns p n all ls ex is = ap (λ arms. parts.arms_of (arm_meant ns) ns p n arms ls ex) is

pub ruleset all_arms = (chain_arms, no_arms)

pub chain_elements : (ns : Names) (p : Pos) (all : List Node) (e : Node) (rest : List Node) (ls : List Local)
    (ex : Option Ty) → all ≡ e ∷ rest → parts.elements_of (meant ns) p all ls ex
    ≡ and_then (meant ns e ls ex) (λ x.
    and_then (behind (x.expr ∷ []) (parts.all_of_type (meant ns) rest ls x.ty)) (λ xs. Ok (xs, x.ty)))
chain_elements ns p all e rest ls ex is = ap (λ es. parts.elements_of (meant ns) p es ls ex) is
    ∙ alike (meant ns e ls ex)
    (λ x. and_then {B = List Expr × Ty} (parts.all_of_type (meant ns) rest ls x.ty) (λ xs. Ok (x.expr ∷ xs, x.ty)))
    (λ x. and_then {B = List Expr × Ty} (behind (x.expr ∷ []) (parts.all_of_type (meant ns) rest ls x.ty))
    (λ xs. Ok (xs, x.ty)))
    (λ x. led_by x.expr x.ty (parts.all_of_type (meant ns) rest ls x.ty))

-- no elements
pub chain_none : (ns : Names) (p : Pos) (all : List Node) (ls : List Local) (ex : Option Ty) → all ≡ []
    → parts.elements_of (meant ns) p all ls ex ≡ none_of p ex
chain_none ns p all ls ex is = ap (λ es. parts.elements_of (meant ns) p es ls ex) is ∙ none ex
  where
    none : (ex : Option Ty) → parts.elements_of (meant ns) p [] ls ex ≡ none_of p ex
    none None = refl
    none (Some t) = refl

pub ruleset elements = (chain_elements, chain_none)

-- what each form means, part after part
pub ruleset chains = (
  meant_Literal,
  meant_Name,
  meant_Case,
  meant_Parens,
  chain_Field,
  meant_Prefixed,
  chain_Sum,
  chain_Content,
  meant_Call,
  chain_Binary,
  meant_Test,
  meant_List,
  meant_Structure,
  meant_ScopeCall,
  meant_If,
  meant_Match,
  chain_Each,
  chain_Combine,
)
