-- What definitions, rules and assertions mean is typed.
use Rattle.std.proofs.Common.{◌≡◌, ℕ, nat_eq, not, true, false, is_some, IsTrue, List, [], ◌∷◌, length, Option, Some}
use Rattle.std.proofs.Common.{None, Ok, slice_get, refl, sym, ap, subst, arith}
use Rattle.cat_pos.specs.declared.pos.Pos.{Pos}
use Rattle.cat_value.specs.declared.ty.Ty.{Ty}
use Rattle.cat_value.specs.declared.ty.Ty.TheVariants as flat_ty
use Rattle.cat_value.specs.declared.declaration.ItemDecl.{ItemDecl}
use Rattle.cat_value.specs.declared.declaration.Kind.{Kind}
use Rattle.cat_value.specs.declared.declaration.Kind.TheVariants as kind
use Rattle.cat_value.specs.declared.decls.Decls.{Decls}
use Rattle.cat_value.specs.Typing.{is_type}
use Rattle.cat_value.specs.Inputs.{may_be_given}
use Rattle.cat_value.specs.Laws.{AreSound}
use Rattle.cat_tree.specs.declared.name.Name.{Name}
use Rattle.cat_tree.specs.declared.expression.Node.{Node}
use Rattle.cat_tree.specs.declared.program.Lead.{Lead}
use Rattle.cat_tree.specs.declared.program.TargetName.{TargetName}
use Rattle.cat_tree.specs.declared.program.Fulfilled.{Fulfilled}
use Rattle.cat_scope.specs.declared.expr.Expr.{Expr}
use Rattle.cat_scope.specs.declared.expr.Expr.TheVariants as leaf
use Rattle.cat_scope.specs.declared.expr.Literal.TheVariants as literal
use Rattle.cat_scope.specs.declared.defs.Def.{Def}
use Rattle.cat_scope.specs.declared.defs.Assertion as asserted
use Rattle.cat_scope.specs.Names.{Names, AllHave, scope_items}
use Rattle.cat_scope.specs.Naming.{IsTargetAt, is_defined}
use Rattle.cat_scope.specs.HasType.{HasType}
use Rattle.cat_scope.specs.HasType as typed
use Rattle.cat_scope.specs.Expected.{lists_placed, condition_placed, def_placed}
use Rattle.cat_scope.specs.WellFormed.{ConditionTyped, DefTyped, AssertionTyped}
use Rattle.cat_scope.proofs.Exported.{placed_And, placed_Literal}
use Rattle.cat_names.specs.declared.fault.Fault.TheVariants.{NameUnknown}
use Rattle.cat_names.specs.declared.typed.Typed.{Typed}
use Rattle.cat_names.specs.declared.typed.Local.{Local}
use Rattle.cat_names.specs.Found.{or_fault}
use Rattle.cat_names.specs.Types.{is_as_expected, structure_of}
use Rattle.cat_names.specs.Lookup.{item_named, scope_called, types_of}
use Rattle.cat_names.specs.Meaning.{meant}
use Rattle.cat_names.specs.Aims.{Aim, own_aim, inner_aim, part_fault, called_aim, aim_at, aim_of}
use Rattle.cat_names.specs.Definitions.{boolean_of, condition_meant, conjunction, named_params, nameless_params}
use Rattle.cat_names.specs.Definitions.{whole_condition, def_of, definition_meant, is_fulfilled, rule_meant}
use Rattle.cat_names.specs.Definitions.{assertion_meant}
use Rattle.cat_names.specs.Naming.{names_in_scope}
use Rattle.cat_names.specs.TypedMeanings.{OnFound, AreDeclared, IsTyped}
use Rattle.cat_names.proofs.OnFound.{on_then, on_both, on_both_where, on_where, on_or}
use Rattle.cat_names.proofs.SameTypes.{same_is}
use Rattle.cat_names.proofs.Lookups.{first_is}
use Rattle.cat_names.proofs.OperationLaws.{both_true}
use Rattle.cat_names.proofs.DeclaredTypes.{item_declared, param_declared}
use Rattle.cat_names.proofs.CallLaws.{each_all, equal_numbers}
use Rattle.cat_names.proofs.PartLaws.{of_type}
use Rattle.cat_names.proofs.TypingLaws.{each_is_typed}

-- conditions are booleans
abbrev pub AreConditions : Decls → Type 0
AreConditions ds = (scope k : ℕ) (i : ItemDecl) → slice_get (scope_items ds scope) k ≡ Some i → IsTrue i.condition
    → i.ty ≡ flat_ty.Boolean

-- the types of parameters
named_types : (ws : List Name) (ts : List Ty) → length ws ≡ length ts → types_of (named_params ws ts) ≡ ts
named_types [] [] are = refl
named_types [] (t ∷ ts) are = absurd (omega (arith, are))
named_types (w ∷ ws) [] are = absurd (omega (arith, are))
named_types (w ∷ ws) (t ∷ ts) are = ap (λ us. t ∷ us) (named_types ws ts (omega (arith, are)))

nameless_types : (ts : List Ty) → types_of (nameless_params ts) ≡ ts
nameless_types [] = refl
nameless_types (t ∷ ts) = ap (λ us. t ∷ us) (nameless_types ts)

named_declared : (ds : Decls) (ws : List Name) (ts : List Ty) → AllHave (λ t. IsTrue (is_type ds t)) ts
    → AreDeclared ds (named_params ws ts)
named_declared ds [] ts all = tt
named_declared ds (w ∷ ws) [] all = tt
named_declared ds (w ∷ ws) (t ∷ ts) all = (all.0, named_declared ds ws ts all.1)

nameless_declared : (ds : Decls) (ts : List Ty) → AllHave (λ t. IsTrue (is_type ds t)) ts
    → AreDeclared ds (nameless_params ts)
nameless_declared ds [] all = tt
nameless_declared ds (t ∷ ts) all = (all.0, nameless_declared ds ts all.1)

called_kind : (k : Kind) (called : ℕ) → scope_called k ≡ Some called → k ≡ kind.Called called
called_kind (kind.Called s) called h = let is : s ≡ called = cc h in ap (λ n. kind.Called n) is
called_kind _ called h = cc h

module _ (ds : Decls) (sound : AreSound ds) (conditions : AreConditions ds) (scope : ℕ) where
  abbrev ns : Names
  ns = names_in_scope ds scope

  -- ---- targets

  record AimStands (a : Aim) : Type 0 where
    target : IsTargetAt ns a.target.item a.target.inner a.params a.ty
    scope_is : a.target.scope ≡ scope
    params : AllHave (λ t. IsTrue (is_type ds t)) a.params
    declared : IsTrue (is_type ds a.ty)
    boolean : IsTrue a.condition → a.ty ≡ flat_ty.Boolean

  own_stands : (p : Pos) (w : List ℕ) → OnFound AimStands (own_aim scope p (item_named w ns.items))
  own_stands p w = by (item_named w ns.items) refl
    where
      by : (found : Option (ℕ × ItemDecl)) → item_named w ns.items ≡ found → OnFound AimStands (own_aim scope p found)
      by None e = tt
      by (Some i) e = let at = first_is (λ x. x.name) w ns.items i e in
          on_where AimStands (is_defined i.1) _ _ (λ defined. record {
            target = record { decl = i.1; decl_is = at; defined = defined; params_are = refl; ty_is = refl };
            scope_is = refl;
            params = each_all (λ t. IsTrue (is_type ds t)) i.1.params (param_declared ds sound scope i.0 i.1 at);
            declared = item_declared ds sound scope i.0 i.1 at;
            boolean = conditions scope i.0 i.1 at;
          })

  inner_stands : (p : Pos) (i : ℕ × ItemDecl) (called : ℕ) → slice_get ns.items i.0 ≡ Some i.1
      → i.1.kind ≡ kind.Called called → (k : ℕ × ItemDecl) → slice_get (scope_items ds called) k.0 ≡ Some k.1
      → OnFound AimStands (inner_aim scope p i.0 k)
  inner_stands p i called at is k found = on_where AimStands (may_be_given k.1.kind) _ _ (λ given. record {
    target = record {
      called = i.1;
      scope = called;
      decl = k.1;
      called_is = at;
      kind_is = is;
      decl_is = found;
      given = given;
      params_are = refl;
      ty_is = refl;
    };
    scope_is = refl;
    params = tt;
    declared = item_declared ds sound called k.0 k.1 found;
    boolean = conditions called k.0 k.1 found;
  })

  called_stands : (p : Pos) (y : Name) (w : List ℕ)
      → OnFound AimStands (called_aim ns scope p y (item_named w ns.items))
  called_stands p y w = by (item_named w ns.items) refl
    where
      by : (found : Option (ℕ × ItemDecl)) → item_named w ns.items ≡ found
          → OnFound AimStands (called_aim ns scope p y found)
      by None e = tt
      by (Some i) e = let at = first_is (λ x. x.name) w ns.items i e in
          on_then (λ called. scope_called i.1.kind ≡ Some called) AimStands
          (or_fault (part_fault ds p y (structure_of i.1.ty)) (scope_called i.1.kind)) _
          (on_or (part_fault ds p y (structure_of i.1.ty)) (scope_called i.1.kind))
          (λ called is. on_then (λ k. item_named y.text (scope_items ds called) ≡ Some k) AimStands
          (or_fault (NameUnknown y.pos) (item_named y.text (scope_items ds called))) _
          (on_or (NameUnknown y.pos) (item_named y.text (scope_items ds called)))
          (λ k found. on_where AimStands (not (is_some (scope_called k.1.kind))) _ _
          (λ variable. inner_stands p i called at (called_kind i.1.kind called is) k
          (first_is (λ x. x.name) y.text (scope_items ds called) k found))))

  at_stands : (w : Name) (y : Option Name) → OnFound AimStands (aim_at ns scope w y)
  at_stands w None = own_stands w.pos w.text
  at_stands w (Some y) = called_stands w.pos y w.text

  record AimOf (t : TargetName) (a : Aim) : Type 0 where
    stands : AimStands a
    as_many : length t.params ≡ length a.params

  aim_stands : (t : TargetName) → OnFound (AimOf t) (aim_of ns scope t)
  aim_stands t = on_then AimStands (AimOf t) (aim_at ns scope t.name t.inner) _ (at_stands t.name t.inner)
      (λ a h. on_where (AimOf t) (nat_eq (length t.params) (length a.params)) _ (Ok a) (λ are. record {
        stands = h;
        as_many = equal_numbers (length t.params) (length a.params) are;
      }))

  -- ---- conditions

  pub record IsBoolean (ts : List Ty) (x : Typed) : Type 0 where
    pub typed : HasType ns ts x.expr flat_ty.Boolean
    pub placed : IsTrue (lists_placed x.expr false)

  pub boolean_stands : (e : Node) (ls : List Local) → AreDeclared ds ls → OnFound (IsBoolean (types_of ls))
      (boolean_of ns e ls)
  boolean_stands e ls all = on_then (IsTyped ns ls None) (IsBoolean (types_of ls)) (meant ns e ls None) _
      (each_is_typed ds sound scope e ls None all tt)
      (λ x hx. on_where (IsBoolean (types_of ls)) (is_as_expected (Some flat_ty.Boolean) x.ty) _ (Ok x) (λ is. record {
        typed = subst (λ t. HasType ns (types_of ls) x.expr t) (sym (same_is flat_ty.Boolean x.ty is)) hx.has.typed;
        placed = hx.has.placed;
      }))

  abbrev pub AreBoolean : List Ty → Option Typed → Type 0
  AreBoolean ts None = Unit {0}
  AreBoolean ts (Some x) = IsBoolean ts x

  pub condition_stands : (e : Option Node) (ls : List Local) → AreDeclared ds ls → OnFound (AreBoolean (types_of ls))
      (condition_meant ns e ls)
  condition_stands None ls all = tt
  condition_stands (Some e) ls all = on_then (IsBoolean (types_of ls)) (AreBoolean (types_of ls)) (boolean_of ns e ls) _
      (boolean_stands e ls all) (λ x hx. hx)

  record ConditionStands (ts : List Ty) (c : Option Expr) : Type 0 where
    typed : ConditionTyped ns ts c
    placed : IsTrue (condition_placed c)

  joined_stands : (ts : List Ty) (b c : Option Typed) → AreBoolean ts b → AreBoolean ts c
      → ConditionStands ts (conjunction b c)
  joined_stands ts None None hb hc = record { typed = tt; placed = refl }
  joined_stands ts (Some b) None hb hc = record { typed = hb.typed; placed = hb.placed }
  joined_stands ts None (Some c) hb hc = record { typed = hc.typed; placed = hc.placed }
  joined_stands ts (Some b) (Some c) hb hc = record {
    typed = typed.both hb.typed hc.typed;
    placed = rw (placed_And b.first b.expr c.expr) (both_true _ _ hb.placed hc.placed);
  }

  whole_stands : (block c : Option Node) (ws : List Name) (ts : List Ty) → AllHave (λ t. IsTrue (is_type ds t)) ts
      → length ws ≡ length ts → OnFound (ConditionStands ts) (whole_condition ns block c ws ts)
  whole_stands block c ws ts all are =
      on_both (AreBoolean ts) (AreBoolean ts) (ConditionStands ts) (condition_meant ns block (nameless_params ts))
      (condition_meant ns c (named_params ws ts)) _
      (subst (λ us. OnFound (AreBoolean us) (condition_meant ns block (nameless_params ts))) (nameless_types ts)
      (condition_stands block (nameless_params ts) (nameless_declared ds ts all)))
      (subst (λ us. OnFound (AreBoolean us) (condition_meant ns c (named_params ws ts))) (named_types ws ts are)
      (condition_stands c (named_params ws ts) (named_declared ds ws ts all)))
      (λ b own hb hown. joined_stands ts b own hb hown)

  -- ---- definitions, rules and assertions

  pub record DefStands (d : Def) : Type 0 where
    pub typed : DefTyped ns scope d
    pub placed : IsTrue (def_placed d)

  def_stands : (l : Lead) (p : Pos) (t : TargetName) (a : Aim) → AimOf t a → (c : Option Expr)
      → ConditionStands a.params c
      → (e : Expr) → HasType ns a.params e a.ty → IsTrue (lists_placed e true) → DefStands (def_of l p a c e)
  def_stands l p t a ha c hc e typed placed = record {
    typed = record {
      params = a.params;
      ty = a.ty;
      scope_is = ha.stands.scope_is;
      target = ha.stands.target;
      counted =
          refl;
      condition = hc.typed;
      consequence = typed;
    };
    placed = both_true _ _ hc.placed placed;
  }

  pub definition_stands : (block : Option Node) (l : Lead) (p : Pos) (t : TargetName) (c : Option Node) (e : Node)
      → OnFound DefStands (definition_meant ns scope block l p t c e)
  definition_stands block l p t c e = on_then (AimOf t) DefStands (aim_of ns scope t) _ (aim_stands t)
      (λ a ha. on_both (ConditionStands a.params) (IsTyped ns (named_params t.params a.params) (Some a.ty)) DefStands
      (whole_condition ns block c t.params a.params) (meant ns e (named_params t.params a.params) (Some a.ty)) _
      (whole_stands block c t.params a.params ha.stands.params ha.as_many)
      (each_is_typed ds sound scope e (named_params t.params a.params) (Some a.ty)
      (named_declared ds t.params a.params ha.stands.params) ha.stands.declared)
      (λ condition x hc hx. def_stands l p t a ha condition hc x.expr
      (subst (λ us. HasType ns us x.expr a.ty) (named_types t.params a.params ha.as_many)
      (of_type ds sound scope (named_params t.params a.params) a.ty x hx)) hx.has.placed))

  pub rule_stands : (block : Option Node) (l : Lead) (p : Pos) (t : TargetName) (c : Option Node) (f : Fulfilled)
      → OnFound DefStands (rule_meant ns scope block l p t c f)
  rule_stands block l p t c f = on_then (AimOf t) DefStands (aim_of ns scope t) _ (aim_stands t)
      (λ a ha. on_both_where (ConditionStands a.params) DefStands a.condition _ a
      (whole_condition ns block c t.params a.params) _
      (λ is. whole_stands block c t.params a.params ha.stands.params ha.as_many)
      (λ is condition hc. def_stands l p t a ha condition hc (leaf.Literal p (literal.Boolean (is_fulfilled f)))
      (subst (λ u. HasType ns a.params (leaf.Literal p (literal.Boolean (is_fulfilled f))) u)
      (sym (ha.stands.boolean is)) (typed.literal refl))
      (rw (placed_Literal p (literal.Boolean (is_fulfilled f))) refl)))

  pub record AssertionStands (a : asserted.Assertion) : Type 0 where
    pub typed : AssertionTyped ns a
    pub placed : IsTrue (lists_placed a.condition false)

  pub assertion_stands : (p : Pos) (e : Node) → OnFound AssertionStands (assertion_meant ns p e)
  assertion_stands p e = on_then (IsBoolean []) AssertionStands (boolean_of ns e []) _ (boolean_stands e [] tt)
      (λ x hx. record { typed = hx.typed; placed = hx.placed })
