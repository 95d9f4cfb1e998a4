-- Elements, arguments, fields and arms have their types.
use Rattle.std.proofs.Common.{◌≡◌, ℕ, Bool, true, IsTrue, is_some, List, [], ◌∷◌, ◌++◌, length, map, Option}
use Rattle.std.proofs.Common.{Some, None, refl, sym, ap, subst, arith}
use Rattle.cat_pos.specs.declared.pos.Pos.{Pos}
use Rattle.cat_value.specs.declared.ty.Ty.{Ty}
use Rattle.cat_value.specs.declared.decls.Decls.{Decls}
use Rattle.cat_value.specs.Typing.{is_type}
use Rattle.cat_value.specs.Laws.{AreSound}
use Rattle.cat_tree.specs.declared.name.Name.{Name}
use Rattle.cat_scope.specs.declared.expr.Expr.{Expr}
use Rattle.cat_scope.specs.declared.expr.FieldValue.{FieldValue}
use Rattle.cat_scope.specs.Names.{Names, AllHave}
use Rattle.cat_scope.specs.HasType.{HasType, AllHaveType, EachHasType, FieldsHaveType}
use Rattle.cat_scope.specs.HasType as typed
use Rattle.cat_scope.specs.Expected.{lists_placed, all_placed, row_placed}
use Rattle.cat_scope.proofs.Exported.{fields_placed, Each}
use Rattle.cat_names.specs.declared.fault.Fault.TheVariants.{NameUnknown}
use Rattle.cat_names.specs.declared.typed.Typed.{Typed}
use Rattle.cat_names.specs.declared.typed.Local.{Local}
use Rattle.cat_names.specs.Found.{or_fault}
use Rattle.cat_names.specs.Lookup.{types_of}
use Rattle.cat_names.specs.Parts.{Meaning, all_of_type, elements_of, arguments_of, value_of, values_of}
use Rattle.cat_names.specs.Naming.{names_in_scope}
use Rattle.cat_names.specs.TypedMeanings.{OnFound, AreDeclared, IsExpected, IsTyped}
use Rattle.cat_names.proofs.OnFound.{on_then, on_both, on_or}
use Rattle.cat_names.proofs.SameTypes.{same_is}
use Rattle.cat_names.proofs.OperationLaws.{both_true}

-- the types of bound names and of one more
pub types_join : (locals : List Local) (l : Local) → types_of (locals ++ l ∷ []) ≡ types_of locals ++ l.ty ∷ []
types_join [] l = refl
types_join (k ∷ locals) l = ap (λ ts. k.ty ∷ ts) (types_join locals l)

pub declared_join : (ds : Decls) (locals : List Local) (l : Local) → AreDeclared ds locals → IsTrue (is_type ds l.ty)
    → AreDeclared ds (locals ++ l ∷ [])
declared_join ds [] l all h = (h, tt)
declared_join ds (k ∷ locals) l all h = (all.0, declared_join ds locals l all.1 h)

module _ (ds : Decls) (sound : AreSound ds) (scope : ℕ) where
  abbrev ns : Names
  ns = names_in_scope ds scope

  -- a meaning has its type, wherever it stands
  abbrev pub Sound : Meaning → Type 0
  Sound m = (ls : List Local) (ex : Option Ty) → AreDeclared ds ls → IsExpected ds ex → OnFound (IsTyped ns ls ex)
      (m ls ex)

  -- an expression of an expected type has that type
  pub of_type : (ls : List Local) (t : Ty) (x : Typed) → IsTyped ns ls (Some t) x → HasType ns (types_of ls) x.expr t
  of_type ls t x h = subst (λ u. HasType ns (types_of ls) x.expr u) (sym (same_is t x.ty h.fit)) h.has.typed

  -- each of some elements has the type, and its lists their places
  pub record AllStand (ls : List Local) (t : Ty) (xs : List Expr) : Type 0 where
    pub typed : AllHaveType ns (types_of ls) xs t
    pub placed : IsTrue (all_placed (map lists_placed xs))

  pub record RowStands (ls : List Local) (expected : Bool) (row : List Expr × Ty) : Type 0 where
    pub typed : AllHaveType ns (types_of ls) row.0 row.1
    pub placed : IsTrue (row_placed (map lists_placed row.0) expected)
    pub declared : IsTrue (is_type ds row.1)

  module _ {A : Type 0} (means : A → Meaning) where
    pub all_stand : (xs : List A) → Each (λ x. Sound (means x)) xs → (ls : List Local) (t : Ty) → AreDeclared ds ls
        → IsTrue (is_type ds t) → OnFound (AllStand ls t) (all_of_type means xs ls t)
    all_stand [] each ls t all h = record { typed = typed.all_none; placed = refl }
    all_stand (e ∷ es) each ls t all h =
        on_both (IsTyped ns ls (Some t)) (AllStand ls t) (AllStand ls t) (means e ls (Some t))
        (all_of_type means es ls t) _
        (each.0 ls (Some t) all h) (all_stand es each.1 ls t all h)
        (λ x xs hx hxs. record {
          typed = typed.all_more (of_type ls t x hx) hxs.typed;
          placed = both_true _ _ hx.has.placed hxs.placed;
        })

    pub row_stands : (p : Pos) (xs : List A) → Each (λ x. Sound (means x)) xs → (ls : List Local) (ex : Option Ty)
        → AreDeclared ds ls → IsExpected ds ex → OnFound (RowStands ls (is_some ex)) (elements_of means p xs ls ex)
    row_stands p [] each ls None all h = tt
    row_stands p [] each ls (Some t) all h = record { typed = typed.all_none; placed = refl; declared = h }
    row_stands p (e ∷ es) each ls ex all h =
        on_then (IsTyped ns ls ex) (RowStands ls (is_some ex)) (means e ls ex) _ (each.0 ls ex all h)
        (λ x hx. on_then (AllStand ls x.ty) (RowStands ls (is_some ex)) (all_of_type means es ls x.ty) _
        (all_stand es each.1 ls x.ty all hx.has.declared)
        (λ xs hxs. record {
          typed = typed.all_more hx.has.typed hxs.typed;
          placed = both_true _ _ hx.has.placed hxs.placed;
          declared = hx.has.declared;
        }))

    -- arguments have the types of their parameters
    pub record ArgumentsStand (ls : List Local) (ts : List Ty) (xs : List Expr) : Type 0 where
      pub typed : EachHasType ns (types_of ls) xs ts
      pub placed : IsTrue (all_placed (map lists_placed xs))

    pub arguments_stand : (xs : List A) → Each (λ x. Sound (means x)) xs → (ls : List Local) (ts : List Ty)
        → AreDeclared ds ls → AllHave (λ t. IsTrue (is_type ds t)) ts → length xs ≡ length ts
        → OnFound (ArgumentsStand ls ts) (arguments_of means xs ls ts)
    arguments_stand [] each ls [] all params are = record { typed = typed.each_none; placed = refl }
    arguments_stand [] each ls (t ∷ ts) all params are = absurd (omega (arith, are))
    arguments_stand (e ∷ es) each ls [] all params are = absurd (omega (arith, are))
    arguments_stand (e ∷ es) each ls (t ∷ ts) all params are =
        on_both (IsTyped ns ls (Some t)) (ArgumentsStand ls ts) (ArgumentsStand ls (t ∷ ts)) (means e ls (Some t))
        (arguments_of means es ls ts) _
        (each.0 ls (Some t) all params.0) (arguments_stand es each.1 ls ts all params.1 (omega (arith, are)))
        (λ x xs hx hxs. record {
          typed = typed.each_more (of_type ls t x hx) hxs.typed;
          placed = both_true _ _ hx.has.placed hxs.placed;
        })

  -- fields have the types of their numbers
  pub record ValuesStand (ls : List Local) (types : ℕ → Option Ty) (xs : List FieldValue) : Type 0 where
    pub typed : FieldsHaveType ns (types_of ls) types xs
    pub placed : IsTrue (fields_placed xs)

  pub record ValueStands (ls : List Local) (types : ℕ → Option Ty) (x : FieldValue) : Type 0 where
    pub ty : Ty
    pub numbered : types x.field ≡ Some ty
    pub typed : HasType ns (types_of ls) x.value ty
    pub placed : IsTrue (lists_placed x.value true)

  module _ {A : Type 0} (means : A → Name × Meaning) (field : List ℕ → Option (ℕ × Ty)) (types : ℕ → Option Ty)
      (is : (w : List ℕ) (k : ℕ × Ty) → field w ≡ Some k → types k.0 ≡ Some k.1)
      (declared : (w : List ℕ) (k : ℕ × Ty) → field w ≡ Some k → IsTrue (is_type ds k.1)) where
    value_stands : (f : A) → Sound ((means f).1) → (ls : List Local) → AreDeclared ds ls
        → OnFound (ValueStands ls types) (value_of field (means f) ls)
    value_stands f h ls all = on_then (λ k. field ((means f).0.text) ≡ Some k) (ValueStands ls types)
        (or_fault (NameUnknown ((means f).0.pos)) (field ((means f).0.text))) _
        (on_or (NameUnknown ((means f).0.pos)) (field ((means f).0.text)))
        (λ k e. on_then (IsTyped ns ls (Some k.1)) (ValueStands ls types) ((means f).1 ls (Some k.1)) _
        (h ls (Some k.1) all (declared ((means f).0.text) k e))
        (λ x hx. record {
          ty = k.1;
          numbered = is ((means f).0.text) k e;
          typed = of_type ls k.1 x hx;
          placed =
              hx.has.placed;
        }))

    pub values_stand : (fs : List A) → Each (λ f. Sound ((means f).1)) fs → (ls : List Local) → AreDeclared ds ls
        → OnFound (ValuesStand ls types) (values_of means field fs ls)
    values_stand [] each ls all = record { typed = typed.fields_none; placed = refl }
    values_stand (f ∷ fs) each ls all =
        on_both (ValueStands ls types) (ValuesStand ls types) (ValuesStand ls types) (value_of field (means f) ls)
        (values_of means field fs ls) _
        (value_stands f each.0 ls all) (values_stand fs each.1 ls all)
        (λ x xs hx hxs. record {
          typed = typed.fields_more hx.ty hx.numbered hx.typed hxs.typed;
          placed = both_true _ _ hx.placed hxs.placed;
        })
