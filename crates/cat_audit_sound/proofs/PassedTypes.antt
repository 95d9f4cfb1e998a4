-- What is passed to a called scope, and what comes of judgings, are of their types.
use Rattle.std.proofs.Common.{◌≡◌, ℕ, suc, ◌+◌, Bool, true, false, not, IsTrue, List, [], ◌∷◌, Option}
use Rattle.std.proofs.Common.{Some, None, Result, Ok, Err, slice_get, refl, sym, ap, subst, arith}
use Rattle.std.proofs.Common.{if◌then◌else◌}
use Rattle.std.specs.Prelude.{IfOk}
use Rattle.cat_pos.specs.declared.pos.Pos.{Pos}
use Rattle.cat_value.specs.declared.outcome.Target.{Target}
use Rattle.cat_value.specs.declared.ty.Ty.TheVariants as flat_ty
use Rattle.cat_value.specs.declared.ty.Ty.TheViews as ty
use Rattle.cat_value.specs.declared.value.Value.{Value}
use Rattle.cat_value.specs.declared.value.Value.TheVariants.{Boolean}
use Rattle.cat_value.specs.declared.decls.Decls.{Decls}
use Rattle.cat_value.specs.declared.declaration.Kind.TheVariants as kind
use Rattle.cat_value.specs.declared.declaration.ItemDecl.{ItemDecl}
use Rattle.cat_value.specs.Inputs.{must_be_given, may_be_given, is_given_for, are_given_for}
use Rattle.cat_value.proofs.Exported.{has_type_Boolean}
use Rattle.cat_scope.specs.declared.stop.Stop.{Stop}
use Rattle.cat_scope.specs.Replies.{Reply, on_one}
use Rattle.cat_scope.specs.Runs.{plain, gives, giving}
use Rattle.cat_scope.specs.Names.{AllHave}
use Rattle.cat_scope.specs.Judging.{Held, Judged, decided}
use Rattle.cat_scope.specs.Targets.{absent, value_or}
use Rattle.cat_scope.specs.ItemValues.{passed, passed_input}
use Rattle.cat_sound.specs.Settled.{IsHeldOf}
use Rattle.cat_sound.specs.Endings.{Ended, IsOf}
use Rattle.cat_sound.proofs.Exported.{Placed, anything}
use Rattle.cat_sound.proofs.InputTypes.{condition_type}
use Rattle.cat_sound.proofs.Exported.{not_given}
use Rattle.cat_audit_sound.proofs.RunValues.{and_both, IfGives, if_then}

of_Boolean : (ds : Decls) (b : Bool) → IsOf ds flat_ty.Boolean (Boolean b)
of_Boolean ds b = rw (has_type_Boolean ds b flat_ty.Boolean, ty.outs-Boolean) refl

-- in place of a value that isn't there
absent_ends : (ds : Decls) (target : Target) (pos : Pos) (decl : ItemDecl) → Placed decl
    → Ended anything (IsOf ds decl.ty) (absent target pos decl.condition)
absent_ends ds target pos decl placed = by decl.condition refl
  where
    by : (c : Bool) → decl.condition ≡ c → Ended anything (IsOf ds decl.ty) (absent target pos c)
    by true e = subst (λ u. IsOf ds u (Boolean false)) (sym (condition_type decl placed e)) (of_Boolean ds false)
    by false e = refl

-- the value of a target by what holds there
pub value_ends : (ds : Decls) (target : Target) (pos : Pos) (decl : ItemDecl) → Placed decl
    → (found : Option (Held Value)) → IsHeldOf true ds decl.ty found
    → Ended anything (IsOf ds decl.ty) (value_or (absent target pos decl.condition) found)
value_ends ds target pos decl placed None h = absent_ends ds target pos decl placed
value_ends ds target pos decl placed (Some held) h = h

-- a judging that is logged comes to the same
pub if_decided : (P : Option (Held Value) → Type 0) (target : Target) (judging : Judged Value) → IfGives judging P
    → IfGives (decided target judging) P
if_decided P target judging h = if_then P P judging _ h (λ found is. is)

-- ---- what is passed to a called scope

passed_typed : (ds : Decls) (target : Target) (pos : Pos) (decl : ItemDecl) (found : Option (Held Value))
    → Placed decl → IsTrue (may_be_given decl.kind) → IsHeldOf true ds decl.ty found
    → IfOk (passed target pos decl found) (λ o. IsTrue (is_given_for ds decl o))
passed_typed ds target pos decl (Some held) placed may h = and_both _ _ may h
passed_typed ds target pos decl None placed may h = by (must_be_given decl.kind) refl
  where
    there : Value → Result (Option Value) Stop
    there v = Ok (Some v)

    as_given : (r : Reply) → Ended anything (IsOf ds decl.ty) r
        → IfOk (on_one r there) (λ o. IsTrue (is_given_for ds decl o))
    as_given (Ok v) g = and_both _ _ may g
    as_given (Err stop) g = tt

    by : (b : Bool) → must_be_given decl.kind ≡ b
        → IfOk (if b then on_one (absent target pos decl.condition) (λ v. Ok (Some v)) else Ok None)
        (λ o. IsTrue (is_given_for ds decl o))
    by true e = as_given (absent target pos decl.condition) (absent_ends ds target pos decl placed)
    by false e = ap not e

pub passed_input_typed : (ds : Decls) (judged_at : ℕ → Judged Value) (target_at : ℕ → Target) (pos : Pos) (n : ℕ)
    (decls : List ItemDecl) → AllHave Placed decls
    → ((j : ℕ) (i : ItemDecl) → slice_get decls j ≡ Some i → IsTrue (may_be_given i.kind)
    → IfGives (judged_at (n + j)) (IsHeldOf true ds i.ty))
    → IfGives (passed_input judged_at target_at pos n decls) (λ input. IsTrue (are_given_for ds decls input))
passed_input_typed ds judged_at target_at pos n [] placed each = refl
passed_input_typed ds judged_at target_at pos n (decl ∷ decls) placed each =
    if_then (λ o. IsTrue (is_given_for ds decl o)) (λ input. IsTrue (are_given_for ds (decl ∷ decls) input))
    (if may_be_given decl.kind then giving (decided (target_at n) (judged_at n)) (passed (target_at n) pos decl) else
    gives None) _ (by (may_be_given decl.kind) refl)
    (λ o one. if_then (λ input. IsTrue (are_given_for ds decls input))
    (λ input. IsTrue (are_given_for ds (decl ∷ decls) input)) (passed_input judged_at target_at pos (n + 1) decls) _
    (passed_input_typed ds judged_at target_at pos (n + 1) decls placed.1
    (λ j i is may. subst (λ (m : ℕ). IfGives (judged_at m) (IsHeldOf true ds i.ty)) (omega arith)
    (each (suc j) i is may)))
    (λ input more. and_both _ _ one more))
  where
    by : (b : Bool) → may_be_given decl.kind ≡ b
        → IfGives (if b then giving (decided (target_at n) (judged_at n)) (passed (target_at n) pos decl) else
        gives None) (λ o. IsTrue (is_given_for ds decl o))
    by true e =
        if_then (IsHeldOf true ds decl.ty) (λ o. IsTrue (is_given_for ds decl o))
        (decided (target_at n) (judged_at n)) (λ found. plain (passed (target_at n) pos decl found))
        (if_decided (IsHeldOf true ds decl.ty) (target_at n) (judged_at n)
        (subst (λ (m : ℕ). IfGives (judged_at m) (IsHeldOf true ds decl.ty)) (omega arith) (each 0 decl refl e)))
        (λ found is. passed_typed ds (target_at n) pos decl found placed.0 e is)
    by false e = ap not (not_given decl.kind e)
