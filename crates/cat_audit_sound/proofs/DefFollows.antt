-- A definition follows the truth value of its guard.
use Rattle.std.proofs.Common.{◌≡◌, inl, Bool, true, false, Option, Some, None}
use Rattle.std.proofs.Common.{Result}
use Rattle.std.proofs.Common.{Ok, Err, refl, sym, ap, ◌∙◌, subst}
use Rattle.cat_value.specs.declared.ty.Ty.{Ty}
use Rattle.cat_value.specs.declared.ty.Ty.TheVariants as flat_ty
use Rattle.cat_value.specs.declared.value.Value.{Value}
use Rattle.cat_value.specs.declared.value.Value.TheViews as value
use Rattle.cat_value.specs.declared.decls.Decls.{Decls}
use Rattle.cat_value.proofs.Exported.{boolean_value}
use Rattle.cat_scope.specs.declared.stop.Stop.{Stop}
use Rattle.cat_scope.specs.declared.expr.Expr.{Expr}
use Rattle.cat_scope.specs.Replies.{Reply, on_one}
use Rattle.cat_scope.specs.Runs.{Run, gives, and_then, either, choose}
use Rattle.cat_scope.specs.Projections as read
use Rattle.cat_scope.specs.Groups.{Numbered}
use Rattle.cat_scope.specs.Judging.{Held, Judged}
use Rattle.cat_scope.specs.Targets.{condition_of, held_as, judge_def}
use Rattle.cat_sound.specs.Endings.{Allowed, IsEnd, Ended, IsOf}
use Rattle.cat_sound.proofs.Exported.{DefEnds}
use Rattle.cat_guard.specs.TableJudging.{by_truth}
use Rattle.cat_guard.proofs.Exported.{then_end}
use Rattle.cat_audit_sound.specs.Evaluations.{told}
use Rattle.cat_audit_sound.specs.Follows.{Follows}
use Rattle.cat_audit_sound.proofs.ConditionsTell.{Tells, on_one_same}

abbrev End : Type 0
End = Result (Option (Held Value)) Stop

-- one of two ends, by a truth value
abbrev one_end : Result Bool Stop → End → End → End
one_end (Ok true) one other = one
one_end (Ok false) one other = other
one_end (Err stop) one other = Err stop

either_ends : (t : Result Bool Stop) (one other : Judged Value) → (either t one other).end ≡ one_end t one.end other.end
either_ends (Ok true) one other = refl
either_ends (Ok false) one other = refl
either_ends (Err stop) one other = refl

module _ (allowed : Allowed) (ds : Decls) (t : Ty) (of : Expr → Run Value) (d : Numbered) where
  abbrev Goes : End → Result (Option (Held (Unit {0}))) Stop → Type 0
  Goes r s = Follows (IsOf ds t) (IsEnd allowed) r s

  def_end : (judge_def of d).end
      ≡ on_one (condition_of of d.1.condition).end
      (λ v. one_end (read.truth v) (on_one (of d.1.consequence).end (λ w. Ok (Some (held_as d w)))) (Ok None))
  def_end =
      then_end (condition_of of d.1.condition)
      (λ v. choose v (and_then (of d.1.consequence) (λ w. gives (Some (held_as d w)))) (gives None))
      ∙ on_one_same (condition_of of d.1.condition).end _ _
      (λ v. either_ends (read.truth v) (and_then (of d.1.consequence) (λ w. gives (Some (held_as d w)))) (gives None)
      ∙ ap (λ x. one_end (read.truth v) x (Ok None)) (then_end (of d.1.consequence) (λ w. gives (Some (held_as d w)))))

  consequence_goes : (r : Reply) → Ended allowed (IsOf ds t) r
      → Goes (on_one r (λ w. Ok (Some (held_as d w)))) (Ok (Some (record { number = d.0; pos = d.1.pos; value = tt })))
  consequence_goes (Ok w) ends = (ends, refl, refl)
  consequence_goes (Err stop) ends = inl ends

  chosen_goes : (c : Bool) (r : Reply) → Ended allowed (IsOf ds t) r
      → Goes (one_end (Ok c) (on_one r (λ w. Ok (Some (held_as d w)))) (Ok None)) (by_truth c d.0 d.1.pos).end
  chosen_goes true r ends = consequence_goes r ends
  chosen_goes false r ends = tt

  condition_goes : (b : Bool) (c : Reply) → Ended allowed (IsOf ds flat_ty.Boolean) c → Tells c b → (r : Reply)
      → Ended allowed (IsOf ds t) r
      → Goes (on_one c (λ v. one_end (read.truth v) (on_one r (λ w. Ok (Some (held_as d w)))) (Ok None)))
      (by_truth b d.0 d.1.pos).end
  condition_goes b (Err stop) ends tells r ended = inl ends
  condition_goes b (Ok v) ends tells r ended =
      let is = boolean_value ds v ends in
      let seen : read.truth v ≡ Ok is.0 = ap read.truth is.1 ∙ ap read.truth_in (value.outs-Boolean is.0) in
      subst (λ x. Goes (one_end x (on_one r (λ w. Ok (Some (held_as d w)))) (Ok None)) (by_truth b d.0 d.1.pos).end)
      (sym seen)
      (subst (λ x. Goes (one_end (Ok is.0) (on_one r (λ w. Ok (Some (held_as d w)))) (Ok None))
      (by_truth x d.0 d.1.pos).end)
      (sym (tells is.0 (ap told seen))) (chosen_goes is.0 r ended))

  pub def_goes : (b : Bool) → DefEnds allowed ds t of d.1 → Tells (condition_of of d.1.condition).end b
      → Goes (judge_def of d).end (by_truth b d.0 d.1.pos).end
  def_goes b ends tells =
      subst (λ x. Goes x (by_truth b d.0 d.1.pos).end) (sym def_end)
      (condition_goes b (condition_of of d.1.condition).end ends.condition.1 tells (of d.1.consequence).end
      ends.consequence.1)
