-- An expression agrees with itself, and so does the term of a question.
use Rattle.std.proofs.Common.{◌≡◌, ℕ, ◌-◌, nat_lt, Bool, true, false, List}
use Rattle.std.proofs.Common.{[], ◌∷◌}
use Rattle.std.proofs.Common.{Option, Some, None, refl, sym, subst, arith}
use Rattle.std.proofs.lemmas.Bool.Decides.{nat_tests}
use Rattle.cat_pos.specs.declared.pos.Pos.{Pos}
use Rattle.cat_region.specs.declared.dim.Dim.TheVariants as dim
use Rattle.cat_region.specs.declared.cut.Cut.TheVariants as cut
use Rattle.cat_scope.specs.declared.expr.Expr.{Expr}
use Rattle.cat_scope.specs.declared.expr.FieldValue.{FieldValue}
use Rattle.cat_scope.specs.declared.expr.Arm.{Arm}
use Rattle.cat_scope.specs.declared.expr.Expr.TheVariants as leaf
use Rattle.cat_scope.specs.declared.expr.Expr.TheViews as expr
use Rattle.cat_scope.specs.Same.{Standing, Same, SameAll, SameFields, SameArms}
use Rattle.cat_scope.specs.Same as same
use Rattle.cat_scope.specs.SameTree.{same_tree}
use Rattle.cat_scope.proofs.Exported.{Each, Within, induction}
use Rattle.cat_sound.proofs.Exported.{test_sound, test_whole}
use Rattle.cat_region.proofs.Exported.{and-both}
use Rattle.cat_guard.specs.Questions.{Question}
use Rattle.cat_guard.specs.Terms.{same_dim, same_cut, same_term, same_question}
use Rattle.cat_guard.proofs.Exported.{dim_self, cut_self, both_true, dim_same, cut_same}

module _ (g : Standing) where
  abbrev Self : Expr → Type 0
  Self e = Same g g e e

  all_self : (es : List Expr) → Each Self es → SameAll g g es es
  all_self [] h = same.all_none
  all_self (e ∷ es) h = same.all_more h.0 (all_self es h.1)

  fields_self : (fs : List FieldValue) → Each (λ f. Self f.value) fs → SameFields g g fs fs
  fields_self [] h = same.fields_none
  fields_self (f ∷ fs) h = same.fields_more refl h.0 (fields_self fs h.1)

  arms_self : (arms : List Arm) → Each (λ a. Self a.body) arms → SameArms g g arms arms
  arms_self [] h = same.arms_none
  arms_self (a ∷ arms) h = same.arms_more refl h.0 (arms_self arms h.1)

  local_self : (p : Pos) (k : ℕ) → Self (leaf.Local p k)
  local_self p k = by (nat_lt k g.params) refl
    where
      by : (b : Bool) → nat_lt k g.params ≡ b → Self (leaf.Local p k)
      by true e = same.parameter refl (grind (arith, nat_tests)) (grind (arith, nat_tests))
      by false e =
          subst (λ n. Self (leaf.Local p n)) (sym (grind (arith, nat_tests)))
          (same.bound {p = p} {q = p} (k - g.params))

  case_self : (p : Pos) (n k : ℕ) (content : Option Expr) → Within Self content → Self (expr.Case p n k content)
  case_self p n k None h = same.case_alone
  case_self p n k (Some e) h = same.case_with h

  pub same_self : (e : Expr) → Self e
  same_self = induction Self (λ p l. same.literal) (λ p item. same.item) (λ p item k. same.output) local_self
      (λ p e k h. same.field h) (λ p o e h. same.unary h) (λ p o q a b h i. same.binary h i)
      (λ p a b h i. same.both h i) (λ p a b h i. same.any h i) (λ p c a b f h i. same.choice f h i)
      (λ p e arms h each. same.matching h (arms_self arms each)) (λ p e n k h. same.is_case h) case_self
      (λ p n fields each. same.structure (fields_self fields each)) (λ p es each. same.list (all_self es each))
      (λ p l test h i. same.for_all h i) (λ p l test h i. same.exists h i) (λ p l e h i. same.map_each h i)
      (λ p l test h i. same.filter h i) (λ p l start e f h i. same.combine f h i) (λ p q l e h i. same.contains h i)
      (λ p l h. same.number_of h) (λ p kind l h. same.sum h) (λ p f es each. same.call (all_self es each))
      (λ p s fields k each. same.scope_call (fields_self fields each))

-- ---- tests

pub term_self : (q : Question) → same_term q q ≡ true
term_self q =
    and-both (same_tree q.standing q.standing q.expr q.expr) (same_dim q.dim q.dim)
    (test_whole q.standing q.standing (same_self q.standing q.expr)) (dim_self q.dim)

-- two questions with one cut are one where their terms are
pub question_of_term : (q : Question) → same_term q q ≡ true → same_question q q ≡ true
question_of_term q self = and-both (same_term q q) (same_cut q.cut q.cut) self (cut_self q.cut)

pub question_self : (q : Question) → same_question q q ≡ true
question_self q = question_of_term q (term_self q)

-- ---- and what they say

-- what two questions on one term have in common
pub record IsOneTerm (q r : Question) : Type 0 where
  pub tree : Same q.standing r.standing q.expr r.expr
  pub dim : q.dim ≡ r.dim

pub one_term : (q r : Question) → same_term q r ≡ true → IsOneTerm q r
one_term q r h =
    let two = both_true (same_tree q.standing r.standing q.expr r.expr) (same_dim q.dim r.dim) h in
    record { tree = test_sound q.standing r.standing q.expr r.expr two.0; dim = dim_same q.dim r.dim two.1 }

pub one_question : (q r : Question) → same_question q r ≡ true → IsOneTerm q r × (q.cut ≡ r.cut)
one_question q r h =
    let two = both_true (same_term q r) (same_cut q.cut r.cut) h in
    (one_term q r two.0, cut_same q.cut r.cut two.1)
