-- Calls that go round, and an order of those that don't.
use Rattle.std.proofs.Common.{◌≡◌, ◌∙◌, ℕ, List, sym, ap, subst}
use Rattle.cat_order.specs.Order.{IsOrder, is_listed}
use Rattle.cat_order.specs.Cycle.{DependsOn}
use Rattle.cat_scope.specs.Names.{IsOneOf}
use Rattle.cat_code.specs.declared.instr.Instr.{Instr}
use Rattle.cat_code.specs.declared.code.Tables.{Tables}
use Rattle.cat_depend.specs.CycleWays.{IsNextOnCycle}
use Rattle.cat_verify.specs.declared.stamps.Stamps.{Stamps}
use Rattle.cat_verify.specs.inside.CallNumbers.{calls_in, AreCallers, IsCallPlace, IsInOrder, IsRoundCall}
use Rattle.cat_verify.proofs.MemberLemmas.{member, of_listed}

module _ (tables : Tables) (code : List Instr) (marks : List Stamps) (callers now : List (List ℕ))
    (are : AreCallers tables code marks callers) (same : now ≡ callers) where
  pub call_listed : (b a : ℕ) → IsNextOnCycle now b a → IsOneOf (member b a) (calls_in tables code marks)
  call_listed b a next = of_listed b a (calls_in tables code marks)
      (ap (λ (ns : List ℕ). is_listed ns a) (sym (are.numbers b))
      ∙ subst (λ (xs : List (List ℕ)). DependsOn xs b a) same next.0)

  pub round_call : (k b a : ℕ) → IsCallPlace tables code marks a b k → IsNextOnCycle now b a
      → IsRoundCall tables code marks k
  round_call k b a place next = record {
    caller = a;
    called = b;
    place = place;
    callers = callers;
    callers_are = are;
    back = subst (λ (xs : List (List ℕ)). IsNextOnCycle xs b a) same next;
  }

  pub in_order : (listed : List ℕ) → IsOrder now listed → IsInOrder tables code marks listed
  in_order listed order = record {
    callers = callers;
    callers_are = are;
    order = subst (λ (xs : List (List ℕ)). IsOrder xs listed) same order;
  }
