-- To which owners the stamps that come to an instruction belong.
use Rattle.std.proofs.Common.{◌≡◌, ◌<◌, ◌≤◌, ◌+◌, ◌⊎◌, ℕ, Bool, true, false, List, [], ◌∷◌, ◌++◌, length, Option, Some}
use Rattle.std.proofs.Common.{None, refl, sym, ap, subst, inl, inr, arith, if◌then◌else◌}
use Rattle.std.proofs.lemmas.Bool.Decides.{nat_tests}
use Rattle.std.specs.Prelude.{slice_get, nat_lt, option_map}
use Rattle.cat_value.proofs.Exported.{list_all_at}
use Rattle.cat_scope.specs.Names.{IsOneOf}
use Rattle.cat_code.specs.declared.instr.Instr.{Instr}
use Rattle.cat_code.specs.declared.instr.Instr.TheVariants as instr
use Rattle.cat_code.specs.declared.code.Tables.{Tables}
use Rattle.cat_code.specs.Places.{FunctionPlace, function_places}
use Rattle.cat_code.specs.Jumps.{jump_of, with_jump, is_within}
use Rattle.cat_code.specs.Shapes.{Owner}
use Rattle.cat_code.specs.Valid.{entries_of}
use Rattle.cat_verify_shapes.specs.Belonging.{BeginsAt, Begins, goes_on, Belongs, begins, follows}
use Rattle.cat_verify_shapes.specs.Belonging.{function_owner, called_in, MayRun, MayComeTo, scope as scope_runs}
use Rattle.cat_verify_shapes.specs.Belonging.{called as called_runs}
use Rattle.cat_verify.specs.declared.stamps.Arrival.{Arrival}
use Rattle.cat_verify.specs.inside.Stamped.{ComesTo, enters, goes, called as sends}
use Rattle.cat_verify.specs.inside.GoodNumbers.{HasGoodNumbers}
use Rattle.cat_verify.proofs.OneOf.{in_front, in_back, within_of, in_at, at_of_in}
use Rattle.cat_verify.proofs.StartLemmas.{a_scope, AreStarts}

-- ---- stamps and owners

module _ (tables : Tables) (code : List Instr) (stamp : Owner → ℕ) (starts calls : List Arrival)
    (are : AreStarts tables stamp starts calls) where
  -- where an owner's stamp comes to its entry, it comes to all that belongs to the owner
  led_on : (o : Owner) → ((p : ℕ) → Begins tables o p → ComesTo code starts calls (stamp o) p) → (p : ℕ)
      → Belongs tables code o p → ComesTo code starts calls (stamp o) p
  led_on o begun p (begins is) = begun p is
  led_on o begun q (follows {p} i b at one) = goes i (led_on o begun p b) at one

  of_call : (i : Instr) (b : Owner) (l place p : ℕ) → ComesTo code starts calls l place → slice_get code place ≡ Some i
      → called_in tables i ≡ Some b → Begins tables b p → ComesTo code starts calls (stamp b) p
  of_call (instr.Call f n) b l place p comes at is begun = by (slice_get (function_places tables.decls) f) refl is
    where
      by : (o : Option FunctionPlace) → slice_get (function_places tables.decls) f ≡ o
          → option_map (function_owner f) o ≡ Some b → ComesTo code starts calls (stamp b) p
      by None e is = absurd (cc is)
      by (Some there) e is =
          let same : function_owner f there ≡ b = cc is in
          let entry : Begins tables (function_owner f there) p =
          subst (λ (o : Owner). Begins tables o p) (sym same) begun in
          subst (λ (o : Owner). ComesTo code starts calls (stamp o) p) same
          (sends comes at (are.of_entry f p there e entry.1))
  of_call (instr.Scope n) b l place p comes at is begun =
      let same : a_scope n ≡ b = cc is in
      let entry : Begins tables (a_scope n) p = subst (λ (o : Owner). Begins tables o p) (sym same) begun in
      subst (λ (o : Owner). ComesTo code starts calls (stamp o) p) same (enters (are.of_scope n p entry))
  of_call _ b l place p comes at is begun = absurd (cc is)

  begun : (o : Owner) → MayRun tables code o → (p : ℕ) → Begins tables o p → ComesTo code starts calls (stamp o) p
  begun o (scope_runs {n} at) p is = enters (are.of_scope n p is)
  begun b (called_runs {a} {place} i run belongs at calls) p is =
      of_call i b (stamp a) place p (led_on a (begun a run) place belongs) at calls is

  -- where a run may come to an instruction of an owner, its stamp comes to it
  pub comes_of : (o : Owner) (p : ℕ) → MayComeTo tables code o p → ComesTo code starts calls (stamp o) p
  comes_of o p come = led_on o (begun o come.may_run) p come.belongs

  pub owner_of_stamp : (l p : ℕ) → ComesTo code starts calls l p
      → (o : Owner) × MayComeTo tables code o p × (stamp o ≡ l)
  owner_of_stamp l p (enters one) =
      let from = are.scope_of p l one in
      (a_scope from.0, record { may_run = scope_runs from.1; belongs = begins from.1 }, from.2)
  owner_of_stamp l q (goes {p = p} i comes at one) =
      let from = owner_of_stamp l p comes in
      (from.0, record { may_run = from.1.may_run; belongs = follows i from.1.belongs at one }, from.2)
  owner_of_stamp l q (sends {stamp = s} {p = p} {f = f} {count = count} {entry = entry} comes at is) =
      let from = owner_of_stamp s p comes in
      let there = are.entry_of f entry is in (
        function_owner f there.place,
        record {
          may_run =
              called_runs (instr.Call f count) from.1.may_run from.1.belongs at
              (ap (option_map (function_owner f)) there.place_is);
          belongs =
              begins (record { place = there.place; place_is = there.place_is; scope_is = refl }, there.begins);
        },
        there.stamp_is,
      )

-- ---- where an owner's instructions stand

pub begins_of : (tables : Tables) (code : List Instr) (o : Owner) (p : ℕ) → Belongs tables code o p
    → (entry : ℕ) × Begins tables o entry
begins_of tables code o p (begins is) = (p, is)
begins_of tables code o q (follows {p} i b at one) = begins_of tables code o p b

-- an entry is that of an instruction
entry_within : (tables : Tables) (code : List Instr) (good : HasGoodNumbers tables code) (o : Owner) (p : ℕ)
    → Begins tables o p → p < length code
entry_within tables code good o p is = by o.scope o.function is
  where
    inside : IsOneOf p (entries_of tables) → p < length code
    inside one =
        let from = at_of_in (entries_of tables) p one in
        let test : nat_lt p (length code) ≡ true =
        list_all_at (λ place. nat_lt place (length code)) (entries_of tables) from.0 p good.entries from.1 in
        grind (arith, nat_tests, test)

    by : (scope : ℕ) (function : Option ℕ) → BeginsAt tables scope function p → p < length code
    by scope None is = inside (in_front p tables.scopes tables.functions (in_at tables.scopes scope p is))
    by scope (Some f) is = inside (in_back p tables.scopes tables.functions (in_at tables.functions f p is.1))

lands : (u t size : ℕ) → nat_lt u size ≡ true → Some u ≡ Some t → t < size
lands u t size w j = let same : u ≡ t = cc j in subst (λ (n : ℕ). n < size) same (grind (arith, nat_tests, w))

jump_within : (tables : Tables) (size : ℕ) (i : Instr) (t : ℕ) → is_within tables size i ≡ true → jump_of i ≡ Some t
    → t < size
jump_within tables size (instr.Given k u) t w j = lands u t size w j
jump_within tables size (instr.Jump u) t w j = lands u t size w j
jump_within tables size (instr.JumpFalse u) t w j = lands u t size w j
jump_within tables size (instr.Next u) t w j = lands u t size w j
jump_within tables size (instr.Held u) t w j = lands u t size w j
jump_within tables size (instr.Take u) t w j = lands u t size w j
jump_within tables size _ t w j = absurd (cc j)

-- what an instruction leads to is the next one, or within the code
led : (b : Bool) (j : Option ℕ) (size p q : ℕ) → ((t : ℕ) → j ≡ Some t → t < size)
    → IsOneOf q ((if b then (p + 1) ∷ [] else []) ++ with_jump j []) → (q ≡ p + 1) ⊎ (q < size)
led true j size p q lands (inl same) = inl same
led true None size p q lands (inr none) = absurd none
led true (Some t) size p q lands (inr (inl same)) = inr (subst (λ (n : ℕ). n < size) (sym same) (lands t refl))
led true (Some t) size p q lands (inr (inr none)) = absurd none
led false None size p q lands none = absurd none
led false (Some t) size p q lands (inl same) = inr (subst (λ (n : ℕ). n < size) (sym same) (lands t refl))
led false (Some t) size p q lands (inr none) = absurd none

-- behind the last instruction an owner comes from the last one alone
pub record FromLast (tables : Tables) (code : List Instr) (o : Owner) (p : ℕ) : Type 0 where
  pub last : ℕ
  pub belongs : Belongs tables code o last
  pub within : last < length code
  pub behind : p ≡ last + 1

pub from_last : (tables : Tables) (code : List Instr) → HasGoodNumbers tables code → (o : Owner) (p : ℕ)
    → Belongs tables code o p → length code ≤ p → FromLast tables code o p
from_last tables code good o p (begins is) past =
    let inside = entry_within tables code good o p is in absurd (omega (arith, inside, past))
from_last tables code good o q (follows {p} i b at one) past =
    by (led (goes_on i) (jump_of i) (length code) p q
    (λ t j. jump_within tables (length code) i t
    (list_all_at (is_within tables (length code)) code p i good.numbers at) j) one)
  where
    by : (q ≡ p + 1) ⊎ (q < length code) → FromLast tables code o q
    by (inl next) = record { last = p; belongs = b; within = within_of code p i at; behind = next }
    by (inr inside) = absurd (omega (arith, inside, past))
