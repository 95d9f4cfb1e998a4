-- Calls of functions of other scopes, by the scopes that come to each instruction.
use Rattle.std.proofs.Common.{◌≡◌, ◌<◌, ◌≤◌, ℕ, Bool, true, false, List, length, get_or}
use Rattle.std.proofs.Common.{Option, Some, None, refl, sym, ap, ◌∙◌, subst, arith, true≢false}
use Rattle.std.proofs.lemmas.Option.{slice_get-get_or, get_or_from_slice_get}
use Rattle.std.proofs.lemmas.Bool.{cases_eq}
use Rattle.std.proofs.lemmas.Bool.Decides.{nat_tests}
use Rattle.std.proofs.Math.Logic.{⊎_elim}
use Rattle.std.specs.Prelude.{slice_get, nat_lt}
use Rattle.cat_value.proofs.Exported.{list_all_at}
use Rattle.cat_code.specs.declared.instr.Instr.{Instr}
use Rattle.cat_code.specs.declared.instr.Instr.TheVariants as instr
use Rattle.cat_code.specs.declared.code.Tables.{Tables}
use Rattle.cat_code.specs.Jumps.{is_within}
use Rattle.cat_code.specs.Places.{function_places}
use Rattle.cat_code.specs.Shapes.{Owner}
use Rattle.cat_verify_tables.specs.TableWords.{numbered}
use Rattle.cat_verify_tables.specs.declared.places.FunctionPlace.{FunctionPlace}
use Rattle.cat_verify_shapes.specs.Belonging.{MayComeTo}
use Rattle.cat_verify.specs.declared.stamps.Arrival.{Arrival}
use Rattle.cat_verify.specs.declared.stamps.Stamps.{Stamps}
use Rattle.cat_verify.specs.declared.stamps.Stamps.TheVariants.{Nobody, One, Two}
use Rattle.cat_verify.specs.declared.refusal.VerifyRefusal.{VerifyRefusal}
use Rattle.cat_verify.specs.declared.refusal.VerifyRefusal.TheVariants as refusal
use Rattle.cat_verify.specs.WrongCode.{CallsAbroad}
use Rattle.cat_verify.specs.inside.Abroad.{is_abroad, is_abroad_from, calls_abroad, IsAbroad, NoneAbroad, OneAbroad}
use Rattle.cat_verify.specs.inside.Stamped.{ComesTo, Tells, AreStamps}
use Rattle.cat_verify.specs.inside.Starts.{scope_starts, scope_arrivals}
use Rattle.cat_verify.specs.inside.Orderly.{IsOrderly, AreCallsHome, AbroadCause}
use Rattle.cat_verify.proofs.OneOf.{within_of, at_within, map_at}
use Rattle.cat_verify.proofs.StartLemmas as start
use Rattle.cat_verify.proofs.BelongLemmas.{comes_of, owner_of_stamp}

-- ---- marks one by one

pub one_abroad : (functions : List FunctionPlace) (code : List Instr) (marks : List Stamps) (k : ℕ) (d : Instr)
    → length marks ≡ length code → k < length code
    → true ≡ calls_abroad functions (get_or marks k Nobody) (get_or code k d) → IsAbroad functions code marks k
one_abroad functions code marks k d one_each within abroad = record {
  instruction = get_or code k d;
  scopes = get_or marks k Nobody;
  instruction_is = slice_get-get_or code k d within;
  scopes_are = slice_get-get_or marks k Nobody (omega (arith, within, one_each));
  abroad = sym abroad;
}

pub not_abroad : (functions : List FunctionPlace) (code : List Instr) (marks : List Stamps) (k : ℕ) (d : Instr)
    → false ≡ calls_abroad functions (get_or marks k Nobody) (get_or code k d)
    → IsAbroad functions code marks k → ⊥
not_abroad functions code marks k d home is =
    true≢false (sym is.abroad
    ∙ ap (λ (m : Stamps). calls_abroad functions m is.instruction)
    (sym (get_or_from_slice_get marks k is.scopes Nobody is.scopes_are))
    ∙ ap (calls_abroad functions (get_or marks k Nobody))
    (sym (get_or_from_slice_get code k is.instruction d is.instruction_is)) ∙ sym home)

pub none_abroad : (functions : List FunctionPlace) (code : List Instr) (marks : List Stamps) (at : ℕ)
    → length code ≤ at → ((k : ℕ) → k < at → IsAbroad functions code marks k → ⊥) → NoneAbroad functions code marks
none_abroad functions code marks at past before k is =
    let within : k < length code = within_of code k is.instruction is.instruction_is in
    before k (omega (arith, within, past)) is

pub stamps_as : (code : List Instr) (starts led calls sent : List Arrival) (marks now : List Stamps)
    → AreStamps code led sent marks → led ≡ starts → sent ≡ calls → now ≡ marks → AreStamps code starts calls now
stamps_as code starts led calls sent marks now are same called equal =
    subst (AreStamps code starts calls) (sym equal)
    (subst (λ (s : List Arrival). AreStamps code starts s marks) called
    (subst (λ (s : List Arrival). AreStamps code s sent marks) same are))

-- ---- what scopes tell

module _ (tables : Tables) (code : List Instr) (functions : List FunctionPlace) (marks : List Stamps)
    (orderly : IsOrderly tables code functions)
    (are : AreStamps code (scope_starts tables) (scope_arrivals functions tables.functions) marks) where
  abbrev scope_of : Owner → ℕ
  scope_of o = o.scope

  abbrev entries : List Arrival
  entries = scope_starts tables

  abbrev sent : List Arrival
  sent = scope_arrivals functions tables.functions

  starts : start.AreStarts tables scope_of entries sent
  starts = start.starts_scoped tables functions orderly.declared orderly.one_each

  owner_from : (l p : ℕ) → ComesTo code entries sent l p → (o : Owner) × MayComeTo tables code o p × (o.scope ≡ l)
  owner_from l p comes = owner_of_stamp tables code scope_of entries sent starts l p comes

  -- where one of these stamps is another scope, an owner of another scope is there
  other_owner : (p scope : ℕ) (m : Stamps) → Tells code entries sent p m → is_abroad m scope ≡ true
      → (o : Owner) × MayComeTo tables code o p × (scope ≡ o.scope → ⊥)
  other_owner p scope Nobody tells h = absurd (cc h)
  other_owner p scope (One a) tells h =
      let from = owner_from a p tells.0 in
      (from.0, from.1, λ same. differ (same ∙ from.2))
    where
      differ : scope ≡ a → ⊥
      differ same = grind (arith, nat_tests, same, h)
  other_owner p scope (Two a b) tells h = ⊎_elim
      (λ same. let from = owner_from b p tells.1 in
      (from.0, from.1, λ e. tells.2 (sym same ∙ e ∙ from.2)))
      (λ other. let from = owner_from a p tells.0 in
      (from.0, from.1, λ e. other (e ∙ from.2)))
      (cases_eq scope a)

  pub calls_abroad_at : (k : ℕ) → IsAbroad functions code marks k → CallsAbroad tables code k
  calls_abroad_at k is = by is.instruction is.instruction_is is.abroad
    where
      by : (i : Instr) → slice_get code k ≡ Some i → calls_abroad functions is.scopes i ≡ true
          → CallsAbroad tables code k
      by (instr.Call f count) at abroad = from (slice_get functions f) refl abroad
        where
          from : (o : Option FunctionPlace) → slice_get functions f ≡ o → is_abroad_from is.scopes o ≡ true
              → CallsAbroad tables code k
          from None e h = absurd (cc h)
          from (Some place) e h =
              let there = start.declared_at tables functions orderly.declared orderly.one_each f place e in
              let owner = other_owner k place.scope is.scopes (are.tell k is.scopes is.scopes_are) h in
              record {
                caller = owner.0;
                comes = owner.1;
                function = f;
                count = count;
                is = at;
                place = there.0;
                place_is = there.1;
                abroad = λ same. owner.2 (ap (λ (x : FunctionPlace). x.scope) there.2 ∙ same);
              }
      by _ at abroad = absurd (cc abroad)

  -- where none is, each owner is of that scope
  same_scope : (p scope : ℕ) (m : Stamps) → Tells code entries sent p m → is_abroad m scope ≡ false
      → (o : Owner) → MayComeTo tables code o p → scope ≡ o.scope
  same_scope p scope Nobody tells h o b =
      absurd (tells o.scope (comes_of tables code scope_of entries sent starts o p b))
  same_scope p scope (One a) tells h o b =
      let stamp : o.scope ≡ a =
      tells.1 o.scope (comes_of tables code scope_of entries sent starts o p b) in
      let equal : a ≡ scope = grind (arith, nat_tests, h) in
      sym equal ∙ sym stamp
  same_scope p scope (Two a b) tells h o there = absurd (cc h)

  pub calls_home : NoneAbroad functions code marks → AreCallsHome tables code
  calls_home none p f count o b at =
      let within = within_of code p (instr.Call f count) at in
      let mark = at_within marks p (omega (arith, within, are.one_each)) in
      let inside : nat_lt f (length tables.functions) ≡ true =
      list_all_at (is_within tables (length code)) code p (instr.Call f count) orderly.good.numbers at in
      let below : f < length tables.functions = grind (arith, nat_tests, inside) in
      let there = at_within (function_places tables.decls) f (omega (arith, below, orderly.one_each)) in
      let place : slice_get functions f ≡ Some (numbered there.0) =
      ap (λ (fs : List FunctionPlace). slice_get fs f) orderly.declared
      ∙ map_at numbered (function_places tables.decls) f there.0 there.1 in
      record {
        place = there.0;
        place_is = there.1;
        scope_is = same_scope p there.0.scope mark.0 (are.tell p mark.0 mark.1)
            (by (is_abroad mark.0 there.0.scope) mark.0 mark.1 (numbered there.0) place refl) o b;
      }
    where
      by : (t : Bool) → (m : Stamps) → slice_get marks p ≡ Some m → (place : FunctionPlace)
          → slice_get functions f ≡ Some place → is_abroad m place.scope ≡ t → is_abroad m place.scope ≡ false
      by false m marked place is e = e
      by true m marked place is e = absurd (none p (record {
        instruction = instr.Call f count;
        scopes = m;
        instruction_is = at;
        scopes_are = marked;
        abroad = ap (is_abroad_from m) is ∙ e;
      }))

pub abroad_cause : (tables : Tables) (code : List Instr) (functions : List FunctionPlace) (marks : List Stamps)
    → IsOrderly tables code functions
    → AreStamps code (scope_starts tables) (scope_arrivals functions tables.functions) marks → (why : VerifyRefusal)
    → OneAbroad functions code marks why → AbroadCause tables code why
abroad_cause tables code functions marks orderly are (refusal.BadNumber k) one =
    calls_abroad_at tables code functions marks orderly are k one
abroad_cause tables code functions marks orderly are (refusal.BadTable n) one = absurd one
abroad_cause tables code functions marks orderly are (refusal.Endless k) one = absurd one
abroad_cause tables code functions marks orderly are (refusal.BadShape k) one = absurd one
abroad_cause tables code functions marks orderly are refusal.Memory one = tt
