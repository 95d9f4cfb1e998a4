-- The places of a whole scope: a called scope fills its slot, the items follow their order, and the outputs are given
-- back.
use Rattle.std.proofs.Common.{◌≡◌, ◌<◌, ◌≤◌, ℕ, zero, suc, ◌+◌, ◌||◌, ◌&&◌, Bool, true, false, true≢false, not}
use Rattle.std.proofs.Common.{IsTrue, List, [], ◌∷◌, ◌++◌, length, replicate, Option, Some, None, slice_get}
use Rattle.std.proofs.Common.{slice_set, refl, sym, ap, ◌∙◌, subst, arith, append_assoc, if◌then◌else◌}
use Rattle.cat_value.specs.declared.declaration.Kind.{Kind}
use Rattle.cat_value.specs.declared.declaration.Kind.TheVariants as kind
use Rattle.cat_value.specs.declared.declaration.ItemDecl.{ItemDecl}
use Rattle.cat_value.specs.declared.declaration.Scope.{Scope}
use Rattle.cat_value.specs.Inputs.{must_be_given}
use Rattle.cat_value.specs.Laws.{AreSound}
use Rattle.cat_scope.specs.Names.{AllHave, is_function, is_called, has_none, items_in, scope_items}
use Rattle.cat_scope.specs.Naming.{is_defined}
use Rattle.cat_scope.specs.Orders.{called_by_items, called_by_kind}
use Rattle.cat_scope.specs.WellFormed.{is_placed, is_internal}
use Rattle.cat_sound.proofs.Exported.{all_back, all_front}
use Rattle.cat_calc.specs.declared.calcs.CalcScope.{CalcScope}
use Rattle.cat_code.specs.declared.instr.Instr.{Instr}
use Rattle.cat_code.specs.declared.instr.Instr.TheVariants as instr
use Rattle.cat_code.specs.declared.code.Tables.{Tables}
use Rattle.cat_code.specs.Forms.{outputs_form, slot_form, value_form}
use Rattle.cat_code.specs.Shapes.{Owner, Shape}
use Rattle.cat_code.specs.Places.{case_places}
use Rattle.cat_code.specs.Wanted.{are_passed}
use Rattle.cat_code.specs.Leads.{leads}
use Rattle.cat_code.specs.Flow.{flow}
use Rattle.cat_code.proofs.FormLaws.{same_self}
use Rattle.cat_lower.specs.Laying.{Coded, nothing, one}
use Rattle.cat_lower.specs.Scopes.{ScopeStanding, inner_codes, called_code, kind_code, item_code, items_code}
use Rattle.cat_lower.proofs.ScopeTerms.{all_at}
use Rattle.cat_lower.proofs.TypesAgree.{both_so}
use Rattle.cat_lower.proofs.Stacks.{append_none}
use Rattle.cat_value.proofs.Exported.{found}
use Rattle.cat_lower.proofs.Sketches.{Takes, takes_one, takes_then, takes_nothing}
use Rattle.cat_lower.proofs.FilledSlots.{filled_from}
use Rattle.cat_lower.proofs.Ranks.{Calls, entry, calls_scope}
use Rattle.cat_lower.proofs.ShapedForms.{Deep, more, at}
use Rattle.cat_lower.proofs.ShapedParts.{slot_of, called_no_function}
use Rattle.cat_lower.proofs.ShapedCalls.{takes_scope, takes_enter, passed_each, set_here, set_still, set_length}
use Rattle.cat_lower.proofs.ShapedCalls.{none_passed}
use Rattle.cat_lower.proofs.ShapedItems.{IsBefore, ScopeFacts, standing, called_items}
use Rattle.cat_lower.proofs.ShapedBodies.{Items, passed_from, inners_take, stored_takes, context_kept}
use Rattle.cat_lower.proofs.ShapedBodies.{still_nothing, stored, placed}

-- ---- what is passed to a called scope

kept_by : (b : Bool) (q : List Bool) (j i : ℕ) → slice_get q i ≡ Some true
    → slice_get (if b then slice_set q j true else q) i ≡ Some true
kept_by true q j i is = set_still q j i is
kept_by false q j i is = is

long_by : (b : Bool) (q : List Bool) (j : ℕ) → length (if b then slice_set q j true else q) ≡ length q
long_by true q j = set_length q j
long_by false q j = refl

from_still : (j : ℕ) (rest : List ItemDecl) (q : List Bool) (i : ℕ) → slice_get q i ≡ Some true
    → slice_get (passed_from j rest q) i ≡ Some true
from_still j [] q i is = is
from_still j (item ∷ rest) q i is = from_still (j + 1) rest _ i (kept_by (must_be_given item.kind) q j i is)

from_length : (j : ℕ) (rest : List ItemDecl) (q : List Bool) → length (passed_from j rest q) ≡ length q
from_length j [] q = refl
from_length j (item ∷ rest) q = from_length (j + 1) rest _ ∙ long_by (must_be_given item.kind) q j

from_has : (j : ℕ) (rest : List ItemDecl) (q : List Bool) → j + length rest ≤ length q → (i : ℕ) (item : ItemDecl)
    → slice_get rest i ≡ Some item
    → must_be_given item.kind ≡ true → slice_get (passed_from j rest q) (j + i) ≡ Some true
from_has j [] q long i item is must = absurd (cc is)
from_has j (x ∷ rest) q long zero item is must =
    let same : x ≡ item = cc is in
    let e : j + 0 ≡ j = omega arith in
    let less : j < length q = omega (arith, long) in
    let so : must_be_given x.kind ≡ true = ap (λ (i : ItemDecl). must_be_given i.kind) same ∙ must in
    ap (λ m. slice_get (passed_from j (x ∷ rest) q) m) e
    ∙ from_still (j + 1) rest _ j (by (must_be_given x.kind) so less)
  where
    by : (b : Bool) → b ≡ true → j < length q → slice_get (if b then slice_set q j true else q) j ≡ Some true
    by true so less = set_here q j less
    by false so less = absurd (true≢false (sym so))
from_has j (x ∷ rest) q long (suc i) item is must =
    let e : j + suc i ≡ (j + 1) + i = omega arith in
    let q1 = if must_be_given x.kind then slice_set q j true else q in
    ap (λ m. slice_get (passed_from (j + 1) rest q1) m) e
    ∙ from_has (j + 1) rest q1 (omega (arith, long, long_by (must_be_given x.kind) q j)) i item is must

inputs_passed : (items : List ItemDecl) → are_passed items (passed_from 0 items (replicate (length items) false)) ≡ true
inputs_passed items =
    let q = replicate (length items) false in
    let long : length q ≡ length items = none_passed items in
    passed_each items (passed_from 0 items q) (sym (from_length 0 items q ∙ long))
    (λ i item is must. let e : i ≡ 0 + i = omega arith in
    ap (λ m. slice_get (passed_from 0 items q) m) e ∙ from_has 0 items q (omega (arith, long)) i item is must)

-- a called scope that an item calls is one of those that are called
pub called_by_one : (P : ℕ → Type 0) (items : List ItemDecl) (k : ℕ) (item : ItemDecl) (c : ℕ)
    → AllHave P (called_by_items items)
    → slice_get items k ≡ Some item → item.kind ≡ kind.Called c → P c
called_by_one P [] k item c h is kind_is = absurd (cc is)
called_by_one P (x ∷ items) zero item c h is kind_is =
    let same : x ≡ item = cc is in
    (subst (λ (d : Kind). AllHave P (called_by_kind d)) (ap (λ (i : ItemDecl). i.kind) same ∙ kind_is)
    (all_front P (called_by_kind x.kind) (called_by_items items) h)).0
called_by_one P (x ∷ items) (suc k) item c h is kind_is =
    called_by_one P items k item c (all_back P (called_by_kind x.kind) (called_by_items items) h) is kind_is

-- only an internal variable has parameters
pub plain_so : (item : ItemDecl) → is_placed item ≡ true → is_internal item.kind ≡ false → is_function item ≡ false
plain_so item placed other =
    by (has_none item.params) (is_called item.kind)
    (ap (λ b. has_none item.params || b) (sym other)
    ∙ (both_so (has_none item.params || is_internal item.kind) _ placed).0)
  where
    by : (a b : Bool) → (a || false) ≡ true → (not b && not a) ≡ false
    by true true e = refl
    by true false e = refl
    by false b e = absurd (true≢false (sym e))

module _ (tables : Tables) (code : List Instr) (scopes : List CalcScope) (scope_order : List ℕ)
    (sound : AreSound tables.decls)
    (cases : tables.cases ≡ case_places 0 tables.decls.enumerations) (n functions definitions : ℕ) (terms : CalcScope)
    (facts : ScopeFacts tables scopes scope_order n functions definitions terms) where
  abbrev It : List ItemDecl
  It = Items tables code scopes scope_order sound cases n functions definitions terms facts

  abbrev At : ScopeStanding
  At = standing tables code scopes scope_order sound cases n functions definitions terms facts

  abbrev Me : Owner
  Me = record { scope = n; function = None }

  abbrev Calls_in : Owner → Owner → Type 0
  Calls_in = Calls tables.decls scopes scope_order

  abbrev Entry_in : ℕ → Shape
  Entry_in = entry tables.decls scopes scope_order

  abbrev Go : Coded → Shape → Shape → Type 0
  Go a s t = Takes tables code Calls_in Entry_in a s t

  -- the body where some items are done, over what lies below
  abbrev Over : List ℕ → Deep → Shape
  Over done d = at tables code Calls_in Entry_in Me (filled_from 0 It done) [] d

  abbrev none_below : Deep
  none_below = record { operands = []; defaults = []; loops = []; pending = [] }

  abbrev Behind : List ℕ → Shape
  Behind done = Over done none_below

  module _ (front : List ℕ) (k : ℕ) (rest : List ℕ) (split : terms.order ≡ front ++ k ∷ rest) (decl : ItemDecl)
      (is : slice_get It k ≡ Some decl) where
    called_takes : (c : ℕ) → decl.kind ≡ kind.Called c
        → Go (called_code At k decl c) (Behind front) (Behind (front ++ k ∷ []))
    called_takes c kind_is =
        let b = called_by_one (IsBefore tables scope_order n) It k decl c
        (called_items tables code scopes scope_order sound cases n functions definitions terms facts) is kind_is in
        let inner = scope_items tables.decls c in
        let same : inner ≡ b.scope.items = ap items_in b.is in
        let q0 = replicate (length b.scope.items) false in
        let q1 = passed_from 0 inner q0 in
        let filled = filled_from 0 It front in
        let passed : are_passed b.scope.items q1 ≡ true
        = ap (λ (l : List ItemDecl). are_passed b.scope.items (passed_from 0 l q0)) same
        ∙ inputs_passed b.scope.items in
        let waits0 = Over front (record none_below { pending = record { scope = c; passed = q0 } ∷ [] }) in
        let waits1 = Over front (record none_below { pending = record { scope = c; passed = q1 } ∷ [] }) in
        let given = Over front (more (outputs_form tables.decls c) none_below) in
        let into = Behind (front ++ k ∷ []) in
        takes_then tables code Calls_in Entry_in (one (instr.Scope c)) _ (Behind front) waits0 into
        (takes_scope tables code Calls_in Entry_in Me filled c b.scope [] none_below b.is
        (calls_scope tables.decls scopes scope_order Me c b.less))
        (takes_then tables code Calls_in Entry_in (inner_codes At k decl 0 inner) _ waits0 waits1 into
        (inners_take tables code scopes scope_order sound cases n functions definitions terms facts front k rest split
        decl is c kind_is b.scope b.is b.placed
        0 inner q0 (λ i item at. let e : 0 + i ≡ i = omega arith in ap (λ m. slice_get inner m) e ∙ at))
        (takes_then tables code Calls_in Entry_in (one instr.Enter) (one (instr.Store k)) waits1 given into
        (takes_enter tables code Calls_in Entry_in Me filled c b.scope q1 [] none_below tt b.is passed)
        (takes_one tables code Calls_in Entry_in (instr.Store k) given into
        (λ p. stores c kind_is p) (λ all p. (tt, (refl, (tt, tt)))))))
      where
        stores : (c : ℕ) → decl.kind ≡ kind.Called c → (p : ℕ)
            → flow tables code (instr.Store k) p (Over front (more (outputs_form tables.decls c) none_below))
            ≡ leads (p + 1) (Behind (front ++ k ∷ []))
        stores c kind_is p =
            let slot : slot_form tables.decls n k ≡ Some (outputs_form tables.decls c)
            = slot_of tables n k decl is ∙ ap (λ (d : Kind). Some (value_form tables.decls decl.ty d)) kind_is in
            let same = same_self (outputs_form tables.decls c) in
            rw (slot, same)
            (ap (λ (done : List Bool). leads (p + 1) (at tables code Calls_in Entry_in Me done [] none_below))
            (stored tables code scopes scope_order sound cases n functions definitions terms facts front k rest split
            decl is
            (called_no_function decl c kind_is)))

    item_takes : Go (item_code At k (slice_get It k)) (Behind front) (Behind (front ++ k ∷ []))
    item_takes =
        subst (λ (o : Option ItemDecl). Go (item_code At k o) (Behind front) (Behind (front ++ k ∷ []))) (sym is)
        (by decl.kind refl)
      where
        so : is_placed decl ≡ true
        so = all_at (λ item. IsTrue (is_placed item)) It k decl facts.sound.placed is

        defined : (d : Kind) → decl.kind ≡ d → (not (is_called d) && not (must_be_given d)) ≡ true
            → is_defined decl ≡ true
        defined d e done = ap (λ k. not (is_called k) && not (must_be_given k)) e ∙ done

        by : (d : Kind) → decl.kind ≡ d → Go (kind_code At k decl d) (Behind front) (Behind (front ++ k ∷ []))
        by kind.Input e =
            still_nothing tables code scopes scope_order sound cases n functions definitions terms facts front k rest
            split decl is
            (ap (λ d. must_be_given d || is_function decl) e)
        by kind.InputOutput e =
            still_nothing tables code scopes scope_order sound cases n functions definitions terms facts front k rest
            split decl is
            (ap (λ d. must_be_given d || is_function decl) e)
        by kind.Context e =
            context_kept tables code scopes scope_order sound cases n functions definitions terms facts front k rest
            split decl is
            (defined kind.Context e refl) (plain_so decl so (ap is_internal e))
        by kind.ContextOutput e =
            context_kept tables code scopes scope_order sound cases n functions definitions terms facts front k rest
            split decl is
            (defined kind.ContextOutput e refl) (plain_so decl so (ap is_internal e))
        by (kind.Called c) e = called_takes c e
        by kind.Internal e =
            stored_takes tables code scopes scope_order sound cases n functions definitions terms facts front k rest
            split decl is decl.params refl
            (defined kind.Internal e refl)
        by kind.Output e =
            stored_takes tables code scopes scope_order sound cases n functions definitions terms facts front k rest
            split decl is decl.params refl
            (defined kind.Output e refl)

  -- the items that are left
  pub items_take : (front rest : List ℕ) → terms.order ≡ front ++ rest
      → Go (items_code At rest) (Behind front) (Behind (front ++ rest))
  items_take front [] split =
      subst (λ (l : List ℕ). Go nothing (Behind front) (Behind l)) (sym (append_none front))
      (takes_nothing tables code Calls_in Entry_in (Behind front))
  items_take front (k ∷ rest) split =
      let below =
      all_back (λ (m : ℕ). m < length It) front (k ∷ rest)
      (subst (λ (l : List ℕ). AllHave (λ (m : ℕ). m < length It) l) split facts.sound.below) in
      let there = found It k below.0 in
      takes_then tables code Calls_in Entry_in (item_code At k (slice_get It k)) (items_code At rest) (Behind front)
      (Behind (front ++ k ∷ []))
      (Behind (front ++ k ∷ rest)) (item_takes front k rest split there.0 there.1)
      (subst (λ (l : List ℕ). Go (items_code At rest) (Behind (front ++ k ∷ [])) (Behind l))
      (append_assoc front (k ∷ []) rest)
      (items_take (front ++ k ∷ []) rest (split ∙ sym (append_assoc front (k ∷ []) rest))))
