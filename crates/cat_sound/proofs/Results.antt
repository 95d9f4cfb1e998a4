-- How the words that put results together end, where nothing is decided.
use Rattle.std.proofs.Common.{◌≡◌, ℕ, zero, suc, Bool, true, false, ◌&&◌, IsTrue, List, [], ◌∷◌, ◌++◌, Option, Some}
use Rattle.std.proofs.Common.{None, Result, Ok, Err, slice_get, refl, sym, ap, ◌∙◌, subst, true≢false}
use Rattle.cat_pos.specs.declared.pos.Pos.{Pos}
use Rattle.cat_num.specs.declared.fault.NumFault.{NumFault}
use Rattle.cat_num.specs.declared.fault.NumFault.TheVariants as num
use Rattle.cat_value.specs.declared.value.Value.{Value}
use Rattle.cat_value.specs.declared.value.Value.TheViews as value
use Rattle.cat_value.specs.declared.ty.Ty.{Ty}
use Rattle.cat_value.specs.declared.ty.Ty.TheVariants as ty
use Rattle.cat_value.specs.declared.decls.Decls.{Decls}
use Rattle.cat_value.proofs.Exported.{boolean_value}
use Rattle.cat_scope.specs.declared.stop.Stop.{Stop}
use Rattle.cat_scope.specs.Replies.{on_one, known, with_front, exact}
use Rattle.cat_scope.specs.Projections as read
use Rattle.cat_scope.specs.Operators.{on_two}
use Rattle.cat_scope.specs.Names.{AllHave}
use Rattle.cat_sound.specs.Endings.{ResultsIn, IsOf, AreOf}

-- both of two tests
pub both : (a b : Bool) → IsTrue (a && b) → IsTrue a × IsTrue b
both true b h = (refl, h)
both false b h = absurd (true≢false (sym h))

pub and_both : (a b : Bool) → IsTrue a → IsTrue b → IsTrue (a && b)
and_both true b h g = g
and_both false b h g = absurd (true≢false (sym h))

pub result_as : {A : Type 0} (P : A → Type 0) (r s : Result A Stop) → r ≡ s → ResultsIn P s → ResultsIn P r
result_as P r s e h = subst (λ x. ResultsIn P x) (sym e) h

pub result_then : {A B : Type 0} (P : A → Type 0) (Q : B → Type 0) (r : Result A Stop) (next : A → Result B Stop)
    → ResultsIn P r → ((a : A) → P a → ResultsIn Q (next a)) → ResultsIn Q (on_one r next)
result_then P Q (Ok a) next h go = go a h
result_then P Q (Err stop) next h go = h

pub result_two : {A B C : Type 0} (P : A → Type 0) (Q : B → Type 0) (R : C → Type 0) (r : Result A Stop)
    (s : Result B Stop) (next : A → B → Result C Stop)
    → ResultsIn P r → ResultsIn Q s → ((a : A) (b : B) → P a → Q b → ResultsIn R (next a b))
    → ResultsIn R (on_two r s next)
result_two P Q R (Ok a) (Ok b) next h g go = go a b h g
result_two P Q R (Ok a) (Err stop) next h g go = g
result_two P Q R (Err stop) s next h g go = h

pub result_with_front : {A : Type 0} (P : A → Type 0) (Q R : List A → Type 0) (r : Result A Stop)
    (rest : Result (List A) Stop)
    → ResultsIn P r → ResultsIn Q rest → ((a : A) (more : List A) → P a → Q more → R (a ∷ more))
    → ResultsIn R (with_front r rest)
result_with_front P Q R (Ok a) (Ok more) h g go = go a more h g
result_with_front P Q R (Ok a) (Err stop) h g go = g
result_with_front P Q R (Err stop) rest h g go = h

-- a boolean has a truth value
abbrev pub Any : {A : Type 0} → A → Type 0
Any a = Unit {0}

pub reads-Boolean : (ds : Decls) (v : Value) → IsOf ds ty.Boolean v → ResultsIn (Any {A = Bool}) (read.truth v)
reads-Boolean ds v h =
    let is = boolean_value ds v h in
    result_as (Any {A = Bool}) (read.truth v) (Ok is.0)
    (ap read.truth is.1 ∙ ap read.truth_in (value.outs-Boolean is.0)) tt

-- an exact result that fits, or its fault
pub result_exact : {A : Type 0} (P : Value → Type 0) (p : Pos) (make : A → Value) (r : Result A NumFault)
    → ((a : A) → r ≡ Ok a → P (make a)) → ResultsIn P (exact p make r)
result_exact P p make (Ok a) go = go a refl
result_exact P p make (Err num.Overflow) go = tt
result_exact P p make (Err num.DivisionByZero) go = tt

pub result_known : {A : Type 0} (P : A → Type 0) (o : Option A) (a : A) → o ≡ Some a → P a → ResultsIn P (known o)
result_known P o a e h = result_as P (known o) (Ok a) (ap known e) h

-- the element at an index is of the type there
pub local_of : (ds : Decls) (ts : List Ty) (vs : List Value) (k : ℕ) (t : Ty) → AreOf ds ts vs → slice_get ts k ≡ Some t
    → ResultsIn (IsOf ds t) (known (slice_get vs k))
local_of ds [] [] k t are is = absurd (cc)
local_of ds [] (v ∷ vs) k t are is = elim are [ ]
local_of ds (u ∷ ts) [] k t are is = elim are [ ]
local_of ds (u ∷ ts) (v ∷ vs) zero t are is = subst (λ x. IsOf ds x v) (same_some u t is) are.0
  where
    some_or : Ty → Option Ty → Ty
    some_or d None = d
    some_or d (Some x) = x

    same_some : (a b : Ty) → Some a ≡ Some b → a ≡ b
    same_some a b e = ap (some_or a) e
local_of ds (u ∷ ts) (v ∷ vs) (suc k) t are is = local_of ds ts vs k t are.1 is

pub are_more : (ds : Decls) (ts us : List Ty) (vs ws : List Value) → AreOf ds ts vs → AreOf ds us ws
    → AreOf ds (ts ++ us) (vs ++ ws)
are_more ds [] us [] ws are more = more
are_more ds [] us (v ∷ vs) ws are more = elim are [ ]
are_more ds (t ∷ ts) us [] ws are more = elim are [ ]
are_more ds (t ∷ ts) us (v ∷ vs) ws are more = (are.0, are_more ds ts us vs ws are.1 more)

-- what holds of each of two lists, and of each of both
pub all_front : {A : Type 0} (P : A → Type 0) (xs ys : List A) → AllHave P (xs ++ ys) → AllHave P xs
all_front P [] ys h = tt
all_front P (x ∷ xs) ys h = (h.0, all_front P xs ys h.1)

pub all_back : {A : Type 0} (P : A → Type 0) (xs ys : List A) → AllHave P (xs ++ ys) → AllHave P ys
all_back P [] ys h = h
all_back P (x ∷ xs) ys h = all_back P xs ys h.1
