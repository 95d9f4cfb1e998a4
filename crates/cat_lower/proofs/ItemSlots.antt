-- Slots and values of items, as they fill.
use Rattle.std.proofs.Common.{◌≡◌, ℕ, zero, suc, ◌<◌, Bool, true, false, not, ◌&&◌, List, [], ◌∷◌, ◌++◌}
use Rattle.std.proofs.Common.{length, Option, Some, None, Result, Ok, Err, refl, ap, ◌∙◌, slice_get, arith}
use Rattle.cat_value.specs.declared.ty.Ty.{Ty}
use Rattle.cat_value.specs.declared.value.Value.{Value}
use Rattle.cat_value.specs.declared.declaration.ItemDecl.{ItemDecl}
use Rattle.cat_scope.specs.declared.stop.Stop.{Stop}
use Rattle.cat_scope.specs.Replies.{Reply, on_one}
use Rattle.cat_scope.specs.Runs.{Decider, plain, and_then, behind as later}
use Rattle.cat_scope.specs.Names.{has_none}
use Rattle.cat_scope.specs.Calls.{Items}
use Rattle.cat_scope.specs.Running.{entry_at, with_entry}
use Rattle.cat_code.specs.Runs.{Whole}
use Rattle.cat_lower.proofs.Doing.{Agree}
use Rattle.cat_lower.proofs.Slots.{IsGivable, AreGivable}

pub agree_stored : (n : ℕ) (v : Value) (x : Option Value) (slots items : Items) → slice_get slots n ≡ Some x
    → ((m : ℕ) (w : Value) → slice_get items m ≡ Some (Some w) → slice_get slots m ≡ Some (Some w))
    → (m : ℕ) (w : Value) → slice_get (with_entry n (Some v) items) m ≡ Some (Some w)
    → slice_get (with_entry n (Some v) slots) m ≡ Some (Some w)
agree_stored n v x [] items there agree m w h = absurd (cc there)
agree_stored zero v x (s ∷ slots) [] there agree m w h = absurd (cc h)
agree_stored (suc n) v x (s ∷ slots) [] there agree m w h = absurd (cc h)
agree_stored zero v x (s ∷ slots) (i ∷ items) there agree zero w h = h
agree_stored zero v x (s ∷ slots) (i ∷ items) there agree (suc m) w h = agree (suc m) w h
agree_stored (suc n) v x (s ∷ slots) (i ∷ items) there agree zero w h = agree zero w h
agree_stored (suc n) v x (s ∷ slots) (i ∷ items) there agree (suc m) w h =
    agree_stored n v x slots items there (λ k u e. agree (suc k) u e) m w h

pub agree_given : (n : ℕ) (v : Value) (slots items : Items) → slice_get slots n ≡ Some (Some v)
    → ((m : ℕ) (w : Value) → slice_get items m ≡ Some (Some w) → slice_get slots m ≡ Some (Some w))
    → (m : ℕ) (w : Value) → slice_get (with_entry n (Some v) items) m ≡ Some (Some w)
    → slice_get slots m ≡ Some (Some w)
agree_given n v [] items there agree m w h = absurd (cc there)
agree_given zero v (s ∷ slots) [] there agree m w h = absurd (cc h)
agree_given (suc n) v (s ∷ slots) [] there agree m w h = absurd (cc h)
agree_given zero v (s ∷ slots) (i ∷ items) there agree zero w h = there ∙ h
agree_given zero v (s ∷ slots) (i ∷ items) there agree (suc m) w h = agree (suc m) w h
agree_given (suc n) v (s ∷ slots) (i ∷ items) there agree zero w h = agree zero w h
agree_given (suc n) v (s ∷ slots) (i ∷ items) there agree (suc m) w h =
    agree_given n v slots items there (λ k u e. agree (suc k) u e) m w h

pub none_left : (n : ℕ) (items : Items) (m : ℕ) (w : Value) → slice_get (with_entry n None items) m ≡ Some (Some w)
    → slice_get items m ≡ Some (Some w)
none_left n [] m w h = absurd (cc h)
none_left zero (i ∷ items) zero w h = absurd (cc h)
none_left zero (i ∷ items) (suc m) w h = h
none_left (suc n) (i ∷ items) zero w h = h
none_left (suc n) (i ∷ items) (suc m) w h = none_left n items m w h

entry_other : (n m : ℕ) (v : Option Value) (slots : Items) → (m ≡ n → ⊥)
    → slice_get (with_entry n v slots) m ≡ slice_get slots m
entry_other n m v [] other = refl
entry_other zero zero v (s ∷ slots) other = absurd (other refl)
entry_other zero (suc m) v (s ∷ slots) other = refl
entry_other (suc n) zero v (s ∷ slots) other = refl
entry_other (suc n) (suc m) v (s ∷ slots) other = entry_other n m v slots (λ e. other (ap suc e))

-- what holds of slots once item n is done, with its value or none
pub record After (slots values : Items) (n : ℕ) (o : Option Value) (slots' : Items) : Type 0 where
  pub agree : Agree slots' (with_entry n o values)
  pub left : (m : ℕ) → (m ≡ n → ⊥) → slice_get slots' m ≡ slice_get slots m

pub after_given : (slots values : Items) (n : ℕ) (v : Value) → Agree slots values → slice_get slots n ≡ Some (Some v)
    → After slots values n (Some v) slots
after_given slots values n v agree there = record {
  agree = record { by = agree_given n v slots values there agree.by };
  left = λ m other. refl;
}

pub after_stored : (slots values : Items) (n : ℕ) (v : Value) (x : Option Value) → Agree slots values
    → slice_get slots n ≡ Some x
    → After slots values n (Some v) (with_entry n (Some v) slots)
after_stored slots values n v x agree there = record {
  agree = record { by = agree_stored n v x slots values there agree.by };
  left = λ m other. entry_other n m (Some v) slots other;
}

pub after_none : (slots values : Items) (n : ℕ) → Agree slots values → After slots values n None slots
after_none slots values n agree = record {
  agree = record { by = λ m w h. agree.by m w (none_left n values m w h) };
  left = λ m other. refl;
}

-- what is given for an item
abbrev pub IsGiven : Option ItemDecl → Option Value → Type 0
IsGiven None e = ⊥
IsGiven (Some decl) e = IsGivable decl e

pub given_at : (items : List ItemDecl) (input : Items) → AreGivable items input → (n : ℕ) → n < length items
    → (slice_get input n ≡ Some (entry_at n input)) × IsGiven (slice_get items n) (entry_at n input)
given_at [] [] are n less = absurd (omega arith)
given_at [] (v ∷ input) are n less = absurd are
given_at (item ∷ items) [] are n less = absurd are
given_at (item ∷ items) (v ∷ input) are zero less = (refl, are.0)
given_at (item ∷ items) (v ∷ input) are (suc n) less = given_at items input are.1 n (omega arith)

-- a value that is made of another
pub value_joined : {A : Type 0} (make : Value → A) (r : Reply) (k : A → Whole)
    → and_then (plain (on_one r (λ v. Ok (make v)))) k ≡ and_then (plain r) (λ v. k (make v))
value_joined make (Ok v) k = refl
value_joined make (Err stop) k = refl

pub ended : {A : Type 0} (log : List Decider) (r : Result A Stop) (f g : A → Whole) → ((a : A) → f a ≡ g a)
    → later log r f ≡ later log r g
ended log (Ok a) f g same = ap (λ (x : Whole). record { log = log ++ x.log; end = x.end }) (same a)
ended log (Err stop) f g same = refl

pub no_function : (a : Bool) (params : List Ty) → params ≡ [] → (a && not (has_none params)) ≡ false
no_function true params is = ap (λ (l : List Ty). not (has_none l)) is
no_function false params is = refl
