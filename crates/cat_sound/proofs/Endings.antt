-- How the words that put runs together end.
use Rattle.std.proofs.Common.{Bool, true, false, List, [], ◌∷◌, ◌++◌, Result, Ok, Err, ◌≡◌, refl, sym, subst}
use Rattle.cat_value.specs.declared.value.Value.{Value}
use Rattle.cat_value.specs.declared.ty.Ty.TheVariants as ty
use Rattle.cat_value.specs.declared.decls.Decls.{Decls}
use Rattle.cat_scope.specs.declared.stop.Stop.{Stop}
use Rattle.cat_scope.specs.declared.stop.Stop.TheVariants as stop
use Rattle.cat_scope.specs.Projections as read
use Rattle.cat_scope.specs.Runs.{Decider, Run, plain, gives, behind, and_then, giving, in_front, either, choose}
use Rattle.cat_scope.specs.Names.{AllHave}
use Rattle.cat_sound.specs.Endings.{Allowed, IsEnd, IsDecision, Ended, EndsIn, IsFault, ResultsIn, IsOf}
use Rattle.cat_sound.proofs.Results.{Any, reads-Boolean}

-- what holds of each of two lists
pub all_both : {A : Type 0} (P : A → Type 0) (xs ys : List A) → AllHave P xs → AllHave P ys → AllHave P (xs ++ ys)
all_both P [] ys h g = g
all_both P (x ∷ xs) ys h g = (h.0, all_both P xs ys h.1 g)

pub end_of_fault : (allowed : Allowed) (s : Stop) → IsFault s → IsEnd allowed s
end_of_fault allowed (stop.Conflict target positions) h = elim h [ ]
end_of_fault allowed (stop.NoValue target pos) h = elim h [ ]
end_of_fault allowed (stop.Fault kind pos) h = tt
end_of_fault allowed stop.Stuck h = h

pub ended : (allowed : Allowed) {A : Type 0} (P : A → Type 0) (r : Result A Stop) → ResultsIn P r → Ended allowed P r
ended allowed P (Ok a) h = h
ended allowed P (Err s) h = end_of_fault allowed s h

pub ends_plain : (allowed : Allowed) {A : Type 0} (P : A → Type 0) (r : Result A Stop) → ResultsIn P r
    → EndsIn allowed P (plain r)
ends_plain allowed P r h = (tt, ended allowed P r h)

pub ends_as : (allowed : Allowed) {A : Type 0} (P : A → Type 0) (r s : Run A) → r ≡ s → EndsIn allowed P s
    → EndsIn allowed P r
ends_as allowed P r s e h = subst (λ x. EndsIn allowed P x) (sym e) h

behind-ends : (allowed : Allowed) {A B : Type 0} (P : A → Type 0) (Q : B → Type 0) (log : List Decider)
    (r : Result A Stop) (next : A → Run B)
    → AllHave (IsDecision allowed) log → Ended allowed P r → ((a : A) → P a → EndsIn allowed Q (next a))
    → EndsIn allowed Q (behind log r next)
behind-ends allowed P Q log (Ok a) next front h go = let later =
    go a h in (all_both (IsDecision allowed) log (next a).log front later.0, later.1)
behind-ends allowed P Q log (Err s) next front h go = (front, h)

pub ends_then : (allowed : Allowed) {A B : Type 0} (P : A → Type 0) (Q : B → Type 0) (r : Run A) (next : A → Run B)
    → EndsIn allowed P r → ((a : A) → P a → EndsIn allowed Q (next a)) → EndsIn allowed Q (and_then r next)
ends_then allowed P Q r next h go = behind-ends allowed P Q r.log r.end next h.0 h.1 go

pub ends_giving : (allowed : Allowed) {A B : Type 0} (P : A → Type 0) (Q : B → Type 0) (r : Run A)
    (next : A → Result B Stop)
    → EndsIn allowed P r → ((a : A) → P a → ResultsIn Q (next a)) → EndsIn allowed Q (giving r next)
ends_giving allowed P Q r next h go =
    ends_then allowed P Q r (λ a. plain (next a)) h (λ a ha. ends_plain allowed Q (next a) (go a ha))

pub ends_in_front : (allowed : Allowed) {A : Type 0} (P : A → Type 0) (Q R : List A → Type 0) (r : Run A)
    (rest : Run (List A))
    → EndsIn allowed P r → EndsIn allowed Q rest → ((a : A) (more : List A) → P a → Q more → R (a ∷ more))
    → EndsIn allowed R (in_front r rest)
ends_in_front allowed P Q R r rest h g go =
    ends_then allowed P R r (λ a. and_then rest (λ more. gives (a ∷ more))) h
    (λ a ha. ends_then allowed Q R rest (λ more. gives (a ∷ more)) g (λ more hm. (tt, go a more ha hm)))

ends_either : (allowed : Allowed) {A : Type 0} (P : A → Type 0) (Any : Bool → Type 0) (t : Result Bool Stop)
    (one other : Run A)
    → ResultsIn Any t → EndsIn allowed P one → EndsIn allowed P other → EndsIn allowed P (either t one other)
ends_either allowed P Any (Ok true) one other h left right = left
ends_either allowed P Any (Ok false) one other h left right = right
ends_either allowed P Any (Err s) one other h left right = (tt, end_of_fault allowed s h)

pub ends_choose : (allowed : Allowed) {A : Type 0} (P : A → Type 0) (ds : Decls) (v : Value) (one other : Run A)
    → IsOf ds ty.Boolean v → EndsIn allowed P one → EndsIn allowed P other → EndsIn allowed P (choose v one other)
ends_choose allowed P ds v one other h left right =
    ends_either allowed P (Any {A = Bool}) (read.truth v) one other (reads-Boolean ds v h) left right

-- every target may stop
abbrev pub all_stop : Allowed → Allowed
all_stop allowed = record { may_stop = λ target. true; may_decide = allowed.may_decide }

end-loosened : (allowed : Allowed) (s : Stop) → IsEnd allowed s → IsEnd (all_stop allowed) s
end-loosened allowed (stop.Conflict target positions) h = refl
end-loosened allowed (stop.NoValue target pos) h = refl
end-loosened allowed (stop.Fault kind pos) h = tt
end-loosened allowed stop.Stuck h = h

pub loosened : (allowed : Allowed) {A : Type 0} (P : A → Type 0) (run : Run A) → EndsIn allowed P run
    → EndsIn (all_stop allowed) P run
loosened allowed {A = A} P run h = (h.0, by run.end h.1)
  where
    by : (r : Result A Stop) → Ended allowed P r → Ended (all_stop allowed) P r
    by (Ok a) g = g
    by (Err s) g = end-loosened allowed s g

-- what has a property has another one
pub ends_more : (allowed : Allowed) {A : Type 0} (P Q : A → Type 0) (run : Run A) → EndsIn allowed P run
    → ((a : A) → P a → Q a) → EndsIn allowed Q run
ends_more allowed {A = A} P Q run h go = (h.0, by run.end h.1)
  where
    by : (r : Result A Stop) → Ended allowed P r → Ended allowed Q r
    by (Ok a) g = go a g
    by (Err s) g = g
