-- Contents that agree with what is told give the same, unless gathering comes to a file that isn't told.
use Rattle.std.proofs.Common.{◌≡◌, ◌∙◌, sym, subst, ℕ, Bool, true, false, List, length, leb, refl}
use Rattle.std.proofs.Common.{Some, None, Option, Ok, Err, Result, ⊎_elim}
use Rattle.std.proofs.Common.{◌≢◌, ◌<◌, ◌≤◌, ap}
use Rattle.std.proofs.lemmas.Bool.{leb-true, leb-false}
use Rattle.std.specs.Prelude.{IfSome, IsNone, IsSomeAnd}
use Rattle.cat_io.specs.Shelf.{Shelved}
use Rattle.cat_weave.specs.Gathered.{Contents}
use Rattle.cat_weave.specs.Gathered.{limit_after, Ending, Whole, Refused, StopsAt}
use Rattle.cat_weave.specs.Gathered.{gathered}
use Rattle.cat_weave.specs.Causes.{AreTold, AreToldBut, ComesTo, HasCause, HasEnding, IsAnswerTo}
use Rattle.cat_weave.specs.Causes.{is_failure}
use Rattle.cat_weave.specs.declared.source.Source.{Source}
use Rattle.cat_weave.specs.declared.source.GatherRefusal.{GatherRefusal}
use Rattle.cat_weave.specs.declared.source.GatherRefusal.TheVariants.{NotUtf8, FenceOpen, IncludeTwice, Missing}
use Rattle.cat_weave.specs.declared.source.GatherRefusal.TheVariants.{ReadFault, TooLarge, Memory}
use Rattle.cat_weave.proofs.SameLemmas.{IsStop, IsSameOrStop, gathered_same}
use Rattle.cat_weave.proofs.StopLemmas.{IsUnknownStop, IsLike, gathered_stop, gathered_like}

stop_answer : (ending : Ending Source) (r : Result Source GatherRefusal) → IsStop ending → IsAnswerTo ending r
stop_answer (Whole source) r stop = absurd stop
stop_answer (Refused refusal) r stop = absurd stop
stop_answer (StopsAt name bytes) r stop = tt

failure_answer : (ending : Ending Source) (r : Result Source GatherRefusal) → is_failure r ≡ true → IsAnswerTo ending r
failure_answer (Whole source) r failure = λ other. absurd (cc)
failure_answer (Refused refusal) r failure = λ other. absurd (cc)
failure_answer (StopsAt name bytes) r failure = tt

ends_answer : (told contents : Contents) (main : List ℕ) (ending : Ending Source) (r : Result Source GatherRefusal) →
    AreTold told contents → gathered contents main ≡ ending → IsAnswerTo ending r → IsAnswerTo (gathered told main) r
ends_answer told contents main ending r agrees ends answer =
    ⊎_elim (λ same. subst (λ (e : Ending Source). IsAnswerTo e r) (sym (same ∙ ends)) answer)
    (λ stop. stop_answer (gathered told main) r stop) (gathered_same told contents main agrees)

-- where a file isn't told, at which gathering stops, there is no answer that is told
none_told : (told contents : Contents) (main name : List ℕ) (bytes : ℕ) (r : Result Source GatherRefusal)
    → AreToldBut name told contents → gathered contents main ≡ StopsAt name bytes → told name ≡ None
    → IsAnswerTo (gathered told main) r
none_told told contents main name bytes r agrees stops none =
    let all : AreTold told contents = λ n. at n (told n) refl in
    ⊎_elim (λ same. subst (λ (e : Ending Source). IsAnswerTo e r) (sym (same ∙ stops)) tt)
    (λ stop. stop_answer (gathered told main) r stop) (gathered_same told contents main all)
  where
    at : (n : List ℕ) (o : Option (List ℕ)) → told n ≡ o → IfSome o (λ known. contents n ≡ Some known)
    at n None is = tt
    at n (Some known) is =
        let other : n ≢ name = λ same. absurd (cc (sym none ∙ (ap told (sym same) ∙ is))) in
        rw is at (agrees n other)

-- where its content is told, and too long, that is the answer
long_told : (told contents : Contents) (main name : List ℕ) (bytes : ℕ) (content : List ℕ)
    → AreToldBut name told contents → gathered contents main ≡ StopsAt name bytes → told name ≡ Some content
    → limit_after bytes < length content → IsAnswerTo (gathered told main) (Err (TooLarge name))
long_told told contents main name bytes content agrees stops is long =
    let unknown : contents name ≡ None =
    subst (λ (e : Ending Source). IsUnknownStop contents e) stops (gathered_stop contents main) in
    let like = gathered_like name content told contents agrees unknown is main in
    let refused : IsSameOrStop (gathered told main) (Refused (TooLarge name)) =
    (subst (λ (e : Ending Source). IsLike name content (gathered told main) e) stops like) refl long in
    ⊎_elim (λ same. subst (λ (e : Ending Source). IsAnswerTo e (Err (TooLarge name))) (sym same) (λ _. refl))
    (λ stop. stop_answer (gathered told main) (Err (TooLarge name)) stop) refused

-- whether it is told or not
large_told : (told contents : Contents) (main name : List ℕ) (bytes : ℕ) → AreToldBut name told contents
    → gathered contents main ≡ StopsAt name bytes
    → IfSome (told name) (λ content. limit_after bytes < length content)
    → IsAnswerTo (gathered told main) (Err (TooLarge name))
large_told told contents main name bytes agrees stops long = by (told name) refl
  where
    by : (o : Option (List ℕ)) → told name ≡ o → IsAnswerTo (gathered told main) (Err (TooLarge name))
    by None is = none_told told contents main name bytes (Err (TooLarge name)) agrees stops is
    by (Some content) is = long_told told contents main name bytes content agrees stops is (rw is at long)

none_is : {A : Type 0} (o : Option A) → IsNone o → o ≡ None
none_is None is = refl
none_is (Some x) is = cc is

-- an answer with its cause is the one that is told
pub answer_told : (old new : Shelved) (main : List ℕ) (r : Result Source GatherRefusal) → HasCause old new main r →
    IsAnswerTo (gathered old.content main) r
answer_told old new main (Ok source) cause =
    ends_answer old.content cause.1.0 main (Whole source) (Ok source) cause.1.1 cause.1.2 (λ _. refl)
answer_told old new main (Err (NotUtf8 name pos)) cause =
    ends_answer old.content cause.1.0 main (Refused (NotUtf8 name pos)) (Err (NotUtf8 name pos))
    cause.1.1 cause.1.2 (λ _. refl)
answer_told old new main (Err (FenceOpen name pos)) cause =
    ends_answer old.content cause.1.0 main (Refused (FenceOpen name pos)) (Err (FenceOpen name pos))
    cause.1.1 cause.1.2 (λ _. refl)
answer_told old new main (Err (IncludeTwice name pos)) cause =
    ends_answer old.content cause.1.0 main (Refused (IncludeTwice name pos)) (Err (IncludeTwice name pos))
    cause.1.1 cause.1.2 (λ _. refl)
answer_told old new main (Err (Missing name)) cause =
    let none : old.content name ≡ None = none_is (old.content name) cause.2.2 in
    none_told old.content cause.1.0 main name cause.0 (Err (Missing name)) cause.1.1 cause.1.2 none
answer_told old new main (Err (ReadFault name)) cause =
    failure_answer (gathered old.content main) (Err (ReadFault name)) refl
answer_told old new main (Err (TooLarge name)) cause =
    large_told old.content cause.1.0 main name cause.0 cause.1.1 cause.1.2 cause.2.2
answer_told old new main (Err Memory) cause = failure_answer (gathered old.content main) (Err Memory) refl

-- ---- what is told, and gathered

no_stop : (told : Contents) (main : List ℕ) (source : Source) → gathered told main ≡ Whole source
    → IsStop (gathered told main) → ⊥
no_stop told main source is stop = subst (λ (e : Ending Source). IsStop e) is stop

-- whatever else files hold, the same is gathered
pub endings_are_told : (told : Contents) (main : List ℕ) (source : Source) (ending : Ending Source)
    → gathered told main ≡ Whole source → HasEnding told main ending → ending ≡ Whole source
endings_are_told told main source ending is has =
    ⊎_elim (λ same. sym has.2 ∙ (sym same ∙ is)) (λ stop. absurd (no_stop told main source is stop))
    (gathered_same told has.0 main has.1)

-- what is told of a file at which gathering stops
told_content : (told contents : Contents) (main name : List ℕ) (source : Source) (bytes : ℕ)
    → gathered told main ≡ Whole source → AreToldBut name told contents → gathered contents main ≡ StopsAt name bytes
    → (content : Option (List ℕ)) → told name ≡ content
    → IsSomeAnd content (λ known. length known ≤ limit_after bytes)
told_content told contents main name source bytes is agrees stops None none =
    absurd (by (gathered told main) is (none_told told contents main name bytes (Err (Missing name)) agrees stops none))
  where
    by : (ending : Ending Source) → ending ≡ Whole source → IsAnswerTo ending (Err (Missing name)) → ⊥
    by (Whole other) same answer = cc (answer refl)
    by (Refused refusal) same answer = cc same
    by (StopsAt n b) same answer = cc same
told_content told contents main name source bytes is agrees stops (Some known) told_is =
    by (leb (length known) (limit_after bytes)) refl
  where
    is_short : (ending : Ending Source) → ending ≡ Whole source → IsAnswerTo ending (Err (TooLarge name)) → ⊥
    is_short (Whole other) same answer = cc (answer refl)
    is_short (Refused refusal) same answer = cc same
    is_short (StopsAt n b) same answer = cc same

    by : (b : Bool) → leb (length known) (limit_after bytes) ≡ b → length known ≤ limit_after bytes
    by true short = leb-true (length known) (limit_after bytes) short
    by false long = absurd (is_short (gathered told main) is
        (long_told told contents main name bytes known agrees stops told_is
        (leb-false (length known) (limit_after bytes) long)))

-- each file that gathering comes to is told, and within its limit
pub files_are_told : (told : Contents) (main name : List ℕ) (source : Source) (bytes : ℕ)
    → gathered told main ≡ Whole source → ComesTo told main name bytes
    → IsSomeAnd (told name) (λ content. length content ≤ limit_after bytes)
files_are_told told main name source bytes is comes =
    told_content told comes.0 main name source bytes is comes.1 comes.2 (told name) refl
