-- Contents that agree with what is told gather the same, unless gathering comes to a file that isn't told.
use Rattle.std.proofs.Common.{◌≡◌, subst, ℕ, zero, suc, Bool, true, false, List, [], ◌∷◌, length, leb, refl}
use Rattle.std.proofs.Common.{Some, None, Option, Ok, Err, Result, inl, inr, ◌⊎◌}
use Rattle.std.specs.Prelude.{IfSome}
use Rattle.cat_pos.specs.declared.pos.Pos.{Pos}
use Rattle.cat_weave.specs.Woven.{woven}
use Rattle.cat_weave.specs.declared.segment.Segment.{Segment}
use Rattle.cat_weave.specs.declared.segment.Segment.TheVariants.{Code, Heading, Include}
use Rattle.cat_weave.specs.Gathered.{Contents, Gathered, gathered_none, with_piece, with_heading, with_file, source_of}
use Rattle.cat_weave.specs.Gathered.{limit_after, Ending, Whole, Refused, StopsAt, and_then, Including}
use Rattle.cat_weave.specs.Gathered.{segments_gathered}
use Rattle.cat_weave.specs.Gathered.{woven_as, woven_gathered, bytes_gathered, file_gathered, is_among, is_full}
use Rattle.cat_weave.specs.Gathered.{included_unless, included, gathered}
use Rattle.cat_weave.specs.Causes.{AreTold}
use Rattle.cat_weave.specs.declared.source.GatherRefusal.{GatherRefusal}

abbrev pub IsStop : {T : Type 0} → Ending T → Type 0
IsStop (Whole g) = ⊥
IsStop (Refused refusal) = ⊥
IsStop (StopsAt name bytes) = Unit {0}

abbrev pub IsSameOrStop : {T : Type 0} → Ending T → Ending T → Type 0
IsSameOrStop told ending = (told ≡ ending) ⊎ IsStop told

abbrev AreSameOrStop : Including → Including → Type 0
AreSameOrStop told include = (path : List ℕ) (pos : Pos) (g : Gathered) →
    IsSameOrStop (told path pos g) (include path pos g)

-- what stops stops
pub stop_then : {T : Type 0} (told : Ending Gathered) (next : Gathered → Ending T) → IsStop told →
    IsStop (and_then told next)
stop_then (Whole g) next stop = absurd stop
stop_then (Refused refusal) next stop = absurd stop
stop_then (StopsAt name bytes) next stop = tt

same_then : {T : Type 0} (ending : Ending Gathered) (next other : Gathered → Ending T) →
    ((g : Gathered) → IsSameOrStop (next g) (other g)) → IsSameOrStop (and_then ending next) (and_then ending other)
same_then (Whole g) next other same = same g
same_then (Refused refusal) next other same = inl refl
same_then (StopsAt name bytes) next other same = inl refl

then_same : {T : Type 0} (told ending : Ending Gathered) (next other : Gathered → Ending T) →
    IsSameOrStop told ending → ((g : Gathered) → IsSameOrStop (next g) (other g)) →
    IsSameOrStop (and_then told next) (and_then ending other)
then_same told ending next other (inl is) same =
    subst (λ (e : Ending Gathered). IsSameOrStop (and_then told next) (and_then e other)) is
    (same_then told next other same)
then_same told ending next other (inr stop) same = inr (stop_then told next stop)

segments_same : (told include : Including) → AreSameOrStop told include → (segments : List Segment) (g : Gathered) →
    IsSameOrStop (segments_gathered told segments g) (segments_gathered include segments g)
unfolding segments_gathered
segments_same told include same [] g = inl refl
segments_same told include same (Code piece ∷ segments) g =
    segments_same told include same segments (with_piece piece g)
segments_same told include same (Heading level text pos ∷ segments) g =
    segments_same told include same segments (with_heading level text pos g)
segments_same told include same (Include path pos ∷ segments) g =
    then_same (told path pos g) (include path pos g) (segments_gathered told segments)
    (segments_gathered include segments)
    (same path pos g) (λ h. segments_same told include same segments h)

woven_same : (told include : Including) → AreSameOrStop told include → (name : List ℕ) (size : ℕ) (g : Gathered)
    (segments : Result (List Segment) GatherRefusal) →
    IsSameOrStop (woven_gathered told name size g segments) (woven_gathered include name size g segments)
woven_same told include same name size g (Ok segments) =
    segments_same told include same segments (with_file name size g)
woven_same told include same name size g (Err refusal) = inl refl

bytes_same : (told include : Including) → AreSameOrStop told include → (name : List ℕ) (g : Gathered)
    (bytes : List ℕ) (short : Bool) →
    IsSameOrStop (bytes_gathered told name g bytes short) (bytes_gathered include name g bytes short)
bytes_same told include same name g bytes true =
    woven_same told include same name (length bytes) g (woven_as name (woven bytes (length g.files)))
bytes_same told include same name g bytes false = inl refl

file_same : (told include : Including) → AreSameOrStop told include → (name : List ℕ) (g : Gathered)
    (content other : Option (List ℕ)) → IfSome content (λ bytes. other ≡ Some bytes) →
    IsSameOrStop (file_gathered told name g content) (file_gathered include name g other)
file_same told include same name g None other agrees = inr tt
file_same told include same name g (Some bytes) other agrees =
    rw agrees (bytes_same told include same name g bytes (leb (length bytes) (limit_after g.bytes)))

unless_same : (told contents : Contents) → AreTold told contents → (next include : Including) →
    AreSameOrStop next include → (full taken : Bool) →
    AreSameOrStop (included_unless full taken told next) (included_unless full taken contents include)
unless_same told contents agrees next include same true taken path pos g = inl refl
unless_same told contents agrees next include same false true path pos g = inl refl
unless_same told contents agrees next include same false false path pos g =
    file_same next include same path g (told path) (contents path) (agrees path)

included_same : (told contents : Contents) → AreTold told contents → (deeper : ℕ) →
    AreSameOrStop (included told deeper) (included contents deeper)
unfolding included
included_same told contents agrees zero path pos g = inl refl
included_same told contents agrees (suc deeper) path pos g =
    unless_same told contents agrees (included told deeper) (included contents deeper)
    (included_same told contents agrees deeper) (is_full g) (is_among path g.files) path pos g

pub gathered_same : (told contents : Contents) (main : List ℕ) → AreTold told contents →
    IsSameOrStop (gathered told main) (gathered contents main)
unfolding gathered
gathered_same told contents main agrees =
    then_same (file_gathered (included told 63) main gathered_none (told main))
    (file_gathered (included contents 63) main gathered_none (contents main))
    (λ g. Whole (source_of g)) (λ g. Whole (source_of g))
    (file_same (included told 63) (included contents 63) (included_same told contents agrees 63) main gathered_none
    (told main) (contents main) (agrees main)) (λ g. inl refl)
