-- The list of the segments to come leads to what is gathered by recursion on files.
use Rattle.std.proofs.Common.{◌≡◌, ◌∙◌, ap, sym, refl, ℕ, zero, suc, ◌+◌, ◌-◌, ◌<◌, ◌≤◌, Bool, true, false, List, []}
use Rattle.std.proofs.Common.{◌∷◌, ◌++◌, length, arith, leb, leb-true, leb-false, length-append, Some, None, Option, Ok}
use Rattle.std.proofs.Common.{Err, Result}
use Rattle.cat_pos.specs.declared.pos.Pos.{Pos}
use Rattle.cat_weave.specs.Woven.{woven}
use Rattle.cat_weave.specs.declared.segment.Segment.{Segment}
use Rattle.cat_weave.specs.declared.segment.Segment.TheVariants.{Code, Heading, Include}
use Rattle.cat_weave.specs.Gathered.{Contents, Gathered, gathered_none, with_piece, with_heading, with_file}
use Rattle.cat_weave.specs.Gathered.{Ending, Whole, Refused, StopsAt, and_then, Including, segments_gathered, woven_as}
use Rattle.cat_weave.specs.Gathered.{woven_gathered, bytes_gathered, file_gathered, limit_after, is_among, is_full}
use Rattle.cat_weave.specs.Gathered.{twice, included_unless, included, gathered}
use Rattle.cat_weave.specs.inside.Worklist.{gather_segments, put_in_front, weave_within, take_file, include_with}
use Rattle.cat_weave.specs.declared.source.Source.{Source}
use Rattle.cat_weave.specs.declared.source.GatherRefusal.{GatherRefusal}

-- an include by what was taken
pub include_taken : (c : Contents) (more : ℕ) (path : List ℕ) (pos : Pos) (segments : List Segment) (g : Gathered) →
    is_among path g.files ≡ true → include_with c more path pos segments g ≡ twice pos g
unfolding include_with
include_taken c zero path pos segments g taken = refl
include_taken c (suc more) path pos segments g taken = rw taken refl

pub include_full : (c : Contents) (path : List ℕ) (pos : Pos) (segments : List Segment) (g : Gathered) (more : ℕ) →
    more ≡ 0 → include_with c more path pos segments g ≡ twice pos g
unfolding include_with
include_full c path pos segments g zero full = refl
include_full c path pos segments g (suc more) full = absurd (omega arith)

pub include_free : (c : Contents) (more left : ℕ) (path : List ℕ) (pos : Pos) (segments : List Segment) (g : Gathered) →
    more ≡ suc left → is_among path g.files ≡ false →
    include_with c more path pos segments g ≡ take_file (include_with c left) path segments g (c path)
unfolding include_with
include_free c zero left path pos segments g room fresh = absurd (omega arith)
include_free c (suc more) left path pos segments g room fresh =
    let same : more ≡ left = omega arith in
    rw (fresh, same) refl

-- at least so many files were taken, and at most 64
abbrev IsWithin : ℕ → Ending Gathered → Type 0
IsWithin few (Whole g) = (few ≤ length g.files) × (length g.files ≤ 64)
IsWithin few (Refused refusal) = Unit {0}
IsWithin few (StopsAt name bytes) = Unit {0}

abbrev KeepsWithin : Including → Type 0
KeepsWithin include = (path : List ℕ) (pos : Pos) (g : Gathered) → length g.files ≤ 64 →
    IsWithin (length g.files) (include path pos g)

weaker : (few many : ℕ) (ending : Ending Gathered) → few ≤ many → IsWithin many ending → IsWithin few ending
weaker few many (Whole g) low within = (omega (arith, low, within.0), within.1)
weaker few many (Refused refusal) low within = tt
weaker few many (StopsAt name bytes) low within = tt

then_within : (few : ℕ) (ending : Ending Gathered) (next : Gathered → Ending Gathered) → IsWithin few ending →
    ((g : Gathered) → few ≤ length g.files → length g.files ≤ 64 → IsWithin few (next g)) →
    IsWithin few (and_then ending next)
then_within few (Whole g) next within more = more g within.0 within.1
then_within few (Refused refusal) next within more = tt
then_within few (StopsAt name bytes) next within more = tt

segments_within : (include : Including) → KeepsWithin include → (segments : List Segment) (g : Gathered) →
    length g.files ≤ 64 → IsWithin (length g.files) (segments_gathered include segments g)
unfolding segments_gathered
segments_within include keeps [] g few = (omega arith, few)
segments_within include keeps (Code piece ∷ segments) g few =
    segments_within include keeps segments (with_piece piece g) few
segments_within include keeps (Heading level text pos ∷ segments) g few =
    segments_within include keeps segments (with_heading level text pos g) few
segments_within include keeps (Include path pos ∷ segments) g few =
    then_within (length g.files) (include path pos g) (segments_gathered include segments) (keeps path pos g few)
    (λ h more most. weaker (length g.files) (length h.files) (segments_gathered include segments h) more
    (segments_within include keeps segments h most))

woven_within : (include : Including) → KeepsWithin include → (name : List ℕ) (size : ℕ) (g : Gathered)
    (segments : Result (List Segment) GatherRefusal) → length g.files < 64 →
    IsWithin (length g.files) (woven_gathered include name size g segments)
woven_within include keeps name size g (Ok segments) room =
    let number = length-append g.files (name ∷ []) in
    weaker (length g.files) (length (g.files ++ name ∷ [])) (segments_gathered include segments (with_file name size g))
    (omega (arith, number)) (segments_within include keeps segments (with_file name size g)
    (omega (arith, number, room)))
woven_within include keeps name size g (Err refusal) room = tt

bytes_within : (include : Including) → KeepsWithin include → (name : List ℕ) (g : Gathered) (bytes : List ℕ)
    (short : Bool) → length g.files < 64 → IsWithin (length g.files) (bytes_gathered include name g bytes short)
bytes_within include keeps name g bytes true room =
    woven_within include keeps name (length bytes) g (woven_as name (woven bytes (length g.files))) room
bytes_within include keeps name g bytes false room = tt

file_within : (include : Including) → KeepsWithin include → (name : List ℕ) (g : Gathered)
    (content : Option (List ℕ)) → length g.files < 64 →
    IsWithin (length g.files) (file_gathered include name g content)
file_within include keeps name g None room = tt
file_within include keeps name g (Some bytes) room =
    bytes_within include keeps name g bytes (leb (length bytes) (limit_after g.bytes)) room

unless_within : (c : Contents) (include : Including) → KeepsWithin include → (path : List ℕ) (pos : Pos) (g : Gathered)
    (full taken : Bool) → is_full g ≡ full →
    IsWithin (length g.files) (included_unless full taken c include path pos g)
unless_within c include keeps path pos g true taken is = tt
unless_within c include keeps path pos g false true is = tt
unless_within c include keeps path pos g false false is =
    file_within include keeps path g (c path) (leb-false 64 (length g.files) is)

included_within : (c : Contents) (deeper : ℕ) → KeepsWithin (included c deeper)
unfolding included
included_within c zero path pos g few = tt
included_within c (suc deeper) path pos g few =
    unless_within c (included c deeper) (included_within c deeper) path pos g (is_full g) (is_among path g.files) refl

-- where the segments to come lead
abbrev lead : Contents → List Segment → Gathered → Ending Source
lead c segments g = gather_segments (include_with c (64 - length g.files)) segments g

-- an include leads to where its file leads, and then the segments after it
abbrev Agrees : Contents → ℕ → Including → Type 0
Agrees c deeper include = (path : List ℕ) (pos : Pos) (segments : List Segment) (g : Gathered) →
    64 ≤ deeper + length g.files → length g.files ≤ 64 →
    include_with c (64 - length g.files) path pos segments g ≡ and_then (include path pos g) (lead c segments)

then_agree : (c : Contents) (include : Including) (own segments : List Segment) (few : ℕ) (ending : Ending Gathered) →
    IsWithin few ending → ((h : Gathered) → few ≤ length h.files → length h.files ≤ 64 →
    lead c (own ++ segments) h ≡ and_then (segments_gathered include own h) (lead c segments)) →
    and_then ending (lead c (own ++ segments)) ≡ and_then (and_then ending (segments_gathered include own))
    (lead c segments)
then_agree c include own segments few (Whole h) within same = same h within.0 within.1
then_agree c include own segments few (Refused refusal) within same = refl
then_agree c include own segments few (StopsAt name bytes) within same = refl

segments_agree : (c : Contents) (deeper : ℕ) (include : Including) → Agrees c deeper include → KeepsWithin include →
    (own segments : List Segment) (g : Gathered) → 64 ≤ deeper + length g.files → length g.files ≤ 64 →
    lead c (own ++ segments) g ≡ and_then (segments_gathered include own g) (lead c segments)
unfolding gather_segments segments_gathered
segments_agree c deeper include agrees keeps [] segments g deep few = refl
segments_agree c deeper include agrees keeps (Code piece ∷ own) segments g deep few =
    segments_agree c deeper include agrees keeps own segments (with_piece piece g) deep few
segments_agree c deeper include agrees keeps (Heading level text pos ∷ own) segments g deep few =
    segments_agree c deeper include agrees keeps own segments (with_heading level text pos g) deep few
segments_agree c deeper include agrees keeps (Include path pos ∷ own) segments g deep few =
    agrees path pos (own ++ segments) g deep few
    ∙ then_agree c include own segments (length g.files) (include path pos g) (keeps path pos g few)
    (λ h more most. segments_agree c deeper include agrees keeps own segments h (omega (arith, deep, more)) most)

woven_agree : (c : Contents) (deeper : ℕ) (include : Including) → Agrees c deeper include → KeepsWithin include →
    (name : List ℕ) (size : ℕ) (segments : List Segment) (g : Gathered) (own : Result (List Segment) GatherRefusal) →
    64 ≤ suc deeper + length g.files → length g.files < 64 →
    put_in_front (include_with c (63 - length g.files)) name size segments g own
    ≡ and_then (woven_gathered include name size g own) (lead c segments)
woven_agree c deeper include agrees keeps name size segments g (Ok own) deep room =
    let number = length-append g.files (name ∷ []) in
    let left : 63 - length g.files ≡ 64 - length (g.files ++ name ∷ []) = omega (arith, number) in
    ap (λ (more : ℕ). gather_segments (include_with c more) (own ++ segments) (with_file name size g)) left
    ∙ segments_agree c deeper include agrees keeps own segments (with_file name size g)
    (omega (arith, number, deep)) (omega (arith, number, room))
woven_agree c deeper include agrees keeps name size segments g (Err refusal) deep room = refl

bytes_agree : (c : Contents) (deeper : ℕ) (include : Including) → Agrees c deeper include → KeepsWithin include →
    (name : List ℕ) (segments : List Segment) (g : Gathered) (bytes : List ℕ) (short : Bool) →
    64 ≤ suc deeper + length g.files → length g.files < 64 →
    weave_within (include_with c (63 - length g.files)) name segments g bytes short
    ≡ and_then (bytes_gathered include name g bytes short) (lead c segments)
bytes_agree c deeper include agrees keeps name segments g bytes true deep room =
    woven_agree c deeper include agrees keeps name (length bytes) segments g
    (woven_as name (woven bytes (length g.files))) deep room
bytes_agree c deeper include agrees keeps name segments g bytes false deep room = refl

file_agree : (c : Contents) (deeper : ℕ) (include : Including) → Agrees c deeper include → KeepsWithin include →
    (name : List ℕ) (segments : List Segment) (g : Gathered) (content : Option (List ℕ)) →
    64 ≤ suc deeper + length g.files → length g.files < 64 →
    take_file (include_with c (63 - length g.files)) name segments g content
    ≡ and_then (file_gathered include name g content) (lead c segments)
file_agree c deeper include agrees keeps name segments g None deep room = refl
file_agree c deeper include agrees keeps name segments g (Some bytes) deep room =
    bytes_agree c deeper include agrees keeps name segments g bytes (leb (length bytes) (limit_after g.bytes)) deep room

unless_agree : (c : Contents) (deeper : ℕ) (include : Including) → Agrees c deeper include → KeepsWithin include →
    (path : List ℕ) (pos : Pos) (segments : List Segment) (g : Gathered) (full taken : Bool) → is_full g ≡ full →
    is_among path g.files ≡ taken → 64 ≤ suc deeper + length g.files → length g.files ≤ 64 →
    include_with c (64 - length g.files) path pos segments g
    ≡ and_then (included_unless full taken c include path pos g) (lead c segments)
unless_agree c deeper include agrees keeps path pos segments g true taken is among deep few =
    include_full c path pos segments g (64 - length g.files) (omega (arith, leb-true 64 (length g.files) is))
unless_agree c deeper include agrees keeps path pos segments g false true is among deep few =
    include_taken c (64 - length g.files) path pos segments g among
unless_agree c deeper include agrees keeps path pos segments g false false is among deep few =
    let room = leb-false 64 (length g.files) is in
    include_free c (64 - length g.files) (63 - length g.files) path pos segments g (omega (arith, room)) among
    ∙ file_agree c deeper include agrees keeps path segments g (c path) deep room

agree : (c : Contents) (deeper : ℕ) → Agrees c deeper (included c deeper)
unfolding included
agree c zero path pos segments g deep few =
    include_full c path pos segments g (64 - length g.files) (omega (arith, deep))
agree c (suc deeper) path pos segments g deep few =
    unless_agree c deeper (included c deeper) (agree c deeper) (included_within c deeper) path pos segments g
    (is_full g) (is_among path g.files) refl refl deep few

-- the list that begins with the main file
pub gathered-by_list : (c : Contents) (main : List ℕ) →
    gathered c main ≡ take_file (include_with c 63) main [] gathered_none (c main)
unfolding gathered gather_segments
gathered-by_list c main = sym (file_agree c 63 (included c 63) (agree c 63) (included_within c 63) main []
    gathered_none (c main) (omega arith) (omega arith))
