-- How gathering goes on from one segment to the next, whatever the files hold that aren't taken yet.
use Rattle.std.proofs.Common.{◌≡◌, ◌∙◌, ap, sym, subst, ℕ, zero, suc, ◌+◌, ◌-◌, ◌<◌, ◌≤◌, Bool, true, false, cond, ◌||◌}
use Rattle.std.proofs.Common.{List, [], ◌∷◌, ◌++◌, length, drop, reverse, refl, arith, append_assoc, length-append}
use Rattle.std.proofs.Common.{le-leb, Some, None, Option, Ok, Err, Result, ⊎_elim, ◌⊎◌}
use Rattle.std.proofs.lemmas.List.{reverse-append}
use Rattle.std.proofs.lemmas.Bool.{cases_Bool, false≢true}
use Rattle.std.proofs.lemmas.Slice.Eq.{bytes_eq-Decides}
use Rattle.std.specs.Prelude.{bytes_eq, IfSome, OnOk, IfErr, slice_get, slice_index_or}
use Rattle.cat_io.specs.Shelf.{Shelved, Gives}
use Rattle.cat_pos.specs.Position.{pos_file}
use Rattle.cat_pos.specs.declared.pos.Pos.{Pos}
use Rattle.cat_pos.specs.declared.pos.Piece.{Piece}
use Rattle.cat_weave.specs.Woven.{woven}
use Rattle.cat_weave.specs.declared.segment.Heading.{Heading as Headed}
use Rattle.cat_weave.specs.declared.segment.Segment.{Segment}
use Rattle.cat_weave.specs.declared.segment.Segment.TheVariants.{Code, Heading, Include}
use Rattle.cat_weave.specs.Gathered.{Contents, Gathered, gathered_none, source_of, limit_after, Ending, Whole, Refused}
use Rattle.cat_weave.specs.Gathered.{woven_as, is_among, twice}
use Rattle.cat_weave.specs.Causes.{AreTold, AreToldBut, HasEnding, ComesTo, HasCause}
use Rattle.cat_weave.specs.inside.Worklist.{Leading, gather_segments, put_in_front, take_file, include_with}
use Rattle.cat_weave.specs.inside.UnderWay.{Weaves, Takes, IsRefusedTake, SameOn, GoesOn, AreToCome}
use Rattle.cat_weave.specs.declared.source.Source.{Source}
use Rattle.cat_weave.specs.declared.source.GatherRefusal.{GatherRefusal}
use Rattle.cat_weave.specs.declared.source.GatherRefusal.TheVariants.{NotUtf8, FenceOpen, IncludeTwice, Missing}
use Rattle.cat_weave.specs.declared.source.GatherRefusal.TheVariants.{ReadFault, TooLarge, Memory}
use Rattle.cat_weave.proofs.WorklistLemmas.{include_taken, include_full, include_free, gathered-by_list}

-- segments to come, last first
pub moved : (left front old new : List Segment) (segment : Segment) → old ≡ left ++ segment ∷ []
    → new ≡ front ++ segment ∷ [] →
    left ++ reverse new ≡ old ++ reverse front
moved left front old new segment was is =
    rw (was, is, reverse-append front (segment ∷ [])) (sym (append_assoc left (segment ∷ []) (reverse front)))

pub reverse_push : (segments : List Segment) (segment : Segment)
    → reverse (segments ++ segment ∷ []) ≡ segment ∷ reverse segments
reverse_push segments segment = reverse-append segments (segment ∷ [])

-- names
same_name : (n name : List ℕ) → bytes_eq n name ≡ true → n ≡ name
same_name n name = (bytes_eq-Decides n name).0

own_name : (name : List ℕ) → bytes_eq name name ≡ true
own_name name = (bytes_eq-Decides name name).1 refl

pub drop_get : (names : List (List ℕ)) (i : ℕ) (name : List ℕ) → Some name ≡ slice_get names i →
    drop i names ≡ name ∷ drop (i + 1) names
drop_get [] i name at = cc
drop_get (n ∷ names) zero name at = let same : name ≡ n = cc in rw same refl
drop_get (n ∷ names) (suc i) name at =
    let next : suc i + 1 ≡ suc (i + 1) = omega arith in rw next (drop_get names i name at)

pub among_yes : (name n : List ℕ) (names : List (List ℕ)) (i : ℕ) → Some n ≡ slice_get names i →
    bytes_eq n name ≡ true → is_among name (drop i names) ≡ true
among_yes name n names i at same = rw (drop_get names i n at, same) refl

pub among_no : (name n : List ℕ) (names : List (List ℕ)) (i : ℕ) → Some n ≡ slice_get names i →
    bytes_eq n name ≡ false → is_among name (drop i names) ≡ is_among name (drop (i + 1) names)
among_no name n names i at other = rw (drop_get names i n at, other) refl

pub named_at : (names : List (List ℕ)) (i : ℕ) (name : List ℕ) → Some name ≡ slice_get names i →
    name ≡ slice_index_or names i []
named_at [] i name at = cc
named_at (n ∷ names) zero name at = cc
named_at (n ∷ names) (suc i) name at = named_at names i name at

among_front : (m name : List ℕ) (names : List (List ℕ)) → is_among m names ≡ true →
    is_among m (names ++ name ∷ []) ≡ true
among_front m name [] among = absurd (false≢true among)
among_front m name (n ∷ names) among =
    elim (bytes_eq n m) as (λ v. (v || is_among m names) ≡ true →
    (v || is_among m (names ++ name ∷ [])) ≡ true) [
      | true ↦ (λ _. refl)
      | false ↦
          (λ rest. among_front m name names rest)
    ] among

among_last : (name : List ℕ) (names : List (List ℕ)) → is_among name (names ++ name ∷ []) ≡ true
among_last name [] = rw (own_name name) refl
among_last name (n ∷ names) =
    elim (bytes_eq n name) as (λ v. (v || is_among name (names ++ name ∷ [])) ≡ true) [
      | true ↦ refl
      | false ↦
          among_last name names
    ]

-- a file is another one than those taken
other_name : (m name : List ℕ) (files : List (List ℕ)) → is_among name files ≡ false → is_among m files ≡ true →
    bytes_eq m name ≡ false
other_name m name files fresh among =
    ⊎_elim (λ same. absurd (false≢true (sym fresh ∙ subst (λ n. is_among n files ≡ true) (same_name m name same)
    among))) (λ other. other) (cases_Bool (bytes_eq m name))

-- contents with other content of one file
abbrev put : List ℕ → Option (List ℕ) → Contents → Contents
put name content contents n = cond (bytes_eq n name) content (contents n)

put_own : (name : List ℕ) (content : Option (List ℕ)) (contents : Contents) → put name content contents name ≡ content
put_own name content contents = rw (own_name name) refl

put_same : (files : List (List ℕ)) (name : List ℕ) (content : Option (List ℕ)) (contents : Contents) →
    is_among name files ≡ false → SameOn files contents (put name content contents)
put_same files name content contents fresh m among = rw (other_name m name files fresh among) refl

told_put : (told content : Option (List ℕ)) (bytes : List ℕ) (b : Bool) → (b ≡ true → IfSome told (λ c. bytes ≡ c)) →
    IfSome told (λ c. content ≡ Some c) → IfSome told (λ c. cond b (Some bytes) content ≡ Some c)
told_put None content bytes b read was = tt
told_put (Some c) content bytes true read was = ap Some (read refl)
told_put (Some c) content bytes false read was = was

agrees_put : (told contents : Contents) (name bytes : List ℕ) → IfSome (told name) (λ c. bytes ≡ c) →
    AreTold told contents → AreTold told (put name (Some bytes) contents)
agrees_put told contents name bytes read agrees n =
    told_put (told n) (contents n) bytes (bytes_eq n name) (λ same. subst
    (λ (m : List ℕ). IfSome (told m) (λ c. bytes ≡ c)) (sym (same_name n name same)) read) (agrees n)

agrees_but : (told contents : Contents) (name : List ℕ) → AreTold told contents →
    AreToldBut name told (put name None contents)
agrees_but told contents name agrees n other =
    let differs : bytes_eq n name ≡ false =
    ⊎_elim (λ same. absurd (other (same_name n name same))) (λ no. no) (cases_Bool (bytes_eq n name)) in
    rw differs (agrees n)

pub told_itself : (content : Option (List ℕ)) → IfSome content (λ c. content ≡ Some c)
told_itself None = tt
told_itself (Some c) = refl

-- gathering goes on the same
pub goes_on_same : (told : Contents) (main : List ℕ) (files : List (List ℕ)) (on more : Contents → Ending Source) →
    ((c : Contents) → on c ≡ more c) → GoesOn told main files on → GoesOn told main files more
goes_on_same told main files on more same g =
    record { contents = g.contents; agrees = g.agrees; goes_on = λ other held. g.goes_on other held ∙ same other }

pub ends_in : (told : Contents) (main : List ℕ) (files : List (List ℕ)) (on : Contents →
    Ending Source) (ending : Ending Source) → ((c : Contents) → on c ≡ ending) → GoesOn told main files on →
    HasEnding told main ending
ends_in told main files on ending same g = (g.contents, g.agrees, g.goes_on g.contents (λ n _. refl) ∙ same g.contents)

pub begins : (told : Contents) (main : List ℕ) →
    GoesOn told main [] (λ c. take_file (include_with c 63) main [] gathered_none (c main))
begins told main = record {
  contents = told;
  agrees = λ n. told_itself (told n);
  goes_on = λ other held. gathered-by_list other main;
}

pub whole_cause : (old new : Shelved) (main : List ℕ) (g : Gathered) → new ≡ old → AreToCome old.content main g [] →
    HasCause old new main (Ok (source_of g))
unfolding gather_segments
whole_cause old new main g same come =
    (same, ends_in old.content main g.files _ (Whole (source_of g)) (λ c. refl) come)

pub code_goes_on : (told : Contents) (main : List ℕ) (g : Gathered) (pieces : List Piece) (piece : Piece)
    (segment : Segment) (segments : List Segment) → segment ≡ Code piece → pieces ≡ g.pieces ++ piece ∷ []
    → AreToCome told main g (segment ∷ segments) → AreToCome told main (record g { pieces = pieces }) segments
unfolding gather_segments
code_goes_on told main g pieces piece segment segments is_segment is come = rw is (rw is_segment at come)

pub heading_goes_on : (told : Contents) (main : List ℕ) (g : Gathered) (headings : List Headed) (count level : ℕ)
    (text : List ℕ) (pos : Pos) (segment : Segment) (segments : List Segment) → segment ≡ Heading level text pos →
    count ≡ length g.pieces
    → headings ≡ g.headings ++ record { pieces = count; level = level; text = text; pos = pos } ∷ [] →
    AreToCome told main g (segment ∷ segments) → AreToCome told main (record g { headings = headings }) segments
unfolding gather_segments
heading_goes_on told main g headings count level text pos segment segments is_segment counted is come =
    rw (is, counted) (rw is_segment at come)

pub include_goes_on : (told : Contents) (main : List ℕ) (g : Gathered) (path : List ℕ) (pos : Pos)
    (segments : List Segment) → AreToCome told main g (Include path pos ∷ segments) →
    GoesOn told main g.files (λ c. include_with c (64 - length g.files) path pos segments g)
unfolding gather_segments
include_goes_on told main g path pos segments come = come

pub twice_cause : (old : Shelved) (main path name : List ℕ) (pos : Pos) (segments : List Segment) (g : Gathered) →
    (64 ≤ length g.files) ⊎ (is_among path g.files ≡ true) → name ≡ slice_index_or g.files (pos_file pos) [] →
    GoesOn old.content main g.files (λ c. include_with c (64 - length g.files) path pos segments g) →
    HasCause old old main (Err (IncludeTwice name pos))
twice_cause old main path name pos segments g why named on =
    rw named (
      refl,
      ends_in old.content main g.files _ (twice pos g)
          (λ c. ⊎_elim (λ full. include_full c path pos segments g (64 - length g.files) (omega arith))
          (λ taken. include_taken c (64 - length g.files) path pos segments g taken) why) on,
    )

pub free_goes_on : (told : Contents) (main path : List ℕ) (pos : Pos) (segments : List Segment) (g : Gathered) →
    length g.files < 64 → is_among path g.files ≡ false
    → GoesOn told main g.files (λ c. include_with c (64 - length g.files) path pos segments g) →
    GoesOn told main g.files (λ c. take_file (include_with c (63 - length g.files)) path segments g (c path))
free_goes_on told main path pos segments g room fresh on =
    goes_on_same told main g.files _ (λ c. take_file (include_with c (63 - length g.files)) path segments g (c path))
    (λ c. include_free c (64 - length g.files) (63 - length g.files) path pos segments g (omega arith) fresh) on

-- a file that was read
file_read : (include : Leading) (name bytes : List ℕ) (segments : List Segment) (g : Gathered)
    (content : Option (List ℕ)) →
    content ≡ Some bytes → length bytes ≤ limit_after g.bytes
    → take_file include name segments g content ≡ put_in_front include name (length bytes) segments g
    (woven_as name (woven bytes (length g.files)))
file_read include name bytes segments g content is short =
    rw (is, le-leb (length bytes) (limit_after g.bytes) short) refl

read_goes_on : (told : Contents) (main name bytes : List ℕ) (g : Gathered) (segments : List Segment) →
    is_among name g.files ≡ false → Gives (told name) (limit_after g.bytes) bytes
    → GoesOn told main g.files (λ c. take_file (include_with c (63 - length g.files)) name segments g (c name))
    → GoesOn told main (g.files ++ name ∷ []) (λ c. put_in_front (include_with c (63 - length g.files)) name
    (length bytes) segments g (woven_as name (woven bytes (length g.files))))
read_goes_on told main name bytes g segments fresh gives on = record {
  contents = put name (Some bytes) on.contents;
  agrees = agrees_put told on.contents name bytes gives.content on.agrees;
  goes_on = λ other held.
      let held_before : SameOn g.files on.contents other =
      λ m among. held m (among_front m name g.files among) ∙ put_same g.files name (Some bytes) on.contents fresh
      m among in
      let has : other name ≡ Some bytes = held name (among_last name g.files) ∙ put_own name (Some bytes) on.contents in
      on.goes_on other held_before ∙ file_read (include_with other (63 - length g.files)) name bytes segments g
      (other name) has gives.short;
}

pub take_goes_on : (told : Contents) (main name : List ℕ) (old new : Gathered) (segments after : List Segment) →
    is_among name old.files ≡ false → Takes told name old segments new after
    → GoesOn told main old.files (λ c. take_file (include_with c (63 - length old.files)) name segments old (c name)) →
    AreToCome told main new after
take_goes_on told main name old new segments after fresh takes on =
    let left : 64 - length (old.files ++ name ∷ []) ≡ 63 - length old.files =
    omega (arith, length-append old.files (name ∷ [])) in
    rw (takes.gathered_is, takes.segments_are)
    (goes_on_same told main (old.files ++ name ∷ []) _ _ (λ c. rw (takes.weaves.segments, left) refl)
    (read_goes_on told main name takes.bytes old segments fresh takes.weaves.read on))

refused_cause : (told : Contents) (main name bytes : List ℕ) (g : Gathered) (segments : List Segment)
    (refusal : GatherRefusal) → is_among name g.files ≡ false → Weaves told name g bytes (Err refusal)
    → GoesOn told main g.files (λ c. take_file (include_with c (63 - length g.files)) name segments g (c name)) →
    HasEnding told main (Refused refusal)
refused_cause told main name bytes g segments refusal fresh weaves on =
    ends_in told main (g.files ++ name ∷ []) _ (Refused refusal) (λ c. rw weaves.segments refl)
    (read_goes_on told main name bytes g segments fresh weaves.read on)

comes_to : (told : Contents) (main name : List ℕ) (g : Gathered) (segments : List Segment)
    → is_among name g.files ≡ false
    → GoesOn told main g.files (λ c. take_file (include_with c (63 - length g.files)) name segments g (c name)) →
    ComesTo told main name g.bytes
comes_to told main name g segments fresh on =
    let without = put name None on.contents in (
      without,
      agrees_but told on.contents name on.agrees,
      on.goes_on without (put_same g.files name None on.contents fresh)
          ∙ ap (λ (content : Option (List ℕ)). take_file (include_with without (63 - length g.files)) name segments g
          content) (put_own name None on.contents),
    )

pub take_cause : (old new : Shelved) (main name : List ℕ) (g : Gathered) (segments : List Segment)
    (refusal : GatherRefusal) →
    is_among name g.files ≡ false →
    GoesOn old.content main g.files (λ c. take_file (include_with c (63 - length g.files)) name segments g (c name)) →
    IsRefusedTake name g old new refusal → HasCause old new main (Err refusal)
take_cause old new main name g segments (NotUtf8 n pos) fresh on why =
    (why.1, refused_cause old.content main name why.0 g segments (NotUtf8 n pos) fresh why.2 on)
take_cause old new main name g segments (FenceOpen n pos) fresh on why =
    (why.1, refused_cause old.content main name why.0 g segments (FenceOpen n pos) fresh why.2 on)
take_cause old new main name g segments (IncludeTwice n pos) fresh on why = absurd why
take_cause old new main name g segments (Missing n) fresh on why =
    rw why.0 (g.bytes, comes_to old.content main name g segments fresh on, why.1)
take_cause old new main name g segments (ReadFault n) fresh on why =
    rw why.0 (g.bytes, comes_to old.content main name g segments fresh on, why.1)
take_cause old new main name g segments (TooLarge n) fresh on why =
    rw why.0 (g.bytes, comes_to old.content main name g segments fresh on, why.1)
take_cause old new main name g segments Memory fresh on why = (name, why)

-- of an answer, what one or two facts lead to
pub on_ok : {P Q : Type 0} (r : Result (Unit {0}) GatherRefusal) → OnOk r P → (P → Q) → OnOk r Q
on_ok (Ok u) fact step = step fact
on_ok (Err e) fact step = tt

pub on_both_ok : {P Q R : Type 0} (r : Result (Unit {0}) GatherRefusal) → OnOk r P → OnOk r Q → (P → Q → R) → OnOk r R
on_both_ok (Ok u) one other step = step one other
on_both_ok (Err e) one other step = tt

pub if_err : {P Q : GatherRefusal → Type 0} (r : Result (Unit {0}) GatherRefusal) → IfErr r P →
    ((e : GatherRefusal) → P e → Q e) → IfErr r Q
if_err (Ok u) fact step = tt
if_err (Err e) fact step = step e fact

-- the main file
pub main_taken : (told : Contents) (main : List ℕ) (start new : Gathered) (segments after : List Segment) →
    start ≡ gathered_none → segments ≡ [] → Takes told main start segments new after → AreToCome told main new after
main_taken told main start new segments after none empty takes =
    let first = subst (λ (s : Gathered). Takes told main s segments new after) none takes in
    take_goes_on told main main gathered_none new [] after refl
    (subst (λ (p : List Segment). Takes told main gathered_none p new after) empty first) (begins told main)

pub main_refused : (old new : Shelved) (main : List ℕ) (start : Gathered) (refusal : GatherRefusal) →
    start ≡ gathered_none → IsRefusedTake main start old new refusal → HasCause old new main (Err refusal)
main_refused old new main start refusal none why =
    take_cause old new main main gathered_none [] refusal refl (begins old.content main)
    (subst (λ (s : Gathered). IsRefusedTake main s old new refusal) none why)
