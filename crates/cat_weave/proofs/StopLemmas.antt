-- Where gathering stops at a file: its content isn't known; and where one is told, that is within its limit or refused.
use Rattle.std.proofs.Common.{◌≡◌, ◌∙◌, sym, subst, ℕ, zero, suc, Bool, true, false, List, [], ◌∷◌, length, leb, refl}
use Rattle.std.proofs.Common.{Some, None, Option, Ok, Err, Result, inl, inr}
use Rattle.std.proofs.Common.{◌≢◌, ◌<◌, ap}
use Rattle.std.proofs.lemmas.Bool.{lt-leb}
use Rattle.cat_pos.specs.declared.pos.Pos.{Pos}
use Rattle.cat_weave.specs.Woven.{woven}
use Rattle.cat_weave.specs.declared.segment.Segment.{Segment}
use Rattle.cat_weave.specs.declared.segment.Segment.TheVariants.{Code, Heading, Include}
use Rattle.cat_weave.specs.Gathered.{Contents, Gathered, gathered_none, with_piece, with_heading, with_file, source_of}
use Rattle.cat_weave.specs.Gathered.{limit_after, Ending, Whole, Refused, StopsAt, and_then, Including}
use Rattle.cat_weave.specs.Gathered.{segments_gathered}
use Rattle.cat_weave.specs.Gathered.{woven_as, woven_gathered, bytes_gathered, file_gathered, is_among, is_full}
use Rattle.cat_weave.specs.Gathered.{included_unless, included, gathered}
use Rattle.cat_weave.specs.Causes.{AreToldBut}
use Rattle.cat_weave.specs.declared.source.GatherRefusal.{GatherRefusal}
use Rattle.cat_weave.specs.declared.source.GatherRefusal.TheVariants.{TooLarge}
use Rattle.cat_weave.proofs.SameLemmas.{IsStop, IsSameOrStop, stop_then}

-- gathering stops only at a file whose content isn't known
abbrev pub IsUnknownStop : {T : Type 0} → Contents → Ending T → Type 0
IsUnknownStop contents (Whole g) = Unit {0}
IsUnknownStop contents (Refused refusal) = Unit {0}
IsUnknownStop contents (StopsAt name bytes) = contents name ≡ None

unknown_then : {T : Type 0} (contents : Contents) (ending : Ending Gathered) (next : Gathered → Ending T)
    → IsUnknownStop contents ending → ((g : Gathered) → IsUnknownStop contents (next g))
    → IsUnknownStop contents (and_then ending next)
unknown_then contents (Whole g) next here more = more g
unknown_then contents (Refused refusal) next here more = tt
unknown_then contents (StopsAt name bytes) next here more = here

module _ (contents : Contents) where
  abbrev StopsUnknown : Including → Type 0
  StopsUnknown include = (path : List ℕ) (pos : Pos) (g : Gathered) → IsUnknownStop contents (include path pos g)

  segments_stop : (include : Including) → StopsUnknown include → (segments : List Segment) (g : Gathered)
      → IsUnknownStop contents (segments_gathered include segments g)
  unfolding segments_gathered
  segments_stop include stops [] g = tt
  segments_stop include stops (Code piece ∷ segments) g = segments_stop include stops segments (with_piece piece g)
  segments_stop include stops (Heading level text pos ∷ segments) g =
      segments_stop include stops segments (with_heading level text pos g)
  segments_stop include stops (Include path pos ∷ segments) g =
      unknown_then contents (include path pos g) (segments_gathered include segments) (stops path pos g)
      (λ h. segments_stop include stops segments h)

  woven_stop : (include : Including) → StopsUnknown include → (name : List ℕ) (size : ℕ) (g : Gathered)
      (segments : Result (List Segment) GatherRefusal)
      → IsUnknownStop contents (woven_gathered include name size g segments)
  woven_stop include stops name size g (Ok segments) = segments_stop include stops segments (with_file name size g)
  woven_stop include stops name size g (Err refusal) = tt

  bytes_stop : (include : Including) → StopsUnknown include → (name : List ℕ) (g : Gathered) (bytes : List ℕ)
      (short : Bool) → IsUnknownStop contents (bytes_gathered include name g bytes short)
  bytes_stop include stops name g bytes true =
      woven_stop include stops name (length bytes) g (woven_as name (woven bytes (length g.files)))
  bytes_stop include stops name g bytes false = tt

  file_stop : (include : Including) → StopsUnknown include → (name : List ℕ) (g : Gathered)
      (content : Option (List ℕ)) → contents name ≡ content
      → IsUnknownStop contents (file_gathered include name g content)
  file_stop include stops name g None is = is
  file_stop include stops name g (Some bytes) is =
      bytes_stop include stops name g bytes (leb (length bytes) (limit_after g.bytes))

  unless_stop : (next : Including) → StopsUnknown next → (full taken : Bool)
      → StopsUnknown (included_unless full taken contents next)
  unless_stop next stops true taken path pos g = tt
  unless_stop next stops false true path pos g = tt
  unless_stop next stops false false path pos g = file_stop next stops path g (contents path) refl

  included_stop : (deeper : ℕ) → StopsUnknown (included contents deeper)
  unfolding included
  included_stop zero path pos g = tt
  included_stop (suc deeper) path pos g =
      unless_stop (included contents deeper) (included_stop deeper) (is_full g) (is_among path g.files) path pos g

  pub gathered_stop : (main : List ℕ) → IsUnknownStop contents (gathered contents main)
  unfolding gathered
  gathered_stop main =
      unknown_then contents (file_gathered (included contents 63) main gathered_none (contents main))
      (λ g. Whole (source_of g))
      (file_stop (included contents 63) (included_stop 63) main gathered_none (contents main) refl) (λ g. tt)

-- ---- a file that is told, and too long

-- where gathering stops at the file, it is refused as too large where its content is told, unless that is within its
-- limit; all else is the same, or stops
module _ (name content : List ℕ) where
  abbrev pub IsLike : {T : Type 0} → Ending T → Ending T → Type 0
  IsLike told (Whole g) = IsSameOrStop told (Whole g)
  IsLike told (Refused refusal) = IsSameOrStop told (Refused refusal)
  IsLike told (StopsAt n bytes) =
      n ≡ name → limit_after bytes < length content → IsSameOrStop told (Refused (TooLarge name))

  stop_like : {T : Type 0} (told ending : Ending T) → IsStop told → IsLike told ending
  stop_like told (Whole g) stop = inr stop
  stop_like told (Refused refusal) stop = inr stop
  stop_like told (StopsAt n bytes) stop = λ is long. inr stop

  refused_then : {T : Type 0} (told : Ending Gathered) (next : Gathered → Ending T) (refusal : GatherRefusal)
      → IsSameOrStop told (Refused refusal) → IsSameOrStop (and_then told next) (Refused refusal)
  refused_then told next refusal (inl is) = inl (ap (λ (e : Ending Gathered). and_then e next) is)
  refused_then told next refusal (inr stop) = inr (stop_then told next stop)

  like_then : {T : Type 0} (told ending : Ending Gathered) (next other : Gathered → Ending T)
      → IsLike told ending → ((g : Gathered) → IsLike (next g) (other g))
      → IsLike (and_then told next) (and_then ending other)
  like_then told (Whole g) next other (inl is) like =
      subst (λ (e : Ending Gathered). IsLike (and_then e next) (other g)) (sym is) (like g)
  like_then told (Whole g) next other (inr stop) like = stop_like (and_then told next) (other g)
      (stop_then told next stop)
  like_then told (Refused refusal) next other here like = refused_then told next refusal here
  like_then told (StopsAt n bytes) next other here like =
      λ is long. refused_then told next (TooLarge name) (here is long)

  abbrev AreLike : Including → Including → Type 0
  AreLike told include = (path : List ℕ) (pos : Pos) (g : Gathered) → IsLike (told path pos g) (include path pos g)

  segments_like : (told include : Including) → AreLike told include → (segments : List Segment) (g : Gathered)
      → IsLike (segments_gathered told segments g) (segments_gathered include segments g)
  unfolding segments_gathered
  segments_like told include like [] g = inl refl
  segments_like told include like (Code piece ∷ segments) g =
      segments_like told include like segments (with_piece piece g)
  segments_like told include like (Heading level text pos ∷ segments) g =
      segments_like told include like segments (with_heading level text pos g)
  segments_like told include like (Include path pos ∷ segments) g =
      like_then (told path pos g) (include path pos g) (segments_gathered told segments)
      (segments_gathered include segments) (like path pos g) (λ h. segments_like told include like segments h)

  woven_like : (told include : Including) → AreLike told include → (file : List ℕ) (size : ℕ) (g : Gathered)
      (segments : Result (List Segment) GatherRefusal)
      → IsLike (woven_gathered told file size g segments) (woven_gathered include file size g segments)
  woven_like told include like file size g (Ok segments) =
      segments_like told include like segments (with_file file size g)
  woven_like told include like file size g (Err refusal) = inl refl

  bytes_like : (told include : Including) → AreLike told include → (file : List ℕ) (g : Gathered) (bytes : List ℕ)
      (short : Bool) → IsLike (bytes_gathered told file g bytes short) (bytes_gathered include file g bytes short)
  bytes_like told include like file g bytes true =
      woven_like told include like file (length bytes) g (woven_as file (woven bytes (length g.files)))
  bytes_like told include like file g bytes false = inl refl

  too_long : (told : Including) (g : Gathered) → limit_after g.bytes < length content
      → file_gathered told name g (Some content) ≡ Refused (TooLarge name)
  too_long told g long =
      ap (λ (b : Bool). bytes_gathered told name g content b) (lt-leb (length content) (limit_after g.bytes) long)

  module _ (tells contents : Contents) (agrees : AreToldBut name tells contents) (unknown : contents name ≡ None)
      (told_is : tells name ≡ Some content) where
    file_like : (told include : Including) → AreLike told include → (file : List ℕ) (g : Gathered)
        (here there : Option (List ℕ)) → tells file ≡ here → contents file ≡ there
        → IsLike (file_gathered told file g here) (file_gathered include file g there)
    file_like told include like file g here None here_is there_is = λ is long.
        inl (ap (λ (h : Option (List ℕ)). file_gathered told file g h) (sym here_is ∙ ap tells is ∙ told_is)
        ∙ (ap (λ (n : List ℕ). file_gathered told n g (Some content)) is ∙ too_long told g long))
    file_like told include like file g None (Some bytes) here_is there_is =
        stop_like (file_gathered told file g None) (file_gathered include file g (Some bytes)) tt
    file_like told include like file g (Some own) (Some bytes) here_is there_is =
        let other : file ≢ name = λ is. absurd (cc (sym unknown ∙ (ap contents (sym is) ∙ there_is))) in
        let same : Some bytes ≡ Some own = sym there_is ∙ (rw here_is at (agrees file other)) in
        subst (λ (b : Option (List ℕ)). IsLike (file_gathered told file g b)
        (file_gathered include file g (Some bytes)))
        same (bytes_like told include like file g bytes (leb (length bytes) (limit_after g.bytes)))

    unless_like : (next include : Including) → AreLike next include → (full taken : Bool)
        → AreLike (included_unless full taken tells next) (included_unless full taken contents include)
    unless_like next include like true taken path pos g = inl refl
    unless_like next include like false true path pos g = inl refl
    unless_like next include like false false path pos g =
        file_like next include like path g (tells path) (contents path) refl refl

    included_like : (deeper : ℕ) → AreLike (included tells deeper) (included contents deeper)
    unfolding included
    included_like zero path pos g = inl refl
    included_like (suc deeper) path pos g =
        unless_like (included tells deeper) (included contents deeper) (included_like deeper) (is_full g)
        (is_among path g.files) path pos g

    pub gathered_like : (main : List ℕ) → IsLike (gathered tells main) (gathered contents main)
    unfolding gathered
    gathered_like main =
        like_then (file_gathered (included tells 63) main gathered_none (tells main))
        (file_gathered (included contents 63) main gathered_none (contents main))
        (λ g. Whole (source_of g)) (λ g. Whole (source_of g))
        (file_like (included tells 63) (included contents 63) (included_like 63) main gathered_none (tells main)
        (contents main) refl refl) (λ g. inl refl)
