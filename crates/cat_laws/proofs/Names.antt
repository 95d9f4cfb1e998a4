-- Whatever files hold: what is gathered can be read as tokens, and a file at which gathering stops has a short name.
use Rattle.std.proofs.Common.{◌≡◌, ◌≤◌, ◌<◌, ℕ, zero, suc, Bool, true, false, List, [], ◌∷◌, ◌++◌, length, leb, refl}
use Rattle.std.proofs.Common.{Option, Some, None, Result, Ok, Err, arith}
use Rattle.std.proofs.lemmas.Bool.{leb-true, leb-false}
use Rattle.std.specs.Prelude.{IfOk}
use Rattle.cat_pos.specs.Limits.{most_files, most_file_bytes}
use Rattle.cat_pos.specs.declared.pos.Pos.{Pos}
use Rattle.cat_scope.specs.Names.{AllHave}
use Rattle.cat_weave.specs.Woven.{woven}
use Rattle.cat_weave.specs.declared.segment.Segment.{Segment}
use Rattle.cat_weave.specs.declared.segment.Segment.TheVariants.{Code, Heading, Include}
use Rattle.cat_weave.specs.declared.segment.Woven.{Woven}
use Rattle.cat_weave.specs.declared.segment.WeaveRefusal.{WeaveRefusal}
use Rattle.cat_weave.specs.declared.segment.WeaveRefusal.TheVariants as weaving
use Rattle.cat_weave.specs.Gathered.{Contents, Gathered, gathered_none, with_piece, with_heading, with_file, source_of}
use Rattle.cat_weave.specs.Gathered.{limit_after, Ending, Whole, Refused, StopsAt, and_then, Including}
use Rattle.cat_weave.specs.Gathered.{segments_gathered}
use Rattle.cat_weave.specs.Gathered.{woven_as, woven_gathered, bytes_gathered, file_gathered, is_among, is_full}
use Rattle.cat_weave.specs.Gathered.{included_unless, included, gathered}
use Rattle.cat_weave.specs.Causes.{AreReadableTogether}
use Rattle.cat_weave.specs.inside.UnderWay.{AreBounded}
use Rattle.cat_weave.proofs.BoundLemmas.{bounded_none, bounded_code, bounded_other, bounded_heading, bounded_file}
use Rattle.cat_weave.proofs.BoundLemmas.{readable}
use Rattle.cat_laws.proofs.Includes.{IsShort, IsWovenOf, all_weaker, woven_is}

-- what is given has a property, and a file at which it stops a name of at most so many bytes
abbrev pub Leads : {T : Type 0} → ℕ → (T → Type 0) → Ending T → Type 0
Leads most Has (Whole g) = Has g
Leads most Has (Refused refusal) = Unit {0}
Leads most Has (StopsAt name bytes) = length name ≤ most

leads_then : {T : Type 0} (most : ℕ) (Has : Gathered → Type 0) (Also : T → Type 0) (ending : Ending Gathered)
    (next : Gathered → Ending T) → Leads most Has ending → ((g : Gathered) → Has g → Leads most Also (next g))
    → Leads most Also (and_then ending next)
leads_then most Has Also (Whole g) next here more = more g here
leads_then most Has Also (Refused refusal) next here more = tt
leads_then most Has Also (StopsAt name bytes) next here more = here

module _ (most : ℕ) (large : most_file_bytes ≤ most) (contents : Contents) where
  -- an include of a file with a short name keeps the bounds of what comes behind it
  abbrev KeepsBounds : Including → Type 0
  KeepsBounds include = (path : List ℕ) (pos : Pos) (g : Gathered) (behind : List Segment) → length path ≤ most
      → AreBounded g behind → Leads most (λ h. AreBounded h behind) (include path pos g)

  segments_lead : (include : Including) → KeepsBounds include → (segments behind : List Segment) (g : Gathered)
      → AllHave (IsShort most) segments → AreBounded g (segments ++ behind)
      → Leads most (λ h. AreBounded h behind) (segments_gathered include segments g)
  unfolding segments_gathered
  segments_lead include keeps [] behind g short bounded = bounded
  segments_lead include keeps (Code piece ∷ segments) behind g short bounded =
      segments_lead include keeps segments behind (with_piece piece g) short.1
      (bounded_code g (g.pieces ++ piece ∷ []) piece (Code piece) (segments ++ behind) refl refl bounded)
  segments_lead include keeps (Heading level text pos ∷ segments) behind g short bounded =
      segments_lead include keeps segments behind (with_heading level text pos g) short.1
      (bounded_heading g (with_heading level text pos g).headings (Heading level text pos) (segments ++ behind) bounded)
  segments_lead include keeps (Include path pos ∷ segments) behind g short bounded =
      leads_then most (λ h. AreBounded h (segments ++ behind)) (λ h. AreBounded h behind) (include path pos g)
      (segments_gathered include segments)
      (keeps path pos g (segments ++ behind) short.0
      (bounded_other g (Include path pos) (segments ++ behind) bounded))
      (λ h b. segments_lead include keeps segments behind h short.1 b)

  shorter : (size : ℕ) → size ≤ most → (segment : Segment) → IsShort size segment → IsShort most segment
  shorter size small (Code piece) short = tt
  shorter size small (Heading level text pos) short = tt
  shorter size small (Include path pos) short = omega (arith, small, short)

  woven_leads : (include : Including) → KeepsBounds include → (name bytes : List ℕ) (g : Gathered)
      (behind : List Segment) → length bytes ≤ limit_after g.bytes → length g.files < 64 → AreBounded g behind
      → (r : Result Woven WeaveRefusal) → IfOk r (λ w. IsWovenOf (length bytes) (length g.files) w.segments)
      → Leads most (λ h. AreBounded h behind) (woven_gathered include name (length bytes) g (woven_as name r))
  woven_leads include keeps name bytes g behind small room bounded (Ok w) is =
      segments_lead include keeps w.segments behind (with_file name (length bytes) g)
      (all_weaker (IsShort (length bytes)) (IsShort most)
      (shorter (length bytes) (omega (arith, small, large))) w.segments is.short)
      (bounded_file g name bytes w.segments behind small is.within room bounded)
  woven_leads include keeps name bytes g behind small room bounded (Err (weaving.NotUtf8 pos)) is = tt
  woven_leads include keeps name bytes g behind small room bounded (Err (weaving.FenceOpen pos)) is = tt
  woven_leads include keeps name bytes g behind small room bounded (Err weaving.Memory) is = tt

  bytes_lead : (include : Including) → KeepsBounds include → (name bytes : List ℕ) (g : Gathered)
      (behind : List Segment) → length g.files < 64 → AreBounded g behind → (b : Bool)
      → leb (length bytes) (limit_after g.bytes) ≡ b
      → Leads most (λ h. AreBounded h behind) (bytes_gathered include name g bytes b)
  bytes_lead include keeps name bytes g behind room bounded true small =
      woven_leads include keeps name bytes g behind (leb-true (length bytes) (limit_after g.bytes) small) room bounded
      (woven bytes (length g.files)) (woven_is bytes (length g.files))
  bytes_lead include keeps name bytes g behind room bounded false long = tt

  file_leads : (include : Including) → KeepsBounds include → (name : List ℕ) (g : Gathered) (behind : List Segment)
      → length name ≤ most → length g.files < 64 → AreBounded g behind → (content : Option (List ℕ))
      → Leads most (λ h. AreBounded h behind) (file_gathered include name g content)
  file_leads include keeps name g behind short room bounded None = short
  file_leads include keeps name g behind short room bounded (Some bytes) =
      bytes_lead include keeps name bytes g behind room bounded (leb (length bytes) (limit_after g.bytes)) refl

  unless_leads : (next : Including) → KeepsBounds next → (full taken : Bool) (path : List ℕ) (pos : Pos)
      (g : Gathered) (behind : List Segment) → is_full g ≡ full → length path ≤ most → AreBounded g behind
      → Leads most (λ h. AreBounded h behind) (included_unless full taken contents next path pos g)
  unless_leads next keeps true taken path pos g behind full_is short bounded = tt
  unless_leads next keeps false true path pos g behind full_is short bounded = tt
  unless_leads next keeps false false path pos g behind full_is short bounded =
      file_leads next keeps path g behind short (leb-false most_files (length g.files) full_is) bounded (contents path)

  included_leads : (deeper : ℕ) → KeepsBounds (included contents deeper)
  unfolding included
  included_leads zero path pos g behind short bounded = tt
  included_leads (suc deeper) path pos g behind short bounded =
      unless_leads (included contents deeper) (included_leads deeper) (is_full g) (is_among path g.files) path pos g
      behind refl short bounded

  -- what is gathered of a main file with a short name
  pub gathered_leads : (main : List ℕ) → length main ≤ most
      → Leads most (λ source. AreReadableTogether source.pieces) (gathered contents main)
  unfolding gathered
  gathered_leads main short =
      leads_then most (λ h. AreBounded h []) (λ source. AreReadableTogether source.pieces)
      (file_gathered (included contents 63) main gathered_none (contents main)) (λ g. Whole (source_of g))
      (file_leads (included contents 63) (included_leads 63) main gathered_none [] short (omega arith) bounded_none
      (contents main)) (λ g bounded. readable g bounded)
