-- The files of a source are apart, and have what the main file and the files that lines include have.
use Rattle.std.proofs.Common.{◌≡◌, ◌⊎◌, ℕ, zero, suc, nat_le, Bool, true, false, List, [], ◌∷◌, ◌++◌}
use Rattle.std.proofs.Common.{length, Option, Some, None, Ok, Err, refl, subst, inl, inr, bytes_eq}
use Rattle.std.specs.Prelude.{Result}
use Rattle.std.proofs.lemmas.Bool.{or_parts}
use Rattle.cat_pos.specs.declared.pos.Pos.{Pos}
use Rattle.cat_weave.specs.Woven.{woven}
use Rattle.cat_weave.specs.declared.segment.Segment.{Segment}
use Rattle.cat_weave.specs.declared.segment.Segment.TheVariants.{Code, Heading, Include}
use Rattle.cat_weave.specs.declared.segment.Woven.{Woven}
use Rattle.cat_weave.specs.declared.segment.WeaveRefusal.{WeaveRefusal}
use Rattle.cat_weave.specs.declared.segment.WeaveRefusal.TheVariants as weaving
use Rattle.cat_weave.specs.declared.source.Source.{Source}
use Rattle.cat_weave.specs.Gathered.{Contents, Gathered, gathered_none, with_piece, with_heading, with_file, source_of}
use Rattle.cat_weave.specs.Gathered.{Ending, Whole, Refused, StopsAt, and_then, Including, segments_gathered, woven_as}
use Rattle.cat_weave.specs.Gathered.{woven_gathered, limit_after, bytes_gathered, file_gathered, is_among, is_full}
use Rattle.cat_weave.specs.Gathered.{included_unless, included, gathered}
use Rattle.cat_scope.specs.Names.{AllHave, IsOneOf}
use Rattle.cat_scope.proofs.Exported.{all_append}
use Rattle.cat_emitted.specs.Spelled.{AreApart}
use Rattle.cat_emitted.proofs.ListFacts.{one_of_both, not_one}

apart_more : (names : List (List ℕ)) (name : List ℕ) → AreApart names → is_among name names ≡ false
    → AreApart (names ++ name ∷ [])
apart_more [] name apart none = (λ one. one, tt)
apart_more (t ∷ ts) name apart none =
    (λ one. by (one_of_both ts (name ∷ []) t one), apart_more ts name apart.1 (or_parts _ _ none).1)
  where
    by : IsOneOf t ts ⊎ IsOneOf t (name ∷ []) → ⊥
    by (inl a) = apart.0 a
    by (inr b) = not_one t (name ∷ []) ((or_parts (bytes_eq t name) (is_among name ts) none).0, tt) b

-- what holds of what was gathered, where it was
abbrev pub OnWhole : {T : Type 0} → (T → Type 0) → Ending T → Type 0
OnWhole P (Whole t) = P t
OnWhole P (Refused refusal) = Unit {0}
OnWhole P (StopsAt name bytes) = Unit {0}

pub on_then : {T : Type 0} (P : Gathered → Type 0) (R : T → Type 0) (e : Ending Gathered) (next : Gathered → Ending T)
    → OnWhole P e → ((g : Gathered) → P g → OnWhole R (next g)) → OnWhole R (and_then e next)
on_then P R (Whole g) next h go = go g h
on_then P R (Refused refusal) next h go = tt
on_then P R (StopsAt name bytes) next h go = tt

module _ (P : List ℕ → Type 0) where
  -- the file that a segment includes, where it includes one
  abbrev pub Includes : Segment → Type 0
  Includes (Code piece) = Unit {0}
  Includes (Heading level text pos) = Unit {0}
  Includes (Include path pos) = P path

  -- the names so far
  pub record AreNamed (files : List (List ℕ)) : Type 0 where
    pub names : AllHave P files
    pub apart : AreApart files

  abbrev Fine : Gathered → Type 0
  Fine g = AreNamed g.files

  abbrev Keeps : Including → Type 0
  Keeps include = (path : List ℕ) (pos : Pos) (g : Gathered) → P path → Fine g → OnWhole Fine (include path pos g)

  segments_kept : (include : Including) → Keeps include → (segments : List Segment) (g : Gathered)
      → AllHave Includes segments → Fine g → OnWhole Fine (segments_gathered include segments g)
  unfolding segments_gathered
  segments_kept include keeps [] g all fine = fine
  segments_kept include keeps (Code piece ∷ segments) g all fine =
      segments_kept include keeps segments (with_piece piece g) all.1 fine
  segments_kept include keeps (Heading level text pos ∷ segments) g all fine =
      segments_kept include keeps segments (with_heading level text pos g) all.1 fine
  segments_kept include keeps (Include path pos ∷ segments) g all fine =
      on_then Fine Fine (include path pos g) (segments_gathered include segments) (keeps path pos g all.0 fine)
      (λ h more. segments_kept include keeps segments h all.1 more)

  module _ (fair : (bytes : List ℕ) (file : ℕ) (w : Woven) → woven bytes file ≡ Ok w → AllHave Includes w.segments)
    where
      file_kept : (include : Including) → Keeps include → (name : List ℕ) (g : Gathered) (o : Option (List ℕ)) → P name
          → is_among name g.files ≡ false → Fine g → OnWhole Fine (file_gathered include name g o)
      file_kept include keeps name g None own free fine = tt
      file_kept include keeps name g (Some bytes) own free fine = by (nat_le (length bytes) (limit_after g.bytes))
        where
          more : AreNamed (g.files ++ name ∷ [])
          more = record {
            names = all_append P g.files (name ∷ []) fine.names (own, tt);
            apart = apart_more g.files name fine.apart free;
          }

          wove : (r : Result Woven WeaveRefusal) → woven bytes (length g.files) ≡ r
              → OnWhole Fine (woven_gathered include name (length bytes) g (woven_as name r))
          wove (Ok w) is =
              segments_kept include keeps w.segments (with_file name (length bytes) g)
              (fair bytes (length g.files) w is) more
          wove (Err (weaving.NotUtf8 pos)) is = tt
          wove (Err (weaving.FenceOpen pos)) is = tt
          wove (Err weaving.Memory) is = tt

          by : (b : Bool) → OnWhole Fine (bytes_gathered include name g bytes b)
          by true = wove (woven bytes (length g.files)) refl
          by false = tt

      included_keeps : (contents : Contents) (deeper : ℕ) → Keeps (included contents deeper)
      unfolding included
      included_keeps contents zero path pos g own fine = tt
      included_keeps contents (suc deeper) path pos g own fine =
          by (is_full g) (is_among path g.files) refl (included_keeps contents deeper)
        where
          by : (full taken : Bool) → is_among path g.files ≡ taken → Keeps (included contents deeper)
              → OnWhole Fine (included_unless full taken contents (included contents deeper) path pos g)
          by true taken is below = tt
          by false true is below = tt
          by false false is below = file_kept (included contents deeper) below path g (contents path) own is fine

      pub files_named : (contents : Contents) (main : List ℕ) (source : Source) → P main
          → gathered contents main ≡ Whole source → AreNamed source.files
      unfolding gathered
      files_named contents main source own is =
          subst (λ (e : Ending Source). OnWhole (λ (s : Source). AreNamed s.files) e) is
          (on_then Fine (λ (s : Source). AreNamed s.files)
          (file_gathered (included contents 63) main gathered_none (contents main)) (λ g. Whole (source_of g))
          (file_kept (included contents 63) (included_keeps contents 63) main gathered_none (contents main) own refl
          (record { names = tt; apart = tt }))
          (λ g fine. fine))
