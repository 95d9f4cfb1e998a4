-- What two shapes inside of a turn have in common is inside of it, and comes where both come.
use Rattle.std.proofs.Common.{◌≡◌, ◌⊎◌, inl, inr, ℕ, suc, ◌+◌, ◌&&◌, Bool, true, false, List, [], ◌∷◌, ◌++◌, length}
use Rattle.std.proofs.Common.{Some}
use Rattle.std.proofs.Common.{refl, sym, ap, ◌∙◌, subst, arith}
use Rattle.std.proofs.lemmas.List.{length-append}
use Rattle.cat_code.specs.Shapes.{FrameShape, PendingShape, Shape}
use Rattle.cat_code.specs.Shaped.{Shapes}
use Rattle.cat_verify_shapes.specs.inside.Zipped.{zipped, both}
use Rattle.cat_verify_shapes.specs.inside.Turns.{IsInside, HasTurn, HaveTurns}
use Rattle.cat_verify_shapes.proofs.ListLemmas.{some_is}
use Rattle.cat_verify_shapes.proofs.CommonLemmas.{AlikeFrames, AlikePending, Alike, both_frames, both_pending}
use Rattle.cat_verify_shapes.proofs.CommonLemmas.{common_of}
use Rattle.cat_verify_shapes.proofs.CommonLemmas.{both_greatest}
use Rattle.cat_verify_shapes.proofs.TurnLemmas.{BeginsNow, IsComing}
use Rattle.cat_verify_shapes.proofs.FrontLemmas.{meet_long}

zipped_behind : {A : Type 0} (f : A → A → A) → ((x : A) → f x x ≡ x) → (xs ys zs : List A) → length xs ≡ length ys
    → zipped f (xs ++ zs) (ys ++ zs) ≡ zipped f xs ys ++ zs
zipped_behind f same [] [] [] e = refl
zipped_behind {A} f same [] [] (z ∷ zs) e =
    ap (λ (x : A). x ∷ zipped f zs zs) (same z) ∙ ap (λ (l : List A). z ∷ l) (zipped_behind f same [] [] zs refl)
zipped_behind f same [] (y ∷ ys) zs e = absurd (omega (arith, e))
zipped_behind f same (x ∷ xs) [] zs e = absurd (omega (arith, e))
zipped_behind {A} f same (x ∷ xs) (y ∷ ys) zs e =
    ap (λ (l : List A). f x y ∷ l) (zipped_behind f same xs ys zs (omega (arith, e)))

and_same : (b : Bool) → (b && b) ≡ b
and_same true = refl
and_same false = refl

flags_same : (bs : List Bool) → both bs bs ≡ bs
flags_same [] = refl
flags_same (b ∷ bs) =
    ap (λ (c : Bool). c ∷ both bs bs) (and_same b) ∙ ap (λ (l : List Bool). b ∷ l) (flags_same bs)

frame_same : (f : FrameShape) → both_frames f f ≡ f
frame_same f = ap (λ (b : Bool). record f { checked = b }) (and_same f.checked)

wait_same : (p : PendingShape) → both_pending p p ≡ p
wait_same p = ap (λ (bs : List Bool). record p { passed = bs }) (flags_same p.passed)

zipped_long : {A : Type 0} (f : A → A → A) (xs ys : List A) → length xs ≡ length ys
    → length (zipped f xs ys) ≡ length ys
zipped_long f [] [] e = refl
zipped_long f [] (y ∷ ys) e = absurd (omega (arith, e))
zipped_long f (x ∷ xs) [] e = absurd (omega (arith, e))
zipped_long f (x ∷ xs) (y ∷ ys) e = ap suc (zipped_long f xs ys (omega (arith, e)))

-- lists as long that end alike are as long in front
fronts_long : {A : Type 0} (xs ys zs as_ bs : List A) → as_ ≡ xs ++ zs → bs ≡ ys ++ zs → length as_ ≡ length bs
    → length xs ≡ length ys
fronts_long xs ys zs as_ bs e f long =
    omega (arith, ap length e ∙ length-append xs zs, ap length f ∙ length-append ys zs, long)

zipped_fronts : {A : Type 0} (f : A → A → A) → ((x : A) → f x x ≡ x) → (as_ bs xs ys zs : List A) → as_ ≡ xs ++ zs
    → bs ≡ ys ++ zs → length as_ ≡ length bs → zipped f as_ bs ≡ zipped f xs ys ++ zs
zipped_fronts f same as_ bs xs ys zs e g long =
    ap (λ l. zipped f l bs) e ∙ ap (zipped f (xs ++ zs)) g
    ∙ zipped_behind f same xs ys zs (fronts_long xs ys zs as_ bs e g long)

pub inside_common : (turn k s : Shape) → IsInside turn k → IsInside turn s → Alike k s → IsInside turn (common_of k s)
inside_common turn k s one other alike = record {
  tops = zipped both_frames one.tops other.tops;
  frames =
      zipped_fronts both_frames frame_same k.defaults s.defaults one.tops other.tops turn.defaults one.frames
      other.frames
      (meet_long AlikeFrames k.defaults s.defaults alike.defaults);
  waits = zipped both_pending one.waits other.waits;
  pending =
      zipped_fronts both_pending wait_same k.pending s.pending one.waits other.waits turn.pending one.pending
      other.pending (meet_long AlikePending k.pending s.pending alike.pending);
  filled = both_greatest turn.filled k.filled s.filled one.filled other.filled;
  inners = one.inners;
  loops = one.loops;
  above = one.above;
}

module _ (shapes : Shapes) (Looked : ℕ → Type 0) where
  -- what a shape that waits at a place has in common with one that comes there
  pub coming_common : (p q : ℕ) (k s : Shape) → (Looked q → ⊥) → HaveTurns shapes Looked q k → Alike k s
      → IsComing shapes Looked p (q, s) → IsComing shapes Looked p (q, common_of k s)
  coming_common p q k s unlooked turns alike coming inners l ls e =
      by_case (coming inners l ls (sym alike.loops ∙ e))
    where
      same_turn : (has : HasTurn shapes Looked q s l ls) → IsInside has.turn k
      same_turn has =
          subst (λ (x : Shape). IsInside x k)
          (some_is (turns inners l ls e).turn has.turn
          (some_is (Some (turns inners l ls e).turn) (Some has.turn) (sym (turns inners l ls e).is ∙ has.is)))
          (turns inners l ls e).inside

      by_case : (HasTurn shapes Looked q s l ls × Looked (l.begun + 1)) ⊎ BeginsNow shapes Looked p q s inners l
          → (HasTurn shapes Looked q (common_of k s) l ls × Looked (l.begun + 1))
          ⊎ BeginsNow shapes Looked p q (common_of k s) inners l
      by_case (inl (has, look)) = inl (
        record {
          turn = has.turn;
          is = has.is;
          loops = has.loops;
          frames = has.frames;
          pending = has.pending;
          inside = inside_common has.turn k s (same_turn has) has.inside alike;
          here = has.here;
        },
        look,
      )
      by_case (inr now) = inr record {
        place = now.place;
        behind = now.behind;
        top = now.top;
        frames =
            zipped_long both_frames k.defaults s.defaults (meet_long AlikeFrames k.defaults s.defaults alike.defaults)
            ∙ now.frames;
        pending =
            zipped_long both_pending k.pending s.pending (meet_long AlikePending k.pending s.pending alike.pending)
            ∙ now.pending;
      }
