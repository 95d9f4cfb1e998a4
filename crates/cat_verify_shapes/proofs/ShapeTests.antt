-- Whether shapes are alike, and which of them has no fewer, by their lists from below.
use Rattle.std.proofs.Common.{◌≡◌, ◌↔◌, Bool, false, true≢false, IsTrue, List, length, reverse, sym, ap, ◌∙◌}
use Rattle.std.proofs.Common.{subst, ℕ, [], ◌∷◌}
use Rattle.std.proofs.lemmas.List.{length-reverse, reverse-reverse}
use Rattle.cat_code.specs.Shapes.{AreFewer}
use Rattle.cat_verify_shapes.specs.declared.shape.Shape.{Shape}
use Rattle.cat_verify_shapes.specs.declared.shape.FrameShape.{FrameShape}
use Rattle.cat_verify_shapes.specs.declared.shape.LoopShape.{LoopShape}
use Rattle.cat_verify_shapes.specs.declared.shape.PendingShape.{PendingShape}
use Rattle.cat_verify_shapes.specs.inside.Alike.{AreAlike, AreAlikeFrames, AreAlikePending, AreChecked, ArePassed}
use Rattle.cat_verify_shapes.specs.inside.Alike.{HasNoFewer, common, common_frame, common_pending}
use Rattle.cat_verify_shapes.specs.inside.Zipped.{zipped, both}
use Rattle.cat_verify_shapes.proofs.FrontLemmas.{meet_long, tells_not}
use Rattle.cat_verify_shapes.proofs.ReverseLemmas.{reverse_same, meet_reverse, meet_below, zip_reverse}
use Rattle.cat_verify_shapes.proofs.AlikeTests.{AlikeFrame, AlikePending, IsChecked, IsPassed}

pub refutes : {P : Type 0} (b : Bool) → b ≡ false → (IsTrue b ↔ P) → P → ⊥
refutes b off told p = true≢false (sym (told.1 p) ∙ off)

-- two lists, each that of another one from below
from_below : {A : Type 0} (Holds : List A → List A → Type 0) (xs ys us vs : List A) → us ≡ reverse xs → vs ≡ reverse ys
    → Holds (reverse xs) (reverse ys) → Holds us vs
from_below {A} Holds xs ys us vs u v h =
    subst (λ (l : List A). Holds l vs) (sym u) (subst (Holds (reverse xs)) (sym v) h)

to_below : {A : Type 0} (Holds : List A → List A → Type 0) (xs ys us vs : List A) → us ≡ reverse xs → vs ≡ reverse ys
    → Holds us vs → Holds (reverse xs) (reverse ys)
to_below {A} Holds xs ys us vs u v h =
    subst (λ (l : List A). Holds l (reverse ys)) u (subst (Holds us) v h)

pub same_below : {A : Type 0} (xs ys us vs : List A) → us ≡ reverse xs → vs ≡ reverse ys → us ≡ vs → xs ≡ ys
same_below xs ys us vs u v e = reverse_same xs ys (sym u ∙ e ∙ v)

turned : (ps qs : List PendingShape) → AreAlikePending ps qs → AreAlikePending qs ps
turned [] [] h = tt
turned [] (q ∷ qs) h = absurd h
turned (p ∷ ps) [] h = absurd h
turned (p ∷ ps) (q ∷ qs) h = ((sym h.0.0, sym h.0.1), turned ps qs h.1)

-- ---- shapes that are alike

module _ (left right : Shape) where
  pub other_owner : (b : Bool) → b ≡ false → (IsTrue b ↔ (left.owner ≡ right.owner))
      → IsTrue false ↔ AreAlike left right
  other_owner b off told = tells_not (λ h. refutes b off told h.owner)

  pub other_slots : (length left.filled ≡ length right.filled → ⊥) → IsTrue false ↔ AreAlike left right
  other_slots other = tells_not (λ h. other h.filled)

  pub other_operands : (b : Bool) (xs ys : List ℕ) → xs ≡ reverse left.operands → ys ≡ reverse right.operands
      → b ≡ false → (IsTrue b ↔ (xs ≡ ys)) → IsTrue false ↔ AreAlike left right
  other_operands b xs ys x y off told =
      tells_not (λ h. refutes b off told (x ∙ ap reverse h.operands ∙ sym y))

  pub other_locals : (b : Bool) (xs ys : List ℕ) → xs ≡ left.locals → ys ≡ right.locals → b ≡ false
      → (IsTrue b ↔ (xs ≡ ys)) → IsTrue false ↔ AreAlike left right
  other_locals b xs ys x y off told = tells_not (λ h. refutes b off told (x ∙ h.locals ∙ sym y))

  pub other_loops : (b : Bool) (xs ys : List LoopShape) → xs ≡ reverse left.loops → ys ≡ reverse right.loops
      → b ≡ false → (IsTrue b ↔ (xs ≡ ys)) → IsTrue false ↔ AreAlike left right
  other_loops b xs ys x y off told = tells_not (λ h. refutes b off told (x ∙ ap reverse h.loops ∙ sym y))

  pub other_frames : (b : Bool) (fs gs : List FrameShape) → fs ≡ reverse left.defaults → gs ≡ reverse right.defaults
      → b ≡ false → (IsTrue b ↔ AreAlikeFrames fs gs) → IsTrue false ↔ AreAlike left right
  other_frames b fs gs f g off told =
      tells_not (λ h. refutes b off told
      (from_below AreAlikeFrames left.defaults right.defaults fs gs f g
      (meet_reverse AlikeFrame left.defaults right.defaults h.defaults)))

  pub all_alike : (b : Bool) (fs gs : List FrameShape) (ps qs : List PendingShape) → left.owner ≡ right.owner
      → length left.filled ≡ length right.filled → left.operands ≡ right.operands → left.locals ≡ right.locals
      → left.loops ≡ right.loops → fs ≡ reverse left.defaults → gs ≡ reverse right.defaults → AreAlikeFrames fs gs
      → ps ≡ reverse left.pending → qs ≡ reverse right.pending → (IsTrue b ↔ AreAlikePending ps qs)
      → IsTrue b ↔ AreAlike left right
  all_alike b fs gs ps qs owner filled operands locals loops f g frames p q told = (
    λ so. record {
      owner = owner;
      operands = operands;
      locals = locals;
      filled = filled;
      defaults = meet_below AlikeFrame left.defaults right.defaults
          (to_below AreAlikeFrames left.defaults right.defaults fs gs f g frames);
      loops = loops;
      pending = meet_below AlikePending left.pending right.pending
          (to_below AreAlikePending left.pending right.pending ps qs p q (told.0 so));
    },
    λ h. told.1 (from_below AreAlikePending left.pending right.pending ps qs p q
        (meet_reverse AlikePending left.pending right.pending h.pending)),
  )

-- ---- shapes of which as much is known

module _ (left shape : Shape) (alike : AreAlike left shape) where
  pub slots_long : (xs ys : List Bool) → xs ≡ shape.filled → ys ≡ left.filled → length xs ≡ length ys
  slots_long xs ys x y = ap length x ∙ sym alike.filled ∙ ap length (sym y)

  pub frames_as_long : (fs gs : List FrameShape) → fs ≡ reverse shape.defaults → gs ≡ reverse left.defaults
      → length fs ≡ length gs
  frames_as_long fs gs f g =
      ap length f ∙ length-reverse shape.defaults
      ∙ sym (meet_long AlikeFrame left.defaults shape.defaults alike.defaults)
      ∙ sym (length-reverse left.defaults) ∙ ap length (sym g)

  pub alike_below : (ps qs : List PendingShape) → ps ≡ reverse shape.pending → qs ≡ reverse left.pending
      → AreAlikePending ps qs
  alike_below ps qs p q =
      from_below AreAlikePending shape.pending left.pending ps qs p q
      (meet_reverse AlikePending shape.pending left.pending (turned left.pending shape.pending alike.pending))

  pub alike_above : (ps qs : List PendingShape) → ps ≡ reverse left.pending → qs ≡ reverse shape.pending
      → AreAlikePending ps qs
  alike_above ps qs p q =
      from_below AreAlikePending left.pending shape.pending ps qs p q
      (meet_reverse AlikePending left.pending shape.pending alike.pending)

module _ (left shape : Shape) where
  pub fewer_slots : (b : Bool) (xs ys : List Bool) → xs ≡ shape.filled → ys ≡ left.filled → b ≡ false
      → (IsTrue b ↔ AreFewer xs ys) → IsTrue false ↔ HasNoFewer left shape
  fewer_slots b xs ys x y off told =
      tells_not (λ h. refutes b off told
      (subst (λ (l : List Bool). AreFewer l ys) (sym x) (subst (AreFewer shape.filled) (sym y) h.filled)))

  pub fewer_frames : (b : Bool) (fs gs : List FrameShape) → fs ≡ reverse shape.defaults → gs ≡ reverse left.defaults
      → b ≡ false → (IsTrue b ↔ AreChecked fs gs) → IsTrue false ↔ HasNoFewer left shape
  fewer_frames b fs gs f g off told =
      tells_not (λ h. refutes b off told
      (from_below AreChecked shape.defaults left.defaults fs gs f g
      (meet_reverse IsChecked shape.defaults left.defaults h.defaults)))

  pub no_fewer : (b : Bool) (xs ys : List Bool) (fs gs : List FrameShape) (ps qs : List PendingShape)
      → xs ≡ shape.filled → ys ≡ left.filled → AreFewer xs ys → fs ≡ reverse shape.defaults
      → gs ≡ reverse left.defaults → AreChecked fs gs → ps ≡ reverse shape.pending → qs ≡ reverse left.pending
      → (IsTrue b ↔ ArePassed ps qs) → IsTrue b ↔ HasNoFewer left shape
  no_fewer b xs ys fs gs ps qs x y fewer f g checked p q told = (
    λ so. record {
      filled = subst (λ (l : List Bool). AreFewer l left.filled) x (subst (AreFewer xs) y fewer);
      defaults = meet_below IsChecked shape.defaults left.defaults
          (to_below AreChecked shape.defaults left.defaults fs gs f g checked);
      pending = meet_below IsPassed shape.pending left.pending
          (to_below ArePassed shape.pending left.pending ps qs p q (told.0 so));
    },
    λ h. told.1 (from_below ArePassed shape.pending left.pending ps qs p q
        (meet_reverse IsPassed shape.pending left.pending h.pending)),
  )

-- ---- what shapes have in common

pub common_below : {A : Type 0} (f : A → A → A) (xs ys us vs : List A) → us ≡ reverse xs → vs ≡ reverse ys
    → length xs ≡ length ys → reverse (zipped f us vs) ≡ zipped f xs ys
common_below {A} f xs ys us vs u v long =
    ap (λ (l : List A). reverse (zipped f l vs)) u
    ∙ ap (λ (l : List A). reverse (zipped f (reverse xs) l)) v
    ∙ ap reverse (zip_reverse f xs ys long) ∙ reverse-reverse (zipped f xs ys)

pub common_shape : (left right : Shape) (filled : List Bool) (defaults : List FrameShape) (pending : List PendingShape)
    → filled ≡ both left.filled right.filled → defaults ≡ zipped common_frame left.defaults right.defaults
    → pending ≡ zipped common_pending left.pending right.pending
    → record left { filled = filled; defaults = defaults; pending = pending } ≡ common left right
common_shape left right filled defaults pending filled_is defaults_are pending_are =
    ap (λ (fs : List Bool). record left { filled = fs; defaults = defaults; pending = pending }) filled_is
    ∙ ap (λ (fs : List FrameShape). record left { filled = slots; defaults = fs; pending = pending }) defaults_are
    ∙ ap (λ (ps : List PendingShape). record left { filled = slots; defaults = frames; pending = ps }) pending_are
  where
    slots : List Bool
    slots = both left.filled right.filled

    frames : List FrameShape
    frames = zipped common_frame left.defaults right.defaults
