-- Shapes whose types are numbers, told back by those for which they stand.
use Rattle.std.proofs.Common.{◌≡◌, ℕ, List, [], ◌∷◌, map, length, Option, Some, None}
use Rattle.std.proofs.Common.{refl, sym, ap, ◌∙◌}
use Rattle.std.proofs.Common.{arith}
use Rattle.std.specs.Option.{option_map}
use Rattle.std.proofs.lemmas.Bool.{eqb-true}
use Rattle.cat_code.specs.Forms.{same_form}
use Rattle.cat_code.specs.Shapes as meant
use Rattle.cat_code.specs.Shapes.{AllMeet, MeetsFrame, MeetsPending, Meets}
use Rattle.cat_code.proofs.FormLaws.{same_self}
use Rattle.cat_verify_shapes.specs.declared.owner.Owner.{Owner}
use Rattle.cat_verify_shapes.specs.declared.shape.Shape.{Shape}
use Rattle.cat_verify_shapes.specs.declared.shape.FrameShape.{FrameShape}
use Rattle.cat_verify_shapes.specs.declared.shape.LoopShape.{LoopShape}
use Rattle.cat_verify_shapes.specs.declared.shape.PendingShape.{PendingShape}
use Rattle.cat_verify_shapes.specs.Owned.{owner_of}
use Rattle.cat_verify_shapes.specs.inside.Senses.{Senses}
use Rattle.cat_verify_shapes.specs.inside.Told.{frame_of, loop_of, pending_of, shape_of}
use Rattle.cat_verify_shapes.specs.inside.Alike.{AreAlike, AreAlikeFrames, AreAlikePending, AreChecked, ArePassed}
use Rattle.cat_verify_shapes.specs.inside.Alike.{HasNoFewer}
use Rattle.cat_verify_shapes.proofs.ListLemmas.{none_some, some_is, head_is, rest_is}
use Rattle.cat_verify_shapes.proofs.LessKnown.{fewer_checked}
use Rattle.cat_verify_shapes.proofs.CommonLemmas.{AlikeFrames, AlikePending, Alike}
use Rattle.cat_verify_shapes.proofs.StepLemmas.{AreApart}

-- what no two elements have in common tells lists apart
maps_apart : {A B : Type 0} (f : A → B) → ((x y : A) → f x ≡ f y → x ≡ y) → (xs ys : List A) → map f xs ≡ map f ys
    → xs ≡ ys
maps_apart f apart [] [] e = refl
maps_apart f apart [] (y ∷ ys) e = absurd (omega (arith, ap length e))
maps_apart f apart (x ∷ xs) [] e = absurd (omega (arith, ap length e))
maps_apart {A} f apart (x ∷ xs) (y ∷ ys) e =
    ap (λ (z : A). z ∷ xs) (apart x y (head_is (f x) (f y) (map f xs) (map f ys) e))
    ∙ ap (λ (zs : List A). y ∷ zs) (maps_apart f apart xs ys (rest_is (f x) (f y) (map f xs) (map f ys) e))

abbrev owner_back : meant.Owner → Owner
owner_back o = record { scope = o.scope; function = o.function }

owners_apart : (a b : Owner) → owner_of a ≡ owner_of b → a ≡ b
owners_apart a b e = ap owner_back e

module _ (d : Senses) (apart : AreApart d) where
  number_is : (n m : ℕ) → d.one n ≡ d.one m → n ≡ m
  number_is n m e =
      eqb-true n m (sym (apart n m) ∙ ap (same_form (d.one n)) (sym e) ∙ same_self (d.one n))

  option_is : (a b : Option ℕ) → option_map d.one a ≡ option_map d.one b → a ≡ b
  option_is None None e = refl
  option_is None (Some n) e = absurd (none_some (d.one n) e)
  option_is (Some n) None e = absurd (none_some (d.one n) (sym e))
  option_is (Some n) (Some m) e = ap Some (number_is n m (some_is (d.one n) (d.one m) e))

  loop_is : (k l : LoopShape) → loop_of d k ≡ loop_of d l → k ≡ l
  loop_is k l e =
      ap (λ (n : ℕ). record k { begun = n }) (ap (λ (x : meant.LoopShape). x.begun) e)
      ∙ ap (λ (n : ℕ). record k { begun = l.begun; element = n })
      (number_is k.element l.element (ap (λ (x : meant.LoopShape). x.element) e))
      ∙ ap (λ (c : Option ℕ). record k { begun = l.begun; element = l.element; collected = c })
      (option_is k.collected l.collected (ap (λ (x : meant.LoopShape). x.collected) e))
      ∙ ap (λ (n : ℕ). record l { frames = n; pending = k.pending }) (ap (λ (x : meant.LoopShape). x.frames) e)
      ∙ ap (λ (n : ℕ). record l { pending = n }) (ap (λ (x : meant.LoopShape). x.pending) e)

  frames_back : (fs gs : List FrameShape) → AllMeet AlikeFrames (map (frame_of d) fs) (map (frame_of d) gs)
      → AreAlikeFrames fs gs
  frames_back [] [] h = tt
  frames_back [] (g ∷ gs) h = absurd h
  frames_back (f ∷ fs) [] h = absurd h
  frames_back (f ∷ fs) (g ∷ gs) h = ((h.0.begun, number_is f.holds g.holds h.0.holds), frames_back fs gs h.1)

  pending_back : (ps qs : List PendingShape) → AllMeet AlikePending (map pending_of ps) (map pending_of qs)
      → AreAlikePending ps qs
  pending_back [] [] h = tt
  pending_back [] (q ∷ qs) h = absurd h
  pending_back (p ∷ ps) [] h = absurd h
  pending_back (p ∷ ps) (q ∷ qs) h = ((h.0.scope, h.0.passed), pending_back ps qs h.1)

  pub alike_back : (s t : Shape) → Alike (shape_of d s) (shape_of d t) → AreAlike s t
  alike_back s t h = record {
    owner = owners_apart s.owner t.owner h.owner;
    operands = maps_apart d.one number_is s.operands t.operands h.operands;
    locals = maps_apart d.one number_is s.locals t.locals h.locals;
    filled = h.filled;
    defaults = frames_back s.defaults t.defaults h.defaults;
    loops = maps_apart (loop_of d) loop_is s.loops t.loops h.loops;
    pending = pending_back s.pending t.pending h.pending;
  }

  checked_back : (fs gs : List FrameShape) → AllMeet MeetsFrame (map (frame_of d) fs) (map (frame_of d) gs)
      → AreChecked gs fs
  checked_back [] [] h = tt
  checked_back [] (g ∷ gs) h = absurd h
  checked_back (f ∷ fs) [] h = absurd h
  checked_back (f ∷ fs) (g ∷ gs) h = (fewer_checked f.checked g.checked h.0.checked, checked_back fs gs h.1)

  passed_back : (ps qs : List PendingShape) → AllMeet MeetsPending (map pending_of ps) (map pending_of qs)
      → ArePassed qs ps
  passed_back [] [] h = tt
  passed_back [] (q ∷ qs) h = absurd h
  passed_back (p ∷ ps) [] h = absurd h
  passed_back (p ∷ ps) (q ∷ qs) h = (h.0.passed, passed_back ps qs h.1)

  pub no_fewer_back : (s t : Shape) → Meets (shape_of d s) (shape_of d t) → HasNoFewer s t
  no_fewer_back s t h = record {
    filled = h.filled;
    defaults = checked_back s.defaults t.defaults h.defaults;
    pending = passed_back s.pending t.pending h.pending;
  }
