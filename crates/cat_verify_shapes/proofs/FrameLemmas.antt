-- How many frames were made inside the innermost loop, by numbers and by the shapes for which they stand.
use Rattle.std.proofs.Common.{◌≡◌, ◌≤◌, ℕ, ◌+◌, ◌-◌, nat_eq, nat_le, nat_lt, not, List}
use Rattle.std.proofs.Common.{[], ◌∷◌, length}
use Rattle.std.proofs.Common.{map, refl, sym, ap, ◌∙◌, arith}
use Rattle.std.proofs.lemmas.Bool.Decides.{nat_tests}
use Rattle.cat_scope.specs.Names.{has_none}
use Rattle.cat_code.specs.Wanted.{frames_inside, is_pending_inside}
use Rattle.cat_verify_shapes.specs.declared.shape.Shape.{Shape}
use Rattle.cat_verify_shapes.specs.declared.shape.LoopShape.{LoopShape}
use Rattle.cat_verify_shapes.specs.declared.shape.PendingShape.{PendingShape}
use Rattle.cat_verify_shapes.specs.inside.Senses.{Senses}
use Rattle.cat_verify_shapes.specs.inside.Told.{frame_of, loop_of, pending_of, shape_of}
use Rattle.cat_verify_shapes.specs.inside.Taking.{own_frames, own_pending, frames_below, pending_below}
use Rattle.cat_verify_shapes.proofs.ListLemmas.{long_map}

le_minus : (a n b : ℕ) → 1 ≤ n → nat_le (a + n) b ≡ nat_le n (b - a)
le_minus a n b h = grind (arith, nat_tests)

lt_minus : (a b : ℕ) → nat_lt a b ≡ nat_lt 0 (b - a)
lt_minus a b = grind (arith, nat_tests)

same_minus : (b : ℕ) → b - 0 ≡ b
same_minus b = omega arith

pub frames_test : (d : Senses) (s : Shape) (n : ℕ) → 1 ≤ n
    → frames_inside n (shape_of d s).loops (shape_of d s).defaults ≡ nat_le n (own_frames s)
frames_test d s n h = by_loops s.loops
  where
    by_loops : (ls : List LoopShape)
        → frames_inside n (map (loop_of d) ls) (map (frame_of d) s.defaults)
        ≡ nat_le n (length s.defaults - frames_below ls)
    by_loops [] =
        ap (nat_le n) (long_map (frame_of d) s.defaults) ∙ ap (nat_le n) (sym (same_minus (length s.defaults)))
    by_loops (l ∷ ls) =
        ap (nat_le (l.frames + n)) (long_map (frame_of d) s.defaults) ∙ le_minus l.frames n (length s.defaults) h

none_long : (ps : List PendingShape) → not (has_none (map pending_of ps)) ≡ nat_lt 0 (length ps - 0)
none_long [] = refl
none_long (p ∷ ps) = grind (arith, nat_tests)

pub pending_test : (d : Senses) (s : Shape)
    → is_pending_inside (shape_of d s).loops (shape_of d s).pending ≡ nat_lt 0 (own_pending s)
pending_test d s = by_loops s.loops
  where
    by_loops : (ls : List LoopShape)
        → is_pending_inside (map (loop_of d) ls) (map pending_of s.pending)
        ≡ nat_lt 0 (length s.pending - pending_below ls)
    by_loops [] = none_long s.pending
    by_loops (l ∷ ls) = ap (nat_lt l.pending) (long_map pending_of s.pending) ∙ lt_minus l.pending (length s.pending)

pub none_is : {A B : Type 0} (f : A → B) (xs : List A) → has_none (map f xs) ≡ nat_eq (length xs) 0
none_is f [] = refl
none_is f (x ∷ xs) = grind (arith, nat_tests)
