-- Jumps that are patched behind what they jump over.
use Rattle.std.proofs.Common.{◌≡◌, ℕ, ◌+◌, Bool, true, false, List, [], ◌∷◌, ◌++◌, length, Result, Ok, Err, OnOk, refl}
use Rattle.std.proofs.Common.{sym, ap, ◌∙◌, subst, append_assoc, arith, ◌<◌}
use Rattle.std.proofs.lemmas.List.{length-set}
use Rattle.std.specs.Prelude.{slice_set}
use Rattle.std.proofs.Math.Seq.{set-append_seam}
use Rattle.std.specs.declared.alloc.AllocError.{AllocError}
use Rattle.cat_code.specs.declared.instr.Instr.{Instr}
use Rattle.cat_code.specs.declared.instr.Instr.TheVariants as instr
use Rattle.cat_lower.specs.declared.growing.Growing.{Growing}
use Rattle.cat_lower.specs.Laying.{Ends, Parts, Coded, past, joined, after, one, nothing, then_code, led, skip, end_of}
use Rattle.cat_lower.specs.Laying.{over, branch, loop}
use Rattle.cat_lower.specs.Grown.{ends_of, Grown, Patched, Closes, ClosesSides}
use Rattle.cat_lower.specs.Pieces.{truth, search_for, found, any_turn, all_turn}
use Rattle.cat_lower.proofs.Places.{past_append}
use Rattle.cat_lower.proofs.Regrouped.{regrouped}
use Rattle.cat_lower.proofs.Grows.{count, grown_then, grown_at, led_by, patched, place_behind, ends_are}

-- another instruction behind a part
pub patched_within : (old full new : Growing) (a : Coded) (x i : Instr) (b : Coded) (at : ℕ)
    → Grown old full (then_code a (led x b))
    → at ≡ (end_of a (ends_of old)).place → Patched full new at i → Grown old new (then_code a (led i b))
patched_within old full new a x i b at g is p =
    let front = (a (ends_of old)).instructions in
    let back = (b (skip (end_of a (ends_of old)))).instructions in
    let place : at ≡ length (old.instructions ++ front) =
    is ∙ sym (count old.instructions (old.instructions ++ front) front refl) in
    let whole : full.instructions ≡ (old.instructions ++ front) ++ x ∷ back =
    g.instructions ∙ sym (append_assoc old.instructions front (x ∷ back)) in
    record {
      instructions = p.instructions ∙ ap (λ n. slice_set full.instructions n i) place
          ∙ ap (λ l. slice_set l (length (old.instructions ++ front)) i) whole
          ∙ set-append_seam (old.instructions ++ front) x back i ∙ append_assoc old.instructions front (i ∷ back);
      constants = p.constants ∙ g.constants;
      positions = p.positions ∙ g.positions;
      targets = p.targets ∙ g.targets;
    }

-- a part that a jump in front of it jumps over
pub jumped : (t1 t3 t4 : Growing) (jump : ℕ → Instr) (x : Instr) (a : Coded) (start end : ℕ) → Grown t1 t3 (led x a)
    → start ≡ length t1.instructions → end ≡ length t3.instructions → Patched t3 t4 start (jump end)
    → Grown t1 t4 (over jump a)
jumped t1 t3 t4 jump x a start end g is_start is_end p =
    let whole = patched t1 t3 t4 x (jump end) a start g is_start p in
    let at_end : end ≡ (end_of a (skip (ends_of t1))).place = is_end ∙ place_behind t1 t3 (led x a) g in
    grown_at t1 t4 (led (jump (end_of a (skip (ends_of t1))).place) a) (over jump a) refl
    (led_by t1 t4 (jump end) (jump (end_of a (skip (ends_of t1))).place) a (ap jump at_end) whole)

-- two sides, each jump patched; t1, t3, t5 to t7: before, behind the first side, the second side, the patch of the
-- second jump, that of the first
pub sides : (t1 t3 t5 t6 t7 : Growing) (jump : ℕ → Instr) (x y : Instr) (a b : Coded) (test first second end : ℕ)
    → Grown t1 t3 (led x a) → Grown t3 t5 (led y b)
    → test ≡ length t1.instructions → first ≡ length t3.instructions → second ≡ first + 1 → end ≡ length t5.instructions
    → Patched t5 t6 first (instr.Jump end) → Patched t6 t7 test (jump second) → Grown t1 t7 (branch jump a b)
sides t1 t3 t5 t6 t7 jump x y a b test first second end g h is_test is_first is_second is_end p6 p7 =
    let tail : Coded = over (λ t. instr.Jump t) b in
    let behind = jumped t3 t5 t6 (λ t. instr.Jump t) y b first end h is_first is_end p6 in
    let both =
    grown_at t1 t6 (then_code (led x a) tail) (led x (then_code a tail)) refl
    (grown_then t1 t3 t6 (led x a) tail g behind) in
    let whole = patched t1 t6 t7 x (jump second) (then_code a tail) test both is_test p7 in
    let at_second : second ≡ (skip (end_of a (skip (ends_of t1)))).place =
    is_second ∙ ap (λ (n : ℕ). n + 1) (is_first ∙ place_behind t1 t3 (led x a) g) in
    grown_at t1 t7 (led (jump (skip (end_of a (skip (ends_of t1)))).place) (then_code a tail)) (branch jump a b) refl
    (led_by t1 t7 (jump second) (jump (skip (end_of a (skip (ends_of t1)))).place) (then_code a tail)
    (ap jump at_second) whole)

-- a loop whose first jump is patched; t1, t3 to t5: before, behind the body, the jump back, and when the first jump is
-- patched
pub turns : (t1 t3 t4 t5 : Growing) (x : Instr) (a : Coded) (start back end : ℕ)
    → Grown t1 t3 (led x a) → Grown t3 t4 (one (instr.Jump back))
    → start ≡ length t1.instructions → back ≡ start → end ≡ length t4.instructions
    → Patched t4 t5 start (instr.Next end)
    → Grown t1 t5 (loop a)
turns t1 t3 t4 t5 x a start back end g h is_start is_back is_end p =
    let jump : Coded = one (instr.Jump back) in
    let both =
    grown_at t1 t4 (then_code (led x a) jump) (led x (then_code a jump)) refl
    (grown_then t1 t3 t4 (led x a) jump g h) in
    let whole = patched t1 t4 t5 x (instr.Next end) (then_code a jump) start both is_start p in
    let at_end : end ≡ (skip (end_of a (skip (ends_of t1)))).place =
    is_end ∙ place_behind t3 t4 jump h ∙ ap (λ (e : Ends). (skip e).place) (ends_are t1 t3 (led x a) g) in
    grown_at t1 t5 (led (instr.Next (skip (end_of a (skip (ends_of t1)))).place)
    (then_code a (one (instr.Jump (length t1.instructions))))) (loop a) refl
    (subst (λ q. Grown t1 t5
    (led (instr.Next (skip (end_of a (skip (ends_of t1)))).place) (then_code a (one (instr.Jump q)))))
    (is_back ∙ is_start)
    (led_by t1 t5 (instr.Next end) (instr.Next (skip (end_of a (skip (ends_of t1)))).place) (then_code a jump)
    (ap (λ n. instr.Next n) at_end) whole))

-- what is regrouped behind an instruction
regrouped_led : (i : Instr) (a b c : Coded) (ends : Ends)
    → then_code (led i (then_code a b)) c ends ≡ led i (then_code a (then_code b c)) ends
regrouped_led i a b c ends = ap (λ (p : Parts). joined (one i ends) p) (regrouped a b c (skip ends))

-- a search, whose jumps are patched: s0, s7 to s10: before, behind the last turn, the patch of `next`, the value where
-- none was found, and the patch of the jump out
search_closed : (s0 s7 s8 s9 s10 : Growing) (x y : Instr) (front back : Coded) (none : Bool) (start out_at end out : ℕ)
    → Grown s0 s7 (led x (then_code front (led y back))) → start ≡ length s0.instructions
    → out_at ≡ (end_of front (skip (ends_of s0))).place → Patched s7 s8 start (instr.Next end)
    → Grown s8 s9 (truth none)
    → Patched s9 s10 out_at (instr.Jump out)
    → Grown s0 s10 (led (instr.Next end) (then_code front (led (instr.Jump out) (then_code back (truth none)))))
search_closed s0 s7 s8 s9 s10 x y front back none start out_at end out g is_start is_out p8 h p10 =
    let turn : Coded = then_code front (led y back) in
    let next : Instr = instr.Next end in
    let rest : Coded = led y (then_code back (truth none)) in
    let begun = patched s0 s7 s8 x next turn start g is_start p8 in
    let more = grown_then s0 s8 s9 (led next turn) (truth none) begun h in
    let grouped = grown_at s0 s9 (then_code (led next turn) (truth none)) (then_code (led next front) rest)
    (regrouped_led next front (led y back) (truth none) (ends_of s0)) more in
    grown_at s0 s10 (then_code (led next front) (led (instr.Jump out) (then_code back (truth none))))
    (led next (then_code front (led (instr.Jump out) (then_code back (truth none))))) refl
    (patched_within s0 s9 s10 (led next front) y (instr.Jump out)
    (then_code back (truth none)) out_at grouped is_out p10)

-- what a search is, by its turn
search_whole : (turn : ℕ → ℕ → Coded) (front back : Coded) (none : Bool) (end out : ℕ) (ends : Ends)
    → turn ends.place out (skip ends) ≡ then_code front (led (instr.Jump out) back) (skip ends)
    → end ≡ (end_of (turn 0 0) (skip ends)).place → out ≡ end + 1
    → led (instr.Next end) (then_code front (led (instr.Jump out) (then_code back (truth none)))) ends
    ≡ search_for turn none ends
search_whole turn front back none end out ends split is_end is_out =
    let parts : then_code front (led (instr.Jump out) (then_code back (truth none))) (skip ends)
    ≡ then_code (turn ends.place out) (truth none) (skip ends) =
    sym (regrouped front (led (instr.Jump out) back) (truth none) (skip ends))
    ∙ ap (λ (p : Parts). joined p (truth none (after (skip ends) p))) (sym split) in
    ap (λ (p : Parts). joined (one (instr.Next end) ends) p) parts
    ∙ ap (λ (n : ℕ). led (instr.Next end) (then_code (turn ends.place n) (truth none)) ends) is_out
    ∙ ap (λ (n : ℕ). led (instr.Next n) (then_code (turn ends.place (n + 1)) (truth none)) ends) is_end

-- up to the jump out of a search for an element for which a test is true
abbrev any_front : Coded → Coded
any_front test =
    then_code test (λ e. led (instr.JumpFalse (end_of (found true 0) (skip e)).place) (led instr.Leave (truth true)) e)

any_split : (test : Coded) (start out : ℕ) (ends : Ends)
    → any_turn test start out ends ≡ then_code (any_front test) (led (instr.Jump out) (one (instr.Jump start))) ends
any_split test start out ends =
    sym (regrouped test (λ e. led (instr.JumpFalse (end_of (found true 0) (skip e)).place)
    (led instr.Leave (truth true)) e)
    (led (instr.Jump out) (one (instr.Jump start))) ends)

-- up to the jump out of a search for an element for which a test is false
abbrev all_front : Coded → ℕ → Coded
all_front test start =
    then_code test (λ e. led (instr.JumpFalse (end_of (one (instr.Jump start)) (skip e)).place)
    (led (instr.Jump start) (led instr.Leave (truth false))) e)

all_split : (test : Coded) (start out : ℕ) (ends : Ends)
    → all_turn test start out ends ≡ then_code (all_front test start) (led (instr.Jump out) nothing) ends
all_split test start out ends =
    sym (regrouped test (λ e. led (instr.JumpFalse (end_of (one (instr.Jump start)) (skip e)).place)
    (led (instr.Jump start) (led instr.Leave (truth false))) e) (led (instr.Jump out) nothing) ends)

-- a place behind a part and so many instructions
behind_3 : (p : ℕ) (front : List Instr) (a b c x y z : Instr)
    → past p (front ++ a ∷ b ∷ c ∷ []) ≡ past p (front ++ x ∷ y ∷ z ∷ [])
behind_3 p front a b c x y z = past_append p front (a ∷ b ∷ c ∷ []) ∙ sym (past_append p front (x ∷ y ∷ z ∷ []))

behind_4 : (p : ℕ) (front : List Instr) (a b c d w x y z : Instr)
    → past p (front ++ a ∷ b ∷ c ∷ d ∷ []) ≡ past p (front ++ w ∷ x ∷ y ∷ z ∷ [])
behind_4 p front a b c d w x y z =
    past_append p front (a ∷ b ∷ c ∷ d ∷ []) ∙ sym (past_append p front (w ∷ x ∷ y ∷ z ∷ []))

behind_5 : (p : ℕ) (front : List Instr) (a b c d e v w x y z : Instr)
    → past p (front ++ a ∷ b ∷ c ∷ d ∷ e ∷ []) ≡ past p (front ++ v ∷ w ∷ x ∷ y ∷ z ∷ [])
behind_5 p front a b c d e v w x y z =
    past_append p front (a ∷ b ∷ c ∷ d ∷ e ∷ []) ∙ sym (past_append p front (v ∷ w ∷ x ∷ y ∷ z ∷ []))

-- the place behind the value where none was found
place_out : (s7 s8 s9 : Growing) (none : Bool) (start end out : ℕ) → end ≡ length s7.instructions
    → Patched s7 s8 start (instr.Next end)
    → Grown s8 s9 (truth none) → out ≡ length s9.instructions → out ≡ end + 1
place_out s7 s8 s9 none start end out is_end p h is_out =
    is_out ∙ place_behind s8 s9 (truth none) h
    ∙ ap (λ (n : ℕ). n + 1) (ap length p.instructions ∙ length-set s7.instructions start (instr.Next end) ∙ sym is_end)

-- a search for an element for which a test is true, by its states
pub any_closed : (s1 s4 s5 s6 s7 s8 s9 s10 : Growing) (start test_at out_at next back end out : ℕ)
    → Grown s1 s4 (led (instr.JumpFalse 0) (led instr.Leave (truth true))) → Grown s4 s5 (one (instr.Jump 0))
    → test_at ≡ length s1.instructions → out_at ≡ length s4.instructions → next ≡ length s5.instructions
    → Patched s5 s6 test_at (instr.JumpFalse next) → back ≡ start → Grown s6 s7 (one (instr.Jump back))
    → end ≡ length s7.instructions → Patched s7 s8 start (instr.Next end) → Grown s8 s9 (truth false)
    → out ≡ length s9.instructions → Patched s9 s10 out_at (instr.Jump out)
    → Closes start (instr.Next 0) s1 s10 (λ test. search_for (any_turn test) false)
any_closed s1 s4 s5 s6 s7 s8 s9 s10 start test_at out_at next back end out g14 g45 is_test is_out_at is_next p6 is_back
    g67 is_end p8 g89 is_out p10 =
    record { closed = by }
  where
    by : (s0 : Growing) (test : Coded) → start ≡ length s0.instructions → Grown s0 s1 (led (instr.Next 0) test)
        → Grown s0 s10 (search_for (any_turn test) false)
    by s0 test is_start g =
        let ends = ends_of s0 in
        let leaving : Coded = led (instr.JumpFalse 0) (led instr.Leave (truth true)) in
        let leave : Coded = over (λ t. instr.JumpFalse t) (found true 0) in
        let jump : Coded = one (instr.Jump back) in
        let to_out =
        grown_at s1 s5 (then_code leaving (one (instr.Jump 0))) (led (instr.JumpFalse 0) (found true 0)) refl
        (grown_then s1 s4 s5 leaving (one (instr.Jump 0)) g14 g45) in
        let left =
        jumped s1 s5 s6 (λ t. instr.JumpFalse t) (instr.JumpFalse 0)
        (found true 0) test_at next to_out is_test is_next p6 in
        let laid =
        grown_then s0 s1 s7 (led (instr.Next 0) test) (then_code leave jump) g
        (grown_then s1 s6 s7 leave jump left g67) in
        let split = any_split test back 0 (skip ends) in
        let grouped = grown_at s0 s7 (then_code (led (instr.Next 0) test) (then_code leave jump))
        (led (instr.Next 0) (then_code (any_front test) (led (instr.Jump 0) jump)))
        (ap (λ (p : Parts). joined (one (instr.Next 0) ends) p) split) laid in
        let before = place_behind s0 s4 (then_code (led (instr.Next 0) test) leaving)
        (grown_then s0 s1 s4 (led (instr.Next 0) test) leaving g g14) in
        let place : out_at ≡ (end_of (any_front test) (skip ends)).place =
        is_out_at ∙ before ∙ behind_3 (ends.place + 1) (test (skip ends)).instructions _ _ _ _ _ _ in
        let behind = place_behind s0 s7 (then_code (led (instr.Next 0) test) (then_code leave jump)) laid in
        let end_is : end ≡ (end_of (any_turn test 0 0) (skip ends)).place =
        is_end ∙ behind ∙ behind_5 (ends.place + 1) (test (skip ends)).instructions _ _ _ _ _ _ _ _ _ _ in
        let out_is = place_out s7 s8 s9 false start end out is_end p8 g89 is_out in
        let whole =
        search_closed s0 s7 s8 s9 s10 (instr.Next 0) (instr.Jump 0)
        (any_front test) jump false start out_at end out grouped
        is_start place p8 g89 p10 in
        grown_at s0 s10 (led (instr.Next end)
        (then_code (any_front test) (led (instr.Jump out) (then_code jump (truth false)))))
        (search_for (any_turn test) false)
        (search_whole (any_turn test) (any_front test) jump false end out ends
        (ap (λ (n : ℕ). any_turn test n out (skip ends)) (sym (is_back ∙ is_start))
        ∙ any_split test back out (skip ends)) end_is out_is) whole

-- a search for an element for which a test is false, by its states
pub all_closed : (s1 s3 s4 s6 s7 s8 s9 s10 : Growing) (start test_at out_at failed back end out : ℕ)
    → Grown s1 s3 (led (instr.JumpFalse 0) (one (instr.Jump back))) → test_at ≡ length s1.instructions
    → failed ≡ length s3.instructions → Patched s3 s4 test_at (instr.JumpFalse failed) → back ≡ start
    → Grown s4 s6 (led instr.Leave (truth false)) → Grown s6 s7 (one (instr.Jump 0)) → out_at ≡ length s6.instructions
    → end ≡ length s7.instructions → Patched s7 s8 start (instr.Next end) → Grown s8 s9 (truth true)
    → out ≡ length s9.instructions → Patched s9 s10 out_at (instr.Jump out)
    → Closes start (instr.Next 0) s1 s10 (λ test. search_for (all_turn test) true)
all_closed s1 s3 s4 s6 s7 s8 s9 s10 start test_at out_at failed back end out g13 is_test is_failed p4 is_back g46 g67
    is_out_at is_end p8 g89 is_out p10 =
    record { closed = by }
  where
    by : (s0 : Growing) (test : Coded) → start ≡ length s0.instructions → Grown s0 s1 (led (instr.Next 0) test)
        → Grown s0 s10 (search_for (all_turn test) true)
    by s0 test is_start g =
        let ends = ends_of s0 in
        let on : Coded = over (λ t. instr.JumpFalse t) (one (instr.Jump back)) in
        let leaving : Coded = led instr.Leave (truth false) in
        let gone =
        jumped s1 s3 s4 (λ t. instr.JumpFalse t) (instr.JumpFalse 0)
        (one (instr.Jump back)) test_at failed g13 is_test is_failed p4 in
        let to_out = grown_at s4 s7 (then_code leaving (one (instr.Jump 0))) (found false 0) refl
        (grown_then s4 s6 s7 leaving (one (instr.Jump 0)) g46 g67) in
        let laid = grown_then s0 s1 s7 (led (instr.Next 0) test) (then_code on (found false 0)) g
        (grown_then s1 s4 s7 on (found false 0) gone to_out) in
        let split = all_split test back 0 (skip ends) in
        let grouped = grown_at s0 s7 (then_code (led (instr.Next 0) test) (then_code on (found false 0)))
        (led (instr.Next 0) (then_code (all_front test back) (led (instr.Jump 0) nothing)))
        (ap (λ (p : Parts). joined (one (instr.Next 0) ends) p) split) laid in
        let before = place_behind s0 s6 (then_code (led (instr.Next 0) test) (then_code on leaving))
        (grown_then s0 s1 s6 (led (instr.Next 0) test) (then_code on leaving) g
        (grown_then s1 s4 s6 on leaving gone g46)) in
        let place : out_at ≡ (end_of (all_front test back) (skip ends)).place =
        is_out_at ∙ before ∙ behind_4 (ends.place + 1) (test (skip ends)).instructions _ _ _ _ _ _ _ _ in
        let behind = place_behind s0 s7 (then_code (led (instr.Next 0) test) (then_code on (found false 0))) laid in
        let end_is : end ≡ (end_of (all_turn test 0 0) (skip ends)).place =
        is_end ∙ behind ∙ behind_5 (ends.place + 1) (test (skip ends)).instructions _ _ _ _ _ _ _ _ _ _ in
        let out_is = place_out s7 s8 s9 true start end out is_end p8 g89 is_out in
        let whole =
        search_closed s0 s7 s8 s9 s10 (instr.Next 0) (instr.Jump 0)
        (all_front test back) nothing true start out_at end out grouped
        is_start place p8 g89 p10 in
        grown_at s0 s10 (led (instr.Next end)
        (then_code (all_front test back) (led (instr.Jump out) (then_code nothing (truth true)))))
        (search_for (all_turn test) true)
        (search_whole (all_turn test) (all_front test back) nothing true end out ends
        (ap (λ (n : ℕ). all_turn test n out (skip ends)) (sym (is_back ∙ is_start))
        ∙ all_split test back out (skip ends)) end_is out_is) whole

-- what is closed behind a part
pub closed_on : (before mid old new : Growing) (start : ℕ) (x : Instr) (part : Coded) (whole : Coded → Coded)
    → Closes start x old new whole → start ≡ length before.instructions → Grown before mid (one x) → Grown mid old part
    → Grown before new (whole part)
closed_on before mid old new start x part whole c is g h =
    c.closed before part is (grown_then before mid old (one x) part g h)

pub closed_ok : (r : Result Unit AllocError) (before mid old new : Growing) (start : ℕ) (x : Instr) (part : Coded)
    (whole : Coded → Coded)
    → OnOk r (Closes start x old new whole) → start ≡ length before.instructions → Grown before mid (one x)
    → Grown mid old part
    → OnOk r (Grown before new (whole part))
closed_ok (Ok u) before mid old new start x part whole c is g h =
    closed_on before mid old new start x part whole c is g h
closed_ok (Err e) before mid old new start x part whole c is g h = tt

pub sides_ok : (r : Result Unit AllocError) (before begun middle second old new : Growing) (test first : ℕ)
    (a b : Coded)
    → OnOk r (ClosesSides test first old new) → test ≡ length before.instructions → first ≡ length middle.instructions
    → Grown before begun (one (instr.JumpFalse 0)) → Grown begun middle a → Grown middle second (one (instr.Jump 0))
    → Grown second old b
    → OnOk r (Grown before new (branch (λ t. instr.JumpFalse t) a b))
sides_ok (Ok u) before begun middle second old new test first a b c is_test is_first g h k l =
    c.closed before middle a b is_test is_first (grown_then before begun middle (one (instr.JumpFalse 0)) a g h)
    (grown_then middle second old (one (instr.Jump 0)) b k l)
sides_ok (Err e) before begun middle second old new test first a b c is_test is_first g h k l = tt

-- a part that a jump in front of it jumps over, by the jump and the part
pub over_part : (t1 t2 t3 t4 : Growing) (jump : ℕ → Instr) (x : Instr) (a : Coded) (start end : ℕ) → Grown t1 t2 (one x)
    → Grown t2 t3 a
    → start ≡ length t1.instructions → end ≡ length t3.instructions → Patched t3 t4 start (jump end)
    → Grown t1 t4 (over jump a)
over_part t1 t2 t3 t4 jump x a start end g h is_start is_end p =
    jumped t1 t3 t4 jump x a start end (grown_then t1 t2 t3 (one x) a g h) is_start is_end p

pub patched_inside : (old new : Growing) (at place : ℕ) (i : Instr) → Patched old new place i
    → at < length old.instructions
    → at < length new.instructions
patched_inside old new at place i p less =
    let long : length new.instructions ≡ length old.instructions =
    ap length p.instructions ∙ length-set old.instructions place i in
    omega (arith, less, long)

-- the place of the last instruction
pub last_place : (t2 t3 t4 : Growing) (x i : Instr) (at place : ℕ) → at ≡ length t2.instructions → Grown t2 t3 (one x)
    → Patched t3 t4 place i
    → at + 1 ≡ length t4.instructions
last_place t2 t3 t4 x i at place is g p =
    ap (λ (n : ℕ). n + 1) is ∙ sym (place_behind t2 t3 (one x) g)
    ∙ sym (ap length p.instructions ∙ length-set t3.instructions place i)
