-- Code for a target, by the number of its entry.
use Rattle.std.proofs.Common.{◌≡◌, ℕ, ◌+◌, length, Result, Ok, Err, OnOk, refl, sym, ap, ◌∙◌, subst}
use Rattle.std.specs.declared.alloc.AllocError.{AllocError}
use Rattle.cat_code.specs.declared.instr.Instr.TheVariants as instr
use Rattle.cat_code.specs.declared.code.TargetEntry.{TargetEntry}
use Rattle.cat_lower.specs.declared.growing.Growing.{Growing}
use Rattle.cat_lower.specs.Laying.{Coded, nothing, one, entry, then_code, led, branch, targeted}
use Rattle.cat_lower.specs.Grown.{Grown, Patched}
use Rattle.cat_lower.proofs.Grows.{grown_then, grown_at, place_behind}
use Rattle.cat_lower.proofs.Patches.{sides}

-- the value that is taken, or what stands for it; t1, t2 to t7: before, behind `take`, the jump, what stands for it,
-- and each patch
pub taken : (t1 t2 t3 t5 t6 t7 : Growing) (b : Coded) (test first second end : ℕ)
    → Grown t1 t2 (one (instr.Take 0)) → Grown t2 t3 (one (instr.Jump 0)) → Grown t3 t5 b
    → test ≡ length t1.instructions → first ≡ length t2.instructions → second ≡ length t3.instructions
    → end ≡ length t5.instructions
    → Patched t5 t6 first (instr.Jump end) → Patched t6 t7 test (instr.Take second)
    → Grown t1 t7 (branch (λ t. instr.Take t) nothing b)
taken t1 t2 t3 t5 t6 t7 b test first second end g h k is_test is_first is_second is_end p6 p7 =
    let front = grown_at t1 t2 (one (instr.Take 0)) (led (instr.Take 0) nothing) refl g in
    let behind : second ≡ first + 1 =
    is_second ∙ place_behind t2 t3 (one (instr.Jump 0)) h ∙ ap (λ (n : ℕ). n + 1) (sym is_first) in
    sides t1 t2 t5 t6 t7 (λ t. instr.Take t) (instr.Take 0) (instr.Jump 0) nothing b test first second end front
    (grown_then t2 t3 t5 (one (instr.Jump 0)) b h k) is_test is_first behind is_end p6 p7

-- an entry in front of the code that names it
pub targeted_grown : (old mid new : Growing) (target : TargetEntry) (a : ℕ → Coded) (v : ℕ) → v ≡ length old.targets
    → Grown old mid (entry target) → Grown mid new (a v) → Grown old new (targeted target a)
targeted_grown old mid new target a v is g h =
    let told = subst (λ (n : ℕ). Grown mid new (a n)) is h in
    grown_at old new (then_code (entry target) (a (length old.targets))) (targeted target a) refl
    (grown_then old mid new (entry target) (a (length old.targets)) g told)

pub targeted_ok : (r : Result Unit AllocError) (old mid new : Growing) (target : TargetEntry) (a : ℕ → Coded) (v : ℕ)
    → v ≡ length old.targets
    → Grown old mid (entry target) → OnOk r (Grown mid new (a v)) → OnOk r (Grown old new (targeted target a))
targeted_ok (Ok u) old mid new target a v is g h = targeted_grown old mid new target a v is g h
targeted_ok (Err e) old mid new target a v is g h = tt
