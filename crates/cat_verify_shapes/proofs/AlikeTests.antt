-- Whether lists of frames are alike, as a loop over them tells it.
use Rattle.std.proofs.Common.{◌≡◌, ◌↔◌, ℕ, ◌+◌, true, false, IsTrue, List, length, take, Some, slice_get}
use Rattle.cat_code.specs.Shapes.{AreFewer}
use Rattle.cat_verify_shapes.specs.declared.shape.FrameShape.{FrameShape}
use Rattle.cat_verify_shapes.specs.declared.shape.PendingShape.{PendingShape}
use Rattle.cat_verify_shapes.specs.inside.Alike.{AreAlikeFrames, AreAlikePending, AreChecked, ArePassed}
use Rattle.cat_verify_shapes.proofs.FrontLemmas.{meet_more, meet_at, meet_long, tells_not}

abbrev pub AlikeFrame : FrameShape → FrameShape → Type 0
AlikeFrame f g = (f.begun ≡ g.begun) × (f.holds ≡ g.holds)

abbrev pub AlikePending : PendingShape → PendingShape → Type 0
AlikePending p q = (p.scope ≡ q.scope) × (length p.passed ≡ length q.passed)

abbrev pub IsChecked : FrameShape → FrameShape → Type 0
IsChecked f g = f.checked ≡ true → g.checked ≡ true

abbrev pub IsPassed : PendingShape → PendingShape → Type 0
IsPassed p q = AreFewer p.passed q.passed

pub frames_long : (fs gs : List FrameShape) → (length fs ≡ length gs → ⊥) → IsTrue false ↔ AreAlikeFrames fs gs
frames_long fs gs other = tells_not (λ h. other (meet_long AlikeFrame fs gs h))

pub frames_unlike : (fs gs : List FrameShape) (n : ℕ) (f g : FrameShape) → slice_get fs n ≡ Some f
    → slice_get gs n ≡ Some g
    → (f.begun ≡ g.begun → f.holds ≡ g.holds → ⊥) → IsTrue false ↔ AreAlikeFrames fs gs
frames_unlike fs gs n f g at of other =
    tells_not (λ h. let both = meet_at AlikeFrame fs gs n f g at of h in other both.0 both.1)

pub frames_more : (fs gs : List FrameShape) (n : ℕ) (f g : FrameShape) → slice_get fs n ≡ Some f
    → slice_get gs n ≡ Some g
    → AreAlikeFrames (take n fs) (take n gs) → f.begun ≡ g.begun → f.holds ≡ g.holds
    → AreAlikeFrames (take (n + 1) fs) (take (n + 1) gs)
frames_more fs gs n f g at of h begun holds = meet_more AlikeFrame fs gs n f g at of h (begun, holds)

pub pending_long : (ps qs : List PendingShape) → (length ps ≡ length qs → ⊥) → IsTrue false ↔ AreAlikePending ps qs
pending_long ps qs other = tells_not (λ h. other (meet_long AlikePending ps qs h))

pub alike_long : (ps qs : List PendingShape) → AreAlikePending ps qs → length ps ≡ length qs
alike_long ps qs h = meet_long AlikePending ps qs h

pub pending_unlike : (ps qs : List PendingShape) (n : ℕ) (p q : PendingShape) → slice_get ps n ≡ Some p
    → slice_get qs n ≡ Some q → (p.scope ≡ q.scope → length p.passed ≡ length q.passed → ⊥)
    → IsTrue false ↔ AreAlikePending ps qs
pending_unlike ps qs n p q at of other =
    tells_not (λ h. let both = meet_at AlikePending ps qs n p q at of h in other both.0 both.1)

pub pending_more : (ps qs : List PendingShape) (n : ℕ) (p q : PendingShape) → slice_get ps n ≡ Some p
    → slice_get qs n ≡ Some q → AreAlikePending (take n ps) (take n qs) → p.scope ≡ q.scope
    → length p.passed ≡ length q.passed → AreAlikePending (take (n + 1) ps) (take (n + 1) qs)
pending_more ps qs n p q at of h scope passed = meet_more AlikePending ps qs n p q at of h (scope, passed)

-- what is passed to a pending frame that is alike
pub passed_long : (ps qs : List PendingShape) (n : ℕ) (p q : PendingShape) → slice_get ps n ≡ Some p
    → slice_get qs n ≡ Some q → AreAlikePending ps qs → length p.passed ≡ length q.passed
passed_long ps qs n p q at of h = (meet_at AlikePending ps qs n p q at of h).1

pub unchecked : (fs gs : List FrameShape) (n : ℕ) (f g : FrameShape) → slice_get fs n ≡ Some f → slice_get gs n ≡ Some g
    → f.checked ≡ true → (g.checked ≡ true → ⊥) → IsTrue false ↔ AreChecked fs gs
unchecked fs gs n f g at of so other = tells_not (λ h. other (meet_at IsChecked fs gs n f g at of h so))

pub checked_more : (fs gs : List FrameShape) (n : ℕ) (f g : FrameShape) → slice_get fs n ≡ Some f
    → slice_get gs n ≡ Some g → AreChecked (take n fs) (take n gs) → (f.checked ≡ true → g.checked ≡ true)
    → AreChecked (take (n + 1) fs) (take (n + 1) gs)
checked_more fs gs n f g at of h so = meet_more IsChecked fs gs n f g at of h so

pub unpassed : (ps qs : List PendingShape) (n : ℕ) (p q : PendingShape) → slice_get ps n ≡ Some p
    → slice_get qs n ≡ Some q → (AreFewer p.passed q.passed → ⊥) → IsTrue false ↔ ArePassed ps qs
unpassed ps qs n p q at of other = tells_not (λ h. other (meet_at IsPassed ps qs n p q at of h))

pub passed_more : (ps qs : List PendingShape) (n : ℕ) (p q : PendingShape) → slice_get ps n ≡ Some p
    → slice_get qs n ≡ Some q → ArePassed (take n ps) (take n qs) → AreFewer p.passed q.passed
    → ArePassed (take (n + 1) ps) (take (n + 1) qs)
passed_more ps qs n p q at of h fewer = meet_more IsPassed ps qs n p q at of h fewer
