-- What is said of dead definitions is said to one who asked for them.
use Rattle.std.proofs.Common.{◌≡◌, ℕ, List, ap, ⊎_elim}
use Rattle.std.specs.Prelude.{IsTrue}
use Rattle.cat_io.specs.Shelf.{Shelved}
use Rattle.cat_app.specs.Modes.{asks_dead}
use Rattle.cat_app.specs.Words.{Request}
use Rattle.cat_app.specs.Deads.{TellsDead}
use Rattle.cat_app.specs.declared.status.Status.{Status}
use Rattle.cat_app.specs.declared.status.Status.TheVariants as status

pub dead_asked : (request : Request) (old new : Shelved) (ended : Status) (text : List ℕ)
    → TellsDead request old new ended text → IsTrue (asks_dead request.mode)
dead_asked request old new status.Fine text is = ⊎_elim (λ r. ap asks_dead r.mode) (λ k. ap asks_dead k.mode) is
dead_asked request old new status.Found text is = ap asks_dead is.mode
dead_asked request old new status.Unsettled text is = ap asks_dead is.mode
dead_asked request old new status.Certificate text is = ap asks_dead is.mode
dead_asked request old new _ text is = absurd is

-- and it leaves the shelf as it was
pub dead_untouched : (request : Request) (old new : Shelved) (ended : Status) (text : List ℕ)
    → TellsDead request old new ended text → new ≡ old
dead_untouched request old new status.Fine text is = ⊎_elim (λ r. r.untouched) (λ k. k.untouched) is
dead_untouched request old new status.Found text is = is.untouched
dead_untouched request old new status.Unsettled text is = is.untouched
dead_untouched request old new status.Certificate text is = is.untouched
dead_untouched request old new _ text is = absurd is
