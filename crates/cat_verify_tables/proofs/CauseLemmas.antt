-- Why lines are refused.
use Rattle.std.proofs.Common.{ℕ, sym, subst}
use Rattle.cat_verify_tables.specs.declared.refusal.TableRefusal.{TableRefusal}
use Rattle.cat_verify_tables.specs.declared.refusal.TableRefusal.TheVariants as refusal
use Rattle.cat_verify_tables.specs.inside.Causes.{AtLine, Refuses}

-- a fault of a part of what a line says is one of the line
pub at_line : {P Q : Type 0} (line : ℕ) → (P → Q) → (why : TableRefusal) → AtLine line P why → AtLine line Q why
at_line line led (refusal.BadTable n) at = (at.0, led at.1)
at_line line led refusal.Memory at = at

-- and the line is one of some lines
pub refuses : {P : Type 0} (Wrong : ℕ → Type 0) (line : ℕ) → (P → Wrong line) → (why : TableRefusal)
    → AtLine line P why → Refuses Wrong why
refuses Wrong line led (refusal.BadTable n) at = subst Wrong (sym at.0) (led at.1)
refuses Wrong line led refusal.Memory at = at

pub refuses_more : (Wrong Whole : ℕ → Type 0) → ((n : ℕ) → Wrong n → Whole n) → (why : TableRefusal)
    → Refuses Wrong why → Refuses Whole why
refuses_more Wrong Whole led (refusal.BadTable n) at = led n at
refuses_more Wrong Whole led refusal.Memory at = at
