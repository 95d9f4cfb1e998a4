use Rattle.std.proofs.Common.{rules, ◌≡◌, ◌<◌, true, false, length, bytes_eq, sym}
use Rattle.cat_check_forms.specs.Taken.{at_number}
use Rattle.cat_check_forms.proofs.Innermost.{hit_at, miss_at}
use Rattle.cat_check_forms.proofs.names.last_named.Goals as goal

pub loop-number-preserved-then-ne : goal.loop-number-preserved-then-ne
loop-number-preserved-then-ne c =
    let other : bytes_eq c.index-locals-number.result.name c.args.name.now ≡ false = search rules in (
      miss_at c.args.name.now c.args.locals.now c.loop-number.number c.index-locals-number.result
          (at_number c.loop-number.last c.args.locals.now) (search rules) (sym c.index-locals-number.is) other
          c.loop-number.invariant.0,
      c.loop-number.invariant.1,
    )

pub loop-number-preserved : goal.loop-number-preserved
loop-number-preserved c =
    let same : bytes_eq c.index-locals-number.result.name c.args.name.now ≡ true = search rules in
    let within : c.loop-number.number < length c.args.locals.now = search rules in (
      hit_at c.args.name.now c.args.locals.now c.loop-number.number c.index-locals-number.result within
          (sym c.index-locals-number.is)
          same,
      within,
    )
