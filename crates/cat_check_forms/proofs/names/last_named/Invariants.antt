use Rattle.std.proofs.Common.{◌≡◌, ◌<◌, take, length, IfSome}
use Rattle.cat_names.specs.Lookup.{innermost}
use Rattle.cat_check_forms.specs.Taken.{at_number}
use Rattle.cat_check_forms.proofs.names.last_named.Given as goal

abbrev pub invariant-loop-number : goal.invariant-loop-number
invariant-loop-number l = (at_number l.last l.locals ≡ innermost l.name (take l.number l.locals))
    × IfSome l.last (λ number. number < length l.locals)
