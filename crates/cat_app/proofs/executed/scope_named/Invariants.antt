use Rattle.std.proofs.Common.{◌≡◌, drop}
use Rattle.cat_scope.specs.Named.{number_named}
use Rattle.cat_app.proofs.executed.scope_named.Given as goal

abbrev pub invariant-loop-number : goal.invariant-loop-number
invariant-loop-number l =
    number_named l.name l.number (drop l.number l.decls.scopes) ≡ number_named l.name 0 l.decls.scopes
