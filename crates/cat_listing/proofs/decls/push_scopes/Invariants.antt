use Rattle.std.proofs.Common.{◌≡◌, ◌++◌, drop, string_bytes}
use Rattle.cat_listing.specs.DeclarationLines.{scopes_lines}
use Rattle.cat_listing.proofs.decls.push_scopes.Given as goal

abbrev pub invariant-loop-number : goal.invariant-loop-number
invariant-loop-number l =
    string_bytes l.text ++ scopes_lines l.decls (drop l.number l.scopes) (drop l.number l.entries)
    ≡ string_bytes l.initial.text ++ scopes_lines l.decls l.scopes l.entries
