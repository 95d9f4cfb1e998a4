use Rattle.std.proofs.Common.{◌≡◌, ◌<◌, ℕ, zero, suc, List, [], ◌∷◌, length, slice_get}
use Rattle.std.specs.Prelude.{IfSome}
use Rattle.cat_pos.specs.declared.limits.TheConstants.{ENTRIES_BOUND}
use Rattle.cat_scope.specs.declared.defs.Body.{Body}
use Rattle.cat_scope.specs.Names.{AllHave}
use Rattle.cat_app.proofs.Audits.{has_body}
use Rattle.cat_app.proofs.tabled.scope_table.Goals as goal

-- what all have, one has
at_number : {A : Type 0} (P : A → Type 0) (xs : List A) (n : ℕ) → AllHave P xs → IfSome (slice_get xs n) P
at_number P [] n all = tt
at_number P (x ∷ xs) zero all = all.0
at_number P (x ∷ xs) (suc n) all = at_number P xs n all.1

pub audit_table-requires-clause-scope : goal.audit_table-requires-clause-scope
audit_table-requires-clause-scope c =
    let program = c.args.built.now.program in
    has_body program.decls program.bodies program.scope_order c.args.scope c.programs_are_well_formed.ensures
    c.requires.scope

pub audit_table-requires-clause-few : goal.audit_table-requires-clause-few
audit_table-requires-clause-few c =
    let program = c.args.built.now.program in
    at_number (λ (body : Body). length body.defs < ENTRIES_BOUND) program.bodies c.args.scope
    (c.accepted_programs_are_counted.ensures.definitions c.args.source.now.pieces program c.requires.built.accepted)

pub audit_table-requires-clause-cases : goal.audit_table-requires-clause-cases
audit_table-requires-clause-cases c =
    c.accepted_programs_are_counted.ensures.cases c.args.source.now.pieces c.args.built.now.program
    c.requires.built.accepted
