-- How it is written what decides a target.
use Rattle.std.specs.Prelude.{ℕ, Bool, false, not, List, [], ◌++◌, Option, Some, None, Result, Ok, Err, slice_get}
use Rattle.std.specs.Prelude.{codes, if◌then◌else◌}
use Rattle.cat_value.specs.declared.decls.Decls.{Decls}
use Rattle.cat_value.specs.declared.declaration.ItemDecl.{ItemDecl}
use Rattle.cat_value.specs.Inputs.{must_be_given}
use Rattle.cat_scope.specs.declared.stop.Stop.{Stop}
use Rattle.cat_scope.specs.declared.stop.Stop.TheVariants as stops
use Rattle.cat_scope.specs.Judging.{Held}
use Rattle.cat_guard.specs.declared.guard.GuardDef.{GuardDef}
use Rattle.cat_guard.specs.declared.table.TableTarget.{TableTarget}
use Rattle.cat_guard.specs.Tables.{inner_item}
use Rattle.cat_guard.specs.Verdicts.{Verdict, Holds, Empty, Conflict, Open}
use Rattle.cat_answer.specs.Answer.{position_text}
use Rattle.cat_table.specs.Conditions.{Naming}

-- an item of a called scope that it may be given and need not
abbrev pub is_context : Option ItemDecl → Bool
is_context None = false
is_context (Some decl) = not (must_be_given decl.kind)

-- a target that is a context of the scope that an item calls
abbrev pub is_called_context : Decls → Option ItemDecl → Option ℕ → Bool
is_called_context ds decl None = false
is_called_context ds decl (Some n) = is_context (inner_item ds decl n)

-- where no definition holds: a called scope's context isn't given, a condition is false, and another target has no
-- value
abbrev pub absent_text : Naming → TableTarget → List ℕ
absent_text ns t =
    if is_called_context ns.decls (slice_get ns.items t.target.item) t.target.inner then codes "not given" else
    (if t.may_be_empty then codes "false" else codes "no value")

-- a definition, by its position
abbrev pub definition_text : Naming → Option GuardDef → List ℕ
definition_text ns None = []
definition_text ns (Some d) = codes "definition at " ++ position_text ns.files d.pos

-- how a target is judged
abbrev pub verdict_text : Naming → TableTarget → Verdict → List ℕ
verdict_text ns t (Holds d) = definition_text ns (slice_get t.defs d)
verdict_text ns t Empty = absent_text ns t
verdict_text ns t Conflict = codes "conflict"
verdict_text ns t Open = []

-- what judging a target by truth values comes to: the definition that holds, none, or a conflict
abbrev pub decided_text : Naming → TableTarget → Result (Option (Held (Unit {0}))) Stop → List ℕ
decided_text ns t (Ok (Some h)) = codes "definition at " ++ position_text ns.files h.pos
decided_text ns t (Ok None) = absent_text ns t
decided_text ns t (Err (stops.Conflict target positions)) = codes "conflict"
decided_text ns t (Err stop) = []
