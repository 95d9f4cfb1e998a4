-- The modes by their names, and what each does.
use Rattle.std.specs.Prelude.{◌&&◌, not, ℕ, Bool, true, false, List, Option, Some, None, bytes_eq, codes}
use Rattle.std.specs.Prelude.{if◌then◌else◌}
use Rattle.cat_app.specs.declared.request.Mode.{Mode}
use Rattle.cat_app.specs.declared.request.Mode.TheVariants.{Run, Audit, Check, Emit, EmitRun, Trace, Many}
use Rattle.cat_app.specs.declared.request.Mode.TheVariants.{AllTables, OneTable, Dead, DeadCheck}

-- the mode that goes by a name: `run`, `check`, `trace`, `many`, `audit`, which takes no EXTRA, `emit`, which runs the
-- code where there is one, `table`, which shows the target that it names, and all where there is none, or `dead`, which
-- checks the certificate where there is one
abbrev pub mode_by : List ℕ → Bool → Option Mode
mode_by name has_extra =
    if bytes_eq name (codes "run") then Some Run else
    (if bytes_eq name (codes "check") then Some Check else
    (if bytes_eq name (codes "trace") then Some Trace else
    (if bytes_eq name (codes "many") then Some Many else
    (if bytes_eq name (codes "audit") && not has_extra then Some Audit else
    (if bytes_eq name (codes "emit") then Some (if has_extra then EmitRun else Emit) else
    (if bytes_eq name (codes "table") then Some (if has_extra then OneTable else AllTables) else
    (if bytes_eq name (codes "dead") then Some (if has_extra then DeadCheck else Dead) else None)))))))

-- whether a mode runs the scope on the input that EXTRA names
abbrev pub runs_scope : Mode → Bool
runs_scope Run = true
runs_scope Audit = false
runs_scope Check = false
runs_scope Emit = false
runs_scope EmitRun = true
runs_scope Trace = true
runs_scope Many = false
runs_scope AllTables = false
runs_scope OneTable = false
runs_scope Dead = false
runs_scope DeadCheck = false

-- whether a mode reads the file that EXTRA names
abbrev pub reads_extra : Mode → Bool
reads_extra Run = true
reads_extra Audit = false
reads_extra Check = true
reads_extra Emit = false
reads_extra EmitRun = true
reads_extra Trace = true
reads_extra Many = true
reads_extra AllTables = false
reads_extra OneTable = false
reads_extra Dead = false
reads_extra DeadCheck = true

-- whether a mode shows decision tables
abbrev pub shows_tables : Mode → Bool
shows_tables AllTables = true
shows_tables OneTable = true
shows_tables mode = false

-- the name of the target whose table is asked for, where it is that of one
abbrev pub wanted_by : Mode → List ℕ → Option (List ℕ)
wanted_by OneTable extra = Some extra
wanted_by mode extra = None

-- whether a mode asks which definitions never decide
abbrev pub asks_dead : Mode → Bool
asks_dead Dead = true
asks_dead DeadCheck = true
asks_dead mode = false
