-- What a term comes to: a value of a definition that holds, nothing, or a stop.
use Rattle.std.specs.Prelude.{ℕ, List, Option, Some, None, slice_get}
use Rattle.cat_value.specs.declared.value.Value.{Value}
use Rattle.cat_value.specs.declared.outcome.Target.{Target}
use Rattle.cat_scope.specs.declared.expr.Expr.{Expr}
use Rattle.cat_scope.specs.Runs.{Run, gives, and_then, choose}
use Rattle.cat_scope.specs.Judging.{Judged, settle, or_else}
use Rattle.cat_calc.specs.declared.term.Justification.{Justification}
use Rattle.cat_calc.specs.declared.term.Justification.TheVariants as justification
use Rattle.cat_calc.specs.declared.term.DefaultTerm.{DefaultTerm}
use Rattle.cat_calc.specs.declared.term.DefaultTerm.TheOpen.{DefaultTerm-F}
use Rattle.cat_calc.specs.declared.term.DefaultTerm.TheFolds.{fold-DefaultTerm}
use Rattle.cat_calc.specs.declared.calcs.ItemTerms.{ItemTerms}

-- what stands under a justification, where that is true
abbrev pub justified : (Expr → Run Value) → Justification → Judged Value → Judged Value
justified value justification.Never consequence = gives None
justified value justification.Always consequence = consequence
justified value (justification.Where e) consequence = and_then (value e) (λ t. choose t consequence (gives None))

-- a default: its exceptions are reduced from left to right, and the first stop ends it. Two that hold are a Conflict,
-- and one is the result; where none holds the consequence is reduced, if the justification is true
abbrev pub reduced_by : (Expr → Run Value) → Target → DefaultTerm-F (Judged Value) → Judged Value
reduced_by value target DefaultTerm-F.Empty = gives None
reduced_by value target (DefaultTerm-F.Consequence number p e) =
    and_then (value e) (λ v. gives (Some (record { number = number; pos = p; value = v })))
reduced_by value target (DefaultTerm-F.Default exceptions justification consequence) =
    or_else (settle target exceptions) (justified value justification consequence)

-- a term of a target
unfoldable pub reduced : (Expr → Run Value) → Target → DefaultTerm → Judged Value
reduced value target = fold-DefaultTerm (Judged Value) (reduced_by value target)

-- the term of an item, or of an inner item of a called scope
abbrev pub term_among : Option ItemTerms → Option ℕ → Option DefaultTerm
term_among None inner = None
term_among (Some terms) None = Some terms.own
term_among (Some terms) (Some n) = slice_get terms.inner n

-- the term of a target
abbrev pub term_of : List ItemTerms → Target → Option DefaultTerm
term_of terms target = term_among (slice_get terms target.item) target.inner

-- nothing holds where there is no term
abbrev pub reduced_or : (Expr → Run Value) → Target → Option DefaultTerm → Judged Value
reduced_or value target None = gives None
reduced_or value target (Some term) = reduced value target term

-- a target is judged by its term
abbrev pub judged_by : List ItemTerms → (Expr → Run Value) → Target → Judged Value
judged_by terms value target = reduced_or value target (term_of terms target)
