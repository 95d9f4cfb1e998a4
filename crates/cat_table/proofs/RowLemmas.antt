-- The line of a leaf at the end of a way.
use Rattle.std.proofs.Common.{◌≡◌, ◌∙◌, ℕ, List, [], ◌∷◌, ◌++◌, Option, Some, None, reverse, slice_get, codes, refl}
use Rattle.std.proofs.Common.{sym, ap, Result, Ok, Err, IfOk}
use Rattle.std.proofs.lemmas.List.{reverse-reverse}
use Rattle.cat_region.specs.Regions.{Constraints}
use Rattle.cat_guard.specs.declared.table.Atom.{Atom}
use Rattle.cat_guard.specs.declared.table.Table.{Table}
use Rattle.cat_guard.specs.declared.table.TableTarget.{TableTarget}
use Rattle.cat_guard.specs.Judged.{judged_in}
use Rattle.cat_guard.specs.Trees.{with_answer}
use Rattle.cat_guard.specs.Verdicts.{Verdict}
use Rattle.cat_search.specs.declared.way.Answer.{Answer}
use Rattle.cat_search.specs.Searched.{everything}
use Rattle.cat_search.specs.Ways.{led_to}
use Rattle.cat_table.specs.Conditions.{Naming, way_text}
use Rattle.cat_table.specs.Results.{verdict_text}
use Rattle.cat_table.specs.Rows.{row_text}
use Rattle.cat_table.specs.inside.Nodes.{row_at}

-- of a result, what a fact leads to
pub if_ok : {A E : Type 0} {P Q : A → Type 0} (r : Result A E) → IfOk r P → ((a : A) → P a → Q a) → IfOk r Q
if_ok (Ok a) p step = step a p
if_ok (Err e) p step = tt

-- answers leave the dimensions as they are
pub led_dims : (atoms : List Atom) (base : Constraints) (way : List Answer) → (led_to atoms base way).dims ≡ base.dims
led_dims atoms base [] = refl
led_dims atoms base (n ∷ way) = by (slice_get atoms n.atom) ∙ led_dims atoms base way
  where
    by : (o : Option Atom) → (with_answer (led_to atoms base way) o n.yes).dims ≡ (led_to atoms base way).dims
    by None = refl
    by (Some atom) = refl

pub row_made : (ns : Naming) (table : Table) (t : TableTarget) (way answers : List Answer) (region : Constraints)
    (conditions verdict text : List ℕ) → way ≡ reverse answers
    → judged_in table.atoms region t ≡ judged_in table.atoms (led_to table.atoms (everything table.terms) way) t
    → conditions ≡ way_text ns table.terms table.atoms answers
    → verdict ≡ verdict_text ns t (judged_in table.atoms region t)
    → text ≡ conditions ++ (codes " : " ++ verdict) → text ≡ row_text ns table t (row_at table way)
row_made ns table t way answers region conditions verdict text way_is judged_so conditions_are verdict_is text_is =
    text_is
    ∙ ap (λ (c : List ℕ). c ++ (codes " : " ++ verdict)) conditions_are
    ∙ ap (λ (v : List ℕ). way_text ns table.terms table.atoms answers ++ (codes " : " ++ v)) verdict_is
    ∙ ap (λ (answered : List Answer). way_text ns table.terms table.atoms answered
    ++ (codes " : " ++ verdict_text ns t (judged_in table.atoms region t)))
    (sym (ap reverse way_is ∙ reverse-reverse answers))
    ∙ ap (λ (v : Verdict). way_text ns table.terms table.atoms (reverse way)
    ++ (codes " : " ++ verdict_text ns t v)) judged_so
