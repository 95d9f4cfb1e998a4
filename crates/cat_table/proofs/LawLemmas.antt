-- The regions of a table part the valuations, and its lines say what decides.
use Rattle.std.proofs.Common.{◌≡◌, ◌∙◌, true, false, IsTrue, List, ◌++◌, ◌∷◌, [], Option, Some, None, Result, Ok}
use Rattle.std.proofs.Common.{Err, refl, sym, ap, subst, true≢false, codes}
use Rattle.cat_region.specs.Regions.{Constraints, Valuation, IsRegion, Admits}
use Rattle.cat_scope.specs.declared.stop.Stop.{Stop}
use Rattle.cat_scope.specs.Judging.{Held}
use Rattle.cat_scope.specs.Names.{AllHave}
use Rattle.cat_scope.proofs.Exported.{all_append, map_append}
use Rattle.cat_guard.specs.declared.table.Atom.{Atom}
use Rattle.cat_guard.specs.declared.table.Table.{Table}
use Rattle.cat_guard.specs.declared.table.TableTarget.{TableTarget}
use Rattle.cat_guard.specs.Judged.{judged_in}
use Rattle.cat_guard.specs.TableJudging.{decided}
use Rattle.cat_guard.specs.Trees.{Tree, answering}
use Rattle.cat_guard.specs.Trees as tree
use Rattle.cat_guard.specs.Valuations.{dims_of, holds_at}
use Rattle.cat_guard.specs.Verdicts.{Verdict, Holds, Empty, Conflict, Open, Stands}
use Rattle.cat_guard.proofs.Exported.{all_and, sound_dims}
use Rattle.cat_search.specs.declared.way.Answer.{Answer}
use Rattle.cat_search.specs.Parted.{IsInOne, ends}
use Rattle.cat_search.specs.Searched.{everything, is_known, IsSearched}
use Rattle.cat_search.proofs.Exported.{sides_are, same_dims}
use Rattle.cat_answer.specs.Answer.{position_text}
use Rattle.cat_table.specs.Conditions.{Naming}
use Rattle.cat_table.specs.Results.{verdict_text, decided_text, definition_text}
use Rattle.cat_table.specs.Rows.{Row, answered, rows_from}
use Rattle.cat_table.specs.Kept.{AreKept, SaysWhatDecides, regions_of}

-- ---- regions

regions_are : (atoms : List Atom) (way : List Answer) (region : Constraints) (t : Tree)
    → regions_of (rows_from atoms way region t) ≡ ends atoms region t
regions_are atoms way region tree.Leaf = refl
regions_are atoms way region tree.Rest = refl
regions_are atoms way region (tree.Split a l r) =
    let first = way ++ answered a true ∷ [] in
    let second = way ++ answered a false ∷ [] in
    let one = answering atoms region a true in
    let other = answering atoms region a false in
    map_append (λ (x : Row). x.region) (rows_from atoms first one l) (rows_from atoms second other r)
    ∙ ap (λ (front : List Constraints). front ++ regions_of (rows_from atoms second other r))
    (regions_are atoms first one l)
    ∙ ap (λ (rest : List Constraints). ends atoms one l ++ rest) (regions_are atoms second other r)

-- ---- what decides

stands_text : (ns : Naming) (t : TableTarget) (v : Verdict) (r : Result (Option (Held (Unit {0}))) Stop)
    → Stands t.target t.defs v r → IsTrue (is_known v) → verdict_text ns t v ≡ decided_text ns t r
stands_text ns t (Holds d) (Ok (Some h)) stands known =
    ap (definition_text ns) stands.1
    ∙ ap (λ p. codes "definition at " ++ position_text ns.files p) (sym (ap (λ (x : Held (Unit {0})). x.pos) stands.2))
stands_text ns t (Holds d) (Ok None) stands known = absurd stands
stands_text ns t (Holds d) (Err stop) stands known = absurd stands
stands_text ns t Empty (Ok None) stands known = refl
stands_text ns t Empty (Ok (Some h)) stands known = absurd stands
stands_text ns t Empty (Err stop) stands known = absurd stands
stands_text ns t Conflict (Err stop) stands known =
    sym (ap (λ (s : Stop). decided_text ns t (Err s)) stands.1)
stands_text ns t Conflict (Ok None) stands known = absurd stands
stands_text ns t Conflict (Ok (Some h)) stands known = absurd stands
stands_text ns t Open r stands known = absurd (true≢false (sym known))

module _ (table : Table) where
  abbrev StandsIn : TableTarget → Type 0
  StandsIn t = (region : Constraints) (v : Valuation) → IsRegion region → region.dims ≡ dims_of table.terms
      → Admits region v
      → Stands t.target t.defs (judged_in table.atoms region t) (decided t (holds_at table.atoms v)).end

  abbrev Parts : TableTarget → Type 0
  Parts t = (region : Constraints) (tree : Tree) (v : Valuation) → IsSearched table.atoms t region tree
      → Admits region v → IsInOne v (ends table.atoms region tree)

module _ (ns : Naming) (table : Table) where
  rows_say : (t : TableTarget) → StandsIn table t → (x : Tree) (way : List Answer) (region : Constraints)
      → IsRegion region → region.dims ≡ dims_of table.terms → IsSearched table.atoms t region x
      → AllHave (SaysWhatDecides ns table t) (rows_from table.atoms way region x)
  rows_say t stands tree.Leaf way region is dims searched = (
    λ shown v admits. stands_text ns t (judged_in table.atoms region t) (decided t (holds_at table.atoms v)).end
        (stands region v is dims admits) searched.1,
    tt,
  )
  rows_say t stands tree.Rest way region is dims searched = (λ shown v admits. absurd (true≢false (sym shown)), tt)
  rows_say t stands (tree.Split a l r) way region is dims searched =
      let first = way ++ answered a true ∷ [] in
      let second = way ++ answered a false ∷ [] in
      let one = answering table.atoms region a true in
      let other = answering table.atoms region a false in
      all_append (SaysWhatDecides ns table t) (rows_from table.atoms first one l) (rows_from table.atoms second other r)
      (rows_say t stands l first one (sides_are table.terms table.atoms table.targets table.sound region a true is dims)
      (same_dims table.terms table.atoms table.targets table.sound region a true dims) searched.1)
      (rows_say t stands r second other
      (sides_are table.terms table.atoms table.targets table.sound region a false is dims)
      (same_dims table.terms table.atoms table.targets table.sound region a false dims) searched.2)

  whole_is : IsRegion (everything table.terms)
  whole_is = record { dims = sound_dims table.terms table.atoms table.targets table.sound; narrowings = refl }

  keeps : (t : TableTarget) → Parts table t → StandsIn table t → (x : Tree)
      → IsSearched table.atoms t (everything table.terms) x
      → AreKept ns table t (rows_from table.atoms [] (everything table.terms) x)
  keeps t parts stands x searched = record {
    parted = λ v is. subst (IsInOne v) (sym (regions_are table.atoms [] (everything table.terms) x))
        (parts (everything table.terms) x v searched (record { valuation = is; agreeing = refl }));
    says = rows_say t stands x [] (everything table.terms) whole_is refl searched;
  }

pub keep_all : (table : Table) → AllHave (Parts table) table.targets → AllHave (StandsIn table) table.targets
    → AllHave (λ t. (ns : Naming) (x : Tree) → IsSearched table.atoms t (everything table.terms) x
    → AreKept ns table t (rows_from table.atoms [] (everything table.terms) x)) table.targets
keep_all table parts stands =
    all_and (Parts table) (StandsIn table) _ table.targets parts stands (λ t p s ns x. keeps ns table t p s x)
