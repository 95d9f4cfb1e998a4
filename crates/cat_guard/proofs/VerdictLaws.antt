-- What is known of the judging of a target is so.
use Rattle.std.proofs.Common.{◌≡◌, ℕ, ◌≤◌, Bool, true, false, ◌||◌, IsTrue, List, [], ◌∷◌, map, length}
use Rattle.std.proofs.Common.{Option, Some, None, Result, Ok, Err, slice_get, refl, sym, subst, arith}
use Rattle.std.proofs.Common.{true≢false}
use Rattle.std.proofs.Common.{if◌then◌else◌}
use Rattle.cat_value.specs.declared.outcome.Target.{Target}
use Rattle.cat_scope.specs.declared.stop.Stop.{Stop}
use Rattle.cat_scope.specs.declared.stop.Stop.TheVariants as stops
use Rattle.cat_scope.specs.Names.{AllHave}
use Rattle.cat_scope.specs.Replies.{on_one}
use Rattle.cat_scope.specs.Judging.{Held, holding, alone, settle, or_else, in_source_order}
use Rattle.cat_scope.specs.Judging.{positions_in}
use Rattle.cat_guard.specs.declared.guard.GuardDef.{GuardDef}
use Rattle.cat_guard.specs.TableJudging.{Decided, by_truth}
use Rattle.cat_guard.specs.Formulas.{IsSo}
use Rattle.cat_guard.specs.Verdicts.{Verdict, some_conflict, some_open, holders, are_two, first_of, listed}
use Rattle.cat_guard.specs.Verdicts.{else_verdict}
use Rattle.cat_guard.specs.Verdicts.{verdict_by, IsHeldAt, IsConflictOf, Stands}
use Rattle.cat_guard.specs.Verdicts as v
use Rattle.cat_guard.proofs.Ends.{one_more, holding_end, settle_end, else_end, or_else_end}

abbrev Truth : Type 0
Truth = Unit {0}

abbrev End : Type 0
End = Result (Option (Held Truth)) Stop

abbrev Ends : Type 0
Ends = Result (List (Held Truth)) Stop

or_true : (b : Bool) → IsTrue (b || true)
or_true true = refl
or_true false = refl

module _ (target : Target) (defs : List GuardDef) where
  abbrev Fits : Verdict → End → Type 0
  Fits w end = Stands target defs w end

  -- verdicts stand for judgings, one for each
  abbrev pub AllStand : List Verdict → List Decided → Type 0
  AllStand [] [] = Unit {0}
  AllStand [] (r ∷ rs) = ⊥
  AllStand (w ∷ ws) [] = ⊥
  AllStand (w ∷ ws) (r ∷ rs) = Fits w r.end × AllStand ws rs

  -- these definitions hold, one for each
  abbrev AreHeld : List ℕ → List (Held Truth) → Type 0
  AreHeld [] [] = Unit {0}
  AreHeld [] (h ∷ hs) = ⊥
  AreHeld (d ∷ ds) [] = ⊥
  AreHeld (d ∷ ds) (h ∷ hs) = IsHeldAt defs d h × AreHeld ds hs

  record Counted (ws : List Verdict) (hs : List (Held Truth)) : Type 0 where
    calm : some_conflict ws ≡ false
    exact : some_open ws ≡ false → AreHeld (holders ws) hs
    few : length (holders ws) ≤ length hs

  abbrev Counts : List Verdict → Ends → Type 0
  Counts ws (Err stop) = IsTrue (some_conflict ws || some_open ws) × IsConflictOf target stop
  Counts ws (Ok hs) = Counted ws hs

  more : (w : Verdict) (ws : List Verdict) (o : End) (m : Ends) → Fits w o → Counts ws m
      → Counts (w ∷ ws) (one_more o m)
  more (v.Holds d) ws (Ok (Some h)) (Err stop) is c = c
  more (v.Holds d) ws (Ok (Some h)) (Ok hs) is c = record {
    calm = c.calm;
    exact = λ shut. (is, c.exact shut);
    few = let few = c.few in omega arith;
  }
  more (v.Holds d) ws (Ok None) m is c = elim is [ ]
  more (v.Holds d) ws (Err stop) m is c = elim is [ ]
  more v.Empty ws (Ok None) (Err stop) is c = c
  more v.Empty ws (Ok None) (Ok hs) is c = record { calm = c.calm; exact = c.exact; few = c.few }
  more v.Empty ws (Ok (Some h)) m is c = elim is [ ]
  more v.Empty ws (Err stop) m is c = elim is [ ]
  more v.Conflict ws (Err stop) m is c = (refl, is)
  more v.Conflict ws (Ok found) m is c = elim is [ ]
  more v.Open ws (Err stop) m is c = (or_true (some_conflict ws), is)
  more v.Open ws (Ok found) (Err stop) is c = (or_true (some_conflict ws), c.1)
  more v.Open ws (Ok None) (Ok hs) is c =
      record { calm = c.calm; exact = λ shut. absurd (true≢false shut); few = c.few }
  more v.Open ws (Ok (Some h)) (Ok hs) is c = record {
    calm = c.calm;
    exact = λ shut. absurd (true≢false shut);
    few = let few = c.few in omega arith;
  }

  counts : (ws : List Verdict) (rs : List Decided) → AllStand ws rs → Counts ws (holding rs).end
  counts [] [] all = record { calm = refl; exact = λ shut. tt; few = omega arith }
  counts [] (r ∷ rs) all = elim all [ ]
  counts (w ∷ ws) [] all = elim all [ ]
  counts (w ∷ ws) (r ∷ rs) all =
      subst (Counts (w ∷ ws)) (sym (holding_end r rs)) (more w ws r.end (holding rs).end all.0 (counts ws rs all.1))

  -- the verdict of a list, by what is counted of it
  abbrev chosen : Bool → Bool → List ℕ → Verdict
  chosen conflict left ds = if conflict || are_two ds then v.Conflict else if left then v.Open else first_of ds

  stopped : (c o : Bool) (ds : List ℕ) (stop : Stop) → IsTrue (c || o) → IsConflictOf target stop
      → Fits (chosen c o ds) (Err stop)
  stopped true o ds stop h is = is
  stopped false true [] stop h is = is
  stopped false true (d ∷ []) stop h is = is
  stopped false true (d ∷ e ∷ ds) stop h is = is
  stopped false false ds stop h is = absurd (true≢false (sym h))

  conflict_of : (h i : Held Truth) (hs : List (Held Truth))
      → IsConflictOf target (stops.Conflict target (positions_in (in_source_order (h ∷ i ∷ hs))))
  conflict_of h i hs = (positions_in (in_source_order (h ∷ i ∷ hs)), refl)

  came : (c o : Bool) (ds : List ℕ) (hs : List (Held Truth)) → c ≡ false → (o ≡ false → AreHeld ds hs)
      → length ds ≤ length hs → Fits (chosen c o ds) (alone target hs)
  came true o ds hs calm exact few = absurd (true≢false calm)
  came false true [] [] calm exact few = tt
  came false true [] (h ∷ []) calm exact few = tt
  came false true [] (h ∷ i ∷ hs) calm exact few = conflict_of h i hs
  came false true (d ∷ []) [] calm exact few = absurd (omega arith)
  came false true (d ∷ []) (h ∷ []) calm exact few = tt
  came false true (d ∷ []) (h ∷ i ∷ hs) calm exact few = conflict_of h i hs
  came false true (d ∷ e ∷ ds) [] calm exact few = absurd (omega arith)
  came false true (d ∷ e ∷ ds) (h ∷ []) calm exact few = absurd (omega arith)
  came false true (d ∷ e ∷ ds) (h ∷ i ∷ hs) calm exact few = conflict_of h i hs
  came false false [] [] calm exact few = tt
  came false false [] (h ∷ hs) calm exact few = elim (exact refl) [ ]
  came false false (d ∷ ds) [] calm exact few = elim (exact refl) [ ]
  came false false (d ∷ []) (h ∷ []) calm exact few = (exact refl).0
  came false false (d ∷ []) (h ∷ i ∷ hs) calm exact few = elim (exact refl).1 [ ]
  came false false (d ∷ e ∷ ds) (h ∷ []) calm exact few = elim (exact refl).1 [ ]
  came false false (d ∷ e ∷ ds) (h ∷ i ∷ hs) calm exact few = conflict_of h i hs

  pub settle_stands : (ws : List Verdict) (rs : List Decided) → AllStand ws rs → Fits (listed ws) (settle target rs).end
  settle_stands ws rs all =
      subst (Fits (listed ws)) (sym (settle_end target rs)) (by (holding rs).end (counts ws rs all))
    where
      by : (r : Ends) → Counts ws r → Fits (listed ws) (on_one r (alone target))
      by (Err stop) c = stopped (some_conflict ws) (some_open ws) (holders ws) stop c.0 c.1
      by (Ok hs) c = came (some_conflict ws) (some_open ws) (holders ws) hs c.calm c.exact c.few

  else_fits : (w x : Verdict) (r s : End) → Fits w r → Fits x s → Fits (else_verdict w x) (else_end r s)
  else_fits v.Empty x (Ok None) s h g = g
  else_fits v.Empty x (Ok (Some i)) s h g = elim h [ ]
  else_fits v.Empty x (Err stop) s h g = elim h [ ]
  else_fits (v.Holds d) x (Ok (Some i)) s h g = h
  else_fits (v.Holds d) x (Ok None) s h g = elim h [ ]
  else_fits (v.Holds d) x (Err stop) s h g = elim h [ ]
  else_fits v.Conflict x (Err stop) s h g = h
  else_fits v.Conflict x (Ok found) s h g = elim h [ ]
  else_fits v.Open x (Ok (Some i)) s h g = tt
  else_fits v.Open x (Err stop) s h g = h
  else_fits v.Open (v.Holds d) (Ok None) (Ok found) h g = tt
  else_fits v.Open (v.Holds d) (Ok None) (Err stop) h g = elim g [ ]
  else_fits v.Open v.Empty (Ok None) (Ok found) h g = tt
  else_fits v.Open v.Empty (Ok None) (Err stop) h g = elim g [ ]
  else_fits v.Open v.Conflict (Ok None) (Ok found) h g = elim g [ ]
  else_fits v.Open v.Conflict (Ok None) (Err stop) h g = g
  else_fits v.Open v.Open (Ok None) (Ok found) h g = tt
  else_fits v.Open v.Open (Ok None) (Err stop) h g = g

  pub or_else_stands : (w x : Verdict) (r s : Decided) → Fits w r.end → Fits x s.end
      → Fits (else_verdict w x) (or_else r s).end
  or_else_stands w x r s h g = subst (Fits (else_verdict w x)) (sym (or_else_end r s)) (else_fits w x r.end s.end h g)

  pub maps_stand : {B : Type 0} (f : B → Verdict) (g : B → Decided) (bs : List B)
      → AllHave (λ b. Fits (f b) (g b).end) bs → AllStand (map f bs) (map g bs)
  maps_stand f g [] each = tt
  maps_stand f g (b ∷ bs) each = (each.0, maps_stand f g bs each.1)

  pub truth_stands : (known : Option Bool) (holds : Bool) → IsSo known holds → (d : ℕ) (def : GuardDef)
      → slice_get defs d ≡ Some def → Fits (verdict_by known d) (by_truth holds def.number def.pos).end
  truth_stands None true so d def is = tt
  truth_stands None false so d def is = tt
  truth_stands (Some true) true so d def is = (def, is, refl)
  truth_stands (Some true) false so d def is = absurd (true≢false (sym (so true refl)))
  truth_stands (Some false) true so d def is = absurd (true≢false (so false refl))
  truth_stands (Some false) false so d def is = tt
