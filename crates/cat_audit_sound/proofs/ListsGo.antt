-- Where a judging comes to something, so does the judging by truth values: of definitions, lists and groups.
use Rattle.std.proofs.Common.{◌≡◌, Bool, true, false, List, [], ◌∷◌, map, Option, Some, None, Result, Ok, Err}
use Rattle.std.proofs.Common.{refl, sym, subst}
use Rattle.cat_value.specs.declared.outcome.Target.{Target}
use Rattle.cat_value.specs.declared.value.Value.{Value}
use Rattle.cat_scope.specs.declared.stop.Stop.{Stop}
use Rattle.cat_scope.specs.declared.expr.Expr.{Expr}
use Rattle.cat_scope.specs.Names.{AllHave}
use Rattle.cat_scope.specs.Replies.{Reply, on_one}
use Rattle.cat_scope.specs.Runs.{Run, gives, and_then, either, choose}
use Rattle.cat_scope.specs.Projections as read
use Rattle.cat_scope.specs.Groups.{Numbered}
use Rattle.cat_scope.specs.Judging.{Held, Judged, holding, alone, settle, or_else}
use Rattle.cat_scope.specs.Targets.{condition_of, held_as, judge_def}
use Rattle.cat_guard.specs.TableJudging.{Decided, IsCovered, by_truth}
use Rattle.cat_guard.proofs.Exported.{then_end, one_more, holding_end, settle_end, else_end, or_else_end}
use Rattle.cat_audit_sound.specs.Evaluations.{says, told}

abbrev End : Type 0
End = Result (Option (Held Value)) Stop

abbrev Ends : Type 0
Ends = Result (List (Held Value)) Stop

abbrev TruthEnd : Type 0
TruthEnd = Result (Option (Held (Unit {0}))) Stop

abbrev TruthEnds : Type 0
TruthEnds = Result (List (Held (Unit {0}))) Stop

-- a judging stops, or it and one by truth values are both Held or both Empty
abbrev pub Goes : End → TruthEnd → Type 0
Goes (Err stop) s = Unit {0}
Goes (Ok None) (Ok None) = Unit {0}
Goes (Ok None) (Ok (Some i)) = ⊥
Goes (Ok None) (Err stop) = ⊥
Goes (Ok (Some h)) (Ok (Some i)) = Unit {0}
Goes (Ok (Some h)) (Ok None) = ⊥
Goes (Ok (Some h)) (Err stop) = ⊥

-- what covers a target by values covers it by truth values
pub covered_goes : (empty : Bool) (r : End) (s : TruthEnd) → Goes r s → IsCovered empty r → IsCovered empty s
covered_goes empty (Err stop) s go is = elim is [ ]
covered_goes empty (Ok None) (Ok None) go is = is
covered_goes empty (Ok None) (Ok (Some i)) go is = elim go [ ]
covered_goes empty (Ok None) (Err stop) go is = elim go [ ]
covered_goes empty (Ok (Some h)) (Ok None) go is = elim go [ ]
covered_goes empty (Ok (Some h)) (Ok (Some i)) go is = tt
covered_goes empty (Ok (Some h)) (Err stop) go is = elim go [ ]

-- ---- a definition

abbrev one_end : Result Bool Stop → End → End → End
one_end (Ok true) one other = one
one_end (Ok false) one other = other
one_end (Err stop) one other = Err stop

either_end : (t : Result Bool Stop) (one other : Judged Value) → (either t one other).end ≡ one_end t one.end other.end
either_end (Ok true) one other = refl
either_end (Ok false) one other = refl
either_end (Err stop) one other = refl

module _ (of : Expr → Run Value) (d : Numbered) where
  abbrev held : Judged Value
  held = and_then (of d.1.consequence) (λ v. gives (Some (held_as d v)))

  held_goes : (r : Reply)
      → Goes (on_one r (λ v. Ok (Some (held_as d v)))) (Ok (Some (record { number = d.0; pos = d.1.pos; value = tt })))
  held_goes (Ok v) = tt
  held_goes (Err stop) = tt

  chosen_goes : (b : Bool) (t : Result Bool Stop) → ((c : Bool) → told t ≡ Some c → b ≡ c)
      → Goes (one_end t held.end (Ok None)) (by_truth b d.0 d.1.pos).end
  chosen_goes b (Err stop) tells = tt
  chosen_goes b (Ok true) tells =
      subst (λ x. Goes held.end (by_truth x d.0 d.1.pos).end) (sym (tells true refl))
      (subst (λ x. Goes x (Ok (Some (record { number = d.0; pos = d.1.pos; value = tt }))))
      (sym (then_end (of d.1.consequence) (λ v. gives (Some (held_as d v))))) (held_goes (of d.1.consequence).end))
  chosen_goes b (Ok false) tells =
      subst (λ x. Goes (Ok None) (by_truth x d.0 d.1.pos).end) (sym (tells false refl)) tt

  -- a definition whose condition tells a truth value, where it tells one
  pub def_goes : (b : Bool) → ((c : Bool) → says (condition_of of d.1.condition).end ≡ Some c → b ≡ c)
      → Goes (judge_def of d).end (by_truth b d.0 d.1.pos).end
  def_goes b tells =
      subst (λ x. Goes x (by_truth b d.0 d.1.pos).end)
      (sym (then_end (condition_of of d.1.condition) (λ t. choose t held (gives None))))
      (by (condition_of of d.1.condition).end tells)
    where
      by : (r : Reply) → ((c : Bool) → says r ≡ Some c → b ≡ c)
          → Goes (on_one r (λ t. (choose t held (gives None)).end)) (by_truth b d.0 d.1.pos).end
      by (Err stop) tells = tt
      by (Ok v) tells =
          subst (λ x. Goes x (by_truth b d.0 d.1.pos).end)
          (sym (either_end (read.truth v) held (gives None))) (chosen_goes b (read.truth v) tells)

-- ---- lists

-- two lists, element by element
abbrev pub AllGo : List (Judged Value) → List Decided → Type 0
AllGo [] [] = Unit {0}
AllGo [] (s ∷ ss) = ⊥
AllGo (r ∷ rs) [] = ⊥
AllGo (r ∷ rs) (s ∷ ss) = Goes r.end s.end × AllGo rs ss

-- as many
abbrev AreAs : List (Held Value) → List (Held (Unit {0})) → Type 0
AreAs [] [] = Unit {0}
AreAs [] (i ∷ is) = ⊥
AreAs (h ∷ hs) [] = ⊥
AreAs (h ∷ hs) (i ∷ is) = AreAs hs is

abbrev ListsGo : Ends → TruthEnds → Type 0
ListsGo (Err stop) s = Unit {0}
ListsGo (Ok hs) (Ok is) = AreAs hs is
ListsGo (Ok hs) (Err stop) = ⊥

more : (o : End) (p : TruthEnd) (r : Ends) (s : TruthEnds) → Goes o p → ListsGo r s
    → ListsGo (one_more o r) (one_more p s)
more (Err stop) p r s one go = tt
more (Ok None) (Ok None) (Err stop) s one go = tt
more (Ok None) (Ok None) (Ok hs) (Ok is) one go = go
more (Ok None) (Ok None) (Ok hs) (Err stop) one go = elim go [ ]
more (Ok None) (Ok (Some i)) r s one go = elim one [ ]
more (Ok None) (Err stop) r s one go = elim one [ ]
more (Ok (Some h)) (Ok None) r s one go = elim one [ ]
more (Ok (Some h)) (Ok (Some i)) (Err stop) s one go = tt
more (Ok (Some h)) (Ok (Some i)) (Ok hs) (Ok is) one go = go
more (Ok (Some h)) (Ok (Some i)) (Ok hs) (Err stop) one go = elim go [ ]
more (Ok (Some h)) (Err stop) r s one go = elim one [ ]

holding_goes : (rs : List (Judged Value)) (ss : List Decided) → AllGo rs ss → ListsGo (holding rs).end (holding ss).end
holding_goes [] [] go = tt
holding_goes [] (s ∷ ss) go = elim go [ ]
holding_goes (r ∷ rs) [] go = elim go [ ]
holding_goes (r ∷ rs) (s ∷ ss) go =
    subst (λ x. ListsGo x (holding (s ∷ ss)).end) (sym (holding_end r rs))
    (subst (ListsGo (one_more r.end (holding rs).end)) (sym (holding_end s ss))
    (more r.end s.end (holding rs).end (holding ss).end go.0 (holding_goes rs ss go.1)))

alone_goes : (target : Target) (hs : List (Held Value)) (is : List (Held (Unit {0}))) → AreAs hs is
    → Goes (alone target hs) (alone target is)
alone_goes target [] [] are = tt
alone_goes target [] (i ∷ is) are = elim are [ ]
alone_goes target (h ∷ []) [] are = elim are [ ]
alone_goes target (h ∷ []) (i ∷ []) are = tt
alone_goes target (h ∷ []) (i ∷ j ∷ is) are = elim are [ ]
alone_goes target (h ∷ k ∷ hs) is are = tt

pub settle_goes : (target : Target) (rs : List (Judged Value)) (ss : List Decided) → AllGo rs ss
    → Goes (settle target rs).end (settle target ss).end
settle_goes target rs ss go =
    subst (λ x. Goes x (settle target ss).end) (sym (settle_end target rs))
    (subst (Goes (on_one (holding rs).end (alone target))) (sym (settle_end target ss))
    (by (holding rs).end (holding ss).end (holding_goes rs ss go)))
  where
    by : (r : Ends) (s : TruthEnds) → ListsGo r s → Goes (on_one r (alone target)) (on_one s (alone target))
    by (Err stop) s go = tt
    by (Ok hs) (Ok is) are = alone_goes target hs is are
    by (Ok hs) (Err stop) are = elim are [ ]

pub or_else_goes : (r other : Judged Value) (s also : Decided) → Goes r.end s.end → Goes other.end also.end
    → Goes (or_else r other).end (or_else s also).end
or_else_goes r other s also h g =
    subst (λ x. Goes x (or_else s also).end) (sym (or_else_end r other))
    (subst (Goes (else_end r.end other.end)) (sym (or_else_end s also)) (by r.end s.end h))
  where
    by : (x : End) (y : TruthEnd) → Goes x y → Goes (else_end x other.end) (else_end y also.end)
    by (Err stop) y h = tt
    by (Ok None) (Ok None) h = g
    by (Ok None) (Ok (Some i)) h = elim h [ ]
    by (Ok None) (Err stop) h = elim h [ ]
    by (Ok (Some k)) (Ok None) h = elim h [ ]
    by (Ok (Some k)) (Ok (Some i)) h = tt
    by (Ok (Some k)) (Err stop) h = elim h [ ]

pub maps_go : {B C : Type 0} (f : B → Judged Value) (name : B → C) (g : C → Decided) (bs : List B)
    → AllHave (λ b. Goes (f b).end (g (name b)).end) bs → AllGo (map f bs) (map g (map name bs))
maps_go f name g [] each = tt
maps_go f name g (b ∷ bs) each = (each.0, maps_go f name g bs each.1)
