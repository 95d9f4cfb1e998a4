-- Where each definition follows its truth value, so do lists, groups and targets.
use Rattle.std.proofs.Common.{◌≡◌, ◌⊎◌, inl, inr, Bool, true, false, IsTrue, List, [], ◌∷◌, map}
use Rattle.std.proofs.Common.{Option, Some, None, Result, Ok, Err, refl, sym, ap, ◌∙◌, subst, if◌then◌else◌}
use Rattle.std.specs.Prelude.{nat_lt}
use Rattle.cat_value.specs.declared.outcome.Target.{Target}
use Rattle.cat_scope.specs.declared.stop.Stop.{Stop}
use Rattle.cat_scope.specs.declared.stop.Stop.TheVariants.{Conflict}
use Rattle.cat_scope.specs.Names.{AllHave}
use Rattle.cat_scope.specs.Replies.{on_one}
use Rattle.cat_scope.specs.Judging.{Held, Judged, holding, put, in_source_order, positions_in, alone, settle}
use Rattle.cat_scope.specs.Judging.{or_else}
use Rattle.cat_guard.specs.TableJudging.{Decided, IsCovered}
use Rattle.cat_guard.proofs.Exported.{one_more, holding_end, settle_end, else_end, or_else_end}
use Rattle.cat_audit_sound.specs.Follows.{Follows}

abbrev Truth : Type 0
Truth = Unit {0}

module _ {A : Type 0} (Has : A → Type 0) (Inside : Stop → Type 0) where
  abbrev End : Type 0
  End = Result (Option (Held A)) Stop

  abbrev Ends : Type 0
  Ends = Result (List (Held A)) Stop

  abbrev TruthEnd : Type 0
  TruthEnd = Result (Option (Held Truth)) Stop

  abbrev TruthEnds : Type 0
  TruthEnds = Result (List (Held Truth)) Stop

  abbrev Goes : End → TruthEnd → Type 0
  Goes r s = Follows Has Inside r s

  -- two lists, element by element
  abbrev pub AllGo : List (Judged A) → List Decided → Type 0
  AllGo [] [] = Unit {0}
  AllGo [] (s ∷ ss) = ⊥
  AllGo (r ∷ rs) [] = ⊥
  AllGo (r ∷ rs) (s ∷ ss) = Goes r.end s.end × AllGo rs ss

  abbrev IsAs : Held A → Held Truth → Type 0
  IsAs h i = Has h.value × (h.number ≡ i.number) × (h.pos ≡ i.pos)

  abbrev AreAs : List (Held A) → List (Held Truth) → Type 0
  AreAs [] [] = Unit {0}
  AreAs [] (i ∷ is) = ⊥
  AreAs (h ∷ hs) [] = ⊥
  AreAs (h ∷ hs) (i ∷ is) = IsAs h i × AreAs hs is

  -- those that hold, or a stop
  abbrev ListsGo : Ends → TruthEnds → Type 0
  ListsGo (Err stop) s = Inside stop ⊎ (s ≡ Err stop)
  ListsGo (Ok hs) (Ok is) = AreAs hs is
  ListsGo (Ok hs) (Err stop) = ⊥

  more : (o : End) (p : TruthEnd) (r : Ends) (s : TruthEnds) → Goes o p → ListsGo r s
      → ListsGo (one_more o r) (one_more p s)
  more (Err stop) p r s (inl inside) go = inl inside
  more (Err stop) p r s (inr e) go = inr (ap (λ x. one_more x s) e)
  more (Ok None) (Ok None) (Err stop) s one (inl inside) = inl inside
  more (Ok None) (Ok None) (Err stop) s one (inr e) = inr (ap (λ x. one_more {A = Truth} (Ok None) x) e)
  more (Ok None) (Ok None) (Ok hs) (Ok is) one go = go
  more (Ok None) (Ok None) (Ok hs) (Err stop) one go = elim go [ ]
  more (Ok None) (Ok (Some i)) r s one go = elim one [ ]
  more (Ok None) (Err stop) r s one go = elim one [ ]
  more (Ok (Some h)) (Ok None) r s one go = elim one [ ]
  more (Ok (Some h)) (Ok (Some i)) (Err stop) s one (inl inside) = inl inside
  more (Ok (Some h)) (Ok (Some i)) (Err stop) s one (inr e) = inr (ap (λ x. one_more (Ok (Some i)) x) e)
  more (Ok (Some h)) (Ok (Some i)) (Ok hs) (Ok is) one go = (one, go)
  more (Ok (Some h)) (Ok (Some i)) (Ok hs) (Err stop) one go = elim go [ ]
  more (Ok (Some h)) (Err stop) r s one go = elim one [ ]

  holding_goes : (rs : List (Judged A)) (ss : List Decided) → AllGo rs ss → ListsGo (holding rs).end (holding ss).end
  holding_goes [] [] go = tt
  holding_goes [] (s ∷ ss) go = elim go [ ]
  holding_goes (r ∷ rs) [] go = elim go [ ]
  holding_goes (r ∷ rs) (s ∷ ss) go =
      subst (λ x. ListsGo x (holding (s ∷ ss)).end) (sym (holding_end r rs))
      (subst (ListsGo (one_more r.end (holding rs).end)) (sym (holding_end s ss))
      (more r.end s.end (holding rs).end (holding ss).end go.0 (holding_goes rs ss go.1)))

  -- positions in source order are the same
  put_as : (h : Held A) (i : Held Truth) (hs : List (Held A)) (is : List (Held Truth)) → IsAs h i → AreAs hs is
      → AreAs (put h hs) (put i is)
  put_as h i [] [] like are = (like, tt)
  put_as h i [] (j ∷ is) like are = elim are [ ]
  put_as h i (k ∷ hs) [] like are = elim are [ ]
  put_as h i (k ∷ hs) (j ∷ is) like are =
      by (nat_lt h.number k.number) (nat_lt i.number j.number)
      (ap (λ n. nat_lt n k.number) like.1 ∙ ap (nat_lt i.number) are.0.1) (put_as h i hs is like are.1)
    where
      by : (a b : Bool) → a ≡ b → AreAs (put h hs) (put i is)
          → AreAs (if a then h ∷ k ∷ hs else k ∷ put h hs) (if b then i ∷ j ∷ is else j ∷ put i is)
      by true true e rest = (like, are)
      by false false e rest = (are.0, rest)
      by true false e rest = absurd (cc)
      by false true e rest = absurd (cc)

  order_as : (hs : List (Held A)) (is : List (Held Truth)) → AreAs hs is
      → AreAs (in_source_order hs) (in_source_order is)
  order_as [] [] are = tt
  order_as [] (i ∷ is) are = elim are [ ]
  order_as (h ∷ hs) [] are = elim are [ ]
  order_as (h ∷ hs) (i ∷ is) are =
      put_as h i (in_source_order hs) (in_source_order is) are.0 (order_as hs is are.1)

  positions_as : (hs : List (Held A)) (is : List (Held Truth)) → AreAs hs is → positions_in hs ≡ positions_in is
  positions_as [] [] are = refl
  positions_as [] (i ∷ is) are = elim are [ ]
  positions_as (h ∷ hs) [] are = elim are [ ]
  positions_as (h ∷ hs) (i ∷ is) are =
      ap (λ p. p ∷ positions_in hs) are.0.2 ∙ ap (λ ps. i.pos ∷ ps) (positions_as hs is are.1)

  alone_goes : (target : Target) (hs : List (Held A)) (is : List (Held Truth)) → AreAs hs is
      → Goes (alone target hs) (alone target is)
  alone_goes target [] [] are = tt
  alone_goes target [] (i ∷ is) are = elim are [ ]
  alone_goes target (h ∷ hs) [] are = elim are [ ]
  alone_goes target (h ∷ []) (i ∷ []) are = are.0
  alone_goes target (h ∷ []) (i ∷ j ∷ is) are = elim are.1 [ ]
  alone_goes target (h ∷ k ∷ hs) (i ∷ []) are = elim are.1 [ ]
  alone_goes target (h ∷ k ∷ hs) (i ∷ j ∷ is) are =
      inr (ap (λ ps. Err (Conflict target ps))
      (sym (positions_as (in_source_order (h ∷ k ∷ hs)) (in_source_order (i ∷ j ∷ is))
      (order_as (h ∷ k ∷ hs) (i ∷ j ∷ is) are))))

  pub settle_goes : (target : Target) (rs : List (Judged A)) (ss : List Decided) → AllGo rs ss
      → Goes (settle target rs).end (settle target ss).end
  settle_goes target rs ss go =
      subst (λ x. Goes x (settle target ss).end) (sym (settle_end target rs))
      (subst (Goes (on_one (holding rs).end (alone target))) (sym (settle_end target ss))
      (by (holding rs).end (holding ss).end (holding_goes rs ss go)))
    where
      by : (r : Ends) (s : TruthEnds) → ListsGo r s → Goes (on_one r (alone target)) (on_one s (alone target))
      by (Err stop) s (inl inside) = inl inside
      by (Err stop) s (inr e) = inr (ap (λ x. on_one x (alone target)) e)
      by (Ok hs) (Ok is) are = alone_goes target hs is are
      by (Ok hs) (Err stop) are = elim are [ ]

  pub or_else_goes : (r other : Judged A) (s also : Decided) → Goes r.end s.end → Goes other.end also.end
      → Goes (or_else r other).end (or_else s also).end
  or_else_goes r other s also h g =
      subst (λ x. Goes x (or_else s also).end) (sym (or_else_end r other))
      (subst (Goes (else_end r.end other.end)) (sym (or_else_end s also)) (by r.end s.end h))
    where
      by : (x : End) (y : TruthEnd) → Goes x y → Goes (else_end x other.end) (else_end y also.end)
      by (Err stop) y (inl inside) = inl inside
      by (Err stop) y (inr e) = inr (ap (λ z. else_end z also.end) e)
      by (Ok None) (Ok None) h = g
      by (Ok None) (Ok (Some i)) h = elim h [ ]
      by (Ok None) (Err stop) h = elim h [ ]
      by (Ok (Some k)) (Ok None) h = elim h [ ]
      by (Ok (Some k)) (Ok (Some i)) h = h
      by (Ok (Some k)) (Err stop) h = elim h [ ]

  pub maps_go : {B C : Type 0} (f : B → Judged A) (name : B → C) (g : C → Decided) (bs : List B)
      → AllHave (λ b. Goes (f b).end (g (name b)).end) bs → AllGo (map f bs) (map g (map name bs))
  maps_go f name g [] each = tt
  maps_go f name g (b ∷ bs) each = (each.0, maps_go f name g bs each.1)

-- where truth values cover a target, its judging stops inside alone
pub covered_follows : {A : Type 0} (Has : A → Type 0) (Inside : Stop → Type 0) (empty : Bool)
    (r : Result (Option (Held A)) Stop) (s : Result (Option (Held (Unit {0}))) Stop) → Follows Has Inside r s
    → IsCovered empty s → (Comes : Result (Option (Held A)) Stop → Type 0)
    → ((stop : Stop) → Inside stop → Comes (Err stop)) → (IsTrue empty → Comes (Ok None))
    → ((h : Held A) → Has h.value → Comes (Ok (Some h))) → Comes r
covered_follows Has Inside empty (Err stop) s (inl inside) is Comes e n h = e stop inside
covered_follows Has Inside empty (Err stop) s (inr same) is Comes e n h =
    elim (subst (λ x. IsCovered empty x) same is) [ ]
covered_follows Has Inside empty (Ok None) (Ok None) go is Comes e n h = n is
covered_follows Has Inside empty (Ok None) (Ok (Some i)) go is Comes e n h = elim go [ ]
covered_follows Has Inside empty (Ok None) (Err stop) go is Comes e n h = elim go [ ]
covered_follows Has Inside empty (Ok (Some k)) (Ok None) go is Comes e n h = elim go [ ]
covered_follows Has Inside empty (Ok (Some k)) (Ok (Some i)) go is Comes e n h = h k go.0
covered_follows Has Inside empty (Ok (Some k)) (Err stop) go is Comes e n h = elim go [ ]
