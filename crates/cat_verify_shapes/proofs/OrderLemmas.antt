-- The places of owners, callers first, are in an order in which each stands in front of those to which it leads.
use Rattle.std.proofs.Common.{◌≡◌, ◌⊎◌, ◌<◌, inl, inr, ℕ, zero, suc, All, List, [], ◌∷◌, ◌++◌, length}
use Rattle.std.proofs.Common.{refl, sym}
use Rattle.std.proofs.Common.{subst, arith}
use Rattle.cat_scope.specs.Names.{AllHave, IsOneOf}
use Rattle.cat_code.specs.declared.instr.Instr.{Instr}
use Rattle.cat_code.specs.declared.code.Tables.{Tables}
use Rattle.cat_code.specs.Shapes as shapes
use Rattle.cat_verify_shapes.specs.Belonging.{Begins, Belongs, Calls, MayRun, MayComeTo, begins, follows, called}
use Rattle.cat_verify_shapes.specs.Owned.{owner_of, IsRising, HasPlaces, IsAmong, AreCallersFirst, AreOwners}
use Rattle.cat_verify_shapes.specs.declared.owner.OwnerPlaces.{OwnerPlaces}
use Rattle.cat_verify_shapes.specs.inside.States.{AreInOrder, all_places}
use Rattle.cat_verify_shapes.proofs.PlaceLemmas.{called_there}

-- ---- members of lists

front_of : (n : ℕ) (ns ms : List ℕ) → IsOneOf n ns → IsOneOf n (ns ++ ms)
front_of n [] ms h = absurd h
front_of n (m ∷ ns) ms (inl e) = inl e
front_of n (m ∷ ns) ms (inr h) = inr (front_of n ns ms h)

back_of : (n : ℕ) (ns ms : List ℕ) → IsOneOf n ms → IsOneOf n (ns ++ ms)
back_of n [] ms h = h
back_of n (m ∷ ns) ms h = inr (back_of n ns ms h)

part_of : (n : ℕ) (ns ms : List ℕ) → IsOneOf n (ns ++ ms) → IsOneOf n ns ⊎ IsOneOf n ms
part_of n [] ms h = inr h
part_of n (m ∷ ns) ms (inl e) = inl (inl e)
part_of n (m ∷ ns) ms (inr h) = next (part_of n ns ms h)
  where
    next : IsOneOf n ns ⊎ IsOneOf n ms → IsOneOf n (m ∷ ns) ⊎ IsOneOf n ms
    next (inl a) = inl (inr a)
    next (inr b) = inr b

has_of : {A : Type 0} (Has : A → Type 0) (x : A) (xs : List A) → AllHave Has xs → IsOneOf x xs → Has x
has_of Has x [] all h = absurd h
has_of Has x (y ∷ xs) all (inl e) = subst Has (sym e) all.0
has_of Has x (y ∷ xs) all (inr h) = has_of Has x xs all.1 h

module _ (tables : Tables) (code : List Instr) where
  -- a run may come to what is called where it may come
  pub called_runs : (caller other : shapes.Owner) (p q : ℕ) → MayRun tables code caller
      → Calls tables code p caller other → Begins tables other q → MayRun tables code other
  called_runs caller other p q runs call begin =
      called call.instruction runs call.belongs call.instruction_is
      (called_there tables call.instruction caller other q call.calls begin)

  -- all places of an owner of a list to which a run may come are among its places
  abbrev pub HavePlaces : List OwnerPlaces → Type 0
  HavePlaces owners = AllHave (λ one. HasPlaces tables code (owner_of one.owner) one.places) owners

  pub among_places : (owners : List OwnerPlaces) → HavePlaces owners → (owner : shapes.Owner) → IsAmong owner owners
      → (q : ℕ) → q < length code → MayComeTo tables code owner q → IsOneOf q (all_places owners)
  among_places [] have owner h q less of = absurd h
  among_places (one ∷ owners) have owner (inl e) q less of =
      front_of q one.places (all_places owners)
      (have.0.all q less (subst (λ (o : shapes.Owner). MayComeTo tables code o q) e of))
  among_places (one ∷ owners) have owner (inr h) q less of =
      back_of q one.places (all_places owners) (among_places owners have.1 owner h q less of)

  -- each place belongs to one of them
  owner_at : (owners : List OwnerPlaces) → HavePlaces owners → (q : ℕ) → IsOneOf q (all_places owners)
      → (owner : shapes.Owner) × IsAmong owner owners × MayComeTo tables code owner q
  owner_at [] have q h = absurd h
  owner_at (one ∷ owners) have q h = by_part (part_of q one.places (all_places owners) h) (owner_at owners have.1 q)
    where
      by_part : IsOneOf q one.places ⊎ IsOneOf q (all_places owners)
          → (IsOneOf q (all_places owners) → (owner : shapes.Owner) × IsAmong owner owners × MayComeTo tables code
          owner q)
          → (owner : shapes.Owner) × IsAmong owner (one ∷ owners) × MayComeTo tables code owner q
      by_part (inl here) rest = (
        owner_of one.owner,
        inl refl,
        has_of (MayComeTo tables code (owner_of one.owner)) q one.places have.0.come here,
      )
      by_part (inr there) rest = let at = rest there in (at.0, inr at.1, at.2)

  abbrev AreApart : Type 0
  AreApart = (p : ℕ) (one other : shapes.Owner) → MayComeTo tables code one p → MayComeTo tables code other p
      → one ≡ other

  -- what belongs to an owner is left, or stands in front of all that is left of it
  abbrev IsLeftOf : shapes.Owner → List ℕ → Type 0
  IsLeftOf owner ps = (q : ℕ) → q < length code → MayComeTo tables code owner q
      → IsOneOf q ps ⊎ AllHave (λ m. q < m) ps

  left_next : (owner : shapes.Owner) (p : ℕ) (ps : List ℕ) → AllHave (λ m. p < m) ps → IsLeftOf owner (p ∷ ps)
      → IsLeftOf owner ps
  left_next owner p ps above left q less of = by_case (left q less of)
    where
      by_case : IsOneOf q (p ∷ ps) ⊎ AllHave (λ m. q < m) (p ∷ ps) → IsOneOf q ps ⊎ AllHave (λ m. q < m) ps
      by_case (inl (inl e)) = inr (subst (λ (n : ℕ). AllHave (λ m. n < m) ps) (sym e) above)
      by_case (inl (inr h)) = inl h
      by_case (inr front) = inr front.1

  module _ (apart : AreApart) (owner : shapes.Owner) (more : List OwnerPlaces) (have : HavePlaces more)
      (alone : IsAmong owner more → ⊥)
      (calls : (p : ℕ) (other : shapes.Owner) → MayRun tables code owner → Calls tables code p owner other
      → IsAmong other more)
      (behind : AreInOrder tables code (all_places more)) where
    in_order_of : (ps : List ℕ) → IsRising ps → AllHave (MayComeTo tables code owner) ps → IsLeftOf owner ps
        → AreInOrder tables code (ps ++ all_places more)
    in_order_of [] rising come left = behind
    in_order_of (p ∷ ps) rising come left = (
      once,
      own,
      entered,
      in_order_of ps rising.1 come.1 (left_next owner p ps rising.0 left),
    )
      where
        below : p < p → ⊥
        below h = absurd (omega (arith, h))

        once : IsOneOf p (ps ++ all_places more) → ⊥
        once h = by_part (part_of p ps (all_places more) h)
          where
            by_part : IsOneOf p ps ⊎ IsOneOf p (all_places more) → ⊥
            by_part (inl here) = below (has_of (λ m. p < m) p ps rising.0 here)
            by_part (inr there) =
                let at = owner_at more have p there in
                alone (subst (λ (o : shapes.Owner). IsAmong o more) (apart p at.0 owner at.2 come.0) at.1)

        own : (other : shapes.Owner) (q : ℕ) → MayComeTo tables code other p → MayComeTo tables code other q → p < q
            → q < length code → IsOneOf q (ps ++ all_places more)
        own other q of to above less =
            by_case (left q less
            (subst (λ (o : shapes.Owner). MayComeTo tables code o q) (apart p other owner of come.0) to))
          where
            by_case : IsOneOf q (p ∷ ps) ⊎ AllHave (λ m. q < m) (p ∷ ps) → IsOneOf q (ps ++ all_places more)
            by_case (inl (inl e)) = absurd (omega (arith, above, e))
            by_case (inl (inr h)) = front_of q ps (all_places more) h
            by_case (inr front) = absurd (omega (arith, above, front.0))

        entered : (caller other : shapes.Owner) (q : ℕ) → MayRun tables code caller → Calls tables code p caller other
            → Begins tables other q → q < length code → IsOneOf q (ps ++ all_places more)
        entered caller other q runs call begin less =
            let same = apart p caller owner (record { may_run = runs; belongs = call.belongs }) come.0 in
            back_of q ps (all_places more)
            (among_places more have other
            (calls p other come.0.may_run (subst (λ (o : shapes.Owner). Calls tables code p o other) same call)) q less
            (record { may_run = called_runs caller other p q runs call begin; belongs = begins begin }))

  in_order : AreApart → (owners : List OwnerPlaces) → HavePlaces owners → AreCallersFirst tables code owners
      → AreInOrder tables code (all_places owners)
  in_order apart [] have first = tt
  in_order apart (one ∷ owners) have first =
      in_order_of apart (owner_of one.owner) owners have.1 first.0 first.1 (in_order apart owners have.1 first.2)
      one.places have.0.rising have.0.come (λ q less of. inl (have.0.all q less of))

  pub places_in_order : (owners : List OwnerPlaces) → AreOwners tables code owners
      → AreInOrder tables code (all_places owners)
  places_in_order owners are = in_order are.apart owners are.places are.first

  -- the places of owners are those of instructions
  all_inside : (owners : List OwnerPlaces) → HavePlaces owners
      → All (λ one. All (λ p. p < length code) one.places) owners
  all_inside [] have k d within = absurd (omega (arith, within))
  all_inside (one ∷ owners) have zero d within = have.0.inside
  all_inside (one ∷ owners) have (suc k) d within = all_inside owners have.1 k d (omega (arith, within))

  pub places_inside : (owners : List OwnerPlaces) → AreOwners tables code owners
      → All (λ one. All (λ p. p < length code) one.places) owners
  places_inside owners are = all_inside owners are.places

  -- an owner to which a place belongs begins somewhere
  pub begins_somewhere : {owner : shapes.Owner} {q : ℕ} → Belongs tables code owner q
      → (entry : ℕ) × Begins tables owner entry
  begins_somewhere (begins {p} at) = (p, at)
  begins_somewhere (follows i of is on) = begins_somewhere of

  -- each place that belongs to an owner is one of all
  pub is_place : (owners : List OwnerPlaces) → AreOwners tables code owners → (owner : shapes.Owner) (q : ℕ)
      → q < length code → MayComeTo tables code owner q → IsOneOf q (all_places owners)
  is_place owners are owner q less of =
      let at = begins_somewhere of.belongs in
      among_places owners are.places owner (are.all owner at.0 at.1) q less of
