-- The owners of code with their places, in an order in which callers stand first.
use Rattle.std.proofs.Common.{◌≡◌, ◌<◌, ◌≤◌, ◌+◌, ◌⊎◌, ℕ, suc, true, IsTrue, List, [], ◌∷◌}
use Rattle.std.proofs.Common.{◌++◌, length, map, take, get_or, All, Some, refl, sym, ap, ◌∙◌, subst, inl}
use Rattle.std.proofs.Common.{inr, arith, append_assoc}
use Rattle.std.proofs.lemmas.List.{length-map}
use Rattle.std.proofs.lemmas.Option.{get_or_from_slice_get}
use Rattle.std.proofs.lemmas.Bool.Decides.{nat_tests}
use Rattle.std.specs.Prelude.{slice_get, slice_index}
use Rattle.cat_order.specs.Order.{times, is_listed, IsOrder}
use Rattle.cat_order.specs.Cycle.{DependsOn, IsOnCycle}
use Rattle.cat_order.specs.Cause.{HasNoOrder}
use Rattle.cat_scope.specs.Names.{IsOneOf, AllHave}
use Rattle.cat_code.specs.declared.instr.Instr.{Instr}
use Rattle.cat_code.specs.declared.code.Tables.{Tables}
use Rattle.cat_code.specs.Places.{function_places}
use Rattle.cat_code.specs.Shapes.{Owner}
use Rattle.cat_verify_tables.specs.TableWords.{numbered}
use Rattle.cat_verify_tables.specs.declared.places.FunctionPlace.{FunctionPlace}
use Rattle.cat_verify_shapes.specs.declared.owner.OwnerPlaces.{OwnerPlaces}
use Rattle.cat_verify_shapes.specs.Belonging.{Begins, Calls, MayRun, MayComeTo}
use Rattle.cat_verify_shapes.specs.Owned.{owner_of, HasPlaces, IsAmong, AreCallersFirst, AreOwners}
use Rattle.cat_verify.specs.declared.stamps.Stamps.{Stamps}
use Rattle.cat_verify.specs.declared.stamps.Stamps.TheVariants.{Nobody, One, Two}
use Rattle.cat_verify.specs.declared.refusal.VerifyRefusal.{VerifyRefusal}
use Rattle.cat_verify.specs.declared.refusal.VerifyRefusal.TheVariants as refusal
use Rattle.cat_verify.specs.WrongCode.{IsShared}
use Rattle.cat_verify.specs.inside.Buckets.{numbers_of, with_member}
use Rattle.cat_verify.specs.inside.Stamped.{AreStamps}
use Rattle.cat_verify.specs.inside.Starts.{scope_starts, function_starts, number_of}
use Rattle.cat_verify.specs.inside.CallNumbers.{AreMarked, IsInOrder, RoundCause}
use Rattle.cat_verify.specs.inside.OwnerNumbers.{is_shared, NoneShared, OneShared, placed_by, placed_from}
use Rattle.cat_verify.specs.inside.OwnerNumbers.{with_places}
use Rattle.cat_verify.specs.inside.Orderly.{IsOrderly, AreCallsHome, AreApart, OwnersCause}
use Rattle.cat_verify.proofs.OneOf.{in_back, either_of, in_map, of_map, at_of_in, within_of, at_within, in_at}
use Rattle.cat_verify.proofs.StartLemmas as start
use Rattle.cat_verify.proofs.BelongLemmas.{owner_of_stamp, begins_of}
use Rattle.cat_verify.proofs.MarkedLemmas as marked
use Rattle.cat_verify.proofs.PlacedLemmas.{all_of, of_placed, in_placed, rising, times_in, in_times, times_both}
use Rattle.cat_verify.proofs.PlacedLemmas.{at_front, at_behind, take_short}

-- ---- owners in an order

module _ (tables : Tables) (code : List Instr) (functions : List FunctionPlace) (marks : List Stamps)
    (orderly : IsOrderly tables code functions) (home : AreCallsHome tables code)
    (are : AreStamps code (scope_starts tables) (function_starts tables) marks) (single : NoneShared marks)
    (listed : List ℕ) (order : IsInOrder tables code marks listed)
    (before : (deps : List (List ℕ)) (ns : List ℕ) (place other : ℕ) → IsOrder deps ns → place < length ns
    → DependsOn deps (slice_index ns place) other → IsTrue (is_listed (take place ns) other))
    (items : (deps : List (List ℕ)) (ns : List ℕ) → IsOrder deps ns → All (λ item. item < length deps) ns) where
  abbrev owner : ℕ → Owner
  owner n = start.owner_here tables functions orderly.declared orderly.one_each n

  abbrev one_of : ℕ → OwnerPlaces
  one_of n = with_places (length tables.scopes) functions (placed_from 0 marks) n

  counted : length order.callers ≡ length tables.scopes + length tables.functions
  counted = order.callers_are.one_each

  -- an owner has its number
  forth : (n : ℕ) → n < length tables.scopes + length tables.functions → number_of tables (owner n) ≡ n
  forth n within =
      let from = start.owner_there tables functions orderly.declared orderly.one_each n within in
      ap (λ (k : ℕ). number_of tables (owner k)) (sym from.3)
      ∙ ap (number_of tables)
      (start.owner_back tables functions orderly.declared orderly.one_each from.0 from.1 from.2)
      ∙ from.3

  listed_within : (n : ℕ) → IsOneOf n listed → n < length tables.scopes + length tables.functions
  listed_within n one =
      let at = at_of_in listed n one in
      let below : get_or listed at.0 0 < length order.callers =
      items order.callers listed order.order at.0 0 (within_of listed at.0 n at.1) in
      let is : get_or listed at.0 0 ≡ n = get_or_from_slice_get listed at.0 n 0 at.1 in
      omega (arith, below, is, counted)

  once : (n : ℕ) → n < length tables.scopes + length tables.functions → times listed n ≡ 1
  once n within = order.order.once n (omega (arith, within, counted))

  behind_caller : (front more : List ℕ) (n m : ℕ) → listed ≡ front ++ n ∷ more → IsOneOf m listed
      → DependsOn order.callers m n → IsOneOf m more
  behind_caller front more n m split one on = by (either_of m front (n ∷ more)
      (subst (IsOneOf m) split one))
    where
      in_listed : IsOneOf n listed
      in_listed = subst (IsOneOf n) (sym split) (in_back n front (n ∷ more) (inl refl))

      not_front : IsOneOf n front → ⊥
      not_front one =
          let twice : times (front ++ n ∷ more) n ≡ times front n + times (n ∷ more) n =
          times_both n front (n ∷ more) in
          let here : 1 ≤ times (n ∷ more) n = times_in n (n ∷ more) (inl refl) in
          let there : 1 ≤ times front n = times_in n front one in
          let whole : times listed n ≡ times (front ++ n ∷ more) n = ap (λ (ns : List ℕ). times ns n) split in
          let single : times listed n ≡ 1 = once n (listed_within n in_listed) in
          omega (arith, twice, here, there, whole, single)

      -- m stands at an index no greater than that of n
      too_early : (k : ℕ) → slice_get listed k ≡ Some m → k ≤ length front → ⊥
      too_early k at early =
          let is : get_or listed k 0 ≡ m = get_or_from_slice_get listed k m 0 at in
          let ahead = before order.callers listed k n order.order (within_of listed k m at)
          (subst (λ (j : ℕ). DependsOn order.callers j n) (sym is) on) in
          not_front (take_short k front (n ∷ more) early n
          (subst (λ (ns : List ℕ). IsOneOf n (take k ns)) split
          (in_times n (take k listed) (grind (arith, nat_tests, ahead)))))

      by : IsOneOf m front ⊎ IsOneOf m (n ∷ more) → IsOneOf m more
      by (inl one) =
          let at = at_of_in front m one in
          let early : at.0 < length front = within_of front at.0 m at.1 in
          absurd (too_early at.0 (ap (λ (ns : List ℕ). slice_get ns at.0) split
          ∙ at_front m at.0 front (n ∷ more) at.1) (omega (arith, early)))
      by (inr (inl same)) =
          absurd (too_early (length front) (ap (λ (ns : List ℕ). slice_get ns (length front)) split
          ∙ at_behind n front more ∙ ap Some (sym same)) (omega arith))
      by (inr (inr one)) = one

  first : (front back : List ℕ) → listed ≡ front ++ back → AreCallersFirst tables code (map one_of back)
  first front [] split = tt
  first front (n ∷ more) split = (
    alone,
    ahead,
    first (front ++ n ∷ []) more (split ∙ sym (append_assoc front (n ∷ []) more)),
  )
    where
      in_listed : IsOneOf n listed
      in_listed = subst (IsOneOf n) (sym split) (in_back n front (n ∷ more) (inl refl))

      within : n < length tables.scopes + length tables.functions
      within = listed_within n in_listed

      more_listed : (m : ℕ) → IsOneOf m more → IsOneOf m listed
      more_listed m one = subst (IsOneOf m) (sym split) (in_back m front (n ∷ more) (inr one))

      alone : IsAmong (owner_of (one_of n).owner) (map one_of more) → ⊥
      alone among =
          let one = of_map (λ (x : OwnerPlaces). owner_of x.owner) (map one_of more) (owner n) among in
          let from = of_map one_of more one.0 one.2 in
          let same : owner n ≡ owner from.0 = one.1 ∙ ap (λ (x : OwnerPlaces). owner_of x.owner) from.1 in
          let equal : n ≡ from.0 = sym (forth n within) ∙ ap (number_of tables) same
          ∙ forth from.0 (listed_within from.0 (more_listed from.0 from.2)) in
          let again : 1 ≤ times more n = times_in n more (subst (λ (k : ℕ). IsOneOf k more) (sym equal) from.2) in
          let twice : times (front ++ n ∷ more) n ≡ times front n + times (n ∷ more) n =
          times_both n front (n ∷ more) in
          let whole : times listed n ≡ times (front ++ n ∷ more) n = ap (λ (ns : List ℕ). times ns n) split in
          let single : times listed n ≡ 1 = once n within in
          let here : times (n ∷ more) n ≡ 1 + times more n = grind (arith, nat_tests) in
          omega (arith, again, twice, whole, single, here)

      ahead : (p : ℕ) (called : Owner) → MayRun tables code (owner_of (one_of n).owner)
          → Calls tables code p (owner_of (one_of n).owner) called → IsAmong called (map one_of more)
      ahead p called run calls =
          let on = marked.depends_of tables code functions marks orderly home are single order.callers
          order.callers_are p (owner n) called run calls in
          let m = number_of tables called in
          let below : m < length tables.scopes + length tables.functions =
          marked.called_within tables code functions marks orderly home are single p (owner n) called calls in
          let one : IsOneOf m listed =
          in_times m listed (let single : times listed m ≡ 1 = once m below in omega (arith, single)) in
          let behind = behind_caller front more n m split one
          (subst (λ (k : ℕ). DependsOn order.callers m k) (forth n within) on) in
          subst (λ (o : Owner). IsAmong o (map one_of more))
          (marked.called_back tables code functions marks orderly home are single p (owner n) called run calls)
          (in_map (λ (x : OwnerPlaces). owner_of x.owner) (map one_of more) (one_of m) (in_map one_of more m behind))

  places : (n : ℕ) → n < length tables.scopes + length tables.functions
      → HasPlaces tables code (owner n) (numbers_of n (placed_from 0 marks))
  places n within =
      let from = start.owner_there tables functions orderly.declared orderly.one_each n within in
      let is : owner n ≡ from.0 = ap owner (sym from.3)
      ∙ start.owner_back tables functions orderly.declared orderly.one_each from.0 from.1 from.2 in
      record {
        entry = from.1;
        begins = subst (λ (o : Owner). Begins tables o from.1) (sym is) from.2;
        rising = rising 0 marks n;
        inside = inside;
        come = all_of (MayComeTo tables code (owner n)) (numbers_of n (placed_from 0 marks)) come;
        all = stands;
      }
    where
      inside : All (λ p. p < length code) (numbers_of n (placed_from 0 marks))
      inside k d within =
          let ps = numbers_of n (placed_from 0 marks) in
          let at = at_within ps k within in
          let from = of_placed 0 marks n at.0 (in_at ps k at.0 at.1) in
          let below : from.0 < length marks = within_of marks from.0 (One n) from.2 in
          let place : at.0 ≡ 0 + from.0 = from.1 in
          let is : get_or ps k d ≡ at.0 = get_or_from_slice_get ps k at.0 d at.1 in
          omega (arith, below, place, is, are.one_each)

      come : (p : ℕ) → IsOneOf p (numbers_of n (placed_from 0 marks)) → MayComeTo tables code (owner n) p
      come p one =
          let at = of_placed 0 marks n p one in
          let same : at.0 ≡ p = (let e : p ≡ 0 + at.0 = at.1 in omega (arith, e)) in
          subst (MayComeTo tables code (owner n)) same
          (marked.comes_by tables code functions marks orderly home are single at.0 n at.2)

      stands : (p : ℕ) → p < length code → MayComeTo tables code (owner n) p
          → IsOneOf p (numbers_of n (placed_from 0 marks))
      stands p below b =
          let at : 0 + p ≡ p = omega arith in
          subst (λ (q : ℕ). IsOneOf q (numbers_of n (placed_from 0 marks))) at
          (in_placed 0 marks n p
          (marked.mark_of tables code functions marks orderly home are single (owner n) p b below
          ∙ ap (λ (k : ℕ). Some (One k)) (forth n within)))

  all_places : (ns : List ℕ) → ((n : ℕ) → IsOneOf n ns → IsOneOf n listed)
      → AllHave (λ one. HasPlaces tables code (owner_of one.owner) one.places) (map one_of ns)
  all_places [] in_listed = tt
  all_places (n ∷ ns) in_listed =
      (places n (listed_within n (in_listed n (inl refl))), all_places ns (λ m one. in_listed m (inr one)))

  all : (o : Owner) (entry : ℕ) → Begins tables o entry → IsAmong o (map one_of listed)
  all o entry is =
      let n = number_of tables o in
      let single : times listed n ≡ 1 =
      once n (start.number_within tables functions orderly.declared orderly.one_each o entry is) in
      subst (λ (x : Owner). IsAmong x (map one_of listed))
      (start.owner_back tables functions orderly.declared orderly.one_each o entry is)
      (in_map (λ (x : OwnerPlaces). owner_of x.owner) (map one_of listed) (one_of n)
      (in_map one_of listed n (in_times n listed (omega (arith, single)))))

  pub are_owners : (owners : List OwnerPlaces) → owners ≡ map one_of listed → AreOwners tables code owners
  are_owners owners is = subst (AreOwners tables code) (sym is) (record {
    all = all;
    places = all_places listed (λ n one. one);
    first = first [] listed refl;
    apart = marked.apart tables code functions marks orderly home are single;
    home = home;
  })

  pub are_apart : ((deps : List (List ℕ)) (item : ℕ) → IsOnCycle deps item → HasNoOrder deps) → AreApart tables code
  are_apart law k (inl shared) = shared.apart (marked.apart tables code functions marks orderly home are single k
      shared.one shared.other shared.of_one shared.of_other)
  are_apart law k (inr round) =
      marked.none_round tables code functions marks orderly home are single order.callers order.callers_are
      (λ item on. law order.callers item on listed order.order) k round

-- ---- marks that stamps made

pub marked_well : (tables : Tables) (code : List Instr) (functions : List FunctionPlace) (marks : List Stamps)
    → IsOrderly tables code functions → AreStamps code (scope_starts tables) (function_starts tables) marks
    → AreMarked tables code marks
marked_well tables code functions marks orderly are = record {
  few = orderly.few;
  counted = orderly.counted;
  good = orderly.good;
  one_each = are.one_each;
  numbers = within;
}
  where
    within : (p a : ℕ) → slice_get marks p ≡ Some (One a) → a < length tables.scopes + length tables.functions
    within p a is =
        let comes = are.tell p (One a) is in
        let from = owner_of_stamp tables code (number_of tables) (scope_starts tables) (function_starts tables)
        (start.starts_numbered tables functions orderly.declared orderly.one_each) a p comes.0 in
        let entry = begins_of tables code from.0 p from.1.belongs in
        subst (λ (n : ℕ). n < length tables.scopes + length tables.functions) from.2
        (start.number_within tables functions orderly.declared orderly.one_each from.0 entry.0 entry.1)

pub members_within : (count p : ℕ) (marks : List Stamps)
    → ((k a : ℕ) → slice_get marks k ≡ Some (One a) → a < count)
    → AllHave (λ m. m.bucket < count) (placed_from p marks)
members_within count p [] within = tt
members_within count p (m ∷ marks) within =
    by (members_within count (p + 1) marks (λ k a is. within (suc k) a is)) m (within 0)
  where
    by : AllHave (λ m. m.bucket < count) (placed_from (p + 1) marks) → (l : Stamps)
        → ((a : ℕ) → Some l ≡ Some (One a) → a < count)
        → AllHave (λ m. m.bucket < count) (with_member (placed_by p l) (placed_from (p + 1) marks))
    by rest Nobody here = rest
    by rest (Two a b) here = rest
    by rest (One a) here = (here a refl, rest)

pub listed_below : (tables : Tables) (code : List Instr) (functions : List FunctionPlace) (marks : List Stamps)
    (listed : List ℕ) → IsOrderly tables code functions → IsInOrder tables code marks listed
    → ((deps : List (List ℕ)) (ns : List ℕ) → IsOrder deps ns → All (λ item. item < length deps) ns)
    → All (λ n. n < length tables.scopes + length functions) listed
listed_below tables code functions marks listed orderly order items k d within =
    let below : get_or listed k d < length order.callers = items order.callers listed order.order k d within in
    let declared : length functions ≡ length (function_places tables.decls) =
    ap length orderly.declared ∙ length-map (function_places tables.decls) numbered in
    omega (arith, below, order.callers_are.one_each, declared, orderly.one_each)

pub function_count : (tables : Tables) (code : List Instr) (functions : List FunctionPlace)
    → IsOrderly tables code functions → length functions ≡ length tables.functions
function_count tables code functions orderly =
    let declared : length functions ≡ length (function_places tables.decls) =
    ap length orderly.declared ∙ length-map (function_places tables.decls) numbered in
    omega (arith, declared, orderly.one_each)

-- ---- why owners are refused

module _ (tables : Tables) (code : List Instr) (functions : List FunctionPlace) (marks : List Stamps)
    (orderly : IsOrderly tables code functions)
    (are : AreStamps code (scope_starts tables) (function_starts tables) marks) where
  shared_at : (k : ℕ) (m : Stamps) → slice_get marks k ≡ Some m → is_shared m ≡ true → IsShared tables code k
  shared_at k Nobody is h = absurd (cc h)
  shared_at k (One a) is h = absurd (cc h)
  shared_at k (Two a b) is h =
      let comes = are.tell k (Two a b) is in
      let within : k < length marks = within_of marks k (Two a b) is in
      let starts = start.starts_numbered tables functions orderly.declared orderly.one_each in
      let one = owner_of_stamp tables code (number_of tables) (scope_starts tables) (function_starts tables) starts a k
      comes.0 in
      let other = owner_of_stamp tables code (number_of tables) (scope_starts tables) (function_starts tables) starts b
      k comes.1 in
      record {
        inside = omega (arith, within, are.one_each);
        one = one.0;
        other = other.0;
        of_one = one.1;
        of_other = other.1;
        apart = λ same. comes.2 (sym one.2 ∙ ap (number_of tables) same ∙ other.2);
      }

  pub shared_cause : (why : VerifyRefusal) → OneShared marks why → OwnersCause tables code why
  shared_cause (refusal.Endless k) shared = inl (shared_at k shared.0 shared.1 shared.2)
  shared_cause (refusal.BadTable n) cause = absurd cause
  shared_cause (refusal.BadNumber k) cause = absurd cause
  shared_cause (refusal.BadShape k) cause = absurd cause
  shared_cause refusal.Memory cause = tt

  pub round_cause : AreCallsHome tables code → NoneShared marks → (why : VerifyRefusal)
      → RoundCause tables code marks why → OwnersCause tables code why
  round_cause home single (refusal.Endless k) round =
      inr (marked.round_of tables code functions marks orderly home are single round.callers round.callers_are k
      round.caller round.called round.place round.back)
  round_cause home single (refusal.BadTable n) cause = absurd cause
  round_cause home single (refusal.BadNumber k) cause = absurd cause
  round_cause home single (refusal.BadShape k) cause = absurd cause
  round_cause home single refusal.Memory cause = tt
