-- A target whose definitions are well typed is judged to a value of its type, to nothing, or to a stop that an outcome
-- may be.
use Rattle.std.proofs.Common.{◌≡◌, ℕ, zero, suc, ◌+◌, Bool, true, false, IsTrue, ◌||◌, List, [], ◌∷◌, map, length}
use Rattle.std.proofs.Common.{Option, Some, None, Result, Ok, Err, slice_get, refl, sym, ap, ◌∙◌, subst, arith}
use Rattle.std.proofs.Common.{true≢false, if◌then◌else◌}
use Rattle.std.specs.Prelude.{nat_eq}
use Rattle.std.proofs.lemmas.Option.{slice_get_within}
use Rattle.cat_pos.specs.declared.pos.Pos.{Pos}
use Rattle.cat_value.specs.declared.outcome.Target.{Target}
use Rattle.cat_value.specs.declared.ty.Ty.{Ty}
use Rattle.cat_value.specs.declared.ty.Ty.TheVariants as flat_ty
use Rattle.cat_value.specs.declared.value.Value.{Value}
use Rattle.cat_value.specs.declared.value.Value.TheVariants as flat
use Rattle.cat_value.specs.declared.decls.Decls.{Decls}
use Rattle.cat_scope.specs.declared.expr.Expr.{Expr}
use Rattle.cat_scope.specs.declared.defs.Except.{Except}
use Rattle.cat_scope.specs.declared.defs.Except.TheVariants as except
use Rattle.cat_scope.specs.declared.defs.Def.{Def}
use Rattle.cat_scope.specs.Replies.{Reply}
use Rattle.cat_scope.specs.Runs.{Run, plain, gives, behind, and_then}
use Rattle.cat_scope.specs.declared.stop.Stop.{Stop}
use Rattle.cat_scope.specs.Groups.{Numbered, Key, Group, key_of, same_key, is_among, with_key, group_at, groups_from}
use Rattle.cat_scope.specs.Groups.{groups_of, group_numbers, is_none, roots_of, target_of, paired, pairs_from, excepts}
use Rattle.cat_scope.specs.Groups.{excepting}
use Rattle.cat_scope.specs.Judging.{Held, Judged, with_held, holding, alone, settle, found_or, or_else, judge}
use Rattle.cat_scope.specs.Judging.{held_position}
use Rattle.cat_scope.specs.Judging.{decided}
use Rattle.cat_scope.specs.Names.{AllHave}
use Rattle.cat_scope.specs.Targets.{same_target, defs_from, condition_of, held_as, judge_def, own_by, judge_groups}
use Rattle.cat_scope.specs.Targets.{judge_target, absent, value_or}
use Rattle.cat_sound.specs.Endings.{Allowed, IsDecision, Ended, EndsIn, IsOf}
use Rattle.cat_sound.specs.Settled.{IsHeldOf, MayStand}
use Rattle.cat_sound.proofs.Endings.{all_both, ends_as, ends_then, ends_choose}
use Rattle.cat_sound.proofs.FlatTypes.{of-Boolean}
use Rattle.cat_sound.proofs.FormTypes.{same_some, same_number}
use Rattle.cat_sound.proofs.Trails.{Trail, trail_short}

-- a definition has a boolean condition and a value of a type
pub record DefEnds (allowed : Allowed) (ds : Decls) (t : Ty) (value : Expr → Run Value) (d : Def) : Type 0 where
  pub condition : EndsIn allowed (IsOf ds flat_ty.Boolean) (condition_of value d.condition)
  pub consequence : EndsIn allowed (IsOf ds t) (value d.consequence)

-- ---- lists of what is judged

module _ (allowed : Allowed) (ds : Decls) (t : Ty) where
  abbrev JudgedOf : Judged Value → Type 0
  JudgedOf r = EndsIn allowed (IsHeldOf true ds t) r

  abbrev AllOf : List (Held Value) → Type 0
  AllOf hs = AllHave (λ h. IsOf ds t h.value) hs

  with-held : (one : Option (Held Value)) (more : List (Held Value)) → IsHeldOf true ds t one → AllOf more
      → AllOf (with_held one more)
  with-held None more h all = all
  with-held (Some one) more h all = (h, all)

  holding-ends : (rs : List (Judged Value)) → AllHave JudgedOf rs → EndsIn allowed AllOf (holding rs)
  holding-ends [] h = (tt, tt)
  holding-ends (r ∷ rs) h =
      ends_then allowed (IsHeldOf true ds t) AllOf r _ h.0
      (λ one ho. ends_then allowed AllOf AllOf (holding rs) _ (holding-ends rs h.1)
      (λ more hm. (tt, with-held one more ho hm)))

  alone-ends : (target : Target) → IsTrue (allowed.may_stop target) → (hs : List (Held Value)) → AllOf hs
      → Ended allowed (IsHeldOf true ds t) (alone target hs)
  alone-ends target free [] h = refl
  alone-ends target free (one ∷ []) h = h.0
  alone-ends target free (one ∷ two ∷ hs) h = free

  pub settle-ends : (target : Target) → IsTrue (allowed.may_stop target) → (rs : List (Judged Value))
      → AllHave JudgedOf rs
      → JudgedOf (settle target rs)
  settle-ends target free rs h =
      ends_then allowed AllOf (IsHeldOf true ds t) (holding rs) (λ hs. plain (alone target hs)) (holding-ends rs h)
      (λ hs all. (tt, alone-ends target free hs all))

  pub or_else-ends : (r other : Judged Value) → JudgedOf r → JudgedOf other → JudgedOf (or_else r other)
  or_else-ends r other is also =
      ends_then allowed (IsHeldOf true ds t) (IsHeldOf true ds t) r (λ found. found_or found other) is by
    where
      by : (found : Option (Held Value)) → IsHeldOf true ds t found → JudgedOf (found_or found other)
      by (Some h) holds = (tt, holds)
      by None holds = also

  def-ends : (value : Expr → Run Value) (d : Numbered) → DefEnds allowed ds t value d.1 → JudgedOf (judge_def value d)
  def-ends value d is =
      ends_then allowed (IsOf ds flat_ty.Boolean) (IsHeldOf true ds t) (condition_of value d.1.condition) _ is.condition
      (λ c hc. ends_choose allowed (IsHeldOf true ds t) ds c
      (and_then (value d.1.consequence) (λ v. gives (Some (held_as d v)))) (gives None) hc
      (ends_then allowed (IsOf ds t) (IsHeldOf true ds t) (value d.1.consequence)
      (λ v. gives (Some (held_as d v))) is.consequence (λ v hv. (tt, hv))) (tt, refl))

-- ---- groups

pub all_map : {A B : Type 0} (P : A → Type 0) (Q : B → Type 0) (f : A → B) (xs : List A) → AllHave P xs
    → ((a : A) → P a → Q (f a)) → AllHave Q (map f xs)
all_map P Q f [] h go = tt
all_map P Q f (x ∷ xs) h go = (go x h.0, all_map P Q f xs h.1 go)

pub all_more : {A : Type 0} (P Q : A → Type 0) (xs : List A) → AllHave P xs → ((a : A) → P a → Q a) → AllHave Q xs
all_more P Q [] h go = tt
all_more P Q (x ∷ xs) h go = (go x h.0, all_more P Q xs h.1 go)

pub all_at : {A : Type 0} (P : A → Type 0) (xs : List A) (k : ℕ) (x : A) → AllHave P xs → slice_get xs k ≡ Some x → P x
all_at P [] k x h is = absurd (cc)
all_at P (y ∷ xs) zero x h is = subst P (same_some y x is) h.0
all_at P (y ∷ xs) (suc k) x h is = all_at P xs k x h.1 is

with_key-all : (P : Numbered → Type 0) (key : Key) (ds : List Numbered) → AllHave P ds → AllHave P (with_key key ds)
with_key-all P key [] h = tt
with_key-all P key (d ∷ ds) h = by (same_key key (key_of d)) (with_key-all P key ds h.1)
  where
    by : (b : Bool) → AllHave P (with_key key ds) → AllHave P (if b then d ∷ with_key key ds else with_key key ds)
    by true rest = (h.0, rest)
    by false rest = rest

pub groups-all : (P : Numbered → Type 0) (all : List Numbered) (seen : List Key) (ds : List Numbered) → AllHave P all
    → AllHave (λ g. AllHave P g.defs) (groups_from all seen ds)
groups-all P all seen [] h = tt
groups-all P all seen (d ∷ ds) h =
    by (is_among (key_of d) seen) (groups-all P all seen ds h) (groups-all P all (key_of d ∷ seen) ds h)
  where
    by : (b : Bool) → AllHave (λ g. AllHave P g.defs) (groups_from all seen ds)
        → AllHave (λ g. AllHave P g.defs) (groups_from all (key_of d ∷ seen) ds)
        → AllHave (λ g. AllHave P g.defs) (if b then groups_from all seen ds else group_at all d ∷ groups_from all
        (key_of d ∷ seen) ds)
    by true old new = old
    by false old new = (with_key-all P (key_of d) all h, new)

-- the group that a group excepts
abbrev target_in : List Group → Option Group → Option ℕ
target_in groups None = None
target_in groups (Some g) = target_of groups g.except

abbrev next : List Group → ℕ → Option ℕ
next groups k = target_in groups (slice_get groups k)

-- a number from n on is that of a group among the ones given, which excepts group h
record Excepting (all : List Group) (n : ℕ) (gs : List Group) (h k : ℕ) : Type 0 where
  index : ℕ
  group : Group
  is : k ≡ n + index
  there : slice_get gs index ≡ Some group
  excepted : target_of all group.except ≡ Some h

one_further : (all : List Group) (n : ℕ) (g : Group) (gs : List Group) (h k : ℕ) → Excepting all (n + 1) gs h k
    → Excepting all n (g ∷ gs) h k
one_further all n g gs h k e =
    let is = e.is in record {
      index = suc e.index;
      group = e.group;
      is = omega arith;
      there = e.there;
      excepted =
          e.excepted;
    }

excepting-all : (all : List Group) (n : ℕ) (gs : List Group) (h : ℕ)
    → AllHave (Excepting all n gs h) (excepting (pairs_from all n gs) h)
excepting-all all n [] h = tt
excepting-all all n (g ∷ gs) h =
    by (target_of all g.except) refl (all_more (Excepting all (n + 1) gs h) (Excepting all n (g ∷ gs) h)
    (excepting (pairs_from all (n + 1) gs) h) (excepting-all all (n + 1) gs h) (one_further all n g gs h))
  where
    if_same : (m : ℕ) (b : Bool) → nat_eq m h ≡ b → target_of all g.except ≡ Some m
        → AllHave (Excepting all n (g ∷ gs) h) (excepting (pairs_from all (n + 1) gs) h)
        → AllHave (Excepting all n (g ∷ gs) h) (if b then n ∷ excepting (pairs_from all (n + 1) gs) h else excepting
        (pairs_from all (n + 1) gs) h)
    if_same m true same is rest = (
      record {
        index = 0;
        group = g;
        is = omega arith;
        there = refl;
        excepted = is
            ∙ ap Some (same_number m h same);
      },
      rest,
    )
    if_same m false same is rest = rest

    by : (o : Option ℕ) → target_of all g.except ≡ o
        → AllHave (Excepting all n (g ∷ gs) h) (excepting (pairs_from all (n + 1) gs) h)
        → AllHave (Excepting all n (g ∷ gs) h) (excepting (paired n o (pairs_from all (n + 1) gs)) h)
    by None is rest = rest
    by (Some m) is rest = if_same m (nat_eq m h) refl is rest

-- a number from n on is that of a group that passes a test
record Passing (passes : Group → Bool) (n : ℕ) (gs : List Group) (k : ℕ) : Type 0 where
  index : ℕ
  group : Group
  is : k ≡ n + index
  there : slice_get gs index ≡ Some group
  passed : IsTrue (passes group)

passing-all : (passes : Group → Bool) (n : ℕ) (gs : List Group) → AllHave (Passing passes n gs)
    (group_numbers passes n gs)
passing-all passes n [] = tt
passing-all passes n (g ∷ gs) =
    by (passes g) refl (all_more (Passing passes (n + 1) gs) (Passing passes n (g ∷ gs))
    (group_numbers passes (n + 1) gs) (passing-all passes (n + 1) gs)
    (λ k e. let is = e.is in record {
      index = suc e.index;
      group = e.group;
      is = omega arith;
      there = e.there;
      passed =
          e.passed;
    }))
  where
    by : (b : Bool) → passes g ≡ b → AllHave (Passing passes n (g ∷ gs)) (group_numbers passes (n + 1) gs)
        → AllHave (Passing passes n (g ∷ gs)) (if b then n ∷ group_numbers passes (n + 1) gs else group_numbers passes
        (n + 1) gs)
    by true e rest = (record { index = 0; group = g; is = omega arith; there = refl; passed = e }, rest)
    by false e rest = rest

no_target : (groups : List Group) (e : Except) → IsTrue (is_none e) → target_of groups e ≡ None
no_target groups except.No h = refl
no_target groups (except.OnlyRoot pos) h = absurd (true≢false (sym h))
no_target groups (except.Named pos label) h = absurd (true≢false (sym h))

-- ---- judging groups and targets

module _ (allowed : Allowed) (ds : Decls) (t : Ty) (value : Expr → Run Value) (target : Target)
    (free : IsTrue (allowed.may_stop target)) (groups : List Group)
    (each : AllHave (λ g. AllHave (λ d. DefEnds allowed ds t value d.1) g.defs) groups) where
  abbrev own : ℕ → Judged Value
  own g = own_by (judge_def value) target (slice_get groups g)

  own-ends : (g : ℕ) (group : Group) → slice_get groups g ≡ Some group → EndsIn allowed (IsHeldOf true ds t) (own g)
  own-ends g group is =
      ends_as allowed (IsHeldOf true ds t) (own g) (settle target (map (judge_def value) group.defs))
      (ap (own_by (judge_def value) target) is)
      (settle-ends allowed ds t target free (map (judge_def value) group.defs)
      (all_map (λ d. DefEnds allowed ds t value d.1) (EndsIn allowed (IsHeldOf true ds t))
      (judge_def value) group.defs (all_at (λ g. AllHave
      (λ d. DefEnds allowed ds t value d.1) g.defs) groups g group each is) (def-ends allowed ds t value)))

  -- a group from which a trail of exceptions leads to a root
  record Reached (n g : ℕ) : Type 0 where
    group : Group
    there : slice_get groups g ≡ Some group
    rest : List ℕ
    trail : Trail (next groups) (length groups) (g ∷ rest)
    left : length (g ∷ rest) + n ≡ length groups + 1

  further : (n g : ℕ) → Reached (suc n) g → (k : ℕ) → Excepting groups 0 groups g k → Reached n k
  further n g from k e =
      let is = e.is in
      let left = from.left in
      let here : slice_get groups k ≡ Some e.group = subst (λ (m : ℕ). slice_get groups m ≡ Some e.group)
      (omega arith) e.there in
      record {
        group = e.group;
        there = here;
        rest = g ∷ from.rest;
        trail = (slice_get_within groups k e.group here, ap (target_in groups) here ∙ e.excepted, from.trail);
        left = omega arith;
      }

  judge-ends : (n g : ℕ) → Reached n g → EndsIn allowed (IsHeldOf true ds t) (judge target (excepts groups) own n g)
  judge-ends zero g from =
      let left = from.left in
      let short = trail_short (next groups) (length groups) g from.rest from.trail in
      absurd (omega arith)
  judge-ends (suc n) g from =
      or_else-ends allowed ds t (settle target (map (judge target (excepts groups) own n)
      (excepting (excepts groups) g))) (own g)
      (settle-ends allowed ds t target free (map (judge target (excepts groups) own n) (excepting (excepts groups) g))
      (all_map (Excepting groups 0 groups g) (EndsIn allowed (IsHeldOf true ds t))
      (judge target (excepts groups) own n) (excepting (excepts groups) g) (excepting-all groups 0 groups g)
      (λ k e. judge-ends n k (further n g from k e))))
      (own-ends g from.group from.there)

  root_reached : (k : ℕ) → Passing (λ g. is_none g.except) 0 groups k → Reached (length groups) k
  root_reached k e =
      let is = e.is in
      let here : slice_get groups k ≡ Some e.group = subst (λ (m : ℕ). slice_get groups m ≡ Some e.group)
      (omega arith) e.there in
      record {
        group = e.group;
        there = here;
        rest = [];
        trail = (
          slice_get_within groups k e.group here,
          ap (target_in groups) here
              ∙ no_target groups e.group.except e.passed,
        );
        left = omega arith;
      }

  judge_groups-ends : EndsIn allowed (IsHeldOf true ds t) (judge_groups value target groups)
  judge_groups-ends =
      settle-ends allowed ds t target free (map (judge target (excepts groups) own (length groups)) (roots_of groups))
      (all_map (Passing (λ g. is_none g.except) 0 groups) (EndsIn allowed (IsHeldOf true ds t))
      (judge target (excepts groups) own (length groups)) (roots_of groups)
      (passing-all (λ g. is_none g.except) 0 groups)
      (λ k e. judge-ends (length groups) k (root_reached k e)))

-- what holds of the definitions of a target
pub defs-all : (P : Def → Type 0) (target : Target) (n : ℕ) (defs : List Def)
    → AllHave (λ d. IsTrue (same_target d.target target) → P d) defs → AllHave (λ d. P d.1) (defs_from target n defs)
defs-all P target n [] h = tt
defs-all P target n (d ∷ defs) h = by (same_target d.target target) refl (defs-all P target (n + 1) defs h.1)
  where
    by : (b : Bool) → same_target d.target target ≡ b → AllHave (λ d. P d.1) (defs_from target (n + 1) defs)
        → AllHave (λ d. P d.1) (if b then (n, d) ∷ defs_from target (n + 1) defs else defs_from target (n + 1) defs)
    by true e rest = (h.0 e, rest)
    by false e rest = rest

pub judge_target-ends : (allowed : Allowed) → (ds : Decls) (t : Ty) (value : Expr → Run Value) (target : Target)
    → IsTrue (allowed.may_stop target) → (defs : List Def)
    → AllHave (λ d. IsTrue (same_target d.target target) → DefEnds allowed ds t value d) defs
    → EndsIn allowed (IsHeldOf true ds t) (judge_target value target defs)
unfolding judge_target
judge_target-ends allowed ds t value target free defs h =
    let all = defs_from target 0 defs in
    judge_groups-ends allowed ds t value target free (groups_of all)
    (groups-all (λ d. DefEnds allowed ds t value d.1) all [] all
    (defs-all (DefEnds allowed ds t value) target 0 defs h))

-- in place of a value where no definition holds; a condition is a boolean
pub absent-ends : (allowed : Allowed) → (ds : Decls) (t : Ty) (target : Target) (pos : Pos) (condition : Bool)
    → (IsTrue condition → t ≡ flat_ty.Boolean) → IsTrue (allowed.may_stop target || condition)
    → Ended allowed (IsOf ds t) (absent target pos condition)
absent-ends allowed ds t target pos true is free =
    subst (λ u. IsOf ds u (flat.Boolean false)) (sym (is refl)) (of-Boolean ds false)
absent-ends allowed ds t target pos false is free = or_right (allowed.may_stop target) free
  where
    or_right : (b : Bool) → IsTrue (b || false) → IsTrue b
    or_right true h = refl
    or_right false h = h

pub value_or-ends : (allowed : Allowed)
    → (ds : Decls) (t : Ty) (empty : Bool) (other : Reply) (found : Option (Held Value))
    → (IsTrue empty → Ended allowed (IsOf ds t) other) → IsHeldOf empty ds t found
    → Ended allowed (IsOf ds t) (value_or other found)
value_or-ends allowed ds t empty other (Some h) also is = is
value_or-ends allowed ds t empty other None also is = also is

-- a judging that is logged ends as it ends, where what is decided may stand in a log
pub decided-ends : (allowed : Allowed) → (P : Option (Held Value)
    → Type 0) (target : Target) (judging : Judged Value) → EndsIn allowed P judging
    → MayStand allowed target judging.end → EndsIn allowed P (decided target judging)
decided-ends allowed P target judging h stands = by judging.end h.1 stands
  where
    by : (r : Result (Option (Held Value)) Stop) → Ended allowed P r → MayStand allowed target r
        → EndsIn allowed P
        (behind judging.log r
        (λ found. record { log = record { target = target; by = held_position found } ∷ []; end = Ok found }))
    by (Ok found) g may = (
      all_both (IsDecision allowed) judging.log (record { target = target; by = held_position found } ∷ []) h.0
          (may, tt),
      g,
    )
    by (Err s) g may = (h.0, g)
