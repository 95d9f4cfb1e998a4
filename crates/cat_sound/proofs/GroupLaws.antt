-- The groups part the definitions of a target, and those of a forest are judged by their rule.
use Rattle.std.proofs.Common.{◌≡◌, ◌⊎◌, inl, inr, ℕ, ◌+◌, Bool, true, false, List, [], ◌∷◌, map, Some, slice_get, refl}
use Rattle.std.proofs.Common.{sym, ap, ◌∙◌, subst, if◌then◌else◌, true≢false}
use Rattle.std.proofs.Math.Logic.{⊎_elim}
use Rattle.std.proofs.lemmas.Bool.Decides.{Decides-eqb}
use Rattle.std.proofs.lemmas.Slice.Eq.{bytes_eq-Decides}
use Rattle.cat_value.specs.declared.outcome.Target.{Target}
use Rattle.cat_scope.specs.declared.defs.Def.{Def}
use Rattle.cat_scope.specs.declared.defs.Body.{Body}
use Rattle.cat_scope.specs.declared.programs.Program.{Program}
use Rattle.cat_scope.specs.declared.forest.Forest.{Forest}
use Rattle.cat_scope.specs.declared.forest.ForestTarget.{ForestTarget}
use Rattle.cat_scope.specs.Names.{AllHave, IsOneOf, scope_items}
use Rattle.cat_scope.specs.Groups.{Numbered, Key, Labelled, Base, Alone, Group, key_of, same_key, is_among, with_key}
use Rattle.cat_scope.specs.Groups.{group_at, groups_from, groups_of, excepting, exceptions_from, exceptions_of}
use Rattle.cat_scope.specs.Targets.{defs_from}
use Rattle.cat_scope.specs.Chains.{HasNoCycle}
use Rattle.cat_scope.specs.Forests.{IsLow, above, forest_groups, forest_of, targets_of, StandsFor}
use Rattle.cat_sound.specs.Grouped.{IsPartOf, AreApart, IsGrouped, first_of, AreParted, AreJudgedByRule}
use Rattle.cat_sound.proofs.ForestLaws.{are_low_says}
use Rattle.cat_sound.proofs.JudgeLaws.{judging_rule}
use Rattle.cat_sound.proofs.FormTypes.{same_some}

-- keys that are the same are equal
key_is : (a b : Key) → same_key a b ≡ true → a ≡ b
key_is (Labelled l) (Labelled m) h = ap Labelled ((bytes_eq-Decides l m).0 h)
key_is Base Base h = refl
key_is (Alone n) (Alone m) h = ap Alone ((Decides-eqb n m).0 h)
key_is _ _ h = absurd (true≢false (sym h))

key_same : (a : Key) → same_key a a ≡ true
key_same (Labelled l) = (bytes_eq-Decides l l).1 refl
key_same Base = refl
key_same (Alone n) = (Decides-eqb n n).1 refl

-- what holds of the groups where a key was seen, and where it wasn't
all_if : (Has : Group → Type 0) (b : Bool) (g : Group) (more rest : List Group) → AllHave Has more → Has g
    → AllHave Has rest → AllHave Has (if b then more else g ∷ rest)
all_if Has true g more rest all here behind = all
all_if Has false g more rest all here behind = (here, behind)

all_map : {A : Type 0} (P Q : A → Type 0) → ((x : A) → P x → Q x) → (xs : List A) → AllHave P xs → AllHave Q xs
all_map P Q go [] all = tt
all_map P Q go (x ∷ xs) all = (go x all.0, all_map P Q go xs all.1)

each_whole : (all : List Numbered) (seen : List Key) (ds : List Numbered)
    → AllHave (λ (g : Group). g.defs ≡ with_key g.key all) (groups_from all seen ds)
each_whole all seen [] = tt
each_whole all seen (d ∷ ds) =
    all_if (λ (g : Group). g.defs ≡ with_key g.key all) (is_among (key_of d) seen) (group_at all d)
    (groups_from all seen ds) (groups_from all (key_of d ∷ seen) ds)
    (each_whole all seen ds) refl (each_whole all (key_of d ∷ seen) ds)

-- each definition has a group
abbrev IsMet : List Numbered → List Key → List Numbered → Numbered → Type 0
IsMet all seen ds d = (is_among (key_of d) seen ≡ true) ⊎ IsGrouped (groups_from all seen ds) d

among_or : (key k : Key) (seen : List Key) (b : Bool) → same_key key k ≡ b → is_among key (k ∷ seen) ≡ true
    → (same_key key k ≡ true) ⊎ (is_among key seen ≡ true)
among_or key k seen true is among = inl is
among_or key k seen false is among = inr (sym (ap (λ b. if b then true else is_among key seen) is) ∙ among)

met_at : (all : List Numbered) (seen : List Key) (e : Numbered) (es : List Numbered) (d : Numbered) (b : Bool)
    → is_among (key_of e) seen ≡ b
    → (IsOneOf d es → IsMet all seen es d) → (IsOneOf d es → IsMet all (key_of e ∷ seen) es d) → IsOneOf d (e ∷ es)
    → (is_among (key_of d) seen ≡ true)
    ⊎ IsGrouped (if b then groups_from all seen es else group_at all e ∷ groups_from all (key_of e ∷ seen) es) d
met_at all seen e es d true here old new among =
    ⊎_elim (λ same. inl (ap (λ (x : Numbered). is_among (key_of x) seen) same ∙ here)) (λ more. old more) among
met_at all seen e es d false here old new among = ⊎_elim
    (λ same.
    inr (group_at all e, inl refl, ap (λ (x : Numbered). same_key (key_of x) (key_of e)) same ∙ key_same (key_of e)))
    (λ more. ⊎_elim
    (λ seen_now. ⊎_elim (λ same. inr (group_at all e, inl refl, same)) (λ before. inl before)
    (among_or (key_of d) (key_of e) seen (same_key (key_of d) (key_of e)) refl seen_now))
    (λ grouped. inr (grouped.0, inr grouped.1, grouped.2))
    (new more)) among

met : (all : List Numbered) (seen : List Key) (ds : List Numbered) (d : Numbered) → IsOneOf d ds → IsMet all seen ds d
met all seen [] d among = elim among [ ]
met all seen (e ∷ es) d among =
    met_at all seen e es d (is_among (key_of e) seen) refl (met all seen es d) (met all (key_of e ∷ seen) es d) among

grouped_of : (defs : List Numbered) (d : Numbered) → IsOneOf d defs → IsGrouped (groups_of defs) d
grouped_of defs d among =
    ⊎_elim (λ none. absurd (true≢false (sym none))) (λ grouped. grouped) (met defs [] defs d among)

-- no two groups have one key
not_among : (key k : Key) (seen : List Key) (b : Bool) → same_key key k ≡ b → is_among key (k ∷ seen) ≡ false
    → (same_key key k ≡ false) × (is_among key seen ≡ false)
not_among key k seen true is none =
    absurd (true≢false (sym (ap (λ b. if b then true else is_among key seen) is) ∙ none))
not_among key k seen false is none = (is, sym (ap (λ b. if b then true else is_among key seen) is) ∙ none)

new_parts : (k : Key) (seen : List Key) (g : Group) → is_among g.key (k ∷ seen) ≡ false
    → (same_key g.key k ≡ false) × (is_among g.key seen ≡ false)
new_parts k seen g none = not_among g.key k seen (same_key g.key k) refl none

new_if : (b : Bool) (seen : List Key) (g : Group) (more rest : List Group) → is_among g.key seen ≡ b
    → AllHave (λ (h : Group). is_among h.key seen ≡ false) more
    → AllHave (λ (h : Group). is_among h.key seen ≡ false) rest
    → AllHave (λ (h : Group). is_among h.key seen ≡ false) (if b then more else g ∷ rest)
new_if true seen g more rest is all behind = all
new_if false seen g more rest is all behind = (is, behind)

all_new : (all : List Numbered) (seen : List Key) (ds : List Numbered)
    → AllHave (λ (g : Group). is_among g.key seen ≡ false) (groups_from all seen ds)
all_new all seen [] = tt
all_new all seen (d ∷ ds) =
    new_if (is_among (key_of d) seen) seen (group_at all d) (groups_from all seen ds)
    (groups_from all (key_of d ∷ seen) ds) refl (all_new all seen ds)
    (all_map (λ (g : Group). is_among g.key (key_of d ∷ seen) ≡ false) (λ (g : Group). is_among g.key seen ≡ false)
    (λ g none. (new_parts (key_of d) seen g none).1) (groups_from all (key_of d ∷ seen) ds)
    (all_new all (key_of d ∷ seen) ds))

apart_if : (b : Bool) (g : Group) (more rest : List Group) → AreApart more
    → AllHave (λ (h : Group). same_key h.key g.key ≡ false) rest → AreApart rest
    → AreApart (if b then more else g ∷ rest)
apart_if true g more rest all here behind = all
apart_if false g more rest all here behind = (here, behind)

apart_from : (all : List Numbered) (seen : List Key) (ds : List Numbered) → AreApart (groups_from all seen ds)
apart_from all seen [] = tt
apart_from all seen (d ∷ ds) =
    apart_if (is_among (key_of d) seen) (group_at all d) (groups_from all seen ds)
    (groups_from all (key_of d ∷ seen) ds) (apart_from all seen ds)
    (all_map (λ (g : Group). is_among g.key (key_of d ∷ seen) ≡ false)
    (λ (g : Group). same_key g.key (key_of d) ≡ false) (λ g none. (new_parts (key_of d) seen g none).0)
    (groups_from all (key_of d ∷ seen) ds) (all_new all (key_of d ∷ seen) ds))
    (apart_from all (key_of d ∷ seen) ds)

-- of a key that wasn't seen all definitions still stand ahead
abbrev Stand : List Numbered → List Key → List Numbered → Type 0
Stand all seen ds = (key : Key) → is_among key seen ≡ false → with_key key all ≡ with_key key ds

passed_by : (key : Key) (d : Numbered) (ds : List Numbered) → same_key key (key_of d) ≡ false
    → with_key key (d ∷ ds) ≡ with_key key ds
passed_by key d ds other = ap (λ b. if b then d ∷ with_key key ds else with_key key ds) other

other_key : (key : Key) (seen : List Key) (d : Numbered) (b : Bool) → same_key key (key_of d) ≡ b
    → is_among (key_of d) seen ≡ true → is_among key seen ≡ false → same_key key (key_of d) ≡ false
other_key key seen d false is here none = is
other_key key seen d true is here none =
    absurd (true≢false (sym here ∙ sym (ap (λ (k : Key). is_among k seen) (key_is key (key_of d) is)) ∙ none))

first_is : (all : List Numbered) (seen : List Key) (d : Numbered) (ds : List Numbered) → Stand all seen (d ∷ ds)
    → is_among (key_of d) seen ≡ false → first_of (group_at all d) ≡ Some d
first_is all seen d ds stand none =
    ap (λ (xs : List Numbered). slice_get xs 0)
    (stand (key_of d) none
    ∙ ap (λ b. if b then d ∷ with_key (key_of d) ds else with_key (key_of d) ds) (key_same (key_of d)))

part_more : {A : Type 0} (xs ys : List A) (y : A) → IsPartOf xs ys → IsPartOf xs (y ∷ ys)
part_more [] ys y part = tt
part_more (x ∷ xs) ys y part = inr part

first_if : (b : Bool) (all : List Numbered) (seen : List Key) (d : Numbered) (ds : List Numbered)
    → is_among (key_of d) seen ≡ b → Stand all seen (d ∷ ds)
    → (Stand all seen ds → IsPartOf (map first_of (groups_from all seen ds)) (map Some ds))
    → (Stand all (key_of d ∷ seen) ds → IsPartOf (map first_of (groups_from all (key_of d ∷ seen) ds)) (map Some ds))
    → IsPartOf
    (map first_of (if b then groups_from all seen ds else group_at all d ∷ groups_from all (key_of d ∷ seen) ds))
    (map Some (d ∷ ds))
first_if true all seen d ds is stand old new =
    part_more (map first_of (groups_from all seen ds)) (map Some ds) (Some d)
    (old
    (λ key none. stand key none ∙ passed_by key d ds (other_key key seen d (same_key key (key_of d)) refl is none)))
first_if false all seen d ds is stand old new =
    inl (
      first_is all seen d ds stand is,
      new
          (λ key none.
          let parts = not_among key (key_of d) seen (same_key key (key_of d)) refl none in
          stand key parts.1 ∙ passed_by key d ds parts.0),
    )

first_from : (all : List Numbered) (seen : List Key) (ds : List Numbered) → Stand all seen ds
    → IsPartOf (map first_of (groups_from all seen ds)) (map Some ds)
first_from all seen [] stand = tt
first_from all seen (d ∷ ds) stand =
    first_if (is_among (key_of d) seen) all seen d ds refl stand (first_from all seen ds)
    (first_from all (key_of d ∷ seen) ds)

pub are_parted : (defs : List Numbered) → AreParted defs
are_parted defs = record {
  each = each_whole defs [] defs;
  grouped = grouped_of defs;
  apart = apart_from defs [] defs;
  first = first_from defs [] defs (λ key none. refl);
}

-- a group is an exception to what its first definition is one to
abbrev pub IsAsItsFirst : Group → Type 0
IsAsItsFirst g = (d : Numbered) × (first_of g ≡ Some d) × (g.except ≡ d.1.except)

excepts_if : (b : Bool) (all : List Numbered) (seen : List Key) (d : Numbered) (ds : List Numbered)
    → is_among (key_of d) seen ≡ b → Stand all seen (d ∷ ds)
    → (Stand all seen ds → AllHave IsAsItsFirst (groups_from all seen ds))
    → (Stand all (key_of d ∷ seen) ds → AllHave IsAsItsFirst (groups_from all (key_of d ∷ seen) ds))
    → AllHave IsAsItsFirst
    (if b then groups_from all seen ds else group_at all d ∷ groups_from all (key_of d ∷ seen) ds)
excepts_if true all seen d ds is stand old new =
    old (λ key none. stand key none ∙ passed_by key d ds (other_key key seen d (same_key key (key_of d)) refl is none))
excepts_if false all seen d ds is stand old new = (
  (d, first_is all seen d ds stand is, refl),
  new
      (λ key none.
      let parts = not_among key (key_of d) seen (same_key key (key_of d)) refl none in
      stand key parts.1 ∙ passed_by key d ds parts.0),
)

excepts_from : (all : List Numbered) (seen : List Key) (ds : List Numbered) → Stand all seen ds
    → AllHave IsAsItsFirst (groups_from all seen ds)
excepts_from all seen [] stand = tt
excepts_from all seen (d ∷ ds) stand =
    excepts_if (is_among (key_of d) seen) all seen d ds refl stand (excepts_from all seen ds)
    (excepts_from all (key_of d ∷ seen) ds)

pub are_as_their_first : (defs : List Numbered) → AllHave IsAsItsFirst (groups_of defs)
are_as_their_first defs = excepts_from defs [] defs (λ key none. refl)

-- what a forest of a program keeps, its groups keep
above_is : (pairs : List (ℕ × ℕ)) (n : ℕ) (gs : List Group)
    → above (forest_groups pairs n gs) ≡ exceptions_from pairs n gs
above_is pairs n [] = refl
above_is pairs n (g ∷ gs) = ap (λ (rest : List (List ℕ)). excepting pairs n ∷ rest) (above_is pairs (n + 1) gs)

abbrev IsAcyclic : List Def → Target → Type 0
IsAcyclic defs target = HasNoCycle (exceptions_of (groups_of (defs_from target 0 defs)))

acyclic_of : (defs : List Def) (targets : List Target) → AllHave IsLow (forest_of defs targets)
    → AllHave (IsAcyclic defs) targets
acyclic_of defs [] low = tt
acyclic_of defs (target ∷ targets) low =
    let groups = groups_of (defs_from target 0 defs) in
    (subst (λ (deps : List (List ℕ)). HasNoCycle deps) (above_is _ 0 groups) low.0.0, acyclic_of defs targets low.1)

pub forest_acyclic : (forest : Forest) (program : Program) (scope : ℕ) (body : Body)
    → slice_get program.bodies scope ≡ Some body → StandsFor program scope forest.targets
    → AllHave (λ target. HasNoCycle (exceptions_of (groups_of (defs_from target 0 body.defs))))
    (targets_of program.decls scope (scope_items program.decls scope) body.order)
forest_acyclic forest program scope body there stands =
    let same : stands.0 ≡ body = same_some stands.0 body (sym stands.1 ∙ there) in
    let targets : Body → List Target = λ b. targets_of program.decls scope (scope_items program.decls scope) b.order in
    let is : forest.targets ≡ forest_of body.defs (targets body) =
    stands.2 ∙ ap (λ (b : Body). forest_of b.defs (targets b)) same in
    acyclic_of body.defs (targets_of program.decls scope (scope_items program.decls scope) body.order)
    (subst (λ (ts : List ForestTarget). AllHave IsLow ts) is ((are_low_says forest.targets).0 forest.low))

pub forest_judged : (forest : Forest) (program : Program) (scope : ℕ) (body : Body)
    → slice_get program.bodies scope ≡ Some body → StandsFor program scope forest.targets
    → AllHave (λ target. AreJudgedByRule target (groups_of (defs_from target 0 body.defs)))
    (targets_of program.decls scope (scope_items program.decls scope) body.order)
forest_judged forest program scope body there stands =
    all_map (IsAcyclic body.defs) (λ target. AreJudgedByRule target (groups_of (defs_from target 0 body.defs)))
    (λ target none own group within. judging_rule target (groups_of (defs_from target 0 body.defs)) own group none
    within)
    (targets_of program.decls scope (scope_items program.decls scope) body.order)
    (forest_acyclic forest program scope body there stands)
