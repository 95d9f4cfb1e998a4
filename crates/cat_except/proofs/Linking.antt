-- What groups except, by their numbers.
use Rattle.std.proofs.Common.{◌≡◌, ℕ, zero, suc, ◌<◌, ◌≤◌, ◌+◌, max, Bool, true, false, if◌then◌else◌, List, []}
use Rattle.std.proofs.Common.{◌∷◌, length, get_or}
use Rattle.std.proofs.Common.{Option, Some, None, IsSome, slice_get, refl, sym, ap, subst, arith, rules}
use Rattle.std.proofs.Math.Logic.{⊎_elim}
use Rattle.std.proofs.lemmas.Bool.{cases_lt}
use Rattle.std.proofs.lemmas.Bool.Decides.{nat_tests}
use Rattle.cat_pos.specs.declared.pos.Pos.{Pos}
use Rattle.cat_order.specs.Order.{AreItems}
use Rattle.cat_order.specs.Cycle.{IsPath, IsOnCycle}
use Rattle.cat_scope.specs.declared.defs.Except.{Except}
use Rattle.cat_scope.specs.declared.defs.Except.TheVariants as except
use Rattle.cat_scope.specs.declared.defs.Def.{Def}
use Rattle.cat_scope.specs.Names.{AllHave}
use Rattle.cat_scope.specs.Groups.{Labelled, Group, same_key, group_numbers, is_none, roots_of, only, target_of}
use Rattle.cat_scope.specs.Chains.{IsChain}
use Rattle.cat_except.specs.Excepted.{listed, excepted_from, exception_word, HasWord, last_exception}
use Rattle.cat_except.specs.inside.Grouping.{defs_at, group_by, groups_at}
use Rattle.cat_except.specs.inside.Linking.{targets_from, lists_of}
use Rattle.cat_except.specs.inside.Linked.{word_at}
use Rattle.cat_except.specs.inside.Chains.{target_at}
use Rattle.cat_except.proofs.Measured.{target_of_step}

pub lists_excepted : (all gs : List Group) → lists_of (targets_from all gs) ≡ excepted_from all gs
lists_excepted all [] = refl
lists_excepted all (g ∷ gs) = ap (λ ls. listed (target_of all g.except) ∷ ls) (lists_excepted all gs)

pub as_many_groups : (defs : List Def) (lists : List (List ℕ)) → length (groups_at defs lists) ≡ length lists
as_many_groups defs [] = refl
as_many_groups defs (list ∷ lists) = ap suc (as_many_groups defs lists)

pub as_many_targets : (all gs : List Group) → length (lists_of (targets_from all gs)) ≡ length gs
as_many_targets all [] = refl
as_many_targets all (g ∷ gs) = ap suc (as_many_targets all gs)

-- an exception is one to a group of the target
numbers_low : (test : Group → Bool) (n : ℕ) (gs : List Group) → AllHave (λ m. m < n + length gs)
    (group_numbers test n gs)
numbers_low test n [] = tt
numbers_low test n (g ∷ gs) =
    by (test g) (further (group_numbers test (n + 1) gs) (numbers_low test (n + 1) gs)) where
      further : (ns : List ℕ) → AllHave (λ m. m < (n + 1) + length gs) ns → AllHave (λ m. m < n + suc (length gs)) ns
      further [] all = tt
      further (m ∷ ns) all = (omega (arith, all.0), further ns all.1)

      by : (b : Bool) → AllHave (λ m. m < n + suc (length gs)) (group_numbers test (n + 1) gs)
          → AllHave (λ m. m < n + suc (length gs))
          (if b then n ∷ group_numbers test (n + 1) gs else group_numbers test (n + 1) gs)
      by true rest = (omega arith, rest)
      by false rest = rest

only_low : (bound : ℕ) (ns : List ℕ) (h : ℕ) → AllHave (λ m. m < bound) ns → only ns ≡ Some h → h < bound
only_low bound [] h all is = absurd (search (rules, is))
only_low bound (n ∷ []) h all is = subst (λ (o : Option ℕ). below o) is all.0 where
  below : Option ℕ → Type 0
  below None = Unit {0}
  below (Some m) = m < bound
only_low bound (n ∷ m ∷ ns) h all is = absurd (search (rules, is))

target_low : (gs : List Group) (e : Except) (h : ℕ) → target_of gs e ≡ Some h → h < length gs
target_low gs except.No h is = absurd (search (rules, is))
target_low gs (except.OnlyRoot p) h is =
    let low : h < 0 + length gs = only_low (0 + length gs) (roots_of gs) h (numbers_low (λ g. is_none g.except) 0 gs) is
    in
    omega (arith, low)
target_low gs (except.Named p l) h is =
    let low : h < 0 + length gs = only_low (0 + length gs) (group_numbers (λ g. same_key (Labelled l.text) g.key) 0 gs)
    h
    (numbers_low (λ g. same_key (Labelled l.text) g.key) 0 gs) is in
    omega (arith, low)

pub targets_low : (all gs : List Group) (g h : ℕ) → target_at (targets_from all gs) g ≡ Some h → h < length all
targets_low all [] g h is = absurd (search (rules, is))
targets_low all (x ∷ gs) zero h is = target_low all x.except h is
targets_low all (x ∷ gs) (suc g) h is = targets_low all gs g h is

one_item : (bound : ℕ) (o : Option ℕ) → ((h : ℕ) → o ≡ Some h → h < bound) → (k d : ℕ) → k < length (listed o)
    → get_or (listed o) k d < bound
one_item bound None each k d within = absurd (omega (arith, within))
one_item bound (Some h) each zero d within = each h refl
one_item bound (Some h) each (suc k) d within = absurd (omega (arith, within))

all_items : (bound : ℕ) (targets : List (Option ℕ)) → ((g h : ℕ) → target_at targets g ≡ Some h → h < bound)
    → (g : ℕ) (d : List ℕ) → g < length (lists_of targets)
    → (k e : ℕ) → k < length (get_or (lists_of targets) g d) → get_or (get_or (lists_of targets) g d) k e < bound
all_items bound [] each g d within k e there = absurd (omega (arith, within))
all_items bound (o ∷ targets) each zero d within k e there = one_item bound o (each zero) k e there
all_items bound (o ∷ targets) each (suc g) d within k e there =
    all_items bound targets (λ g. each (suc g)) g d (omega (arith, within)) k e there

pub are_items : (gs : List Group) → AreItems (lists_of (targets_from gs gs))
are_items gs = all_items (length (lists_of (targets_from gs gs))) (targets_from gs gs) (λ g h is.
    subst (λ (n : ℕ). h < n) (sym (as_many_targets gs gs)) (targets_low gs gs g h is))

-- a group that excepts another one has the word `exception`
has_exception : (gs : List Group) (e : Except) (h : ℕ) → target_of gs e ≡ Some h → IsSome (exception_word e)
has_exception gs except.No h is = absurd (search (rules, is))
has_exception gs (except.OnlyRoot p) h is = refl
has_exception gs (except.Named p l) h is = refl

pub word_there : (defs : List Def) (all : List Group) (lists : List (List ℕ)) (g h : ℕ)
    → target_at (targets_from all (groups_at defs lists)) g ≡ Some h → IsSome (word_at defs lists g)
word_there defs all [] g h is = absurd (search (rules, is))
word_there defs all (list ∷ lists) zero h is = has_exception all (group_by (defs_at defs list)).except h is
word_there defs all (list ∷ lists) (suc g) h is = word_there defs all lists g h is

pub has_word : (defs : List Def) (lists : List (List ℕ)) (g : ℕ) (p : Pos) → g < length lists
    → word_at defs lists g ≡ Some p → HasWord (slice_get (groups_at defs lists) g) p
has_word defs [] g p within is = absurd (omega (arith, within))
has_word defs (list ∷ lists) zero p within is = is
has_word defs (list ∷ lists) (suc g) p within is = has_word defs lists g p (omega (arith, within)) is

-- a group on a cycle excepts one
abbrev pub ExceptsOne : List (Option ℕ) → ℕ → Type 0
ExceptsOne excepted g = (h : ℕ) × (target_at excepted g ≡ Some h)

pub one_excepted : (excepted : List (Option ℕ)) (g : ℕ) → IsOnCycle (lists_of excepted) g → ExceptsOne excepted g
unfolding IsOnCycle
one_excepted excepted g on = by on.0 on.1 where
  by : (path : List ℕ) → IsPath (lists_of excepted) g path g → ExceptsOne excepted g
  by [] goes = (g, target_of_step excepted g g goes)
  by (via ∷ path) goes = (via, target_of_step excepted g via goes.0)

-- and so does the last exception of a chain
pub last_excepts : (excepted : List (Option ℕ)) (g h : ℕ) (ns : List ℕ) → IsChain (lists_of excepted) (g ∷ h ∷ ns)
    → ExceptsOne excepted (last_exception (g ∷ h ∷ ns))
last_excepts excepted g h [] chain =
    subst (λ (n : ℕ). ExceptsOne excepted n) (max_zero g) (h, target_of_step excepted g h chain.0) where
      max_zero : (n : ℕ) → n ≡ max n 0
      max_zero n = grind (arith, nat_tests)
last_excepts excepted g h (k ∷ ns) chain = ⊎_elim
    (λ low. subst (λ (n : ℕ). ExceptsOne excepted n) (behind low) (last_excepts excepted h k ns chain.1))
    (λ high. subst (λ (n : ℕ). ExceptsOne excepted n) (here high) (h, target_of_step excepted g h chain.0))
    (cases_lt g (last_exception (h ∷ k ∷ ns))) where
      behind : g < last_exception (h ∷ k ∷ ns) → last_exception (h ∷ k ∷ ns) ≡ max g (last_exception (h ∷ k ∷ ns))
      behind low = grind (arith, nat_tests, low)

      here : last_exception (h ∷ k ∷ ns) ≤ g → g ≡ max g (last_exception (h ∷ k ∷ ns))
      here high = grind (arith, nat_tests, high)

target_in : (targets : List (Option ℕ)) (g h : ℕ) → target_at targets g ≡ Some h → g < length (lists_of targets)
target_in [] g h is = absurd (search (rules, is))
target_in (o ∷ targets) zero h is = omega arith
target_in (o ∷ targets) (suc g) h is = omega (arith, target_in targets g h is)

pub excepts_within : (defs : List Def) (all : List Group) (lists : List (List ℕ)) (g h : ℕ)
    → target_at (targets_from all (groups_at defs lists)) g ≡ Some h → g < length lists
excepts_within defs all lists g h is =
    omega (
      arith,
      target_in (targets_from all (groups_at defs lists)) g h is,
      as_many_targets all (groups_at defs lists),
      as_many_groups defs lists,
    )

pub on_cycle_within : (defs : List Def) (lists : List (List ℕ)) (g : ℕ)
    → IsOnCycle (lists_of (targets_from (groups_at defs lists) (groups_at defs lists))) g → g < length lists
on_cycle_within defs lists g on =
    let one : ExceptsOne (targets_from (groups_at defs lists) (groups_at defs lists)) g =
    one_excepted (targets_from (groups_at defs lists) (groups_at defs lists)) g on in
    excepts_within defs (groups_at defs lists) lists g one.0 one.1
