-- Marks that spread from callers to those that they call.
use Rattle.std.proofs.Common.{◌≡◌, ◌≢◌, ◌<◌, ℕ, zero, suc, Bool, true, false, IsTrue, List, [], ◌∷◌, ◌++◌}
use Rattle.std.proofs.Common.{length, set, replicate, refl, sym, ap, ◌∙◌, subst, arith, true≢false}
use Rattle.std.specs.Prelude.{nat_eq}
use Rattle.std.proofs.lemmas.Bool.Decides.{nat_tests}
use Rattle.std.proofs.lemmas.List.{length-set, get_or-set_same, get_or-set_other, length-replicate, get_or-replicate}
use Rattle.cat_order.specs.Order.{dependencies_of}
use Rattle.cat_scope.specs.Names.{all_differ, is_in}
use Rattle.cat_depend.specs.Reached.{IsReached}
use Rattle.cat_depend.specs.Reached as reach
use Rattle.cat_depend.specs.inside.Marks.{is_marked, marked, MarkReached}
use Rattle.cat_depend.proofs.Members.{apart, in_cons, in_here, in_later, in_of_listed, in_front}
use Rattle.cat_depend.proofs.Members.{listed_of_in, one_or_other}
use Rattle.cat_depend.proofs.Orderly.{IsOrderly}

-- ---- marks

differ : (n m : ℕ) → nat_eq n m ≡ false → n ≢ m
differ n m e = grind (arith, nat_tests)

pub marked_within : (marks : List Bool) (n : ℕ) → is_marked marks n ≡ true → n < length marks
marked_within [] n h = absurd (true≢false (sym h))
marked_within (b ∷ marks) zero h = omega arith
marked_within (b ∷ marks) (suc n) h = let rest = marked_within marks n h in omega arith

mark_kept : (marks : List Bool) (x n : ℕ) → is_marked marks n ≡ true → is_marked (set marks x true) n ≡ true
mark_kept [] x n h = h
mark_kept (b ∷ marks) zero zero h = refl
mark_kept (b ∷ marks) zero (suc n) h = h
mark_kept (b ∷ marks) (suc x) zero h = h
mark_kept (b ∷ marks) (suc x) (suc n) h = mark_kept marks x n h

-- a mark is the new one, or an old one
mark_old : (P : Type 0) (marks : List Bool) (x n : ℕ) → is_marked (set marks x true) n ≡ true → (n ≡ x → P)
    → (is_marked marks n ≡ true → P) → P
mark_old P marks x n h one other = one_or_other P n x one
    (λ e. other (sym (get_or-set_other marks x n true false (differ n x e)) ∙ h))

pub marks_kept : (marks : List Bool) (ns : List ℕ) (n : ℕ) → is_marked marks n ≡ true → is_marked (marked marks ns) n
    ≡ true
marks_kept marks [] n h = h
marks_kept marks (m ∷ ns) n h = marks_kept (set marks m true) ns n (mark_kept marks m n h)

pub marks_length : (marks : List Bool) (ns : List ℕ) → length (marked marks ns) ≡ length marks
marks_length marks [] = refl
marks_length marks (m ∷ ns) = marks_length (set marks m true) ns ∙ length-set marks m true

pub marks_new : (marks : List Bool) (ns : List ℕ) (n : ℕ) → ((m : ℕ) → is_in m ns ≡ true → m < length marks)
    → is_in n ns ≡ true → is_marked (marked marks ns) n ≡ true
marks_new marks [] n within h = absurd (true≢false (sym h))
marks_new marks (m ∷ ns) n within h =
    in_cons (is_marked (marked (set marks m true) ns) n ≡ true) n m ns h
    (λ same. marks_kept (set marks m true) ns n
    (subst (λ (k : ℕ). is_marked (set marks m true) k ≡ true) (sym same)
    (get_or-set_same marks m true false (within m (in_here m ns)))))
    (λ g. marks_new (set marks m true) ns n
    (λ k there. subst (λ (l : ℕ). k < l) (sym (length-set marks m true)) (within k (in_later k m ns there))) g)

pub marks_only : (P : Type 0) (marks : List Bool) (ns : List ℕ) (n : ℕ) → is_marked (marked marks ns) n ≡ true
    → (is_in n ns ≡ true → P) → (is_marked marks n ≡ true → P) → P
marks_only P marks [] n h one other = other h
marks_only P marks (m ∷ ns) n h one other =
    marks_only P (set marks m true) ns n h (λ g. one (in_later n m ns g))
    (λ g. mark_old P marks m n g
    (λ same. one (subst (λ (k : ℕ). is_in k (m ∷ ns) ≡ true) (sym same) (in_here m ns))) other)

no_mark : (count n : ℕ) → is_marked (replicate count false) n ≡ true → ⊥
no_mark count n h =
    let within = marked_within (replicate count false) n h in
    true≢false (sym h ∙ get_or-replicate count n false false
    (subst (λ (l : ℕ). n < l) (length-replicate count false) within))

-- ---- marks that spread

-- what is marked is reached, and what those call that stand in `back` is marked where they are
pub record IsUnderWay (deps : List (List ℕ)) (from : ℕ) (back : List ℕ) (marks : List Bool) : Type 0 where
  pub counted : length marks ≡ length deps
  pub begun : is_marked marks from ≡ true
  pub sound : (n : ℕ) → is_marked marks n ≡ true → IsReached deps from n
  pub spread : (n m : ℕ) → is_in n back ≡ true → is_marked marks n ≡ true
      → is_in m (dependencies_of deps n) ≡ true → is_marked marks m ≡ true

pub begins : (deps : List (List ℕ)) (count from : ℕ) → count ≡ length deps → from < count
    → IsUnderWay deps from [] (set (replicate count false) from true)
begins deps count from same within = record {
  counted = length-set (replicate count false) from true ∙ length-replicate count false ∙ same;
  begun = get_or-set_same (replicate count false) from true false
      (subst (λ (l : ℕ). from < l) (sym (length-replicate count false)) within);
  sound = λ n h. mark_old (IsReached deps from n) (replicate count false) from n h
      (λ same. subst (IsReached deps from) (sym same) reach.itself) (λ g. absurd (no_mark count n g));
  spread = λ n m h marked on. absurd (true≢false (sym h));
}

module _ (deps : List (List ℕ)) (order : List ℕ) (is : IsOrderly deps order) (from : ℕ) (front back : List ℕ) (n : ℕ)
    (at : order ≡ front ++ n ∷ back) (marks : List Bool) (way : IsUnderWay deps from back marks) where
  pub passed : is_marked marks n ≡ false → IsUnderWay deps from (n ∷ back) marks
  passed out = record {
    counted = way.counted;
    begun = way.begun;
    sound = way.sound;
    spread = λ k m h marked on. in_cons (is_marked marks m ≡ true) k n back h
        (λ same. absurd (true≢false (sym marked ∙ ap (is_marked marks) same ∙ out)))
        (λ g. way.spread k m g marked on);
  }

  -- what n calls stands in front of it
  in_need : (m : ℕ) → is_in m (dependencies_of deps n) ≡ true → is_in m front ≡ true
  in_need m on = is.needs front back n m at on

  pub need_below : (m : ℕ) → is_in m (dependencies_of deps n) ≡ true → m < length marks
  need_below m on =
      let there = is.below m (subst (λ (ns : List ℕ). is_in m ns ≡ true) (sym at)
      (in_front m front (n ∷ back) (in_need m on))) in omega (arith, there, way.counted)

  not_behind : (m : ℕ) → is_in m (dependencies_of deps n) ≡ true → is_in m back ≡ true → ⊥
  not_behind m on behind =
      apart m front (n ∷ back) (subst (λ (ns : List ℕ). IsTrue (all_differ ns)) at is.differ)
      (in_need m on) (in_later m n back behind)

  pub spread_on : is_marked marks n ≡ true → (called : List ℕ)
      → ((m : ℕ) → is_in m called ≡ is_in m (dependencies_of deps n))
      → IsUnderWay deps from (n ∷ back) (marked marks called)
  spread_on there called same = record {
    counted = marks_length marks called ∙ way.counted;
    begun = marks_kept marks called from way.begun;
    sound = λ k h. marks_only (IsReached deps from k) marks called k h
        (λ g. reach.further n k (way.sound n there) (listed_of_in (dependencies_of deps n) k (sym (same k) ∙ g)))
        (way.sound k);
    spread = λ k m h marked_k on. in_cons (is_marked (marked marks called) m ≡ true) k n back h
        (λ one. marks_new marks called m (λ l g. need_below l (sym (same l) ∙ g))
        (same m ∙ subst (λ (j : ℕ). is_in m (dependencies_of deps j) ≡ true) one on))
        (λ g. marks_only (is_marked (marked marks called) m ≡ true) marks called k marked_k
        (λ f. absurd (not_behind k (sym (same k) ∙ f) g))
        (λ old. marks_kept marks called m (way.spread k m g old on)));
  }

-- where all have passed, just what is reached is marked
pub all_marked : (deps : List (List ℕ)) (order : List ℕ) → IsOrderly deps order → (from : ℕ) (marks : List Bool)
    → IsUnderWay deps from order marks → MarkReached deps from marks
all_marked deps order is from marks way = record {
  counted = way.counted;
  decides = λ n. (way.sound n, reached n);
}
  where
    reached : (n : ℕ) → IsReached deps from n → is_marked marks n ≡ true
    reached n reach.itself = way.begun
    reached n (reach.further via to r on) =
        let there = reached via r in
        way.spread via to (is.all via (let w = marked_within marks via there in omega (arith, w, way.counted))) there
        (in_of_listed (dependencies_of deps via) to on)
