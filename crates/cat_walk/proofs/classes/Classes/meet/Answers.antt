use Rattle.std.proofs.Common.{◌≡◌, ◌∷◌, [], ◌++◌, ◌+◌, true, false, Bool, List, ℕ, if◌then◌else◌, length, sym}
use Rattle.std.proofs.Common.{ap, ◌∙◌, subst, slice_set}
use Rattle.std.specs.List.{list_any}
use Rattle.cat_guard.specs.Trees as tree
use Rattle.cat_walk.specs.inside.Classes.{Key, Meets}
use Rattle.cat_walk.proofs.MetLemmas.{meets_new, meets_old, same_key, is_key_test, flag_true, flag_false}
use Rattle.cat_walk.proofs.classes.Classes.meet.Goals as goal

pub returns-then-new-clause-meets : goal.returns-then-new-clause-meets
returns-then-new-clause-meets c = λ met l r classes left right.
    let s = c.args.self.now in
    let k : Key = (c.args.atom, c.args.left, c.args.right) in
    let new : list_any (same_key k) s.splits.keys ≡ false =
    flag_false (list_any (same_key k) s.splits.keys) (sym c.in_ok-index.ensures.added ∙ c.if-new.true) in
    let keys : c.insert_full.new.self.keys ≡ s.splits.keys ++ k ∷ [] =
    c.in_ok-index.ensures.keys ∙ ap (λ (b : Bool). if b then s.splits.keys else s.splits.keys ++ k ∷ []) new in
    let flags = c.in_ok-push.ensures.ok in
    subst (λ (ks : List Key). Meets ks c.push.new.self met (tree.Split c.args.atom l r) c.len.result) (sym keys)
    (subst (λ (n : ℕ). Meets (s.splits.keys ++ k ∷ []) c.push.new.self met (tree.Split c.args.atom l r) n)
    (sym (c.len.ensures ∙ ap length flags))
    (subst (λ (fs : List Bool). Meets (s.splits.keys ++ k ∷ []) fs met (tree.Split c.args.atom l r)
    (length (s.recurs ++ false ∷ []))) (sym flags)
    (meets_new same_key is_key_test s.splits.keys s.recurs met c.args.atom l r c.args.left c.args.right classes
    left right
    new)))

pub returns-clause-meets : goal.returns-clause-meets
returns-clause-meets c = λ met l r classes left right.
    let s = c.args.self.now in
    let k : Key = (c.args.atom, c.args.left, c.args.right) in
    let old : list_any (same_key k) s.splits.keys ≡ true =
    flag_true (list_any (same_key k) s.splits.keys) (sym c.in_ok-index.ensures.added ∙ c.if-new.false) in
    let keys : c.insert_full.new.self.keys ≡ s.splits.keys =
    c.in_ok-index.ensures.keys ∙ ap (λ (b : Bool). if b then s.splits.keys else s.splits.keys ++ k ∷ []) old in
    let t = tree.Split c.args.atom l r in
    subst (λ (ks : List Key). Meets ks c.set.new.self met t (c.in_ok-index.index + 1)) (sym keys)
    (subst (λ (fs : List Bool). Meets s.splits.keys fs met t (c.in_ok-index.index + 1)) (sym c.set.ensures)
    (subst (λ (n : ℕ). Meets s.splits.keys (slice_set s.recurs n true) met t (n + 1))
    (sym c.in_ok-index.ensures.index)
    (meets_old same_key is_key_test s.splits.keys s.recurs met c.args.atom l r c.args.left c.args.right classes
    left right
    old)))
