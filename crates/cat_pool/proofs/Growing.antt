-- What nodes stand for as more come behind.
use Rattle.std.proofs.Common.{◌≡◌, ℕ, ◌+◌, ◌-◌, List, [], ◌∷◌, ◌++◌, length, take, drop, Some, None}
use Rattle.std.proofs.Common.{refl, sym, ap, ◌∙◌, subst, arith, append_assoc}
use Rattle.std.proofs.Common.{append-nil, length-append}
use Rattle.std.proofs.Common.{take-add}
use Rattle.std.proofs.lemmas.List.{take_all}
use Rattle.std.proofs.Math.Seq.{drop-append_seam}
use Rattle.cat_pool.specs.declared.node.Refs.{Refs}
use Rattle.cat_pool.specs.declared.node.PoolNode.{PoolNode}
use Rattle.cat_pool.specs.declared.node.PoolNode.TheVariants as node
use Rattle.cat_pool.specs.declared.pool.Compound.{Compound}
use Rattle.cat_pool.specs.declared.pool.Compound.TheVariants as compound
use Rattle.cat_pool.specs.Nodes.{Standing, kept_parts, in_range, parts_in, value_in, lone}
use Rattle.cat_pool.specs.Nodes.{listed}
use Rattle.cat_pool.specs.Nodes.{structured, AreBelow, IsPlain}
use Rattle.cat_pool.specs.inside.Laid.{part_node, standing, seen, IsRange, IsLaid, size, AreLaid, IsPool}
use Rattle.cat_pool.proofs.Reading.{kept_parts-append}
use Rattle.cat_pool.proofs.Reading.{in_range-append}

pub seen-append : (kept : List ℕ) (before : List Standing) (ns ms : List PoolNode)
    → seen kept before (ns ++ ms) ≡ seen kept (seen kept before ns) ms
seen-append kept before [] ms = refl
seen-append kept before (n ∷ ns) ms = seen-append kept (before ++ standing kept before n ∷ []) ns ms

pub length-seen : (kept : List ℕ) (before : List Standing) (ns : List PoolNode)
    → length (seen kept before ns) ≡ length before + length ns
length-seen kept before [] = omega arith
length-seen kept before (n ∷ ns) =
    let rest = length-seen kept (before ++ standing kept before n ∷ []) ns in
    omega (arith, rest, length-append before (standing kept before n ∷ []))

-- what stands in front stays in front
pub seen-front : (kept : List ℕ) (before : List Standing) (ns : List PoolNode)
    → (behind : List Standing) × (seen kept before ns ≡ before ++ behind)
seen-front kept before [] = ([], sym (append-nil before))
seen-front kept before (n ∷ ns) =
    let rest = seen-front kept (before ++ standing kept before n ∷ []) ns in
    (standing kept before n ∷ rest.0, rest.1 ∙ append_assoc before (standing kept before n ∷ []) rest.0)

-- ---- a node that keeps no references

pub standing-plain : (kept : List ℕ) (nodes : List Standing) (n : PoolNode) → IsPlain nodes n
    → standing kept nodes n ≡ lone (value_in nodes n)
standing-plain kept nodes (node.Boolean b) plain = refl
standing-plain kept nodes (node.Integer z) plain = refl
standing-plain kept nodes (node.Decimal f) plain = refl
standing-plain kept nodes (node.Money cents) plain = refl
standing-plain kept nodes (node.Date day) plain = refl
standing-plain kept nodes (node.Duration span) plain = refl
standing-plain kept nodes (node.List refs) plain = absurd plain
standing-plain kept nodes (node.Structure refs) plain = absurd plain
standing-plain kept nodes (node.Case k None) plain = refl
standing-plain kept nodes (node.Case k (Some r)) plain = refl

pub laid-plain : (kept : List ℕ) (nodes : List Standing) (from : ℕ) (n : PoolNode) → IsPlain nodes n
    → IsLaid kept (length nodes) from n
laid-plain kept nodes from (node.Boolean b) plain = tt
laid-plain kept nodes from (node.Integer z) plain = tt
laid-plain kept nodes from (node.Decimal f) plain = tt
laid-plain kept nodes from (node.Money cents) plain = tt
laid-plain kept nodes from (node.Date day) plain = tt
laid-plain kept nodes from (node.Duration span) plain = tt
laid-plain kept nodes from (node.List refs) plain = absurd plain
laid-plain kept nodes from (node.Structure refs) plain = absurd plain
laid-plain kept nodes from (node.Case k None) plain = tt
laid-plain kept nodes from (node.Case k (Some r)) plain = plain

pub size-plain : (nodes : List Standing) (n : PoolNode) → IsPlain nodes n → size n ≡ 0
size-plain nodes (node.Boolean b) plain = refl
size-plain nodes (node.Integer z) plain = refl
size-plain nodes (node.Decimal f) plain = refl
size-plain nodes (node.Money cents) plain = refl
size-plain nodes (node.Date day) plain = refl
size-plain nodes (node.Duration span) plain = refl
size-plain nodes (node.List refs) plain = absurd plain
size-plain nodes (node.Structure refs) plain = absurd plain
size-plain nodes (node.Case k None) plain = refl
size-plain nodes (node.Case k (Some r)) plain = refl

-- ---- more references are kept

range-grown : (kept more : List ℕ) (r from : ℕ) (refs : Refs) → IsRange kept r from refs
    → IsRange (kept ++ more) r from refs
range-grown kept more r from refs is =
    record {
      starts = is.starts;
      ordered = is.ordered;
      within = let w = is.within in omega (arith, w, length-append kept more);
      below = subst (λ (l : List ℕ). AreBelow r l) (sym (in_range-append kept more refs is.ordered is.within)) is.below;
    }

laid-grown : (kept more : List ℕ) (r from : ℕ) (n : PoolNode) → IsLaid kept r from n → IsLaid (kept ++ more) r from n
laid-grown kept more r from (node.Boolean b) is = tt
laid-grown kept more r from (node.Integer z) is = tt
laid-grown kept more r from (node.Decimal f) is = tt
laid-grown kept more r from (node.Money cents) is = tt
laid-grown kept more r from (node.Date day) is = tt
laid-grown kept more r from (node.Duration span) is = tt
laid-grown kept more r from (node.List refs) is = range-grown kept more r from refs is
laid-grown kept more r from (node.Structure refs) is = range-grown kept more r from refs is
laid-grown kept more r from (node.Case k None) is = tt
laid-grown kept more r from (node.Case k (Some c)) is = is

standing-grown : (kept more : List ℕ) (r from : ℕ) (before : List Standing) (n : PoolNode) → IsLaid kept r from n
    → standing (kept ++ more) before n ≡ standing kept before n
standing-grown kept more r from before (node.Boolean b) is = refl
standing-grown kept more r from before (node.Integer z) is = refl
standing-grown kept more r from before (node.Decimal f) is = refl
standing-grown kept more r from before (node.Money cents) is = refl
standing-grown kept more r from before (node.Date day) is = refl
standing-grown kept more r from before (node.Duration span) is = refl
standing-grown kept more r from before (node.List refs) is =
    ap (listed before) (in_range-append kept more refs is.ordered is.within)
standing-grown kept more r from before (node.Structure refs) is =
    ap (structured before) (in_range-append kept more refs is.ordered is.within)
standing-grown kept more r from before (node.Case k None) is = refl
standing-grown kept more r from before (node.Case k (Some c)) is = refl

pub seen-grown : (kept more : List ℕ) (r from : ℕ) (before : List Standing) (ns : List PoolNode)
    → AreLaid kept r from ns
    → seen (kept ++ more) before ns ≡ seen kept before ns
seen-grown kept more r from before [] are = refl
seen-grown kept more r from before (n ∷ ns) are =
    ap (λ (s : Standing). seen (kept ++ more) (before ++ s ∷ []) ns) (standing-grown kept more r from before n are.0)
    ∙ seen-grown kept more (r + 1) (from + size n) (before ++ standing kept before n ∷ []) ns are.1

-- one node more, and the references that it keeps
pub laid-behind : (kept more : List ℕ) (r from : ℕ) (ns : List PoolNode) (n : PoolNode) → AreLaid kept r from ns
    → IsLaid (kept ++ more) (r + length ns) (length kept) n → length kept + size n ≡ length (kept ++ more)
    → AreLaid (kept ++ more) r from (ns ++ n ∷ [])
laid-behind kept more r from [] n are is ends =
    let place : r + length {A = PoolNode} [] ≡ r = omega arith in
    let here : IsLaid (kept ++ more) r from n
    = subst (λ k. IsLaid (kept ++ more) k from n) place
    (subst (λ k. IsLaid (kept ++ more) (r + length {A = PoolNode} []) k n) (sym are) is) in
    (here, omega (arith, are, ends))
laid-behind kept more r from (m ∷ ns) n are is ends =
    let place : r + length (m ∷ ns) ≡ (r + 1) + length ns = omega arith in (
      laid-grown kept more r from m are.0,
      laid-behind kept more (r + 1) (from + size m) ns n are.1
          (subst (λ k. IsLaid (kept ++ more) k (length kept) n) place is) ends,
    )

-- ---- the references are kept in the order of the nodes

no_more : (kept : List ℕ) (from : ℕ) → take from kept ++ [] ≡ take (from + 0) kept
no_more kept from =
    let same : from ≡ from + 0 = omega arith in append-nil (take from kept) ∙ ap (λ k. take k kept) same

of_range : (kept : List ℕ) (r from : ℕ) (refs : Refs) → IsRange kept r from refs
    → take from kept ++ in_range kept refs ≡ take (from + (refs.end - refs.start)) kept
of_range kept r from refs is =
    ap (λ k. take from kept ++ take (refs.end - refs.start) (drop k kept)) is.starts
    ∙ sym (take-add from (refs.end - refs.start) kept)

pub kept_here : (kept : List ℕ) (r from : ℕ) (n : PoolNode) → IsLaid kept r from n
    → take from kept ++ parts_in kept n ≡ take (from + size n) kept
kept_here kept r from (node.List refs) is = of_range kept r from refs is
kept_here kept r from (node.Structure refs) is = of_range kept r from refs is
kept_here kept r from _ is = no_more kept from

-- the references of the nodes so far
kept_next : (kept : List ℕ) (r from : ℕ) (before : List Standing) (n : PoolNode) → IsLaid kept r from n
    → kept_parts before ≡ take from kept → kept_parts (before ++ standing kept before n ∷ [])
    ≡ take (from + size n) kept
kept_next kept r from before n is so_far =
    kept_parts-append before (standing kept before n ∷ [])
    ∙ ap (λ (l : List ℕ). kept_parts before ++ l) (append-nil (parts_in kept n))
    ∙ ap (λ (l : List ℕ). l ++ parts_in kept n) so_far
    ∙ kept_here kept r from n is

pub kept-seen : (kept : List ℕ) (r from : ℕ) (before : List Standing) (ns : List PoolNode) → AreLaid kept r from ns
    → kept_parts before ≡ take from kept → kept_parts (seen kept before ns) ≡ kept
kept-seen kept r from before [] are so_far = so_far ∙ take_all from kept (omega (arith, are))
kept-seen kept r from before (n ∷ ns) are so_far =
    kept-seen kept (r + 1) (from + size n) (before ++ standing kept before n ∷ []) ns are.1
    (kept_next kept r from before n are.0 so_far)

-- of a pool
pub kept-pool : (kept : List ℕ) (ns : List PoolNode) → IsPool ns kept → kept_parts (seen kept [] ns) ≡ kept
kept-pool kept ns is = kept-seen kept 0 0 [] ns is.laid refl

-- ---- a list or a structure

abbrev pub whole_of : Compound → List Standing → List ℕ → Standing
whole_of compound.List = listed
whole_of compound.Structure = structured

last_range : (kept more : List ℕ)
    → in_range (kept ++ more) (record { start = length kept; end = length kept + length more }) ≡ more
last_range kept more =
    let many : length kept + length more - length kept ≡ length more = omega arith in
    ap (λ n. take n (drop (length kept) (kept ++ more))) many
    ∙ ap (take (length more)) (drop-append_seam kept more)
    ∙ take_all (length more) more (omega arith)

pub standing-whole : (w : Compound) (kept more : List ℕ) (before : List Standing)
    → standing (kept ++ more) before (part_node w (record { start = length kept; end = length kept + length more }))
    ≡ whole_of w before more
standing-whole compound.List kept more before = ap (listed before) (last_range kept more)
standing-whole compound.Structure kept more before = ap (structured before) (last_range kept more)

pub laid-whole : (w : Compound) (kept more : List ℕ) (r : ℕ) → AreBelow r more
    → IsLaid (kept ++ more) r (length kept)
    (part_node w (record { start = length kept; end = length kept + length more }))
laid-whole compound.List kept more r below =
    record {
      starts = refl;
      ordered = omega arith;
      within = omega (arith, length-append kept more);
      below = subst (λ (l : List ℕ). AreBelow r l) (sym (last_range kept more)) below;
    }
laid-whole compound.Structure kept more r below =
    record {
      starts = refl;
      ordered = omega arith;
      within = omega (arith, length-append kept more);
      below = subst (λ (l : List ℕ). AreBelow r l) (sym (last_range kept more)) below;
    }

pub size-whole : (w : Compound) (kept more : List ℕ)
    → length kept + size (part_node w (record { start = length kept; end = length kept + length more }))
    ≡ length (kept ++ more)
size-whole compound.List kept more = omega (arith, length-append kept more)
size-whole compound.Structure kept more = omega (arith, length-append kept more)
