-- What each node of a pool stands for, and a pool with one node more.
use Rattle.std.proofs.Common.{◌≡◌, ℕ, zero, suc, ◌+◌, ◌-◌, ◌<◌, List, [], ◌∷◌, ◌++◌, length, take, drop, Some, None}
use Rattle.std.proofs.Common.{Result, Ok, Err}
use Rattle.std.proofs.Common.{IfOk, OnOk, OnErr, get_or, slice_get, refl, sym, ap, ◌∙◌, subst, arith, append_assoc}
use Rattle.std.proofs.Common.{append-nil, length-append}
use Rattle.std.proofs.lemmas.List.{take_all}
use Rattle.cat_value.specs.declared.value.Value.{Value}
use Rattle.cat_value.specs.declared.value.Value.TheViews as value
use Rattle.std.specs.declared.alloc.AllocError.{AllocError}
use Rattle.cat_pool.specs.Marks.{mark_of}
use Rattle.cat_pool.specs.declared.pool.Mark.{Mark}
use Rattle.cat_pool.specs.declared.node.Refs.{Refs}
use Rattle.cat_pool.specs.declared.node.PoolNode.{PoolNode}
use Rattle.cat_pool.specs.declared.node.PoolNode.TheVariants as node
use Rattle.cat_pool.specs.declared.pool.Compound.{Compound}
use Rattle.cat_pool.specs.Nodes.{Standing, values, kept_parts, at, in_range, parts_in, value_over, value_in, lone}
use Rattle.cat_pool.specs.Nodes.{AreBelow, IsPlain, IsPlaced}
use Rattle.cat_pool.specs.inside.Laid.{part_node, standing, seen, IsLaid, size, AreLaid, IsPool}
use Rattle.cat_pool.proofs.Reading.{values-append, length-values, at-front, seen_at-front}
use Rattle.cat_pool.proofs.Reading.{below-append, below-more, below-take, below-drop}
use Rattle.cat_pool.proofs.Growing.{kept-pool, kept_here, laid-behind, laid-plain, laid-whole, length-seen, seen-append}
use Rattle.cat_pool.proofs.Growing.{seen-front, seen-grown, size-plain, size-whole, standing-plain, standing-whole}
use Rattle.cat_pool.proofs.Growing.{whole_of}

-- ---- what a node stands for among all

over-front : (kept : List ℕ) (before behind : List Standing) (from : ℕ) (n : PoolNode)
    → IsLaid kept (length before) from n
    → value_over (before ++ behind) kept n ≡ value_over before kept n
over-front kept before behind from (node.Boolean b) is = refl
over-front kept before behind from (node.Integer z) is = refl
over-front kept before behind from (node.Decimal f) is = refl
over-front kept before behind from (node.Money cents) is = refl
over-front kept before behind from (node.Date day) is = refl
over-front kept before behind from (node.Duration span) is = refl
over-front kept before behind from (node.List refs) is =
    ap (λ (vs : List Value). value.List vs) (seen_at-front before behind (in_range kept refs) is.below)
over-front kept before behind from (node.Structure refs) is =
    ap (λ (vs : List Value). value.Structure vs) (seen_at-front before behind (in_range kept refs) is.below)
over-front kept before behind from (node.Case k None) is = refl
over-front kept before behind from (node.Case k (Some c)) is =
    ap (λ (v : Value). value.Case k (Some v))
    (ap (λ (vs : List Value). at vs c) (values-append before behind)
    ∙ at-front (values before) (values behind) c (subst (λ n. c < n) (sym (length-values before)) is))

values-here : (before behind : List Standing) (s : Standing)
    → slice_get (values (before ++ s ∷ behind)) (length before) ≡ Some s.value
values-here [] behind s = refl
values-here (b ∷ before) behind s = values-here before behind s

pub stands : (kept : List ℕ) (r from : ℕ) (before : List Standing) (ns : List PoolNode) (k : ℕ) (n : PoolNode)
    → AreLaid kept r from ns → length before ≡ r → slice_get ns k ≡ Some n
    → slice_get (values (seen kept before ns)) (r + k) ≡ Some (value_over (seen kept before ns) kept n)
stands kept r from before [] k n are long is = absurd (cc is)
stands kept r from before (m ∷ ns) zero n are long is =
    let same : m ≡ n = cc is in
    let rest = seen-front kept (before ++ standing kept before m ∷ []) ns in
    let whole : seen kept before (m ∷ ns) ≡ before ++ standing kept before m ∷ rest.0
    = rest.1 ∙ append_assoc before (standing kept before m ∷ []) rest.0 in
    let place : r + 0 ≡ length before = omega (arith, long) in
    let laid : IsLaid kept (length before) from m = subst (λ k. IsLaid kept k from m) (sym long) are.0 in
    ap (λ j. slice_get (values (seen kept before (m ∷ ns))) j) place
    ∙ ap (λ (l : List Standing). slice_get (values l) (length before)) whole
    ∙ values-here before rest.0 (standing kept before m)
    ∙ ap Some (sym (over-front kept before (standing kept before m ∷ rest.0) from m laid)
    ∙ ap (λ (l : List Standing). value_over l kept m) (sym whole)
    ∙ ap (λ p. value_over (seen kept before (m ∷ ns)) kept p) same)
stands kept r from before (m ∷ ns) (suc k) n are long is =
    let place : r + suc k ≡ (r + 1) + k = omega arith in
    let longer : length (before ++ standing kept before m ∷ []) ≡ r + 1
    = omega (arith, length-append before (standing kept before m ∷ []), long) in
    ap (λ j. slice_get (values (seen kept before (m ∷ ns))) j) place
    ∙ stands kept (r + 1) (from + size m) (before ++ standing kept before m ∷ []) ns k n are.1 longer is

-- the value of a node of a pool
pub stands_for : (kept : List ℕ) (ns : List PoolNode) (k : ℕ) (n : PoolNode) → IsPool ns kept → slice_get ns k ≡ Some n
    → slice_get (values (seen kept [] ns)) k ≡ Some (value_in (seen kept [] ns) n)
stands_for kept ns k n is at_k =
    let place : k ≡ 0 + k = omega arith in
    ap (λ j. slice_get (values (seen kept [] ns)) j) place
    ∙ stands kept 0 0 [] ns k n is.laid refl at_k
    ∙ ap (λ (l : List ℕ). Some (value_over (seen kept [] ns) l n)) (sym (kept-pool kept ns is))

laid-at : (kept : List ℕ) (r from : ℕ) (ns : List PoolNode) (k : ℕ) (n : PoolNode) → AreLaid kept r from ns
    → slice_get ns k ≡ Some n → (there : ℕ) × IsLaid kept (r + k) there n
laid-at kept r from [] k n are is = absurd (cc is)
laid-at kept r from (m ∷ ns) zero n are is =
    let same : m ≡ n = cc is in
    let place : r ≡ r + 0 = omega arith in
    (from, subst (λ j. IsLaid kept j from n) place (subst (λ p. IsLaid kept r from p) same are.0))
laid-at kept r from (m ∷ ns) (suc k) n are is =
    let rest = laid-at kept (r + 1) (from + size m) ns k n are.1 is in
    let place : (r + 1) + k ≡ r + suc k = omega arith in
    (rest.0, subst (λ j. IsLaid kept j rest.0 n) place rest.1)

placed_by : (nodes : List Standing) (r from : ℕ) (n : PoolNode) → IsLaid (kept_parts nodes) r from n
    → IsPlaced nodes r n
placed_by nodes r from (node.Boolean b) is = tt
placed_by nodes r from (node.Integer z) is = tt
placed_by nodes r from (node.Decimal f) is = tt
placed_by nodes r from (node.Money cents) is = tt
placed_by nodes r from (node.Date day) is = tt
placed_by nodes r from (node.Duration span) is = tt
placed_by nodes r from (node.List refs) is = ((is.ordered, is.within), is.below)
placed_by nodes r from (node.Structure refs) is = ((is.ordered, is.within), is.below)
placed_by nodes r from (node.Case k None) is = tt
placed_by nodes r from (node.Case k (Some c)) is = is

-- the parts of a node of a pool
pub placed_in : (kept : List ℕ) (ns : List PoolNode) (k : ℕ) (n : PoolNode) → IsPool ns kept → slice_get ns k ≡ Some n
    → IsPlaced (seen kept [] ns) k n
placed_in kept ns k n is at_k =
    let laid = laid-at kept 0 0 ns k n is.laid at_k in
    let place : 0 + k ≡ k = omega arith in
    placed_by (seen kept [] ns) k laid.0 n
    (subst (λ (l : List ℕ). IsLaid l k laid.0 n) (sym (kept-pool kept ns is))
    (subst (λ j. IsLaid kept j laid.0 n) place laid.1))

-- ---- each reference that is kept is one of a node

here_below : (kept : List ℕ) (r from : ℕ) (n : PoolNode) → IsLaid kept r from n → AreBelow r (parts_in kept n)
here_below kept r from (node.List refs) is = is.below
here_below kept r from (node.Structure refs) is = is.below
here_below kept r from _ is = tt

below_all : (kept : List ℕ) (r from : ℕ) (ns : List PoolNode) → AreLaid kept r from ns → AreBelow r (take from kept)
    → AreBelow (r + length ns) kept
below_all kept r from [] are so_far =
    let place : r ≡ r + length {A = PoolNode} [] = omega arith in
    subst (λ n. AreBelow n kept) place
    (subst (λ (l : List ℕ). AreBelow r l) (take_all from kept (omega (arith, are))) so_far)
below_all kept r from (n ∷ ns) are so_far =
    let place : (r + 1) + length ns ≡ r + length (n ∷ ns) = omega arith in
    let now : AreBelow r (take (from + size n) kept)
    = subst (λ (l : List ℕ). AreBelow r l) (kept_here kept r from n are.0)
    (below-append r (take from kept) (parts_in kept n) so_far (here_below kept r from n are.0)) in
    subst (λ k. AreBelow k kept) place
    (below_all kept (r + 1) (from + size n) ns are.1 (below-more r (r + 1) (take (from + size n) kept)
    (omega arith) now))

pub kept_below : (kept : List ℕ) (ns : List PoolNode) (refs : Refs) → IsPool ns kept
    → AreBelow (length (seen kept [] ns)) (in_range kept refs)
kept_below kept ns refs is =
    let long : 0 + length ns ≡ length (seen kept [] ns) = omega (arith, length-seen kept [] ns) in
    below-take (length (seen kept [] ns)) (refs.end - refs.start) (drop refs.start kept)
    (below-drop (length (seen kept [] ns)) refs.start kept
    (subst (λ k. AreBelow k kept) long (below_all kept 0 0 ns is.laid tt)))

-- ---- a pool with one node more

pub seen_plain : (kept : List ℕ) (ns : List PoolNode) (n : PoolNode) → IsPlain (seen kept [] ns) n
    → seen kept [] (ns ++ n ∷ []) ≡ seen kept [] ns ++ lone (value_in (seen kept [] ns) n) ∷ []
seen_plain kept ns n plain =
    seen-append kept [] ns (n ∷ [])
    ∙ ap (λ (s : Standing). seen kept [] ns ++ s ∷ []) (standing-plain kept (seen kept [] ns) n plain)

pub pool_plain : (kept : List ℕ) (ns : List PoolNode) (n : PoolNode) → IsPool ns kept → IsPlain (seen kept [] ns) n
    → length ns + 1 < 4294967296 → IsPool (ns ++ n ∷ []) kept
pool_plain kept ns n is plain fits =
    let here : IsLaid (kept ++ []) (0 + length ns) (length kept) n
    = subst (λ k. IsLaid (kept ++ []) k (length kept) n) (length-seen kept [] ns)
    (laid-plain (kept ++ []) (seen kept [] ns) (length kept) n plain) in
    let ends : length kept + size n ≡ length (kept ++ [])
    = omega (arith, size-plain (seen kept [] ns) n plain, length-append kept []) in
    record {
      laid = subst (λ (l : List ℕ). AreLaid l 0 0 (ns ++ n ∷ [])) (append-nil kept)
          (laid-behind kept [] 0 0 ns n is.laid here ends);
      nodes_fit = omega (arith, fits, length-append ns (n ∷ []));
      kept_fit = is.kept_fit;
    }

-- the node of a list or a structure of these parts
abbrev pub laid_node : Compound → List ℕ → List ℕ → PoolNode
laid_node w kept more = part_node w (record { start = length kept; end = length kept + length more })

pub seen_whole : (w : Compound) (kept more : List ℕ) (ns : List PoolNode) → IsPool ns kept
    → seen (kept ++ more) [] (ns ++ laid_node w kept more ∷ [])
    ≡ seen kept [] ns ++ whole_of w (seen kept [] ns) more ∷ []
seen_whole w kept more ns is =
    seen-append (kept ++ more) [] ns (laid_node w kept more ∷ [])
    ∙ ap (λ (l : List Standing). l ++ standing (kept ++ more) l (laid_node w kept more) ∷ [])
    (seen-grown kept more 0 0 [] ns is.laid)
    ∙ ap (λ (s : Standing). seen kept [] ns ++ s ∷ []) (standing-whole w kept more (seen kept [] ns))

pub pool_whole : (w : Compound) (kept more : List ℕ) (ns : List PoolNode) → IsPool ns kept
    → AreBelow (length (seen kept [] ns)) more
    → length ns + 1 < 4294967296 → length kept + length more < 4294967296
    → IsPool (ns ++ laid_node w kept more ∷ []) (kept ++ more)
pool_whole w kept more ns is below nodes_fit kept_fit =
    let here : IsLaid (kept ++ more) (0 + length ns) (length kept) (laid_node w kept more)
    = subst (λ k. IsLaid (kept ++ more) k (length kept) (laid_node w kept more)) (length-seen kept [] ns)
    (laid-whole w kept more (length (seen kept [] ns)) below) in
    record {
      laid = laid-behind kept more 0 0 ns (laid_node w kept more) is.laid here (size-whole w kept more);
      nodes_fit = omega (arith, nodes_fit, length-append ns (laid_node w kept more ∷ []));
      kept_fit = omega (arith, kept_fit, length-append kept more);
    }

-- by whether there was room
module _ (w : Compound) (kept more kept' : List ℕ) (ns ns' : List PoolNode) (is : IsPool ns kept)
    (below : AreBelow (length (seen kept [] ns)) more) where
  pub pool_laid : (res : Result ℕ AllocError) → OnOk res (length ns + 1 < 4294967296)
      → OnOk res (length kept + length more < 4294967296) → OnOk res (ns' ≡ ns ++ laid_node w kept more ∷ [])
      → OnOk res (kept' ≡ kept ++ more) → OnErr res ((ns' ≡ ns) × (kept' ≡ kept)) → IsPool ns' kept'
  pool_laid (Ok r) places fits nodes_are kept_are err =
      subst (λ (l : List PoolNode). IsPool l kept') (sym nodes_are)
      (subst (λ (l : List ℕ). IsPool (ns ++ laid_node w kept more ∷ []) l) (sym kept_are)
      (pool_whole w kept more ns is below places fits))
  pool_laid (Err e) places fits nodes_are kept_are err =
      subst (λ (l : List PoolNode). IsPool l kept') (sym err.0) (subst (λ (l : List ℕ). IsPool ns l) (sym err.1) is)

  pub seen_laid : (res : Result ℕ AllocError) → OnOk res (ns' ≡ ns ++ laid_node w kept more ∷ [])
      → OnOk res (kept' ≡ kept ++ more)
      → OnOk res (seen kept' [] ns' ≡ seen kept [] ns ++ whole_of w (seen kept [] ns) more ∷ [])
  seen_laid (Ok r) nodes_are kept_are =
      ap (λ (l : List ℕ). seen l [] ns') kept_are ∙ ap (seen (kept ++ more) []) nodes_are ∙ seen_whole w kept more ns is
  seen_laid (Err e) nodes_are kept_are = tt

  pub place_laid : (res : Result ℕ AllocError) → IfOk res (λ r. r ≡ length ns)
      → IfOk res (λ r. r ≡ length (seen kept [] ns))
  place_laid (Ok r) place = place ∙ sym (omega (arith, length-seen kept [] ns))
  place_laid (Err e) place = tt

-- what a mark says
abbrev pub the_mark : ℕ → ℕ → Mark
the_mark nodes parts = record { nodes = nodes; parts = parts }

pub mark-seen : (kept : List ℕ) (ns : List PoolNode) (a b : ℕ) → IsPool ns kept → a ≡ length ns → b ≡ length kept
    → the_mark a b ≡ mark_of (seen kept [] ns)
mark-seen kept ns a b is nodes parts =
    ap (λ n. the_mark n b) (nodes ∙ sym (omega (arith, length-seen kept [] ns)))
    ∙ ap (λ p. the_mark (length (seen kept [] ns)) p) (parts ∙ sym (ap length (kept-pool kept ns is)))

pub read_at : {A : Type 0} (xs : List A) (k : ℕ) (x : A) → k < length xs → x ≡ get_or xs k x → slice_get xs k ≡ Some x
read_at [] k x below is = absurd (omega (arith, below))
read_at (y ∷ xs) zero x below is = ap Some (sym is)
read_at (y ∷ xs) (suc k) x below is = read_at xs k x (omega (arith, below)) is
