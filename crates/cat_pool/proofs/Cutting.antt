-- What stays where the nodes behind a mark are gone.
use Rattle.std.proofs.Common.{◌≡◌, ℕ, ◌+◌, ◌≤◌, List, [], ◌∷◌, ◌++◌, length, take, drop, refl, sym, ap, ◌∙◌, subst}
use Rattle.std.proofs.Common.{arith}
use Rattle.std.proofs.Common.{Some, length-take-le, take-append-drop}
use Rattle.std.proofs.lemmas.List.{take_all}
use Rattle.std.proofs.Math.Seq.{take-append_seam}
use Rattle.cat_pool.specs.declared.node.Refs.{Refs}
use Rattle.cat_pool.specs.declared.node.PoolNode.{PoolNode}
use Rattle.cat_pool.specs.declared.node.PoolNode.TheVariants as node
use Rattle.cat_pool.specs.declared.pool.Mark.{Mark}
use Rattle.cat_pool.specs.Nodes.{Standing, kept_parts, in_range, AreBelow}
use Rattle.cat_pool.specs.Marks.{IsMarkIn, mark_of}
use Rattle.cat_pool.specs.Loading.{Extends}
use Rattle.cat_pool.specs.inside.Laid.{seen, IsRange, IsLaid, size, AreLaid, IsPool}
use Rattle.cat_pool.proofs.Reading.{in_range-append}
use Rattle.cat_pool.proofs.Growing.{seen-append, length-seen, seen-front, seen-grown, kept-seen}

-- how many references nodes keep
abbrev sizes : List PoolNode → ℕ
sizes [] = 0
sizes (n ∷ ns) = size n + sizes ns

-- nodes in front keep no more than all
sizes_within : (kept : List ℕ) (r from : ℕ) (front behind : List PoolNode) → AreLaid kept r from (front ++ behind)
    → from + sizes front ≤ length kept
sizes_within kept r from [] [] are = omega (arith, are)
sizes_within kept r from [] (n ∷ ns) are =
    let rest = sizes_within kept (r + 1) (from + size n) [] ns are.1 in omega (arith, rest)
sizes_within kept r from (n ∷ front) behind are =
    let rest = sizes_within kept (r + 1) (from + size n) front behind are.1 in omega (arith, rest)

range_cut : (kept : List ℕ) (r from end : ℕ) (refs : Refs) → IsRange kept r from refs → refs.end ≤ end
    → end ≤ length kept
    → IsRange (take end kept) r from refs
range_cut kept r from end refs is front fits =
    let long : length (take end kept) ≡ end = length-take-le end kept fits in
    let within : refs.end ≤ length (take end kept) = omega (arith, front, long) in
    let same : in_range kept refs ≡ in_range (take end kept) refs
    = ap (λ (l : List ℕ). in_range l refs) (sym (take-append-drop end kept))
    ∙ in_range-append (take end kept) (drop end kept) refs is.ordered within in
    record {
      starts = is.starts;
      ordered = is.ordered;
      within = within;
      below = subst (λ (l : List ℕ). AreBelow r l) same is.below;
    }

laid_cut : (kept : List ℕ) (r from end : ℕ) (n : PoolNode) → IsLaid kept r from n → from + size n ≤ end
    → end ≤ length kept
    → IsLaid (take end kept) r from n
laid_cut kept r from end (node.List refs) is front fits =
    range_cut kept r from end refs is (let s = is.starts in let o = is.ordered in omega (arith, front, s, o)) fits
laid_cut kept r from end (node.Structure refs) is front fits =
    range_cut kept r from end refs is (let s = is.starts in let o = is.ordered in omega (arith, front, s, o)) fits
laid_cut kept r from end (node.Case k (Some c)) is front fits = is
laid_cut kept r from end _ is front fits = tt

are_laid_cut : (kept : List ℕ) (r from end : ℕ) (front behind : List PoolNode) → AreLaid kept r from (front ++ behind)
    → from + sizes front ≡ end → end ≤ length kept → AreLaid (take end kept) r from front
are_laid_cut kept r from end [] behind are ends fits = omega (arith, ends, length-take-le end kept fits)
are_laid_cut kept r from end (n ∷ front) behind are ends fits = (
  laid_cut kept r from end n are.0 (omega (arith, ends)) fits,
  are_laid_cut kept (r + 1) (from + size n) end front behind are.1 (omega (arith, ends)) fits,
)

module _ (kept : List ℕ) (ns : List PoolNode) (is : IsPool ns kept) (mark : Mark)
    (fits : IsMarkIn mark (seen kept [] ns)) where
  abbrev front : List PoolNode
  front = take mark.nodes ns

  abbrev behind : List PoolNode
  behind = drop mark.nodes ns

  split : front ++ behind ≡ ns
  split = take-append-drop mark.nodes ns

  laid : AreLaid kept 0 0 (front ++ behind)
  laid = subst (λ (l : List PoolNode). AreLaid kept 0 0 l) (sym split) is.laid

  within : mark.nodes ≤ length ns
  within = let w = fits.within in omega (arith, w, length-seen kept [] ns)

  many : length (seen kept [] front) ≡ mark.nodes
  many = omega (arith, length-seen kept [] front, length-take-le mark.nodes ns within)

  -- the nodes in front
  first : take mark.nodes (seen kept [] ns) ≡ seen kept [] front
  first =
      let rest = seen-front kept (seen kept [] front) behind in
      let whole : seen kept [] ns ≡ seen kept [] front ++ rest.0
      = ap (λ (l : List PoolNode). seen kept [] l) (sym split) ∙ seen-append kept [] front behind ∙ rest.1 in
      ap (λ n. take n (seen kept [] ns)) (sym many)
      ∙ ap (λ (l : List Standing). take (length (seen kept [] front)) l) whole
      ∙ take-append_seam (seen kept [] front) rest.0

  fewer : sizes front ≤ length kept
  fewer = let all = sizes_within kept 0 0 front behind laid in omega (arith, all)

  cut : AreLaid (take (sizes front) kept) 0 0 front
  cut = are_laid_cut kept 0 0 (sizes front) front behind laid (omega arith) fewer

  same : seen kept [] front ≡ seen (take (sizes front) kept) [] front
  same =
      ap (λ (l : List ℕ). seen l [] front) (sym (take-append-drop (sizes front) kept))
      ∙ seen-grown (take (sizes front) kept) (drop (sizes front) kept) 0 0 [] front cut

  parts_are : mark.parts ≡ sizes front
  parts_are =
      fits.parts ∙ ap (λ (l : List Standing). length (kept_parts l)) (first ∙ same)
      ∙ ap length (kept-seen (take (sizes front) kept) 0 0 [] front cut refl)
      ∙ length-take-le (sizes front) kept fewer

  pub released : seen (take mark.parts kept) [] (take mark.nodes ns) ≡ take mark.nodes (seen kept [] ns)
  released = ap (λ n. seen (take n kept) [] front) parts_are ∙ sym same ∙ sym first

  pub pool_released : IsPool (take mark.nodes ns) (take mark.parts kept)
  pool_released = record {
    laid = subst (λ n. AreLaid (take n kept) 0 0 front) (sym parts_are) cut;
    nodes_fit = let f = is.nodes_fit in omega (arith, f, length-take-le mark.nodes ns within, within);
    kept_fit = let f = is.kept_fit in
        omega (arith, f, ap (λ n. length (take n kept)) parts_are, length-take-le (sizes front) kept fewer, fewer);
  }

-- a mark is one in each pool that extends its own
pub IsMarkIn-of_Extends : (old new : List Standing) → Extends old new → IsMarkIn (mark_of old) new
IsMarkIn-of_Extends old new extends = record {
  within = within_of old new extends;
  parts = sym (ap (λ (l : List Standing). length (kept_parts l)) extends);
}
  where
    within_of : (old new : List Standing) → take (length old) new ≡ old → length old ≤ length new
    within_of [] new is = omega arith
    within_of (o ∷ old) [] is = absurd (cc is)
    within_of (o ∷ old) (n ∷ new) is = let rest : take (length old) new ≡ old = cc is in
        let shorter = within_of old new rest in omega (arith, shorter)

pub marked : (mark : Mark) (old new : List Standing) → mark ≡ mark_of old → Extends old new → IsMarkIn mark new
marked mark old new is extends = subst (λ m. IsMarkIn m new) (sym is) (IsMarkIn-of_Extends old new extends)

pub given_back : (mark : Mark) (old mid new : List Standing) → mark ≡ mark_of old → Extends old mid
    → new ≡ take mark.nodes mid → new ≡ old
given_back mark old mid new is extends back = back ∙ ap (λ (m : Mark). take m.nodes mid) is ∙ extends

pub given_back_extends : (mark : Mark) (old mid new : List Standing) → mark ≡ mark_of old → Extends old mid
    → new ≡ take mark.nodes mid → Extends old new
given_back_extends mark old mid new is extends back =
    ap (take (length old)) (given_back mark old mid new is extends back) ∙ take_all (length old) old (omega arith)
