-- Values that are loaded one behind the other.
use Rattle.std.proofs.Common.{◌≡◌, ℕ, ℤ, zero, suc, ◌+◌, ◌<◌, ◌≤◌, ◌-◌, Bool, Result, Ok, Err, OnOk, IfOk, List, []}
use Rattle.std.proofs.Common.{◌∷◌, ◌++◌, length, take, drop, Some, None, refl, sym, ap, ◌∙◌, subst, arith}
use Rattle.std.proofs.Common.{slice_get, get_or, length-append, take-append-drop}
use Rattle.std.proofs.lemmas.List.{drop_all, drop_more, map-append, take-append-le, take_all, take_more}
use Rattle.std.specs.declared.alloc.AllocError.{AllocError}
use Rattle.cat_num.specs.Frac.{Fraction}
use Rattle.cat_date.specs.Span.{SpanOf}
use Rattle.cat_value.specs.declared.value.Value.{Value}
use Rattle.cat_value.specs.declared.value.Value.TheVariants as flat
use Rattle.cat_value.specs.declared.value.Value.TheViews as value
use Rattle.cat_pool.specs.Nodes.{Standing, values, at, seen_at, AreBelow}
use Rattle.cat_pool.specs.Loading.{Extends, node_count, node_counts}
use Rattle.cat_pool.proofs.Counting.{count_List, count_Structure, count_Some, count_None, count_Boolean, count_Integer}
use Rattle.cat_pool.proofs.Counting.{count_Decimal, count_Money, count_Date, count_Duration}
use Rattle.cat_pool.proofs.Reading.{length-values, seen_at-front, below-append, below-more}

-- the nodes behind those of a pool that is extended
pub behind_of : (old new : List Standing) → Extends old new → new ≡ old ++ drop (length old) new
behind_of old new is =
    sym (take-append-drop (length old) new) ∙ ap (λ (l : List Standing). l ++ drop (length old) new) is

pub longer : (old new : List Standing) → Extends old new → length old ≤ length new
longer old new is = omega (arith, ap length (behind_of old new is), length-append old (drop (length old) new))

pub extends_on : (first old new : List Standing) → Extends first old → Extends old new → Extends first new
extends_on first old new one other =
    ap (take (length first)) (behind_of old new other)
    ∙ take-append-le (length first) old (drop (length old) new) (longer first old one)
    ∙ one

pub seen_at-extends : (old new : List Standing) (rs : List ℕ) → Extends old new → AreBelow (length old) rs
    → seen_at new rs ≡ seen_at old rs
seen_at-extends old new rs is below =
    ap (λ (l : List Standing). seen_at l rs) (behind_of old new is) ∙ seen_at-front old (drop (length old) new) rs below

pub at_is : (vs : List Value) (r : ℕ) (v : Value) → slice_get vs r ≡ Some v → at vs r ≡ v
at_is [] r v is = absurd (cc is)
at_is (w ∷ vs) zero v is = cc is
at_is (w ∷ vs) (suc r) v is = at_is vs r v is

pub below_is : (vs : List Value) (r : ℕ) (v : Value) → slice_get vs r ≡ Some v → r < length vs
below_is [] r v is = absurd (cc is)
below_is (w ∷ vs) zero v is = omega arith
below_is (w ∷ vs) (suc r) v is = let rest = below_is vs r v is in omega (arith, rest)

pub ruleset reads = (at_is)

-- the first of some values are loaded
pub record AreLoaded (old new : List Standing) (vs : List Value) (i : ℕ) (refs : List ℕ) : Type 0 where
  pub seen : seen_at new refs ≡ take i vs
  pub below : AreBelow (length new) refs
  pub count : length new + node_counts (drop i vs) ≡ length old + node_counts vs
  pub kept : Extends old new

pub one_loaded : (old new next : List Standing) (vs : List Value) (i : ℕ) (refs : List ℕ) (v : Value) (r : ℕ)
    → AreLoaded old new vs i refs → i < length vs → v ≡ get_or vs i v
    → slice_get (values next) r ≡ Some v → length next ≡ length new + node_count v → Extends new next
    → AreLoaded old next vs (i + 1) (refs ++ r ∷ [])
one_loaded old new next vs i refs v r are within is at_r count kept = record {
  seen =
      map-append (at (values next)) refs (r ∷ [])
      ∙ ap (λ (l : List Value). l ++ at (values next) r ∷ []) (seen_at-extends new next refs kept are.below ∙ are.seen)
      ∙ ap (λ (w : Value). take i vs ++ w ∷ []) (at_is (values next) r v at_r ∙ is)
      ∙ sym (take_more vs i v within);
  below = below-append (length next) refs (r ∷ [])
      (below-more (length new) (length next) refs (longer new next kept) are.below)
      (subst (λ n. r < n) (length-values next) (below_is (values next) r v at_r), tt);
  count =
      let next_is : node_counts (drop i vs) ≡ node_count v + node_counts (drop (i + 1) vs)
      = ap node_counts (drop_more vs i v within ∙ ap (λ (w : Value). w ∷ drop (i + 1) vs) (sym is)) in
      let before = are.count in omega (arith, next_is, before, count);
  kept = extends_on old new next are.kept kept;
}

-- ---- one node behind the others

pub put_extends : (old new : List Standing) (s : Standing) → new ≡ old ++ s ∷ [] → Extends old new
put_extends old new s is =
    ap (take (length old)) is ∙ take-append-le (length old) old (s ∷ []) (omega arith)
    ∙ take_all (length old) old (omega arith)

pub put_count : (old new : List Standing) (s : Standing) → new ≡ old ++ s ∷ [] → length new ≡ length old + 1
put_count old new s is = ap length is ∙ length-append old (s ∷ [])

pub put_value : (old new : List Standing) (s : Standing) (r : ℕ) → new ≡ old ++ s ∷ [] → r ≡ length old
    → slice_get (values new) r ≡ Some s.value
put_value old new s r is at_end =
    ap (λ (l : List Standing). slice_get (values l) r) is ∙ ap (slice_get (values (old ++ s ∷ []))) at_end ∙ last old
  where
    last : (l : List Standing) → slice_get (values (l ++ s ∷ [])) (length l) ≡ Some s.value
    last [] = refl
    last (x ∷ l) = last l

pub same_extends : (old new : List Standing) → new ≡ old → Extends old new
same_extends old new is = ap (take (length old)) is ∙ take_all (length old) old (omega arith)

pub ruleset puts = (put_extends, put_count, put_value, same_extends)

-- ---- what is loaded, by the forms of values

pub loaded_List : (n m k : ℕ) (vs : List Value) → m ≡ n + node_counts vs → k ≡ m + 1
    → k ≡ n + node_count (value.List vs)
loaded_List n m k vs all is = omega (arith, count_List vs, all, is)

pub loaded_Structure : (n m k : ℕ) (vs : List Value) → m ≡ n + node_counts vs → k ≡ m + 1
    → k ≡ n + node_count (value.Structure vs)
loaded_Structure n m k vs all is = omega (arith, count_Structure vs, all, is)

pub loaded_Case : (n m k c : ℕ) (v : Value) → m ≡ n + node_count v → k ≡ m + 1
    → k ≡ n + node_count (value.Case c (Some v))
loaded_Case n m k c v all is = omega (arith, count_Some c v, all, is)

pub loaded_None : (n k c : ℕ) → k ≡ n + 1 → k ≡ n + node_count (value.Case c None)
loaded_None n k c is = omega (arith, count_None c, is)

pub loaded_Boolean : (n k : ℕ) (b : Bool) → k ≡ n + 1 → k ≡ n + node_count (flat.Boolean b)
loaded_Boolean n k b is = omega (arith, count_Boolean b, is)

pub loaded_Integer : (n k : ℕ) (z : ℤ) → k ≡ n + 1 → k ≡ n + node_count (flat.Integer z)
loaded_Integer n k z is = omega (arith, count_Integer z, is)

pub loaded_Decimal : (n k : ℕ) (f : Fraction) → k ≡ n + 1 → k ≡ n + node_count (flat.Decimal f)
loaded_Decimal n k f is = omega (arith, count_Decimal f, is)

pub loaded_Money : (n k : ℕ) (cents : ℤ) → k ≡ n + 1 → k ≡ n + node_count (flat.Money cents)
loaded_Money n k cents is = omega (arith, count_Money cents, is)

pub loaded_Date : (n k : ℕ) (day : ℤ) → k ≡ n + 1 → k ≡ n + node_count (flat.Date day)
loaded_Date n k day is = omega (arith, count_Date day, is)

pub loaded_Duration : (n k : ℕ) (span : SpanOf) → k ≡ n + 1 → k ≡ n + node_count (flat.Duration span)
loaded_Duration n k span is = omega (arith, count_Duration span, is)

pub ruleset loads = (
  loaded_List,
  loaded_Structure,
  loaded_Case,
  loaded_None,
  loaded_Boolean,
  loaded_Integer,
  loaded_Decimal,
  loaded_Money,
  loaded_Date,
  loaded_Duration,
  extends_on,
)

-- what a call adds that may want memory
pub counted : (res : Result ℕ AllocError) (n m k c : ℕ) (v w : Value) → v ≡ w → node_count w ≡ 1 + c → m ≡ n + c
    → OnOk res (k ≡ m + 1) → OnOk res (k ≡ n + node_count v)
counted (Ok r) n m k c v w same one all is = omega (arith, ap node_count same, one, all, is)
counted (Err e) n m k c v w same one all is = tt

pub valued : (res : Result ℕ AllocError) (new : List Standing) (v w : Value) → w ≡ v
    → IfOk res (λ r. slice_get (values new) r ≡ Some w) → IfOk res (λ r. slice_get (values new) r ≡ Some v)
valued (Ok r) new v w same is = is ∙ ap Some same
valued (Err e) new v w same is = tt

-- ---- what comes out again

pub part_below : (n : ℕ) (rs : List ℕ) (i : ℕ) → AreBelow n rs → i < length rs → get_or rs i 0 < n
part_below n [] i below within = absurd (omega (arith, within))
part_below n (q ∷ rs) zero below within = below.0
part_below n (q ∷ rs) (suc i) below within = part_below n rs i below.1 (omega (arith, within))

pub unloaded_more : (nodes : List Standing) (rs : List ℕ) (i : ℕ) (vs : List Value) (v : Value) → i < length rs
    → vs ≡ seen_at nodes (take i rs) → slice_get (values nodes) (get_or rs i 0) ≡ Some v
    → vs ++ v ∷ [] ≡ seen_at nodes (take (i + 1) rs)
unloaded_more nodes rs i vs v within so_far at_r =
    ap (λ (l : List Value). l ++ v ∷ []) so_far
    ∙ ap (λ (w : Value). seen_at nodes (take i rs) ++ w ∷ []) (sym (at_is (values nodes) (get_or rs i 0) v at_r))
    ∙ sym (map-append (at (values nodes)) (take i rs) (get_or rs i 0 ∷ []))
    ∙ ap (seen_at nodes) (sym (take_more rs i 0 within))

-- ---- what is left behind a value

pub flat_left : (nodes : List Standing) (r left : ℕ) (v : Value) → slice_get (values nodes) r ≡ Some v
    → node_count v ≡ 1
    → left - 1 ≡ left - node_count (at (values nodes) r)
flat_left nodes r left v at_r one =
    ap (λ k. left - k) (sym one ∙ ap node_count (sym (at_is (values nodes) r v at_r)))

pub left_behind : (nodes : List Standing) (r left res c : ℕ) (v : Value) → slice_get (values nodes) r ≡ Some v
    → node_count v ≡ 1 + c → res ≡ left - 1 - c → res ≡ left - node_count (at (values nodes) r)
left_behind nodes r left res c v at_r many is =
    let same : node_count (at (values nodes) r) ≡ 1 + c = ap node_count (at_is (values nodes) r v at_r) ∙ many in
    omega (arith, same, is)

pub left_next : (nodes : List Standing) (rs : List ℕ) (i n m all : ℕ) → i < length rs
    → m ≡ n - node_count (at (values nodes) (get_or rs i 0)) → n - node_counts (seen_at nodes (drop i rs)) ≡ all
    → m - node_counts (seen_at nodes (drop (i + 1) rs)) ≡ all
left_next nodes rs i n m all within m_is kept =
    let next : node_counts (seen_at nodes (drop i rs))
    ≡ node_count (at (values nodes) (get_or rs i 0)) + node_counts (seen_at nodes (drop (i + 1) rs))
    = ap (λ (l : List ℕ). node_counts (seen_at nodes l)) (drop_more rs i 0 within) in
    omega (arith, next, m_is, kept)

pub none_left : (nodes : List Standing) (rs : List ℕ) (i n all : ℕ) → n ≡ 0
    → n - node_counts (seen_at nodes (drop i rs)) ≡ all → 0 ≡ all
none_left nodes rs i n all none kept = omega (arith, none, kept)

pub left_over : (nodes : List Standing) (rs : List ℕ) (i n all : ℕ) → length rs ≤ i
    → n - node_counts (seen_at nodes (drop i rs)) ≡ all → n ≡ all
left_over nodes rs i n all past kept =
    let none : node_counts (seen_at nodes (drop i rs)) ≡ 0
    = ap (λ (l : List ℕ). node_counts (seen_at nodes l)) (drop_all i rs past) in
    omega (arith, none, kept)

pub nothing_left : (n m : ℕ) → n ≡ 0 → 0 ≡ n - m
nothing_left n m none = omega (arith, none)

pub ruleset lefts = (left_next, none_left, left_over, nothing_left)
