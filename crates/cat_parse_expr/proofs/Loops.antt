-- A loop over turns is read rightly, where each turn is.
use Rattle.std.proofs.Common.{◌≡◌, ℕ, zero, suc, ◌≤◌, ◌<◌, Bool, true, false, if◌then◌else◌, List, [], ◌∷◌, ◌++◌}
use Rattle.std.proofs.Common.{length, refl, sym, ap, subst, ◌∙◌, append_assoc, arith, inl, inr, ◌⊎◌}
use Rattle.cat_parse_expr.proofs.Common.{Token, TokenKind, Parts, AreSpelled, ◌▸◌, all, Parsed, Fails, Reads, Reader}
use Rattle.cat_parse_expr.proofs.Common.{◌⨟◌, pure, after, left_of, Agree, AgreePast, Is, Taken, Says, Alike, IsRight}
use Rattle.cat_parse_expr.proofs.Joining.{no_front, spelled_split}
use Rattle.cat_parse_expr.proofs.Sequel.{Past, part_right}
use Rattle.cat_parse_expr.proofs.Choices.{next_seen, refit, widened, Recast, recast}
use Rattle.cat_parse_expr.proofs.Wholes.{SameBut, same_right}
use Rattle.cat_parse_expr.proofs.Lists as lists

-- A loop over states: whether it goes on, what a value makes of a state, which states are good and which are low, what
-- may stand behind one where the loop ends or goes on, what is looked past, and the values of a turn with their rows.
pub record Loop (S X : Type 0) : Type 1 where
  pub goes : S → List Token → Bool
  pub put : S → X → S
  pub Good : S → Type 0
  pub Low : S → Type 0
  pub Out : S → List Token → Type 0
  pub More : S → List Token → Type 0
  pub looks : TokenKind → Bool
  pub FitsOne : S → X → Type 0
  pub row_one : X → Parts

module _ {S X : Type 0} (l : Loop S X) (one : S → Reader X) where
  abbrev pub read_from : ℕ → S → Reader (List X)
  read_from = lists.listed l.goes one l.put

  -- all of these may be read from the state on
  abbrev pub FitsFrom : S → List X → Type 0
  FitsFrom s [] = Unit {0}
  FitsFrom s (x ∷ xs) = l.FitsOne s x × FitsFrom (l.put s x) xs

  abbrev pub rows : List X → Parts
  rows = all l.row_one

  abbrev pub LowFrom : S → List X → Type 0
  LowFrom s xs = l.Low (lists.put_all l.put s xs)

  abbrev pub OutFrom : S → List X → List Token → Type 0
  OutFrom s xs v = l.Out (lists.put_all l.put s xs) v

  -- behind a turn the loop ends, or goes on
  abbrev pub NextOne : S → X → List Token → Type 0
  NextOne s x v = l.Out (l.put s x) v ⊎ l.More (l.put s x) v

  -- what is asked of a turn
  pub record Turning : Type 0 where
    pub right : (s : S) (bound : ℕ) → l.Good s → l.Low s → (us : List Token) → l.goes s us ≡ true
        → IsRight (λ x. l.Low (l.put s x)) bound (NextOne s) l.looks (l.FitsOne s) l.row_one (one s)
    pub begins : (s : S) (x : X) (w v : List Token) → l.FitsOne s x → AreSpelled (l.row_one x) w → l.More s (w ++ v)
    pub leads : (s : S) (v : List Token) → l.More s v → l.goes s v ≡ true
    pub stops : (s : S) (v : List Token) → l.Out s v → l.goes s v ≡ false
    pub ends : (s : S) → l.goes s [] ≡ false
    pub sees : (s : S) (p : Token) (ps qs : List Token) → Agree ps qs → l.goes s (p ∷ ps) ≡ l.goes s (p ∷ qs)
    pub sees_past : (s : S) (ls others : List Token) → AgreePast l.looks ls others → l.goes s ls ≡ l.goes s others
    pub moves : (s : S) (ts : List Token) → l.goes s ts ≡ true → length (left_of (one s ts)) < length ts
    pub takes : (s : S) (ts : List Token) (x : X) (left : List Token) → one s ts ≡ Reads x left
        → length left < length ts
    pub grows : (s : S) (x : X) → l.Low (l.put s x) → l.Low s
    pub stays : (s : S) (x : X) → l.FitsOne s x → l.Good s → l.Good (l.put s x)

  -- ---- with as much fuel as there are tokens

  abbrev pub loop_of : S → Reader (List X)
  loop_of s ts = read_from (length ts) s ts

  module _ (t : Turning) where
    clash : (c : Bool) → c ≡ true → c ≡ false → ⊥
    clash c x y = absurd cc

    pub lows : (s : S) (xs : List X) → LowFrom s xs → l.Low s
    lows s [] low = low
    lows s (x ∷ xs) low = t.grows s x (lows (l.put s x) xs low)

    -- ---- how far it reads

    with_left : (x : X) (o : Parsed (List X)) → left_of (lists.with_first x o) ≡ left_of o
    with_left x (Fails left deep whole) = refl
    with_left x (Reads xs left) = refl

    pub shorter : (n : ℕ) (s : S) (ts : List Token) → length (left_of (read_from n s ts)) ≤ length ts
    shorter zero s ts = omega arith
    shorter (suc n) s ts = by (λ x left. shorter n (l.put s x) left) (l.goes s ts) refl (one s ts) refl
      where
        by : ((x : X) (left : List Token) → length (left_of (read_from n (l.put s x) left)) ≤ length left)
            → (c : Bool) → l.goes s ts ≡ c → (o : Parsed X) → one s ts ≡ o
            → length (left_of (if c then after o (λ x left. lists.with_first x (read_from n (l.put s x) left))
            else Reads [] ts)) ≤ length ts
        by rest false e o i = omega arith
        by rest true e (Fails left deep whole) i =
            omega (arith, t.moves s ts e, ap (λ (z : Parsed X). length (left_of z)) i)
        by rest true e (Reads x left) i =
            omega (
              arith,
              t.takes s ts x left i,
              rest x left,
              ap length (with_left x (read_from n (l.put s x) left)),
            )

    moved : (n : ℕ) (s : S) (ts : List Token) → l.goes s ts ≡ true → (o : Parsed X) → one s ts ≡ o
        → length (left_of (after o (λ x left. lists.with_first x (read_from n (l.put s x) left)))) < length ts
    moved n s ts e (Fails left deep whole) i = omega (
      arith,
      t.moves s ts e,
      ap (λ (z : Parsed X). length (left_of z)) i,
    )
    moved n s ts e (Reads x left) i =
        omega (
          arith,
          t.takes s ts x left i,
          shorter n (l.put s x) left,
          ap length (with_left x (read_from n (l.put s x) left)),
        )

    past_of : (o : Parsed (List X)) (ts : List Token) → length (left_of o) < length ts → Past l.looks l.looks o ts
    past_of (Fails left deep whole) ts lt = λ h. lt
    past_of (Reads xs left) ts lt = λ h. inl lt

    pub past : (n : ℕ) (s : S) (ts : List Token) → Past l.looks l.looks (read_from n s ts) ts
    past zero s ts = λ h. inr (λ k e. e)
    past (suc n) s ts = by (l.goes s ts) refl
      where
        by : (c : Bool) → l.goes s ts ≡ c
            → Past l.looks l.looks (if c then after (one s ts)
            (λ x left. lists.with_first x (read_from n (l.put s x) left)) else Reads [] ts) ts
        by false e = λ h. inr (λ k e. e)
        by true e =
            past_of (after (one s ts) (λ x left. lists.with_first x (read_from n (l.put s x) left))) ts
            (moved n s ts e (one s ts) refl)

    -- ---- a turn, and all others

    abbrev Pair : Type 0
    Pair = X × List X

    abbrev pair_fits : S → Pair → Type 0
    pair_fits s y = l.FitsOne s y.0 × FitsFrom (l.put s y.0) y.1

    abbrev pair_low : S → Pair → Type 0
    pair_low s y = LowFrom s (y.0 ∷ y.1)

    abbrev pair_out : S → Pair → List Token → Type 0
    pair_out s y v = OutFrom s (y.0 ∷ y.1) v

    abbrev pair_rest : Pair → Parts
    pair_rest y = rows y.1

    others_behind : (s : S) (x : X) → l.FitsOne s x
        → Recast (LowFrom (l.put s x)) (pair_low s) (OutFrom (l.put s x)) (pair_out s) (FitsFrom (l.put s x))
        (λ y. pair_fits s y × (y.0 ≡ x)) rows pair_rest (λ xs. (x, xs))
    others_behind s x fit = record {
      to = λ xs w i. record { fit = ((fit, i.fit), refl); levels = i.levels; spelled = i.spelled };
      from =
          λ y w i. (
            y.1,
            ap (λ (z : X). (z, y.1)) i.fit.1,
            record {
              fit = subst (λ (z : X). FitsFrom (l.put s z) y.1) i.fit.1 i.fit.0.1;
              levels = i.levels;
              spelled = i.spelled;
            },
          );
      lows = λ xs fit low. low;
      back = λ xs fit low. low;
      outside = λ xs v fit o. o;
    }

    -- behind the words of a turn the next one begins, or the loop ends
    pub next_is : (s : S) (xs : List X) (w v : List Token) → FitsFrom s xs → AreSpelled (rows xs) w → OutFrom s xs v
        → l.Out s (w ++ v) ⊎ l.More s (w ++ v)
    next_is s [] w v fit spelled o = inl (subst (λ (u : List Token). l.Out s (u ++ v)) (sym spelled) o)
    next_is s (x ∷ xs) w v fit spelled o =
        let q = spelled_split (l.row_one x) (rows xs) w spelled in
        inr
        (subst (l.More s) (sym (ap (λ (u : List Token). u ++ v) q.text ∙ append_assoc q.first q.second v))
        (t.begins s x q.first (q.second ++ v) fit.0 q.one))

    abbrev pair_from : ℕ → S → Reader Pair
    pair_from n s = one s ⨟ λ x. read_from n (l.put s x) ⨟ λ xs. pure (x, xs)

    left_same : (x : X) (o : Parsed (List X)) (ts : List Token) → Past l.looks l.looks o ts
        → Past {B = Pair} l.looks l.looks (after o (λ xs. pure (x, xs))) ts
    left_same x (Fails left deep whole) ts h = h
    left_same x (Reads xs left) ts h = h

    pairs_right : (n bound : ℕ) (s : S) → bound ≤ suc n → l.Good s → l.Low s → (us : List Token) → l.goes s us ≡ true
        → ((x : X) → l.FitsOne s x → l.Low (l.put s x)
        → IsRight (LowFrom (l.put s x)) n (OutFrom (l.put s x)) l.looks (FitsFrom (l.put s x)) rows
        (read_from n (l.put s x)))
        → IsRight (pair_low s) bound (pair_out s) l.looks (pair_fits s) (λ y. l.row_one y.0 ▸ pair_rest y)
        (pair_from n s)
    pairs_right n bound s le good low us e others =
        part_right bound n (pair_low s) (pair_low s) (λ x. l.Low (l.put s x)) (pair_out s) (NextOne s) l.looks l.looks
        (pair_fits s) (l.FitsOne s) (λ y. y.0) l.row_one pair_rest (one s)
        (λ x. read_from n (l.put s x) ⨟ λ xs. pure (x, xs))
        (record {
          fit = λ y fit. fit.0;
          behind = λ y w v fit spelled o. next_is (l.put s y.0) y.1 w v fit.1 spelled o;
          shrinks = λ ts x left le2 i. omega (arith, le, le2, t.takes s ts x left i);
          past = λ x ts fit le2. left_same x (read_from n (l.put s x) ts) ts (past n (l.put s x) ts);
          joins = λ y fit a b. b;
          part = λ y fit a. lows (l.put s y.0) y.1 a;
          others = λ y fit a. a;
        })
        (t.right s bound good low us e)
        (λ x fit. record {
          value = (x, []);
          more = [];
          is = record { fit = ((fit, tt), refl); levels = tt; spelled = refl };
        })
        (λ x fit fine. recast n (LowFrom (l.put s x)) (pair_low s) (OutFrom (l.put s x)) (pair_out s) l.looks
        (FitsFrom (l.put s x))
        (λ y. pair_fits s y × (y.0 ≡ x)) rows pair_rest (λ xs. (x, xs)) (read_from n (l.put s x))
        (others_behind s x fit)
        (others x fit fine))

    -- ---- one turn more, or none

    abbrev Some_of : S → List X → Type 0
    Some_of s [] = ⊥
    Some_of s (x ∷ xs) = FitsFrom s (x ∷ xs)

    turned : (s : S) → Recast (pair_low s) (LowFrom s) (pair_out s) (OutFrom s) (pair_fits s) (Some_of s)
        (λ y. l.row_one y.0 ▸ pair_rest y) rows (λ y. y.0 ∷ y.1)
    turned s = record {
      to = λ y w i. record { fit = i.fit; levels = i.levels; spelled = i.spelled };
      from = from;
      lows = λ y fit low. low;
      back = λ y fit low. low;
      outside = λ y v fit o. o;
    }
      where
        from : (xs : List X) (w : List Token) → Is (Some_of s) rows xs w
            → (y : Pair) × (xs ≡ y.0 ∷ y.1) × Is (pair_fits s) (λ y. l.row_one y.0 ▸ pair_rest y) y w
        from [] w i = absurd i.fit
        from (x ∷ xs) w i =
            ((x, xs), refl, record { fit = i.fit; levels = i.levels; spelled = i.spelled })

    -- a turn, then the rest of the loop
    abbrev going : ℕ → S → Reader (List X)
    going n s ts = after (one s ts) (λ x left. lists.with_first x (read_from n (l.put s x) left))

    going_same : (n : ℕ) (s : S) (o : Parsed X)
        → SameBut (after {A = Pair} (after o (λ x. read_from n (l.put s x) ⨟ λ xs. pure (x, xs)))
        (λ y. pure (y.0 ∷ y.1)))
        (after o (λ x left. lists.with_first x (read_from n (l.put s x) left)))
    going_same n s (Fails left deep whole) = (whole, refl)
    going_same n s (Reads x left) = by (read_from n (l.put s x) left)
      where
        by : (o : Parsed (List X))
            → SameBut (after {A = Pair} (after o (λ xs. pure (x, xs))) (λ y. pure (y.0 ∷ y.1)))
            (lists.with_first x o)
        by (Fails us deep whole) = (whole, refl)
        by (Reads xs us) = refl

    going_right : (n bound : ℕ) (s : S) → bound ≤ suc n → l.Good s → l.Low s → (us : List Token) → l.goes s us ≡ true
        → ((x : X) → l.FitsOne s x → l.Low (l.put s x)
        → IsRight (LowFrom (l.put s x)) n (OutFrom (l.put s x)) l.looks (FitsFrom (l.put s x)) rows
        (read_from n (l.put s x)))
        → IsRight (LowFrom s) bound (OutFrom s) l.looks (Some_of s) rows (going n s)
    going_right n bound s le good low us e others =
        same_right (LowFrom s) (OutFrom s) l.looks (Some_of s) rows bound (pair_from n s ⨟ λ y. pure (y.0 ∷ y.1))
        (going n s) (λ ts. going_same n s (one s ts))
        (recast bound (pair_low s) (LowFrom s) (pair_out s) (OutFrom s) l.looks (pair_fits s) (Some_of s)
        (λ y. l.row_one y.0 ▸ pair_rest y) rows (λ y. y.0 ∷ y.1) (pair_from n s) (turned s)
        (pairs_right n bound s le good low us e others))

    -- tokens that go on alike behind a first one
    goes_same : (s : S) (f : Token) (front left others : List Token) → Agree left others
        → l.goes s ((f ∷ front) ++ left) ≡ l.goes s ((f ∷ front) ++ others)
    goes_same s f front left others g = t.sees s f (front ++ left) (front ++ others) (by front)
      where
        by : (front : List Token) → Agree (front ++ left) (front ++ others)
        by [] = g
        by (p ∷ ps) = refl

    -- where none begins, nothing else is read
    says_none : (s : S) (ts front : List Token) (y : List X) (w : List Token) → l.goes s ts ≡ false → ts ≡ front ++ ts
        → Alike (OutFrom s) l.looks (FitsFrom s) rows (Reads [] ts) front y w → (y ≡ []) × (w ≡ front)
    says_none s ts front [] w e text a = (refl, a.is.spelled ∙ sym (no_front front ts text))
    says_none s ts front (x ∷ xs) w e text a =
        let q = spelled_split (l.row_one x) (rows xs) w a.is.spelled in
        let begun : l.goes s (w ++ a.behind) ≡ true =
        ap (l.goes s) (ap (λ (u : List Token). u ++ a.behind) q.text ∙ append_assoc q.first q.second a.behind)
        ∙ t.leads s (q.first ++ (q.second ++ a.behind)) (t.begins s x q.first (q.second ++ a.behind) a.is.fit.0 q.one)
        in
        let there : w ++ a.behind ≡ a.others =
        a.text ∙ ap (λ (u : List Token). u ++ a.others) (no_front front ts text) in
        absurd (clash (l.goes s (w ++ a.behind)) begun
        (ap (l.goes s) there ∙ sym (t.sees_past s ts a.others a.seen) ∙ e))

    module _ (n bound : ℕ) (s : S) (low : l.Low s) (right : (us : List Token) → l.goes s us ≡ true
        → IsRight (LowFrom s) bound (OutFrom s) l.looks (Some_of s) rows (going n s)) where
      any_fit : (xs : List X) → Some_of s xs → FitsFrom s xs
      any_fit [] f = tt
      any_fit (x ∷ xs) f = f

      abbrev chosen : Bool → List Token → Parsed (List X)
      chosen c ts = if c then going n s ts else Reads [] ts

      taken_by : (ts : List Token) → length ts ≤ bound → (c : Bool) → l.goes s ts ≡ c
          → Taken (LowFrom s) (FitsFrom s) rows (chosen c ts) ts
      taken_by ts le true e =
          let k = (right ts e).taken ts le in
          record {
            front = k.front;
            text = k.text;
            took = widened (LowFrom s) (Some_of s) (FitsFrom s) rows (going n s ts) k.front any_fit k.took;
          }
      taken_by ts le false e =
          record { front = []; text = refl; took = (record { fit = tt; levels = tt; spelled = refl }, low) }

      abbrev Likely : Parsed (List X) → List Token → List X → List Token → Type 0
      Likely o front y w = Alike (OutFrom s) l.looks (FitsFrom s) rows o front y w

      -- where a turn begins, what was read isn't nothing
      goes_there : (ts front : List Token) (y : List X) (w : List Token) → l.goes s ts ≡ true
          → ts ≡ front ++ left_of (going n s ts) → (a : Likely (going n s ts) front y w)
          → l.goes s (w ++ a.behind) ≡ true
      goes_there ts [] y w e text a =
          absurd (no_less (moved n s ts e (one s ts) refl) (ap length text))
        where
          no_less : {k m : ℕ} → k < m → m ≡ k → ⊥
          no_less lt same = omega (arith, lt, same)
      goes_there ts (f ∷ front) y w e text a =
          ap (l.goes s) a.text
          ∙ sym (goes_same s f front (left_of (going n s ts)) a.others
          (next_seen l.looks (going n s ts) a.others a.seen))
          ∙ ap (l.goes s) (sym text) ∙ e

      says_going : (ts front : List Token) (y : List X) (w : List Token) → length ts ≤ bound → l.goes s ts ≡ true
          → ts ≡ front ++ left_of (going n s ts) → Likely (going n s ts) front y w → Says (LowFrom s)
          (going n s ts) y w front
      says_going ts front [] w le e text a =
          absurd (clash (l.goes s (w ++ a.behind)) (goes_there ts front [] w e text a)
          (ap (λ (u : List Token). l.goes s (u ++ a.behind)) a.is.spelled ∙ t.stops s a.behind a.outside))
      says_going ts front (x ∷ xs) w le e text a =
          (right ts e).says ts front (x ∷ xs) w le text
          (record {
            others = a.others;
            behind = a.behind;
            seen = a.seen;
            is = refit (FitsFrom s) (Some_of s) rows (x ∷ xs) w a.is.fit a.is;
            outside = a.outside;
            text = a.text;
          })

      says_by : (ts : List Token) → length ts ≤ bound → (c : Bool) → l.goes s ts ≡ c → (front : List Token) (y : List X)
          (w : List Token) → ts ≡ front ++ left_of (chosen c ts) → Likely (chosen c ts) front y w
          → Says (LowFrom s) (chosen c ts) y w front
      says_by ts le true e front y w text a = says_going ts front y w le e text a
      says_by ts le false e front y w text a = says_none s ts front y w e text a

      more_right : IsRight (LowFrom s) bound (OutFrom s) l.looks (FitsFrom s) rows (read_from (suc n) s)
      more_right = record {
        alive = record { value = []; more = []; is = record { fit = tt; levels = tt; spelled = refl } };
        taken = λ ts le. taken_by ts le (l.goes s ts) refl;
        says = λ ts front y w le text a. says_by ts le (l.goes s ts) refl front y w text a;
      }

    -- ---- the loop

    nothing_right : (s : S) → l.Low s → IsRight (LowFrom s) 0 (OutFrom s) l.looks (FitsFrom s) rows (read_from 0 s)
    nothing_right s low = record {
      alive = record { value = []; more = []; is = record { fit = tt; levels = tt; spelled = refl } };
      taken =
          λ ts le. record { front = []; text = refl; took = (record { fit = tt; levels = tt; spelled = refl }, low) };
      says = λ ts front y w le text a. says_none s ts front y w (at_end ts le) text a;
    }
      where
        at_end : (ts : List Token) → length ts ≤ 0 → l.goes s ts ≡ false
        at_end [] le = t.ends s
        at_end (p ∷ ts) le = absurd (omega (arith, le))

    -- the loop is read rightly from each state that is low
    pub loop_right : (n : ℕ) (s : S) → l.Good s → l.Low s
        → IsRight (LowFrom s) n (OutFrom s) l.looks (FitsFrom s) rows (read_from n s)
    loop_right zero s good low = nothing_right s low
    loop_right (suc n) s good low =
        more_right n (suc n) s low
        (λ us e. going_right n (suc n) s (omega arith) good low us e
        (λ x fit fine. loop_right n (l.put s x) (t.stays s x fit good) fine))
