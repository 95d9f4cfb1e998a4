-- Loops over turns that readers of parts give.
use Rattle.std.proofs.Common.{◌≡◌, ℕ, zero, suc, ◌≤◌, ◌<◌, Bool, true, false, if◌then◌else◌, List, [], ◌∷◌, ◌++◌}
use Rattle.std.proofs.Common.{length, Some, None, refl, sym, ap, subst, ◌∙◌, append_assoc, arith, inr, ◌⊎◌}
use Rattle.std.proofs.lemmas.List.{length-append, append-nil, append_cancel_left}
use Rattle.cat_parse_expr.proofs.Common.{Token, Parts, End, AreLevelled, AreSpelled, ◌▸◌, all, Parsed, Fails}
use Rattle.cat_parse_expr.proofs.Common.{Reads, Reader, pure, after, left_of, turns, fallen, as_many, Is, Taken, Says}
use Rattle.cat_parse_expr.proofs.Common.{IsRight, ReadsAsFar, Stood, KeepsWhole}
use Rattle.cat_parse_expr.proofs.Joining.{spelled_split, spelled_join, levels_join, levels_split}
use Rattle.cat_parse_expr.proofs.Sequels.{seen_self}
use Rattle.cat_parse_expr.proofs.ShortListReaders.{near_right, IsFar, far_reads}
use Rattle.cat_parse_expr.proofs.Read.{IsRead}
use Rattle.cat_parse_expr.proofs.Lists.{with_first}
use Rattle.cat_parse_expr.proofs.Lists as lists
use Rattle.cat_parse_expr.proofs.Loops as loops

module _ {S X : Type 0} (l : loops.Loop S X) (one : S → Reader X) (t : loops.Turning l one) where
  abbrev read_from : ℕ → S → Reader (List X)
  read_from = lists.listed l.goes one l.put

  abbrev pub LowFrom : S → List X → Type 0
  LowFrom = loops.LowFrom l one

  abbrev pub OutFrom : S → List X → List Token → Type 0
  OutFrom = loops.OutFrom l one

  abbrev pub FitsFrom : S → List X → Type 0
  FitsFrom = loops.FitsFrom l one

  abbrev pub rows : List X → Parts
  rows = all l.row_one

  -- ---- fuel

  at_none : (s : S) (ts : List Token) → length ts ≤ 0 → l.goes s ts ≡ false
  at_none s [] le = t.ends s
  at_none s (p ∷ ts) le = absurd (omega (arith, le))

  nothing_more : (n : ℕ) (s : S) (ts : List Token) → length ts ≤ 0 → read_from n s ts ≡ Reads [] ts
  nothing_more zero s ts le = refl
  nothing_more (suc n) s ts le =
      ap (λ (c : Bool). if c then after (one s ts)
      (λ x left. with_first x (read_from n (l.put s x) left)) else Reads [] ts)
      (at_none s ts le)

  pub enough : (n m : ℕ) (s : S) (ts : List Token) → length ts ≤ n → length ts ≤ m → read_from n s ts ≡ read_from m s ts
  enough zero m s ts le le2 = sym (nothing_more m s ts le)
  enough (suc n) zero s ts le le2 = nothing_more (suc n) s ts le2
  enough (suc n) (suc m) s ts le le2 =
      by (λ x left l1 l2. enough n m (l.put s x) left l1 l2) (l.goes s ts) (one s ts) refl
    where
      by : ((x : X) (left : List Token) → length left ≤ n → length left ≤ m
          → read_from n (l.put s x) left ≡ read_from m (l.put s x) left)
          → (c : Bool) (o : Parsed X) → one s ts ≡ o
          → (if c then after o (λ x left. with_first x (read_from n (l.put s x) left)) else Reads [] ts)
          ≡ (if c then after o (λ x left. with_first x (read_from m (l.put s x) left)) else Reads [] ts)
      by rest false o e = refl
      by rest true (Fails left deep whole) e = refl
      by rest true (Reads x left) e =
          ap (with_first x)
          (rest x left (omega (arith, le, t.takes s ts x left e)) (omega (arith, le2, t.takes s ts x left e)))

  -- ---- with as much fuel as there are tokens

  abbrev pub loop_of : S → Reader (List X)
  loop_of = loops.loop_of l one

  pub loop_is_right : (s : S) (bound : ℕ) → l.Good s → l.Low s
      → IsRight (LowFrom s) bound (OutFrom s) l.looks (FitsFrom s) rows (loop_of s)
  loop_is_right s bound good low =
      near_right (LowFrom s) bound (OutFrom s) l.looks (FitsFrom s) rows (read_from bound s) (loop_of s)
      (λ ts le. enough bound (length ts) s ts le (omega arith))
      (loops.loop_right l one t bound s good low)

  turns_same : (turn : S → Reader S) → ((s : S) (ts : List Token) → turn s ts ≡ lists.turn l.goes one l.put s ts)
      → (n : ℕ) (s : S) (ts : List Token) → turns l.goes turn n s ts ≡ turns l.goes (lists.turn l.goes one l.put) n s ts
  turns_same turn same zero s ts = refl
  turns_same turn same (suc n) s ts =
      by (λ z left. turns_same turn same n z left) (l.goes s ts) (turn s ts) (lists.turn l.goes one l.put s ts)
      (same s ts)
    where
      taken : ((z : S) (left : List Token)
          → turns l.goes turn n z left ≡ turns l.goes (lists.turn l.goes one l.put) n z left)
          → (o : Parsed S) → after o (turns l.goes turn n) ≡ after o (turns l.goes (lists.turn l.goes one l.put) n)
      taken rest (Fails left deep whole) = refl
      taken rest (Reads z left) = rest z left

      by : ((z : S) (left : List Token)
          → turns l.goes turn n z left ≡ turns l.goes (lists.turn l.goes one l.put) n z left)
          → (c : Bool) (o p : Parsed S) → o ≡ p
          → (if c then after o (turns l.goes turn n) else Reads s ts)
          ≡ (if c then after p (turns l.goes (lists.turn l.goes one l.put) n) else Reads s ts)
      by rest false o p e = refl
      by rest true o p e =
          taken rest o ∙ ap (λ (z : Parsed S). after z (turns l.goes (lists.turn l.goes one l.put) n)) e

  -- the loop is what is made of all that its turns read
  pub loop_maps : (turn : S → Reader S) → ((s : S) (ts : List Token) → turn s ts ≡ lists.turn l.goes one l.put s ts)
      → (s : S) (ts : List Token)
      → as_many l.goes turn s ts ≡ after (loop_of s ts) (λ xs. pure (lists.put_all l.put s xs))
  loop_maps turn same s ts =
      turns_same turn same (length ts) s ts ∙ lists.turns_are l.goes one l.put (length ts) s ts

  pub loop_read : (turn : S → Reader S) → ((s : S) (ts : List Token) → turn s ts ≡ lists.turn l.goes one l.put s ts)
      → (s : S) → IsRead (lists.put_all l.put s) ⊥ (l.Good s) (l.Low s) (LowFrom s) (OutFrom s) l.looks
      (FitsFrom s) rows (as_many l.goes turn s)
  loop_read turn same s = record {
    reader = loop_of s;
    maps = λ ts. loop_maps turn same s ts;
    alive = λ f. record { value = []; more = []; is = record { fit = tt; levels = tt; spelled = refl } };
    right = λ good low bound. loop_is_right s bound good low;
    keeps = λ k f c bound. absurd k;
  }

  -- it ends where it doesn't go on
  pub turns_end : (turn : S → Reader S)
      → ((s z : S) (ts left : List Token) → turn s ts ≡ Reads z left → length left < length ts)
      → (n : ℕ) (s z : S) (ts left : List Token) → length ts ≤ n → turns l.goes turn n s ts ≡ Reads z left
      → l.goes z left ≡ false
  turns_end turn takes zero s z ts left le e =
      ap (λ (o : Parsed S). elim o [ Fails us d f ↦ l.goes s ts | Reads y us ↦ l.goes y us ]) (sym e) ∙ at_none s ts le
  turns_end turn takes (suc n) s z ts left le e =
      by (λ y us le e. turns_end turn takes n y z us left le e) (l.goes s ts) refl (turn s ts) refl e
    where
      by : ((y : S) (us : List Token) → length us ≤ n → turns l.goes turn n y us ≡ Reads z left → l.goes z left ≡ false)
          → (c : Bool) → l.goes s ts ≡ c → (o : Parsed S) → turn s ts ≡ o
          → (if c then after o (turns l.goes turn n) else Reads s ts) ≡ Reads z left → l.goes z left ≡ false
      by rest false h o i e =
          ap (λ (o : Parsed S). elim o [ Fails us d f ↦ l.goes s ts | Reads y us ↦ l.goes y us ]) (sym e) ∙ h
      by rest true h (Fails us d f) i e = absurd cc
      by rest true h (Reads y us) i e = rest y us (omega (arith, le, takes s y ts us i)) e

  -- ---- what stands whole

  module _ (inner : S → Reader X) (is_behind : (s : S) (ts : List Token) → one s ts ≡ fallen ts (inner s ts))
      (kept : (s : S) (bound : ℕ) → l.Good s → l.Low s → (us : List Token) → l.goes s us ≡ true
      → KeepsWhole (λ x. l.Low (l.put s x)) bound (l.FitsOne s) l.row_one (inner s)) where
    far_first : (x : X) (o : Parsed (List X)) (v : List Token) → IsFar o v → IsFar (with_first x o) v
    far_first x (Reads xs left) v h = h
    far_first x (Fails left deep None) v h = h
    far_first x (Fails left deep (Some front)) v h = h

    abbrev Rest : ℕ → S → X → Reader (List X)
    Rest n s x left = with_first x (read_from n (l.put s x) left)

    abbrev One_low : S → X → Type 0
    One_low s x = l.Low (l.put s x)

    one_is : (s : S) (ts : List Token) (x : X) (left : List Token) → inner s ts ≡ Reads x left → one s ts ≡ Reads x left
    one_is s ts x left e = is_behind s ts ∙ ap (fallen ts) e

    -- a turn begins
    going : (n : ℕ) (s : S) (ts : List Token) → l.goes s ts ≡ true
        → read_from (suc n) s ts ≡ after (fallen ts (inner s ts)) (Rest n s)
    going n s ts e =
        ap (λ (c : Bool). if c then after (one s ts) (Rest n s) else Reads [] ts) e
        ∙ ap (λ (o : Parsed X). after o (Rest n s)) (is_behind s ts)

    taken_of : (s : S) (ts : List Token) → l.Good s → l.Low s → l.goes s ts ≡ true
        → Taken (One_low s) (l.FitsOne s) l.row_one (fallen ts (inner s ts)) ts
    taken_of s ts good low e =
        subst (λ (o : Parsed X). Taken (One_low s) (l.FitsOne s) l.row_one o ts) (is_behind s ts)
        ((t.right s (length ts) good low ts e).taken ts (omega arith))

    far : (n : ℕ) (s : S) (ts v : List Token) → l.Good s → l.Low s → length ts ≤ n → length ts ≤ length v
        → IsFar (read_from n s ts) v
    far zero s ts v good low le far_enough = far_enough
    far (suc n) s ts v good low le far_enough =
        by (l.goes s ts) refl (λ x left good low less more. far n (l.put s x) left v good low less more)
      where
        step : ((x : X) (left : List Token) → l.Good (l.put s x) → l.Low (l.put s x) → length left ≤ n
            → length left ≤ length v
            → IsFar (read_from n (l.put s x) left) v)
            → (o : Parsed X) → inner s ts ≡ o → Stood (One_low s) (l.FitsOne s) l.row_one o ts
            → Taken (One_low s) (l.FitsOne s) l.row_one (fallen ts o) ts → IsFar (after (fallen ts o) (Rest n s)) v
        step rest (Fails left deep None) e st tk = far_enough
        step rest (Fails left deep (Some front)) e st tk =
            omega (arith, far_enough, ap length st.2, length-append st.1 front)
        step rest (Reads x left) e st tk =
            far_first x (read_from n (l.put s x) left) v
            (rest x left (t.stays s x tk.took.0.fit good) tk.took.1
            (omega (arith, le, t.takes s ts x left (one_is s ts x left e)))
            (omega (arith, far_enough, t.takes s ts x left (one_is s ts x left e))))

        by : (c : Bool) → l.goes s ts ≡ c
            → ((x : X) (left : List Token) → l.Good (l.put s x) → l.Low (l.put s x) → length left ≤ n
            → length left ≤ length v
            → IsFar (read_from n (l.put s x) left) v) → IsFar (read_from (suc n) s ts) v
        by true e rest =
            subst (λ (o : Parsed (List X)). IsFar o v) (sym (going n s ts e))
            (step rest (inner s ts) refl ((kept s (length ts) good low ts e).stood ts (omega arith))
            (taken_of s ts good low e))
        by false e rest =
            subst (λ (o : Parsed (List X)). IsFar o v)
            (sym (ap (λ (c : Bool). if c then after (one s ts) (Rest n s) else Reads [] ts) e)) far_enough

    -- behind a turn
    behind_turn : (s : S) (x : X) (more : List X) (v : List Token) (o : Parsed (List X))
        → ReadsAsFar (LowFrom (l.put s x)) o more v → ReadsAsFar (LowFrom s) (with_first x o) (x ∷ more) v
    behind_turn s x more v (Reads xs left) h = h
    behind_turn s x more v (Fails left false None) h = h
    behind_turn s x more v (Fails left true None) h = h
    behind_turn s x more v (Fails left false (Some front)) h = h
    behind_turn s x more v (Fails left true (Some front)) h = h

    more_at : (s : S) (x : X) (more : List X) (w v : List Token) → l.FitsOne s x
        → AreSpelled (l.row_one x ▸ rows more) w
        → l.More s (w ++ v)
    more_at s x more w v fit spelled =
        let q = spelled_split (l.row_one x) (rows more) w spelled in
        subst (l.More s) (sym (ap (λ (u : List Token). u ++ v) q.text ∙ append_assoc q.first q.second v))
        (t.begins s x q.first (q.second ++ v) fit q.one)

    goes_at : (s : S) (x : X) (more : List X) (w v : List Token) → l.FitsOne s x
        → AreSpelled (l.row_one x ▸ rows more) w
        → l.goes s (w ++ v) ≡ true
    goes_at s x more w v fit spelled = t.leads s (w ++ v) (more_at s x more w v fit spelled)

    abbrev Longest : ℕ → S → List Token → Type 0
    Longest n s ts =
        (xs : List X) (w v : List Token) → ts ≡ w ++ v → Is (FitsFrom s) rows xs w
        → ReadsAsFar (LowFrom s) (read_from n s ts) xs v

    module _ (n : ℕ) (s : S) (ts : List Token) (good : l.Good s) (low : l.Low s) (le : length ts ≤ suc n)
        (rest : (x : X) (left : List Token) → l.Good (l.put s x) → l.Low (l.put s x) → length left ≤ n
        → Longest n (l.put s x) left) where
      -- the last turn
      last_step : (x : X) (v : List Token) (o : Parsed X) → inner s ts ≡ o → ReadsAsFar (One_low s) o x v
          → Taken (One_low s) (l.FitsOne s) l.row_one (fallen ts o) ts
          → ReadsAsFar (LowFrom s) (after (fallen ts o) (Rest n s)) (x ∷ []) v
      last_step x v (Fails left false None) e k tk = absurd k
      last_step x v (Fails left true None) e k tk = λ fine. absurd (k fine)
      last_step x v (Fails left false (Some front)) e k tk = k
      last_step x v (Fails left true (Some front)) e k tk = k
      last_step x v (Reads y left) e k tk =
          far_reads (LowFrom s) (Rest n s y left) (x ∷ []) v
          (far_first y (read_from n (l.put s y) left) v
          (far n (l.put s y) left v (t.stays s y tk.took.0.fit good) tk.took.1
          (omega (arith, le, t.takes s ts y left (one_is s ts y left e))) k))

      -- one that another one follows
      next_step : (x : X) (more : List X) (a b v : List Token) → FitsFrom (l.put s x) more → AreLevelled (rows more)
          → AreSpelled (rows more) b → ts ≡ a ++ (b ++ v) → (o : Parsed X) → inner s ts ≡ o
          → (tk : Taken (One_low s) (l.FitsOne s) l.row_one (fallen ts o) ts)
          → Says (One_low s) (fallen ts o) x a tk.front
          → ReadsAsFar (LowFrom s) (after (fallen ts o) (Rest n s)) (x ∷ more) v
      next_step x more a b v fit levels spelled text (Fails left false None) e tk said = absurd said
      next_step x more a b v fit levels spelled text (Fails left true None) e tk said =
          λ fine. absurd (said (loops.lows l one t (l.put s x) more fine))
      next_step x more a b v fit levels spelled text (Fails left false (Some front)) e tk said = absurd said
      next_step x more a b v fit levels spelled text (Fails left true (Some front)) e tk said =
          λ fine. absurd (said (loops.lows l one t (l.put s x) more fine))
      next_step x more a b v fit levels spelled text (Reads y left) e tk said =
          let there : left ≡ b ++ v =
          append_cancel_left tk.front left (b ++ v)
          (sym tk.text ∙ text ∙ ap (λ (z : List Token). z ++ (b ++ v)) said.1) in
          subst (λ (z : X). ReadsAsFar (LowFrom s) (Rest n s y left) (z ∷ more) v) (sym said.0)
          (behind_turn s y more v (read_from n (l.put s y) left)
          (rest y left (t.stays s y tk.took.0.fit good) tk.took.1
          (omega (arith, le, t.takes s ts y left (one_is s ts y left e))) more b v there
          (record {
            fit = subst (λ (z : X). FitsFrom (l.put s z) more) said.0 fit;
            levels = levels;
            spelled = spelled;
          })))

      by_turns : Longest (suc n) s ts
      by_turns [] w v text i =
          far_reads (LowFrom s) (read_from (suc n) s ts) [] v
          (far (suc n) s ts v good low le
          (omega (arith, ap length text, ap length i.spelled, length-append w v)))
      by_turns (x ∷ []) w v text i =
          let q = spelled_split (l.row_one x) End w i.spelled in
          let whole : ts ≡ q.first ++ v =
          text ∙ ap (λ (u : List Token). u ++ v) (q.text ∙ ap (λ (u : List Token). q.first ++ u) q.two
          ∙ append-nil q.first) in
          let e : l.goes s ts ≡ true = ap (l.goes s) text ∙ goes_at s x [] w v i.fit.0 i.spelled in
          subst (λ (o : Parsed (List X)). ReadsAsFar (LowFrom s) o (x ∷ []) v) (sym (going n s ts e))
          (last_step x v (inner s ts) refl
          ((kept s (length ts) good low ts e).longest ts x q.first v (omega arith) whole
          (record { fit = i.fit.0; levels = (levels_split (l.row_one x) End i.levels).0; spelled = q.one }))
          (taken_of s ts good low e))
      by_turns (x ∷ y ∷ more) w v text i =
          let q = spelled_split (l.row_one x) (rows (y ∷ more)) w i.spelled in
          let levels = levels_split (l.row_one x) (rows (y ∷ more)) i.levels in
          let all : ts ≡ q.first ++ (q.second ++ v) =
          text ∙ ap (λ (u : List Token). u ++ v) q.text ∙ append_assoc q.first q.second v in
          let e : l.goes s ts ≡ true = ap (l.goes s) text ∙ goes_at s x (y ∷ more) w v i.fit.0 i.spelled in
          let tk = taken_of s ts good low e in
          subst (λ (o : Parsed (List X)). ReadsAsFar (LowFrom s) o (x ∷ y ∷ more) v) (sym (going n s ts e))
          (next_step x (y ∷ more) q.first q.second v i.fit.1 levels.1 q.two all (inner s ts) refl tk
          (said e x q.first (q.second ++ v) (record { fit = i.fit.0; levels = levels.0; spelled = q.one }) all
          (inr (more_at (l.put s x) y more q.second v i.fit.1.0 q.two)) tk))
        where
          said : l.goes s ts ≡ true → (x : X) (a c : List Token) → Is (l.FitsOne s) l.row_one x a → ts ≡ a ++ c
              → (l.Out (l.put s x) c ⊎ l.More (l.put s x) c)
              → (tk : Taken (One_low s) (l.FitsOne s) l.row_one (fallen ts (inner s ts)) ts)
              → Says (One_low s) (fallen ts (inner s ts)) x a tk.front
          said e x a c i all outside tk =
              subst (λ (o : Parsed X). (tk : Taken (One_low s) (l.FitsOne s) l.row_one o ts) → Says
              (One_low s) o x a tk.front) (is_behind s ts)
              (λ tk. (t.right s (length ts) good low ts e).says ts tk.front x a (omega arith) tk.text (record {
                others = left_of (one s ts);
                behind = c;
                seen = seen_self l.looks (one s ts);
                is = i;
                outside = outside;
                text = sym all ∙ tk.text;
              })) tk

    longest : (n : ℕ) (s : S) (ts : List Token) → l.Good s → l.Low s → length ts ≤ n → Longest n s ts
    longest zero s ts good low le [] w v text i =
        omega (arith, ap length text, ap length i.spelled, length-append w v)
    longest zero s ts good low le (x ∷ more) w v text i =
        absurd (clash (l.goes s ts) (ap (l.goes s) text ∙ goes_at s x more w v i.fit.0 i.spelled) (at_none s ts le))
      where
        clash : (c : Bool) → c ≡ true → c ≡ false → ⊥
        clash c x y = absurd cc
    longest (suc n) s ts good low le xs w v text i =
        by_turns n s ts good low le (λ x left good low le xs w v text i. longest n
        (l.put s x) left good low le xs w v text i)
        xs w v text i

    -- ---- what stood

    stood : (n : ℕ) (s : S) (ts : List Token) → l.Good s → l.Low s → length ts ≤ n
        → Stood (LowFrom s) (FitsFrom s) rows (read_from n s ts) ts
    stood zero s ts good low le = tt
    stood (suc n) s ts good low le =
        by (l.goes s ts) refl (λ x left good low le. stood n (l.put s x) left good low le)
      where
        behind : (x : X) (w left : List Token) → Is (l.FitsOne s) l.row_one x w → ts ≡ w ++ left → (o : Parsed (List X))
            → Stood (LowFrom (l.put s x)) (FitsFrom (l.put s x)) rows o left
            → Stood (LowFrom s) (FitsFrom s) rows (with_first x o) ts
        behind x w left i text (Reads xs us) h = tt
        behind x w left i text (Fails us deep None) h = tt
        behind x w left i text (Fails us deep (Some front)) h = (
          x ∷ h.0,
          w ++ h.1,
          text ∙ ap (λ (u : List Token). w ++ u) h.2 ∙ sym (append_assoc w h.1 front),
          record {
            fit = (i.fit, h.3.fit);
            levels = levels_join (l.row_one x) (rows h.0) i.levels h.3.levels;
            spelled = spelled_join (l.row_one x) (rows h.0) w h.1 i.spelled h.3.spelled;
          },
          h.4,
        )

        step : ((x : X) (left : List Token) → l.Good (l.put s x) → l.Low (l.put s x) → length left ≤ n
            → Stood (LowFrom (l.put s x)) (FitsFrom (l.put s x)) rows (read_from n (l.put s x) left) left)
            → (o : Parsed X) → inner s ts ≡ o → Stood (One_low s) (l.FitsOne s) l.row_one o ts
            → Taken (One_low s) (l.FitsOne s) l.row_one (fallen ts o) ts
            → Stood (LowFrom s) (FitsFrom s) rows (after (fallen ts o) (Rest n s)) ts
        step rest (Fails left deep None) e st tk =
            ([], [], refl, record { fit = tt; levels = tt; spelled = refl }, low)
        step rest (Fails left deep (Some front)) e st tk = (
          st.0 ∷ [],
          st.1,
          st.2,
          record {
            fit = (st.3.fit, tt);
            levels = levels_join (l.row_one st.0) End st.3.levels tt;
            spelled =
                subst (AreSpelled (l.row_one st.0 ▸ End)) (append-nil st.1)
                (spelled_join (l.row_one st.0) End st.1 [] st.3.spelled refl);
          },
          st.4,
        )
        step rest (Reads x left) e st tk =
            behind x tk.front left tk.took.0 tk.text (read_from n (l.put s x) left)
            (rest x left (t.stays s x tk.took.0.fit good) tk.took.1
            (omega (arith, le, t.takes s ts x left (one_is s ts x left e))))

        by : (c : Bool) → l.goes s ts ≡ c
            → ((x : X) (left : List Token) → l.Good (l.put s x) → l.Low (l.put s x) → length left ≤ n
            → Stood (LowFrom (l.put s x)) (FitsFrom (l.put s x)) rows (read_from n (l.put s x) left) left)
            → Stood (LowFrom s) (FitsFrom s) rows (read_from (suc n) s ts) ts
        by true e rest =
            subst (λ (o : Parsed (List X)). Stood (LowFrom s) (FitsFrom s) rows o ts) (sym (going n s ts e))
            (step rest (inner s ts) refl ((kept s (length ts) good low ts e).stood ts (omega arith))
            (taken_of s ts good low e))
        by false e rest =
            subst (λ (o : Parsed (List X)). Stood (LowFrom s) (FitsFrom s) rows o ts)
            (sym (ap (λ (c : Bool). if c then after (one s ts) (Rest n s) else Reads [] ts) e)) tt

    -- the loop from a state
    pub loop_keeps : (s : S) (bound : ℕ) → l.Good s → l.Low s
        → KeepsWhole (LowFrom s) bound (FitsFrom s) rows (loop_of s)
    loop_keeps s bound good low = record {
      longest = λ ts y w v le text i. longest (length ts) s ts good low (omega arith) y w v text i;
      stood = λ ts le. stood (length ts) s ts good low (omega arith);
    }

    -- it reads as far as it stands
    pub loop_far : (s : S) (ts v : List Token) → l.Good s → l.Low s → length ts ≤ length v → IsFar (loop_of s ts) v
    loop_far s ts v good low le = far (length ts) s ts v good low (omega arith) le
