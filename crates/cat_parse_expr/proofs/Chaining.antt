-- Something that is whole, and then a loop over what goes on behind it.
use Rattle.std.proofs.Common.{◌≡◌, ℕ, ◌≤◌, Bool, true, false, List, [], ◌∷◌, ◌++◌, length, Some, None, refl, sym, ap}
use Rattle.std.proofs.Common.{subst, ◌∙◌, append_assoc, arith, inr, ◌⊎◌}
use Rattle.std.proofs.lemmas.List.{append-nil, append_cancel_left}
use Rattle.cat_parse_expr.proofs.Common.{Token, TokenKind, Parts, End, AreSpelled, ◌▸◌, all, Parsed, Fails, Reads}
use Rattle.cat_parse_expr.proofs.Common.{Reader, ◌⨟◌, pure, after, left_of, as_many, Is, Begun, Taken, Says, IsRight}
use Rattle.cat_parse_expr.proofs.Common.{ReadsAsFar, Stood, KeepsWhole}
use Rattle.cat_parse_expr.proofs.Joining.{spelled_split, spelled_join, levels_join, levels_split}
use Rattle.cat_parse_expr.proofs.Choices.{Recast, recast}
use Rattle.cat_parse_expr.proofs.Sequel.{Past, part_right}
use Rattle.cat_parse_expr.proofs.Sequels.{seen_self, no_longer, mapped_part}
use Rattle.cat_parse_expr.proofs.ShortListReaders.{IsFar, far_reads}
use Rattle.cat_parse_expr.proofs.Read.{IsRead}
use Rattle.cat_parse_expr.proofs.Lists as lists
use Rattle.cat_parse_expr.proofs.Loops as loops
use Rattle.cat_parse_expr.proofs.Looping as looping

past_after : {A B : Type 0} (looks : TokenKind → Bool) (f : A → B) (o : Parsed A) (ts : List Token)
    → Past looks looks o ts → Past {B = B} looks looks (after o (λ x. pure (f x))) ts
past_after looks f (Fails left deep whole) ts h = h
past_after looks f (Reads x left) ts h = h

-- What stands in front of a loop: what is made of it, which are low, which there are, their rows, and the state that
-- the loop begins with.
pub record Head (A A2 S : Type 0) : Type 1 where
  pub made : A → A2
  pub Low : A → Type 0
  pub Fits : A → Type 0
  pub row : A → Parts
  pub begin : A2 → S

module _ {A A2 S X : Type 0} (l : loops.Loop S X) (one : S → Reader X) (head : Head A A2 S) where
  abbrev pub start : A → S
  start a = head.begin (head.made a)

  abbrev pub NextFirst : A → List Token → Type 0
  NextFirst a v = l.Out (start a) v ⊎ l.More (start a) v

  abbrev Chain : Type 0
  Chain = A × List X

  abbrev pub Low_chain : Chain → Type 0
  Low_chain y = loops.LowFrom l one (start y.0) y.1

  abbrev pub Out_chain : Chain → List Token → Type 0
  Out_chain y v = loops.OutFrom l one (start y.0) y.1 v

  abbrev pub fits_chain : Chain → Type 0
  fits_chain y = head.Fits y.0 × loops.FitsFrom l one (start y.0) y.1

  abbrev pub row_chain : Chain → Parts
  row_chain y = head.row y.0 ▸ all l.row_one y.1

  abbrev pub chain_of : Chain → S
  chain_of y = lists.put_all l.put (start y.0) y.1

  abbrev Fits_loop : A → List X → Type 0
  Fits_loop a xs = loops.FitsFrom l one (start a) xs

  abbrev Low_loop : A → List X → Type 0
  Low_loop a xs = loops.LowFrom l one (start a) xs

  abbrev Out_loop : A → List X → List Token → Type 0
  Out_loop a xs v = loops.OutFrom l one (start a) xs v

  abbrev loop : A → Reader (List X)
  loop a = loops.loop_of l one (start a)

  abbrev rest : A → Reader Chain
  rest a = loop a ⨟ λ xs. pure (a, xs)

  -- what is asked of what stands first
  pub record First : Type 0 where
    pub good : (a : A) → head.Fits a → l.Good (start a)
    pub low : (a : A) → head.Fits a → head.Low a → l.Low (start a)
    pub back : (a : A) → head.Fits a → l.Low (start a) → head.Low a

  -- readers of what stands in front and of the loop behind it
  abbrev pub IsChain : Type 0 → Reader S → Type 0
  IsChain K r = IsRead chain_of K (Unit {0}) (Unit {0}) Low_chain Out_chain l.looks fits_chain row_chain r

  module _ (t : loops.Turning l one) (turn : S → Reader S)
      (same : (s : S) (ts : List Token) → turn s ts ≡ lists.turn l.goes one l.put s ts) (f : First) where
    behind_cast : (a : A) → head.Fits a → Recast (Low_loop a) Low_chain (Out_loop a) Out_chain (Fits_loop a)
        (λ y. fits_chain y × (y.0 ≡ a)) (all l.row_one) (λ y. all l.row_one y.1) (λ xs. (a, xs))
    behind_cast a fit = record {
      to = λ xs w i. record { fit = ((fit, i.fit), refl); levels = i.levels; spelled = i.spelled };
      from =
          λ y w i. (
            y.1,
            ap (λ (z : A). (z, y.1)) i.fit.1,
            record {
              fit = subst (λ (z : A). Fits_loop z y.1) i.fit.1 i.fit.0.1;
              levels = i.levels;
              spelled = i.spelled;
            },
          );
      lows = λ xs fit low. low;
      back = λ xs fit low. low;
      outside = λ xs v fit o. o;
    }

    chain_right : (r : Reader A) (bound : ℕ) → IsRight head.Low bound NextFirst l.looks head.Fits head.row r
        → IsRight Low_chain bound Out_chain l.looks fits_chain row_chain (r ⨟ rest)
    chain_right r bound first =
        part_right bound bound Low_chain Low_chain head.Low Out_chain NextFirst l.looks l.looks fits_chain head.Fits
        (λ y. y.0) head.row (λ y. all l.row_one y.1) r rest
        (record {
          fit = λ y fit. fit.0;
          behind =
              λ y w v fit spelled o. loops.next_is l one t (start y.0) y.1 w v fit.1 spelled o;
          shrinks =
              λ ts x left le e. omega (
                arith,
                le,
                no_longer head.Low head.Fits head.row (r ts) ts (first.taken ts le),
                ap (λ (o : Parsed A). length (left_of o)) e,
              );
          past =
              λ x ts fit le. past_after l.looks (λ xs. (x, xs)) (loop x ts) ts
              (loops.past l one t (length ts) (start x) ts);
          joins = λ y fit a b. b;
          part =
              λ y fit low. f.back y.0 fit.0 (loops.lows l one t (start y.0) y.1 low);
          others = λ y fit a. a;
        }) first
        (λ a fit. record {
          value = (a, []);
          more = [];
          is = record { fit = ((fit, tt), refl); levels = tt; spelled = refl };
        })
        (λ a fit fine. recast bound (Low_loop a) Low_chain (Out_loop a) Out_chain l.looks (Fits_loop a)
        (λ y. fits_chain y × (y.0 ≡ a)) (all l.row_one) (λ y. all l.row_one y.1) (λ xs. (a, xs)) (loop a)
        (behind_cast a fit)
        (looping.loop_is_right l one t (start a) bound (f.good a fit) (f.low a fit fine)))

    abbrev begun_chain : Begun head.Fits head.row [] → Begun fits_chain row_chain []
    begun_chain b = record {
      value = (b.value, []);
      more = b.more;
      is =
          record {
            fit = (b.is.fit, tt);
            levels = levels_join (head.row b.value) End b.is.levels tt;
            spelled =
                subst (AreSpelled (head.row b.value ▸ End)) (append-nil b.more)
                (spelled_join (head.row b.value) End b.more [] b.is.spelled refl);
          };
    }

    rest_maps : (a : A) (ts : List Token)
        → as_many l.goes turn (start a) ts ≡ after (rest a ts) (λ y. pure (chain_of y))
    rest_maps a ts =
        looping.loop_maps l one t turn same (start a) ts ∙ by (loop a ts)
      where
        by : (o : Parsed (List X)) → after o (λ xs. pure (lists.put_all l.put (start a) xs))
            ≡ after {B = S} (after {B = Chain} o (λ xs. pure (a, xs))) (λ y. pure (chain_of y))
        by (Fails left deep whole) = refl
        by (Reads xs left) = refl

    -- with the loop in a part that words follow
    pub inner_chain_read : (one_a : Reader A2)
        → IsRead head.made ⊥ (Unit {0}) (Unit {0}) head.Low NextFirst l.looks head.Fits head.row one_a
        → IsChain ⊥ (one_a ⨟ λ z. as_many l.goes turn (head.begin z))
    inner_chain_read one_a first = record {
      reader = first.reader ⨟ rest;
      maps =
          λ ts. mapped_part head.made chain_of (one_a ts) (first.reader ts) rest
          (λ z. as_many l.goes turn (head.begin z)) (first.maps ts)
          rest_maps;
      alive = λ u. begun_chain (first.alive u);
      right = λ u c bound. chain_right first.reader bound (first.right u c bound);
      keeps = λ k u c bound. absurd k;
    }

    -- ---- what stands whole

    module _ (kept : (s : S) (bound : ℕ) → l.Good s → l.Low s
        → KeepsWhole (loops.LowFrom l one s) bound (loops.FitsFrom l one s) (all l.row_one) (loops.loop_of l one s))
        (far : (s : S) (ts v : List Token) → l.Good s → l.Low s → length ts ≤ length v
        → IsFar (loops.loop_of l one s ts) v)
        (r : Reader A) (bound : ℕ) (first : IsRight head.Low bound NextFirst l.looks head.Fits head.row r)
        (whole : KeepsWhole head.Low bound head.Fits head.row r) where
      with_first : (a : A) (o : Parsed (List X)) (xs : List X) (v : List Token) → ReadsAsFar (Low_loop a) o xs v
          → ReadsAsFar Low_chain (after o (λ xs. pure (a, xs))) (a, xs) v
      with_first a (Reads ys left) xs v h = h
      with_first a (Fails left false None) xs v h = h
      with_first a (Fails left true None) xs v h = h
      with_first a (Fails left false (Some front)) xs v h = h
      with_first a (Fails left true (Some front)) xs v h = h

      far_first : (a : A) (o : Parsed (List X)) (v : List Token) → IsFar o v
          → IsFar {A = Chain} (after o (λ xs. pure (a, xs))) v
      far_first a (Reads ys left) v h = h
      far_first a (Fails left deep None) v h = h
      far_first a (Fails left deep (Some front)) v h = h

      alone : (ts : List Token) → length ts ≤ bound → (a : A) (v : List Token) → head.Fits a → (o : Parsed A)
          → ReadsAsFar head.Low o a v → Taken head.Low head.Fits head.row o ts
          → ReadsAsFar Low_chain (after o rest) (a, []) v
      alone ts le a v fit (Fails left false None) h tk = h
      alone ts le a v fit (Fails left true None) h tk = λ fine. h (f.back a fit fine)
      alone ts le a v fit (Fails left false (Some front)) h tk = h
      alone ts le a v fit (Fails left true (Some front)) h tk = λ fine. h (f.back a fit fine)
      alone ts le a v fit (Reads b left) h tk =
          far_reads Low_chain (rest b left) (a, []) v
          (far_first b (loop b left) v
          (far (start b) left v (f.good b tk.took.0.fit) (f.low b tk.took.0.fit tk.took.1) h))

      more_at : (a : A) (x : X) (more : List X) (w v : List Token) → l.FitsOne (start a) x
          → AreSpelled (l.row_one x ▸ all l.row_one more) w → l.More (start a) (w ++ v)
      more_at a x more w v fit spelled =
          let q = spelled_split (l.row_one x) (all l.row_one more) w spelled in
          subst (l.More (start a)) (sym (ap (λ (u : List Token). u ++ v) q.text ∙ append_assoc q.first q.second v))
          (t.begins (start a) x q.first (q.second ++ v) fit q.one)

      lows_of : (a : A) (xs : List X) → Low_loop a xs → l.Low (start a)
      lows_of a xs low = loops.lows l one t (start a) xs low

      followed : (ts : List Token) → length ts ≤ bound → (a : A) (xs : List X) (u b v : List Token) → head.Fits a
          → Is (Fits_loop a) (all l.row_one) xs b → ts ≡ u ++ (b ++ v) → (o : Parsed A)
          → (tk : Taken head.Low head.Fits head.row o ts) → Says head.Low o a u tk.front
          → ReadsAsFar Low_chain (after o rest) (a, xs) v
      followed ts le a xs u b v fit i text (Fails left false None) tk said = said
      followed ts le a xs u b v fit i text (Fails left true None) tk said =
          λ fine. said (f.back a fit (lows_of a xs fine))
      followed ts le a xs u b v fit i text (Fails left false (Some front)) tk said = absurd said
      followed ts le a xs u b v fit i text (Fails left true (Some front)) tk said =
          λ fine. absurd (said (f.back a fit (lows_of a xs fine)))
      followed ts le a xs u b v fit i text (Reads c left) tk said =
          let there : left ≡ b ++ v =
          append_cancel_left tk.front left (b ++ v)
          (sym tk.text ∙ text ∙ ap (λ (z : List Token). z ++ (b ++ v)) said.1) in
          subst (λ (z : A). ReadsAsFar Low_chain (rest c left) (z, xs) v) (sym said.0)
          (with_first c (loop c left) xs v
          ((kept (start c) (length left) (f.good c tk.took.0.fit) (f.low c tk.took.0.fit tk.took.1)).longest left xs b v
          (omega arith) there
          (record { fit = subst (λ (z : A). Fits_loop z xs) said.0 i.fit; levels = i.levels; spelled = i.spelled })))

      chain_longest : (ts : List Token) (y : Chain) (w v : List Token) → length ts ≤ bound → ts ≡ w ++ v
          → Is fits_chain row_chain y w → ReadsAsFar Low_chain ((r ⨟ rest) ts) y v
      chain_longest ts (a, []) w v le text i =
          let q = spelled_split (head.row a) End w i.spelled in
          let all : ts ≡ q.first ++ v =
          text ∙ ap (λ (u : List Token). u ++ v) (q.text ∙ ap (λ (u : List Token). q.first ++ u) q.two
          ∙ append-nil q.first) in
          alone ts le a v i.fit.0 (r ts)
          (whole.longest ts a q.first v le all
          (record { fit = i.fit.0; levels = (levels_split (head.row a) End i.levels).0; spelled = q.one }))
          (first.taken ts le)
      chain_longest ts (a, x ∷ more) w v le text i =
          let q = spelled_split (head.row a) (all l.row_one (x ∷ more)) w i.spelled in
          let levels = levels_split (head.row a) (all l.row_one (x ∷ more)) i.levels in
          let whole : ts ≡ q.first ++ (q.second ++ v) =
          text ∙ ap (λ (u : List Token). u ++ v) q.text ∙ append_assoc q.first q.second v in
          let tk = first.taken ts le in
          followed ts le a (x ∷ more) q.first q.second v i.fit.0
          (record { fit = i.fit.1; levels = levels.1; spelled = q.two }) whole (r ts) tk
          (first.says ts tk.front a q.first le tk.text (record {
            others = left_of (r ts);
            behind = q.second ++ v;
            seen = seen_self l.looks (r ts);
            is = record { fit = i.fit.0; levels = levels.0; spelled = q.one };
            outside = inr (more_at a x more q.second v i.fit.1.0 q.two);
            text = sym whole ∙ tk.text;
          }))

      chain_stood : (ts : List Token) → length ts ≤ bound → Stood Low_chain fits_chain row_chain ((r ⨟ rest) ts) ts
      chain_stood ts le = by (r ts) (first.taken ts le) (whole.stood ts le)
        where
          behind : (a : A) (w left : List Token) → Is head.Fits head.row a w → ts ≡ w ++ left → (o : Parsed (List X))
              → Stood (Low_loop a) (Fits_loop a) (all l.row_one) o left
              → Stood Low_chain fits_chain row_chain (after o (λ xs. pure (a, xs))) ts
          behind a w left i text (Reads xs us) h = tt
          behind a w left i text (Fails us deep None) h = tt
          behind a w left i text (Fails us deep (Some front)) h = (
            (a, h.0),
            w ++ h.1,
            text ∙ ap (λ (u : List Token). w ++ u) h.2 ∙ sym (append_assoc w h.1 front),
            record {
              fit = (i.fit, h.3.fit);
              levels = levels_join (head.row a) (all l.row_one h.0) i.levels h.3.levels;
              spelled = spelled_join (head.row a) (all l.row_one h.0) w h.1 i.spelled h.3.spelled;
            },
            h.4,
          )

          by : (o : Parsed A) → Taken head.Low head.Fits head.row o ts → Stood head.Low head.Fits head.row o ts
              → Stood Low_chain fits_chain row_chain (after o rest) ts
          by (Fails left deep None) tk st = tt
          by (Fails left deep (Some front)) tk st = (
            (st.0, []),
            st.1,
            st.2,
            record {
              fit = (st.3.fit, tt);
              levels = levels_join (head.row st.0) End st.3.levels tt;
              spelled =
                  subst (AreSpelled (head.row st.0 ▸ End)) (append-nil st.1)
                  (spelled_join (head.row st.0) End st.1 [] st.3.spelled refl);
            },
            f.low st.0 st.3.fit st.4,
          )
          by (Reads a left) tk st =
              behind a tk.front left tk.took.0 tk.text (loop a left)
              ((kept (start a) (length left) (f.good a tk.took.0.fit) (f.low a tk.took.0.fit tk.took.1)).stood left
              (omega arith))

      chain_keeps : KeepsWhole Low_chain bound fits_chain row_chain (r ⨟ rest)
      chain_keeps = record { longest = chain_longest; stood = chain_stood }

    -- with the loop at the end
    pub chain_read : {K : Type 0} (one_a : Reader A2)
        → IsRead head.made K (Unit {0}) (Unit {0}) head.Low NextFirst l.looks head.Fits head.row one_a
        → (K → (s : S) (bound : ℕ) → l.Good s → l.Low s
        → KeepsWhole (loops.LowFrom l one s) bound (loops.FitsFrom l one s) (all l.row_one) (loops.loop_of l one s))
        → (K → (s : S) (ts v : List Token) → l.Good s → l.Low s → length ts ≤ length v
        → IsFar (loops.loop_of l one s ts) v)
        → IsChain K (one_a ⨟ λ z. as_many l.goes turn (head.begin z))
    chain_read one_a first kept far = record {
      reader = first.reader ⨟ rest;
      maps =
          λ ts. mapped_part head.made chain_of (one_a ts) (first.reader ts) rest
          (λ z. as_many l.goes turn (head.begin z)) (first.maps ts)
          rest_maps;
      alive = λ u. begun_chain (first.alive u);
      right = λ u c bound. chain_right first.reader bound (first.right u c bound);
      keeps =
          λ k u c bound. chain_keeps (kept k) (far k) first.reader bound (first.right u c bound)
          (first.keeps k u c bound);
    }
