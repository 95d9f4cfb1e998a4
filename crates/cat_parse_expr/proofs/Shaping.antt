-- The same readers, of values that are written otherwise.
use Rattle.std.proofs.Common.{◌≡◌, ℕ, Bool, true, false, List, [], ◌∷◌, Some, None, refl, sym, ap, subst, ◌∙◌}
use Rattle.cat_parse_expr.proofs.Common.{Token, TokenKind, Parts, Parsed, Reader, Fails, Reads, after, ◌⨟◌, pure, heads}
use Rattle.cat_parse_expr.proofs.Common.{AgreePast, Seen, Is, IsRight, ReadsAsFar, Stood, KeepsWhole}
use Rattle.cat_parse_expr.proofs.Choices.{Same, same_recast, Recast, recast}
use Rattle.cat_parse_expr.proofs.Read.{IsRead}

-- ---- other values and rows

module _ {A B : Type 0} (low : A → Type 0) (low2 : B → Type 0) (out : A → List Token → Type 0)
    (out2 : B → List Token → Type 0) (fits : A → Type 0) (fits2 : B → Type 0) (row : A → Parts) (row2 : B → Parts)
    (f : A → B) (c : Recast low low2 out out2 fits fits2 row row2 f) where
  longest_made : (o : Parsed A) (x : A) (v : List Token) → fits x → ReadsAsFar low o x v
      → ReadsAsFar low2 (after o (λ x. pure (f x))) (f x) v
  longest_made (Reads a left) x v fit h = h
  longest_made (Fails left false None) x v fit h = h
  longest_made (Fails left false (Some front)) x v fit h = h
  longest_made (Fails left true None) x v fit h = λ fine. h (c.back x fit fine)
  longest_made (Fails left true (Some front)) x v fit h = λ fine. h (c.back x fit fine)

  stood_made : (o : Parsed A) (ts : List Token) → Stood low fits row o ts
      → Stood low2 fits2 row2 (after o (λ x. pure (f x))) ts
  stood_made (Fails left deep None) ts t = tt
  stood_made (Fails left deep (Some front)) ts t =
      (f t.0, t.1, t.2, c.to t.0 t.1 t.3, c.lows t.0 t.3.fit t.4)
  stood_made (Reads y left) ts t = tt

  pub keeps_made : (bound : ℕ) (r : Reader A) → KeepsWhole low bound fits row r
      → KeepsWhole low2 bound fits2 row2 (r ⨟ λ x. pure (f x))
  keeps_made bound r k = record {
    longest =
        λ ts y w v le t i. let m = c.from y w i in
        subst (λ (z : B). ReadsAsFar low2 (after (r ts) (λ x. pure (f x))) z v) (sym m.1)
        (longest_made (r ts) m.0 v m.2.fit (k.longest ts m.0 w v le t m.2));
    stood = λ ts le. stood_made (r ts) ts (k.stood ts le);
  }

-- what a reader makes of its values, as what is made of others
module _ {A B D : Type 0} {g1 : A → D} {g : B → D} {K F C F1 C1 : Type 0} {low2 : B → Type 0}
    {out2 : B → List Token → Type 0} {looks : TokenKind → Bool} {fits2 : B → Type 0} {row2 : B → Parts} {s : Reader D}
  where
    pub recast_read : (low : A → Type 0) (out : A → List Token → Type 0) (fits : A → Type 0) (row : A → Parts) (f : A
        → B)
        → ((x : A) → g1 x ≡ g (f x))
        → (F → F1) → (F → C → C1) → (F → (x : A) (w : List Token) → Is fits row x w → Is fits2 row2 (f x) w)
        → (F → C → Recast low low2 out out2 fits fits2 row row2 f) → IsRead g1 K F1 C1 low out looks fits row s
        → IsRead g K F C low2 out2 looks fits2 row2 s
    recast_read low out fits row f same ff cc to cast h =
        record {
          reader = h.reader ⨟ λ x. pure (f x);
          maps = λ ts. h.maps ts ∙ by (h.reader ts);
          alive =
              λ k. let b = h.alive (ff k) in
              record { value = f b.value; more = b.more; is = to k b.value b.more b.is };
          right =
              λ k c bound. recast bound low low2 out out2 looks fits fits2 row row2 f h.reader (cast k c)
              (h.right (ff k) (cc k c) bound);
          keeps =
              λ n k c bound. keeps_made low low2 out out2 fits fits2 row row2 f (cast k c) bound h.reader
              (h.keeps n (ff k) (cc k c) bound);
        }
      where
        by : (o : Parsed A) → after o (λ x. pure (g1 x)) ≡ after {B = D} (after o (λ x. pure (f x))) (λ x. pure (g x))
        by (Fails left deep whole) = refl
        by (Reads x left) = ap (λ (z : D). Reads z left) (same x)

-- the same, as values of their own
pub made_read : {A B : Type 0} {f : A → B} {K F C F1 C1 : Type 0} {low2 : B → Type 0} {out2 : B → List Token → Type 0}
    {looks : TokenKind → Bool} {fits2 : B → Type 0} {row2 : B → Parts} {s : Reader B} (low : A → Type 0)
    (out : A → List Token → Type 0) (fits : A → Type 0) (row : A → Parts)
    → (F → F1) → (F → C → C1) → (F → (x : A) (w : List Token) → Is fits row x w → Is fits2 row2 (f x) w)
    → (F → C → Recast low low2 out out2 fits fits2 row row2 f) → IsRead f K F1 C1 low out looks fits row s
    → IsRead (λ y. y) K F C low2 out2 looks fits2 row2 s
made_read {f = f} low out fits row = recast_read low out fits row f (λ x. refl)

-- the same, before fewer tokens
pub narrow_read : {B D : Type 0} {g : B → D} {K F C : Type 0} {low : B → Type 0} {out2 : B → List Token → Type 0}
    {looks : TokenKind → Bool} {fits : B → Type 0} {row : B → Parts} {s : Reader D} (out : B → List Token → Type 0)
    → ((y : B) (v : List Token) → fits y → out2 y v → out y v) → IsRead g K F C low out looks fits row s
    → IsRead g K F C low out2 looks fits row s
narrow_read {low = low} {out2 = out2} {fits = fits} {row = row} out less h =
    recast_read low out fits row (λ y. y) (λ y. refl) (λ f. f) (λ f c. c) (λ f x w i. i)
    (λ f c. record {
      to = λ x w i. i;
      from = λ y w i. (y, refl, i);
      lows = λ x fit l. l;
      back = λ x fit l. l;
      outside = λ x v fit o. less x v fit o;
    }) h

-- the same values, in rows that are written otherwise
pub reshape_read : {T D : Type 0} {g : T → D} {K F C : Type 0} {low : T → Type 0} {out : T → List Token → Type 0}
    {looks : TokenKind → Bool} (fits fits2 : T → Type 0) (row row2 : T → Parts) (s : Reader D)
    → Same fits fits2 row row2 → IsRead g K F C low out looks fits row s → IsRead g K F C low out looks fits2 row2 s
reshape_read {low = low} {out = out} fits fits2 row row2 s same =
    let c = same_recast low out fits fits2 row row2 same in
    recast_read low out fits row (λ y. y) (λ y. refl) (λ f. f) (λ f c. c) (λ f x w i. c.to x w i) (λ f k. c)

-- ---- one that looks past no token does no more where some may be looked past

looked_past : (looks : TokenKind → Bool) (ls others : List Token) → AgreePast looks ls others
    → AgreePast (λ k. false) ls others
looked_past looks [] [] g = tt
looked_past looks [] (q ∷ qs) g = g
looked_past looks (p ∷ ps) [] g = g
looked_past looks (p ∷ ps) (q ∷ qs) g = (g.0, λ h. absurd cc)

look_right : {B : Type 0} (low : B → Type 0) (bound : ℕ) (out : B → List Token → Type 0) (looks : TokenKind → Bool)
    (fits : B → Type 0) (row : B → Parts) (r : Reader B) → IsRight low bound out (λ k. false) fits row r
    → IsRight low bound out looks fits row r
look_right {B = B} low bound out looks fits row r h = record {
  alive = h.alive;
  taken = h.taken;
  says =
      λ ts front y w le text a. h.says ts front y w le text (record {
        others = a.others;
        behind = a.behind;
        seen = by (r ts) a.others a.seen;
        is = a.is;
        outside = a.outside;
        text = a.text;
      });
}
  where
    by : (o : Parsed B) (others : List Token) → Seen looks o others → Seen (λ k. false) o others
    by (Fails left deep whole) others g = g
    by (Reads x left) others g = looked_past looks left others g

pub look_read : {B D : Type 0} {g : B → D} {K F C : Type 0} {low : B → Type 0} {out : B → List Token → Type 0}
    {looks : TokenKind → Bool} {fits : B → Type 0} {row : B → Parts} {s : Reader D}
    → IsRead g K F C low out (λ k. false) fits row s → IsRead g K F C low out looks fits row s
look_read {low = low} {out = out} {looks = looks} {fits = fits} {row = row} h = record {
  reader = h.reader;
  maps = h.maps;
  alive = h.alive;
  right = λ f c bound. look_right low bound out looks fits row h.reader (h.right f c bound);
  keeps = h.keeps;
}

-- ---- one that ends where no token is looked past

unlooked : (near : TokenKind → Bool) (ls others : List Token) → heads near ls ≡ false → AgreePast (λ k. false) ls others
    → AgreePast near ls others
unlooked near [] [] h g = tt
unlooked near [] (q ∷ qs) h g = g
unlooked near (p ∷ ps) [] h g = g
unlooked near (p ∷ ps) (q ∷ qs) h g = (g.0, λ e. absurd (clash (near p.kind) e h))
  where
    clash : (c : Bool) → c ≡ true → c ≡ false → ⊥
    clash c x y = absurd cc

unlook_right : {B : Type 0} (low : B → Type 0) (bound : ℕ) (out : B → List Token → Type 0) (near : TokenKind → Bool)
    (fits : B → Type 0) (row : B → Parts) (r : Reader B)
    → ((ts left : List Token) (x : B) → r ts ≡ Reads x left → heads near left ≡ false)
    → IsRight low bound out near fits row r → IsRight low bound out (λ k. false) fits row r
unlook_right {B = B} low bound out near fits row r ends h = record {
  alive = h.alive;
  taken = h.taken;
  says =
      λ ts front y w le text a. h.says ts front y w le text (record {
        others = a.others;
        behind = a.behind;
        seen = by ts (r ts) refl a.others a.seen;
        is = a.is;
        outside = a.outside;
        text = a.text;
      });
}
  where
    by : (ts : List Token) (o : Parsed B) → r ts ≡ o → (others : List Token) → Seen (λ k. false) o others
        → Seen near o others
    by ts (Fails left deep whole) e others g = g
    by ts (Reads x left) e others g = unlooked near left others (ends ts left x e) g

pub unlook_read : {B D : Type 0} {g : B → D} {K F C : Type 0} {low : B → Type 0} {out : B → List Token → Type 0}
    {fits : B → Type 0} {row : B → Parts} {s : Reader D} (near : TokenKind → Bool)
    → ((ts left : List Token) (z : D) → s ts ≡ Reads z left → heads near left ≡ false)
    → IsRead g K F C low out near fits row s → IsRead g K F C low out (λ k. false) fits row s
unlook_read {B = B} {D = D} {g = g} {low = low} {out = out} {fits = fits} {row = row} {s = s} near ends h = record {
  reader = h.reader;
  maps = h.maps;
  alive = h.alive;
  right =
      λ f c bound. unlook_right low bound out near fits row h.reader
      (λ ts left x e. ends ts left (g x) (h.maps ts ∙ ap (λ (o : Parsed B). after {B = D} o (λ y. pure (g y))) e))
      (h.right f c bound);
  keeps = h.keeps;
}
