-- A part, and then the rest of the row.
use Rattle.std.proofs.Common.{◌≡◌, ℕ, ◌≤◌, ◌<◌, Bool, true, false, List, [], ◌∷◌, ◌++◌, length, Option, refl, sym, ap}
use Rattle.std.proofs.Common.{subst, ◌∙◌, append_assoc, arith, ◌⊎◌, inl, inr}
use Rattle.std.proofs.lemmas.List.{append_cancel_left, append_cancel_right}
use Rattle.cat_parse_expr.proofs.Common.{Token, TokenKind, Parts, AreLevelled, AreSpelled, ◌▸◌, Parsed, Reader, Fails}
use Rattle.cat_parse_expr.proofs.Common.{Reads, left_of, after, heads, ◌⨟◌, Agree, AgreePast, Seen, Is, Begun, Took}
use Rattle.cat_parse_expr.proofs.Common.{Taken, Says, Alike, IsRight}
use Rattle.cat_parse_expr.proofs.Choices.{next_seen}
use Rattle.cat_parse_expr.proofs.Joining.{levels_join, levels_split, spelled_join, Splits, spelled_split}

-- what comes of the tokens behind a reader that looks past some: it takes such a token, or looks past it too
abbrev pub Past : {B : Type 0} → (looks further : TokenKind → Bool) → Parsed B → List Token → Type 0
Past looks further (Fails left deep whole) ts = heads looks ts ≡ true → length left < length ts
Past looks further (Reads x left) ts =
    heads looks ts ≡ true → (length left < length ts) ⊎ ((k : TokenKind) → looks k ≡ true → further k ≡ true)

not_less : {A : Type 0} (l : List A) → length l < length l → ⊥
not_less l lt = omega (arith, lt)

module _ {B : Type 0} (looks further : TokenKind → Bool) where
  no_tokens : (o : Parsed B) → (left others : List Token) → left_of o ≡ left → Past looks further o left
      → Seen further o others → AgreePast looks left others
  no_tokens (Fails l deep whole) left others e past seen = by left others e past seen
    where
      by : (left others : List Token) → l ≡ left → (heads looks left ≡ true → length l < length left)
          → Agree l others → AgreePast looks left others
      by [] others e past seen = nothing others (subst (λ (z : List Token). Agree z others) e seen)
        where
          nothing : (others : List Token) → Agree [] others → AgreePast looks [] others
          nothing [] g = tt
          nothing (q ∷ qs) g = g
      by (p ∷ ps) others e past seen = one others (subst (λ (z : List Token). Agree z others) e seen)
        where
          one : (others : List Token) → Agree (p ∷ ps) others → AgreePast looks (p ∷ ps) others
          one [] g = g
          one (q ∷ qs) g = (
            g,
            λ h. absurd (not_less (p ∷ ps)
                (subst (λ (z : List Token). length z < length (p ∷ ps)) e (past h))),
          )
  no_tokens (Reads x l) left others e past seen = by left others e past seen
    where
      by : (left others : List Token) → l ≡ left
          → (heads looks left ≡ true → (length l < length left) ⊎ ((k : TokenKind) → looks k ≡ true → further k ≡ true))
          → AgreePast further l others → AgreePast looks left others
      by [] others e past seen = nothing others (subst (λ (z : List Token). AgreePast further z others) e seen)
        where
          nothing : (others : List Token) → AgreePast further [] others → AgreePast looks [] others
          nothing [] g = tt
          nothing (q ∷ qs) g = g
      by (p ∷ ps) others e past seen = one others (subst (λ (z : List Token). AgreePast further z others) e seen)
        where
          one : (others : List Token) → AgreePast further (p ∷ ps) others → AgreePast looks (p ∷ ps) others
          one [] g = g
          one (q ∷ qs) g = (
            g.0,
            λ h. elim (past h) [
              | inl lt ↦ absurd (not_less (p ∷ ps) (subst (λ (z : List Token). length z < length (p ∷ ps)) e lt))
              | inr wide ↦ g.1 (wide p.kind h)
            ],
          )

  -- what a second reader saw, behind the tokens that it took, is what a first one saw
  pub seen_behind : (o : Parsed B) (f others : List Token) → Past looks further o (f ++ left_of o)
      → Seen further o others → AgreePast looks (f ++ left_of o) (f ++ others)
  seen_behind o [] others past seen = no_tokens o (left_of o) others refl past seen
  seen_behind o (p ∷ []) others past seen = (refl, λ h. next_seen further o others seen)
  seen_behind o (p ∷ q ∷ f) others past seen = (refl, λ h. refl)

-- what is asked of a part and of what follows it
pub record Follows {A B : Type 0} (bound inner : ℕ) (low low_rest : B → Type 0) (low_part : A → Type 0)
    (out : B → List Token → Type 0) (next : A → List Token → Type 0) (looks further : TokenKind → Bool)
    (fits : B → Type 0)
    (fits_part : A → Type 0) (sub : B → A) (rest : B → Parts) (r : Reader A) (s : A → Reader B) : Type 0 where
  pub fit : (y : B) → fits y → fits_part (sub y)
  pub behind : (y : B) (w v : List Token) → fits y → AreSpelled (rest y) w → out y v → next (sub y) (w ++ v)
  pub shrinks : (ts : List Token) (x : A) (left : List Token) → length ts ≤ bound → r ts ≡ Reads x left
      → length left ≤ inner
  pub past : (x : A) (ts : List Token) → fits_part x → length ts ≤ inner → Past looks further (s x ts) ts
  pub joins : (y : B) → fits y → low_part (sub y) → low_rest y → low y
  pub part : (y : B) → fits y → low y → low_part (sub y)
  pub others : (y : B) → fits y → low y → low_rest y

module _ {A B : Type 0} (bound inner : ℕ) (low low_rest : B → Type 0) (low_part : A → Type 0)
    (out : B → List Token → Type 0) (next : A → List Token → Type 0) (looks further : TokenKind → Bool)
    (fits : B → Type 0)
    (fits_part : A → Type 0) (sub : B → A) (row : A → Parts) (rest : B → Parts) (one : Reader A) (r : A → Reader B)
    (f : Follows bound inner low low_rest low_part out next looks further fits fits_part sub rest one r)
    (first : IsRight low_part bound next looks fits_part row one)
    (lives : (x : A) → fits_part x → Begun (λ y. fits y × (sub y ≡ x)) rest [])
    (second : (x : A) → fits_part x → low_part x
    → IsRight low_rest inner out further (λ y. fits y × (sub y ≡ x)) rest (r x)) where
  abbrev whole_row : B → Parts
  whole_row y = row (sub y) ▸ rest y

  abbrev fits_with : A → B → Type 0
  fits_with x y = fits y × (sub y ≡ x)

  joined : (x : A) (y : B) (w v : List Token) → Is fits_part row x w → Is (fits_with x) rest y v
      → Is fits whole_row y (w ++ v)
  joined x y w v i j =
      let back : x ≡ sub y = sym j.fit.1 in
      record {
        fit = j.fit.0;
        levels = levels_join (row (sub y)) (rest y) (subst (λ (z : A). AreLevelled (row z)) back i.levels) j.levels;
        spelled =
            spelled_join (row (sub y)) (rest y) w v (subst (λ (z : A). AreSpelled (row z) w) back i.spelled) j.spelled;
      }

  begun_first : (u : List Token) → Begun fits_part row u → Begun fits whole_row u
  begun_first u b =
      let a = lives b.value b.is.fit in
      record {
        value = a.value;
        more = b.more ++ a.more;
        is =
            subst (Is fits whole_row a.value) (append_assoc u b.more a.more)
            (joined b.value a.value (u ++ b.more) a.more b.is a.is);
      }

  begun_second : (x : A) (u v : List Token) → Is fits_part row x u → Begun (fits_with x) rest v
      → Begun fits whole_row (u ++ v)
  begun_second x u v i b =
      record {
        value = b.value;
        more = b.more;
        is =
            subst (Is fits whole_row b.value) (sym (append_assoc u v b.more))
            (joined x b.value u (v ++ b.more) i b.is);
      }

  took_second : (x : A) (u v : List Token) (o : Parsed B) → Is fits_part row x u → low_part x
      → Took low_rest (fits_with x) rest o v → Took low fits whole_row o (u ++ v)
  took_second x u v (Fails left false whole) i fine t = begun_second x u v i t
  took_second x u v (Fails left true whole) i fine t =
      record {
        next = t.next;
        after = t.after;
        text = t.text;
        begun =
            subst (Begun fits whole_row) (sym (append_assoc u v (t.next ∷ [])))
            (begun_second x u (v ++ t.next ∷ []) i t.begun);
      }
  took_second x u v (Reads y left) i fine t = (
    joined x y u v i t.0,
    f.joins y t.0.fit.0 (subst low_part (sym t.0.fit.1) fine) t.1,
  )

  taken_of : (ts : List Token) → length ts ≤ bound → (o : Parsed A) → one ts ≡ o → Taken low_part fits_part row o ts
      → Taken low fits whole_row (after o r) ts
  taken_of ts le (Fails left false whole) e t =
      record { front = t.front; text = t.text; took = begun_first t.front t.took }
  taken_of ts le (Fails left true whole) e t =
      record {
        front = t.front;
        text = t.text;
        took =
            record {
              next = t.took.next;
              after = t.took.after;
              text = t.took.text;
              begun = begun_first (t.front ++ t.took.next ∷ []) t.took.begun;
            };
      }
  taken_of ts le (Reads x left) e t =
      let s = (second x t.took.0.fit t.took.1).taken left (f.shrinks ts x left le e) in
      record {
        front = t.front ++ s.front;
        text =
            t.text ∙ ap (λ (w : List Token). t.front ++ w) s.text
            ∙ sym (append_assoc t.front s.front (left_of (r x left)));
        took = took_second x t.front s.front (r x left) t.took.0 t.took.1 s.took;
      }

  says_first : (left front : List Token) (deep : Bool) (whole : Option (List Token)) (y : B) (w : List Token) → fits y
      → Says low_part (Fails left deep whole) (sub y) w front → (spelling : List Token)
      → Says low (Fails left deep whole) y spelling front
  says_first left front false whole y w fit s spelling = s
  says_first left front true whole y w fit s spelling = λ fine. s (f.part y fit fine)

  says_second : (o : Parsed B) (y : B) (a b u v w front : List Token) → fits y → w ≡ a ++ b → a ≡ u → front ≡ u ++ v
      → Says low_rest o y b v → Says low o y w front
  says_second (Fails left false whole) y a b u v w front fit e g h s = s
  says_second (Fails left true whole) y a b u v w front fit e g h s = λ fine. s (f.others y fit fine)
  says_second (Reads x left) y a b u v w front fit e g h s =
      (s.0, e ∙ ap (λ (z : List Token). z ++ b) g ∙ ap (λ (z : List Token). u ++ z) s.1 ∙ sym h)

  says_part : (ts : List Token) → length ts ≤ bound → (o : Parsed A) → one ts ≡ o
      → (front : List Token) (x : A) (w : List Token) → ts ≡ front ++ left_of o
      → Alike next looks fits_part row o front x w → Says low_part o x w front
  says_part ts le o e =
      subst (λ (o : Parsed A). (front : List Token) (x : A) (w : List Token) → ts ≡ front ++ left_of o
      → Alike next looks fits_part row o front x w → Says low_part o x w front) e
      (λ front x w text a. first.says ts front x w le text a)

  part_of : (y : B) (w : List Token) → (i : Is fits whole_row y w) → (s : Splits (row (sub y)) (rest y) w)
      → Is fits_part row (sub y) s.first
  part_of y w i s =
      record { fit = f.fit y i.fit; levels = (levels_split (row (sub y)) (rest y) i.levels).0; spelled = s.one }

  says_of : (ts : List Token) → length ts ≤ bound → (o : Parsed A) → one ts ≡ o → Taken low_part fits_part row o ts
      → (front : List Token) (y : B) (w : List Token) → ts ≡ front ++ left_of (after o r)
      → Alike out further fits whole_row (after o r) front y w → Says low (after o r) y w front
  says_of ts le (Fails left deep whole) e t front y w text a =
      let s = spelled_split (row (sub y)) (rest y) w a.is.spelled in
      let part = says_part ts le (Fails left deep whole) e front (sub y) s.first text (record {
        others = a.others;
        behind = s.second ++ a.behind;
        seen = a.seen;
        is = part_of y w a.is s;
        outside = f.behind y s.second a.behind a.is.fit s.two a.outside;
        text =
            sym (append_assoc s.first s.second a.behind) ∙ ap (λ (z : List Token). z ++ a.behind) (sym s.text) ∙ a.text;
      }) in
      says_first left front deep whole y s.first a.is.fit part w
  says_of ts le (Reads x left) e t front y w text a =
      let s = spelled_split (row (sub y)) (rest y) w a.is.spelled in
      let le2 = f.shrinks ts x left le e in
      let u = (second x t.took.0.fit t.took.1).taken left le2 in
      let end = left_of (r x left) in
      let front_is : front ≡ t.front ++ u.front =
      append_cancel_right front (t.front ++ u.front) end
      (sym text ∙ t.text ∙ ap (λ (z : List Token). t.front ++ z) u.text ∙ sym (append_assoc t.front u.front end)) in
      let all : s.first ++ (s.second ++ a.behind) ≡ t.front ++ (u.front ++ a.others) =
      sym (append_assoc s.first s.second a.behind) ∙ ap (λ (z : List Token). z ++ a.behind) (sym s.text) ∙ a.text
      ∙ ap (λ (z : List Token). z ++ a.others) front_is ∙ append_assoc t.front u.front a.others in
      let part = says_part ts le (Reads x left) e t.front (sub y) s.first t.text (record {
        others = u.front ++ a.others;
        behind = s.second ++ a.behind;
        seen =
            subst (λ (z : List Token). AgreePast looks z (u.front ++ a.others)) (sym u.text)
            (seen_behind looks further (r x left) u.front a.others
            (subst (λ (z : List Token). Past looks further (r x left) z) u.text
            (f.past x left t.took.0.fit le2)) a.seen);
        is = part_of y w a.is s;
        outside = f.behind y s.second a.behind a.is.fit s.two a.outside;
        text = all;
      }) in
      let more = (second x t.took.0.fit t.took.1).says left u.front y s.second le2 u.text (record {
        others = a.others;
        behind = a.behind;
        seen = a.seen;
        is =
            record {
              fit = (a.is.fit, part.0);
              levels = (levels_split (row (sub y)) (rest y) a.is.levels).1;
              spelled = s.two;
            };
        outside = a.outside;
        text =
            append_cancel_left t.front (s.second ++ a.behind) (u.front ++ a.others)
            (ap (λ (z : List Token). z ++ (s.second ++ a.behind)) (sym part.1) ∙ all);
      }) in
      says_second (r x left) y s.first s.second t.front u.front w front a.is.fit s.text part.1 front_is more

  pub part_right : IsRight low bound out further fits (λ y. row (sub y) ▸ rest y) (one ⨟ r)
  part_right = record {
    alive = begun_first [] first.alive;
    taken = λ ts le. taken_of ts le (one ts) refl (first.taken ts le);
    says = λ ts front y w le text a. says_of ts le (one ts) refl (first.taken ts le) front y w text a;
  }
