-- The lines of a text by its line feeds.
use Rattle.std.proofs.Common.{◌≡◌, ℕ, zero, suc, ◌+◌, ◌<◌, ◌≤◌, Bool, true, false, ◌==◌, List, [], ◌∷◌, length, take}
use Rattle.std.proofs.Common.{drop, get_or}
use Rattle.std.proofs.Common.{refl, ap, ◌∙◌, arith, length-drop}
use Rattle.std.specs.Prelude.{◌≢◌, ◌-◌}
use Rattle.std.proofs.lemmas.List.{drop-drop}
use Rattle.std.specs.List.{prefix_len}
use Rattle.std.proofs.lemmas.Bool.Decides.{nat_tests}
use Rattle.std.proofs.lemmas.List.Sums.{prefix_len-drop_yes, prefix_len-drop_no, prefix_len-drop_all}
use Rattle.cat_cert.specs.Texts.{parted, byte_before, is_first, is_other, passed_over, lines_read}

pub feed_later : (bytes : List ℕ) (i : ℕ) → i < length bytes → get_or bytes i 0 ≢ 10
    → i + prefix_len is_other (drop i bytes) ≡ (i + 1) + prefix_len is_other (drop (i + 1) bytes)
feed_later bytes i inside other =
    let test : is_other (get_or bytes i 0) ≡ true = grind (arith, nat_tests) in
    omega (arith, prefix_len-drop_yes is_other bytes i 0 inside test)

pub feed_here : (bytes : List ℕ) (i : ℕ) → i < length bytes → get_or bytes i 0 ≡ 10
    → prefix_len is_other (drop i bytes) ≡ 0
feed_here bytes i inside feed =
    let test : is_other (get_or bytes i 0) ≡ false = grind (arith, nat_tests) in
    prefix_len-drop_no is_other bytes i 0 inside test

pub feed_none : (bytes : List ℕ) (i : ℕ) → length bytes ≤ i → prefix_len is_other (drop i bytes) ≡ 0
feed_none bytes i past = prefix_len-drop_all is_other bytes i past

pub ruleset feeds = (feed_later, feed_here, feed_none)

-- ---- the next line

-- the first line of a text, with so many bytes
pub record Begins (text : List ℕ) (m : ℕ) : Type 0 where
  pub ended : (parted text).ended ≡ take m text ∷ (parted (drop (suc m) text)).ended
  pub rest : (parted text).rest ≡ (parted (drop (suc m) text)).rest

feed_first : (b : ℕ) (bs : List ℕ) (m : ℕ) (feed : Bool) → (b == 10) ≡ feed
    → ((k : ℕ) → prefix_len is_other bs ≡ k → k < length bs → Begins bs k)
    → prefix_len is_other (b ∷ bs) ≡ m → m < suc (length bs) → Begins (b ∷ bs) m
unfolding parted
feed_first b bs zero true is more count within = record { ended = rw is refl; rest = rw is refl }
feed_first b bs (suc m) true is more count within =
    let none : prefix_len is_other (b ∷ bs) ≡ 0 = rw is refl in
    absurd (omega (arith, none, count))
feed_first b bs zero false is more count within =
    let some : prefix_len is_other (b ∷ bs) ≡ 1 + prefix_len is_other bs = rw is refl in
    absurd (omega (arith, some, count))
feed_first b bs (suc m) false is more count within =
    let some : prefix_len is_other (b ∷ bs) ≡ 1 + prefix_len is_other bs = rw is refl in
    let others = more m (omega (arith, some, count)) (omega (arith, within)) in
    record {
      ended = rw is (ap (λ (e : List (List ℕ)). (byte_before b e (parted bs).rest).ended) others.ended);
      rest =
          rw is (ap (λ (e : List (List ℕ)). (byte_before b e (parted bs).rest).rest) others.ended ∙ others.rest);
    }

first_begins : (text : List ℕ) (m : ℕ) → prefix_len is_other text ≡ m → m < length text → Begins text m
first_begins [] m count within = absurd (omega (arith, within))
first_begins (b ∷ bs) m count within =
    feed_first b bs m (b == 10) refl (λ k one inside. first_begins bs k one inside) count within

no_first : (b : ℕ) (bs : List ℕ) (feed : Bool) → (b == 10) ≡ feed
    → (length bs ≤ prefix_len is_other bs → (parted bs).ended ≡ []) → suc (length bs) ≤ prefix_len is_other (b ∷ bs)
    → (parted (b ∷ bs)).ended ≡ []
unfolding parted
no_first b bs true is more past =
    let none : prefix_len is_other (b ∷ bs) ≡ 0 = rw is refl in
    absurd (omega (arith, none, past))
no_first b bs false is more past =
    let some : prefix_len is_other (b ∷ bs) ≡ 1 + prefix_len is_other bs = rw is refl in
    rw is (ap (λ (e : List (List ℕ)). (byte_before b e (parted bs).rest).ended) (more (omega (arith, some, past))))

pub no_begins : (text : List ℕ) → length text ≤ prefix_len is_other text → (parted text).ended ≡ []
unfolding parted
no_begins [] past = refl
no_begins (b ∷ bs) past = no_first b bs (b == 10) refl (no_begins bs) past

-- the line at a place
pub record LineAt (bytes : List ℕ) (start end : ℕ) : Type 0 where
  pub ended :
      (parted (drop start bytes)).ended ≡ take (end - start) (drop start bytes) ∷ (parted (drop (end + 1) bytes)).ended
  pub rest : (parted (drop start bytes)).rest ≡ (parted (drop (end + 1) bytes)).rest

pub line_at : (bytes : List ℕ) (start end : ℕ) → end ≡ start + prefix_len is_other (drop start bytes)
    → end < length bytes → LineAt bytes start end
line_at bytes start end is within =
    let m = end - start in
    let count = length-drop start bytes in
    let first = first_begins (drop start bytes) m (omega (arith, is)) (omega (arith, is, within, count)) in
    let same : drop (suc m) (drop start bytes) ≡ drop (end + 1) bytes =
    drop-drop (suc m) start bytes ∙ ap (λ (k : ℕ). drop k bytes) (omega (arith, is)) in
    record {
      ended =
          first.ended
          ∙ ap (λ (text : List ℕ). take m (drop start bytes) ∷ (parted text).ended) same;
      rest = first.rest ∙ ap (λ (text : List ℕ). (parted text).rest) same;
    }

pub none_at : (bytes : List ℕ) (start : ℕ) → length bytes ≡ start + prefix_len is_other (drop start bytes)
    → (parted (drop start bytes)).ended ≡ []
none_at bytes start is =
    let count = length-drop start bytes in
    no_begins (drop start bytes) (omega (arith, is, count))

-- ---- lines that are passed over

pub pass_line : (line : List ℕ) (lines : List (List ℕ)) → is_first line ≡ false
    → (lines_read (line ∷ lines) ≡ lines_read lines) × (passed_over (line ∷ lines) ≡ suc (passed_over lines))
pass_line line lines other =
    let one : passed_over (line ∷ lines) ≡ 1 + passed_over lines = rw other refl in
    let more : passed_over (line ∷ lines) ≡ suc (passed_over lines) = omega (arith, one) in
    (ap (λ (k : ℕ). drop k (line ∷ lines)) more, more)
