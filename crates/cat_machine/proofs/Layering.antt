-- Lists in one vector as the one on top changes.
use Rattle.std.proofs.Common.{◌≡◌, ◌≢◌, ℕ, zero, suc, ◌+◌, ◌-◌, ◌<◌, ◌≤◌, List, [], ◌∷◌, ◌++◌, length, set, take, drop}
use Rattle.std.proofs.Common.{refl, sym, ap, ◌∙◌, subst, arith}
use Rattle.std.specs.Prelude.{MatchOption}
use Rattle.std.proofs.Common.{Option, Some, None, slice_get, length-append}
use Rattle.std.proofs.lemmas.List.{drop-append-le, drop-set-add, drop-take, drop_all, length-drop}
use Rattle.std.proofs.lemmas.List.{length-take-le}
use Rattle.std.proofs.lemmas.List.{take-append-drop, take-append-le, take-set-le, take-take, take_all}
use Rattle.cat_machine.specs.declared.layers.LayerStart.{LayerStart}
use Rattle.cat_machine.specs.Layers.{extended, joined, rest_of, shortened, top_head, with_at}
use Rattle.cat_machine.specs.Layers.{with_item}
use Rattle.cat_machine.specs.inside.Layered.{AreNested, layers_of, start_of}

-- where a list begins, with its head
abbrev pub starting_at : {H : Type 0} → H → ℕ → LayerStart H
starting_at h start = record { head = h; start = start }

-- ---- where lists begin

module _ {H : Type 0} where
  pub start_top : (ls : List (LayerStart H)) (n : ℕ) (l : LayerStart H) → slice_get ls 0 ≡ Some l
      → l.start ≡ start_of ls n
  start_top [] n l is = absurd (cc is)
  start_top (m ∷ ls) n l is = let same : m ≡ l = cc is in ap (λ (k : LayerStart H). k.start) (sym same)

  pub start_none : (ls : List (LayerStart H)) (n : ℕ) → slice_get ls 0 ≡ None → n ≡ start_of ls n
  start_none [] n is = refl
  start_none (m ∷ ls) n is = absurd (cc is)

  pub nested_joined : (l m : LayerStart H) (ls : List (LayerStart H)) (n : ℕ) → AreNested (l ∷ m ∷ ls) n
      → AreNested (m ∷ ls) n
  nested_joined l m ls n nested =
      (let one = nested.0 in let other = nested.1.0 in omega (arith, one, other), nested.1.1)

-- ---- items

module _ {T : Type 0} where
  -- nothing is left of nothing
  pub none_closed : (items : List T) (n : ℕ) → length items ≡ 0 → length (take n items) ≡ 0
  none_closed [] zero none = refl
  none_closed [] (suc n) none = refl
  none_closed (x ∷ items) n none = absurd (cc none)

  front : (s m : ℕ) (items : List T) → s ≤ m → take s (take m items) ≡ take s items
  front s m items le = take-take s m items le

  set_is : (xs : List T) (i : ℕ) (x : T) → set xs i x ≡ with_at i x xs
  set_is [] zero x = refl
  set_is [] (suc i) x = refl
  set_is (y ∷ xs) zero x = refl
  set_is (y ∷ xs) (suc i) x = ap (λ (l : List T). y ∷ l) (set_is xs i x)

module _ {H T : Type 0} where
  -- ---- opened

  pub opened : (l : LayerStart H) (ls : List (LayerStart H)) (items : List T) → l.start ≡ length items
      → layers_of (l ∷ ls) items ≡ (l.head, []) ∷ layers_of ls items
  opened l ls items at_end =
      ap (λ (xs : List T). (l.head, xs) ∷ layers_of ls (take l.start items))
      (drop_all l.start items (omega (arith, at_end)))
      ∙ ap (λ (xs : List T). (l.head, []) ∷ layers_of ls xs) (take_all l.start items (omega (arith, at_end)))

  pub nested_opened : (l : LayerStart H) (ls : List (LayerStart H)) (items : List T) → l.start ≡ length items
      → AreNested ls (length items)
      → AreNested (l ∷ ls) (length items)
  nested_opened l ls items at_end nested = (omega (arith, at_end), subst (λ n. AreNested ls n) (sym at_end) nested)

  -- ---- items at the end

  pub longer : (ls : List (LayerStart H)) (items more : List T) → AreNested ls (length items) → layers_of ls items ≢ []
      → layers_of ls (items ++ more) ≡ extended more (layers_of ls items)
  longer [] items more nested some = absurd (some refl)
  longer (l ∷ ls) items more nested some =
      ap (λ (xs : List T). (l.head, xs) ∷ layers_of ls (take l.start (items ++ more)))
      (drop-append-le l.start items more nested.0)
      ∙ ap (λ (xs : List T). (l.head, drop l.start items ++ more) ∷ layers_of ls xs)
      (take-append-le l.start items more nested.0)

  pub nested_longer : (ls : List (LayerStart H)) (items more : List T) → AreNested ls (length items)
      → layers_of ls items ≢ []
      → AreNested ls (length (items ++ more))
  nested_longer [] items more nested some = absurd (some refl)
  nested_longer (l ∷ ls) items more nested some =
      (let n = nested.0 in omega (arith, n, length-append items more), nested.1)

  -- ---- the list on top

  pub head_on_top : (ls : List (LayerStart H)) (items : List T) (l : LayerStart H) → slice_get ls 0 ≡ Some l
      → top_head (layers_of ls items) ≡ Some l.head
  head_on_top [] items l is = absurd (cc is)
  head_on_top (m ∷ ls) items l is = let same : m ≡ l = cc is in ap (λ (k : LayerStart H). Some k.head) same

  pub no_head : (ls : List (LayerStart H)) (items : List T) → slice_get ls 0 ≡ None
      → top_head (layers_of ls items) ≡ None
  no_head [] items is = refl
  no_head (m ∷ ls) items is = absurd (cc is)

  -- ---- it is gone

  pub closed : (l : LayerStart H) (ls : List (LayerStart H)) (items : List T)
      → layers_of ls (take l.start items) ≡ rest_of (layers_of (l ∷ ls) items)
  closed l ls items = refl

  pub nested_closed : (l : LayerStart H) (ls : List (LayerStart H)) (items : List T) → AreNested (l ∷ ls) (length items)
      → AreNested ls (length (take l.start items))
  nested_closed l ls items nested = subst (λ k. AreNested ls k) (sym (length-take-le l.start items nested.0)) nested.1

  -- ---- shortened

  pub shorter : (ls : List (LayerStart H)) (items : List T) (n : ℕ) → AreNested ls (length items)
      → layers_of ls (take (start_of ls (length items) + (length items - start_of ls (length items) - n)) items)
      ≡ shortened n (layers_of ls items)
  shorter [] items n nested = refl
  shorter (l ∷ ls) items n nested =
      let left : length items - l.start - n ≡ length (drop l.start items) - n =
      omega (arith, length-drop l.start items) in
      ap (λ (xs : List T). (l.head, xs) ∷ layers_of ls
      (take l.start (take (l.start + (length items - l.start - n)) items)))
      (drop-take l.start (length items - l.start - n) items ∙ ap (λ k. take k (drop l.start items)) left)
      ∙ ap (λ (xs : List T). (l.head, take (length (drop l.start items) - n) (drop l.start items)) ∷ layers_of ls xs)
      (front l.start (l.start + (length items - l.start - n)) items (omega arith))

  -- ---- another item

  pub with_set : (ls : List (LayerStart H)) (items : List T) (i : ℕ) (x : T)
      → i < length items - start_of ls (length items)
      → layers_of ls (set items (start_of ls (length items) + i) x) ≡ with_item i x (layers_of ls items)
  with_set [] items i x within = refl
  with_set (l ∷ ls) items i x within =
      ap (λ (xs : List T). (l.head, xs) ∷ layers_of ls (take l.start (set items (l.start + i) x)))
      (drop-set-add l.start items i x ∙ set_is (drop l.start items) i x)
      ∙ ap (λ (xs : List T). (l.head, with_at i x (drop l.start items)) ∷ layers_of ls xs)
      (take-set-le l.start items (l.start + i) x (omega arith))

  -- ---- joined

  pub joins : (l m : LayerStart H) (ls : List (LayerStart H)) (items : List T) → AreNested (l ∷ m ∷ ls) (length items)
      → layers_of (m ∷ ls) items ≡ joined (layers_of (l ∷ m ∷ ls) items)
  joins l m ls items nested =
      let long : length (take l.start items) ≡ l.start = length-take-le l.start items nested.0 in
      let below : m.start ≤ length (take l.start items) = let n = nested.1.0 in omega (arith, n, long) in
      ap (λ (xs : List T). (m.head, xs) ∷ layers_of ls (take m.start items))
      (ap (drop m.start) (sym (take-append-drop l.start items))
      ∙ drop-append-le m.start (take l.start items) (drop l.start items) below)
      ∙ ap (λ (xs : List T). (m.head, drop m.start (take l.start items) ++ drop l.start items) ∷ layers_of ls xs)
      (ap (take m.start) (sym (take-append-drop l.start items))
      ∙ take-append-le m.start (take l.start items) (drop l.start items) below)

  -- ---- the one on top is popped, where there is one

  pub popped_closed : (r : Option (LayerStart H)) (ls ms : List (LayerStart H)) (items : List T) (start : ℕ)
      → MatchOption r ((ls ≡ []) × (ms ≡ [])) (λ top. ls ≡ top ∷ ms) → start ≡ start_of ls (length items)
      → layers_of ms (take start items) ≡ rest_of (layers_of ls items)
  popped_closed None ls ms items start is start_is =
      ap (λ (k : List (LayerStart H)). layers_of k (take start items)) is.1
      ∙ sym (ap (λ (k : List (LayerStart H)). rest_of (layers_of k items)) is.0)
  popped_closed (Some top) ls ms items start is start_is =
      ap (λ n. layers_of ms (take n items)) (start_is ∙ ap (λ (k : List (LayerStart H)). start_of k (length items)) is)
      ∙ sym (ap (λ (k : List (LayerStart H)). rest_of (layers_of k items)) is)

  pub popped_nested : (r : Option (LayerStart H)) (ls ms : List (LayerStart H)) (items : List T) (start : ℕ)
      → MatchOption r ((ls ≡ []) × (ms ≡ [])) (λ top. ls ≡ top ∷ ms) → start ≡ start_of ls (length items)
      → AreNested ls (length items)
      → AreNested ms (length (take start items))
  popped_nested None ls ms items start is start_is nested =
      subst (λ (k : List (LayerStart H)). AreNested k (length (take start items))) (sym is.1)
      (none_closed items start (subst (λ (k : List (LayerStart H)). AreNested k (length items)) is.0 nested))
  popped_nested (Some top) ls ms items start is start_is nested =
      subst (λ n. AreNested ms (length (take n items)))
      (sym (start_is ∙ ap (λ (k : List (LayerStart H)). start_of k (length items)) is))
      (nested_closed top ms items (subst (λ (k : List (LayerStart H)). AreNested k (length items)) is nested))

  pub popped_joined : (r : Option (LayerStart H)) (ls ms : List (LayerStart H)) (items : List T)
      → MatchOption r ((ls ≡ []) × (ms ≡ [])) (λ top. ls ≡ top ∷ ms) → AreNested ls (length items)
      → 2 ≤ length (layers_of ls items)
      → layers_of ms items ≡ joined (layers_of ls items)
  popped_joined None ls ms items is nested long =
      let none : length (layers_of ls items) ≡ 0 = ap (λ (k : List (LayerStart H)). length (layers_of k items)) is.0 in
      absurd (omega (arith, long, none))
  popped_joined (Some top) ls [] items is nested long =
      let one : length (layers_of ls items) ≡ 1 = ap (λ (k : List (LayerStart H)). length (layers_of k items)) is in
      absurd (omega (arith, long, one))
  popped_joined (Some top) ls (m ∷ ms) items is nested long =
      joins top m ms items (subst (λ (k : List (LayerStart H)). AreNested k (length items)) is nested)
      ∙ sym (ap (λ (k : List (LayerStart H)). joined (layers_of k items)) is)

  pub popped_still : (r : Option (LayerStart H)) (ls ms : List (LayerStart H)) (items : List T)
      → MatchOption r ((ls ≡ []) × (ms ≡ [])) (λ top. ls ≡ top ∷ ms) → AreNested ls (length items)
      → 2 ≤ length (layers_of ls items)
      → AreNested ms (length items)
  popped_still None ls ms items is nested long =
      let none : length (layers_of ls items) ≡ 0 = ap (λ (k : List (LayerStart H)). length (layers_of k items)) is.0 in
      absurd (omega (arith, long, none))
  popped_still (Some top) ls [] items is nested long =
      let one : length (layers_of ls items) ≡ 1 = ap (λ (k : List (LayerStart H)). length (layers_of k items)) is in
      absurd (omega (arith, long, one))
  popped_still (Some top) ls (m ∷ ms) items is nested long =
      nested_joined top m ms (length items) (subst (λ (k : List (LayerStart H)). AreNested k (length items)) is nested)
