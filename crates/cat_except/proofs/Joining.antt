-- One definition more in its group.
use Rattle.std.proofs.Common.{◌≡◌, ◌∙◌, ◌+◌, Bool, true, false, if◌then◌else◌, List, [], ◌∷◌}
use Rattle.std.proofs.Common.{◌++◌}
use Rattle.std.proofs.Common.{refl, sym, ap}
use Rattle.std.proofs.Common.{true≢false}
use Rattle.std.proofs.lemmas.Bool.Decides.{Decides-eqb}
use Rattle.std.proofs.lemmas.List.{append-nil}
use Rattle.std.proofs.lemmas.Slice.Eq.{bytes_eq-Decides}
use Rattle.cat_scope.specs.Groups.{Numbered, Key, Labelled, Base, Alone, Group, key_of, same_key, is_among, with_key}
use Rattle.cat_scope.specs.Groups.{group_at, groups_from, groups_of}

-- the definition stands last in its group, or in a new one behind the others
abbrev pub joined : Numbered → List Group → List Group
joined d [] = record { key = key_of d; except = d.1.except; defs = d ∷ [] } ∷ []
joined d (g ∷ gs) =
    if same_key (key_of d) g.key then record { key = g.key; except = g.except; defs = g.defs ++ d ∷ [] } ∷ gs
    else g ∷ joined d gs

-- keys that are the same are equal
pub key_is : (a b : Key) → same_key a b ≡ true → a ≡ b
key_is (Labelled l) (Labelled m) h = ap Labelled ((bytes_eq-Decides l m).0 h)
key_is Base Base h = refl
key_is (Alone n) (Alone m) h = ap Alone ((Decides-eqb n m).0 h)
key_is _ _ h = absurd (true≢false (sym h))

pub key_same : (a : Key) → same_key a a ≡ true
key_same (Labelled l) = (bytes_eq-Decides l l).1 refl
key_same Base = refl
key_same (Alone n) = (Decides-eqb n n).1 refl

-- keys of which one was seen and the other wasn't are two
apart : (seen : List Key) (a b : Key) → is_among a seen ≡ true → is_among b seen ≡ false → (t : Bool) → same_key b a ≡ t
    → same_key b a ≡ false
apart seen a b here there false is = is
apart seen a b here there true is =
    absurd (true≢false (sym here ∙ ap (λ (k : Key). is_among k seen) (sym (key_is b a is)) ∙ there))

split_seen : (key k : Key) (seen : List Key) (t : Bool) → same_key key k ≡ t → is_among key (k ∷ seen) ≡ false
    → (same_key key k ≡ false) × (is_among key seen ≡ false)
split_seen key k seen true is none =
    absurd (true≢false (sym (ap (λ b. if b then true else is_among key seen) is) ∙ none))
split_seen key k seen false is none = (is, sym (ap (λ b. if b then true else is_among key seen) is) ∙ none)

-- of a key that wasn't seen all definitions still stand ahead
abbrev Stand : List Numbered → List Key → List Numbered → Type 0
Stand all seen ds = (key : Key) → is_among key seen ≡ false → with_key key all ≡ with_key key ds

passed : (key : Key) (d : Numbered) (ds : List Numbered) → same_key key (key_of d) ≡ false
    → with_key key (d ∷ ds) ≡ with_key key ds
passed key d ds other = ap (λ b. if b then d ∷ with_key key ds else with_key key ds) other

with_push : (key : Key) (ds : List Numbered) (d : Numbered)
    → with_key key (ds ++ d ∷ []) ≡ with_key key ds ++ (if same_key key (key_of d) then d ∷ [] else [])
with_push key [] d = refl
with_push key (e ∷ ds) d = by (same_key key (key_of e)) (with_push key ds d) where
  by : (b : Bool) → with_key key (ds ++ d ∷ []) ≡ with_key key ds ++ (if same_key key (key_of d) then d ∷ [] else [])
      → (if b then e ∷ with_key key (ds ++ d ∷ []) else with_key key (ds ++ d ∷ []))
      ≡ (if b then e ∷ with_key key ds else with_key key ds) ++ (if same_key key (key_of d) then d ∷ [] else [])
  by true rest = ap (λ ns. e ∷ ns) rest
  by false rest = rest

-- the group of another key stays
other_group : (all : List Numbered) (e d : Numbered) → same_key (key_of e) (key_of d) ≡ false
    → group_at (all ++ d ∷ []) e ≡ group_at all e
other_group all e d other = ap (λ (ds : List Numbered). record { key = key_of e; except = e.1.except; defs = ds })
    (with_push (key_of e) all d ∙ ap (λ b. with_key (key_of e) all ++ (if b then d ∷ [] else [])) other
    ∙ append-nil (with_key (key_of e) all))

-- a definition whose key was seen makes no group
seen_push : (all : List Numbered) (d : Numbered) (seen : List Key) (ds : List Numbered)
    → is_among (key_of d) seen ≡ true
    → groups_from (all ++ d ∷ []) seen (ds ++ d ∷ []) ≡ groups_from all seen ds
seen_push all d seen [] here =
    ap (λ b. if b then [] else group_at (all ++ d ∷ []) d ∷ []) here
seen_push all d seen (e ∷ ds) here =
    by (is_among (key_of e) seen) refl (seen_push all d seen ds here)
    (seen_push all d (key_of e ∷ seen) ds (more (same_key (key_of d) (key_of e)))) where
      more : (b : Bool) → (if b then true else is_among (key_of d) seen) ≡ true
      more true = refl
      more false = here

      by : (b : Bool) → is_among (key_of e) seen ≡ b
          → groups_from (all ++ d ∷ []) seen (ds ++ d ∷ []) ≡ groups_from all seen ds
          → groups_from (all ++ d ∷ []) (key_of e ∷ seen) (ds ++ d ∷ []) ≡ groups_from all (key_of e ∷ seen) ds
          → (if b then groups_from (all ++ d ∷ []) seen (ds ++ d ∷ [])
          else group_at (all ++ d ∷ []) e ∷ groups_from (all ++ d ∷ []) (key_of e ∷ seen) (ds ++ d ∷ []))
          ≡ (if b then groups_from all seen ds else group_at all e ∷ groups_from all (key_of e ∷ seen) ds)
      by true is old new = old
      by false is old new =
          ap (λ (g : Group). g ∷ groups_from (all ++ d ∷ []) (key_of e ∷ seen) (ds ++ d ∷ []))
          (other_group all e d (apart seen (key_of d) (key_of e) here is (same_key (key_of e) (key_of d)) refl))
          ∙ ap (λ (gs : List Group). group_at all e ∷ gs) new

-- one whose key wasn't seen joins its group
new_push : (all : List Numbered) (d : Numbered) (seen : List Key) (ds : List Numbered) → Stand all seen ds
    → is_among (key_of d) seen ≡ false
    → groups_from (all ++ d ∷ []) seen (ds ++ d ∷ []) ≡ joined d (groups_from all seen ds)
new_push all d seen [] stand none =
    ap (λ b. if b then [] else group_at (all ++ d ∷ []) d ∷ []) none
    ∙ ap (λ (ds : List Numbered). record { key = key_of d; except = d.1.except; defs = ds } ∷ [])
    (with_push (key_of d) all d
    ∙ ap (λ (ds : List Numbered). ds ++ (if same_key (key_of d) (key_of d) then d ∷ [] else []))
    (stand (key_of d) none) ∙ ap (λ b. if b then d ∷ [] else []) (key_same (key_of d)))
new_push all d seen (e ∷ ds) stand none =
    by (is_among (key_of e) seen) refl (same_key (key_of d) (key_of e)) refl
    (λ more_seen stand_on unseen. new_push all d more_seen ds stand_on unseen) where
      grown_group : same_key (key_of d) (key_of e) ≡ true
          → group_at (all ++ d ∷ []) e ≡ record {
            key = key_of e;
            except = e.1.except;
            defs = with_key (key_of e) all
                ++ d ∷ [];
          }
      grown_group same = ap (λ (ds : List Numbered). record { key = key_of e; except = e.1.except; defs = ds })
          (with_push (key_of e) all d ∙ ap (λ b. with_key (key_of e) all ++ (if b then d ∷ [] else []))
          (ap (λ (k : Key). same_key (key_of e) k) (key_is (key_of d) (key_of e) same) ∙ key_same (key_of e)))

      swapped : same_key (key_of d) (key_of e) ≡ false → same_key (key_of e) (key_of d) ≡ false
      swapped same = back (same_key (key_of e) (key_of d)) refl where
        back : (t : Bool) → same_key (key_of e) (key_of d) ≡ t → same_key (key_of e) (key_of d) ≡ false
        back false is = is
        back true is = absurd (true≢false (sym (key_same (key_of d))
            ∙ ap (λ (k : Key). same_key (key_of d) k) (sym (key_is (key_of e) (key_of d) is)) ∙ same))

      by : (b : Bool) → is_among (key_of e) seen ≡ b → (c : Bool) → same_key (key_of d) (key_of e) ≡ c
          → ((keys : List Key) → Stand all keys ds → is_among (key_of d) keys ≡ false
          → groups_from (all ++ d ∷ []) keys (ds ++ d ∷ []) ≡ joined d (groups_from all keys ds))
          → (if b then groups_from (all ++ d ∷ []) seen (ds ++ d ∷ [])
          else group_at (all ++ d ∷ []) e ∷ groups_from (all ++ d ∷ []) (key_of e ∷ seen) (ds ++ d ∷ []))
          ≡ joined d (if b then groups_from all seen ds else group_at all e ∷ groups_from all (key_of e ∷ seen) ds)
      by true is c same rest = rest seen (λ key unseen. stand key unseen
          ∙ passed key e ds (apart seen (key_of e) key is unseen (same_key key (key_of e)) refl)) none
      by false is true same rest =
          ap (λ (g : Group). g ∷ groups_from (all ++ d ∷ []) (key_of e ∷ seen) (ds ++ d ∷ [])) (grown_group same)
          ∙ ap (λ (gs : List Group). record {
            key = key_of e;
            except = e.1.except;
            defs = with_key (key_of e) all
                ++ d ∷ [];
          } ∷ gs)
          (seen_push all d (key_of e ∷ seen) ds (ap (λ b. if b then true else is_among (key_of d) seen) same))
          ∙ sym (ap (λ b. if b then record {
            key = key_of e;
            except = e.1.except;
            defs = with_key (key_of e) all
                ++ d ∷ [];
          }
          ∷ groups_from all (key_of e ∷ seen) ds else group_at all e ∷ joined d (groups_from all (key_of e ∷ seen) ds))
          same)
      by false is false same rest =
          ap (λ (g : Group). g ∷ groups_from (all ++ d ∷ []) (key_of e ∷ seen) (ds ++ d ∷ []))
          (other_group all e d (swapped same))
          ∙ ap (λ (gs : List Group). group_at all e ∷ gs)
          (rest (key_of e ∷ seen) (λ key unseen.
          let parts : (same_key key (key_of e) ≡ false) × (is_among key seen ≡ false) =
          split_seen key (key_of e) seen (same_key key (key_of e)) refl unseen in
          stand key parts.1 ∙ passed key e ds parts.0)
          (ap (λ b. if b then true else is_among (key_of d) seen) same ∙ none))
          ∙ sym (ap (λ b. if b then record {
            key = key_of e;
            except = e.1.except;
            defs = with_key (key_of e) all
                ++ d ∷ [];
          }
          ∷ groups_from all (key_of e ∷ seen) ds else group_at all e ∷ joined d (groups_from all (key_of e ∷ seen) ds))
          same)

pub groups_push : (ds : List Numbered) (d : Numbered) → groups_of (ds ++ d ∷ []) ≡ joined d (groups_of ds)
groups_push ds d = new_push ds d [] ds (λ key unseen. refl) refl
