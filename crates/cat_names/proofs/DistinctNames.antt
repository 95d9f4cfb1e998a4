-- Where no name is twice, each is the first of its spelling.
use Rattle.std.proofs.Common.{◌≡◌, ℕ, zero, suc, ◌+◌, ◌||◌, Bool, true, false, List, [], ◌∷◌, ◌++◌, length, map, Some}
use Rattle.std.proofs.Common.{slice_get, refl, sym, ap, ◌∙◌, subst, arith}
use Rattle.std.specs.Prelude.{bytes_eq, cond, find, filter, take, flat_map}
use Rattle.std.specs.List.{enumerate_from, list_any}
use Rattle.std.proofs.lemmas.List.{append_assoc, length-append}
use Rattle.std.proofs.lemmas.Slice.Eq.{bytes_eq-Decides}
use Rattle.std.proofs.Math.Seq.{take-append_seam}
use Rattle.cat_tree.specs.declared.name.Name.{Name}
use Rattle.cat_tree.specs.declared.program.Item.{Item}
use Rattle.cat_tree.specs.declared.program.Item.TheVariants as item
use Rattle.cat_scope.specs.Names.{AllHave}
use Rattle.cat_names.proofs.ListLaws.{all_left, all_right}
use Rattle.cat_names.specs.Lists.{clashing}
use Rattle.cat_names.specs.Lookup.{first_named}
use Rattle.cat_names.specs.Written.{texts, names_of, scopes_in}
use Rattle.cat_names.specs.Unknown.{twice}
use Rattle.cat_names.specs.DeclarationFaults.{declared_name}

-- no text equals a later one
abbrev pub Apart : List (List ℕ) → Type 0
Apart [] = Unit {0}
Apart (t ∷ ts) = AllHave (λ u. bytes_eq t u ≡ false) ts × Apart ts

-- no name in front equals this one
abbrev Clear : List Name → Name → Type 0
Clear front w = AllHave (λ o. bytes_eq o.text w.text ≡ false) front

map_none : {A B : Type 0} (f : A → B) (xs : List A) → map f xs ≡ [] → xs ≡ []
map_none f [] h = refl
map_none f (x ∷ xs) h = cc h

clear_of : (front : List Name) (w : Name) → list_any (λ o. bytes_eq o.text w.text) front ≡ false → Clear front w
clear_of [] w h = tt
clear_of (o ∷ front) w h = by (λ g. clear_of front w g) (bytes_eq o.text w.text) refl h
  where
    by : (list_any (λ x. bytes_eq x.text w.text) front ≡ false → Clear front w) → (b : Bool)
        → bytes_eq o.text w.text ≡ b → (b || list_any (λ x. bytes_eq x.text w.text) front) ≡ false
        → Clear (o ∷ front) w
    by rest true e g = cc g
    by rest false e g = (e, rest g)

-- what holds of each, split at the seam of two lists
clear_front : (front : List Name) (w : Name) (names : List Name) → AllHave (Clear (front ++ w ∷ [])) names
    → AllHave (Clear front) names
clear_front front w [] h = tt
clear_front front w (v ∷ names) h =
    (all_left (λ o. bytes_eq o.text v.text ≡ false) front (w ∷ []) h.0, clear_front front w names h.1)

clear_last : (front : List Name) (w : Name) (names : List Name) → AllHave (Clear (front ++ w ∷ [])) names
    → AllHave (λ u. bytes_eq w.text u ≡ false) (texts names)
clear_last front w [] h = tt
clear_last front w (v ∷ names) h =
    ((all_right (λ o. bytes_eq o.text v.text ≡ false) front (w ∷ []) h.0).0, clear_last front w names h.1)

-- names none of which equals one in front of it, where some stand in front of all
apart_from : (all front names : List Name) (n : ℕ) → all ≡ front ++ names → n ≡ length front
    → filter (λ x. list_any (λ o. bytes_eq o.text x.1.text) (take x.0 all)) (enumerate_from n names) ≡ []
    → AllHave (Clear front) names × Apart (texts names)
apart_from all front [] n is counted h = (tt, tt)
apart_from all front (w ∷ names) n is counted h =
    by (list_any (λ o. bytes_eq o.text w.text) (take n all)) refl h
    (λ g. apart_from all (front ++ w ∷ []) names (n + 1) (is ∙ sym (append_assoc front (w ∷ []) names))
    (omega (arith, counted, length-append front (w ∷ []))) g)
  where
    front_is : take n all ≡ front
    front_is = ap (λ k. take k all) counted ∙ ap (λ xs. take (length front) xs) is ∙ take-append_seam front (w ∷ names)

    rest : List (ℕ × Name)
    rest = filter (λ x. list_any (λ o. bytes_eq o.text x.1.text) (take x.0 all)) (enumerate_from (n + 1) names)

    by : (b : Bool) → list_any (λ o. bytes_eq o.text w.text) (take n all) ≡ b → cond b ((n, w) ∷ rest) rest ≡ []
        → (rest ≡ [] → AllHave (Clear (front ++ w ∷ [])) names × Apart (texts names))
        → AllHave (Clear front) (w ∷ names) × Apart (texts (w ∷ names))
    by true e g next = cc g
    by false e g next = let more = next g in (
      (
        clear_of front w (sym (ap (λ xs. list_any (λ o. bytes_eq o.text w.text) xs) front_is) ∙ e),
        clear_front front w names more.0,
      ),
      (clear_last front w names more.0, more.1),
    )

pub names_apart : (names : List Name) → twice names ≡ [] → Apart (texts names)
names_apart names h =
    let none = map_none _ (clashing (λ w o. bytes_eq o.text w.text) names) h in
    (apart_from names [] names 0 refl refl (map_none _ _ none)).1

-- the names of scopes are some of all that are declared
scopes_all : (P : List ℕ → Type 0) (items : List Item) → AllHave P (texts (flat_map declared_name items))
    → AllHave P (texts (names_of (scopes_in items)))
scopes_all P [] all = tt
scopes_all P (item.Structure p u fields ∷ more) all = scopes_all P more all.1
scopes_all P (item.Enumeration p u cases ∷ more) all = scopes_all P more all.1
scopes_all P (item.Scope p u variables ∷ more) all = (all.0, scopes_all P more all.1)
scopes_all P (item.Block b ∷ more) all = scopes_all P more all

pub scopes_apart : (items : List Item) → Apart (texts (flat_map declared_name items))
    → Apart (texts (names_of (scopes_in items)))
scopes_apart [] h = tt
scopes_apart (item.Structure p u fields ∷ more) h = scopes_apart more h.1
scopes_apart (item.Enumeration p u cases ∷ more) h = scopes_apart more h.1
scopes_apart (item.Scope p u variables ∷ more) h =
    (scopes_all (λ t. bytes_eq u.text t ≡ false) more h.0, scopes_apart more h.1)
scopes_apart (item.Block b ∷ more) h = scopes_apart more h

-- ---- the first of a name

-- what holds of each name of a list holds of the name at a number
all_named : {A : Type 0} (P : List ℕ → Type 0) (name_of : A → List ℕ) (xs : List A) (k : ℕ) (x : A)
    → AllHave P (map name_of xs) → slice_get xs k ≡ Some x → P (name_of x)
all_named P name_of [] k x all h = cc h
all_named P name_of (y ∷ ys) zero x all h = let is : y ≡ x = cc h in subst (λ z. P (name_of z)) is all.0
all_named P name_of (y ∷ ys) (suc k) x all h = all_named P name_of ys k x all.1 h

first_from : {A : Type 0} (name_of : A → List ℕ) (w : List ℕ) (n : ℕ) (xs : List A) (k : ℕ) (x : A)
    → Apart (map name_of xs) → slice_get xs k ≡ Some x → name_of x ≡ w
    → find (λ y. bytes_eq (name_of y.1) w) (enumerate_from n xs) ≡ Some (n + k, x)
first_from name_of w n [] k x apart h is = cc h
first_from name_of w n (y ∷ ys) zero x apart h is = let same : y ≡ x = cc h in
    let equal : bytes_eq (name_of y) w ≡ true = (bytes_eq-Decides (name_of y) w).1 (ap name_of same ∙ is) in
    rw equal (ap (λ z. Some (n, z)) same ∙ ap (λ m. Some (m, x)) (omega arith))
first_from name_of w n (y ∷ ys) (suc k) x apart h is =
    let other : bytes_eq (name_of y) w ≡ false =
    subst (λ u. bytes_eq (name_of y) u ≡ false) is
    (all_named (λ u. bytes_eq (name_of y) u ≡ false) name_of ys k x apart.0 h) in
    rw other (first_from name_of w (n + 1) ys k x apart.1 h is ∙ ap (λ m. Some (m, x)) (omega arith))

pub first_at : {A : Type 0} (name_of : A → List ℕ) (w : List ℕ) (xs : List A) (k : ℕ) (x : A)
    → Apart (map name_of xs) → slice_get xs k ≡ Some x → name_of x ≡ w → first_named name_of w xs ≡ Some (k, x)
first_at name_of w xs k x apart h is = first_from name_of w 0 xs k x apart h is ∙ ap (λ m. Some (m, x)) (omega arith)
