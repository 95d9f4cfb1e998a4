-- What is passed to the slots of a scope.
use Rattle.std.proofs.Common.{◌≡◌, ℕ, zero, suc, ◌+◌, ◌<◌, Bool, true, false, ◌&&◌, not, nat_eq, IsTrue, List, [], ◌∷◌}
use Rattle.std.proofs.Common.{◌++◌, length, map, Option, Some, None, refl, sym, ap, ◌∙◌, arith, append_assoc}
use Rattle.std.proofs.Common.{if◌then◌else◌}
use Rattle.std.proofs.lemmas.Bool.{eqb-true, eq-eqb}
use Rattle.cat_value.specs.declared.value.Value.{Value}
use Rattle.cat_value.specs.declared.value.Value.TheVariants as flat
use Rattle.cat_value.specs.declared.declaration.ItemDecl.{ItemDecl}
use Rattle.cat_value.specs.Inputs.{must_be_given, may_be_given}
use Rattle.cat_scope.specs.Composed.{value_given}
use Rattle.cat_scope.specs.Names.{is_in, all_differ}
use Rattle.cat_scope.specs.Calls.{Items, call_entry, call_input}
use Rattle.cat_scope.specs.Running.{with_entry, no_values}
use Rattle.cat_lower.proofs.Stacks.{length_append}
use Rattle.cat_lower.proofs.TypesAgree.{both_so}

-- the numbers of some values
abbrev pub numbers : List (ℕ × Value) → List ℕ
numbers fs = map (λ f. f.0) fs

-- values passed to items by their numbers
abbrev pub passed_to : List (ℕ × Value) → Items → Items
passed_to [] q = q
passed_to (f ∷ fs) q = passed_to fs (with_entry f.0 (Some f.1) q)

-- false passed to an item, where it is wanted
abbrev pub absent_entry : Bool → ℕ → Items → Items
absent_entry true n q = with_entry n (Some (flat.Boolean false)) q
absent_entry false n q = q

-- false passed to each input condition from item n on that is not among those given
abbrev pub absent_to : ℕ → List ℕ → List ItemDecl → Items → Items
absent_to n given [] q = q
absent_to n given (item ∷ items) q =
    absent_to (n + 1) given items (absent_entry (must_be_given item.kind && item.condition && not (is_in n given)) n q)

-- what is given to items from number n on
abbrev given_slots : ℕ → List (ℕ × Value) → List ItemDecl → Items
given_slots n fs [] = []
given_slots n fs (item ∷ items) = value_given n fs ∷ given_slots (n + 1) fs items

none_given : (n : ℕ) (items : List ItemDecl) → no_values items ≡ given_slots n [] items
none_given n [] = refl
none_given n (item ∷ items) = ap (λ (l : Items). None ∷ l) (none_given (n + 1) items)

differs : (a b : ℕ) → (a ≡ b → ⊥) → nat_eq a b ≡ false
differs a b other = by (nat_eq a b) refl
  where
    by : (t : Bool) → nat_eq a b ≡ t → nat_eq a b ≡ false
    by true e = absurd (other (eqb-true a b e))
    by false e = e

-- what is given to a number in front is not given to those behind
given_past : (j n : ℕ) (v : Value) (fs : List (ℕ × Value)) (items : List ItemDecl) → j < n
    → given_slots n ((j, v) ∷ fs) items ≡ given_slots n fs items
given_past j n v fs [] less = refl
given_past j n v fs (item ∷ items) less =
    let other : nat_eq n j ≡ false = differs n j (λ e. omega arith) in
    rw other (ap (λ (l : Items). value_given n fs ∷ l) (given_past j (n + 1) v fs items (omega arith)))

-- one more that is given
passed_one : (m n : ℕ) (v : Value) (fs : List (ℕ × Value)) (items : List ItemDecl)
    → with_entry m (Some v) (given_slots n fs items) ≡ given_slots n ((n + m, v) ∷ fs) items
passed_one m n v fs [] = refl
passed_one zero n v fs (item ∷ items) =
    let same : nat_eq n (n + 0) ≡ true = eq-eqb n (n + 0) (omega arith) in
    rw same (ap (λ (l : Items). Some v ∷ l) (sym (given_past (n + 0) (n + 1) v fs items (omega arith))))
passed_one (suc m) n v fs (item ∷ items) =
    let other : nat_eq n (n + suc m) ≡ false = differs n (n + suc m) (λ e. omega arith) in
    let moved : (n + 1) + m ≡ n + suc m = omega arith in
    rw other (ap (λ (l : Items). value_given n fs ∷ l)
    (passed_one m (n + 1) v fs items ∙ ap (λ k. given_slots (n + 1) ((k, v) ∷ fs) items) moved))

-- the last one first
abbrev back : List (ℕ × Value) → List (ℕ × Value) → List (ℕ × Value)
back gs [] = gs
back gs (f ∷ fs) = back (f ∷ gs) fs

passed_all : (gs fs : List (ℕ × Value)) (items : List ItemDecl)
    → passed_to fs (given_slots 0 gs items) ≡ given_slots 0 (back gs fs) items
passed_all gs [] items = refl
passed_all gs (f ∷ fs) items =
    let at : 0 + f.0 ≡ f.0 = omega arith in
    ap (λ (q : Items). passed_to fs q)
    (passed_one f.0 0 f.1 gs items ∙ ap (λ k. given_slots 0 ((k, f.1) ∷ gs) items) at)
    ∙ passed_all (f ∷ gs) fs items

-- what is given by the first of two lists, or else by the second
abbrev first_given : Option Value → Option Value → Option Value
first_given (Some v) other = Some v
first_given None other = other

-- a number that isn't there is given nothing
not_given : (n : ℕ) (fs : List (ℕ × Value)) → is_in n (numbers fs) ≡ false → value_given n fs ≡ None
not_given n [] out = refl
not_given n (f ∷ fs) out = by (nat_eq n f.0) refl (not_given n fs)
  where
    by : (b : Bool) → nat_eq n f.0 ≡ b → (is_in n (numbers fs) ≡ false → value_given n fs ≡ None)
        → value_given n (f ∷ fs) ≡ None
    by true e again = let o : true ≡ false = rw e at out in absurd (cc o)
    by false e again = let o : is_in n (numbers fs) ≡ false = rw e at out in rw e (again o)

-- where numbers differ, it doesn't matter which one is first
back_given : (n : ℕ) (gs fs : List (ℕ × Value)) → IsTrue (all_differ (numbers fs))
    → value_given n (back gs fs) ≡ first_given (value_given n fs) (value_given n gs)
back_given n gs [] differ = refl
back_given n gs (f ∷ fs) differ =
    let parts = both_so (not (is_in f.0 (numbers fs))) (all_differ (numbers fs)) differ in
    back_given n (f ∷ gs) fs parts.1 ∙ by (nat_eq n f.0) refl (is_in f.0 (numbers fs)) refl parts.0
  where
    by : (b : Bool) → nat_eq n f.0 ≡ b → (c : Bool) → is_in f.0 (numbers fs) ≡ c → not (is_in f.0 (numbers fs)) ≡ true
        → first_given (value_given n fs) (value_given n (f ∷ gs))
        ≡ first_given (value_given n (f ∷ fs)) (value_given n gs)
    by true e true there out = let o : false ≡ true = rw there at out in absurd (cc o)
    by true e false there out =
        let same : n ≡ f.0 = eqb-true n f.0 e in
        let none : value_given n fs ≡ None = not_given n fs (ap (λ m. is_in m (numbers fs)) same ∙ there) in
        rw (none, e) refl
    by false e c there out = rw e refl

given_alike : (n : ℕ) (fs gs : List (ℕ × Value)) (items : List ItemDecl)
    → ((k : ℕ) → value_given k fs ≡ value_given k gs)
    → given_slots n fs items ≡ given_slots n gs items
given_alike n fs gs [] same = refl
given_alike n fs gs (item ∷ items) same =
    ap (λ o. o ∷ given_slots (n + 1) fs items) (same n)
    ∙ ap (λ (l : Items). value_given n gs ∷ l) (given_alike (n + 1) fs gs items same)

none_behind : (o : Option Value) → first_given o None ≡ o
none_behind None = refl
none_behind (Some v) = refl

-- fields that differ, passed to the slots of a scope
passed_fields : (fs : List (ℕ × Value)) (items : List ItemDecl) → IsTrue (all_differ (numbers fs))
    → passed_to fs (no_values items) ≡ given_slots 0 fs items
passed_fields fs items differ =
    ap (λ (q : Items). passed_to fs q) (none_given 0 items) ∙ passed_all [] fs items
    ∙ given_alike 0 (back [] fs) fs items (λ k. back_given k [] fs differ ∙ none_behind (value_given k fs))

pub entry_behind : (front : Items) (x v : Option Value) (rest : Items) (n : ℕ) → length front ≡ n
    → with_entry n v (front ++ x ∷ rest) ≡ front ++ v ∷ rest
entry_behind [] x v rest zero is = refl
entry_behind [] x v rest (suc n) is = absurd (omega arith)
entry_behind (y ∷ front) x v rest zero is = absurd (omega arith)
entry_behind (y ∷ front) x v rest (suc n) is = ap (λ (l : Items). y ∷ l) (entry_behind front x v rest n (omega arith))

-- what is given to a number makes it one of the numbers, and nothing else does
pub given_so : (n : ℕ) (fs : List (ℕ × Value)) → ((v : Value) → value_given n fs ≡ Some v → is_in n (numbers fs) ≡ true)
given_so n [] v given = absurd (cc given)
given_so n (f ∷ fs) v given = by (nat_eq n f.0) refl (given_so n fs v)
  where
    by : (c : Bool) → nat_eq n f.0 ≡ c → (value_given n fs ≡ Some v → is_in n (numbers fs) ≡ true)
        → is_in n (numbers (f ∷ fs)) ≡ true
    by true e again = rw e refl
    by false e again = let g : value_given n fs ≡ Some v = rw e at given in rw e (again g)

pub none_so : (n : ℕ) (fs : List (ℕ × Value)) → value_given n fs ≡ None → is_in n (numbers fs) ≡ false
none_so n [] given = refl
none_so n (f ∷ fs) given = by (nat_eq n f.0) refl (none_so n fs)
  where
    by : (c : Bool) → nat_eq n f.0 ≡ c → (value_given n fs ≡ None → is_in n (numbers fs) ≡ false)
        → is_in n (numbers (f ∷ fs)) ≡ false
    by true e again = let g : Some f.1 ≡ None = rw e at given in absurd (cc g)
    by false e again = let g : value_given n fs ≡ None = rw e at given in rw e (again g)

-- an entry behind those in front, by whether it is given and whether false is wanted where it isn't
entry_done : (wanted : Bool) (o : Option Value) (there : Bool) → ((v : Value) → o ≡ Some v → there ≡ true)
    → (o ≡ None → there ≡ false)
    → (n : ℕ) (front rest : Items) → length front ≡ n → (made : Option Value)
    → (o ≡ None → made ≡ (if wanted then Some (flat.Boolean false) else None))
    → ((v : Value) → o ≡ Some v → made ≡ Some v)
    → absent_entry (wanted && not there) n (front ++ o ∷ rest) ≡ front ++ made ∷ rest
entry_done true (Some v) true is none n front rest at made empty full = ap (λ x. front ++ x ∷ rest) (sym (full v refl))
entry_done false (Some v) true is none n front rest at made empty full = ap (λ x. front ++ x ∷ rest) (sym (full v refl))
entry_done wanted (Some v) false is none n front rest at made empty full = let o = is v refl in absurd (cc o)
entry_done wanted None true is none n front rest at made empty full = let o = none refl in absurd (cc o)
entry_done true None false is none n front rest at made empty full =
    entry_behind front None (Some (flat.Boolean false)) rest n at ∙ ap (λ x. front ++ x ∷ rest) (sym (empty refl))
entry_done false None false is none n front rest at made empty full = ap (λ x. front ++ x ∷ rest) (sym (empty refl))

call_entry_none : (item : ItemDecl) (o : Option Value) → o ≡ None
    → call_entry item o ≡ (if must_be_given item.kind && item.condition then Some (flat.Boolean false) else None)
call_entry_none item o is = ap (call_entry item) is

call_entry_some : (item : ItemDecl) (o : Option Value) (v : Value) → o ≡ Some v → call_entry item o ≡ Some v
call_entry_some item o v is = ap (call_entry item) is

-- the entries behind those in front become what a scope call gives
absent_entries : (fs : List (ℕ × Value)) (items : List ItemDecl) (n : ℕ) (front : Items) → length front ≡ n
    → absent_to n (numbers fs) items (front ++ given_slots n fs items) ≡ front ++ call_input n fs items
absent_entries fs [] n front is = refl
absent_entries fs (item ∷ items) n front is =
    let made = call_entry item (value_given n fs) in
    ap (λ (q : Items). absent_to (n + 1) (numbers fs) items q)
    (entry_done (must_be_given item.kind && item.condition) (value_given n fs) (is_in n (numbers fs)) (given_so n fs)
    (none_so n fs) n front
    (given_slots (n + 1) fs items) is made (call_entry_none item (value_given n fs))
    (call_entry_some item (value_given n fs))
    ∙ sym (append_assoc front (made ∷ []) (given_slots (n + 1) fs items)))
    ∙ absent_entries fs items (n + 1) (front ++ made ∷ []) (length_append front (made ∷ []) ∙ ap (λ k. k + 1) is)
    ∙ append_assoc front (made ∷ []) (call_input (n + 1) fs items)

-- all that is passed is what a scope call gives
pub passed_input_is : (fs : List (ℕ × Value)) (items : List ItemDecl) → IsTrue (all_differ (numbers fs))
    → absent_to 0 (numbers fs) items (passed_to fs (no_values items)) ≡ call_input 0 fs items
passed_input_is fs items differ =
    ap (λ (q : Items). absent_to 0 (numbers fs) items q) (passed_fields fs items differ)
    ∙ absent_entries fs items 0 [] refl

-- an input that has values where they must be given, and elsewhere only where they may be, one entry for each item
abbrev pub IsGivable : ItemDecl → Option Value → Type 0
IsGivable item None = must_be_given item.kind ≡ false
IsGivable item (Some v) = IsTrue (may_be_given item.kind)

abbrev pub AreGivable : List ItemDecl → Items → Type 0
AreGivable [] [] = Unit {0}
AreGivable [] (v ∷ vs) = ⊥
AreGivable (item ∷ items) [] = ⊥
AreGivable (item ∷ items) (v ∷ vs) = IsGivable item v × AreGivable items vs
