-- The scope of a block: the one that has its name.
use Rattle.std.proofs.Common.{◌≡◌, ◌∙◌, ℕ, zero, suc, ◌<◌, ◌++◌, Bool, true, false, List, [], ◌∷◌, length, map, Option}
use Rattle.std.proofs.Common.{None, Some, slice_get, refl, sym, ap, subst, find, cond, arith}
use Rattle.std.specs.Prelude.{bytes_eq, flat_map, option_map, is_some, if◌then◌else◌}
use Rattle.std.specs.List.{enumerate_from}
use Rattle.std.proofs.lemmas.List.{append-nil}
use Rattle.std.proofs.lemmas.Option.{slice_get-map}
use Rattle.std.proofs.lemmas.Slice.Eq.{bytes_eq-Decides}
use Rattle.cat_scope.specs.Names.{AllHave}
use Rattle.cat_tree.specs.declared.name.Name.{Name}
use Rattle.cat_tree.specs.declared.program.Variable.{Variable}
use Rattle.cat_tree.specs.declared.program.Block.{Block}
use Rattle.cat_tree.specs.declared.program.Item.{Item}
use Rattle.cat_tree.specs.declared.program.Item.TheVariants as item
use Rattle.cat_check_names.specs.Table.{Table, IsTableOf, number_in, number_named}
use Rattle.cat_check_names.proofs.Knowing.{known_name, ids}
use Rattle.cat_names.proofs.Exported.{Apart, first_is, names_apart, scopes_apart}
use Rattle.cat_names.specs.declared.fault.Fault.TheVariants.{NameUnknown}
use Rattle.cat_names.specs.DeclarationFaults.{declared_name}
use Rattle.cat_names.specs.Lookup.{first_named}
use Rattle.cat_names.specs.NameFaults.{variables_of, known_in, block_faults, item_faults}
use Rattle.cat_names.specs.Unknown.{is_name, twice}
use Rattle.cat_names.specs.Written.{texts, names_of, scopes_in, scope_names_in}
use Rattle.cat_declare.specs.declared.written.Declaration.{Declaration}
use Rattle.cat_declare.specs.inside.Writings.{as_pair}

found_passes : {A : Type 0} (test : A → Bool) (xs : List A) (x : A) → find test xs ≡ Some x → test x ≡ true
found_passes test [] x h = cc h
found_passes {A} test (y ∷ ys) x h = by (test y) refl h (found_passes test ys x)
  where
    by : (b : Bool) → test y ≡ b → cond b (Some y) (find test ys) ≡ Some x → (find test ys ≡ Some x → test x ≡ true)
        → test x ≡ true
    by true e g rest = let is : y ≡ x = cc g in subst (λ z. test z ≡ true) is e
    by false e g rest = rest g

-- the scope at a number that its name has
pub record IsScopeAt (w : List ℕ) (scopes : List (Name × List Variable)) (k : ℕ) : Type 0 where
  pub text : List ℕ
  pub at : slice_get (texts (names_of scopes)) k ≡ Some text
  pub is : text ≡ w

pub scope_at : (w : List ℕ) (scopes : List (Name × List Variable)) (k : ℕ)
    → option_map (λ x. x.0) (first_named (λ name. name) w (texts (names_of scopes))) ≡ Some k → IsScopeAt w scopes k
scope_at w scopes k h = by (first_named (λ name. name) w (texts (names_of scopes))) refl h
  where
    by : (o : Option (ℕ × List ℕ)) → first_named (λ name. name) w (texts (names_of scopes)) ≡ o
        → option_map (λ x. x.0) o ≡ Some k → IsScopeAt w scopes k
    by None e g = cc g
    by (Some f) e g = let same : f.0 ≡ k = cc g in record {
      text = f.1;
      at = subst (λ n. slice_get (texts (names_of scopes)) n ≡ Some f.1) same
          (first_is (λ name. name) w (texts (names_of scopes)) f e);
      is = (bytes_eq-Decides f.1 w).0 (found_passes (λ (x : ℕ × List ℕ). bytes_eq x.1 w)
          (enumerate_from 0 (texts (names_of scopes))) f e);
    }

none_of : (t w : List ℕ) (scopes : List (Name × List Variable)) → t ≡ w
    → AllHave (λ u. bytes_eq t u ≡ false) (texts (names_of scopes)) → flat_map (variables_of w) scopes ≡ []
none_of t w [] is all = refl
none_of t w (s ∷ scopes) is all = by (bytes_eq s.0.text w) refl (none_of t w scopes is all.1)
  where
    by : (b : Bool) → bytes_eq s.0.text w ≡ b → flat_map (variables_of w) scopes ≡ []
        → (if b then s.1 else []) ++ flat_map (variables_of w) scopes ≡ []
    by true e rest = let same : t ≡ s.0.text = is ∙ sym ((bytes_eq-Decides s.0.text w).0 e) in
        let equal : bytes_eq t s.0.text ≡ true = (bytes_eq-Decides t s.0.text).1 same in
        cc (sym equal ∙ all.0)
    by false e rest = rest

all_at : (P : List ℕ → Type 0) (ts : List (List ℕ)) (k : ℕ) (t : List ℕ) → AllHave P ts → slice_get ts k ≡ Some t → P t
all_at P [] k t all h = cc h
all_at P (u ∷ us) zero t all h = let is : u ≡ t = cc h in subst P is all.0
all_at P (u ∷ us) (suc k) t all h = all_at P us k t all.1 h

-- where no two scopes have one name, the variables of all scopes of a name are those of the one
pub only_scope : (w : List ℕ) (scopes : List (Name × List Variable)) (k : ℕ) (s : Name × List Variable)
    → Apart (texts (names_of scopes)) → slice_get (texts (names_of scopes)) k ≡ Some w → slice_get scopes k ≡ Some s
    → flat_map (variables_of w) scopes ≡ s.1
only_scope w [] k s apart named h = cc h
only_scope w (x ∷ xs) zero s apart named h =
    let same : x.0.text ≡ w = cc named in
    let equal : bytes_eq x.0.text w ≡ true = (bytes_eq-Decides x.0.text w).1 same in
    let is : x ≡ s = cc h in
    ap (λ b. (if b then x.1 else []) ++ flat_map (variables_of w) xs) equal
    ∙ ap (λ vs. x.1 ++ vs) (none_of x.0.text w xs same apart.0) ∙ append-nil x.1
    ∙ ap (λ (z : Name × List Variable). z.1) is
only_scope w (x ∷ xs) (suc k) s apart named h =
    let other : bytes_eq x.0.text w ≡ false =
    all_at (λ u. bytes_eq x.0.text u ≡ false) (texts (names_of xs)) k w apart.0 named in
    ap (λ b. (if b then x.1 else []) ++ flat_map (variables_of w) xs) other ∙ only_scope w xs k s apart.1 named h

pub within_names : (scopes : List (Name × List Variable)) (k : ℕ) (t : List ℕ)
    → slice_get (texts (names_of scopes)) k ≡ Some t → k < length scopes
within_names [] k t h = cc h
within_names (x ∷ xs) zero t h = omega arith
within_names (x ∷ xs) (suc k) t h = let rest = within_names xs k t h in omega (arith, rest)

-- ---- the faults of a block

pub known_block : (items : List Item) (b : Block) (vs : List Variable)
    → is_name b.name.text (scope_names_in items) ≡ true
    → flat_map (variables_of b.name.text) (scopes_in items) ≡ vs
    → block_faults (known_in items vs) b ≡ item_faults items (item.Block b)
known_block items b vs there only = sym (
    ap (λ t. if t then block_faults (known_in items (flat_map (variables_of b.name.text) (scopes_in items))) b
    else NameUnknown b.name.pos ∷ []) there
    ∙ ap (λ us. block_faults (known_in items us) b) only)

pub unknown_block : (items : List Item) (b : Block) → is_name b.name.text (scope_names_in items) ≡ false
    → NameUnknown b.name.pos ∷ [] ≡ item_faults items (item.Block b)
unknown_block items b missing = sym (
    ap (λ t. if t then block_faults (known_in items (flat_map (variables_of b.name.text) (scopes_in items))) b
    else NameUnknown b.name.pos ∷ []) missing)

-- whether the table of scopes has a name
pub named_in : (names : List (List ℕ)) (table : Table) (w : List ℕ) (found : Option ℕ)
    → IsTableOf (λ name. name) names table
    → number_in table w ≡ found → is_name w names ≡ is_some found
named_in names table w found known at = sym (ap is_some (sym at) ∙ known_name (λ name. name) names table w known
    ∙ ap (is_name w) (ids names))

-- the variables of the scope that a block names
pub block_variables : (items : List Item) (w : List ℕ) (ds : List (Declaration Variable)) (k : ℕ)
    (d : Declaration Variable) → twice (flat_map declared_name items) ≡ [] → map as_pair ds ≡ scopes_in items
    → number_named (λ name. name) w (scope_names_in items) ≡ Some k → slice_get ds k ≡ Some d
    → flat_map (variables_of w) (scopes_in items) ≡ d.parts.now
block_variables items w ds k d apart is named at =
    let scope = scope_at w (scopes_in items) k named in
    only_scope w (scopes_in items) k (as_pair d) (scopes_apart items (names_apart (flat_map declared_name items) apart))
    (subst (λ t. slice_get (scope_names_in items) k ≡ Some t) scope.is scope.at)
    (sym (ap (λ ps. slice_get ps k) is) ∙ slice_get-map as_pair ds k ∙ ap (option_map as_pair) at)
