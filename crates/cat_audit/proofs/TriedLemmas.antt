-- Bad leaves that are tried one after the other.
use Rattle.std.proofs.Common.{◌≡◌, ℕ, zero, suc, ◌+◌, ◌-◌, ◌≤◌, ◌<◌, Bool, true, false, not, ◌||◌, if◌then◌else◌, List}
use Rattle.std.proofs.Common.{[]}
use Rattle.std.proofs.Common.{◌∷◌, ◌++◌, length, map, take, drop, Option, Some, None, slice_get, refl, sym, ap, ◌∙◌}
use Rattle.std.proofs.Common.{subst, arith, true≢false}
use Rattle.std.specs.Prelude.{slice_index_or, IfSome}
use Rattle.std.specs.List.{slice_range}
use Rattle.cat_value.proofs.Exported.{found}
use Rattle.cat_region.specs.Regions.{Constraints, IsInhabited}
use Rattle.cat_scope.specs.declared.programs.Program.{Program}
use Rattle.cat_guard.specs.declared.table.Table.{Table}
use Rattle.cat_guard.specs.declared.table.TableTarget.{TableTarget}
use Rattle.cat_guard.specs.declared.tree.TreeNode.{TreeNode}
use Rattle.cat_guard.specs.Valuations.{dims_of}
use Rattle.cat_search.specs.declared.bad.BadLeaf.{BadLeaf}
use Rattle.cat_search.specs.declared.bad.Flaw.TheVariants.{Conflict}
use Rattle.cat_search.specs.Searched.{everything}
use Rattle.cat_search.specs.declared.way.Answer.{Answer}
use Rattle.cat_search.specs.Ways.{led_to, passed, way_from}
use Rattle.cat_audit_sound.proofs.Exported.{drop_at}
use Rattle.cat_audit.specs.declared.finding.Finding.{Finding}
use Rattle.cat_audit.specs.declared.finding.Finding.TheVariants as finding
use Rattle.cat_audit.specs.Findings.{finding_in}
use Rattle.cat_audit.specs.Lines.{findings, found_before, is_found, is_masked, is_hanging, counting}
use Rattle.cat_audit.specs.inside.Tried.{kept, region_at, IsBadAt, AreBadFrom}
use Rattle.cat_audit.proofs.TargetThere.{at_some}

-- ---- the finding that counts

abbrev pub as_list : Option Finding → List Finding
as_list None = []
as_list (Some f) = f ∷ []

abbrev pub one_found : Option Finding → Bool
one_found None = false
one_found (Some f) = is_found f

pub kept_counts : (best : Option Finding) (f : Finding) (fs : List Finding) → one_found best ≡ false
    → is_found f ≡ false → counting (as_list best ++ f ∷ fs) ≡ counting (as_list (kept best f) ++ fs)
kept_counts None f fs unfound hidden = refl
kept_counts (Some (finding.Found o i)) f fs unfound hidden = absurd (true≢false unfound)
kept_counts (Some b) (finding.Found o i) fs unfound hidden = absurd (true≢false hidden)
kept_counts (Some (finding.Masked k p i)) (finding.Masked l q j) fs unfound hidden = refl
kept_counts (Some (finding.Masked k p i)) (finding.Derived q j o) fs unfound hidden = refl
kept_counts (Some (finding.Derived p i o)) (finding.Masked l q j) fs unfound hidden = refl
kept_counts (Some (finding.Derived p i o)) (finding.Derived q j r) fs unfound hidden = refl

pub found_counts : (best : Option Finding) (f : Finding) (fs : List Finding) → one_found best ≡ false
    → is_found f ≡ true → counting (as_list best ++ f ∷ fs) ≡ Some f
found_counts None (finding.Found o i) fs unfound is = refl
found_counts None (finding.Masked k p i) fs unfound is = absurd (true≢false (sym is))
found_counts None (finding.Derived p i o) fs unfound is = absurd (true≢false (sym is))
found_counts (Some (finding.Found o i)) f fs unfound is = absurd (true≢false unfound)
found_counts (Some b) (finding.Masked k p i) fs unfound is = absurd (true≢false (sym is))
found_counts (Some b) (finding.Derived p i o) fs unfound is = absurd (true≢false (sym is))
found_counts (Some (finding.Masked k p i)) (finding.Found o j) fs unfound is = refl
found_counts (Some (finding.Derived p i o)) (finding.Found r j) fs unfound is = refl

pub kept_unfound : (best : Option Finding) (f : Finding) → one_found best ≡ false → is_found f ≡ false
    → one_found (kept best f) ≡ false
kept_unfound None f unfound hidden = hidden
kept_unfound (Some b) f unfound hidden = by (is_masked b || not (is_masked f))
  where
    by : (c : Bool) → one_found (if c then Some b else Some f) ≡ false
    by true = unfound
    by false = hidden

pub kept_some : (best : Option Finding) (f : Finding) → kept best f ≡ None → ⊥
kept_some None f none = absurd (cc)
kept_some (Some b) f none = by (is_masked b || not (is_masked f)) none
  where
    by : (c : Bool) → (if c then Some b else Some f) ≡ None → ⊥
    by true h = absurd (cc)
    by false h = absurd (cc)

-- one that hangs on what a run computes counts behind no other
kept_hanging : (best : Option Finding) (f : Finding) → (best ≡ None → ⊥) → is_hanging f ≡ true → kept best f ≡ best
kept_hanging None f some hanging = absurd (some refl)
kept_hanging (Some b) (finding.Found o i) some hanging = absurd (true≢false (sym hanging))
kept_hanging (Some b) (finding.Masked k p i) some hanging = absurd (true≢false (sym hanging))
kept_hanging (Some b) (finding.Derived p i o) some hanging = by (is_masked b)
  where
    by : (c : Bool) → (if c || true then Some b else Some (finding.Derived p i o)) ≡ Some b
    by true = refl
    by false = refl

hanging_unfound : (f : Finding) → is_hanging f ≡ true → is_found f ≡ false
hanging_unfound (finding.Found o i) hanging = absurd (true≢false (sym hanging))
hanging_unfound (finding.Masked k p i) hanging = refl
hanging_unfound (finding.Derived p i o) hanging = refl

-- ---- the way to the next one

pub way_more : (way : List Answer) (ns ms : List TreeNode) → way_from way (ns ++ ms) ≡ way_from (way_from way ns) ms
way_more way [] ms = refl
way_more way (n ∷ ns) ms = way_more (passed n way) ns ms

take_on : (xs : List TreeNode) (a b : ℕ) → a ≤ b → take b xs ≡ take a xs ++ take (b - a) (drop a xs)
take_on xs zero b within = let same : b ≡ b - 0 = omega arith in ap (λ k. take k xs) same
take_on xs (suc a) zero within = absurd (omega (arith, within))
take_on [] (suc a) (suc b) within = by (suc b - suc a)
  where
    nothing : List TreeNode
    nothing = []

    by : (k : ℕ) → nothing ≡ nothing ++ take k nothing
    by zero = refl
    by (suc k) = refl
take_on (x ∷ xs) (suc a) (suc b) within =
    let same : b - a ≡ suc b - suc a = omega arith in
    ap (λ ys. x ∷ ys) (take_on xs a b (omega (arith, within)) ∙ ap (λ k. take a xs ++ take k (drop a xs)) same)

pub way_on : (nodes : List TreeNode) (a b : ℕ) → a ≤ b
    → way_from (way_from [] (take a nodes)) (slice_range nodes a b) ≡ way_from [] (take b nodes)
way_on nodes a b within =
    sym (way_more [] (take a nodes) (slice_range nodes a b)) ∙ ap (way_from []) (sym (take_on nodes a b within))

-- the way goes on to a leaf, and leads to its region
pub reached : (nodes : List TreeNode) (at leaf : ℕ) (way next : List Answer) → way ≡ way_from [] (take at nodes)
    → at ≤ leaf → next ≡ way_from way (slice_range nodes at leaf) → next ≡ way_from [] (take leaf nodes)
reached nodes at leaf way next here order goes =
    goes ∙ ap (λ w. way_from w (slice_range nodes at leaf)) here ∙ way_on nodes at leaf order

pub leads_there : (table : Table) (nodes : List TreeNode) (b : BadLeaf) (way : List Answer) (region : Constraints)
    → way ≡ way_from [] (take b.leaf nodes) → region ≡ led_to table.atoms (everything table.terms) way
    → region ≡ region_at table nodes b
leads_there table nodes b way region here leads = leads ∙ ap (led_to table.atoms (everything table.terms)) here

-- ---- the leaves that are left

-- the leaf of an index
abbrev pub item : List BadLeaf → ℕ → BadLeaf
item bs i = slice_index_or bs i (record { leaf = 0; flaw = Conflict })

pub at_item : (bs : List BadLeaf) (i : ℕ) → i < length bs → slice_get bs i ≡ Some (item bs i)
at_item [] i within = absurd (omega (arith, within))
at_item (b ∷ bs) zero within = refl
at_item (b ∷ bs) (suc i) within = at_item bs i (omega (arith, within))

-- leaves are still to be tried: they stand from a place on, and with the best finding so far theirs come to that of all
pub record IsTrying (program : Program) (table : Table) (t : TableTarget) (nodes : List TreeNode) (at : ℕ)
    (best : Option Finding) (left all : List BadLeaf) : Type 0 where
  pub ahead : AreBadFrom table t nodes at left
  pub counts : counting (as_list best ++ findings program table t (map (region_at table nodes) left))
      ≡ counting (findings program table t (map (region_at table nodes) all))

pub earlier : (table : Table) (t : TableTarget) (nodes : List TreeNode) (from to : ℕ) (bs : List BadLeaf) → from ≤ to
    → AreBadFrom table t nodes to bs → AreBadFrom table t nodes from bs
earlier table t nodes from to [] less are = tt
earlier table t nodes from to (b ∷ bs) less are = let first = are.0 in (omega (arith, less, first), are.1, are.2)

module _ (program : Program) (table : Table) (t : TableTarget) (nodes : List TreeNode) where
  abbrev Trying : ℕ → Option Finding → List BadLeaf → List BadLeaf → Type 0
  Trying at best left all = IsTrying program table t nodes at best left all

  abbrev said : List BadLeaf → List Finding
  said bs = findings program table t (map (region_at table nodes) bs)

  pub next_is : (at : ℕ) (best : Option Finding) (i : ℕ) (b : BadLeaf) (all : List BadLeaf)
      → slice_get all i ≡ Some b → Trying at best (drop i all) all
      → (at ≤ b.leaf) × IsBadAt table t nodes b
  next_is at best i b all is trying =
      let ahead = subst (AreBadFrom table t nodes at) (drop_at all i b is) trying.ahead in (ahead.0, ahead.1)

  -- the finding of the next leaf, in front of the others
  said_next : (i : ℕ) (b : BadLeaf) (all : List BadLeaf) (f : Finding) → slice_get all i ≡ Some b
      → finding_in program table t (region_at table nodes b) ≡ Some f → said (drop i all) ≡ f ∷ said (drop (i + 1) all)
  said_next i b all f is says =
      ap said (drop_at all i b is) ∙ ap (λ o. found_before o (said (drop (i + 1) all))) says

  pub goes_on : (at : ℕ) (best : Option Finding) (i : ℕ) (b : BadLeaf) (all : List BadLeaf) (f : Finding)
      → slice_get all i ≡ Some b → finding_in program table t (region_at table nodes b) ≡ Some f
      → one_found best ≡ false → is_found f ≡ false → Trying at best (drop i all) all
      → Trying b.leaf (kept best f) (drop (i + 1) all) all
  goes_on at best i b all f is says unfound hidden trying = record {
    ahead =
        let ahead = subst (AreBadFrom table t nodes at) (drop_at all i b is) trying.ahead in
        earlier table t nodes b.leaf (suc b.leaf) (drop (i + 1) all) (omega arith) ahead.2;
    counts =
        sym (kept_counts best f (said (drop (i + 1) all)) unfound hidden)
        ∙ ap (λ fs. counting (as_list best ++ fs)) (sym (said_next i b all f is says)) ∙ trying.counts;
  }

  pub goes_over : (at : ℕ) (best : Option Finding) (i : ℕ) (b : BadLeaf) (all : List BadLeaf) (f : Finding)
      → slice_get all i ≡ Some b → finding_in program table t (region_at table nodes b) ≡ Some f
      → one_found best ≡ false → (best ≡ None → ⊥) → is_hanging f ≡ true → Trying at best (drop i all) all
      → Trying b.leaf best (drop (i + 1) all) all
  goes_over at best i b all f is says unfound some hanging trying =
      subst (λ o. Trying b.leaf o (drop (i + 1) all) all) (kept_hanging best f some hanging)
      (goes_on at best i b all f is says unfound (hanging_unfound f hanging) trying)

  pub ends_found : (at : ℕ) (best : Option Finding) (i : ℕ) (b : BadLeaf) (all : List BadLeaf) (f : Finding)
      → slice_get all i ≡ Some b → finding_in program table t (region_at table nodes b) ≡ Some f
      → one_found best ≡ false → is_found f ≡ true → Trying at best (drop i all) all
      → Some f ≡ counting (said all)
  ends_found at best i b all f is says unfound found trying =
      sym (found_counts best f (said (drop (i + 1) all)) unfound found)
      ∙ ap (λ fs. counting (as_list best ++ fs)) (sym (said_next i b all f is says)) ∙ trying.counts

-- ---- the next leaf, whatever the target

pub record IsNext (table : Table) (nodes : List TreeNode) (at : ℕ) (b : BadLeaf) : Type 0 where
  pub order : at ≤ b.leaf
  pub within : b.leaf < length nodes
  pub dims : (region_at table nodes b).dims ≡ dims_of table.terms
  pub inhabited : IsInhabited (region_at table nodes b)

pub next_of : (program : Program) (table : Table) (n : ℕ) → n < length table.targets → (nodes : List TreeNode)
    (at : ℕ) (best : Option Finding) (i : ℕ) (all : List BadLeaf) → i < length all
    → IfSome (slice_get table.targets n) (λ t. IsTrying program table t nodes at best (drop i all) all)
    → IsNext table nodes at (item all i)
next_of program table n within nodes at best i all less trying =
    let one = found table.targets n within in
    let next = next_is program table one.0 nodes at best i (item all i) all (at_item all i less)
    (at_some (λ t. IsTrying program table t nodes at best (drop i all) all) (slice_get table.targets n) one.0 one.1
    trying) in
    record { order = next.0; within = next.1.within; dims = next.1.dims; inhabited = next.1.inhabited }
