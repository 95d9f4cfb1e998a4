-- The faults of names, by steps, and those of the whole tree.
use Rattle.std.proofs.Common.{◌≡◌, ◌∙◌, List, [], ◌∷◌, ◌++◌, inl, inr, refl, sym, ap, subst}
use Rattle.std.specs.Prelude.{flat_map, ◌⊎◌}
use Rattle.cat_scope.specs.Names.{IsOneOf}
use Rattle.cat_tree.specs.declared.program.Item.{Item}
use Rattle.cat_tree.specs.declared.program.Item.TheVariants as item
use Rattle.cat_tree.specs.declared.program.Tree.{Tree}
use Rattle.cat_names.proofs.Exported.{behind, in_front, split}
use Rattle.cat_names.specs.declared.fault.Fault.{Fault}
use Rattle.cat_names.specs.Limits.{most_definitions}
use Rattle.cat_names.specs.Found.{faults_of}
use Rattle.cat_names.specs.Declarations.{declared_of}
use Rattle.cat_names.specs.DeclarationFaults.{declared_name, declaration_faults, past}
use Rattle.cat_names.specs.NameFaults.{item_faults, definition_positions, name_faults}
use Rattle.cat_names.specs.Unknown.{twice}
use Rattle.cat_declare.specs.inside.Made.{unknown_declared}
use Rattle.cat_declare.specs.inside.Naming.{block_faults, repeated, unresolved}
use Rattle.cat_declare.proofs.FoundParts.{nothing_in, nothing_behind}
use Rattle.cat_declare.proofs.DeclaredFaults.{declared_faults}

-- each fault of the first list is one of the second
abbrev pub AreAmong : List Fault → List Fault → Type 0
AreAmong xs ys = (f : Fault) → IsOneOf f xs → IsOneOf f ys

joined_among : (xs ys zs : List Fault) → AreAmong xs zs → AreAmong ys zs → AreAmong (xs ++ ys) zs
joined_among xs ys zs left right f h = by (split f xs ys h)
  where
    by : IsOneOf f xs ⊎ IsOneOf f ys → IsOneOf f zs
    by (inl g) = left f g
    by (inr g) = right f g

each_among : (p q : Item → List Fault) → ((i : Item) → AreAmong (p i) (q i)) → (is : List Item)
    → AreAmong (flat_map p is) (flat_map q is)
each_among p q among [] f h = h
each_among p q among (i ∷ is) f h = joined_among (p i) (flat_map p is) (flat_map q (i ∷ is))
    (λ g at. in_front g (q i) (flat_map q is) (among i g at))
    (λ g at. behind g (q i) (flat_map q is) (each_among p q among is g at)) f h

module _ (items : List Item) where
  declaration_among : (i : Item) → AreAmong (declaration_faults i) (item_faults items i)
  declaration_among (item.Structure p u fields) f h = h
  declaration_among (item.Enumeration p u cases) f h = h
  declaration_among (item.Scope p u variables) f h = h
  declaration_among (item.Block b) f h = elim h [ ]

  block_among : (i : Item) → AreAmong (block_faults items i) (item_faults items i)
  block_among (item.Structure p u fields) f h = elim h [ ]
  block_among (item.Enumeration p u cases) f h = elim h [ ]
  block_among (item.Scope p u variables) f h = elim h [ ]
  block_among (item.Block b) f h = h

  no_item : (is : List Item) → flat_map declaration_faults is ≡ [] → flat_map (block_faults items) is ≡ []
      → flat_map (item_faults items) is ≡ []
  no_item [] h g = refl
  no_item (item.Structure p u fields ∷ is) h g = let i = item.Structure p u fields in
      ap (λ fs. fs ++ flat_map (item_faults items) is) (nothing_in (declaration_faults i) _ h)
      ∙ no_item is (nothing_behind (declaration_faults i) _ h) g
  no_item (item.Enumeration p u cases ∷ is) h g = let i = item.Enumeration p u cases in
      ap (λ fs. fs ++ flat_map (item_faults items) is) (nothing_in (declaration_faults i) _ h)
      ∙ no_item is (nothing_behind (declaration_faults i) _ h) g
  no_item (item.Scope p u variables ∷ is) h g = let i = item.Scope p u variables in
      ap (λ fs. fs ++ flat_map (item_faults items) is) (nothing_in (declaration_faults i) _ h)
      ∙ no_item is (nothing_behind (declaration_faults i) _ h) g
  no_item (item.Block b ∷ is) h g =
      ap (λ fs. fs ++ flat_map (item_faults items) is) (nothing_in (block_faults items (item.Block b)) _ g)
      ∙ no_item is h (nothing_behind (block_faults items (item.Block b)) _ g)

module _ (tree : Tree) where
  abbrev later : List Fault
  later = twice (flat_map declared_name tree.items)

  abbrev unknown : List Fault
  unknown = faults_of (declared_of tree.items)

  abbrev inner : List Fault
  inner = flat_map (item_faults tree.items) tree.items

  abbrev last : List Fault
  last = past most_definitions (flat_map definition_positions tree.items)

  inner_among : AreAmong inner (name_faults tree)
  inner_among f h = in_front f (later ++ unknown ++ inner) last (behind f (later ++ unknown) inner h)

  pub repeated_among : AreAmong (repeated tree.items) (name_faults tree)
  repeated_among = joined_among later (flat_map declaration_faults tree.items) (name_faults tree)
      (λ f h. in_front f (later ++ unknown ++ inner) last (in_front f (later ++ unknown) inner
      (in_front f later unknown h)))
      (λ f h. inner_among f (each_among declaration_faults (item_faults tree.items) (declaration_among tree.items)
      tree.items f h))

  unknown_among : AreAmong (unknown_declared tree.items) (name_faults tree)
  unknown_among f h = in_front f (later ++ unknown ++ inner) last (in_front f (later ++ unknown) inner
      (behind f later unknown (subst (IsOneOf f) (sym (declared_faults tree.items)) h)))

  pub unresolved_among : AreAmong (unresolved tree.items) (name_faults tree)
  unresolved_among =
      let blocks = flat_map (block_faults tree.items) tree.items in
      joined_among (unknown_declared tree.items ++ blocks) last (name_faults tree)
      (joined_among (unknown_declared tree.items) blocks (name_faults tree) unknown_among
      (λ f h. inner_among f (each_among (block_faults tree.items) (item_faults tree.items) (block_among tree.items)
      tree.items f h)))
      (λ f h. behind f (later ++ unknown ++ inner) last h)

  pub no_name_fault : repeated tree.items ≡ [] → unresolved tree.items ≡ [] → name_faults tree ≡ []
  no_name_fault h g =
      let blocks = flat_map (block_faults tree.items) tree.items in
      let front = nothing_in (unknown_declared tree.items ++ blocks) last g in
      ap (λ fs. fs ++ unknown ++ inner ++ last) (nothing_in later _ h)
      ∙ ap (λ fs. fs ++ inner ++ last) (declared_faults tree.items
      ∙ nothing_in (unknown_declared tree.items) blocks front)
      ∙ ap (λ fs. fs ++ last) (no_item tree.items tree.items (nothing_behind later _ h)
      (nothing_behind (unknown_declared tree.items) blocks front))
      ∙ nothing_behind (unknown_declared tree.items ++ blocks) last g
