-- Of a tree, the faults that may stand against it stand at few positions.
use Rattle.std.proofs.Common.{◌≡◌, ◌⊎◌, ℕ, ◌+◌, Bool, true, false, cond, List, [], ◌∷◌, ◌++◌, map}
use Rattle.std.proofs.Common.{◌≤◌, arith, ⊎_elim, flat_map, filter, Ok, Err, refl, sym, ap, subst, inl, inr}
use Rattle.std.specs.List.{enumerate_from}
use Rattle.cat_pos.specs.declared.pos.Pos.{Pos}
use Rattle.cat_value.specs.declared.decls.Decls.{Decls}
use Rattle.cat_value.specs.declared.declaration.ItemDecl.{ItemDecl}
use Rattle.cat_value.specs.declared.declaration.Scope.{Scope}
use Rattle.cat_value.specs.Declarations.{are_sound}
use Rattle.cat_tree.specs.declared.name.Name.{Name}
use Rattle.cat_tree.specs.declared.program.Item.{Item}
use Rattle.cat_tree.specs.declared.program.Tree.{Tree}
use Rattle.cat_scope.specs.declared.defs.Body.{Body}
use Rattle.cat_scope.specs.Names.{IsOneOf}
use Rattle.cat_scope.specs.Orders.{function_calls, scope_dependencies}
use Rattle.cat_search.proofs.Exported.{one_of_two}
use Rattle.cat_names.specs.declared.fault.Fault.{Fault}
use Rattle.cat_names.specs.declared.fault.Fault.TheVariants as fault
use Rattle.cat_names.specs.Found.{Found, Stands, faults_of, fault_if}
use Rattle.cat_names.specs.Lines.{is_about}
use Rattle.cat_names.specs.ScopeWords.{item_words, words_in}
use Rattle.cat_names.specs.Written.{scopes_in, names_of, positions}
use Rattle.cat_names.specs.Declarations.{Declared, declared_of}
use Rattle.cat_names.specs.NameFaults.{name_faults}
use Rattle.cat_names.specs.Heights.{height_faults}
use Rattle.cat_names.specs.Bodies.{bodies_meant}
use Rattle.cat_names.specs.Cycles.{type_positions, IsTypeCycle, IsScopeCycle, IsItemCycle, is_first_past, past_chains}
use Rattle.cat_names.specs.Cycles.{past_functions, chain_faults}
use Rattle.cat_names.specs.Accepted.{IsNamed, parts_of, IsRefused}
use Rattle.cat_names.specs.Accepted as tree
use Rattle.cat_names.proofs.Exported.{IsSound, with_parts, parts_same}
use Rattle.cat_laws.proofs.Rooms.{Room, room_none, room_less, room_listed, one_of_at}

-- where a fault stands
abbrev pub place : Fault → Pos
place (fault.NameTwice p) = p
place (fault.NameUnknown p) = p
place (fault.TypeMismatch p) = p
place (fault.MatchCases p) = p
place (fault.VariableCycle p) = p
place (fault.ScopeCycle p) = p
place (fault.TypeCycle p) = p
place (fault.Misplaced p) = p
place (fault.TooMany p) = p

-- ---- lists

one_left : {A : Type 0} (x : A) (xs ys : List A) → IsOneOf x xs → IsOneOf x (xs ++ ys)
one_left x [] ys h = absurd h
one_left x (y ∷ xs) ys (inl same) = inl same
one_left x (y ∷ xs) ys (inr h) = inr (one_left x xs ys h)

one_right : {A : Type 0} (x : A) (xs ys : List A) → IsOneOf x ys → IsOneOf x (xs ++ ys)
one_right x [] ys h = h
one_right x (y ∷ xs) ys h = inr (one_right x xs ys h)

pub one_mapped : {A B : Type 0} (f : A → B) (x : A) (xs : List A) → IsOneOf x xs → IsOneOf (f x) (map f xs)
one_mapped f x [] h = absurd h
one_mapped f x (y ∷ xs) (inl same) = inl (ap f same)
one_mapped f x (y ∷ xs) (inr h) = inr (one_mapped f x xs h)

-- what stands in the parts of elements that pass a test stands in those of all
one_passing : {A B : Type 0} (f : A → List B) (passes : A → Bool) (x : B) (xs : List A)
    → IsOneOf x (flat_map f (filter passes xs)) → IsOneOf x (flat_map f xs)
one_passing f passes x [] h = h
one_passing f passes x (y ∷ xs) h = by (passes y) h (one_passing f passes x xs)
  where
    by : (b : Bool) → IsOneOf x (flat_map f (cond b (y ∷ filter passes xs) (filter passes xs)))
        → (IsOneOf x (flat_map f (filter passes xs)) → IsOneOf x (flat_map f xs)) → IsOneOf x (f y ++ flat_map f xs)
    by true there more = ⊎_elim (one_left x (f y) (flat_map f xs)) (λ h. one_right x (f y) (flat_map f xs) (more h))
        (one_of_two x (f y) (flat_map f (filter passes xs)) there)
    by false there more = one_right x (f y) (flat_map f xs) (more there)

-- ---- where items stand

-- the positions of the items of scopes
abbrev item_places : List Scope → List Pos
item_places [] = []
item_places (scope ∷ scopes) = map (λ i. i.pos) scope.items ++ item_places scopes

item_there : (item : ItemDecl) (scope : Scope) (scopes : List Scope) → IsOneOf scope scopes → IsOneOf item scope.items
    → IsOneOf item.pos (item_places scopes)
item_there item scope [] there h = absurd there
item_there item scope (s ∷ scopes) (inl same) h =
    one_left item.pos (map (λ i. i.pos) s.items) (item_places scopes)
    (one_mapped (λ (i : ItemDecl). i.pos) item s.items (subst (λ (t : Scope). IsOneOf item t.items) same h))
item_there item scope (s ∷ scopes) (inr more) h =
    one_right item.pos (map (λ i. i.pos) s.items) (item_places scopes) (item_there item scope scopes more h)

-- the positions of the scopes' words of all scope calls
abbrev word_places : List Item → List Pos
word_places items = positions (flat_map item_words items)

word_there : (ds : Decls) (scope : ℕ) (word : Name) (items : List Item) → IsOneOf word (words_in ds scope items)
    → IsOneOf word.pos (word_places items)
word_there ds scope word items h =
    one_mapped (λ (w : Name). w.pos) word (flat_map item_words items)
    (one_passing item_words (is_about ds scope) word items h)

-- ---- chains

-- the first past the longest chain, of numbers from n on
abbrev past_from : List (List ℕ) → ℕ → List Pos → List Fault
past_from deps n ps = flat_map (λ p. fault_if (is_first_past deps p.0) (fault.TooMany p.1)) (enumerate_from n ps)

past_first : (b : Bool) (p : Pos) (ps : List Pos) (more : List Fault) (f : Fault)
    → IsOneOf f (fault_if b (fault.TooMany p) ++ more) → (IsOneOf f more → IsOneOf (place f) ps)
    → IsOneOf (place f) (p ∷ ps)
past_first true p ps more f (inl same) there = inl (ap place same)
past_first true p ps more f (inr h) there = inr (there h)
past_first false p ps more f h there = inr (there h)

past_there : (deps : List (List ℕ)) (n : ℕ) (ps : List Pos) (f : Fault) → IsOneOf f (past_from deps n ps)
    → IsOneOf (place f) ps
past_there deps n [] f h = absurd h
past_there deps n (p ∷ ps) f h =
    past_first (is_first_past deps n) p ps (past_from deps (n + 1) ps) f h (past_there deps (n + 1) ps f)

functions_there : (scopes : List Scope) (bodies : List Body) (f : Fault) → IsOneOf f (past_functions scopes bodies)
    → IsOneOf (place f) (item_places scopes)
functions_there [] bodies f h = absurd h
functions_there (scope ∷ scopes) [] f h = absurd h
functions_there (scope ∷ scopes) (body ∷ bodies) f h =
    let deps = function_calls scope.items body.defs in
    let here = map (λ i. i.pos) scope.items in
    ⊎_elim (λ one. one_left (place f) here (item_places scopes) (past_there deps 0 here f one))
    (λ more. one_right (place f) here (item_places scopes) (functions_there scopes bodies f more))
    (one_of_two f (past_chains deps here) (past_functions scopes bodies) h)

-- ---- declarations of a tree

module _ (size : Pos → ℕ) (t : Tree) where
  -- how large the text is of where a fault stands
  abbrev pub at_place : Fault → ℕ
  at_place f = size (place f)

  -- faults that stand at some positions
  room_places : (Holds : Fault → Type 0) (ps : List Pos) → ((f : Fault) → Holds f → IsOneOf (place f) ps)
      → Room at_place Holds
  room_places Holds ps there =
      let room = room_listed size ps in (room.0, λ f h. room.1 (place f) (there f h))

  -- what holds by the declarations of the tree
  abbrev ByDeclared : (Declared → Fault → Type 0) → Fault → Type 0
  ByDeclared Holds f = (ds : Declared) × IsNamed t ds × Holds ds f

  room_declared : (Holds : Declared → Fault → Type 0) → ((ds : Declared) → Room at_place (Holds ds))
      → (found : Found Declared) → declared_of t.items ≡ found → Room at_place (ByDeclared Holds)
  room_declared Holds room (Ok ds) is =
      room_less at_place (ByDeclared Holds) (Holds ds)
      (λ f h. let same : h.0 ≡ ds = cc (h.1.declared, is) in subst (λ d. Holds d f) same h.2) (room ds)
  room_declared Holds room (Err faults) is = room_none at_place (ByDeclared Holds) (λ f h. cc (h.1.declared, is))

  -- the same where they keep what `Decls` keeps
  abbrev ByDecls : (Decls → Fault → Type 0) → Fault → Type 0
  ByDecls Holds f = (ds : Decls) × IsNamed t (parts_of ds) × Holds ds f

  abbrev Sounding : (Decls → Fault → Type 0) → Declared → Fault → Type 0
  Sounding Holds d f = (sound : IsSound d) × Holds (with_parts d sound) f

  room_sounding : (Holds : Decls → Fault → Type 0) → ((ds : Decls) → Room at_place (Holds ds)) → (d : Declared)
      → (b : Bool) → are_sound d.structures d.enumerations d.scopes ≡ b → Room at_place (Sounding Holds d)
  room_sounding Holds room d true sound =
      room_less at_place (Sounding Holds d) (Holds (with_parts d sound))
      (λ f h. subst (λ ds. Holds ds f) (parts_same d d refl h.0 sound) h.1) (room (with_parts d sound))
  room_sounding Holds room d false unsound = room_none at_place (Sounding Holds d) (λ f h. cc (h.0, unsound))

  room_decls : (Holds : Decls → Fault → Type 0) → ((ds : Decls) → Room at_place (Holds ds))
      → Room at_place (ByDecls Holds)
  room_decls Holds room =
      room_less at_place (ByDecls Holds) (ByDeclared (Sounding Holds))
      (λ f h. (parts_of h.0, h.1, (h.0.sound, h.2)))
      (room_declared (Sounding Holds)
      (λ d. room_sounding Holds room d (are_sound d.structures d.enumerations d.scopes) refl)
      (declared_of t.items) refl)

  -- ---- kinds of faults

  named_room : Room at_place (λ f. IsOneOf f (name_faults t))
  named_room = room_listed at_place (name_faults t)

  cycle_there : (ds : Declared) (f : Fault) → IsTypeCycle t ds f → IsOneOf (place f) (type_positions t)
  cycle_there ds f c = subst (λ g. IsOneOf (place g) (type_positions t)) (sym c.fault_is)
      (one_of_at (type_positions t) c.number c.position c.position_is)

  type_room : Room at_place (ByDeclared (λ ds f. IsTypeCycle t ds f))
  type_room = room_declared (λ ds f. IsTypeCycle t ds f)
      (λ ds. room_places (IsTypeCycle t ds) (type_positions t) (cycle_there ds)) (declared_of t.items) refl

  height_room : Room at_place (ByDeclared (λ ds f. IsOneOf f (height_faults t ds)))
  height_room = room_declared (λ ds f. IsOneOf f (height_faults t ds))
      (λ ds. room_listed at_place (height_faults t ds)) (declared_of t.items) refl

  meant_room : Room at_place (ByDecls (λ ds f. Stands f (bodies_meant ds t)))
  meant_room = room_decls (λ ds f. Stands f (bodies_meant ds t))
      (λ ds. room_listed at_place (faults_of (bodies_meant ds t)))

  -- where items, the words of scope calls and scopes stand
  abbrev late_places : Decls → List Pos
  late_places ds = item_places ds.scopes ++ (word_places t.items ++ positions (names_of (scopes_in t.items)))

  item_late : (ds : Decls) (p : Pos) → IsOneOf p (item_places ds.scopes) → IsOneOf p (late_places ds)
  item_late ds p h =
      one_left p (item_places ds.scopes) (word_places t.items ++ positions (names_of (scopes_in t.items))) h

  scope_cycle_there : (ds : Decls) (bodies : List Body) (f : Fault) → IsScopeCycle t ds bodies f
      → IsOneOf (place f) (late_places ds)
  scope_cycle_there ds bodies f (inl c) = subst (λ g. IsOneOf (place g) (late_places ds)) (sym c.fault_is)
      (item_late ds c.item.pos
      (item_there c.item c.scope ds.scopes (one_of_at ds.scopes c.caller c.scope c.scope_is) c.item_is))
  scope_cycle_there ds bodies f (inr c) = subst (λ g. IsOneOf (place g) (late_places ds)) (sym c.fault_is)
      (one_right c.word.pos (item_places ds.scopes) (word_places t.items ++ positions (names_of (scopes_in t.items)))
      (one_left c.word.pos (word_places t.items) (positions (names_of (scopes_in t.items)))
      (word_there ds c.caller c.word t.items c.word_is)))

  item_cycle_there : (ds : Decls) (bodies : List Body) (f : Fault) → IsItemCycle ds bodies f
      → IsOneOf (place f) (late_places ds)
  item_cycle_there ds bodies f c = subst (λ g. IsOneOf (place g) (late_places ds)) (sym c.fault_is)
      (item_late ds c.item.pos
      (item_there c.item c.scope ds.scopes (one_of_at ds.scopes c.number c.scope c.scope_is)
      (one_of_at c.scope.items c.item_number c.item c.item_is)))

  chain_there : (ds : Decls) (bodies : List Body) (f : Fault) → IsOneOf f (chain_faults t ds bodies)
      → IsOneOf (place f) (late_places ds)
  chain_there ds bodies f h = by (one_of_two f (past_functions ds.scopes bodies)
      (past_chains (scope_dependencies ds.scopes bodies) (positions (names_of (scopes_in t.items)))) h)
    where
      by : IsOneOf f (past_functions ds.scopes bodies)
          ⊎ IsOneOf f (past_chains (scope_dependencies ds.scopes bodies) (positions (names_of (scopes_in t.items))))
          → IsOneOf (place f) (late_places ds)
      by (inl here) = item_late ds (place f) (functions_there ds.scopes bodies f here)
      by (inr there) = one_right (place f) (item_places ds.scopes)
          (word_places t.items ++ positions (names_of (scopes_in t.items)))
          (one_right (place f) (word_places t.items) (positions (names_of (scopes_in t.items)))
          (past_there (scope_dependencies ds.scopes bodies) 0 (positions (names_of (scopes_in t.items))) f there))

  -- what stands late, whatever the order of items
  abbrev IsLate : Decls → Fault → Type 0
  IsLate ds f = IsOneOf (place f) (late_places ds)

  late_room : Room at_place (ByDecls IsLate)
  late_room = room_decls IsLate (λ ds. room_places (IsLate ds) (late_places ds) (λ f h. h))

  -- every fault against the tree
  pub faults_room : Room at_place (IsRefused t)
  faults_room = (named_room.0 + (type_room.0 + (height_room.0 + (meant_room.0 + late_room.0))), fits)
    where
      fits : (f : Fault) → IsRefused t f
          → at_place f ≤ named_room.0 + (type_room.0 + (height_room.0 + (meant_room.0 + late_room.0)))
      fits f (tree.name h) = omega (arith, named_room.1 f h)
      fits f (tree.type_cycle ds named h) = omega (arith, type_room.1 f (ds, named, h))
      fits f (tree.height ds named acyclic h) = omega (arith, height_room.1 f (ds, named, h))
      fits f (tree.expression ds named h) = omega (arith, meant_room.1 f (ds, named, h))
      fits f (tree.scope_cycle ds bodies meant h) =
          omega (arith, late_room.1 f (ds, meant.named, scope_cycle_there ds bodies f h))
      fits f (tree.item_cycle ds bodies meant acyclic h) =
          omega (arith, late_room.1 f (ds, meant.named, item_cycle_there ds bodies f h))
      fits f (tree.chain ds bodies meant acyclic items h) =
          omega (arith, late_room.1 f (ds, meant.named, chain_there ds bodies f h))
