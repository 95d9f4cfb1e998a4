-- Code with its places, told by the same words as the code: each part takes one shape to another.
use Rattle.std.proofs.Common.{◌≡◌, ◌≤◌, ℕ, ◌+◌, ◌<◌, nat_lt, ◌||◌, Bool, true, false, IsTrue, List, [], ◌∷◌, ◌++◌}
use Rattle.std.proofs.Common.{Some, None, slice_get, refl, sym, ap, ◌∙◌, subst, arith}
use Rattle.std.proofs.lemmas.Bool.Decides.{nat_tests}
use Rattle.cat_pos.specs.declared.pos.Pos.{Pos}
use Rattle.cat_scope.specs.Names.{AllHave}
use Rattle.cat_code.specs.declared.instr.Instr.{Instr}
use Rattle.cat_code.specs.declared.instr.Instr.TheVariants as instr
use Rattle.cat_code.specs.declared.code.Constant.{Constant}
use Rattle.cat_code.specs.declared.code.TargetEntry.{TargetEntry}
use Rattle.cat_code.specs.declared.code.Tables.{Tables}
use Rattle.cat_code.specs.Shapes.{Owner, Shape, Meets}
use Rattle.cat_code.specs.Leads.{leads, leads_two}
use Rattle.cat_code.specs.Flow.{flow}
use Rattle.cat_code.specs.Jumps.{jump_of, called_by}
use Rattle.cat_code.specs.Tame.{may_go_back}
use Rattle.cat_code.specs.Valid.{keeps_rules}
use Rattle.cat_lower.specs.Laying.{Ends, Parts, Coded, past, nothing, one, with_constant, with_position}
use Rattle.cat_lower.specs.Laying.{entry as target_entry, then_code, skip, end_of, over, branch}
use Rattle.cat_lower.specs.Stands.{HasAt, Has}
use Rattle.cat_lower.proofs.Places.{has_front, has_back, first_of, second_of, rest_of, past_append}
use Rattle.cat_lower.proofs.Spots.{Spots, open_at, Meeting, Marked, Arrives, arrives_here, arrives_by}
use Rattle.cat_lower.proofs.Spots.{Shut, Keeps, Jumps, MayCall, AreKept, AreEntered, IsConstant, IsTargetEntry}

pub all_both : {A : Type 0} (P : A → Type 0) (xs ys : List A) → AllHave P xs → AllHave P ys → AllHave P (xs ++ ys)
all_both P [] ys g h = h
all_both P (x ∷ xs) ys g h = (g.0, all_both P xs ys g.1 h)

pub past_below : {A : Type 0} (n : ℕ) (xs : List A) → n ≤ past n xs
past_below n [] = omega arith
past_below n (x ∷ xs) = omega (arith, past_below (n + 1) xs)

lower_or : (a b : ℕ) (c : Bool) → a < b → IsTrue (nat_lt a b || c)
lower_or a b c less = let e : nat_lt a b ≡ true = grind (arith, nat_tests) in rw e refl

pub forward : (a b : ℕ) (c : Bool) → a + 1 ≤ b → IsTrue (nat_lt a b || c)
forward a b c less = lower_or a b c (omega arith)

pub back_or : (a b : ℕ) (c : Bool) → c ≡ true → IsTrue (nat_lt a b || c)
back_or a b c is = by (nat_lt a b) is
  where
    by : (t : Bool) → c ≡ true → IsTrue (t || c)
    by true is = refl
    by false is = is

-- one instruction, with what it adds to the tables
abbrev pub step : Instr → List Constant → List Pos → Parts
step i cs ps = record { instructions = i ∷ []; constants = cs; positions = ps; targets = [] }

module _ (tables : Tables) (code : List Instr) (Calls : Owner → Owner → Type 0) (entry : ℕ → Shape) where
  -- what is laid, and how it goes on: the spots of its instructions are kept to, where what comes behind is so
  pub record Sketch (ends : Ends) (a : Parts) (from : Shape) (After : Spots → Type 0) : Type 0 where
    pub spots : Spots
    pub as_long : (n : ℕ) → past n spots ≡ past n a.instructions
    pub first : (all : Spots) → HasAt all ends.place spots → After all → Arrives all ends.place from
    pub kept : (all : Spots) → AreEntered tables code Calls entry all → HasAt all ends.place spots → After all
        → AreKept tables code Calls entry all ends.place a.instructions spots
    pub constants : AllHave (IsConstant tables) a.constants
    pub targets : AllHave (IsTargetEntry tables) a.targets

  -- wherever it is laid, code goes on so; and it takes one shape to another
  abbrev pub Laid : Coded → Shape → (Spots → ℕ → Type 0) → Type 0
  Laid a from After =
      (ends : Ends) → Has tables code ends (a ends) → Sketch ends (a ends) from (λ all. After all (end_of a ends).place)

  abbrev pub Takes : Coded → Shape → Shape → Type 0
  Takes a from into = Laid a from (λ all p. Arrives all p into)

  pub kept_both : (all : Spots) (p : ℕ) (is : List Instr) (xs : Spots) (js : List Instr) (ys : Spots)
      → AreKept tables code Calls entry all p is xs
      → AreKept tables code Calls entry all (past p is) js ys
      → AreKept tables code Calls entry all p (is ++ js) (xs ++ ys)
  kept_both all p [] [] js ys g h = h
  kept_both all p [] (x ∷ xs) js ys g h = absurd g
  kept_both all p (i ∷ is) [] js ys g h = absurd g
  kept_both all p (i ∷ is) (x ∷ xs) js ys g h = (g.0, kept_both all (p + 1) is xs js ys g.1 h)

  -- more is known behind it
  abbrev pub sketch_after : (ends : Ends) (a : Parts) (s : Shape) (Mid After : Spots → Type 0)
      → ((all : Spots) → After all → Mid all)
      → Sketch ends a s Mid → Sketch ends a s After
  sketch_after ends a s Mid After more sketch = record {
    spots = sketch.spots;
    as_long = sketch.as_long;
    first = λ all has after. sketch.first all has (more all after);
    kept = λ all known has after. sketch.kept all known has (more all after);
    constants = sketch.constants;
    targets = sketch.targets;
  }

  -- its own beginning needn't be known, where that is a spot of its own
  abbrev pub sketch_around : (ends : Ends) (a : Parts) (s : Shape) (After : Spots → Type 0)
      → (sketch : Sketch ends a s (λ all. After all × Arrives all ends.place s))
      → ((all : Spots) → HasAt all ends.place sketch.spots → Arrives all ends.place s) → Sketch ends a s After
  sketch_around ends a s After sketch own = record {
    spots = sketch.spots;
    as_long = sketch.as_long;
    first = λ all has after. own all has;
    kept = λ all known has after. sketch.kept all known has (after, own all has);
    constants = sketch.constants;
    targets = sketch.targets;
  }

  abbrev pub sketch_step : (ends : Ends) (i : Instr) (cs : List Constant) (ps : List Pos) (from : Shape)
      (After : Spots → Type 0)
      (to : List (ℕ × Shape)) → flow tables code i ends.place from ≡ Some to → AllHave (IsConstant tables) cs
      → ((all : Spots) → AreEntered tables code Calls entry all → After all
      → AllHave (λ next. Meeting all next.0 next.1) to)
      → ((all : Spots) → After all → Keeps tables code Calls entry all i ends.place from)
      → Sketch ends (step i cs ps) from After
  sketch_step ends i cs ps from After to flows typed met keeps = record {
    spots = open_at from ∷ [];
    as_long = λ n. refl;
    first = λ all has after. arrives_here all ends.place from has.0;
    kept =
        λ all known has after. (
          record { to = to; flows = flows; met = met all known after; keeps = keeps all after },
          tt,
        );
    constants = typed;
    targets = tt;
  }

  -- an instruction that goes on to the next place
  abbrev pub sketch_on : (ends : Ends) (i : Instr) (cs : List Constant) (ps : List Pos) (from into : Shape)
      → flow tables code i ends.place from ≡ leads (ends.place + 1) into → AllHave (IsConstant tables) cs
      → ((all : Spots) → Keeps tables code Calls entry all i ends.place from)
      → Sketch ends (step i cs ps) from (λ all. Arrives all (ends.place + 1) into)
  sketch_on ends i cs ps from into flows typed keeps =
      sketch_step ends i cs ps from (λ all. Arrives all (ends.place + 1) into) ((ends.place + 1, into) ∷ []) flows typed
      (λ all known after. (after.0, tt)) (λ all after. keeps all)

  pub takes_one : (i : Instr) (from into : Shape) → ((p : ℕ) → flow tables code i p from ≡ leads (p + 1) into)
      → ((all : Spots) (p : ℕ) → Keeps tables code Calls entry all i p from) → Takes (one i) from into
  takes_one i from into flows keeps ends has =
      sketch_on ends i [] [] from into (flows ends.place) tt (λ all. keeps all ends.place)

  -- code that takes a shape to one that is told by the place where it begins
  abbrev pub Leaves : Coded → Shape → (ℕ → Shape) → Type 0
  Leaves a from into =
      (ends : Ends) → Has tables code ends (a ends)
      → Sketch ends (a ends) from (λ all. Arrives all (end_of a ends).place (into ends.place))

  pub leaves_one : (i : Instr) (from : Shape) (into : ℕ → Shape)
      → ((p : ℕ) → flow tables code i p from ≡ leads (p + 1) (into p))
      → ((all : Spots) (p : ℕ) → Keeps tables code Calls entry all i p from) → Leaves (one i) from into
  leaves_one i from into flows keeps ends has =
      sketch_on ends i [] [] from (into ends.place) (flows ends.place) tt (λ all. keeps all ends.place)

  pub takes_constant : (i : ℕ → Instr) (c : Constant) (from into : Shape) → IsConstant tables c
      → ((k p : ℕ) → slice_get tables.constants k ≡ Some c → flow tables code (i k) p from ≡ leads (p + 1) into)
      → ((all : Spots) (k p : ℕ) → slice_get tables.constants k ≡ Some c
      → Keeps tables code Calls entry all (i k) p from)
      → Takes (with_constant i c) from into
  takes_constant i c from into typed flows keeps ends has =
      sketch_on ends (i ends.constants) (c ∷ []) [] from into (flows ends.constants ends.place has.constants.0)
      (typed, tt)
      (λ all. keeps all ends.constants ends.place has.constants.0)

  pub takes_position : (i : ℕ → Instr) (at : Pos) (from into : Shape)
      → ((k p : ℕ) → slice_get tables.positions k ≡ Some at → flow tables code (i k) p from ≡ leads (p + 1) into)
      → ((all : Spots) (k p : ℕ) → Keeps tables code Calls entry all (i k) p from)
      → Takes (with_position i at) from into
  takes_position i at from into flows keeps ends has =
      sketch_on ends (i ends.positions) [] (at ∷ []) from into (flows ends.positions ends.place has.positions.0) tt
      (λ all. keeps all ends.positions ends.place)

  pub takes_nothing : (s : Shape) → Takes nothing s s
  takes_nothing s ends has = record {
    spots = [];
    as_long = λ n. refl;
    first = λ all has after. after;
    kept = λ all known has after. tt;
    constants = tt;
    targets = tt;
  }

  pub takes_entry : (e : TargetEntry) (s : Shape) → IsTargetEntry tables e → Takes (target_entry e) s s
  takes_entry e s is ends has = record {
    spots = [];
    as_long = λ n. refl;
    first = λ all has after. after;
    kept = λ all known has after. tt;
    constants = tt;
    targets = (is, tt);
  }

  -- less is known behind it
  pub takes_less : (a : Coded) (s t u : Shape) → Meets t u → Takes a s t → Takes a s u
  takes_less a s t u less takes ends has =
      sketch_after ends (a ends) s (λ all. Arrives all (end_of a ends).place t)
      (λ all. Arrives all (end_of a ends).place u)
      (λ all after. arrives_by all (end_of a ends).place t u less after) (takes ends has)

  -- one behind the other, where what the first goes on to is known by the second and what comes behind
  module _ (ends : Ends) (a b : Coded) (s t : Shape) (Mid After : Spots → Type 0) (front : Sketch ends (a ends) s Mid)
      (back : Sketch (end_of a ends) (b (end_of a ends)) t After)
      (link : (all : Spots) → HasAt all (end_of a ends).place back.spots → After all → Mid all) where
    pub second_has : (all : Spots) → HasAt all ends.place (front.spots ++ back.spots)
        → HasAt all (end_of a ends).place back.spots
    second_has all has =
        subst (λ p. HasAt all p back.spots) (front.as_long ends.place)
        (has_back all ends.place front.spots back.spots has)

    abbrev pub sketch_join : Sketch ends (then_code a b ends) s After
    sketch_join = record {
      spots = front.spots ++ back.spots;
      as_long = λ n.
          past_append n front.spots back.spots ∙ ap (λ k. past k back.spots) (front.as_long n)
          ∙ back.as_long (past n (a ends).instructions)
          ∙ sym (past_append n (a ends).instructions (b (end_of a ends)).instructions);
      first = λ all has after.
          front.first all (has_front all ends.place front.spots back.spots has) (link all (second_has all has) after);
      kept = λ all known has after.
          kept_both all ends.place (a ends).instructions front.spots (b (end_of a ends)).instructions back.spots
          (front.kept all known (has_front all ends.place front.spots back.spots has)
          (link all (second_has all has) after))
          (back.kept all known (second_has all has) after);
      constants =
          all_both (IsConstant tables) (a ends).constants (b (end_of a ends)).constants front.constants back.constants;
      targets = all_both (IsTargetEntry tables) (a ends).targets (b (end_of a ends)).targets front.targets back.targets;
    }

  -- the end of two parts is that of the second
  pub at_end : (a b : Coded) (ends : Ends) (At : ℕ → Type 0) → At (end_of (then_code a b) ends).place
      → At (end_of b (end_of a ends)).place
  at_end a b ends At after =
      subst At (past_append ends.place (a ends).instructions (b (end_of a ends)).instructions) after

  pub laid_then : (a b : Coded) (s t : Shape) (After : Spots → ℕ → Type 0) → Takes a s t → Laid b t After
      → Laid (then_code a b) s After
  laid_then a b s t After f g ends has =
      let back = g (end_of a ends) (second_of tables code a b ends has) in
      sketch_after ends (then_code a b ends) s (λ all. After all (end_of b (end_of a ends)).place)
      (λ all. After all (end_of (then_code a b) ends).place) (λ all. at_end a b ends (After all))
      (sketch_join ends a b s t (λ all. Arrives all (end_of a ends).place t)
      (λ all. After all (end_of b (end_of a ends)).place)
      (f ends (first_of tables code a b ends has)) back (λ all at after. back.first all at after))

  -- the same where the first part tells the second one where it began
  pub leaves_then : (a b : Coded) (s : Shape) (t u : ℕ → Shape) → Leaves a s t → ((p : ℕ) → Takes b (t p) (u p))
      → Leaves (then_code a b) s u
  leaves_then a b s t u f g ends has =
      let from = t ends.place in
      let into = u ends.place in
      let back = g ends.place (end_of a ends) (second_of tables code a b ends has) in
      sketch_after ends (then_code a b ends) s (λ all. Arrives all (end_of b (end_of a ends)).place into)
      (λ all. Arrives all (end_of (then_code a b) ends).place into) (λ all. at_end a b ends (λ p. Arrives all p into))
      (sketch_join ends a b s from (λ all. Arrives all (end_of a ends).place from)
      (λ all. Arrives all (end_of b (end_of a ends)).place into)
      (f ends (first_of tables code a b ends has)) back (λ all at after. back.first all at after))

  pub takes_then : (a b : Coded) (s t u : Shape) → Takes a s t → Takes b t u → Takes (then_code a b) s u
  takes_then a b s t u f g = laid_then a b s t (λ all p. Arrives all p u) f g

  -- ---- jumps forward

  -- a jump
  pub record IsJump (jump : ℕ → Instr) : Type 0 where
    pub jumps : (q : ℕ) → jump_of (jump q) ≡ Some q
    pub rules : (p q : ℕ) → IsTrue (keeps_rules tables code [] p (jump q))
    pub free : (all : Spots) (p q : ℕ) → Shut tables code Calls entry all p (jump q)
    pub calls : (o : Owner) (q : ℕ) → called_by o (jump q) ≡ None

  pub jump_keeps : (jump : ℕ → Instr) → IsJump jump → (all : Spots) (p q : ℕ) (s : Shape) → Marked true all q
      → IsTrue (nat_lt p q || may_go_back code (jump q)) → Keeps tables code Calls entry all (jump q) p s
  jump_keeps jump is all p q s free goes = (
    subst (λ o. Jumps tables code Calls entry all p (jump q) o) (sym (is.jumps q)) (free, goes),
    (
      is.rules p q,
      (
        is.free all p q,
        subst (λ o. MayCall tables code Calls entry s.owner o) (sym (is.calls s.owner q)) tt,
      ),
    ),
  )

  pub is_jump : IsJump (λ t. instr.Jump t)
  is_jump = record { jumps = λ q. refl; rules = λ p q. refl; free = λ all p q. tt; calls = λ o q. refl }

  pub is_jump_false : IsJump (λ t. instr.JumpFalse t)
  is_jump_false = record { jumps = λ q. refl; rules = λ p q. refl; free = λ all p q. tt; calls = λ o q. refl }

  -- an instruction that goes on, or jumps forward
  abbrev pub sketch_jump : (ends : Ends) (jump : ℕ → Instr) (q : ℕ) (s t other : Shape) (After : Spots → Type 0)
      → IsJump jump
      → flow tables code (jump q) ends.place s ≡ leads_two (ends.place + 1) t q other → ends.place + 1 ≤ q
      → ((all : Spots) → After all → Meeting all (ends.place + 1) t × Arrives all q other)
      → Sketch ends (step (jump q) [] []) s After
  sketch_jump ends jump q s t other After is flows before known =
      sketch_step ends (jump q) [] [] s After ((ends.place + 1, t) ∷ (q, other) ∷ []) flows tt
      (λ all entered after. let k = known all after in (k.0, (k.1.0, tt)))
      (λ all after. let k = known all after in
      jump_keeps jump is all ends.place q s k.1.1 (forward ends.place q _ before))

  -- an instruction that only jumps, forward or back
  abbrev pub sketch_go : (ends : Ends) (q : ℕ) (s : Shape) (After : Spots → Type 0)
      → IsTrue (nat_lt ends.place q || may_go_back code (instr.Jump q)) → ((all : Spots) → After all → Arrives all q s)
      → Sketch ends (step (instr.Jump q) [] []) s After
  sketch_go ends q s After goes known =
      sketch_step ends (instr.Jump q) [] [] s After ((q, s) ∷ []) refl tt
      (λ all entered after. let k = known all after in (k.0, tt))
      (λ all after. let k = known all after in jump_keeps (λ t. instr.Jump t) is_jump all ends.place q s k.1 goes)

  -- a jump over a part
  pub sketch_over : (ends : Ends) (jump : ℕ → Instr) (a : Coded) (s t other : Shape) (After : Spots → Type 0)
      → IsJump jump
      → flow tables code (jump (end_of a (skip ends)).place) ends.place s
      ≡ leads_two (ends.place + 1) t (end_of a (skip ends)).place other
      → Sketch (skip ends) (a (skip ends)) t After
      → ((all : Spots) → After all → Arrives all (end_of a (skip ends)).place other)
      → Sketch ends (over jump a ends) s After
  sketch_over ends jump a s t other After is flows inner known =
      let q = (end_of a (skip ends)).place in
      let Mid : Spots → Type 0 = λ all. Meeting all (ends.place + 1) t × Arrives all q other in
      sketch_join ends (one (jump q)) a s t Mid After
      (sketch_jump ends jump q s t other Mid is flows (past_below (ends.place + 1) (a (skip ends)).instructions)
      (λ all after. after))
      inner (λ all at after. ((inner.first all at after).0, known all after))

  pub takes_over : (jump : ℕ → Instr) (a : Coded) (s t other u : Shape) → IsJump jump
      → ((p q : ℕ) → slice_get code p ≡ Some (jump q) → flow tables code (jump q) p s ≡ leads_two (p + 1) t q other)
      → Meets other u
      → Takes a t u → Takes (over jump a) s u
  takes_over jump a s t other u is flows meets inner ends has =
      let q = (end_of a (skip ends)).place in
      sketch_over ends jump a s t other (λ all. Arrives all q u) is (flows ends.place q has.instructions.0)
      (inner (skip ends) (rest_of tables code (jump q) a ends has)) (λ all after. arrives_by all q other u meets after)

  -- two sides behind a head that goes on to the first, and jumps to the second
  pub sketch_sides : (ends : Ends) (head a b : Coded) (s t other u : Shape)
      → Has tables code ends (then_code head (then_code a (over (λ t. instr.Jump t) b)) ends)
      → Sketch ends (head ends) s
      (λ all. Meeting all (end_of head ends).place t × Arrives all (skip (end_of a (end_of head ends))).place other)
      → Takes a t u → Takes b other u
      → Sketch ends (then_code head (then_code a (over (λ t. instr.Jump t) b)) ends) s
      (λ all. Arrives all (end_of b (skip (end_of a (end_of head ends)))).place u)
  sketch_sides ends head a b s t other u has front one_side other_side =
      let e1 = end_of head ends in
      let ea = end_of a e1 in
      let e2 = skip ea in
      let q = (end_of b e2).place in
      let tail : Coded = over (λ t. instr.Jump t) b in
      let inner = second_of tables code head (then_code a tail) ends has in
      let in_tail = second_of tables code a tail e1 inner in
      let After : Spots → Type 0 = λ all. Arrives all q u in
      let second = other_side e2 (rest_of tables code (instr.Jump q) b ea in_tail) in
      let go =
      sketch_go ea q u After (forward ea.place q _ (past_below (ea.place + 1) (b e2).instructions))
      (λ all after. after) in
      let last = sketch_join ea (one (instr.Jump q)) b u other After After go second (λ all at after. after) in
      let first = one_side e1 (first_of tables code a tail e1 inner) in
      let both = sketch_join e1 a tail t u (λ all. Arrives all ea.place u) After first last
      (λ all at after. arrives_here all ea.place u at.0) in
      sketch_join ends head (then_code a tail) s t
      (λ all. Meeting all e1.place t × Arrives all e2.place other) After front both
      (λ all at after.
      let rest = subst (λ p. HasAt all p (open_at u ∷ second.spots)) (first.as_long e1.place)
      (has_back all e1.place first.spots (open_at u ∷ second.spots) at) in
      ((both.first all at after).0, second.first all rest.1 after))

  pub takes_branch : (jump : ℕ → Instr) (a b : Coded) (s t other u : Shape) → IsJump jump
      → ((p q : ℕ) → slice_get code p ≡ Some (jump q) → flow tables code (jump q) p s ≡ leads_two (p + 1) t q other)
      → Takes a t u → Takes b other u → Takes (branch jump a b) s u
  takes_branch jump a b s t other u is flows one_side other_side ends has =
      let e1 = skip ends in
      let ea = end_of a e1 in
      let e2 = skip ea in
      let tail : Coded = over (λ t. instr.Jump t) b in
      let Mid : Spots → Type 0 = λ all. Meeting all (ends.place + 1) t × Arrives all e2.place other in
      let before : ends.place + 1 ≤ ea.place + 1 = omega (arith, past_below (ends.place + 1) (a e1).instructions) in
      sketch_after ends (branch jump a b ends) s (λ all. Arrives all (end_of b e2).place u)
      (λ all. Arrives all (end_of (branch jump a b) ends).place u)
      (λ all after. subst (λ p. Arrives all p u)
      (past_append (ends.place + 1) (a e1).instructions (instr.Jump (end_of b e2).place ∷ (b e2).instructions)) after)
      (sketch_sides ends (one (jump e2.place)) a b s t other u has
      (sketch_jump ends jump e2.place s t other Mid is (flows ends.place e2.place has.instructions.0) before
      (λ all after. after))
      one_side other_side)
