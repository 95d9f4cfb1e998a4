-- Valid code ends: by the elements that are left in its loops, and by its chain of calls.
use Rattle.std.proofs.Common.{◌≡◌, ◌≤◌, ℕ, zero, suc, ◌+◌, ◌-◌, nat_eq, nat_lt, ◌||◌, Bool, true, false, true≢false}
use Rattle.std.proofs.Common.{List, [], ◌∷◌, length, replicate, Option, Some, None, slice_get, inl, inr, refl, sym, ap}
use Rattle.std.proofs.Common.{◌∙◌, subst, arith}
use Rattle.std.proofs.lemmas.Bool.{eqb-true, ltb-true}
use Rattle.cat_value.specs.declared.declaration.Scope.{Scope}
use Rattle.cat_value.proofs.Exported.{within}
use Rattle.cat_scope.specs.Names.{AllHave}
use Rattle.cat_sound.proofs.Exported.{same_some}
use Rattle.cat_code.specs.declared.instr.Instr.{Instr}
use Rattle.cat_code.specs.declared.instr.Instr.TheVariants as instr
use Rattle.cat_code.specs.declared.code.Constant.{Constant}
use Rattle.cat_code.specs.declared.code.Tables.{Tables}
use Rattle.cat_code.specs.States.{State}
use Rattle.cat_code.specs.Machine.{act}
use Rattle.cat_code.specs.Forms.{form_of}
use Rattle.cat_code.specs.Shapes.{Owner, LoopShape, Shape}
use Rattle.cat_code.specs.Shaped.{Shapes, IsMet, IsFine}
use Rattle.cat_code.specs.Leads.{leads, leads_two, where_so, pushed, loop_ended}
use Rattle.cat_code.specs.Flow.{flow}
use Rattle.cat_code.specs.Jumps.{jump_of, called_by}
use Rattle.cat_code.specs.Tame.{is_next, may_go_back, is_forward, IsCallOf}
use Rattle.cat_code.specs.Valid.{IsValidBy, entries_of}
use Rattle.cat_code_sound.proofs.ValueKinds.{IsOf}
use Rattle.cat_code_sound.proofs.Fitting.{Setting, Fits, meets_fits, unbound_fits}
use Rattle.cat_code_sound.proofs.Stepping.{Finishes, Fine, GoesOn, IsNext, fine_where, fine_with, fine_top}
use Rattle.cat_code_sound.proofs.PlaceLemmas.{Outer, fine_at, forward_at, is_content, content_is, content_tests}
use Rattle.cat_code_sound.proofs.PlaceLemmas.{outer_jump, outer_entry, outer_on, outer_behind, scope_among}
use Rattle.cat_code_sound.proofs.PlaceLemmas.{function_among}
use Rattle.cat_code_sound.proofs.Running.{EndsFrom, run_by, BackEnds, EntryEnds, TurnEnds, LoopsEnd, entered, looping}
use Rattle.cat_code_sound.proofs.SoundSlots.{sound_const, sound_slot, sound_local, sound_store, sound_bind, sound_drop}
use Rattle.cat_code_sound.proofs.SoundSlots.{sound_given, sound_jump, sound_jump_false}
use Rattle.cat_code_sound.proofs.SoundData.{sound_op, sound_pack, sound_list, sound_field, sound_tag, sound_tag_none}
use Rattle.cat_code_sound.proofs.SoundData.{sound_is_case, sound_length, sound_collect}
use Rattle.cat_code_sound.proofs.SoundFrames.{sound_scope, sound_pass, sound_begin, sound_hold, sound_merge}
use Rattle.cat_code_sound.proofs.SoundFrames.{sound_check, sound_held, sound_take, sound_no_value, sound_assert}
use Rattle.cat_code_sound.proofs.SoundLoops.{Begins, sound_iter, sound_iter_list, next_finishes, sound_leave}
use Rattle.cat_code_sound.proofs.SoundCalls.{call_finishes, enter_finishes, return_finishes}
use Rattle.cat_code_sound.proofs.SoundContent.{EndsAt, five_end}

-- a jump that may go back goes to a `next`
back_is : (code : List Instr) (i : Instr) (q : ℕ) → may_go_back code i ≡ true → jump_of i ≡ Some q
    → is_next (slice_get code q) ≡ true
back_is code (instr.Jump t) q back jumps = ap (λ (n : ℕ). is_next (slice_get code n)) (sym (same_some t q jumps)) ∙ back
back_is code _ q back jumps = absurd (true≢false (sym back))

-- the instruction is a `next`
next_is : (o : Option Instr) → is_next o ≡ true → (t : ℕ) × (o ≡ Some (instr.Next t))
next_is (Some (instr.Next t)) is = (t, refl)
next_is _ is = absurd (true≢false (sym is))

module _ (tables : Tables) (code : List Instr) (shapes : Shapes) (valid : IsValidBy tables code shapes)
    (typed : (k : ℕ) (c : Constant) → slice_get tables.constants k ≡ Some c
    → IsOf tables.decls (form_of tables.decls c.ty) c.value) where
  abbrev entries : List ℕ
  entries = entries_of tables

  fine_of : (q : ℕ) (shape : Shape) (i : Instr) → slice_get shapes q ≡ Some (Some shape) → slice_get code q ≡ Some i
      → IsFine tables code shapes i q shape
  fine_of q shape i there is =
      let place : 0 + q ≡ q = omega arith in
      let met = fine_at tables code shapes 0 code shapes q shape valid.shaped.fine there in
      let same : met.instruction ≡ i = same_some met.instruction i (sym met.instruction_is ∙ is) in
      subst (λ (n : ℕ). IsFine tables code shapes i n shape) place
      (subst (λ (x : Instr). IsFine tables code shapes x (0 + q) shape) same met.fine)

  instruction_at : (q : ℕ) (shape : Shape) → slice_get shapes q ≡ Some (Some shape)
      → (i : Instr) × (slice_get code q ≡ Some i)
  instruction_at q shape there =
      let met = fine_at tables code shapes 0 code shapes q shape valid.shaped.fine there in
      (met.instruction, met.instruction_is)

  forward_of : (q : ℕ) (i : Instr) → slice_get code q ≡ Some i → is_forward code q i (jump_of i) ≡ true
  forward_of q i is =
      let place : 0 + q ≡ q = omega arith in
      subst (λ (n : ℕ). is_forward code n i (jump_of i) ≡ true) place (forward_at code 0 code q i valid.tame.forward is)

  module _ (owner : Owner) (below : State)
      (calls_end : (called : Owner) → IsCallOf code shapes owner called → EntryEnds tables code shapes called)
      (back : BackEnds tables code owner below) where
    abbrev pub here : Setting
    here = looping tables code shapes owner below

    abbrev pub Good : State → Type 0
    Good = EndsFrom tables code

    -- from all places from a place on
    abbrev pub From : ℕ → Type 0
    From d =
        (s : State) → length code ≤ s.place + d → Outer code s.place → (shape : Shape)
        → slice_get shapes s.place ≡ Some (Some shape)
        → (turns : List ℕ) → Fits here turns shape s → Good s

    -- at a `next` the innermost loop is its own
    own_loop : (t q : ℕ) (shape : Shape) → slice_get shapes q ≡ Some (Some shape)
        → slice_get code q ≡ Some (instr.Next t)
        → (l : LoopShape) × (ls : List LoopShape) × (shape.loops ≡ l ∷ ls) × (l.begun + 1 ≡ q)
    own_loop t q shape there is =
        let i : Instr = instr.Next t in
        let fine = fine_of q shape i there is in
        let f : Fine (entered tables code shapes owner below) (λ s. Unit {0}) i q (flow tables code i q shape)
        = record { into = fine.to; is = fine.flows; good = met_all fine.to fine.met } in
        let x = fine_top (entered tables code shapes owner below) (λ s. Unit {0}) i q shape.loops
        (λ (l : LoopShape) (ls : List LoopShape). where_so (nat_eq (l.begun + 1) q)
        (leads_two (q + 1) (pushed l.element shape) t (loop_ended l.collected (record shape { loops = ls })))) f in
        let w = fine_where (entered tables code shapes owner below) (λ s. Unit {0}) i q (nat_eq (x.0.begun + 1) q)
        (leads_two (q + 1) (pushed x.0.element shape) t (loop_ended x.0.collected (record shape { loops = x.1 })))
        x.3 in
        (x.0, x.1, x.2, eqb-true (x.0.begun + 1) q w.0)
      where
        met_all : (to : List (ℕ × Shape)) → AllHave (λ next. IsMet shapes next.0 next.1) to
            → AllHave (GoesOn (entered tables code shapes owner below) (λ s. Unit {0}) (instr.Next t) q) to
        met_all [] met = tt
        met_all (next ∷ to) met = ((met.0, λ is turns s at fits. tt), met_all to met.1)

    -- where a loop stands innermost at its `next`, the run ends by what is known of the loops
    turn_ends : (turns : List ℕ) (shape : Shape) (s : State) → slice_get shapes s.place ≡ Some (Some shape)
        → is_next (slice_get code s.place) ≡ true → Fits here turns shape s → Good s
    turn_ends turns shape s there next fits =
        let t = next_is (slice_get code s.place) next in
        let own = own_loop t.0 s.place shape there t.1 in
        by own.0 own.1 own.2 own.3 turns (subst (λ (ls : List LoopShape). here.Around ls turns) own.2 fits.around)
        (unbound_fits here turns shape s fits)
      where
        by : (l : LoopShape) (ls : List LoopShape) → shape.loops ≡ l ∷ ls → l.begun + 1 ≡ s.place → (turns : List ℕ)
            → LoopsEnd tables code shapes (entered tables code shapes owner below) (l ∷ ls) turns
            → Fits (entered tables code shapes owner below) turns shape s → Good s
        by l ls in_loop at [] around fits = absurd around
        by l ls in_loop at (n ∷ ns) around fits = around.0 shape s at there next in_loop fits

    -- where an instruction leads by itself the run ends, if it does from all later places
    good_next : (d : ℕ) → From d → (i : Instr) (p : ℕ) → slice_get code p ≡ Some i → Outer code (p + 1)
        → length code ≤ p + 1 + d
        → (q : ℕ) (left : Shape) → IsMet shapes q left → GoesOn here Good i p (q, left)
    good_next d behind i p is outer near q left met =
        (met, λ next turns s at fits. by next turns s at (meets_fits here turns left met.shape s met.meets fits))
      where
        by : IsNext i p q → (turns : List ℕ) (s : State) → s.place ≡ q → Fits here turns met.shape s → Good s
        by (inl e) turns s at fits =
            let place : p + 1 ≡ s.place = sym e ∙ sym at in
            behind s (subst (λ (n : ℕ). length code ≤ n + d) place near) (subst (Outer code) place outer) met.shape
            (ap (slice_get shapes) at ∙ met.is) turns fits
        by (inr e) turns s at fits =
            ahead (nat_lt p q) refl (nat_lt p q || may_go_back code i) refl
            (sym (ap (is_forward code p i) e) ∙ forward_of p i is)
          where
            there : slice_get shapes s.place ≡ Some (Some met.shape)
            there = ap (slice_get shapes) at ∙ met.is

            ahead : (b : Bool) → nat_lt p q ≡ b → (c : Bool) → (nat_lt p q || may_go_back code i) ≡ c
                → (nat_lt p q || may_go_back code i) ≡ true → Good s
            ahead true less c any so =
                let near_by : length code ≤ q + d = let l = ltb-true p q less in omega arith in
                behind s (subst (λ (n : ℕ). length code ≤ n + d) (sym at) near_by)
                (subst (Outer code) (sym at) (outer_jump tables code entries valid.rules p i q is e)) met.shape there
                turns fits
            ahead false less c any so =
                let back_so : may_go_back code i ≡ true = rw less at so in
                turn_ends turns met.shape s there
                (ap (λ (n : ℕ). is_next (slice_get code n)) at ∙ back_is code i q back_so e) fits

    all_good : (d : ℕ) → From d → (i : Instr) (p : ℕ) → slice_get code p ≡ Some i → Outer code (p + 1)
        → length code ≤ p + 1 + d
        → (to : List (ℕ × Shape)) → AllHave (λ next. IsMet shapes next.0 next.1) to → AllHave (GoesOn here Good i p) to
    all_good d behind i p is outer near [] met = tt
    all_good d behind i p is outer near (next ∷ to) met =
        (good_next d behind i p is outer near next.0 next.1 met.0, all_good d behind i p is outer near to met.1)

    fine_there : (d : ℕ) → From d → (i : Instr) (p : ℕ) (shape : Shape) → slice_get code p ≡ Some i
        → slice_get shapes p ≡ Some (Some shape)
        → Outer code (p + 1) → length code ≤ p + 1 + d → Fine here Good i p (flow tables code i p shape)
    fine_there d behind i p shape is there outer near =
        let fine = fine_of p shape i there is in
        record { into = fine.to; is = fine.flows; good = all_good d behind i p is outer near fine.to fine.met }

    -- no five instructions that end in a `content` begin at a `next`
    not_five : (q t : ℕ) → slice_get code q ≡ Some (instr.Next t) → is_content (slice_get code (q + 4)) ≡ false
    not_five q t is = by (is_content (slice_get code (q + 4))) refl
      where
        by : (b : Bool) → is_content (slice_get code (q + 4)) ≡ b → is_content (slice_get code (q + 4)) ≡ false
        by false e = e
        by true e =
            let told = content_tests tables code entries valid.rules q (content_is (slice_get code (q + 4)) e) in
            let both : instr.Next t ≡ instr.Local told.local =
            same_some (instr.Next t) (instr.Local told.local) (sym is ∙ told.first) in
            absurd (cc both)

    -- from the `next` of a loop whose outer loops end, if it does with one element less
    turn_ends_by : (d : ℕ) → From d → (l : LoopShape) (ls : List LoopShape) (ns : List ℕ) → Outer code (l.begun + 1)
        → length code ≤ l.begun + 1 + d + 1
        → LoopsEnd tables code shapes (entered tables code shapes owner below) ls ns → (n : ℕ)
        → ((m : ℕ) → n ≡ suc m → here.Around (l ∷ ls) (m ∷ ns))
        → TurnEnds tables code shapes (entered tables code shapes owner below) l ls n ns
    turn_ends_by d behind l ls ns outer near outside n again shape s at there next in_loop fits =
        let t = next_is (slice_get code s.place) next in
        let i : Instr = instr.Next t.0 in
        let outer_here : Outer code s.place = subst (Outer code) at outer in
        let near_by : length code ≤ s.place + 1 + d = omega (arith, at, near) in
        run_by tables code s i t.1
        (next_finishes here code Good t.0 n ns l ls shape s in_loop outside again fits
        (fine_there d behind i s.place shape t.1 there
        (outer_on tables code entries valid.rules s.place outer_here (not_five s.place t.0 t.1)) near_by))

    -- with any number of elements left
    turns_end : (d : ℕ) → From d → (l : LoopShape) (ls : List LoopShape) (ns : List ℕ) → Outer code (l.begun + 1)
        → length code ≤ l.begun + 1 + d + 1
        → LoopsEnd tables code shapes (entered tables code shapes owner below) ls ns → (n : ℕ)
        → TurnEnds tables code shapes (entered tables code shapes owner below) l ls n ns
    turns_end d behind l ls ns outer near outside zero =
        turn_ends_by d behind l ls ns outer near outside zero (λ m e. absurd (cc e))
    turns_end d behind l ls ns outer near outside (suc k) =
        turn_ends_by d behind l ls ns outer near outside (suc k)
        (λ m e.
        let same : k ≡ m = omega (arith, e) in (
          subst (λ (j : ℕ). TurnEnds tables code shapes (entered tables code shapes owner below) l ls j ns) same
              (turns_end d behind l ls ns outer near outside k),
          outside,
        ))

    -- a loop that begins here ends, with any number of elements
    begun : (d : ℕ) → From d → (shape : Shape) (turns : List ℕ) (s : State) → Outer code (s.place + 1)
        → length code ≤ s.place + 1 + d
        → here.Around shape.loops turns → Begins here code Good s.place shape.loops turns
    begun d behind shape turns s outer near around l is n =
        let place : l.begun + 1 ≡ s.place + 1 = ap (λ (m : ℕ). m + 1) is in
        let near_by : length code ≤ l.begun + 1 + d + 1 = omega (arith, near, place) in
        (turns_end d behind l shape.loops turns (subst (Outer code) (sym place) outer) near_by around n, around)

    -- a scope that may be called is declared
    declared : (n : ℕ) → IsCallOf code shapes owner (record { scope = n; function = None })
        → (scope : Scope) × (slice_get tables.decls.scopes n ≡ Some scope)
    declared n call =
        by call.instruction call.calls
        (fine_of call.place call.shape call.instruction call.shape_is call.instruction_is)
      where
        by : (i : Instr) → called_by owner i ≡ Some (record { scope = n; function = None })
            → IsFine tables code shapes i call.place call.shape
            → (scope : Scope) × (slice_get tables.decls.scopes n ≡ Some scope)
        by (instr.Scope m) calls fine =
            let same : m ≡ n =
            ap (λ (o : Owner). o.scope)
            (same_some (record { scope = m; function = None }) (record { scope = n; function = None }) calls) in
            let f : Fine (entered tables code shapes owner below) (λ s. Unit {0}) (instr.Scope m) call.place
            (flow tables code (instr.Scope m) call.place call.shape)
            = record { into = fine.to; is = fine.flows; good = met_all m fine.to fine.met } in
            let scope =
            fine_with (entered tables code shapes owner below) (λ s. Unit {0}) (instr.Scope m) call.place
            (slice_get tables.decls.scopes m)
            (λ (scope : Scope). leads (call.place + 1)
            (record call.shape {
              pending =
                  record { scope = m; passed = replicate (length scope.items) false } ∷ call.shape.pending;
            })) f in
            (scope.0, ap (slice_get tables.decls.scopes) (sym same) ∙ scope.1)
          where
            met_all : (m : ℕ) (to : List (ℕ × Shape)) → AllHave (λ next. IsMet shapes next.0 next.1) to
                → AllHave (GoesOn (entered tables code shapes owner below) (λ s. Unit {0}) (instr.Scope m) call.place)
                to
            met_all m [] met = tt
            met_all m (next ∷ to) met = ((met.0, λ is turns s at fits. tt), met_all m to met.1)
        by (instr.Call f k) calls fine =
            let same : Some f ≡ None =
            ap (λ (o : Owner). o.function)
            (same_some (record { scope = owner.scope; function = Some f })
            (record { scope = n; function = None }) calls) in
            absurd (cc same)
        by _ calls fine = absurd (cc calls)

    -- an instruction finishes, where none of five that end in a `content` stands here
    finished : (d : ℕ) → From d → (i : Instr) (turns : List ℕ) (shape : Shape) (s : State)
        → slice_get code s.place ≡ Some i
        → slice_get shapes s.place ≡ Some (Some shape) → Outer code s.place → Outer code (s.place + 1)
        → length code ≤ s.place + 1 + d
        → is_next (slice_get code s.place) ≡ false → Fits here turns shape s → Finishes Good (act tables i s)
    finished d behind (instr.Const k) turns shape s is there here_outer outer near straight fits =
        sound_const here code Good typed k turns shape s fits
        (fine_there d behind (instr.Const k) s.place shape is there outer near)
    finished d behind (instr.Slot k) turns shape s is there here_outer outer near straight fits =
        sound_slot here code Good k turns shape s fits
        (fine_there d behind (instr.Slot k) s.place shape is there outer near)
    finished d behind (instr.Local k) turns shape s is there here_outer outer near straight fits =
        sound_local here code Good k turns shape s fits
        (fine_there d behind (instr.Local k) s.place shape is there outer near)
    finished d behind (instr.Store k) turns shape s is there here_outer outer near straight fits =
        sound_store here code Good k turns shape s fits
        (fine_there d behind (instr.Store k) s.place shape is there outer near)
    finished d behind instr.Bind turns shape s is there here_outer outer near straight fits =
        sound_bind here code Good turns shape s fits (fine_there d behind instr.Bind s.place shape is there outer near)
    finished d behind (instr.Drop n) turns shape s is there here_outer outer near straight fits =
        sound_drop here code Good n turns shape s fits
        (fine_there d behind (instr.Drop n) s.place shape is there outer near)
    finished d behind (instr.Given k t) turns shape s is there here_outer outer near straight fits =
        sound_given here code Good k t turns shape s fits
        (fine_there d behind (instr.Given k t) s.place shape is there outer near)
    finished d behind (instr.Jump t) turns shape s is there here_outer outer near straight fits =
        sound_jump here code Good t turns shape s fits
        (fine_there d behind (instr.Jump t) s.place shape is there outer near)
    finished d behind (instr.JumpFalse t) turns shape s is there here_outer outer near straight fits =
        sound_jump_false here code Good t turns shape s fits
        (fine_there d behind (instr.JumpFalse t) s.place shape is there outer near)
    finished d behind (instr.Op n r q) turns shape s is there here_outer outer near straight fits =
        sound_op here code Good n r q turns shape s fits
        (fine_there d behind (instr.Op n r q) s.place shape is there outer near)
    finished d behind (instr.Pack n) turns shape s is there here_outer outer near straight fits =
        sound_pack here code Good n turns shape s fits
        (fine_there d behind (instr.Pack n) s.place shape is there outer near)
    finished d behind (instr.List n) turns shape s is there here_outer outer near straight fits =
        sound_list here code Good n turns shape s fits
        (fine_there d behind (instr.List n) s.place shape is there outer near)
    finished d behind (instr.Field k) turns shape s is there here_outer outer near straight fits =
        sound_field here code Good k turns shape s fits
        (fine_there d behind (instr.Field k) s.place shape is there outer near)
    finished d behind (instr.Tag c) turns shape s is there here_outer outer near straight fits =
        sound_tag here code Good c turns shape s fits
        (fine_there d behind (instr.Tag c) s.place shape is there outer near)
    finished d behind (instr.TagNone c) turns shape s is there here_outer outer near straight fits =
        sound_tag_none here code Good c turns shape s fits
        (fine_there d behind (instr.TagNone c) s.place shape is there outer near)
    finished d behind (instr.IsCase c) turns shape s is there here_outer outer near straight fits =
        sound_is_case here code Good c turns shape s fits
        (fine_there d behind (instr.IsCase c) s.place shape is there outer near)
    finished d behind instr.Length turns shape s is there here_outer outer near straight fits =
        sound_length here code Good turns shape s fits
        (fine_there d behind instr.Length s.place shape is there outer near)
    finished d behind instr.Collect turns shape s is there here_outer outer near straight fits =
        sound_collect here code Good turns shape s fits
        (fine_there d behind instr.Collect s.place shape is there outer near)
    finished d behind instr.Leave turns shape s is there here_outer outer near straight fits =
        sound_leave here code Good (λ l ls n ns around. around.1) turns shape s fits
        (fine_there d behind instr.Leave s.place shape is there outer near)
    finished d behind (instr.Pass k) turns shape s is there here_outer outer near straight fits =
        sound_pass here code Good k turns shape s fits
        (fine_there d behind (instr.Pass k) s.place shape is there outer near)
    finished d behind (instr.Begin v) turns shape s is there here_outer outer near straight fits =
        sound_begin here code Good v turns shape s fits
        (fine_there d behind (instr.Begin v) s.place shape is there outer near)
    finished d behind (instr.Hold k) turns shape s is there here_outer outer near straight fits =
        sound_hold here code Good k turns shape s fits
        (fine_there d behind (instr.Hold k) s.place shape is there outer near)
    finished d behind instr.Merge turns shape s is there here_outer outer near straight fits =
        sound_merge here code Good turns shape s fits
        (fine_there d behind instr.Merge s.place shape is there outer near)
    finished d behind (instr.Check v) turns shape s is there here_outer outer near straight fits =
        sound_check here code Good v turns shape s fits
        (fine_there d behind (instr.Check v) s.place shape is there outer near)
    finished d behind (instr.Held t) turns shape s is there here_outer outer near straight fits =
        sound_held here code Good t turns shape s fits
        (fine_there d behind (instr.Held t) s.place shape is there outer near)
    finished d behind (instr.Take t) turns shape s is there here_outer outer near straight fits =
        sound_take here code Good t turns shape s fits
        (fine_there d behind (instr.Take t) s.place shape is there outer near)
    finished d behind (instr.NoValue v) turns shape s is there here_outer outer near straight fits =
        sound_no_value here code Good v turns shape s fits
        (fine_there d behind (instr.NoValue v) s.place shape is there outer near)
    finished d behind (instr.Assert q) turns shape s is there here_outer outer near straight fits =
        sound_assert here code Good q turns shape s fits
        (fine_there d behind (instr.Assert q) s.place shape is there outer near)
    finished d behind instr.Content turns shape s is there here_outer outer near straight fits =
        absurd (here_outer s.place is (omega arith) (omega arith))
    finished d behind instr.Iter turns shape s is there here_outer outer near straight fits =
        sound_iter here code Good turns shape s (begun d behind shape turns s outer near fits.around) fits
        (fine_there d behind instr.Iter s.place shape is there outer near)
    finished d behind (instr.IterList k) turns shape s is there here_outer outer near straight fits =
        sound_iter_list here code Good k turns shape s (begun d behind shape turns s outer near fits.around) fits
        (fine_there d behind (instr.IterList k) s.place shape is there outer near)
    finished d behind (instr.Next t) turns shape s is there here_outer outer near straight fits =
        absurd (true≢false (sym (ap is_next is) ∙ straight))
    finished d behind (instr.Call f n) turns shape s is there here_outer outer near straight fits =
        call_finishes tables code shapes owner below calls_end f n turns shape s fits (λ place known. record {
          place = s.place;
          shape = shape;
          instruction = instr.Call f n;
          shape_is = there;
          owner_is = fits.owner;
          instruction_is = is;
          calls = refl;
        })
        (λ entry e. outer_entry tables code entries valid.rules (length tables.scopes + f) entry
        (function_among tables f entry e))
        (fine_there d behind (instr.Call f n) s.place shape is there outer near)
    finished d behind (instr.Scope n) turns shape s is there here_outer outer near straight fits =
        sound_scope here code Good n (λ scope known. record {
          place = s.place;
          shape = shape;
          instruction = instr.Scope n;
          shape_is = there;
          owner_is = fits.owner;
          instruction_is = is;
          calls = refl;
        }) turns shape s fits (fine_there d behind (instr.Scope n) s.place shape is there outer near)
    finished d behind instr.Enter turns shape s is there here_outer outer near straight fits =
        enter_finishes tables code shapes owner below calls_end turns shape s fits valid.shaped.entries
        (λ k entry e. outer_entry tables code entries valid.rules k entry (scope_among tables k entry e)) declared
        (fine_there d behind instr.Enter s.place shape is there outer near)
    finished d behind instr.Return turns shape s is there here_outer outer near straight fits =
        return_finishes tables code shapes owner below calls_end turns shape s fits back
        (fine_there d behind instr.Return s.place shape is there outer near)

    -- five instructions that end in a `content`, or one
    pub from : (d : ℕ) → From d
    from zero s near outer shape there turns fits =
        let i = instruction_at s.place shape there in
        absurd (omega (arith, within code s.place i.0 i.1))
    from (suc d) s near outer shape there turns fits =
        let i = instruction_at s.place shape there in
        five (is_content (slice_get code (s.place + 4))) refl i.0 i.1 (from d)
      where
        near_by : length code ≤ s.place + 1 + d
        near_by = omega arith

        one : (i : Instr) → slice_get code s.place ≡ Some i → is_content (slice_get code (s.place + 4)) ≡ false → From d
            → (b : Bool) → is_next (slice_get code s.place) ≡ b → Good s
        one i is plain behind true next = turn_ends turns shape s there next fits
        one i is plain behind false straight =
            run_by tables code s i is
            (finished d behind i turns shape s is there outer
            (outer_on tables code entries valid.rules s.place outer plain) near_by straight fits)

        five : (b : Bool) → is_content (slice_get code (s.place + 4)) ≡ b → (i : Instr)
            → slice_get code s.place ≡ Some i → From d → Good s
        five false plain i is behind = one i is plain behind (is_next (slice_get code s.place)) refl
        five true ends i is behind =
            let there_is = content_is (slice_get code (s.place + 4)) ends in
            let told = content_tests tables code entries valid.rules s.place there_is in
            let two : s.place + 2 ≡ s.place + 1 + 1 = omega arith in
            let three : s.place + 3 ≡ s.place + 1 + 1 + 1 = omega arith in
            let four : s.place + 4 ≡ s.place + 1 + 1 + 1 + 1 = omega arith in
            let back_three : s.place + 1 + 1 + 1 + 1 - 3 ≡ s.place + 1 = omega arith in
            let jump : Instr = instr.JumpFalse told.other in
            five_end tables code shapes owner below fine_of turns shape s told.local told.asked told.other fits there
            told.first told.second
            (ap (slice_get code) (sym two) ∙ told.third) (ap (slice_get code) (sym three) ∙ told.fourth)
            (ap (slice_get code) (sym four) ∙ there_is)
            (ap (slice_get code) back_three ∙ told.second)
            (away told.other told.third behind) (on behind there_is)
          where
            away : (t : ℕ) → slice_get code (s.place + 2) ≡ Some (instr.JumpFalse t) → From d
                → EndsAt tables code shapes owner below fine_of t
            away t is behind turns r left at met fits =
                let less : nat_lt (s.place + 2) t ≡ true =
                or_false (nat_lt (s.place + 2) t) (forward_of (s.place + 2) (instr.JumpFalse t) is) in
                let l = ltb-true (s.place + 2) t less in
                let far : length code ≤ t + d = omega arith in
                behind r (subst (λ (n : ℕ). length code ≤ n + d) (sym at) far)
                (subst (Outer code) (sym at)
                (outer_jump tables code entries valid.rules (s.place + 2) (instr.JumpFalse t) t is refl)) met.shape
                (ap (slice_get shapes) at ∙ met.is) turns (meets_fits here turns left met.shape r met.meets fits)
              where
                or_false : (b : Bool) → (b || false) ≡ true → b ≡ true
                or_false true e = refl
                or_false false e = e

            on : From d → slice_get code (s.place + 4) ≡ Some instr.Content
                → EndsAt tables code shapes owner below fine_of (s.place + 1 + 1 + 1 + 1 + 1)
            on behind there_is turns r left at met fits =
                let five : s.place + 5 ≡ r.place = omega (arith, at) in
                let far : length code ≤ r.place + d = omega (arith, at) in
                behind r far (subst (Outer code) five (outer_behind tables code entries valid.rules s.place there_is))
                met.shape
                (ap (slice_get shapes) at ∙ met.is) turns (meets_fits here turns left met.shape r met.meets fits)
