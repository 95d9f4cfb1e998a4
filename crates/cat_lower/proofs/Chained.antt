-- Arms that are laid one behind the other, with jumps behind each that are patched when all are there.
use Rattle.std.proofs.Common.{◌≡◌, ◌<◌, ℕ, ◌+◌, Bool, List, [], ◌∷◌, ◌++◌, length, map}
use Rattle.std.proofs.Common.{Option, Some, All, refl, sym, ap, ◌∙◌, subst, arith}
use Rattle.std.proofs.lemmas.List.{length-set}
use Rattle.std.proofs.lemmas.List.Elements.{All-push, All-pop, All-weaker}
use Rattle.cat_value.specs.declared.ty.Ty.{Ty}
use Rattle.cat_scope.specs.declared.expr.ArmPattern.{ArmPattern}
use Rattle.cat_scope.specs.declared.expr.ArmPattern.TheVariants as pattern
use Rattle.cat_scope.specs.declared.expr.Arm.{Arm}
use Rattle.cat_code.specs.declared.instr.Instr.{Instr}
use Rattle.cat_code.specs.declared.instr.Instr.TheVariants as instr
use Rattle.cat_lower.specs.declared.growing.Growing.{Growing}
use Rattle.cat_lower.specs.Laying.{Ends, Parts, Coded, joined, one, then_code, led, skip, end_of, branch}
use Rattle.cat_lower.specs.Grown.{ends_of, Grown, Patched, patched_at, all_patched}
use Rattle.cat_lower.specs.Pieces.{arm_body, first_side}
use Rattle.cat_lower.specs.Types.{Lowering, arm_types, is_bound}
use Rattle.cat_lower.specs.Rows.{Standing, case_number, arm_code, arms_code}
use Rattle.cat_lower.specs.Expressions.{lowered}
use Rattle.cat_lower.proofs.Places.{past_length}
use Rattle.cat_lower.proofs.Regrouped.{regrouped, after_joined}
use Rattle.cat_lower.proofs.Grows.{grown_then, grown_at, place_behind, ends_are}
use Rattle.cat_lower.proofs.Patches.{patched_within, patched_inside}

-- the last of several places is patched first
pub patched_last : (places : List ℕ) (at : ℕ) (i : Instr) (tables : Growing)
    → all_patched (places ++ at ∷ []) i tables ≡ all_patched places i (patched_at at i tables)
patched_last [] at i tables = refl
patched_last (p ∷ places) at i tables = ap (λ (t : Growing). patched_at p i t) (patched_last places at i tables)

-- the last of several places is inside, and the others stay so where it is patched
pub last_inside : (old : Growing) (places rest : List ℕ) (at : ℕ) → places ≡ rest ++ at ∷ []
    → All (λ at. at < length old.instructions) places → at < length old.instructions
last_inside old places rest at is h = (All-pop (λ (at : ℕ). at < length old.instructions) places rest (Some at) is h).1

pub others_inside : (old new : Growing) (i : Instr) (places rest : List ℕ) (at : ℕ) → places ≡ rest ++ at ∷ []
    → Patched old new at i
    → All (λ at. at < length old.instructions) places → All (λ at. at < length new.instructions) rest
others_inside old new i places rest at is p h =
    All-weaker (λ (at : ℕ). at < length old.instructions) (λ (at : ℕ). at < length new.instructions)
    (λ n less. patched_inside old new n at i p less) rest
    (All-pop (λ (at : ℕ). at < length old.instructions) places rest (Some at) is h).0

patched_is : (old new : Growing) (at : ℕ) (i : Instr) → Patched old new at i → new ≡ patched_at at i old
patched_is old new at i p =
    let first : Growing = patched_at at i old in
    let second : Growing = record new { instructions = first.instructions } in
    let third : Growing = record second { constants = first.constants } in
    let fourth : Growing = record third { positions = first.positions } in
    let e1 : new ≡ second = ap (λ l. record new { instructions = l }) p.instructions in
    let e2 : second ≡ third = ap (λ l. record second { constants = l }) p.constants in
    let e3 : third ≡ fourth = ap (λ l. record third { positions = l }) p.positions in
    let e4 : fourth ≡ first = ap (λ l. record fourth { targets = l }) p.targets in
    e1 ∙ e2 ∙ e3 ∙ e4

-- the others are patched behind the last one
pub others_patched : (old new : Growing) (i : Instr) (places rest : List ℕ) (at : ℕ) → places ≡ rest ++ at ∷ []
    → Patched old new at i
    → all_patched rest i new ≡ all_patched places i old
others_patched old new i places rest at is p =
    ap (λ (t : Growing). all_patched rest i t) (patched_is old new at i p) ∙ sym (patched_last rest at i old)
    ∙ ap (λ (ps : List ℕ). all_patched ps i old) (sym is)

-- what stands behind the first side
behind_side : (body : Coded) (ends : Ends)
    → end_of (first_side body) ends ≡ skip (end_of body (skip ends))
behind_side body ends = after_joined (skip ends) (body (skip ends)) (one (instr.Jump 0) (end_of body (skip ends)))

module _ (i number : ℕ) where
  -- up to the jump behind an arm
  abbrev front : Coded → Coded
  front body =
      led (instr.Local i) (led (instr.IsCase number)
      (λ e. led (instr.JumpFalse (skip (end_of body (skip e))).place) body e))

  -- an arm that is laid
  abbrev pub side : Coded → Coded
  side body = led (instr.Local i) (led (instr.IsCase number) (first_side body))

  -- an arm with what is behind it
  abbrev pub whole_arm : Coded → Coded → Coded
  whole_arm body rest = led (instr.Local i) (led (instr.IsCase number) (branch (λ t. instr.JumpFalse t) body rest))

  -- the arm with what is behind it is there, once the jump is patched
  pub arm_closed : (g1 g2 new : Growing) (body rest : Coded) (at : ℕ) → Grown g1 g2 (side body)
      → at + 1 ≡ length g2.instructions
      → Grown g2 new rest
      → Grown g1 (patched_at at (instr.Jump (length new.instructions)) new) (whole_arm body rest)
  arm_closed g1 g2 new body rest at g is h =
      let ends = ends_of g1 in
      let inner = skip (skip (skip ends)) in
      let jump : Coded = one (instr.Jump 0) in
      let number_of = (skip (end_of body inner)).place in
      let laid = grown_then g1 g2 new (side body) rest g h in
      let group : then_code (side body) rest ends ≡ then_code (front body) (led (instr.Jump 0) rest) ends =
      ap (λ (p : Parts). joined (one (instr.Local i) ends) (joined (one (instr.IsCase number) (skip ends))
      (joined (one (instr.JumpFalse number_of) (skip (skip ends))) p))) (regrouped body jump rest inner) in
      let grouped =
      grown_at g1 new (then_code (side body) rest) (then_code (front body) (led (instr.Jump 0) rest)) group laid in
      let behind : ends_of g2 ≡ skip (end_of body inner) =
      ends_are g1 g2 (side body) g ∙ behind_side body (skip (skip ends)) in
      let place : at ≡ (end_of body inner).place =
      let e : at + 1 ≡ (end_of body inner).place + 1 = is ∙ ap (λ (e : Ends). e.place) behind in omega (arith, e) in
      let end_is : length new.instructions ≡ (end_of rest (skip (end_of body inner))).place =
      place_behind g2 new rest h ∙ ap (λ (e : Ends). (end_of rest e).place) behind in
      let jumped =
      patched_within g1 new (patched_at at (instr.Jump (length new.instructions)) new) (front body) (instr.Jump 0)
      (instr.Jump (length new.instructions)) rest at grouped place
      (record { instructions = refl; constants = refl; positions = refl; targets = refl }) in
      grown_at g1 (patched_at at (instr.Jump (length new.instructions)) new)
      (then_code (front body) (led (instr.Jump (length new.instructions)) rest))
      (whole_arm body rest) (ap (λ (n : ℕ). then_code (front body) (led (instr.Jump n) rest) ends) end_is) jumped

-- an arm, by its pattern
abbrev pub arms_of : Standing → List Arm → List (ArmPattern × Lowering)
arms_of here arms = map (λ a. (a.pattern, lowered here a.body)) arms

pub anything_first : (here : Standing) (n : ℕ) (t : Ty) (a : Arm) (arms : List Arm) (ls : List Ty) (x : Option Ty)
    → a.pattern ≡ pattern.Anything
    → arms_code here n t (arms_of here (a ∷ arms)) ls x ≡ led (instr.Drop 1) ((lowered here a.body).code ls x)
anything_first here n t a arms ls x is =
    ap (λ (p : ArmPattern). arm_code here n (length ls) p
    ((lowered here a.body).code (arm_types here.names.decls n p ls) x)
    (arms_code here n t (arms_of here arms) ls (Some t))) is

pub case_first : (here : Standing) (n k : ℕ) (b : Bool) (t : Ty) (a : Arm) (arms : List Arm) (ls : List Ty)
    (x : Option Ty)
    → a.pattern ≡ pattern.Case k b
    → arms_code here n t (arms_of here (a ∷ arms)) ls x
    ≡ whole_arm (length ls) (case_number here n k)
    (arm_body (length ls) (is_bound a.pattern)
    ((lowered here a.body).code (arm_types here.names.decls n a.pattern ls) x))
    (arms_code here n t (arms_of here arms) ls (Some t))
case_first here n k b t a arms ls x is =
    ap (λ (p : ArmPattern). arm_code here n (length ls) p
    ((lowered here a.body).code (arm_types here.names.decls n p ls) x)
    (arms_code here n t (arms_of here arms) ls (Some t))) is
    ∙ sym (ap (λ (p : ArmPattern). whole_arm (length ls) (case_number here n k)
    (arm_body (length ls) (is_bound p) ((lowered here a.body).code (arm_types here.names.decls n p ls) x))
    (arms_code here n t (arms_of here arms) ls (Some t))) is)

-- an arm more is there, and those behind it are left
pub arm_next : (g0 g1 g2 new : Growing) (places later : List ℕ) (at i number : ℕ) (body rest before whole : Coded)
    → later ≡ places ++ at ∷ [] → before ≡ whole_arm i number body rest
    → ((t : Growing) → Grown g1 t before → Grown g0 (all_patched places (instr.Jump (length t.instructions)) t) whole)
    → Grown g1 g2 (side i number body) → at + 1 ≡ length g2.instructions → Grown g2 new rest
    → Grown g0 (all_patched later (instr.Jump (length new.instructions)) new) whole
arm_next g0 g1 g2 new places later at i number body rest before whole pushed is so_far g place h =
    let end = length new.instructions in
    let there = patched_at at (instr.Jump end) new in
    let told =
    so_far there (subst (λ (c : Coded). Grown g1 there c) (sym is)
    (arm_closed i number g1 g2 new body rest at g place h)) in
    let long : length there.instructions ≡ end = length-set new.instructions at (instr.Jump end) in
    subst (λ (t : Growing). Grown g0 t whole)
    (sym (ap (λ (ps : List ℕ). all_patched ps (instr.Jump end) new) pushed
    ∙ patched_last places at (instr.Jump end) new))
    (subst (λ (n : ℕ). Grown g0 (all_patched places (instr.Jump n) there) whole) long told)

-- the last arm is there
pub arm_last : (g0 g1 new : Growing) (places : List ℕ) (before last whole : Coded) → before ≡ last
    → ((t : Growing) → Grown g1 t before → Grown g0 (all_patched places (instr.Jump (length t.instructions)) t) whole)
    → Grown g1 new last → Grown g0 (all_patched places (instr.Jump (length new.instructions)) new) whole
arm_last g0 g1 new places before last whole is so_far g = so_far new (subst (λ (c : Coded). Grown g1 new c) (sym is) g)

-- where code grows, no place gets out of it
pub still_within : (old new : Growing) (a : Coded) (places : List ℕ) → Grown old new a
    → All (λ at. at < length old.instructions) places → All (λ at. at < length new.instructions) places
still_within old new a places g h =
    let long : length new.instructions ≡ length old.instructions + length (a (ends_of old)).instructions =
    place_behind old new a g ∙ past_length (length old.instructions) (a (ends_of old)).instructions in
    All-weaker (λ (at : ℕ). at < length old.instructions) (λ (at : ℕ). at < length new.instructions)
    (λ at less. omega (arith, long, less)) places h

pub one_within : (new : Growing) (places later : List ℕ) (at : ℕ) → later ≡ places ++ at ∷ []
    → All (λ at. at < length new.instructions) places
    → at + 1 ≡ length new.instructions → All (λ at. at < length new.instructions) later
one_within new places later at pushed h is =
    subst (λ (ps : List ℕ). All (λ at. at < length new.instructions) ps) (sym pushed)
    (All-push (λ (at : ℕ). at < length new.instructions) places at h (omega (arith, is)))
