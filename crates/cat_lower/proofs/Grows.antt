-- Parts that are laid one behind the other.
use Rattle.std.proofs.Common.{◌≡◌, ℕ, List, [], ◌∷◌, ◌++◌, length, Option, Result, Ok, Err, OnOk, refl, sym, ap}
use Rattle.std.proofs.Common.{◌∙◌, subst, append_assoc, length-append}
use Rattle.std.specs.Prelude.{slice_set}
use Rattle.std.proofs.Math.Seq.{set-append_seam}
use Rattle.std.specs.declared.alloc.AllocError.{AllocError}
use Rattle.cat_code.specs.declared.instr.Instr.{Instr}
use Rattle.cat_lower.specs.declared.growing.Growing.{Growing}
use Rattle.cat_lower.specs.Laying.{Ends, Parts, Coded, past, nothing, then_code, led, skip, end_of}
use Rattle.cat_value.specs.declared.ty.Ty.{Ty}
use Rattle.cat_scope.specs.declared.expr.Expr.{Expr}
use Rattle.cat_lower.specs.Grown.{ends_of, Grown, Patched}
use Rattle.cat_lower.specs.Rows.{Standing}
use Rattle.cat_lower.specs.Expressions.{lowered}
use Rattle.cat_lower.proofs.Places.{past_length}

pub count : {A : Type 0} (old new more : List A) → new ≡ old ++ more → length new ≡ past (length old) more
count old new more e = ap length e ∙ length-append old more ∙ sym (past_length (length old) more)

pub ends_alike : (a b : Ends) → a.place ≡ b.place → a.constants ≡ b.constants → a.positions ≡ b.positions
    → a.targets ≡ b.targets → a ≡ b
ends_alike a b p c q t =
    let first : Ends = record a { place = b.place } in
    let second : Ends = record first { constants = b.constants } in
    let third : Ends = record second { positions = b.positions } in
    let e1 : a ≡ first = ap (λ n. record a { place = n }) p in
    let e2 : first ≡ second = ap (λ n. record first { constants = n }) c in
    let e3 : second ≡ third = ap (λ n. record second { positions = n }) q in
    let e4 : third ≡ b = ap (λ n. record third { targets = n }) t in
    e1 ∙ e2 ∙ e3 ∙ e4

-- what stands in the tables then
pub ends_are : (old new : Growing) (a : Coded) → Grown old new a → ends_of new ≡ end_of a (ends_of old)
ends_are old new a g =
    ends_alike (ends_of new) (end_of a (ends_of old)) (count old.instructions new.instructions _ g.instructions)
    (count old.constants new.constants _ g.constants) (count old.positions new.positions _ g.positions)
    (count old.targets new.targets _ g.targets)

joins : {A : Type 0} (old mid new xs ys : List A) → mid ≡ old ++ xs → new ≡ mid ++ ys → new ≡ old ++ (xs ++ ys)
joins old mid new xs ys e f = f ∙ ap (λ l. l ++ ys) e ∙ append_assoc old xs ys

-- what parts add to tables
record AddTo (mid new : Growing) (p : Parts) : Type 0 where
  instructions : new.instructions ≡ mid.instructions ++ p.instructions
  constants : new.constants ≡ mid.constants ++ p.constants
  positions : new.positions ≡ mid.positions ++ p.positions
  targets : new.targets ≡ mid.targets ++ p.targets

pub grown_then : (old mid new : Growing) (a b : Coded) → Grown old mid a → Grown mid new b
    → Grown old new (then_code a b)
grown_then old mid new a b g h =
    let k = subst (λ e. AddTo mid new (b e)) (ends_are old mid a g)
    (record { instructions = h.instructions; constants = h.constants; positions = h.positions; targets = h.targets }) in
    record {
      instructions = joins old.instructions mid.instructions new.instructions _ _ g.instructions k.instructions;
      constants = joins old.constants mid.constants new.constants _ _ g.constants k.constants;
      positions = joins old.positions mid.positions new.positions _ _ g.positions k.positions;
      targets = joins old.targets mid.targets new.targets _ _ g.targets k.targets;
    }

pub then_ok : {A : Type 0} (r : Result A AllocError) (old mid new : Growing) (a b : Coded) → Grown old mid a
    → OnOk r (Grown mid new b)
    → OnOk r (Grown old new (then_code a b))
then_ok (Ok u) old mid new a b g h = grown_then old mid new a b g h
then_ok (Err e) old mid new a b g h = tt

pub none_more : {A : Type 0} (xs : List A) → xs ≡ xs ++ []
none_more [] = refl
none_more (x ∷ xs) = ap (λ l. x ∷ l) (none_more xs)

pub grown_none : (t : Growing) → Grown t t nothing
grown_none t = record {
  instructions = none_more t.instructions;
  constants = none_more t.constants;
  positions = none_more t.positions;
  targets = none_more t.targets;
}

-- another instruction in front of what was laid
pub patched : (old full new : Growing) (x i : Instr) (a : Coded) (at : ℕ) → Grown old full (led x a)
    → at ≡ length old.instructions
    → Patched full new at i → Grown old new (led i a)
patched old full new x i a at g is p = record {
  instructions =
      p.instructions ∙ ap (λ n. slice_set full.instructions n i) is
      ∙ ap (λ l. slice_set l (length old.instructions) i) g.instructions
      ∙ set-append_seam old.instructions x (a (skip (ends_of old))).instructions i;
  constants = p.constants ∙ g.constants;
  positions = p.positions ∙ g.positions;
  targets = p.targets ∙ g.targets;
}

-- the place behind what was laid
pub place_behind : (old new : Growing) (a : Coded) → Grown old new a
    → length new.instructions ≡ (end_of a (ends_of old)).place
place_behind old new a g = count old.instructions new.instructions _ g.instructions

-- code that is the same behind what stands there
pub grown_at : (old new : Growing) (a b : Coded) → a (ends_of old) ≡ b (ends_of old) → Grown old new a → Grown old new b
grown_at old new a b e g = record {
  instructions = g.instructions ∙ ap (λ (p : Parts). old.instructions ++ p.instructions) e;
  constants = g.constants ∙ ap (λ (p : Parts). old.constants ++ p.constants) e;
  positions = g.positions ∙ ap (λ (p : Parts). old.positions ++ p.positions) e;
  targets = g.targets ∙ ap (λ (p : Parts). old.targets ++ p.targets) e;
}

-- the same code by another instruction
pub led_by : (old new : Growing) (i j : Instr) (a : Coded) → i ≡ j → Grown old new (led i a) → Grown old new (led j a)
led_by old new i j a e g = subst (λ x. Grown old new (led x a)) e g

-- the same types of local names, and the same expected type
pub told_code : (old new : Growing) (here : Standing) (e : Expr) (later first : List Ty) (x y : Option Ty)
    → later ≡ first → x ≡ y
    → Grown old new ((lowered here e).code later x) → Grown old new ((lowered here e).code first y)
told_code old new here e later first x y is_locals is_type g =
    subst (λ (z : Option Ty). Grown old new ((lowered here e).code first z)) is_type
    (subst (λ (ls : List Ty). Grown old new ((lowered here e).code ls x)) is_locals g)

pub kept_code : (old new : Growing) (here : Standing) (e : Expr) (x : Option Ty) (later first : List Ty) → later ≡ first
    → Grown old new ((lowered here e).code later x) → Grown old new ((lowered here e).code first x)
kept_code old new here e x later first is g = subst (λ (ls : List Ty). Grown old new ((lowered here e).code ls x)) is g

-- what holds anyway
pub told_ok : {P : Type 0} (r : Result Unit AllocError) → P → OnOk r P
told_ok (Ok u) p = p
told_ok (Err e) p = tt

-- the same code
pub same_code : (old new : Growing) (a b : Coded) → a ≡ b → Grown old new a → Grown old new b
same_code old new a b is g = subst (λ (c : Coded). Grown old new c) is g

pub same_ok : (r : Result Unit AllocError) (old new : Growing) (a b : Coded) → a ≡ b → OnOk r (Grown old new a)
    → OnOk r (Grown old new b)
same_ok r old new a b is g = subst (λ (c : Coded). OnOk r (Grown old new c)) is g

-- the same expression
pub at_whole : (r : Result Unit AllocError) (old new : Growing) (here : Standing) (whole e : Expr) (ls : List Ty)
    (x : Option Ty)
    → whole ≡ e → OnOk r (Grown old new ((lowered here e).code ls x))
    → OnOk r (Grown old new ((lowered here whole).code ls x))
at_whole r old new here whole e ls x is g =
    subst (λ (w : Expr). OnOk r (Grown old new ((lowered here w).code ls x))) (sym is) g
