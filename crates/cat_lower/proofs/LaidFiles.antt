-- Laid code has the files and the targets of its parts.
use Rattle.std.proofs.Common.{ℕ, zero, suc, ◌+◌, Bool, true, false, List, [], ◌∷◌, length}
use Rattle.cat_pos.specs.declared.pos.Pos.{Pos}
use Rattle.cat_pos.specs.Position.{pos_file}
use Rattle.cat_value.specs.declared.ty.Ty.TheVariants as ty
use Rattle.cat_value.specs.declared.value.Value.TheVariants as flat
use Rattle.cat_value.specs.declared.declaration.ItemDecl.{ItemDecl}
use Rattle.cat_value.specs.Inputs.{must_be_given}
use Rattle.cat_scope.specs.Names.{AllHave, is_in}
use Rattle.cat_scope.proofs.Exported.{all_append}
use Rattle.cat_code.specs.declared.instr.Instr.{Instr}
use Rattle.cat_code.specs.declared.instr.Instr.TheVariants as instr
use Rattle.cat_code.specs.declared.code.Constant.{Constant}
use Rattle.cat_code.specs.declared.code.TargetEntry.{TargetEntry}
use Rattle.cat_lower.specs.Laying.{Parts, Ends, Coded, joined, nothing, one, with_constant, with_position, entry}
use Rattle.cat_lower.specs.Laying.{then_code, led, all_code, after, skip, end_of, over, branch, loop, targeted}
use Rattle.cat_lower.specs.Pieces.{truth, operator, bind_all, picked, packed_by, packed, arm_body}
use Rattle.cat_lower.specs.Pieces.{search_for, found, any_turn, all_turn, of_local, pass_all, absent_code, pass_absent}
use Rattle.cat_lower.specs.Pieces.{are_counted}
use Rattle.std.specs.Prelude.{◌&&◌, not}

module _ (Q : ℕ → Type 0) (T : TargetEntry → Type 0) where
  -- the positions of some parts stand in such files, and their targets are such ones
  pub record Fit (parts : Parts) : Type 0 where
    pub positions : AllHave (λ p. Q (pos_file p)) parts.positions
    pub targets : AllHave T parts.targets

  -- those of code, whatever stands in front of it
  abbrev pub Fits : Coded → Type 0
  Fits a = (ends : Ends) → Fit (a ends)

  pub fit_joined : (a b : Parts) → Fit a → Fit b → Fit (joined a b)
  fit_joined a b f g = record {
    positions = all_append (λ p. Q (pos_file p)) a.positions b.positions f.positions g.positions;
    targets = all_append T a.targets b.targets f.targets g.targets;
  }

  pub fits_nothing : Fits nothing
  fits_nothing ends = record { positions = tt; targets = tt }

  pub fits_one : (i : Instr) → Fits (one i)
  fits_one i ends = record { positions = tt; targets = tt }

  pub fits_constant : (i : ℕ → Instr) (c : Constant) → Fits (with_constant i c)
  fits_constant i c ends = record { positions = tt; targets = tt }

  pub fits_position : (i : ℕ → Instr) (p : Pos) → Q (pos_file p) → Fits (with_position i p)
  fits_position i p has ends = record { positions = (has, tt); targets = tt }

  fits_entry : (t : TargetEntry) → T t → Fits (entry t)
  fits_entry t has ends = record { positions = tt; targets = (has, tt) }

  pub fits_then : (a b : Coded) → Fits a → Fits b → Fits (then_code a b)
  fits_then a b f g ends = fit_joined (a ends) (b (after ends (a ends))) (f ends) (g (after ends (a ends)))

  pub fits_led : (i : Instr) (a : Coded) → Fits a → Fits (led i a)
  fits_led i a f = fits_then (one i) a (fits_one i) f

  pub fits_all : (cs : List Coded) → AllHave Fits cs → Fits (all_code cs)
  fits_all [] h = fits_nothing
  fits_all (a ∷ cs) h = fits_then a (all_code cs) h.0 (fits_all cs h.1)

  pub fits_over : (jump : ℕ → Instr) (a : Coded) → Fits a → Fits (over jump a)
  fits_over jump a f ends = fits_led (jump (end_of a (skip ends)).place) a f ends

  pub fits_branch : (jump : ℕ → Instr) (a b : Coded) → Fits a → Fits b → Fits (branch jump a b)
  fits_branch jump a b f g ends =
      fits_led (jump (skip (end_of a (skip ends))).place) (then_code a (over (λ t. instr.Jump t) b))
      (fits_then a (over (λ t. instr.Jump t) b) f (fits_over (λ t. instr.Jump t) b g)) ends

  pub fits_loop : (body : Coded) → Fits body → Fits (loop body)
  fits_loop body f ends =
      fits_led (instr.Next (skip (end_of body (skip ends))).place) (then_code body (one (instr.Jump ends.place)))
      (fits_then body (one (instr.Jump ends.place)) f (fits_one (instr.Jump ends.place))) ends

  pub fits_targeted : (t : TargetEntry) (a : ℕ → Coded) → T t → ((v : ℕ) → Fits (a v))
      → Fits (targeted t a)
  fits_targeted t a has f ends = fits_then (entry t) (a ends.targets) (fits_entry t has) (f ends.targets) ends

  -- ---- pieces

  pub fits_truth : (b : Bool) → Fits (truth b)
  fits_truth b = fits_constant (λ k. instr.Const k) (record { ty = ty.Boolean; value = flat.Boolean b })

  pub fits_operator : (n r : ℕ) (p : Pos) → Q (pos_file p) → Fits (operator n r p)
  fits_operator n r p has = fits_position (λ at. instr.Op n r at) p has

  fits_bind : (n : ℕ) → Fits (bind_all n)
  fits_bind zero = fits_nothing
  fits_bind (suc n) = fits_led instr.Bind (bind_all n) (fits_bind n)

  fits_picked : (i : ℕ) (numbers : List ℕ) (k n : ℕ) → Fits (picked i numbers k n)
  fits_picked i numbers k zero = fits_nothing
  fits_picked i numbers k (suc n) = fits_led _ (picked i numbers (k + 1) n) (fits_picked i numbers (k + 1) n)

  fits_packed_by : (b : Bool) (i : ℕ) (numbers : List ℕ) → Fits (packed_by b i numbers)
  fits_packed_by true i numbers = fits_one (instr.Pack (length numbers))
  fits_packed_by false i numbers =
      fits_then _ _ (fits_bind (length numbers))
      (fits_then _ _ (fits_picked i numbers 0 (length numbers))
      (fits_led _ _ (fits_one (instr.Pack (length numbers)))))

  pub fits_packed : (i : ℕ) (numbers : List ℕ) → Fits (packed i numbers)
  fits_packed i numbers = fits_packed_by (are_counted 0 numbers) i numbers

  pub fits_arm : (i : ℕ) (b : Bool) (body : Coded) → Fits body → Fits (arm_body i b body)
  fits_arm i false body f = fits_led (instr.Drop 1) body f
  fits_arm i true body f =
      fits_led _ _ (fits_led _ _ (fits_led _ _ (fits_led _ _ (fits_then body _ f (fits_one (instr.Drop 1))))))

  pub fits_search : (turn : ℕ → ℕ → Coded) (b : Bool) → ((start out : ℕ) → Fits (turn start out))
      → Fits (search_for turn b)
  fits_search turn b f ends =
      fits_led _ (then_code (turn ends.place ((end_of (turn 0 0) (skip ends)).place + 1)) (truth b))
      (fits_then _ (truth b) (f ends.place ((end_of (turn 0 0) (skip ends)).place + 1)) (fits_truth b)) ends

  fits_found : (b : Bool) (out : ℕ) → Fits (found b out)
  fits_found b out = fits_led instr.Leave _ (fits_then (truth b) _ (fits_truth b) (fits_one (instr.Jump out)))

  pub fits_any_turn : (test : Coded) → Fits test → (start out : ℕ) → Fits (any_turn test start out)
  fits_any_turn test f start out =
      fits_then test _ f
      (fits_then _ _ (fits_over (λ t. instr.JumpFalse t) (found true out) (fits_found true out))
      (fits_one (instr.Jump start)))

  pub fits_all_turn : (test : Coded) → Fits test → (start out : ℕ) → Fits (all_turn test start out)
  fits_all_turn test f start out =
      fits_then test _ f
      (fits_then _ _ (fits_over (λ t. instr.JumpFalse t) (one (instr.Jump start)) (fits_one (instr.Jump start)))
      (fits_found false out))

  pub fits_of_local : (test : Coded) → Fits test → Fits (of_local test)
  fits_of_local test f = fits_led instr.Bind _ (fits_then test _ f (fits_one (instr.Drop 1)))

  pub fits_pass_all : (fs : List (ℕ × Coded)) → AllHave (λ (f : ℕ × Coded). Fits f.1) fs → Fits (pass_all fs)
  fits_pass_all [] h = fits_nothing
  fits_pass_all (f ∷ fs) h =
      fits_then f.1 _ h.0 (fits_led (instr.Pass f.0) (pass_all fs) (fits_pass_all fs h.1))

  fits_absent : (b : Bool) (n : ℕ) → Fits (absent_code b n)
  fits_absent true n = fits_then (truth false) _ (fits_truth false) (fits_one (instr.Pass n))
  fits_absent false n = fits_nothing

  pub fits_pass_absent : (n : ℕ) (given : List ℕ) (items : List ItemDecl) → Fits (pass_absent n given items)
  fits_pass_absent n given [] = fits_nothing
  fits_pass_absent n given (item ∷ items) =
      fits_then _ _ (fits_absent (must_be_given item.kind && item.condition && not (is_in n given)) n)
      (fits_pass_absent (n + 1) given items)
