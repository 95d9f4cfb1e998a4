-- The places of the forms of expression that have few parts: each pushes a value of its type.
use Rattle.std.proofs.Common.{◌≡◌, ◌≤◌, ◌<◌, ℕ, ◌+◌, nat_lt, Bool, true, List, [], ◌∷◌, length}
use Rattle.std.proofs.Common.{Some, None, slice_get, refl, ap, ◌∙◌, arith}
use Rattle.std.proofs.lemmas.Bool.{eq-eqb}
use Rattle.std.proofs.lemmas.Bool.Decides.{nat_tests}
use Rattle.std.proofs.lemmas.Option.{slice_get_within}
use Rattle.cat_date.specs.declared.rounding.Rounding.{Rounding}
use Rattle.cat_pos.specs.declared.pos.Pos.{Pos}
use Rattle.cat_value.specs.declared.ty.Ty.{Ty}
use Rattle.cat_value.specs.declared.ty.Ty.TheVariants as flat
use Rattle.cat_value.specs.declared.value.Value.{Value}
use Rattle.cat_value.specs.declared.value.Value.TheVariants as value_flat
use Rattle.cat_value.specs.declared.ty.Ty.TheViews as ty
use Rattle.cat_value.specs.Declarations.{is_boolean}
use Rattle.cat_value.specs.Entries.{content_of}
use Rattle.cat_value.proofs.Exported.{has_type_Boolean}
use Rattle.cat_scope.specs.declared.operators.UnaryOp.{UnaryOp}
use Rattle.cat_scope.specs.declared.operators.BinaryOp.{BinaryOp}
use Rattle.cat_scope.specs.Names.{AllHave, IsOneOf}
use Rattle.cat_scope.specs.Signatures.{Signature, signatures_of, taken_by, given_by}
use Rattle.cat_code.specs.declared.instr.Instr.{Instr}
use Rattle.cat_code.specs.declared.instr.Instr.TheVariants as instr
use Rattle.cat_code.specs.declared.code.Constant.{Constant}
use Rattle.cat_code.specs.declared.code.Tables.{Tables}
use Rattle.cat_code.specs.Operations.{Operation, Before, Between, operation, roundings}
use Rattle.cat_code.specs.OperationNumbers.{number_before, number_between, rounding_number}
use Rattle.cat_code.specs.Forms.{Form, Forms, Truth, Whole, Many, Fields, OneOf, form_at, form_of, slot_form}
use Rattle.cat_code.specs.Shapes.{Owner, FrameShape, LoopShape, PendingShape, Shape}
use Rattle.cat_code.specs.Leads.{leads, operated}
use Rattle.cat_code.specs.Told.{constant_form}
use Rattle.cat_code.specs.Flow.{flow}
use Rattle.cat_code.specs.Wanted.{is_so, signed}
use Rattle.cat_code.proofs.OperationLaws.{operation-number_before, operation-number_between, roundings-rounding_number}
use Rattle.cat_code.proofs.FormLaws.{form_Boolean, same_self}
use Rattle.cat_lower.specs.Laying.{Coded, one, then_code, branch}
use Rattle.cat_lower.specs.Pieces.{constant, truth, operator}
use Rattle.cat_lower.proofs.Spots.{Spots, Keeps, IsConstant}
use Rattle.cat_lower.proofs.Sketches.{Takes, takes_one, takes_constant, takes_position, takes_then, takes_branch}
use Rattle.cat_lower.proofs.Sketches.{is_jump_false}
use Rattle.cat_lower.proofs.FormLaws.{low_Boolean, signed_result}

-- what lies below an expression
pub record Deep : Type 0 where
  pub operands : List Form
  pub defaults : List FrameShape
  pub loops : List LoopShape
  pub pending : List PendingShape

-- with an operand more
abbrev pub more : Form → Deep → Deep
more t d = record d { operands = t ∷ d.operands }

-- the pending frames that stood at the beginning of the innermost loop are there
abbrev pub Stands : List LoopShape → List PendingShape → Type 0
Stands [] pending = Unit {0}
Stands (l ∷ ls) pending = l.pending ≤ length pending

lower_true : (a b : ℕ) → a < b → nat_lt a b ≡ true
lower_true a b less = grind (arith, nat_tests)

-- what is there stands below the end of its list
pub within_so : {A : Type 0} (xs : List A) (k : ℕ) (x : A) → slice_get xs k ≡ Some x → nat_lt k (length xs) ≡ true
within_so xs k x is = lower_true k (length xs) (slice_get_within xs k x is)

pub zero_rounded : nat_lt 0 (length roundings) ≡ true
zero_rounded = refl

pub constant_told : (tables : Tables) (k : ℕ) (c : Constant) → slice_get tables.constants k ≡ Some c
    → constant_form tables k ≡ Some (form_of tables.decls c.ty)
constant_told tables k c is = rw is refl

module _ (tables : Tables) (code : List Instr) (Calls : Owner → Owner → Type 0) (entry : ℕ → Shape) (owner : Owner)
    (filled : List Bool) where
  abbrev pub form : Ty → Form
  form t = form_of tables.decls t

  -- the shape where local names have these types, over what lies below
  abbrev pub at : List Form → Deep → Shape
  at ls d = record {
    owner = owner;
    operands = d.operands;
    locals = ls;
    filled = filled;
    defaults = d.defaults;
    loops = d.loops;
    pending = d.pending;
  }

  abbrev pub Goes : Coded → Shape → Shape → Type 0
  Goes a s t = Takes tables code Calls entry a s t

  -- code that pushes a value of a type
  abbrev pub Gives : Coded → List Form → Form → Type 0
  Gives a ls t = (d : Deep) → Stands d.loops d.pending → Goes a (at ls d) (at ls (more t d))

  pub gives_constant : (u : Ty) (v : Value) (t : Form) (ls : List Form)
      → IsConstant tables (record { ty = u; value = v }) → form u ≡ t
      → Gives (constant u v) ls t
  gives_constant u v t ls sound is d stands =
      takes_constant tables code Calls entry (λ k. instr.Const k) (record { ty = u; value = v }) (at ls d)
      (at ls (more t d)) sound
      (λ k p there. by k p (constant_told tables k (record { ty = u; value = v }) there ∙ ap (λ (f : Form). Some f) is))
      (λ all k p there. (tt, (refl, (tt, tt))))
    where
      by : (k p : ℕ) → constant_form tables k ≡ Some t
          → flow tables code (instr.Const k) p (at ls d) ≡ leads (p + 1) (at ls (more t d))
      by k p there = rw there refl

  truth_sound : (b : Bool) → IsConstant tables (record { ty = flat.Boolean; value = value_flat.Boolean b })
  truth_sound b =
      (low_Boolean tables.decls, has_type_Boolean tables.decls b flat.Boolean ∙ ap is_boolean ty.outs-Boolean)

  pub gives_truth : (b : Bool) (ls : List Form) → Gives (truth b) ls Truth
  gives_truth b ls =
      gives_constant flat.Boolean (value_flat.Boolean b) Truth ls (truth_sound b) (form_Boolean tables.decls)

  pub gives_local : (k : ℕ) (t : Form) (ls : List Form) → slice_get ls k ≡ Some t → Gives (one (instr.Local k)) ls t
  gives_local k t ls is d stands =
      takes_one tables code Calls entry (instr.Local k) (at ls d) (at ls (more t d)) (λ p. rw is refl)
      (λ all p. (tt, (refl, (tt, tt))))

  pub gives_slot : (k : ℕ) (t : Form) (ls : List Form) → is_so (slice_get filled k) ≡ true
      → slot_form tables.decls owner.scope k ≡ Some t
      → Gives (one (instr.Slot k)) ls t
  gives_slot k t ls full is d stands =
      takes_one tables code Calls entry (instr.Slot k) (at ls d) (at ls (more t d)) (λ p. rw (full, is) refl)
      (λ all p. (tt, (refl, (tt, tt))))

  -- an instruction that takes the value of a part, and pushes another one
  pub gives_of : (a : Coded) (i : Instr) (ls : List Form) (t u : Form) → Gives a ls t
      → ((d : Deep) (p : ℕ) → flow tables code i p (at ls (more t d)) ≡ leads (p + 1) (at ls (more u d)))
      → ((all : Spots) (p : ℕ) (s : Shape) → Keeps tables code Calls entry all i p s) → Gives (then_code a (one i)) ls u
  gives_of a i ls t u given flows keeps d stands =
      takes_then tables code Calls entry a (one i) (at ls d) (at ls (more t d)) (at ls (more u d)) (given d stands)
      (takes_one tables code Calls entry i (at ls (more t d)) (at ls (more u d)) (flows d)
      (λ all p. keeps all p (at ls (more t d))))

  pub gives_field : (a : Coded) (k : ℕ) (ls : List Form) (ts : Forms) (u : Form) → form_at ts k ≡ Some u
      → Gives a ls (Fields ts)
      → Gives (then_code a (one (instr.Field k))) ls u
  gives_field a k ls ts u is given =
      gives_of a (instr.Field k) ls (Fields ts) u given (λ d p. rw is refl) (λ all p s. (tt, (refl, (tt, tt))))

  pub gives_is_case : (a : Coded) (c n k : ℕ) (ls : List Form)
      → slice_get tables.cases c ≡ Some (record { enumeration = n; case = k })
      → Gives a ls (OneOf n) → Gives (then_code a (one (instr.IsCase c))) ls Truth
  gives_is_case a c n k ls is given =
      gives_of a (instr.IsCase c) ls (OneOf n) Truth given (λ d p. let same = eq-eqb n n refl in rw (is, same) refl)
      (λ all p s. (tt, (refl, (tt, tt))))

  pub gives_case_alone : (c n k : ℕ) (ls : List Form)
      → slice_get tables.cases c ≡ Some (record { enumeration = n; case = k })
      → content_of tables.decls n k ≡ Some None → Gives (one (instr.TagNone c)) ls (OneOf n)
  gives_case_alone c n k ls is empty d stands =
      takes_one tables code Calls entry (instr.TagNone c) (at ls d) (at ls (more (OneOf n) d))
      (λ p. rw (is, empty) refl) (λ all p. (tt, (refl, (tt, tt))))

  pub gives_case_with : (a : Coded) (c n k : ℕ) (u : Ty) (ls : List Form)
      → slice_get tables.cases c ≡ Some (record { enumeration = n; case = k })
      → content_of tables.decls n k ≡ Some (Some u) → Gives a ls (form u)
      → Gives (then_code a (one (instr.Tag c))) ls (OneOf n)
  gives_case_with a c n k u ls is full given =
      gives_of a (instr.Tag c) ls (form u) (OneOf n) given
      (λ d p. let same = same_self (form u) in rw (is, full, same) refl)
      (λ all p s. (tt, (refl, (tt, tt))))

  pub gives_length : (a : Coded) (t : Form) (ls : List Form) → Gives a ls (Many t)
      → Gives (then_code a (one instr.Length)) ls Whole
  gives_length a t ls given =
      gives_of a instr.Length ls (Many t) Whole given (λ d p. refl) (λ all p s. (tt, (refl, (tt, tt))))

  -- an operator whose number and rounding are there
  operates : (n r q p : ℕ) (o : Operation) (s : Shape) → operation n ≡ Some o → nat_lt r (length roundings) ≡ true
      → nat_lt q (length tables.positions) ≡ true
      → flow tables code (instr.Op n r q) p s ≡ operated (form_of tables.decls) o p s
  operates n r q p o s is rounded placed = rw (rounded, placed, is) refl

  before_takes : (o : UnaryOp) (p : ℕ) (ls : List Form) (d : Deep)
      → operated (form_of tables.decls) (Before o) p (at ls (more (form (taken_by o)) d))
      ≡ leads (p + 1) (at ls (more (form (given_by o)) d))
  before_takes o p ls d = let same = same_self (form (taken_by o)) in rw same refl

  between_takes : (o : BinaryOp) (t u r : Form) (x : Ty) (p : ℕ) (ls : List Form) (d : Deep)
      → signed (form_of tables.decls) (signatures_of o) t u ≡ Some x → form x ≡ r
      → operated (form_of tables.decls) (Between o) p (at ls (more u (more t d))) ≡ leads (p + 1) (at ls (more r d))
  between_takes o t u r x p ls d is same = rw is (ap (λ (f : Form). leads (p + 1) (at ls (more f d))) same)

  pub gives_unary : (a : Coded) (o : UnaryOp) (q : Pos) (ls : List Form) → Gives a ls (form (taken_by o))
      → Gives (then_code a (operator (number_before o) 0 q)) ls (form (given_by o))
  gives_unary a o q ls given d stands =
      let s = at ls (more (form (taken_by o)) d) in
      let t = at ls (more (form (given_by o)) d) in
      takes_then tables code Calls entry a (operator (number_before o) 0 q) (at ls d) s t (given d stands)
      (takes_position tables code Calls entry (λ k. instr.Op (number_before o) 0 k) q s t
      (λ k p is. operates (number_before o) 0 k p (Before o) s (operation-number_before o) zero_rounded
      (within_so tables.positions k q is)
      ∙ before_takes o p ls d)
      (λ all k p. (tt, (refl, (tt, tt)))))

  -- an operator on two values that are there
  pub takes_between : (o : BinaryOp) (r : ℕ) (q : Pos) (t u w : Form) (x : Ty) (ls : List Form) (d : Deep)
      → nat_lt r (length roundings) ≡ true
      → signed (form_of tables.decls) (signatures_of o) t u ≡ Some x → form x ≡ w
      → Goes (operator (number_between o) r q) (at ls (more u (more t d))) (at ls (more w d))
  takes_between o r q t u w x ls d rounded is same =
      takes_position tables code Calls entry (λ k. instr.Op (number_between o) r k) q (at ls (more u (more t d)))
      (at ls (more w d))
      (λ k p there. operates (number_between o) r k p (Between o) (at ls (more u (more t d)))
      (operation-number_between o) rounded
      (within_so tables.positions k q there) ∙ between_takes o t u w x p ls d is same)
      (λ all k p. (tt, (refl, (tt, tt))))

  pub is_rounded : (r : Rounding) → nat_lt (rounding_number r) (length roundings) ≡ true
  is_rounded r = within_so roundings (rounding_number r) r (roundings-rounding_number r)

  pub gives_binary : (a b : Coded) (o : BinaryOp) (r : Rounding) (q : Pos) (s : Signature) (ls : List Form)
      → IsOneOf s (signatures_of o)
      → AllHave (λ (u : Signature). u.result ≡ s.result) (signatures_of o) → Gives a ls (form s.left)
      → Gives b ls (form s.right)
      → Gives (then_code a (then_code b (operator (number_between o) (rounding_number r) q))) ls (form s.result)
  gives_binary a b o r q s ls is same ga gb d stands =
      let one_more = more (form s.left) d in
      let two_more = more (form s.right) one_more in
      let op : Coded = operator (number_between o) (rounding_number r) q in
      takes_then tables code Calls entry a (then_code b op) (at ls d) (at ls one_more) (at ls (more (form s.result) d))
      (ga d stands)
      (takes_then tables code Calls entry b op (at ls one_more) (at ls two_more) (at ls (more (form s.result) d))
      (gb one_more stands)
      (takes_between o (rounding_number r) q (form s.left) (form s.right) (form s.result) s.result ls d (is_rounded r)
      (signed_result (form_of tables.decls) (signatures_of o) s s.result same is) refl))

  -- one of two by a truth value
  pub gives_choice : (c a b : Coded) (ls : List Form) (t : Form) → Gives c ls Truth → Gives a ls t → Gives b ls t
      → Gives (then_code c (branch (λ t. instr.JumpFalse t) a b)) ls t
  gives_choice c a b ls t gc ga gb d stands =
      takes_then tables code Calls entry c (branch (λ t. instr.JumpFalse t) a b) (at ls d) (at ls (more Truth d))
      (at ls (more t d)) (gc d stands)
      (takes_branch tables code Calls entry (λ t. instr.JumpFalse t) a b (at ls (more Truth d)) (at ls d) (at ls d)
      (at ls (more t d))
      (is_jump_false tables code Calls entry) (λ p q is. refl) (ga d stands) (gb d stands))
