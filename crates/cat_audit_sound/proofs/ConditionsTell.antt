-- Where the parts of a condition tell what is true, so does the condition.
use Rattle.std.proofs.Common.{◌≡◌, Bool, true, false, not, Some, Result, Ok, Err, refl, sym, ap, ◌∙◌, subst}
use Rattle.cat_pos.specs.declared.pos.Pos.{Pos}
use Rattle.cat_date.specs.declared.rounding.Rounding.{Rounding}
use Rattle.cat_value.specs.declared.value.Value.{Value}
use Rattle.cat_value.specs.declared.value.Value.TheVariants as flat
use Rattle.cat_value.specs.declared.value.Value.TheViews as value
use Rattle.cat_scope.specs.declared.stop.Stop.{Stop}
use Rattle.cat_scope.specs.declared.operators.UnaryOp.TheVariants as unary
use Rattle.cat_scope.specs.declared.operators.BinaryOp.TheVariants as binary
use Rattle.cat_scope.specs.Replies.{Reply, on_one}
use Rattle.cat_scope.specs.Runs.{Run, plain, gives, and_then, giving, either, choose}
use Rattle.cat_scope.specs.Projections as read
use Rattle.cat_scope.specs.Comparing.{differ}
use Rattle.cat_scope.specs.Operators.{convert, operate}
use Rattle.cat_guard.specs.Formulas.{both, any, choice}
use Rattle.cat_guard.proofs.Exported.{same_bool, then_end}
use Rattle.cat_audit_sound.specs.Evaluations.{told, says}

-- where a reply is a truth value, it is this one
abbrev pub Tells : Reply → Bool → Type 0
Tells s x = (b : Bool) → says s ≡ Some b → x ≡ b

pub says_Boolean : (b : Bool) → says (Ok (flat.Boolean b)) ≡ Some b
says_Boolean b = ap (λ y. told (read.truth_in y)) (value.outs-Boolean b)

pub tells_Boolean : (b : Bool) → Tells (Ok (flat.Boolean b)) b
tells_Boolean b c e = same_bool b c (sym (says_Boolean b) ∙ e)

pub tells_as : (s u : Reply) (x y : Bool) → s ≡ u → x ≡ y → Tells u y → Tells s x
tells_as s u x y e f h = subst (λ z. Tells z x) (sym e) (subst (λ z. Tells u z) (sym f) h)

-- one of two replies, by a truth value
abbrev pub one_of : Result Bool Stop → Reply → Reply → Reply
one_of (Ok true) one other = one
one_of (Ok false) one other = other
one_of (Err stop) one other = Err stop

pub either_end : (t : Result Bool Stop) (one other : Run Value) → (either t one other).end ≡ one_of t one.end other.end
either_end (Ok true) one other = refl
either_end (Ok false) one other = refl
either_end (Err stop) one other = refl

pub on_one_same : {A B : Type 0} (r : Result A Stop) (f g : A → Result B Stop) → ((a : A) → f a ≡ g a)
    → on_one r f ≡ on_one r g
on_one_same (Ok a) f g same = same a
on_one_same (Err stop) f g same = refl

pub choose_end : (run : Run Value) (one other : Run Value)
    → (and_then run (λ v. choose v one other)).end ≡ on_one run.end (λ v. one_of (read.truth v) one.end other.end)
choose_end run one other =
    then_end run (λ v. choose v one other)
    ∙ on_one_same run.end _ _ (λ v. either_end (read.truth v) one other)

-- a result, by what it is
seen : {A : Type 0} (r : Result A Stop) (P : Result A Stop → Type 0) → ((a : A) → r ≡ Ok a → P (Ok a))
    → ((stop : Stop) → r ≡ Err stop → P (Err stop)) → P r
seen (Ok a) P one another = one a refl
seen (Err stop) P one another = another stop refl

pub tells_choice : (s t u : Reply) (w x y : Bool) → Tells s w → Tells t x → Tells u y
    → Tells (on_one s (λ v. one_of (read.truth v) t u)) (choice w x y)
tells_choice (Err stop) t u w x y f h g b e = absurd (cc)
tells_choice (Ok v) t u w x y f h g b e =
    seen (read.truth v) (λ z. ((c : Bool) → told z ≡ Some c → w ≡ c) → says (one_of z t u) ≡ Some b → choice w x y ≡ b)
    held (λ stop at h e. absurd (cc)) f e
  where
    held : (c : Bool) → read.truth v ≡ Ok c → ((d : Bool) → told (Ok c) ≡ Some d → w ≡ d)
        → says (one_of (Ok c) t u) ≡ Some b → choice w x y ≡ b
    held true at f e = ap (λ z. choice z x y) (f true refl) ∙ h b e
    held false at f e = ap (λ z. choice z x y) (f false refl) ∙ g b e

both_is : (x y : Bool) → both x y ≡ choice x y false
both_is true y = refl
both_is false y = refl

any_is : (x y : Bool) → any x y ≡ choice x true y
any_is true y = refl
any_is false y = refl

pub tells_and : (r other : Run Value) (x y : Bool) → Tells r.end x → Tells other.end y
    → Tells (and_then r (λ v. choose v other (gives (flat.Boolean false)))).end (both x y)
tells_and r other x y h g =
    tells_as _ _ (both x y) (choice x y false) (choose_end r other (gives (flat.Boolean false))) (both_is x y)
    (tells_choice r.end other.end (Ok (flat.Boolean false)) x y false h g (tells_Boolean false))

pub tells_or : (r other : Run Value) (x y : Bool) → Tells r.end x → Tells other.end y
    → Tells (and_then r (λ v. choose v (gives (flat.Boolean true)) other)).end (any x y)
tells_or r other x y h g =
    tells_as _ _ (any x y) (choice x true y) (choose_end r (gives (flat.Boolean true)) other) (any_is x y)
    (tells_choice r.end (Ok (flat.Boolean true)) other.end x true y h (tells_Boolean true) g)

pub tells_if : (r one other : Run Value) (w x y : Bool) → Tells r.end w → Tells one.end x → Tells other.end y
    → Tells (and_then r (λ v. choose v one other)).end (choice w x y)
tells_if r one other w x y f h g =
    tells_as _ _ (choice w x y) (choice w x y) (choose_end r one other) refl
    (tells_choice r.end one.end other.end w x y f h g)

pub tells_not : (p : Pos) (r : Run Value) (x : Bool) → Tells r.end x
    → Tells (giving r (convert unary.Not p)).end (not x)
tells_not p r x h =
    tells_as _ _ (not x) (not x) (then_end r (λ v. plain (convert unary.Not p v))) refl (by r.end h)
  where
    by : (s : Reply) → Tells s x → Tells (on_one s (convert unary.Not p)) (not x)
    by (Err stop) h b e = absurd (cc)
    by (Ok v) h b e =
        seen (read.truth v)
        (λ z. ((c : Bool) → told z ≡ Some c → x ≡ c) → says (on_one z (λ c. Ok (flat.Boolean (not c)))) ≡ Some b
        → not x ≡ b)
        (λ c at h e. ap not (h c refl) ∙ tells_Boolean (not c) b e) (λ stop at h e. absurd (cc)) h e

pub tells_xor : (rounding : Rounding) (p : Pos) (r other : Run Value) (x y : Bool) → Tells r.end x → Tells other.end y
    → Tells (and_then r (λ v. giving other (operate rounding binary.Xor p v))).end (differ x y)
tells_xor rounding p r other x y h g =
    tells_as _ _ (differ x y) (differ x y)
    (then_end r (λ v. giving other (operate rounding binary.Xor p v))
    ∙ on_one_same r.end _ _ (λ v. then_end other (λ w. plain (operate rounding binary.Xor p v w)))) refl
    (by r.end other.end h g)
  where
    by : (s u : Reply) → Tells s x → Tells u y
        → Tells (on_one s (λ v. on_one u (operate rounding binary.Xor p v))) (differ x y)
    by (Err stop) u h g b e = absurd (cc)
    by (Ok v) (Err stop) h g b e = absurd (cc)
    by (Ok v) (Ok w) h g b e =
        seen (read.truth v)
        (λ z. ((c : Bool) → told z ≡ Some c → x ≡ c)
        → says (on_one z (λ a. on_one (read.truth w) (λ c. Ok (flat.Boolean (differ a c))))) ≡ Some b → differ x y ≡ b)
        first (λ stop at h e. absurd (cc)) h e
      where
        first : (a : Bool) → read.truth v ≡ Ok a → ((d : Bool) → told (Ok a) ≡ Some d → x ≡ d)
            → says (on_one (read.truth w) (λ c. Ok (flat.Boolean (differ a c)))) ≡ Some b → differ x y ≡ b
        first a at h e =
            seen (read.truth w)
            (λ z. ((c : Bool) → told z ≡ Some c → y ≡ c) → says (on_one z (λ c. Ok (flat.Boolean (differ a c))))
            ≡ Some b
            → differ x y ≡ b)
            (λ c there g e. ap (λ z. differ z y) (h a refl) ∙ ap (differ a) (g c refl) ∙ tells_Boolean (differ a c) b e)
            (λ stop there g e. absurd (cc)) g e
