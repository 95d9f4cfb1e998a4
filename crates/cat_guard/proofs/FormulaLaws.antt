-- What is known of a formula is so, and stays known where more is.
use Rattle.std.proofs.Common.{◌≡◌, ◌↔◌, Bool, true, false, not, List, [], ◌∷◌, ◌++◌, Option, Some, None, refl, ap}
use Rattle.std.proofs.Common.{◌∙◌}
use Rattle.cat_scope.specs.Comparing.{differ}
use Rattle.cat_guard.specs.Formulas.{Formula, both, any, choice, truth, agreed, of_one, of_two, of_three, known}
use Rattle.cat_guard.specs.Formulas.{IsSo, IsKept, asked, renamed}
use Rattle.cat_scope.specs.Names.{AllHave}
use Rattle.cat_guard.specs.Formulas as formula

abbrev or_this : Bool → Option Bool → Bool
or_this a None = a
or_this a (Some b) = b

pub same_bool : (a b : Bool) → Some a ≡ Some b → a ≡ b
same_bool a b e = ap (or_this a) e

-- what two agree on is what each of them is
agreed_both : (o p : Option Bool) (b : Bool) → agreed o p ≡ Some b → (o ≡ Some b) × (p ≡ Some b)
agreed_both (Some true) (Some true) b e = (e, e)
agreed_both (Some false) (Some false) b e = (e, e)
agreed_both (Some true) (Some false) b e = absurd (cc)
agreed_both (Some false) (Some true) b e = absurd (cc)
agreed_both (Some true) None b e = absurd (cc)
agreed_both (Some false) None b e = absurd (cc)
agreed_both None p b e = absurd (cc)

agreed_self : (b : Bool) → agreed (Some b) (Some b) ≡ Some b
agreed_self true = refl
agreed_self false = refl

agreed_of : (o p : Option Bool) (b : Bool) → o ≡ Some b → p ≡ Some b → agreed o p ≡ Some b
agreed_of o p b h i = ap (λ x. agreed x p) h ∙ ap (agreed (Some b)) i ∙ agreed_self b

-- ---- what is known is so

one_so : (f : Bool → Bool) (o : Option Bool) (x : Bool) → IsSo o x → IsSo (of_one f o) (f x)
one_so f (Some a) x h b e = ap f (h a refl) ∙ same_bool (f a) b e
one_so f None true h b e = same_bool (f true) b (agreed_both (Some (f true)) (Some (f false)) b e).0
one_so f None false h b e = same_bool (f false) b (agreed_both (Some (f true)) (Some (f false)) b e).1

two_so : (f : Bool → Bool → Bool) (o p : Option Bool) (x y : Bool) → IsSo o x → IsSo p y → IsSo (of_two f o p) (f x y)
two_so f (Some a) p x y h i b e = ap (λ z. f z y) (h a refl) ∙ one_so (f a) p y i b e
two_so f None p true y h i b e =
    one_so (f true) p y i b (agreed_both (of_one (f true) p) (of_one (f false) p) b e).0
two_so f None p false y h i b e =
    one_so (f false) p y i b (agreed_both (of_one (f true) p) (of_one (f false) p) b e).1

three_so : (f : Bool → Bool → Bool → Bool) (o p q : Option Bool) (x y z : Bool) → IsSo o x → IsSo p y → IsSo q z
    → IsSo (of_three f o p q) (f x y z)
three_so f (Some a) p q x y z h i j b e = ap (λ w. f w y z) (h a refl) ∙ two_so (f a) p q y z i j b e
three_so f None p q true y z h i j b e =
    two_so (f true) p q y z i j b (agreed_both (of_two (f true) p q) (of_two (f false) p q) b e).0
three_so f None p q false y z h i j b e =
    two_so (f false) p q y z i j b (agreed_both (of_two (f true) p q) (of_two (f false) p q) b e).1

pub known_so : {A : Type 0} (answers : A → Option Bool) (holds : A → Bool) → ((a : A) → IsSo (answers a) (holds a))
    → (f : Formula A) → IsSo (known answers f) (truth holds f)
known_so answers holds each (formula.Constant c) b e = same_bool c b e
known_so answers holds each (formula.Atom a) b e = each a b e
known_so answers holds each (formula.Not f) b e =
    one_so not (known answers f) (truth holds f) (known_so answers holds each f) b e
known_so answers holds each (formula.Both f g) b e =
    two_so both (known answers f) (known answers g) (truth holds f) (truth holds g) (known_so answers holds each f)
    (known_so answers holds each g) b e
known_so answers holds each (formula.Either f g) b e =
    two_so any (known answers f) (known answers g) (truth holds f) (truth holds g) (known_so answers holds each f)
    (known_so answers holds each g) b e
known_so answers holds each (formula.Differ f g) b e =
    two_so differ (known answers f) (known answers g) (truth holds f) (truth holds g) (known_so answers holds each f)
    (known_so answers holds each g) b e
known_so answers holds each (formula.Choice c f g) b e =
    three_so choice (known answers c) (known answers f) (known answers g) (truth holds c) (truth holds f)
    (truth holds g) (known_so answers holds each c) (known_so answers holds each f) (known_so answers holds each g) b e

-- ---- what is known stays known

one_kept : (f : Bool → Bool) (o p : Option Bool) → IsKept o p → IsKept (of_one f o) (of_one f p)
one_kept f (Some a) p h b e = ap (of_one f) (h a refl) ∙ e
one_kept f None None h b e = e
one_kept f None (Some true) h b e = (agreed_both (Some (f true)) (Some (f false)) b e).0
one_kept f None (Some false) h b e = (agreed_both (Some (f true)) (Some (f false)) b e).1

two_kept : (f : Bool → Bool → Bool) (o p q r : Option Bool) → IsKept o p → IsKept q r
    → IsKept (of_two f o q) (of_two f p r)
two_kept f (Some a) p q r h i b e = ap (λ x. of_two f x r) (h a refl) ∙ one_kept (f a) q r i b e
two_kept f None None q r h i b e =
    let each = agreed_both (of_one (f true) q) (of_one (f false) q) b e in
    agreed_of (of_one (f true) r) (of_one (f false) r) b (one_kept (f true) q r i b each.0)
    (one_kept (f false) q r i b each.1)
two_kept f None (Some true) q r h i b e =
    one_kept (f true) q r i b (agreed_both (of_one (f true) q) (of_one (f false) q) b e).0
two_kept f None (Some false) q r h i b e =
    one_kept (f false) q r i b (agreed_both (of_one (f true) q) (of_one (f false) q) b e).1

three_kept : (f : Bool → Bool → Bool → Bool) (o p q r s t : Option Bool) → IsKept o p → IsKept q r → IsKept s t
    → IsKept (of_three f o q s) (of_three f p r t)
three_kept f (Some a) p q r s t h i j b e = ap (λ x. of_three f x r t) (h a refl) ∙ two_kept (f a) q r s t i j b e
three_kept f None None q r s t h i j b e =
    let each = agreed_both (of_two (f true) q s) (of_two (f false) q s) b e in
    agreed_of (of_two (f true) r t) (of_two (f false) r t) b (two_kept (f true) q r s t i j b each.0)
    (two_kept (f false) q r s t i j b each.1)
three_kept f None (Some true) q r s t h i j b e =
    two_kept (f true) q r s t i j b (agreed_both (of_two (f true) q s) (of_two (f false) q s) b e).0
three_kept f None (Some false) q r s t h i j b e =
    two_kept (f false) q r s t i j b (agreed_both (of_two (f true) q s) (of_two (f false) q s) b e).1

pub known_kept : {A : Type 0} (answers more : A → Option Bool) → ((a : A) → IsKept (answers a) (more a))
    → (f : Formula A) → IsKept (known answers f) (known more f)
known_kept answers more each (formula.Constant c) b e = e
known_kept answers more each (formula.Atom a) b e = each a b e
known_kept answers more each (formula.Not f) b e =
    one_kept not (known answers f) (known more f) (known_kept answers more each f) b e
known_kept answers more each (formula.Both f g) b e =
    two_kept both (known answers f) (known more f) (known answers g) (known more g) (known_kept answers more each f)
    (known_kept answers more each g) b e
known_kept answers more each (formula.Either f g) b e =
    two_kept any (known answers f) (known more f) (known answers g) (known more g) (known_kept answers more each f)
    (known_kept answers more each g) b e
known_kept answers more each (formula.Differ f g) b e =
    two_kept differ (known answers f) (known more f) (known answers g) (known more g) (known_kept answers more each f)
    (known_kept answers more each g) b e
known_kept answers more each (formula.Choice c f g) b e =
    three_kept choice (known answers c) (known more c) (known answers f) (known more f) (known answers g) (known more g)
    (known_kept answers more each c) (known_kept answers more each f) (known_kept answers more each g) b e

-- ---- what known parts decide is known

self_so : (b : Bool) → IsSo (Some b) b
self_so b c e = same_bool b c e

not_known : (x : Bool) → IsSo None x
not_known x c e = absurd (cc)

pub one_whole : (f : Bool → Bool) (o : Option Bool) (b : Bool) → ((x : Bool) → IsSo o x → f x ≡ b)
    → of_one f o ≡ Some b
one_whole f (Some a) b all = ap Some (all a (self_so a))
one_whole f None b all =
    agreed_of (Some (f true)) (Some (f false)) b (ap Some (all true (not_known true)))
    (ap Some (all false (not_known false)))

pub two_whole : (f : Bool → Bool → Bool) (o p : Option Bool) (b : Bool)
    → ((x y : Bool) → IsSo o x → IsSo p y → f x y ≡ b) → of_two f o p ≡ Some b
two_whole f (Some a) p b all = one_whole (f a) p b (λ y i. all a y (self_so a) i)
two_whole f None p b all =
    agreed_of (of_one (f true) p) (of_one (f false) p) b (one_whole (f true) p b (λ y i. all true y (not_known true) i))
    (one_whole (f false) p b (λ y i. all false y (not_known false) i))

pub three_whole : (f : Bool → Bool → Bool → Bool) (o p q : Option Bool) (b : Bool)
    → ((x y z : Bool) → IsSo o x → IsSo p y → IsSo q z → f x y z ≡ b) → of_three f o p q ≡ Some b
three_whole f (Some a) p q b all = two_whole (f a) p q b (λ y z i j. all a y z (self_so a) i j)
three_whole f None p q b all =
    agreed_of (of_two (f true) p q) (of_two (f false) p q) b
    (two_whole (f true) p q b (λ y z i j. all true y z (not_known true) i j))
    (two_whole (f false) p q b (λ y z i j. all false y z (not_known false) i j))

-- ---- other names of questions

pub truth_renamed : {A B : Type 0} (name : A → B) (holds : B → Bool) (f : Formula A)
    → truth holds (renamed name f) ≡ truth (λ a. holds (name a)) f
truth_renamed name holds (formula.Constant c) = refl
truth_renamed name holds (formula.Atom a) = refl
truth_renamed name holds (formula.Not f) = ap not (truth_renamed name holds f)
truth_renamed name holds (formula.Both f g) =
    ap (λ x. both x (truth holds (renamed name g))) (truth_renamed name holds f)
    ∙ ap (both (truth (λ a. holds (name a)) f)) (truth_renamed name holds g)
truth_renamed name holds (formula.Either f g) =
    ap (λ x. any x (truth holds (renamed name g))) (truth_renamed name holds f)
    ∙ ap (any (truth (λ a. holds (name a)) f)) (truth_renamed name holds g)
truth_renamed name holds (formula.Differ f g) =
    ap (λ x. differ x (truth holds (renamed name g))) (truth_renamed name holds f)
    ∙ ap (differ (truth (λ a. holds (name a)) f)) (truth_renamed name holds g)
truth_renamed name holds (formula.Choice c f g) =
    ap (λ x. choice x (truth holds (renamed name f)) (truth holds (renamed name g))) (truth_renamed name holds c)
    ∙ ap (λ x. choice (truth (λ a. holds (name a)) c) x (truth holds (renamed name g))) (truth_renamed name holds f)
    ∙ ap (choice (truth (λ a. holds (name a)) c) (truth (λ a. holds (name a)) f)) (truth_renamed name holds g)

pub one_exact : (f : Bool → Bool) (o : Option Bool) (b : Bool)
    → (of_one f o ≡ Some b) ↔ ((x : Bool) → IsSo o x → f x ≡ b)
one_exact f o b = ((λ e x h. one_so f o x h b e), one_whole f o b)

pub two_exact : (f : Bool → Bool → Bool) (o p : Option Bool) (b : Bool)
    → (of_two f o p ≡ Some b) ↔ ((x y : Bool) → IsSo o x → IsSo p y → f x y ≡ b)
two_exact f o p b = ((λ e x y h i. two_so f o p x y h i b e), two_whole f o p b)

pub three_exact : (f : Bool → Bool → Bool → Bool) (o p q : Option Bool) (b : Bool)
    → (of_three f o p q ≡ Some b) ↔ ((x y z : Bool) → IsSo o x → IsSo p y → IsSo q z → f x y z ≡ b)
three_exact f o p q b = ((λ e x y z h i j. three_so f o p q x y z h i j b e), three_whole f o p q b)

pub ruleset decided_by_parts = (one_exact, two_exact, three_exact)

-- ---- formulas on the questions that they ask

pub all_front : {A : Type 0} (P : A → Type 0) (xs ys : List A) → AllHave P (xs ++ ys) → AllHave P xs
all_front P [] ys h = tt
all_front P (x ∷ xs) ys h = (h.0, all_front P xs ys h.1)

pub all_back : {A : Type 0} (P : A → Type 0) (xs ys : List A) → AllHave P (xs ++ ys) → AllHave P ys
all_back P [] ys h = h
all_back P (x ∷ xs) ys h = all_back P xs ys h.1

pub truth_same : {A : Type 0} (holds other : A → Bool) (f : Formula A) → AllHave (λ a. holds a ≡ other a) (asked f)
    → truth holds f ≡ truth other f
truth_same holds other (formula.Constant b) h = refl
truth_same holds other (formula.Atom a) h = h.0
truth_same holds other (formula.Not f) h = ap not (truth_same holds other f h)
truth_same holds other (formula.Both f g) h =
    let front = truth_same holds other f (all_front (λ a. holds a ≡ other a) (asked f) (asked g) h) in
    let back = truth_same holds other g (all_back (λ a. holds a ≡ other a) (asked f) (asked g) h) in
    ap (λ x. both x (truth holds g)) front ∙ ap (both (truth other f)) back
truth_same holds other (formula.Either f g) h =
    let front = truth_same holds other f (all_front (λ a. holds a ≡ other a) (asked f) (asked g) h) in
    let back = truth_same holds other g (all_back (λ a. holds a ≡ other a) (asked f) (asked g) h) in
    ap (λ x. any x (truth holds g)) front ∙ ap (any (truth other f)) back
truth_same holds other (formula.Differ f g) h =
    let front = truth_same holds other f (all_front (λ a. holds a ≡ other a) (asked f) (asked g) h) in
    let back = truth_same holds other g (all_back (λ a. holds a ≡ other a) (asked f) (asked g) h) in
    ap (λ x. differ x (truth holds g)) front ∙ ap (differ (truth other f)) back
truth_same holds other (formula.Choice c f g) h =
    let two = all_front (λ a. holds a ≡ other a) (asked c ++ asked f) (asked g) h in
    let test = truth_same holds other c (all_front (λ a. holds a ≡ other a) (asked c) (asked f) two) in
    let front = truth_same holds other f (all_back (λ a. holds a ≡ other a) (asked c) (asked f) two) in
    let back = truth_same holds other g (all_back (λ a. holds a ≡ other a) (asked c ++ asked f) (asked g) h) in
    ap (λ x. choice x (truth holds f) (truth holds g)) test
    ∙ ap (λ x. choice (truth other c) x (truth holds g)) front ∙ ap (choice (truth other c) (truth other f)) back
