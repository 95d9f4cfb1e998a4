-- What flows give for shapes whose types are numbers.
use Rattle.std.proofs.Common.{◌≡◌, ◌≤◌, ◌<◌, inl, inr, ℕ, ◌+◌, nat_eq, nat_lt, Bool, true, false, true≢false, List}
use Rattle.std.proofs.Common.{[], ◌∷◌, map}
use Rattle.std.proofs.Common.{Option, Some, None, is_some, is_none, refl, sym, ap, ◌∙◌, subst, arith}
use Rattle.std.proofs.lemmas.Bool.Decides.{nat_tests}
use Rattle.std.specs.Prelude.{Result, Ok, Err}
use Rattle.std.specs.Option.{option_map}
use Rattle.std.proofs.lemmas.Bool.{eq-eqb}
use Rattle.cat_code.specs.declared.code.Tables.{Tables}
use Rattle.cat_code.specs.Forms.{Form, same_form}
use Rattle.cat_code.specs.Shapes as code
use Rattle.cat_code.specs.Leads.{Flow, leads, with, where_so, top, pushed, pop, pop_as}
use Rattle.cat_verify_shapes.specs.declared.shape.Shape.{Shape}
use Rattle.cat_verify_shapes.specs.declared.forms.Forms.{Forms}
use Rattle.cat_verify_shapes.specs.declared.leads.Leads.{Leads}
use Rattle.cat_verify_shapes.specs.declared.leads.Stuck.{Stuck}
use Rattle.cat_verify_shapes.specs.declared.leads.Stuck.TheVariants as stuck
use Rattle.cat_verify_shapes.specs.inside.Senses.{Senses, AreSenses, StandsIn}
use Rattle.cat_verify_shapes.specs.inside.Told.{shape_of, leads_of, Comes, GivesOne}
use Rattle.cat_verify_shapes.specs.inside.Taking.{Takes}

pub with_is : {A : Type 0} (o : Option A) (a : A) (go : A → Flow) → Some a ≡ o → with o go ≡ go a
with_is {A} o a go e = ap (λ (x : Option A). with x go) (sym e)

pub with_not : {A : Type 0} (o : Option A) (go : A → Flow) → None ≡ o → with o go ≡ None
with_not {A} o go e = ap (λ (x : Option A). with x go) (sym e)

pub where_is : (b : Bool) (go : Flow) → b ≡ true → where_so b go ≡ go
where_is b go e = ap (λ (x : Bool). where_so x go) e

pub where_not : (b : Bool) (go : Flow) → b ≡ false → where_so b go ≡ None
where_not b go e = ap (λ (x : Bool). where_so x go) e

pub pop_none : (d : Senses) (s : Shape) (go : Form → code.Shape → Flow) → s.operands ≡ [] → pop (shape_of d s) go ≡ None
pop_none d s go e =
    ap (λ (ops : List ℕ). top (map d.one ops) (λ t ts. go t (record (shape_of d s) { operands = ts }))) e

pub pop_some : (d : Senses) (s r : Shape) (n : ℕ) (go : Form → code.Shape → Flow)
    → s ≡ record r { operands = n ∷ r.operands } → pop (shape_of d s) go ≡ go (d.one n) (shape_of d r)
pop_some d s r n go e = ap (λ (t : Shape). pop (shape_of d t) go) e

-- numbers that never stand for one type
abbrev pub AreApart : Senses → Type 0
AreApart d = (n m : ℕ) → same_form (d.one n) (d.one m) ≡ nat_eq n m

pub as_so : (d : Senses) → AreApart d → (s r : Shape) (n : ℕ) (t : Form) (go : code.Shape → Flow) → d.one n ≡ t
    → Takes s r n true → pop_as t (shape_of d s) go ≡ go (shape_of d r)
as_so d apart s r n t go is e =
    subst (λ (u : Form). pop_as u (shape_of d s) go ≡ go (shape_of d r)) is
    (pop_some d s r n (λ u s. where_so (same_form u (d.one n)) (go s)) e
    ∙ where_is (same_form (d.one n) (d.one n)) (go (shape_of d r)) (apart n n ∙ eq-eqb n n refl))

pub as_not : (d : Senses) → AreApart d → (s r : Shape) (n : ℕ) (t : Form) (go : code.Shape → Flow) → d.one n ≡ t
    → Takes s r n false → pop_as t (shape_of d s) go ≡ None
as_not d apart s r n t go is (inl e) =
    subst (λ (u : Form). pop_as u (shape_of d s) go ≡ None) is
    (pop_none d s (λ u s. where_so (same_form u (d.one n)) (go s)) e)
as_not d apart s r n t go is (inr (m, ms, e, other)) =
    subst (λ (u : Form). pop_as u (shape_of d s) go ≡ None) is
    (ap (λ (ops : List ℕ). top (map d.one ops)
    (λ u us. where_so (same_form u (d.one n)) (go (record (shape_of d s) { operands = us })))) e
    ∙ where_not (same_form (d.one m) (d.one n)) (go (record (shape_of d s) { operands = map d.one ms }))
    (apart m n ∙ other))

-- ---- what comes of calls

pub comes_by : (tables : Tables) (forms : Forms) (r : Result Leads Stuck) (f g : Senses → Flow)
    → ((d : Senses) → AreSenses tables.decls forms d → f d ≡ g d) → Comes tables forms r g → Comes tables forms r f
comes_by tables forms (Ok to) f g same told = λ d h. same d h ∙ told d h
comes_by tables forms (Err stuck.Bad) f g same told = λ d h. same d h ∙ told d h
comes_by tables forms (Err stuck.Memory) f g same told = tt

pub gives_comes : (tables : Tables) (forms : Forms) (r : Result Leads Stuck) (p : ℕ) (s : Shape) (n : Option ℕ)
    (o : Option Form) → GivesOne p s n r → StandsIn tables.decls forms n o
    → Comes tables forms r (λ d. with o (λ t. leads (p + 1) (pushed t (shape_of d s))))
gives_comes tables forms (Ok to) p s n o gives stands = λ d h.
    with_is o (d.one gives.0) (λ t. leads (p + 1) (pushed t (shape_of d s)))
    (ap (option_map d.one) (sym gives.1) ∙ stands d h)
    ∙ ap (λ (l : Leads). Some (leads_of d l)) (sym gives.2)
gives_comes tables forms (Err stuck.Bad) p s n o gives stands = λ d h.
    with_not o (λ t. leads (p + 1) (pushed t (shape_of d s))) (ap (option_map d.one) (sym gives) ∙ stands d h)
gives_comes tables forms (Err stuck.Memory) p s n o gives stands = tt

-- ---- tests

pub lt_so : (a b : ℕ) → a < b → nat_lt a b ≡ true
lt_so a b h = grind (arith, nat_tests)

pub lt_not : (a b : ℕ) → b ≤ a → nat_lt a b ≡ false
lt_not a b h = grind (arith, nat_tests)

pub none_where_some : {A : Type 0} (o : Option A) → is_some o ≡ true → is_none o ≡ false
none_where_some None e = absurd (true≢false (sym e))
none_where_some (Some a) e = refl

pub none_where_not : {A : Type 0} (o : Option A) → is_some o ≡ false → is_none o ≡ true
none_where_not None e = refl
none_where_not (Some a) e = absurd (true≢false e)

-- what is told of a type that may be missing, told of what was found
pub stands_as : (tables : Tables) (forms : Forms) (n m : Option ℕ) (o : Option Form) → StandsIn tables.decls forms n o
    → n ≡ m → StandsIn tables.decls forms m o
stands_as tables forms n m o stands e = subst (λ (k : Option ℕ). StandsIn tables.decls forms k o) e stands

-- what was taken, by whether it was
pub takes_as : (s r : Shape) (n : ℕ) (b c : Bool) → Takes s r n b → b ≡ c → Takes s r n c
takes_as s r n b c takes e = subst (Takes s r n) e takes

-- a shape whose operands were popped
pub popped_as : (s : Shape) (n : ℕ) (ops : List ℕ) → s.operands ≡ n ∷ ops
    → s ≡ record (record s { operands = ops }) { operands = n ∷ ops }
popped_as s n ops e = ap (λ (os : List ℕ). record s { operands = os }) e
