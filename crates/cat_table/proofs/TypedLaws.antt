-- What an expression tells is its type.
use Rattle.std.proofs.Common.{◌≡◌, ◌∙◌, ℕ, zero, suc, true, false, List, [], ◌∷◌, ◌++◌, map, Option, Some, None}
use Rattle.std.proofs.Common.{slice_get, refl, sym, ap, subst}
use Rattle.cat_value.specs.declared.ty.Ty.{Ty}
use Rattle.cat_value.specs.declared.ty.Ty.TheVariants as flat
use Rattle.cat_value.specs.declared.ty.Ty.TheViews as ty
use Rattle.cat_value.specs.declared.decls.Decls.{Decls}
use Rattle.cat_value.specs.declared.declaration.Field.{Field}
use Rattle.cat_value.specs.declared.declaration.Case.{Case}
use Rattle.cat_value.specs.declared.declaration.Enumeration.{Enumeration}
use Rattle.cat_value.specs.declared.declaration.ItemDecl.{ItemDecl}
use Rattle.cat_value.specs.declared.declaration.Kind.{Kind}
use Rattle.cat_value.specs.Entries.{content_of, content_in, fields_of}
use Rattle.cat_value.specs.Entries as entries
use Rattle.cat_scope.specs.declared.expr.ArmPattern.{ArmPattern}
use Rattle.cat_scope.specs.declared.expr.ArmPattern.TheVariants as pattern
use Rattle.cat_scope.specs.declared.expr.Arm.{Arm}
use Rattle.cat_scope.specs.declared.expr.Expr.{Expr}
use Rattle.cat_scope.specs.Fitting.{ArmLocals, field_at, type_in}
use Rattle.cat_scope.specs.HasType.{ArmsHaveType, HasType}
use Rattle.cat_scope.specs.HasType as typed
use Rattle.cat_scope.specs.Names.{Names}
use Rattle.cat_table.specs.declared.named_type.NamedType.{NamedType}
use Rattle.cat_table.specs.declared.named_type.NamedType.TheVariants as of_type
use Rattle.cat_table.specs.NamedTypes.{named, item_named, called_output, output_by, field_in, field_named, case_at}
use Rattle.cat_table.specs.NamedTypes.{case_in, content_named}
use Rattle.cat_table.specs.Told.{arm_locals, arms_told, found_in, told}
use Rattle.cat_table.proofs.ToldEquations.{told_Literal, told_Item, told_Output, told_Local, told_Field, told_Unary}
use Rattle.cat_table.proofs.ToldEquations.{told_Binary, told_And, told_Or, told_If, told_Match, told_IsCase, told_Case}
use Rattle.cat_table.proofs.ToldEquations.{told_Structure, told_List, told_ForAll, told_Exists, told_Map, told_Filter}
use Rattle.cat_table.proofs.ToldEquations.{told_Combine, told_Contains, told_Length, told_Sum, told_Call}
use Rattle.cat_table.proofs.ToldEquations.{told_ScopeCall}

-- what the first tells, the second is
abbrev IsBelow : Option NamedType → Option NamedType → Type 0
IsBelow x y = (m : NamedType) → x ≡ Some m → y ≡ Some m

-- what local names tell, their types are
abbrev AreBelow : List (Option NamedType) → List Ty → Type 0
AreBelow [] [] = Unit {0}
AreBelow [] (t ∷ ts) = ⊥
AreBelow (x ∷ xs) [] = ⊥
AreBelow (x ∷ xs) (t ∷ ts) = IsBelow x (named t) × AreBelow xs ts

-- nothing is told
absent : (x y : Option NamedType) → x ≡ None → IsBelow x y
absent x y none m is = absurd (cc (none, is))

-- it is told as it is
exact : (x y : Option NamedType) → x ≡ y → IsBelow x y
exact x y same m is = sym same ∙ is

below_self : (ts : List Ty) → AreBelow (map named ts) ts
below_self [] = tt
below_self (t ∷ ts) = (λ m is. is, below_self ts)

below_at : (xs : List (Option NamedType)) (ts : List Ty) (k : ℕ) (t : Ty) → AreBelow xs ts → slice_get ts k ≡ Some t
    → IsBelow (found_in (slice_get xs k)) (named t)
below_at [] [] k t are is = absurd (cc is)
below_at [] (u ∷ ts) k t are is = absurd are
below_at (x ∷ xs) [] k t are is = absurd are
below_at (x ∷ xs) (u ∷ ts) zero t are is =
    let same : u ≡ t = cc is in subst (λ (v : Ty). IsBelow x (named v)) same are.0
below_at (x ∷ xs) (u ∷ ts) (suc k) t are is = below_at xs ts k t are.1 is

below_more : (xs : List (Option NamedType)) (ts : List Ty) (x : Option NamedType) (t : Ty) → AreBelow xs ts
    → IsBelow x (named t) → AreBelow (xs ++ x ∷ []) (ts ++ t ∷ [])
below_more [] [] x t are is = (is, tt)
below_more [] (u ∷ ts) x t are is = absurd are
below_more (y ∷ xs) [] x t are is = absurd are
below_more (y ∷ xs) (u ∷ ts) x t are is = (are.0, below_more xs ts x t are.1 is)

structure_named : (n : ℕ) → named (flat.Structure n) ≡ Some (of_type.Structure n)
structure_named n = rw (ty.outs-Structure n) refl

enumeration_named : (n : ℕ) → named (flat.Enumeration n) ≡ Some (of_type.Enumeration n)
enumeration_named n = rw (ty.outs-Enumeration n) refl

field_so : (f : Option Field) (t : Ty) → type_in f ≡ Some t → field_named f ≡ named t
field_so None t is = absurd (cc is)
field_so (Some f) t is = let same : f.ty ≡ t = cc is in ap named same

-- a field of what an expression of a structure tells
field_below : (ds : Decls) (n k : ℕ) (t : Ty) (x : Option NamedType) → IsBelow x (Some (of_type.Structure n))
    → type_in (field_at (fields_of ds n) k) ≡ Some t → IsBelow (field_named (field_in ds k x)) (named t)
field_below ds n k t None below is m told = absurd (cc told)
field_below ds n k t (Some (of_type.Enumeration j)) below is m told = absurd (cc told)
field_below ds n k t (Some (of_type.Structure j)) below is m told =
    let same : n ≡ j = cc (below (of_type.Structure j) refl) in
    sym (field_so (field_at (fields_of ds n) k) t is)
    ∙ ap (λ i. field_named (field_at (fields_of ds i) k)) same ∙ told

case_so : (c : Option Case) (t : Ty) → content_in c ≡ Some (Some t) → content_named c ≡ named t
case_so None t is = absurd (cc is)
case_so (Some c) t is =
    let same : c.content ≡ Some t = cc is in
    ap (λ (o : Option Ty). content_named (Some (record { name = c.name; content = o }))) same

content_so : (k : ℕ) (e : Option Enumeration) (t : Ty) → entries.case_in k e ≡ Some (Some t)
    → content_named (case_at k e) ≡ named t
content_so k None t is = absurd (cc is)
content_so k (Some e) t is = case_so (slice_get e.cases k) t is

-- the content of a case of what an expression of an enumeration tells
content_below : (ds : Decls) (n k : ℕ) (t : Ty) (x : Option NamedType) → IsBelow x (Some (of_type.Enumeration n))
    → content_of ds n k ≡ Some (Some t) → IsBelow (content_named (case_in ds k x)) (named t)
content_below ds n k t None below is m told = absurd (cc told)
content_below ds n k t (Some (of_type.Structure j)) below is m told = absurd (cc told)
content_below ds n k t (Some (of_type.Enumeration j)) below is m told =
    let same : n ≡ j = cc (below (of_type.Enumeration j) refl) in
    sym (content_so k (slice_get ds.enumerations n) t is)
    ∙ ap (λ i. content_named (case_at k (slice_get ds.enumerations i))) same ∙ told

-- the local names in an arm
arm_below : (ds : Decls) (n : ℕ) (p : ArmPattern) (ls inside : List Ty) (xs : List (Option NamedType))
    (x : Option NamedType) → ArmLocals ds n p ls inside → AreBelow xs ls → IsBelow x (Some (of_type.Enumeration n))
    → AreBelow (arm_locals ds x p xs) inside
arm_below ds n pattern.Anything ls inside xs x is are below = subst (AreBelow xs) (sym is) are
arm_below ds n (pattern.Case k false) ls inside xs x is are below = subst (AreBelow xs) (sym is.1) are
arm_below ds n (pattern.Case k true) ls inside xs x is are below =
    subst (AreBelow (xs ++ content_named (case_in ds k x) ∷ [])) (sym is.2)
    (below_more xs ls (content_named (case_in ds k x)) is.0 are (content_below ds n k is.0 x below is.1))

module _ (ns : Names) where
  abbrev tells : Expr → List (Option NamedType) → Option NamedType
  tells e xs = told ns.decls ns.items e xs

  mutual
    so : {ls : List Ty} {e : Expr} {t : Ty} → HasType ns ls e t → (xs : List (Option NamedType)) → AreBelow xs ls
        → IsBelow (tells e xs) (named t)
    so (typed.literal {p = p} {l = l} fits) xs are m found = absent _ _ (told_Literal ns.decls ns.items p l xs) m found
    so (typed.item {p = p} {i = i} is) xs are m found =
        exact _ _ (told_Item ns.decls ns.items p i xs ∙ ap item_named is.1 ∙ ap named (sym is.3)) m found
    so (typed.output {p = p} {i = i} {k = k} is) xs are m found =
        exact _ _ (told_Output ns.decls ns.items p i k xs
        ∙ ap (λ (o : Option ItemDecl). item_named (called_output ns.decls k o)) is.called_is
        ∙ ap (λ (d : Kind). item_named (output_by ns.decls k d)) is.kind_is
        ∙ ap item_named is.output_is ∙ ap named (sym is.ty_is)) m found
    so {ls} {t = t} (typed.local {p = p} {k = k} is) xs are m found =
        below_at xs ls k t are is m (sym (told_Local ns.decls ns.items p k xs) ∙ found)
    so {ls} {t = t} (typed.field {p = p} {e = e} {k = k} n g is) xs are m found =
        field_below ns.decls n k t (tells e xs) (λ m found. sym (structure_named n) ∙ so g xs are m found) is m
        (sym (told_Field ns.decls ns.items p e k xs) ∙ found)
    so (typed.unary {p = p} {o = o} {e = e} g) xs are m found =
        absent _ _ (told_Unary ns.decls ns.items p o e xs) m found
    so (typed.binary {p = p} {q = q} {o = o} {a = a} {b = b} s is g h) xs are m found =
        absent _ _ (told_Binary ns.decls ns.items p o q a b xs) m found
    so (typed.both {p = p} {a = a} {b = b} g h) xs are m found =
        absent _ _ (told_And ns.decls ns.items p a b xs) m found
    so (typed.any {p = p} {a = a} {b = b} g h) xs are m found = absent _ _ (told_Or ns.decls ns.items p a b xs) m found
    so (typed.choice {p = p} {c = c} {a = a} {b = b} f g h) xs are m found =
        so g xs are m (sym (told_If ns.decls ns.items p c a b xs) ∙ found)
    so (typed.matching {p = p} {e = e} {arms = arms} n g each whole) xs are m found =
        arms_so each xs are (tells e xs) (λ m found. sym (enumeration_named n) ∙ so g xs are m found) m
        (sym (told_Match ns.decls ns.items p e arms xs) ∙ found)
    so (typed.is_case {p = p} {e = e} {n = n} {k = k} g is) xs are m found =
        absent _ _ (told_IsCase ns.decls ns.items p e n k xs) m found
    so (typed.case_alone {p = p} {n = n} {k = k} is) xs are m found =
        exact _ _ (told_Case ns.decls ns.items p n k None xs ∙ sym (enumeration_named n)) m found
    so (typed.case_with {p = p} {n = n} {k = k} {e = e} t is g) xs are m found =
        exact _ _ (told_Case ns.decls ns.items p n k (Some e) xs ∙ sym (enumeration_named n)) m found
    so (typed.structure {p = p} {n = n} {fs = fs} g there) xs are m found =
        exact _ _ (told_Structure ns.decls ns.items p n fs xs ∙ sym (structure_named n)) m found
    so (typed.list {p = p} {es = es} declared low few each) xs are m found =
        absent _ _ (told_List ns.decls ns.items p es xs) m found
    so (typed.for_all {p = p} {l = l} {test = test} t g h) xs are m found =
        absent _ _ (told_ForAll ns.decls ns.items p l test xs) m found
    so (typed.exists {p = p} {l = l} {test = test} t g h) xs are m found =
        absent _ _ (told_Exists ns.decls ns.items p l test xs) m found
    so (typed.map_each {p = p} {l = l} {e = e} t g h declared low) xs are m found =
        absent _ _ (told_Map ns.decls ns.items p l e xs) m found
    so (typed.filter {p = p} {l = l} {test = test} t g h) xs are m found =
        absent _ _ (told_Filter ns.decls ns.items p l test xs) m found
    so (typed.combine {p = p} {l = l} {start = start} {e = e} t g h i) xs are m found =
        so h xs are m (sym (told_Combine ns.decls ns.items p l start e xs) ∙ found)
    so (typed.contains {p = p} {q = q} {l = l} {e = e} t g h is) xs are m found =
        absent _ _ (told_Contains ns.decls ns.items p q l e xs) m found
    so (typed.number_of {p = p} {l = l} t g) xs are m found = absent _ _ (told_Length ns.decls ns.items p l xs) m found
    so (typed.sum {p = p} {k = k} {l = l} g) xs are m found = absent _ _ (told_Sum ns.decls ns.items p k l xs) m found
    so (typed.call {p = p} {f = f} {es = es} params is g) xs are m found =
        exact _ _ (told_Call ns.decls ns.items p f es xs ∙ ap item_named is.decl_is ∙ ap named (sym is.ty_is)) m found
    so (typed.scope_call {p = p} {s = s} {k = k} {fs = fs} g there is) xs are m found =
        exact _ _ (told_ScopeCall ns.decls ns.items p s fs k xs ∙ ap item_named is.1 ∙ ap named (sym is.2)) m found

    arms_so : {ls : List Ty} {n : ℕ} {arms : List Arm} {t : Ty} → ArmsHaveType ns ls n arms t
        → (xs : List (Option NamedType)) → AreBelow xs ls → (x : Option NamedType)
        → IsBelow x (Some (of_type.Enumeration n))
        → IsBelow (arms_told ns.decls x (map (λ (a : Arm). (a.pattern, tells a.body)) arms) xs) (named t)
    arms_so typed.arms_none xs are x below m found = absurd (cc found)
    arms_so {ls} {n} (typed.arms_more {a = a} inside is g more) xs are x below m found =
        so g (arm_locals ns.decls x a.pattern xs) (arm_below ns.decls n a.pattern ls inside xs x is are below) m found

pub told_so : (ns : Names) (ls : List Ty) (e : Expr) (t : Ty) (m : NamedType) → HasType ns ls e t
    → told ns.decls ns.items e (map named ls) ≡ Some m → named t ≡ Some m
told_so ns ls e t m has found = so ns has (map named ls) (below_self ls) m found
