-- The code of a calculus has the files of the definitions, the assertions and the items of which it is made; its
-- targets are variables.
use Rattle.std.proofs.Common.{ℕ, zero, suc, ◌+◌, Bool, true, false, List, [], ◌∷◌, length, Option, Some, None}
use Rattle.std.proofs.Common.{◌≡◌, ◌∙◌, slice_get, refl, sym, ap, subst, true≢false, not, ◌&&◌, IfSome, if◌then◌else◌}
use Rattle.std.proofs.Common.{arith}
use Rattle.cat_pos.specs.declared.pos.Pos.{Pos}
use Rattle.cat_pos.specs.Position.{pos_file}
use Rattle.cat_value.specs.declared.ty.Ty.{Ty}
use Rattle.cat_value.specs.declared.decls.Decls.{Decls}
use Rattle.cat_value.specs.declared.declaration.Kind.{Kind}
use Rattle.cat_value.specs.declared.declaration.Kind.TheVariants as kind
use Rattle.cat_value.specs.declared.declaration.ItemDecl.{ItemDecl}
use Rattle.cat_value.specs.declared.declaration.Scope.{Scope}
use Rattle.cat_value.specs.Inputs.{is_called, is_function, has_none, must_be_given, may_be_given, is_output}
use Rattle.cat_scope.specs.declared.expr.Expr.{Expr}
use Rattle.cat_scope.specs.declared.defs.Assertion.{Assertion}
use Rattle.cat_scope.specs.declared.defs.Body.{Body}
use Rattle.cat_scope.specs.Judging as judging
use Rattle.cat_scope.specs.Names.{AllHave, items_in, scope_items}
use Rattle.cat_scope.proofs.Exported.{all_append}
use Rattle.cat_calc.specs.declared.term.DefaultTerm.{DefaultTerm}
use Rattle.cat_calc.specs.declared.calcs.ItemTerms.{ItemTerms}
use Rattle.cat_calc.specs.declared.calcs.CalcScope.{CalcScope}
use Rattle.cat_calc.specs.declared.calcs.Calc.{Calc}
use Rattle.cat_calc.specs.Desugared.{IsTermOf, IsMadeOf, AreMadeOf}
use Rattle.cat_calc.specs.Terms.{consequences_in}
use Rattle.cat_calc.specs.Reducing.{term_among}
use Rattle.cat_calc.specs.WellFormed.{all_terms}
use Rattle.cat_code.specs.declared.instr.Instr.{Instr}
use Rattle.cat_code.specs.declared.instr.Instr.TheVariants as instr
use Rattle.cat_code.specs.declared.code.TargetEntry.{TargetEntry}
use Rattle.cat_code.specs.declared.code.Tables.{Tables}
use Rattle.cat_code.specs.Places.{functions_in, called_scope, inner_item, inner_of, target_decl}
use Rattle.cat_lower.specs.Files.{AssertionFits, BodyFits, ScopeFits, TargetFits, TablesFit}
use Rattle.cat_lower.specs.Laying.{Ends, one, then_code, led, end_of}
use Rattle.cat_lower.specs.Terms.{target_code, context_code}
use Rattle.cat_lower.specs.Scopes.{ScopeStanding, target_at, term_at, variable_code, function_code, functions_code}
use Rattle.cat_lower.specs.Scopes.{inner_code, inner_codes, called_code, stored_code, kind_code, item_code, items_code}
use Rattle.cat_lower.specs.Scopes.{outputs_code}
use Rattle.cat_lower.specs.Rows.{Standing}
use Rattle.cat_lower.specs.Definitions.{placed, all_placed, terms_placed, definitions_of}
use Rattle.cat_lower.specs.Lowered.{AreCodeOf, assertions_code, scope_code, standing, scopes_laid}
use Rattle.cat_lower.specs.Lowered.{none}
use Rattle.cat_lower.proofs.LaidFiles as laid
use Rattle.cat_lower.proofs.LaidFiles.{Fits}
use Rattle.cat_lower.proofs.LoweredFiles.{lowered_fits}
use Rattle.cat_lower.proofs.TermFiles.{TermFits, all_more, made_fits, target_fits, context_fits}

at_index : {A : Type 0} (P : A → Type 0) (xs : List A) (n : ℕ) → AllHave P xs → IfSome (slice_get xs n) P
at_index P [] n h = tt
at_index P (x ∷ xs) zero h = h.0
at_index P (x ∷ xs) (suc n) h = at_index P xs n h.1

not_called : (b c : Bool) → (not b && c) ≡ true → b ≡ false
not_called false c e = refl
not_called true c e = absurd (true≢false (sym e))

given_plain : (k : Kind) → may_be_given k ≡ true → is_called k ≡ false
given_plain kind.Input e = refl
given_plain kind.Output e = refl
given_plain kind.InputOutput e = refl
given_plain kind.Internal e = refl
given_plain kind.Context e = refl
given_plain kind.ContextOutput e = refl
given_plain (kind.Called s) e = absurd (true≢false (sym e))

one_on : (n k : ℕ) → n + suc k ≡ n + 1 + k
one_on n k = omega arith

at_first : (n : ℕ) → n + 0 ≡ n
at_first n = omega arith

from_first : (n : ℕ) → 0 + n ≡ n
from_first n = omega arith

all_at : {A : Type 0} (P : A → Type 0) (xs : List A) (n : ℕ) (x : A) → AllHave P xs → slice_get xs n ≡ Some x → P x
all_at P xs n x h is = subst (λ (o : Option _). IfSome o P) is (at_index P xs n h)

module _ (Q : ℕ → Type 0) where
  -- ---- scopes

  abbrev TermsFit : List ItemTerms → Type 0
  TermsFit terms = AllHave (λ one. AllHave (TermFits Q) (all_terms one)) terms

  term_there : (terms : List ItemTerms) → TermsFit terms → (item : ℕ) (inner : Option ℕ)
      → IfSome (term_among (slice_get terms item) inner) (TermFits Q)
  term_there terms h item inner = by (slice_get terms item) (at_index _ terms item h) inner
    where
      by : (o : Option ItemTerms) → IfSome o (λ one. AllHave (TermFits Q) (all_terms one)) → (inner : Option ℕ)
          → IfSome (term_among o inner) (TermFits Q)
      by None h inner = tt
      by (Some one) h None = h.0
      by (Some one) h (Some n) = at_index (TermFits Q) one.inner n h.1

  -- ---- definitions

  abbrev Places : List Pos → Type 0
  Places ps = AllHave (λ p. Q (pos_file p)) ps

  placed_fits : (n : ℕ) (p : Pos) (ps : List Pos) → Q (pos_file p) → Places ps → Places (placed n p ps)
  placed_fits zero p [] has h = (has, tt)
  placed_fits zero p (q ∷ qs) has h = (has, h.1)
  placed_fits (suc n) p [] has h = (has, placed_fits n p [] has tt)
  placed_fits (suc n) p (q ∷ qs) has h = (h.0, placed_fits n p qs has h.1)

  all_placed_fit : (hs : List (judging.Held Expr)) (ps : List Pos)
      → AllHave (λ (h : judging.Held Expr). Q (pos_file h.pos)) hs → Places ps → Places (all_placed hs ps)
  all_placed_fit [] ps h i = i
  all_placed_fit (x ∷ hs) ps h i =
      all_placed_fit hs (placed x.number x.pos ps) h.1 (placed_fits x.number x.pos ps h.0 i)

  terms_placed_fit : (ts : List DefaultTerm) (ps : List Pos) → AllHave (TermFits Q) ts → Places ps
      → Places (terms_placed ts ps)
  terms_placed_fit [] ps h i = i
  terms_placed_fit (t ∷ ts) ps h i =
      terms_placed_fit ts (all_placed (consequences_in t) ps) h.1 (all_placed_fit (consequences_in t) ps h.0.places i)

  definitions_fit : (terms : List ItemTerms) (ps : List Pos) → TermsFit terms → Places ps
      → Places (definitions_of terms ps)
  definitions_fit [] ps h i = i
  definitions_fit (one ∷ terms) ps h i =
      definitions_fit terms (terms_placed (all_terms one) ps) h.1 (terms_placed_fit (all_terms one) ps h.0 i)

  -- ---- all scopes

  pub record CalcFits (s : CalcScope) : Type 0 where
    pub terms : TermsFit s.terms
    pub assertions : AllHave (AssertionFits Q) s.assertions

  scopes_definitions_fit : (ds : Decls) (n functions definitions : ℕ) (scopes : List Scope) (all : List CalcScope)
      (ends : Ends) → AllHave CalcFits all
      → Places (scopes_laid ds n functions definitions scopes all ends).definitions
  scopes_definitions_fit ds n functions definitions [] all ends i = tt
  scopes_definitions_fit ds n functions definitions (s ∷ scopes) [] ends i = tt
  scopes_definitions_fit ds n functions definitions (s ∷ scopes) (t ∷ all) ends i =
      all_append (λ p. Q (pos_file p)) (definitions_of t.terms []) _ (definitions_fit t.terms [] i.0.terms tt)
      (scopes_definitions_fit ds (n + 1) (functions + length (functions_in n 0 s.items))
      (definitions + length (definitions_of t.terms [])) scopes all
      (end_of (scope_code (standing ds n functions definitions s t)) ends) i.1)

  -- ---- of bodies

  scope_made : (b : Body) (s : CalcScope) → IsMadeOf b s → BodyFits Q b → CalcFits s
  scope_made b s made fit = record {
    terms =
        all_more (λ one. AllHave (IsTermOf b.defs) (all_terms one)) (λ one. AllHave (TermFits Q) (all_terms one))
        s.terms made.terms (λ one terms.
        all_more (IsTermOf b.defs) (TermFits Q) (all_terms one) terms (made_fits Q b.defs fit.defs));
    assertions = subst (AllHave (AssertionFits Q)) (sym made.assertions) fit.assertions;
  }

  scopes_made : (bodies : List Body) (scopes : List CalcScope) → AreMadeOf bodies scopes → AllHave (BodyFits Q) bodies
      → AllHave CalcFits scopes
  scopes_made bodies [] made fit = tt
  scopes_made [] (s ∷ scopes) made fit = absurd made
  scopes_made (b ∷ bodies) (s ∷ scopes) made fit =
      (scope_made b s made.0 fit.0, scopes_made bodies scopes made.1 fit.1)

module _ (Q : ℕ → Type 0) (T : TargetEntry → Type 0) where
  -- the targets that an item may have: its own where it calls no scope, else the variables of the scope that it calls
  pub record AreAims (at : ScopeStanding) (item : ℕ) (decl : ItemDecl) : Type 0 where
    pub own : is_called decl.kind ≡ false → T (target_at at item None decl)
    pub inner : (called n : ℕ) (i : ItemDecl) → decl.kind ≡ kind.Called called
        → slice_get (scope_items at.here.names.decls called) n ≡ Some i → is_called i.kind ≡ false
        → T (target_at at item (Some n) decl)

  module _ (at : ScopeStanding) (terms : TermsFit Q at.scope.terms)
      (aims : (item : ℕ) (decl : ItemDecl) → slice_get at.here.names.items item ≡ Some decl → AreAims at item decl)
    where
      variable_fits : (item : ℕ) (decl : ItemDecl) → T (target_at at item None decl)
          → Fits Q T (variable_code at item decl)
      variable_fits item decl has =
          target_fits Q T at.here (target_at at item None decl) decl.ty decl.params decl.condition
          (term_at at item None) has (term_there Q at.scope.terms terms item None)

      functions_fit : (n : ℕ) (items : List ItemDecl)
          → ((k : ℕ) (d : ItemDecl) → slice_get items k ≡ Some d → AreAims at (n + k) d)
          → Fits Q T (functions_code at n items)
      functions_fit n [] each = laid.fits_nothing Q T
      functions_fit n (item ∷ items) each =
          by (is_function item) refl (functions_fit (n + 1) items
          (λ k d is. subst (λ m. AreAims at m d) (one_on n k) (each (suc k) d is)))
        where
          first : AreAims at n item
          first = subst (λ m. AreAims at m item) (at_first n) (each 0 item refl)

          by : (b : Bool) → is_function item ≡ b → Fits Q T (functions_code at (n + 1) items)
              → Fits Q T (if b then then_code (function_code at n item) (functions_code at (n + 1) items)
              else functions_code at (n + 1) items)
          by true is rest =
              laid.fits_then Q T _ _ (laid.fits_then Q T _ _ (variable_fits n item
              (first.own (not_called (is_called item.kind) (not (has_none item.params)) is)))
              (laid.fits_one Q T _)) rest
          by false is rest = rest

      inner_fits : (item : ℕ) (decl : ItemDecl) (n : ℕ) (inner : ItemDecl) → T (target_at at item (Some n) decl)
          → Fits Q T (inner_code at item decl n inner)
      inner_fits item decl n inner has = by (must_be_given inner.kind)
        where
          own : IfSome (term_at at item (Some n)) (TermFits Q)
          own = term_there Q at.scope.terms terms item (Some n)

          by : (b : Bool) → Fits Q T (if b
              then then_code
              (target_code at.here (target_at at item (Some n) decl) inner.ty [] inner.condition
              (term_at at item (Some n)))
              (one (instr.Pass n))
              else context_code at.here (target_at at item (Some n) decl) inner.ty n (term_at at item (Some n)))
          by true = laid.fits_then Q T _ _ (target_fits Q T at.here (target_at at item (Some n) decl) inner.ty []
              inner.condition (term_at at item (Some n)) has own) (laid.fits_one Q T _)
          by false =
              context_fits Q T at.here (target_at at item (Some n) decl) inner.ty n (term_at at item (Some n)) has own

      inner_all_fit : (item : ℕ) (decl : ItemDecl) (n : ℕ) (items : List ItemDecl)
          → ((k : ℕ) (i : ItemDecl) → slice_get items k ≡ Some i → is_called i.kind ≡ false
          → T (target_at at item (Some (n + k)) decl)) → Fits Q T (inner_codes at item decl n items)
      inner_all_fit item decl n [] each = laid.fits_nothing Q T
      inner_all_fit item decl n (inner ∷ rest) each =
          by (may_be_given inner.kind) refl (inner_all_fit item decl (n + 1) rest
          (λ k i is plain. subst (λ m. T (target_at at item (Some m) decl)) (one_on n k) (each (suc k) i is plain)))
        where
          by : (b : Bool) → may_be_given inner.kind ≡ b → Fits Q T (inner_codes at item decl (n + 1) rest)
              → Fits Q T (if b
              then then_code (inner_code at item decl n inner) (inner_codes at item decl (n + 1) rest)
              else inner_codes at item decl (n + 1) rest)
          by true given more =
              laid.fits_then Q T _ _ (inner_fits item decl n inner (subst (λ m. T (target_at at item (Some m) decl))
              (at_first n) (each 0 inner refl (given_plain inner.kind given)))) more
          by false given more = more

      called_fits : (item : ℕ) (decl : ItemDecl) (called : ℕ) → decl.kind ≡ kind.Called called
          → AreAims at item decl → Fits Q T (called_code at item decl called)
      called_fits item decl called is aim =
          laid.fits_led Q T _ _ (laid.fits_then Q T _ _
          (inner_all_fit item decl 0 (scope_items at.here.names.decls called) (λ k i there plain.
          subst (λ m. T (target_at at item (Some m) decl)) (sym (from_first k)) (aim.inner called k i is there plain)))
          (laid.fits_led Q T _ _ (laid.fits_one Q T _)))

      stored_fits : (item : ℕ) (decl : ItemDecl) (params : List Ty) → T (target_at at item None decl)
          → Fits Q T (stored_code at item decl params)
      stored_fits item decl [] has = laid.fits_then Q T _ _ (variable_fits item decl has) (laid.fits_one Q T _)
      stored_fits item decl (t ∷ ts) has = laid.fits_nothing Q T

      plainly : (decl : ItemDecl) (k : Kind) → decl.kind ≡ k → is_called k ≡ false → is_called decl.kind ≡ false
      plainly decl k is plain = ap (λ (q : Kind). is_called q) is ∙ plain

      kind_fits : (item : ℕ) (decl : ItemDecl) (k : Kind) → decl.kind ≡ k → AreAims at item decl
          → Fits Q T (kind_code at item decl k)
      kind_fits item decl kind.Input is aim = laid.fits_nothing Q T
      kind_fits item decl kind.InputOutput is aim = laid.fits_nothing Q T
      kind_fits item decl kind.Context is aim =
          laid.fits_over Q T (λ t. instr.Given item t) _
          (stored_fits item decl decl.params (aim.own (plainly decl kind.Context is refl)))
      kind_fits item decl kind.ContextOutput is aim =
          laid.fits_over Q T (λ t. instr.Given item t) _
          (stored_fits item decl decl.params (aim.own (plainly decl kind.ContextOutput is refl)))
      kind_fits item decl (kind.Called called) is aim = called_fits item decl called is aim
      kind_fits item decl kind.Output is aim =
          stored_fits item decl decl.params (aim.own (plainly decl kind.Output is refl))
      kind_fits item decl kind.Internal is aim =
          stored_fits item decl decl.params (aim.own (plainly decl kind.Internal is refl))

      item_fits : (item : ℕ) (o : Option ItemDecl) → slice_get at.here.names.items item ≡ o
          → Fits Q T (item_code at item o)
      item_fits item None is = laid.fits_nothing Q T
      item_fits item (Some decl) is = kind_fits item decl decl.kind refl (aims item decl is)

      items_fit : (order : List ℕ) → Fits Q T (items_code at order)
      items_fit [] = laid.fits_nothing Q T
      items_fit (n ∷ ns) =
          laid.fits_then Q T _ _ (item_fits n (slice_get at.here.names.items n) refl) (items_fit ns)

      assertions_fit : (here : Standing) (more : List Assertion) → AllHave (AssertionFits Q) more
          → Fits Q T (assertions_code here more)
      assertions_fit here [] h = laid.fits_nothing Q T
      assertions_fit here (a ∷ more) h =
          laid.fits_then Q T _ _ (lowered_fits Q T here a.condition h.0.condition [] None)
          (laid.fits_then Q T _ _ (laid.fits_position Q T (λ p. instr.Assert p) a.keyword h.0.place)
          (assertions_fit here more h.1))

      outputs_fit : (n : ℕ) (items : List ItemDecl) → Fits Q T (outputs_code n items)
      outputs_fit n [] = laid.fits_nothing Q T
      outputs_fit n (item ∷ items) = by (is_output item.kind) (outputs_fit (n + 1) items)
        where
          by : (b : Bool) → Fits Q T (outputs_code (n + 1) items)
              → Fits Q T (if b then led (instr.Slot n) (outputs_code (n + 1) items) else outputs_code (n + 1) items)
          by true rest = laid.fits_led Q T _ _ rest
          by false rest = rest

      scope_fits : AllHave (AssertionFits Q) at.scope.assertions → Fits Q T (scope_code at)
      scope_fits assertions =
          laid.fits_then Q T _ _ (functions_fit 0 at.here.names.items
          (λ k d is. subst (λ m. AreAims at m d) (sym (from_first k)) (aims k d is)))
          (laid.fits_then Q T _ _ (items_fit at.scope.order)
          (laid.fits_then Q T _ _ (assertions_fit at.here at.scope.assertions assertions)
          (laid.fits_then Q T _ _ (outputs_fit 0 at.here.names.items)
          (laid.fits_led Q T _ _ (laid.fits_one Q T _)))))

  -- ---- all scopes

  abbrev AllAims : Decls → ℕ → Scope → Type 0
  AllAims ds n s =
      (functions definitions : ℕ) (t : CalcScope) (item : ℕ) (decl : ItemDecl) → slice_get s.items item ≡ Some decl
      → AreAims (standing ds n functions definitions s t) item decl

  scopes_code_fit : (ds : Decls) (n functions definitions : ℕ) (scopes : List Scope) (all : List CalcScope)
      (ends : Ends) → ((k : ℕ) (s : Scope) → slice_get scopes k ≡ Some s → AllAims ds (n + k) s)
      → AllHave (CalcFits Q) all → laid.Fit Q T (scopes_laid ds n functions definitions scopes all ends).code
  scopes_code_fit ds n functions definitions [] all ends each i = laid.fits_nothing Q T ends
  scopes_code_fit ds n functions definitions (s ∷ scopes) [] ends each i = laid.fits_nothing Q T ends
  scopes_code_fit ds n functions definitions (s ∷ scopes) (t ∷ all) ends each i =
      let at = standing ds n functions definitions s t in
      let first : AllAims ds n s = subst (λ m. AllAims ds m s) (at_first n) (each 0 s refl) in
      laid.fit_joined Q T (scope_code at ends) _
      (scope_fits at i.0.terms (first functions definitions t) i.0.assertions ends)
      (scopes_code_fit ds (n + 1) (functions + length (functions_in n 0 s.items))
      (definitions + length (definitions_of t.terms [])) scopes all (end_of (scope_code at) ends)
      (λ k s is. subst (λ m. AllAims ds m s) (one_on n k) (each (suc k) s is)) i.1)

-- ---- variables

module _ (Q : ℕ → Type 0) (ds : Decls) (places : AllHave (ScopeFits Q) ds.scopes) where
  scope_aims : (n : ℕ) (s : Scope) → slice_get ds.scopes n ≡ Some s → AllAims Q (TargetFits Q ds) ds n s
  scope_aims n s is functions definitions t item decl is_own = record {
    own = λ plain. record { variable = record { item = decl; declared = there; plain = plain }; place = place };
    inner = λ called k i is_called_so at plain. record {
      variable = record {
        item = i;
        declared =
            ap (λ (o : Option ItemDecl). inner_of ds k o) there
            ∙ ap (λ (q : Kind). inner_item ds k (called_scope q)) is_called_so ∙ at;
        plain = plain;
      };
      place = place;
    };
  }
    where
      there : target_decl ds n item None ≡ Some decl
      there = ap (λ (o : Option Scope). slice_get (items_in o) item) is ∙ is_own

      place : Q (pos_file decl.pos)
      place =
          all_at (λ (i : ItemDecl). Q (pos_file i.pos)) s.items item decl
          (all_at (ScopeFits Q) ds.scopes n s places is) is_own

module _ (Q : ℕ → Type 0) where
  -- the tables of the code of a calculus, where that is made of bodies
  pub tables_fit : (calc : Calc) (bodies : List Body) (tables : Tables) (code : List Instr)
      → AreCodeOf calc tables code → AreMadeOf bodies calc.scopes → AllHave (BodyFits Q) bodies
      → AllHave (ScopeFits Q) calc.decls.scopes → TablesFit Q tables
  tables_fit calc bodies tables code low made fit items =
      let scopes = scopes_made Q bodies calc.scopes made fit in
      let laid_fit = scopes_code_fit Q (TargetFits Q calc.decls) calc.decls 0 0 0 calc.decls.scopes calc.scopes none
      (λ k s is. subst (λ m. AllAims Q (TargetFits Q calc.decls) calc.decls m s) (sym (from_first k))
      (scope_aims Q calc.decls items k s is)) scopes in
      record {
        items = subst (λ (ds : Decls). AllHave (ScopeFits Q) ds.scopes) (sym low.decls) items;
        targets = subst (λ (ds : Decls). AllHave (TargetFits Q ds) tables.targets) (sym low.decls)
            (subst (λ (ts : List TargetEntry). AllHave (TargetFits Q calc.decls) ts) (sym low.targets)
            laid_fit.targets);
        definitions = subst (Places Q) (sym low.definitions)
            (scopes_definitions_fit Q calc.decls 0 0 0 calc.decls.scopes calc.scopes none scopes);
        positions = subst (Places Q) (sym low.positions) laid_fit.positions;
      }
