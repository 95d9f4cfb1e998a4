-- Where calls of functions lead.
use Rattle.std.proofs.Common.{◌≡◌, ℕ, ◌+◌, nat_eq, ◌&&◌, Bool, true, false, List, [], ◌∷◌}
use Rattle.std.proofs.Common.{◌++◌, length}
use Rattle.std.proofs.Common.{map, reverse, Option, Some, None, slice_get, refl, sym, ap, ◌∙◌}
use Rattle.std.proofs.lemmas.Bool.{eq-eqb, and_left, and_right, and_from}
use Rattle.std.specs.Prelude.{Ok, Err}
use Rattle.cat_value.specs.declared.ty.Ty.{Ty}
use Rattle.cat_code.specs.declared.instr.Instr.TheVariants as instr
use Rattle.cat_code.specs.declared.code.Tables.{Tables}
use Rattle.cat_code.specs.Forms.{Form, form_of}
use Rattle.cat_code.specs.Shapes as meant
use Rattle.cat_code.specs.Places.{FunctionPlace, function_places}
use Rattle.cat_code.specs.Wanted.{are_params}
use Rattle.cat_code.specs.Leads.{Flow, leads_two, with, where_so, pushed, pop_all, function_entry}
use Rattle.cat_code.specs.Flow.{flow}
use Rattle.cat_code.proofs.FormLaws.{same_self}
use Rattle.cat_verify_shapes.specs.declared.forms.Forms.{Forms}
use Rattle.cat_verify_shapes.specs.declared.shape.Shape.{Shape}
use Rattle.cat_verify_shapes.specs.declared.leads.Leads.TheVariants as to
use Rattle.cat_verify_shapes.specs.declared.leads.Stuck.TheVariants as stuck
use Rattle.cat_verify_shapes.specs.inside.Senses.{Senses, Stands}
use Rattle.cat_verify_shapes.specs.inside.Told.{shape_of, Tells}
use Rattle.cat_verify_shapes.specs.inside.Taking.{StandFor, TakesAll}
use Rattle.cat_verify_shapes.proofs.ListLemmas.{long_map}
use Rattle.cat_verify_shapes.proofs.StepLemmas.{with_is, with_not, where_is, where_not}
use Rattle.cat_verify_shapes.proofs.PopLemmas.{params_so, params_not}
use Rattle.cat_verify_shapes.proofs.CountLemmas.{same_not}

module _ (tables : Tables) (forms : Forms) (p : ℕ) where
  abbrev entered_by : ℕ → FunctionPlace → ℕ → meant.Shape → Flow
  entered_by f place entry x = leads_two (p + 1) (pushed (form_of tables.decls place.decl.ty) x) entry
      (function_entry (form_of tables.decls) f place x)

  abbrev called_on : ℕ → ℕ → FunctionPlace → ℕ → meant.Shape → Flow
  called_on f n place entry x = pop_all n x (λ ts s. where_so (are_params (form_of tables.decls) place.decl.params ts)
      (entered_by f place entry s))

  abbrev calling : ℕ → ℕ → meant.Shape → FunctionPlace → ℕ → Flow
  calling f n x place entry = where_so (nat_eq place.scope x.owner.scope && nat_eq n (length place.decl.params))
      (called_on f n place entry x)

  pub call_nowhere : (s : Shape) (f n : ℕ) → slice_get (function_places tables.decls) f ≡ None
      → Tells tables forms (Err stuck.Bad) (flow tables [] (instr.Call f n) p) s
  call_nowhere s f n e = λ d h.
      with_not (slice_get (function_places tables.decls) f)
      (λ place. with (slice_get tables.functions f) (calling f n (shape_of d s) place)) (sym e)

  pub call_without_entry : (s : Shape) (f n : ℕ) → slice_get tables.functions f ≡ None
      → Tells tables forms (Err stuck.Bad) (flow tables [] (instr.Call f n) p) s
  call_without_entry s f n e = λ d h. by_place d (slice_get (function_places tables.decls) f)
    where
      by_place : (d : Senses) (o : Option FunctionPlace)
          → with o (λ place. with (slice_get tables.functions f) (calling f n (shape_of d s) place)) ≡ None
      by_place d None = refl
      by_place d (Some place) = with_not (slice_get tables.functions f) (calling f n (shape_of d s) place) (sym e)

  call_is : (d : Senses) (s : Shape) (f n entry : ℕ) (place : FunctionPlace)
      → slice_get (function_places tables.decls) f ≡ Some place → slice_get tables.functions f ≡ Some entry
      → flow tables [] (instr.Call f n) p (shape_of d s) ≡ calling f n (shape_of d s) place entry
  call_is d s f n entry place is at =
      with_is (slice_get (function_places tables.decls) f) place
      (λ place. with (slice_get tables.functions f) (calling f n (shape_of d s) place)) (sym is)
      ∙ with_is (slice_get tables.functions f) entry (calling f n (shape_of d s) place) (sym at)

  pub call_abroad : (s : Shape) (f n entry : ℕ) (place : FunctionPlace)
      → slice_get (function_places tables.decls) f ≡ Some place → slice_get tables.functions f ≡ Some entry
      → (place.scope ≡ s.owner.scope → ⊥)
      → Tells tables forms (Err stuck.Bad) (flow tables [] (instr.Call f n) p) s
  call_abroad s f n entry place is at other = λ d h.
      call_is d s f n entry place is at
      ∙ where_not (nat_eq place.scope s.owner.scope && nat_eq n (length place.decl.params))
      (called_on f n place entry (shape_of d s))
      (and_left (nat_eq place.scope s.owner.scope) (nat_eq n (length place.decl.params))
      (same_not place.scope s.owner.scope other))

  pub call_counted : (s : Shape) (f n entry : ℕ) (place : FunctionPlace)
      → slice_get (function_places tables.decls) f ≡ Some place → slice_get tables.functions f ≡ Some entry
      → (length place.decl.params ≡ n → ⊥)
      → Tells tables forms (Err stuck.Bad) (flow tables [] (instr.Call f n) p) s
  call_counted s f n entry place is at other = λ d h.
      call_is d s f n entry place is at
      ∙ where_not (nat_eq place.scope s.owner.scope && nat_eq n (length place.decl.params))
      (called_on f n place entry (shape_of d s))
      (and_right (nat_eq place.scope s.owner.scope) (nat_eq n (length place.decl.params))
      (same_not n (length place.decl.params) (λ e. other (sym e))))

  call_home : (d : Senses) (s : Shape) (f n entry : ℕ) (place : FunctionPlace)
      → slice_get (function_places tables.decls) f ≡ Some place → slice_get tables.functions f ≡ Some entry
      → place.scope ≡ s.owner.scope → length place.decl.params ≡ n
      → flow tables [] (instr.Call f n) p (shape_of d s) ≡ called_on f n place entry (shape_of d s)
  call_home d s f n entry place is at home count =
      call_is d s f n entry place is at
      ∙ where_is (nat_eq place.scope s.owner.scope && nat_eq n (length place.decl.params))
      (called_on f n place entry (shape_of d s))
      (and_from (nat_eq place.scope s.owner.scope) (nat_eq n (length place.decl.params))
      (eq-eqb place.scope s.owner.scope home) (eq-eqb n (length place.decl.params) (sym count)))

  long_as : (d : Senses) (ns : List ℕ) (tys : List Ty) (n : ℕ) → map d.one ns ≡ map (form_of tables.decls) tys
      → length tys ≡ n → length ns ≡ n
  long_as d ns tys n stand count =
      sym (long_map d.one ns) ∙ ap length stand ∙ long_map (form_of tables.decls) tys ∙ count

  pub call_unlike : (s r : Shape) (f n entry : ℕ) (place : FunctionPlace) (ns : List ℕ)
      → slice_get (function_places tables.decls) f ≡ Some place → slice_get tables.functions f ≡ Some entry
      → place.scope ≡ s.owner.scope → length place.decl.params ≡ n
      → StandFor tables.decls forms ns place.decl.params → TakesAll s r (reverse ns) false
      → Tells tables forms (Err stuck.Bad) (flow tables [] (instr.Call f n) p) s
  call_unlike s r f n entry place ns is at home count stand other = λ d h.
      call_home d s f n entry place is at home count
      ∙ params_not d h.apart (form_of tables.decls) ns place.decl.params (stand d h) same_self
      (entered_by f place entry)
      s.operands (shape_of d s) n (long_as d ns place.decl.params n (stand d h) count) other

  pub call_so : (s r inner : Shape) (f n entry m : ℕ) (place : FunctionPlace) (ns operands : List ℕ)
      (filled : List Bool)
      → slice_get (function_places tables.decls) f ≡ Some place → slice_get tables.functions f ≡ Some entry
      → place.scope ≡ s.owner.scope → length place.decl.params ≡ n
      → StandFor tables.decls forms ns place.decl.params → TakesAll s r (reverse ns) true
      → Stands tables.decls forms m (form_of tables.decls place.decl.ty) → operands ≡ m ∷ r.operands
      → filled ≡ r.filled
      → inner ≡ record {
        owner = record { scope = place.scope; function = Some f };
        operands = [];
        locals = ns;
        filled = filled;
        defaults = [];
        loops = [];
        pending = [];
      }
      → Tells tables forms (Ok (to.Two (p + 1) (record r { operands = operands }) entry inner))
      (flow tables [] (instr.Call f n) p) s
  call_so s r inner f n entry m place ns operands filled is at home count stand takes stands more copy inner_is = λ d h.
      call_home d s f n entry place is at home count
      ∙ ap (λ (x : Shape). called_on f n place entry (shape_of d x)) takes
      ∙ params_so d h.apart (form_of tables.decls) ns place.decl.params (stand d h) same_self (entered_by f place entry)
      r.operands (shape_of d (record r { operands = reverse ns ++ r.operands })) n
      (long_as d ns place.decl.params n (stand d h) count)
      ∙ ap (λ (t : Form). leads_two (p + 1) (pushed t (shape_of d r)) entry
      (function_entry (form_of tables.decls) f place (shape_of d r))) (sym (stands d h))
      ∙ ap (λ (ts : List Form). leads_two (p + 1) (pushed (d.one m) (shape_of d r)) entry
      (record (function_entry (form_of tables.decls) f place (shape_of d r)) { locals = ts })) (sym (stand d h))
      ∙ ap (λ (ops : List ℕ). leads_two (p + 1) (shape_of d (record r { operands = ops })) entry
      (record (function_entry (form_of tables.decls) f place (shape_of d r)) { locals = map d.one ns })) (sym more)
      ∙ ap (λ (bs : List Bool). leads_two (p + 1) (shape_of d (record r { operands = operands })) entry
      (record (function_entry (form_of tables.decls) f place (shape_of d r)) { locals = map d.one ns; filled = bs }))
      (sym copy)
      ∙ ap (λ (x : Shape). leads_two (p + 1) (shape_of d (record r { operands = operands })) entry (shape_of d x))
      (sym inner_is)
