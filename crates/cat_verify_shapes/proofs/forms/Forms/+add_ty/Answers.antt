use Rattle.std.proofs.Common.{arith, rules}
use Rattle.cat_value.specs.declared.ty.Ty.TheViews as ty
use Rattle.cat_code.specs.Forms.{form_of}
use Rattle.cat_verify_shapes.specs.declared.forms.Form.TheVariants as form
use Rattle.cat_verify_shapes.proofs.PassLemmas.{grows_same}
use Rattle.cat_verify_shapes.proofs.TypeForms.{element_low, stands_Boolean, stands_Integer, stands_Decimal}
use Rattle.cat_verify_shapes.proofs.TypeForms.{stands_Money}
use Rattle.cat_verify_shapes.proofs.TypeForms.{stands_Date, stands_Duration, stands_Enumeration, stands_List}
use Rattle.cat_verify_shapes.proofs.TypeForms.{stands_Structure}
use Rattle.cat_verify_shapes.proofs.AddLemmas.{adds_more, adds_list, adds_none}
use Rattle.cat_verify_shapes.proofs.forms.Forms.+add_ty.Goals as goal

pub add_ty-requires : goal.add_ty-requires
add_ty-requires t c = (
  search (rules, arith, ty.the_lemmas),
  element_low c.args.decls.now c.get.result.now c.args.ty.now c.in-List.element c.in-List.is c.get.ensures c.requires,
)

pub returns-in-Boolean : goal.returns-in-Boolean
returns-in-Boolean t c =
    let ds = c.args.decls.now in
    let s = c.args.self.now in
    adds_more ds s c.add.new.self s c.add.result form.Truth (form_of ds c.args.ty.now) (grows_same s) c.add.ensures
    (stands_Boolean ds c.add.new.self c.add.result c.args.ty.now c.in-Boolean.is)

pub returns-in-Integer : goal.returns-in-Integer
returns-in-Integer t c =
    let ds = c.args.decls.now in
    let s = c.args.self.now in
    adds_more ds s c.add-in-Integer.new.self s c.add-in-Integer.result form.Whole (form_of ds c.args.ty.now)
    (grows_same s) c.add-in-Integer.ensures
    (stands_Integer ds c.add-in-Integer.new.self c.add-in-Integer.result c.args.ty.now c.in-Integer.is)

pub returns-in-Decimal : goal.returns-in-Decimal
returns-in-Decimal t c =
    let ds = c.args.decls.now in
    let s = c.args.self.now in
    adds_more ds s c.add-in-Decimal.new.self s c.add-in-Decimal.result form.Fraction (form_of ds c.args.ty.now)
    (grows_same s) c.add-in-Decimal.ensures
    (stands_Decimal ds c.add-in-Decimal.new.self c.add-in-Decimal.result c.args.ty.now c.in-Decimal.is)

pub returns-in-Money : goal.returns-in-Money
returns-in-Money t c =
    let ds = c.args.decls.now in
    let s = c.args.self.now in
    adds_more ds s c.add-in-Money.new.self s c.add-in-Money.result form.Amount (form_of ds c.args.ty.now)
    (grows_same s) c.add-in-Money.ensures
    (stands_Money ds c.add-in-Money.new.self c.add-in-Money.result c.args.ty.now c.in-Money.is)

pub returns-in-Date : goal.returns-in-Date
returns-in-Date t c =
    let ds = c.args.decls.now in
    let s = c.args.self.now in
    adds_more ds s c.add-in-Date.new.self s c.add-in-Date.result form.Day (form_of ds c.args.ty.now) (grows_same s)
    c.add-in-Date.ensures
    (stands_Date ds c.add-in-Date.new.self c.add-in-Date.result c.args.ty.now c.in-Date.is)

pub returns-in-Duration : goal.returns-in-Duration
returns-in-Duration t c =
    let ds = c.args.decls.now in
    let s = c.args.self.now in
    adds_more ds s c.add-in-Duration.new.self s c.add-in-Duration.result form.Span (form_of ds c.args.ty.now)
    (grows_same s) c.add-in-Duration.ensures
    (stands_Duration ds c.add-in-Duration.new.self c.add-in-Duration.result c.args.ty.now c.in-Duration.is)

pub returns-in_ok-element-in-List : goal.returns-in_ok-element-in-List
returns-in_ok-element-in-List t c =
    let ds = c.args.decls.now in
    let s = c.args.self.now in
    let u = c.get.result.now in
    let n = c.in_ok-element-in-List.element in
    let had = c.in_ok-element-in-List.ensures in
    adds_list ds s c.add_ty.new.self c.add-in-List.new.self c.add-in-List.result n u
    (form_of ds c.args.ty.now) had c.add-in-List.ensures
    (λ stands. stands_List ds c.add-in-List.new.self c.add-in-List.result c.args.ty.now c.in-List.element u n
    c.requires c.in-List.is c.get.ensures stands)

pub returns-in-Structure : goal.returns-in-Structure
returns-in-Structure t c =
    let ds = c.args.decls.now in
    let s = c.args.self.now in
    adds_none ds s c.of_structure.result (form_of ds c.args.ty.now)
    (stands_Structure ds s c.of_structure.result c.args.ty.now c.in-Structure.structure c.in-Structure.is
    c.of_structure.ensures)

pub returns-in-Enumeration : goal.returns-in-Enumeration
returns-in-Enumeration t c =
    let ds = c.args.decls.now in
    let s = c.args.self.now in
    adds_more ds s c.add-in-Enumeration.new.self s c.add-in-Enumeration.result (form.OneOf c.in-Enumeration.enumeration)
    (form_of ds c.args.ty.now) (grows_same s) c.add-in-Enumeration.ensures
    (stands_Enumeration ds c.add-in-Enumeration.new.self c.add-in-Enumeration.result c.args.ty.now
    c.in-Enumeration.enumeration c.in-Enumeration.is)
