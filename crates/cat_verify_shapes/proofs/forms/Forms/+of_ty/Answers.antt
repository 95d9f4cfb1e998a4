use Rattle.std.proofs.Common.{arith, rules}
use Rattle.cat_value.specs.declared.ty.Ty.TheViews as ty
use Rattle.cat_verify_shapes.proofs.TypeForms.{element_low, stands_Boolean, stands_Integer, stands_Decimal}
use Rattle.cat_verify_shapes.proofs.TypeForms.{stands_Money}
use Rattle.cat_verify_shapes.proofs.TypeForms.{stands_Date, stands_Duration, stands_Enumeration, stands_List}
use Rattle.cat_verify_shapes.proofs.forms.Forms.+of_ty.Goals as goal

pub of_ty-requires : goal.of_ty-requires
of_ty-requires t c = (
  search (rules, arith, ty.the_lemmas),
  element_low c.args.decls.now c.get.result.now c.args.ty.now c.in-List.element c.in-List.is c.get.ensures c.requires,
)

pub returns-in-Boolean : goal.returns-in-Boolean
returns-in-Boolean t c =
    stands_Boolean c.args.decls.now c.args.self.now c.find.result c.args.ty.now c.in-Boolean.is c.find.ensures

pub returns-in-Integer : goal.returns-in-Integer
returns-in-Integer t c =
    stands_Integer c.args.decls.now c.args.self.now c.find-in-Integer.result c.args.ty.now c.in-Integer.is
    c.find-in-Integer.ensures

pub returns-in-Decimal : goal.returns-in-Decimal
returns-in-Decimal t c =
    stands_Decimal c.args.decls.now c.args.self.now c.find-in-Decimal.result c.args.ty.now c.in-Decimal.is
    c.find-in-Decimal.ensures

pub returns-in-Money : goal.returns-in-Money
returns-in-Money t c =
    stands_Money c.args.decls.now c.args.self.now c.find-in-Money.result c.args.ty.now c.in-Money.is
    c.find-in-Money.ensures

pub returns-in-Date : goal.returns-in-Date
returns-in-Date t c =
    stands_Date c.args.decls.now c.args.self.now c.find-in-Date.result c.args.ty.now c.in-Date.is c.find-in-Date.ensures

pub returns-in-Duration : goal.returns-in-Duration
returns-in-Duration t c =
    stands_Duration c.args.decls.now c.args.self.now c.find-in-Duration.result c.args.ty.now c.in-Duration.is
    c.find-in-Duration.ensures

pub returns-in_ok-element-in-List : goal.returns-in_ok-element-in-List
returns-in_ok-element-in-List t c =
    stands_List c.args.decls.now c.args.self.now c.find-in-List.result c.args.ty.now c.in-List.element c.get.result.now
    c.in_ok-element-in-List.element c.requires c.in-List.is c.get.ensures c.in_ok-element-in-List.ensures
    c.find-in-List.ensures

pub returns-in-Enumeration : goal.returns-in-Enumeration
returns-in-Enumeration t c =
    stands_Enumeration c.args.decls.now c.args.self.now c.find-in-Enumeration.result c.args.ty.now
    c.in-Enumeration.enumeration c.in-Enumeration.is c.find-in-Enumeration.ensures
