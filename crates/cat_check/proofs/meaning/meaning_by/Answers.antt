use Rattle.std.proofs.Common.{IfOk, IfErr, List, Result, Ok, Err}
use Rattle.cat_value.specs.declared.decls.Decls.{Decls}
use Rattle.cat_tree.specs.declared.program.Tree.{Tree}
use Rattle.cat_scope.specs.declared.defs.Body.{Body}
use Rattle.cat_names.specs.declared.fault.Refusal.{Refusal}
use Rattle.cat_names.specs.declared.fault.Refusal.TheVariants.{Memory, Refused}
use Rattle.cat_names.specs.Found.{Tells}
use Rattle.cat_names.specs.Bodies.{bodies_meant}
use Rattle.cat_names.specs.Accepted.{IsMeant, IsNamed, IsRefused, parts_of}
use Rattle.cat_names.specs.Accepted as refused
use Rattle.cat_check.specs.Cause.{Because}
use Rattle.cat_check.specs.Unordered.{without_orders}
use Rattle.cat_check.proofs.meaning.meaning_by.Goals as goal

module _ (tree : Tree) (ds : Decls) (named : IsNamed tree (parts_of ds)) where
  meant : (found : Result (List Body) Refusal) → Tells (without_orders found) (bodies_meant ds tree)
      → IfOk found (IsMeant tree ds)
  meant (Ok bodies) told = record { named = named; meant = told }
  meant (Err refusal) told = tt

  cause : (found : Result (List Body) Refusal) → Tells (without_orders found) (bodies_meant ds tree)
      → IfErr found (Because (IsRefused tree))
  cause (Ok bodies) told = tt
  cause (Err Memory) told = tt
  cause (Err (Refused fault)) told = refused.expression ds named told

pub returns-clause-meant : goal.returns-clause-meant
returns-clause-meant c =
    meant c.args.tree c.args.decls.now c.requires.named c.bodies.result c.bodies.ensures.told

pub returns-clause-cause : goal.returns-clause-cause
returns-clause-cause c =
    cause c.args.tree c.args.decls.now c.requires.named c.bodies.result c.bodies.ensures.told
