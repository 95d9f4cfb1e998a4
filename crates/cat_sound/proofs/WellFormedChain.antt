-- A scope with an exception to an exception is well formed.
use Rattle.std.proofs.Common.{◌≡◌, ℕ, IsTrue, List, [], ◌∷◌, Option, None, Some, refl, rules, inl}
use Rattle.cat_pos.specs.declared.pos.Pos.{Pos}
use Rattle.cat_value.specs.declared.ty.Ty.TheVariants as flat
use Rattle.cat_value.specs.declared.ty.Ty.TheViews as ty
use Rattle.cat_value.specs.declared.decls.Decls.{Decls}
use Rattle.cat_value.specs.declared.declaration.ItemDecl.{ItemDecl}
use Rattle.cat_value.specs.declared.declaration.Scope.{Scope}
use Rattle.cat_value.specs.Declarations.{are_sound}
use Rattle.cat_value.specs.Dependencies.{are_ordered}
use Rattle.cat_order.specs.Order.{is_ready}
use Rattle.cat_order.specs.Computed.{order_of}
use Rattle.cat_scope.specs.declared.defs.Label.{Label}
use Rattle.cat_scope.specs.declared.defs.Except.{Except}
use Rattle.cat_scope.specs.declared.defs.Except.TheVariants as except
use Rattle.cat_scope.specs.Names.{Names}
use Rattle.cat_scope.specs.Signatures.{comparison}
use Rattle.cat_scope.specs.HasType.{HasType}
use Rattle.cat_scope.specs.HasType as typed
use Rattle.cat_scope.specs.Orders.{item_dependencies, function_calls, scope_dependencies}
use Rattle.cat_scope.specs.Chains.{is_within}
use Rattle.cat_scope.specs.WellFormed.{DefTyped, IsBodyOf, IsWellFormed}
use Rattle.cat_scope.proofs.Exported.{namings}
use Rattle.cat_scope.proofs.Exported.{placings}
use Rattle.cat_scope.proofs.Samples.{at, a, b, n_in, x_out, n_above, n, whole, def, body, x, chain, scope_of}
use Rattle.cat_sound.proofs.WellFormedParts.{integer_is_sound, ordered, short, whole_typed, own, plain_def}

abbrev items : List ItemDecl
items = n_in ∷ x_out ∷ []

abbrev scopes : List Scope
scopes = scope_of items ∷ []

chain_is_sound : IsTrue (are_sound [] [] scopes)
unfolding are_sound are_ordered order_of
chain_is_sound = search (rules, ty.the_lemmas, integer_is_sound)

abbrev decls : Decls
decls = record { structures = []; enumerations = []; scopes = scopes; sound = chain_is_sound }

abbrev names : Names
names = record { decls = decls; items = items }

n_typed : HasType names [] n flat.Integer
n_typed = typed.item (n_in, refl, refl, refl)

above_typed : (k : ℕ) → HasType names [] (whole k) flat.Integer → HasType names [] (n_above k) flat.Boolean
above_typed k is = typed.binary (comparison flat.Integer) (inl refl) n_typed is

-- an exception with a condition
guarded : (k v : ℕ) (label : Option Label) (ex : Except) (p : Pos) → HasType names [] (whole k) flat.Integer
    → HasType names [] (whole v) flat.Integer
    → DefTyped names 0 (def x label ex (Some (n_above k)) (whole v) p)
guarded k v label ex p above given = record {
  params = [];
  ty = flat.Integer;
  scope_is = refl;
  target = own names 1 x_out refl refl;
  counted = refl;
  condition = above_typed k above;
  consequence = given;
}

chain_body : IsBodyOf decls 0 (scope_of items) (body chain (0 ∷ 1 ∷ []))
unfolding order_of is_ready is_within
chain_body = record {
  placed = (refl, (refl, tt));
  defs = (
    plain_def names 0 1 (whole 1) (at 6 11) x_out (Some (a (at 6 9))) except.No (own names 1 x_out refl refl)
        (whole_typed names [] 1 refl),
    (
      guarded 0 2 (Some (b (at 7 9))) (except.Named (at 7 11) (a (at 7 21))) (at 7 23) (whole_typed names [] 0 refl)
          (whole_typed names [] 2 refl),
      (
        guarded 1 3 None (except.Named (at 8 3) (b (at 8 13))) (at 8 15) (whole_typed names [] 1 refl)
            (whole_typed names [] 3 refl),
        tt,
      ),
    ),
  );
  assertions = tt;
  source = (refl, refl, refl);
  lists = search (rules, placings);
  conditions = (tt, (tt, (tt, (tt, tt))));
  order = ordered (item_dependencies items chain) ([] ∷ (0 ∷ 0 ∷ []) ∷ []) (0 ∷ 1 ∷ []) (search (rules, namings)) refl;
  calls = search (rules, namings);
  functions = short (function_calls items chain) ([] ∷ [] ∷ []) (search (rules, namings)) refl;
}

depend : scope_dependencies scopes (body chain (0 ∷ 1 ∷ []) ∷ []) ≡ [] ∷ []
depend = search (rules, namings)

well_formed : IsWellFormed decls (body chain (0 ∷ 1 ∷ []) ∷ []) (0 ∷ [])
unfolding order_of is_ready is_within
well_formed = record {
  counted = refl;
  bodies_are = (chain_body, tt);
  order = ordered (scope_dependencies scopes (body chain (0 ∷ 1 ∷ []) ∷ [])) ([] ∷ []) (0 ∷ []) depend refl;
  chains = short (scope_dependencies scopes (body chain (0 ∷ 1 ∷ []) ∷ [])) ([] ∷ []) depend refl;
}
