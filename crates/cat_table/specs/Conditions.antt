-- How the conditions of a table are written.
use Rattle.std.specs.Prelude.{ℕ, Bool, true, false, List, [], ◌∷◌, ◌++◌, Option, Some, None, slice_get, codes}
use Rattle.std.specs.Fmt.{signed_decimal}
use Rattle.cat_num.specs.Text.{decimal_bytes, money_bytes}
use Rattle.cat_date.specs.Text.{day_text}
use Rattle.cat_value.specs.declared.decls.Decls.{Decls}
use Rattle.cat_value.specs.declared.declaration.ItemDecl.{ItemDecl}
use Rattle.cat_region.specs.declared.cut.Threshold.{Threshold}
use Rattle.cat_region.specs.declared.cut.Threshold.TheVariants as threshold
use Rattle.cat_region.specs.declared.cut.Cut.{Cut}
use Rattle.cat_region.specs.declared.cut.Cut.TheVariants as cut
use Rattle.cat_guard.specs.declared.table.InputPath.{InputPath}
use Rattle.cat_guard.specs.declared.table.Term.{Term}
use Rattle.cat_guard.specs.declared.table.Atom.{Atom}
use Rattle.cat_guard.specs.Tables.{item_name}
use Rattle.cat_answer.specs.Answer.{position_text}
use Rattle.cat_search.specs.declared.way.Answer.{Answer}
use Rattle.cat_table.specs.declared.named_type.NamedType.{NamedType}
use Rattle.cat_table.specs.NamedTypes.{item_named, field_in, field_name, field_named, case_in, case_name}
use Rattle.cat_table.specs.Told.{type_told}

-- a constant, as a run writes a value of its type, without quotes
abbrev pub constant_text : Threshold → List ℕ
constant_text (threshold.Whole n) = signed_decimal n
constant_text (threshold.Money cents) = money_bytes cents
constant_text (threshold.Day day) = day_text day
constant_text (threshold.Decimal f) = decimal_bytes f

-- fields that lead on from a value of a type, each behind a dot
abbrev pub fields_text : Decls → Option NamedType → List ℕ → List ℕ
fields_text ds of [] = []
fields_text ds of (k ∷ ks) =
    codes "." ++ (field_name (field_in ds k of) ++ fields_text ds (field_named (field_in ds k of)) ks)

-- an input, or a part of one: `x`, or `x.f.g`
abbrev pub path_text : Decls → List ItemDecl → InputPath → List ℕ
path_text ds items path =
    item_name (slice_get items path.item) ++ fields_text ds (item_named (slice_get items path.item)) path.fields

-- what names stand for in a table: the declarations, the items of its scope, and the files of the source
pub record Naming : Type 0 where
  pub decls : Decls
  pub items : List ItemDecl
  pub files : List (List ℕ)

-- a free term is its path; a derived one is told by where it first stands
abbrev pub term_by : Naming → Term → Option InputPath → List ℕ
term_by ns term (Some path) = path_text ns.decls ns.items path
term_by ns term None = codes "term at " ++ position_text ns.files term.pos

-- a term
abbrev pub term_text : Naming → Term → List ℕ
term_text ns term = term_by ns term term.path

-- the name of case k of a term's enumeration
abbrev pub case_text : Naming → Term → ℕ → List ℕ
case_text ns term k = case_name (case_in ns.decls k (type_told ns.decls ns.items term.function term.expr))

-- what an answer to a cut says of a term
abbrev pub cut_text : Naming → Term → Cut → Bool → List ℕ
cut_text ns term (cut.Below c) true = term_text ns term ++ (codes " < " ++ constant_text c)
cut_text ns term (cut.Below c) false = term_text ns term ++ (codes " >= " ++ constant_text c)
cut_text ns term (cut.AtMost c) true = term_text ns term ++ (codes " <= " ++ constant_text c)
cut_text ns term (cut.AtMost c) false = term_text ns term ++ (codes " > " ++ constant_text c)
cut_text ns term cut.IsTrue true = term_text ns term
cut_text ns term cut.IsTrue false = codes "not " ++ term_text ns term
cut_text ns term (cut.IsCase k) true = term_text ns term ++ (codes " is " ++ case_text ns term k)
cut_text ns term (cut.IsCase k) false = term_text ns term ++ (codes " is not " ++ case_text ns term k)

-- the same, where there is such a term
abbrev pub said_of : Naming → Option Term → Cut → Bool → List ℕ
said_of ns None c b = []
said_of ns (Some term) c b = cut_text ns term c b

-- an answer to an atom, where there is one
abbrev pub answer_by : Naming → List Term → Option Atom → Bool → List ℕ
answer_by ns terms None b = []
answer_by ns terms (Some atom) b = said_of ns (slice_get terms atom.term) atom.cut b

-- an answer to an atom of a table
abbrev pub answer_text : Naming → List Term → List Atom → Answer → List ℕ
answer_text ns terms atoms n = answer_by ns terms (slice_get atoms n.atom) n.yes

-- answers behind others
abbrev pub more_text : Naming → List Term → List Atom → List Answer → List ℕ
more_text ns terms atoms [] = []
more_text ns terms atoms (n ∷ more) =
    codes " and " ++ (answer_text ns terms atoms n ++ more_text ns terms atoms more)

-- answers, from the root on: all of them joined by `and`, and `always` where there is none
abbrev pub way_text : Naming → List Term → List Atom → List Answer → List ℕ
way_text ns terms atoms [] = codes "always"
way_text ns terms atoms (n ∷ more) = answer_text ns terms atoms n ++ more_text ns terms atoms more
