-- Worked examples: the lines of a certificate, where its trees stand, and how a text is parted.
use Rattle.std.proofs.Common.{◌≡◌, ℕ, nat_le, List, [], ◌∷◌, Some, Result, Err, codes, refl, ap, if◌then◌else◌}
use Rattle.std.specs.Fmt.{digits}
use Rattle.cat_guard.specs.declared.tree.CitedNode.TheVariants as cited
use Rattle.cat_guard.specs.declared.tree.CitedTree.{CitedTree}
use Rattle.cat_walk.specs.Sizes.{most_leaves}
use Rattle.cat_cert.specs.declared.certificate.Version.TheVariants as version
use Rattle.cat_cert.specs.declared.certificate.Certificate.{Certificate}
use Rattle.cat_cert.specs.declared.refusal.CertRefusal.{CertRefusal}
use Rattle.cat_cert.specs.declared.refusal.CertRefusal.TheVariants as refusal
use Rattle.cat_cert.specs.inside.States.{State, Stepped}
use Rattle.cat_cert.specs.inside.Steps.{met}
use Rattle.cat_cert.specs.Lines.{first_line, tree_lines, tree_heads}
use Rattle.cat_cert.specs.Certified.{tree_widths}
use Rattle.cat_cert.specs.Texts.{parted, passed_over}

-- a split, of which each side is named once
abbrev split_once : CitedTree
split_once = record { names = []; main = cited.Split 0 ∷ cited.Leaf ∷ cited.Leaf ∷ [] }

-- a tree both of whose sides are name 0
abbrev cited_twice : CitedTree
cited_twice = record {
  names = (cited.Split 1 ∷ cited.Leaf ∷ cited.Leaf ∷ []) ∷ [];
  main = cited.Split 0 ∷ cited.Cite 0 ∷ cited.Cite 0 ∷ [];
}

first_of_two : first_line version.Two ≡ codes "catala-certificate 2"
unfolding digits
first_of_two = refl

bare : tree_lines version.One split_once ≡ codes "split 0" ∷ codes "leaf" ∷ codes "leaf" ∷ []
unfolding digits
bare = refl

named : tree_lines version.Two cited_twice ≡ codes "name 0" ∷ codes "split 1" ∷ codes "leaf" ∷ codes "leaf"
    ∷ codes "tree" ∷ codes "split 0" ∷ codes "cite 0" ∷ codes "cite 0" ∷ []
unfolding digits
named = refl

-- the target's line is line 3: in version 1 its nodes follow at once
bare_at : tree_heads version.One 3 split_once ≡ 3 ∷ []
bare_at = refl

-- in version 2 line 4 is that of name 0, and line 8 is `tree`
named_at : tree_heads version.Two 3 cited_twice ≡ 4 ∷ 8 ∷ []
named_at = refl

-- the leaves up to each line: a citation has those of the named tree
named_widths : tree_widths version.Two cited_twice ≡ 0 ∷ 0 ∷ 1 ∷ 2 ∷ 0 ∷ 0 ∷ 2 ∷ 4 ∷ []
named_widths = refl

-- what has no line feed behind it is no line
rest_only : parted (codes "a\nb") ≡ record { ended = codes "a" ∷ []; rest = codes "b" }
unfolding parted
rest_only = refl

-- lines before the first that begins a certificate are passed over
passed_two : passed_over (codes "a" ∷ [] ∷ codes "catala-certificate x" ∷ codes "catala-certificate 2" ∷ []) ≡ 2
passed_two = refl

-- a line with which a tree has as many leaves as one may have, and one with which it has one more
as_many_leaves_as_may_be : (s : State) (n : ℕ) (line : List ℕ) (to : Stepped)
    (further : State → Result Certificate CertRefusal) → to.width ≡ 16777216
    → met s n line (Some to) further ≡ further to.state
as_many_leaves_as_may_be s n line to further is =
    ap (λ (w : ℕ). if nat_le w most_leaves then further to.state else Err (refusal.TooWide n)) is

one_leaf_too_many : (s : State) (n : ℕ) (line : List ℕ) (to : Stepped)
    (further : State → Result Certificate CertRefusal) → to.width ≡ 16777217
    → met s n line (Some to) further ≡ Err (refusal.TooWide n)
one_leaf_too_many s n line to further is =
    ap (λ (w : ℕ). if nat_le w most_leaves then further to.state else Err (refusal.TooWide n)) is
