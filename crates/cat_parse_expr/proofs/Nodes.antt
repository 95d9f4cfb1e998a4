-- Lists of expressions with what counts of them, as rows of elements.
use Rattle.std.proofs.Common.{◌≡◌, ℕ, max, Bool, false, List, [], ◌∷◌, ◌++◌, map, refl, sym, ap, ◌∙◌, append_assoc}
use Rattle.std.proofs.Common.{arith}
use Rattle.std.proofs.lemmas.List.{append-nil}
use Rattle.cat_parse_expr.proofs.Common.{Symbol, Node, ◌▸◌, all, Phrase, Parts, End, Word, Part, Terminal, tallest}
use Rattle.cat_parse_expr.proofs.Common.{last_in_form, last_in_match, phrase, elements, ◌▹◌, sign, part, Measured}
use Rattle.cat_parse_expr.proofs.Common.{MeasuredNodes, with_element, measured_of, IsMeasured}
use Rattle.cat_parse_expr.proofs.Lists.{put_all}
use Rattle.cat_parse_expr.proofs.Operands.{height_is}

-- the expressions of a list
abbrev pub nodes_of : List Measured → List Node
nodes_of [] = []
nodes_of (x ∷ xs) = x.node ∷ nodes_of xs

-- how they are spelled
abbrev pub phrases_of : List Measured → List Phrase
phrases_of xs = map phrase (nodes_of xs)

-- the height of the highest
abbrev pub tallest_of : List Measured → ℕ
tallest_of [] = 0
tallest_of (x ∷ xs) = max x.height (tallest_of xs)

-- all of these are measured
abbrev pub AreMeasured : List Measured → Type 0
AreMeasured [] = Unit {0}
AreMeasured (x ∷ xs) = IsMeasured x × AreMeasured xs

-- what counts of a list of expressions
abbrev pub measures_of : List Node → List Measured
measures_of [] = []
measures_of (n ∷ ns) = measured_of n ∷ measures_of ns

pub measures_are : (ns : List Node) → AreMeasured (measures_of ns)
measures_are [] = tt
measures_are (n ∷ ns) = (refl, measures_are ns)

pub nodes_back : (ns : List Node) → nodes_of (measures_of ns) ≡ ns
nodes_back [] = refl
nodes_back (n ∷ ns) = ap (λ (z : List Node). n ∷ z) (nodes_back ns)

-- one element after another
abbrev pub elements_from : MeasuredNodes → List Measured → MeasuredNodes
elements_from = put_all with_element

pub nodes_are : (l : MeasuredNodes) (xs : List Measured) → (elements_from l xs).nodes ≡ l.nodes ++ nodes_of xs
nodes_are l [] = sym (append-nil l.nodes)
nodes_are l (x ∷ xs) = nodes_are (with_element l x) xs ∙ append_assoc l.nodes (x.node ∷ []) (nodes_of xs)

pub tallest_is : (l : MeasuredNodes) (xs : List Measured) → (elements_from l xs).tallest ≡ max l.tallest (tallest_of xs)
tallest_is l [] = omega arith
tallest_is l (x ∷ xs) = omega (arith, tallest_is (with_element l x) xs)

-- ---- rows

pub behind_end : (ps : Parts) → ps ▸ End ≡ ps
behind_end End = refl
behind_end (Word m ps) = ap (λ (z : Parts). Word m z) (behind_end ps)
behind_end (Part s e ps) = ap (λ (z : Parts). Part s e z) (behind_end ps)

-- a further element
abbrev pub row_behind : ℕ → Symbol → Measured → Parts
row_behind k s x = sign s ▹ part k (phrase x.node) ▹ End

pub chain_elements : (k : ℕ) (s : Symbol) (e : Measured) (xs : List Measured) (rest : Parts)
    → elements k s (phrases_of (e ∷ xs)) rest ≡ part k (phrase e.node) (all (row_behind k s) xs ▸ rest)
chain_elements k s e [] rest = refl
chain_elements k s e (x ∷ xs) rest =
    ap (λ (ps : Parts). part k (phrase e.node) (sign s ps)) (chain_elements k s x xs rest)

pub elements_behind : (k : ℕ) (s : Symbol) (xs : List Measured) (rest : Parts)
    → elements k s (phrases_of xs) End ▸ rest ≡ elements k s (phrases_of xs) rest
elements_behind k s [] rest = refl
elements_behind k s (x ∷ []) rest = refl
elements_behind k s (x ∷ y ∷ xs) rest =
    ap (λ (ps : Parts). part k (phrase x.node) (sign s ps)) (elements_behind k s (y ∷ xs) rest)

pub elements_height : (k : ℕ) (s : Symbol) (xs : List Measured) (rest : Parts) → AreMeasured xs
    → tallest (elements k s (phrases_of xs) rest) ≡ max (tallest_of xs) (tallest rest)
elements_height k s [] rest m = omega arith
elements_height k s (x ∷ []) rest m = omega (arith, height_is x m.0)
elements_height k s (x ∷ y ∷ xs) rest m =
    omega (arith, height_is x m.0, elements_height k s (y ∷ xs) rest m.1)

pub elements_last : (k : ℕ) (s : Symbol) (es : List Phrase) (m : Terminal) (b : Bool)
    → (last_in_form b (elements k s es (Word m End)) ≡ false) × (last_in_match b (elements k s es (Word m End)) ≡ false)
elements_last k s [] m b = (refl, refl)
elements_last k s (e ∷ []) m b = (refl, refl)
elements_last k s (e ∷ f ∷ es) m b = elements_last k s (f ∷ es) m false
