-- The keys of groups as the code has them.
use Rattle.std.specs.Prelude.{ℕ, Bool, true, false, bytes_eq, List, []}
use Rattle.std.proofs.Common.{◌≡◌, IsTrue, ap, sym, true≢false}
use Rattle.std.proofs.lemmas.Slice.Eq.{bytes_eq-Decides}
use Rattle.std.specs.Hash as fed
use Rattle.cat_scope.specs.Groups.{Key, Labelled, Base, Alone}
use Rattle.cat_except.specs.declared.group_key.GroupKey.{GroupKey}
use Rattle.cat_except.specs.declared.group_key.GroupKey.TheVariants as code

-- a key as the code has it
abbrev pub coded_key : Key → GroupKey
coded_key (Labelled l) = code.Labelled l
coded_key Base = code.Base
coded_key (Alone n) = code.Alone n

-- whether a key is that of a label
abbrev pub is_labelled : List ℕ → GroupKey → Bool
is_labelled l (code.Labelled m) = bytes_eq l m
is_labelled l code.Base = false
is_labelled l (code.Alone n) = false

-- what a key feeds a hasher: its label feeds the same
abbrev pub key_input : GroupKey → fed.HashWrites
key_input (code.Labelled l) = fed.str l
key_input code.Base = []
key_input (code.Alone n) = fed.u32 n

-- a label feeds what a key with it feeds
pub label_input : (l : List ℕ) (k : GroupKey) → IsTrue (is_labelled l k) → fed.str l ≡ key_input k
label_input l (code.Labelled m) is = ap fed.str ((bytes_eq-Decides l m).0 is)
label_input l code.Base is = absurd (true≢false (sym is))
label_input l (code.Alone n) is = absurd (true≢false (sym is))
