-- How high the trees of a certificate may be.
use Rattle.std.specs.Prelude.{◌≤◌, ℕ, Option, None, Some}
use Rattle.cat_guard.specs.Trees.{Tree, expanded, height}
use Rattle.cat_cert.specs.declared.certificate.CertTree.{CertTree}

-- a tree is no higher than that, where there is one
abbrev pub IsLow : ℕ → Option Tree → Type 0
IsLow most None = Unit {0}
IsLow most (Some t) = height t ≤ most

-- the tree of a target is no higher than that, where there is one
abbrev pub IsUpTo : ℕ → CertTree → Type 0
IsUpTo most c = IsLow most (expanded c.tree)
