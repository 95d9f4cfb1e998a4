use Rattle.std.proofs.Common.{◌≡◌, ◌++◌, drop, string_bytes}
use Rattle.cat_listing.specs.Texts.{lines_of}
use Rattle.cat_listing.specs.DeclarationLines.{param_text}
use Rattle.cat_listing.proofs.decls.more_params.Given as goal

abbrev pub invariant-loop-param : goal.invariant-loop-param
invariant-loop-param l =
    string_bytes l.text ++ lines_of (param_text l.decls) (drop l.param-index l.params)
    ≡ lines_of (param_text l.decls) l.params
