-- Why tokens are refused.
use Rattle.std.specs.Prelude.{cond}
use Rattle.cat_parse_expr.specs.declared.miss.Miss.{Miss}
use Rattle.cat_parse_expr.specs.declared.miss.Miss.TheVariants.{Broken, Memory}
use Rattle.cat_parse_expr.specs.declared.refusal.ParseRefusal.{ParseRefusal}
use Rattle.cat_parse_expr.specs.declared.refusal.ParseRefusal.TheVariants as refused

-- what is refused where nothing was read
abbrev pub refusal_of : Miss → ParseRefusal
refusal_of (Broken b) = cond b.deep (refused.TooDeep b.at) (refused.Unexpected b.at)
refusal_of Memory = refused.Memory
