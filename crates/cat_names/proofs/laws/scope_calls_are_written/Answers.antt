use Rattle.cat_names.proofs.CalledLaws.{each_call_is_written}
use Rattle.cat_names.proofs.laws.scope_calls_are_written.Goals as goal

pub returns : goal.returns
returns c names e locals expected = each_call_is_written names e locals expected
