use Rattle.cat_pool.proofs.LoadingLemmas.{AreLoaded}
use Rattle.cat_pool.proofs.loading.+loading.Given as goal

abbrev pub invariant-load_all-loop-value : goal.invariant-load_all-loop-value
invariant-load_all-loop-value l = AreLoaded l.fn.pool l.pool l.values l.value-index l.parts
