use Rattle.std.proofs.Common.{◌∙◌}
use Rattle.std.proofs.lemmas.Result.{err_from_is_err_and}
use Rattle.cat_cert.specs.Lines.{dues_of}
use Rattle.cat_cert.proofs.EndingLemmas.{stops_before}
use Rattle.cat_cert.proofs.ReadLemmas.{whole_start}
use Rattle.cat_cert.proofs.reader.read.Goals as goal

pub returns-in_err-version : goal.returns-in_err-version
returns-in_err-version c =
    let dues = dues_of c.args.tables.now in
    let bytes = c.args.bytes.now in
    let r = err_from_is_err_and c.from_residual.result c.from_residual.ensures.1 in
    rw (r.1, r.2) (stops_before _ _ _ (whole_start dues bytes c.in-Some.start c.in-Some.ensures.start)
    (c.in_err-version.ensures.read dues))

pub returns-in_err-trees : goal.returns-in_err-trees
returns-in_err-trees c =
    let dues = dues_of c.args.tables.now in
    let bytes = c.args.bytes.now in
    let r = err_from_is_err_and c.from_residual-in_err-trees.result c.from_residual-in_err-trees.ensures.1 in
    rw (r.1, r.2) (stops_before _ _ _ (whole_start dues bytes c.in-Some.start c.in-Some.ensures.start
    ∙ c.in_ok-version.ensures.read dues) c.in_err-trees.ensures.read)

pub returns-in_err-read_end : goal.returns-in_err-read_end
returns-in_err-read_end c =
    let dues = dues_of c.args.tables.now in
    let bytes = c.args.bytes.now in
    let r = err_from_is_err_and c.from_residual-in_err-read_end.result c.from_residual-in_err-read_end.ensures.1 in
    rw (r.1, r.2) (stops_before _ _ _ (whole_start dues bytes c.in-Some.start c.in-Some.ensures.start
    ∙ c.in_ok-version.ensures.read dues ∙ c.in_ok-trees.ensures.read)
    (c.in_err-read_end.ensures c.in_ok-version.version c.in_ok-trees.trees))

pub returns : goal.returns
returns c =
    let dues = dues_of c.args.tables.now in
    let bytes = c.args.bytes.now in
    whole_start dues bytes c.in-Some.start c.in-Some.ensures.start ∙ c.in_ok-version.ensures.read dues
    ∙ c.in_ok-trees.ensures.read ∙ c.in_ok-read_end.ensures c.in_ok-version.version c.in_ok-trees.trees
