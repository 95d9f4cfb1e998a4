use Rattle.std.proofs.Common.{◌<◌, ◌^◌, length, rules}
use Rattle.cat_cert.proofs.ReadLemmas.{read_told, cause_told}
use Rattle.cat_cert.proofs.reader.read_cert.Goals as goal

pub returns-clause-read : goal.returns-clause-read
returns-clause-read c =
    let size : length c.args.bytes.now < 2 ^ 64 = search rules in
    read_told c.args.tables.now c.args.bytes.now c.count_atoms.ensures size c.read.result c.read.ensures

pub returns-clause-cause : goal.returns-clause-cause
returns-clause-cause c =
    let size : length c.args.bytes.now < 2 ^ 64 = search rules in
    cause_told c.args.tables.now c.args.bytes.now c.count_atoms.ensures size c.read.result c.read.ensures
