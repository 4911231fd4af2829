use Rattle.std.proofs.Common.{ap, ◌∙◌, arith}
use Rattle.apx_cause.proofs.Going.{look_on}
use Rattle.apx_disk.specs.Log.{read_log}
use Rattle.apx_disk.proofs.Repair.{keeps_cut}
use Rattle.apx_disk.proofs.Trimming.{trim_crash}
use Rattle.apx_disk.proofs.records.trim.Goals as goal

pub returns-in_err-cut-clause-same : goal.returns-in_err-cut-clause-same
returns-in_err-cut-clause-same g c = λ told. let len = c.requires.len told in keeps_cut _ _ c.args.gate (c.requires.end told) (omega arith) (c.cut.ensures.part told)

pub returns-in_err-cut-clause-crash : goal.returns-in_err-cut-clause-crash
returns-in_err-cut-clause-crash g c = λ told. let len = c.requires.len told in trim_crash _ c.args.gate (c.requires.end told) (omega arith) (c.requires.only told) (c.cut.ensures.crash told)

pub returns-in_err-sync-clause-same : goal.returns-in_err-sync-clause-same
returns-in_err-sync-clause-same g c = λ told. let len = c.requires.len told in ap read_log (c.sync.ensures.seen told) ∙ keeps_cut _ _ c.args.gate (c.requires.end told) (omega arith) (c.cut.ensures.part told)

pub returns-in_err-sync-clause-crash : goal.returns-in_err-sync-clause-crash
returns-in_err-sync-clause-crash g c = λ told. let len = c.requires.len told in look_on (trim_crash _ c.args.gate (c.requires.end told) (omega arith) (c.requires.only told) (c.cut.ensures.crash told)) (c.sync.ensures.crash told)

pub returns-clause-same : goal.returns-clause-same
returns-clause-same g c = λ told. let len = c.requires.len told in ap read_log (c.sync.ensures.seen told) ∙ keeps_cut _ _ c.args.gate (c.requires.end told) (omega arith) (c.cut.ensures.part told)

pub returns-clause-crash : goal.returns-clause-crash
returns-clause-crash g c = λ told. let len = c.requires.len told in look_on (trim_crash _ c.args.gate (c.requires.end told) (omega arith) (c.requires.only told) (c.cut.ensures.crash told)) (c.sync.ensures.crash told)
