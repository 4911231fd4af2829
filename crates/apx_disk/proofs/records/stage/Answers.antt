use Rattle.std.proofs.Common.{ap, ◌∙◌}
use Rattle.apx_cause.proofs.Going.{look_on}
use Rattle.apx_disk.specs.Log.{read_log}
use Rattle.apx_disk.proofs.Adding.{same_behind, stage_crash, stage_ready}
use Rattle.apx_disk.proofs.records.stage.Goals as goal

pub returns-in_err-write_at-clause-same : goal.returns-in_err-write_at-clause-same
returns-in_err-write_at-clause-same g c = λ told. same_behind _ _ _ c.args.gate _ (c.requires.ready told) (c.write_at.ensures.torn told)

pub returns-in_err-write_at-clause-crash : goal.returns-in_err-write_at-clause-crash
returns-in_err-write_at-clause-crash g c = λ told. stage_crash _ c.args.gate _ (c.requires.ready told) (c.write_at.ensures.crash told)

pub returns-in_err-sync-clause-same : goal.returns-in_err-sync-clause-same
returns-in_err-sync-clause-same g c = λ told. ap read_log (c.sync.ensures.seen told) ∙ same_behind _ _ _ c.args.gate _ (c.requires.ready told) (c.write_at.ensures.torn told)

pub returns-in_err-sync-clause-crash : goal.returns-in_err-sync-clause-crash
returns-in_err-sync-clause-crash g c = λ told. look_on (stage_crash _ c.args.gate _ (c.requires.ready told) (c.write_at.ensures.crash told)) (c.sync.ensures.crash told)

pub returns-clause-same : goal.returns-clause-same
returns-clause-same g c = λ told. ap read_log (c.sync.ensures.seen told) ∙ same_behind _ _ _ c.args.gate _ (c.requires.ready told) (c.write_at.ensures.torn told)

pub returns-clause-ready : goal.returns-clause-ready
returns-clause-ready g c = λ told. stage_ready _ _ _ _ _ c.args.gate _ (c.requires.ready told) (c.write_at.ensures.torn told) (c.sync.ensures.seen told) (c.in_ok-sync.ensures.synced told)

pub returns-clause-crash : goal.returns-clause-crash
returns-clause-crash g c = λ told. look_on (stage_crash _ c.args.gate _ (c.requires.ready told) (c.write_at.ensures.crash told)) (c.sync.ensures.crash told)
