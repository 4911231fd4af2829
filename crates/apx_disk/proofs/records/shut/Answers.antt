use Rattle.std.proofs.Common.{ap, ◌∙◌}
use Rattle.apx_cause.proofs.Going.{look_on}
use Rattle.apx_disk.specs.Log.{read_log, end_of}
use Rattle.apx_disk.proofs.Trimming.{end_within, shut_crash, shut_done, shut_same}
use Rattle.apx_disk.proofs.records.shut.Goals as goal

pub write_at-requires : goal.write_at-requires
write_at-requires g c = λ told. end_within (g.D.Disk.seen c.trim.new.disk) c.args.gate (ap end_of (c.trim.ensures.same told) ∙ c.requires.end told)

pub returns-in_err-write_at-clause-same : goal.returns-in_err-write_at-clause-same
returns-in_err-write_at-clause-same g c = λ told. shut_same (g.D.Disk.seen c.args.disk.now) (g.D.Disk.seen c.trim.new.disk) (g.D.Disk.seen c.write_at.new.self) c.args.gate (c.requires.end told) (c.trim.ensures.same told) (c.in_ok-trim.ensures.short told) (c.write_at.ensures.torn told)

pub returns-in_err-write_at-clause-crash : goal.returns-in_err-write_at-clause-crash
returns-in_err-write_at-clause-crash g c = λ told. shut_crash (g.D.Disk.seen c.args.disk.now) (g.D.Disk.seen c.trim.new.disk) c.args.gate (c.requires.end told) (c.trim.ensures.same told) (c.in_ok-trim.ensures.short told) (c.in_ok-trim.ensures.only told) (c.trim.ensures.crash told) (c.write_at.ensures.crash told)

pub returns-in_err-sync-clause-same : goal.returns-in_err-sync-clause-same
returns-in_err-sync-clause-same g c = λ told. ap read_log (c.sync.ensures.seen told) ∙ shut_same (g.D.Disk.seen c.args.disk.now) (g.D.Disk.seen c.trim.new.disk) (g.D.Disk.seen c.write_at.new.self) c.args.gate (c.requires.end told) (c.trim.ensures.same told) (c.in_ok-trim.ensures.short told) (c.write_at.ensures.torn told)

pub returns-in_err-sync-clause-crash : goal.returns-in_err-sync-clause-crash
returns-in_err-sync-clause-crash g c = λ told.
    look_on (shut_crash (g.D.Disk.seen c.args.disk.now) (g.D.Disk.seen c.trim.new.disk) c.args.gate (c.requires.end told) (c.trim.ensures.same told) (c.in_ok-trim.ensures.short told) (c.in_ok-trim.ensures.only told) (c.trim.ensures.crash told) (c.write_at.ensures.crash told)) (c.sync.ensures.crash told)

pub returns-clause-same : goal.returns-clause-same
returns-clause-same g c = λ told. ap read_log (c.sync.ensures.seen told) ∙ shut_same (g.D.Disk.seen c.args.disk.now) (g.D.Disk.seen c.trim.new.disk) (g.D.Disk.seen c.write_at.new.self) c.args.gate (c.requires.end told) (c.trim.ensures.same told) (c.in_ok-trim.ensures.short told) (c.write_at.ensures.torn told)

pub returns-clause-ready : goal.returns-clause-ready
returns-clause-ready g c = λ told.
    shut_done (g.D.Disk.seen c.args.disk.now) (g.D.Disk.seen c.trim.new.disk) (g.D.Disk.seen c.write_at.new.self) (g.D.Disk.seen c.sync.new.self) _ c.args.gate (c.requires.end told) (c.trim.ensures.same told) (c.in_ok-trim.ensures.short told) (c.write_at.ensures.torn told) (c.in_ok-write_at.ensures.written told) (c.sync.ensures.seen told) (c.in_ok-sync.ensures.synced told)

pub returns-clause-crash : goal.returns-clause-crash
returns-clause-crash g c = λ told.
    look_on (shut_crash (g.D.Disk.seen c.args.disk.now) (g.D.Disk.seen c.trim.new.disk) c.args.gate (c.requires.end told) (c.trim.ensures.same told) (c.in_ok-trim.ensures.short told) (c.in_ok-trim.ensures.only told) (c.trim.ensures.crash told) (c.write_at.ensures.crash told)) (c.sync.ensures.crash told)
