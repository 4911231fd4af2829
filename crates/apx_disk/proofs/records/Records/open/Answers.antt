use Rattle.apx_disk.proofs.Trimming.{open_crash}
use Rattle.apx_disk.proofs.records.Records.open.Goals as goal

pub returns-clause-crash_err : goal.returns-clause-crash_err
returns-clause-crash_err g c = λ told.
    open_crash (g.D.Disk.seen c.args.disk) (g.D.Disk.seen c.fetch.new.disk) (g.met.D.Disk.shows c.args.disk told) (c.fetch.ensures.crash told) (c.fetch.ensures.seen told) (c.shut.ensures.crash told)
