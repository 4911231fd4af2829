use Rattle.apx_cause.proofs.Going.{look_on}
use Rattle.apx_disk.proofs.Adding.{gate_crash, gate_open}
use Rattle.apx_disk.proofs.records.append.Goals as goal

pub returns-in_err-write_at-clause-crash : goal.returns-in_err-write_at-clause-crash
returns-in_err-write_at-clause-crash g c = λ told.
    gate_crash _ _ _ _ c.args.gate (c.requires.ready told).within c.requires.piece (c.in_ok-stage.ensures.written told) (c.in_ok-stage.ensures.ready told) (c.stage.ensures.same told) c.requires.fits (c.stage.ensures.crash told) (c.write_at.ensures.crash told)

pub returns-in_err-sync-clause-crash : goal.returns-in_err-sync-clause-crash
returns-in_err-sync-clause-crash g c = λ told.
    look_on
    (gate_crash _ _ _ _ c.args.gate (c.requires.ready told).within c.requires.piece (c.in_ok-stage.ensures.written told) (c.in_ok-stage.ensures.ready told) (c.stage.ensures.same told) c.requires.fits (c.stage.ensures.crash told) (c.write_at.ensures.crash told))
    (c.sync.ensures.crash told)

pub returns-clause-added : goal.returns-clause-added
returns-clause-added g c = λ told.
    (gate_open _ _ _ _ _ _ _ _ c.args.gate (c.requires.ready told).within c.requires.piece (c.in_ok-stage.ensures.written told) (c.in_ok-stage.ensures.ready told) (c.stage.ensures.same told) c.requires.fits (c.in_ok-write_at.ensures.written told) (c.sync.ensures.seen told) (c.in_ok-sync.ensures.synced told)).0

pub returns-clause-ready : goal.returns-clause-ready
returns-clause-ready g c = λ told.
    (gate_open _ _ _ _ _ _ _ _ c.args.gate (c.requires.ready told).within c.requires.piece (c.in_ok-stage.ensures.written told) (c.in_ok-stage.ensures.ready told) (c.stage.ensures.same told) c.requires.fits (c.in_ok-write_at.ensures.written told) (c.sync.ensures.seen told) (c.in_ok-sync.ensures.synced told)).1

pub returns-clause-crash : goal.returns-clause-crash
returns-clause-crash g c = λ told.
    look_on
    (gate_crash _ _ _ _ c.args.gate (c.requires.ready told).within c.requires.piece (c.in_ok-stage.ensures.written told) (c.in_ok-stage.ensures.ready told) (c.stage.ensures.same told) c.requires.fits (c.stage.ensures.crash told) (c.write_at.ensures.crash told))
    (c.sync.ensures.crash told)
