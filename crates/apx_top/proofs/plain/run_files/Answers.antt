use Rattle.std.proofs.Common.{refl}
use Rattle.apx_load.proofs.Heard.{heard_weaker}
use Rattle.apx_top.specs.Plain.{stopped_reading, ran}
use Rattle.apx_top.proofs.Performing.{untouched}
use Rattle.apx_top.proofs.plain.run_files.Goals as goal

pub returns-in-Ok-clause-heard : goal.returns-in-Ok-clause-heard
returns-in-Ok-clause-heard g c =
    heard_weaker g.F.Folder.tells (g.F.Folder.told c.args.files.now) (g.F.Folder.heard c.args.files.now) (g.F.Folder.heard c.job.new.files) _ _
    (λ answers is. ran c.in-Ok.job is c.sim.ensures.ran)
    c.in-Ok.ensures.heard

pub returns-in-Err-clause-heard : goal.returns-in-Err-clause-heard
returns-in-Err-clause-heard g c =
    heard_weaker g.F.Folder.tells (g.F.Folder.told c.args.files.now) (g.F.Folder.heard c.args.files.now) (g.F.Folder.heard c.job.new.files) _ _
    (λ answers is. stopped_reading c.in-Err.stop c.unrun.ensures.left is (untouched c.args.devices c.unrun.result.devices c.unrun.ensures.devices) refl)
    c.in-Err.ensures.heard
