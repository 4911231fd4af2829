use Rattle.apx_load.proofs.Heard.{heard_weaker}
use Rattle.apx_top.proofs.Unscripted.{files_of_job}
use Rattle.apx_top.proofs.mean.unscripted.Goals as goal

pub returns-clause-heard : goal.returns-clause-heard
returns-clause-heard g c =
    heard_weaker g.F.Folder.tells (g.F.Folder.told c.args.files.now) (g.F.Folder.heard c.args.files.now) (g.F.Folder.heard c.job.new.files) _ _
    (λ answers is. files_of_job c.args.name.now _ answers _ c.job.result is) c.job.ensures.heard
