use Rattle.apx_load.proofs.Heard.{heard_weaker}
use Rattle.apx_cmd.specs.declared.commands.Command.TheVariants.{Run}
use Rattle.apx_top.specs.Way.{by_workers}
use Rattle.apx_top.proofs.Performing.{printed_by}
use Rattle.apx_top.proofs.whole.perform_any.Goals as goal

pub returns-in-Run-clause-heard : goal.returns-in-Run-clause-heard
returns-in-Run-clause-heard g c =
    heard_weaker g.F.Folder.tells (g.F.Folder.told c.args.files.now) (g.F.Folder.heard c.args.files.now) (g.F.Folder.heard c.crew_files.new.files) _ _
    (λ answers ran. printed_by (λ app script. Run app script c.in-Run.settings c.in-Run.threads) (by_workers c.in-Run.threads) c.text.result.now c.in-Run.app c.as_ref.result c.in-Run.script c.in-Run.settings c.args.command.now _ _ c.text.ensures c.as_ref.ensures.value c.in-Run.is (λ performed. performed) ran)
    c.crew_files.ensures.heard
