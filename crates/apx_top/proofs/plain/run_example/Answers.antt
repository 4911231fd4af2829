use Rattle.std.proofs.Common.{refl, ap, ◌∙◌}
use Rattle.std.specs.Prelude.{Err}
use Rattle.apx_top.specs.Left.{without_run}
use Rattle.apx_top.specs.Plain.{unmade}
use Rattle.apx_top.proofs.Performing.{untouched, made_by}
use Rattle.apx_top.proofs.plain.run_example.Goals as goal

pub returns-in-Ok : goal.returns-in-Ok
returns-in-Ok g c = made_by c.args.number c.args.size _ _ _ c.in-Ok.job c.in-Ok.ensures c.report.ensures

pub returns-in-Err : goal.returns-in-Err
returns-in-Err g c =
    unmade (c.unrun.ensures.left ∙ ap (λ s. without_run (Err s)) c.in-Err.ensures) (untouched c.args.devices c.unrun.result.devices c.unrun.ensures.devices) refl
