use Rattle.std.proofs.lemmas.Result.{err_from_is_err_and}
use Rattle.std.specs.Prelude.{option_map}
use Rattle.apx_load.proofs.Heard.{heard_then, heard_weaker}
use Rattle.apx_load.proofs.Scripting.{run_first, job_of_run}
use Rattle.apx_load.proofs.jobs.job.Goals as goal

pub returns-in_err-dag-clause-heard : goal.returns-in_err-dag-clause-heard
returns-in_err-dag-clause-heard g c =
    let p = err_from_is_err_and c.from_residual.result c.from_residual.ensures.1 in
    rw (p.1, p.2)
    (heard_weaker g.F.Folder.tells (g.F.Folder.told c.args.files.now) (g.F.Folder.heard c.args.files.now) (g.F.Folder.heard c.run.new.files) _ _
    (λ answers is. run_first c.args.name.now (option_map (λ n. n.now) c.args.script) c.args.settings answers _ c.in_err-dag.field-0.0 is)
    c.in_err-dag.ensures.heard)

pub returns-clause-heard : goal.returns-clause-heard
returns-clause-heard g c =
    heard_then g.F.Folder.tells (g.F.Folder.told c.args.files.now) (g.F.Folder.told c.run.new.files) (g.F.Folder.heard c.args.files.now) (g.F.Folder.heard c.run.new.files) (g.F.Folder.heard c.scripted.new.files) _ _ _ c.in_ok-dag.ensures.told
    (λ first second run is. job_of_run c.args.name.now (option_map (λ n. n.now) c.args.script) c.args.settings first second (record { nodes = c.in_ok-dag.dag; inputs = c.in_ok-dag.inputs.items }) _ _ _ c.scripted.result c.in_ok-dag.ensures.later run is)
    c.in_ok-dag.ensures.heard c.scripted.ensures.heard
