use Rattle.std.proofs.lemmas.Result.{err_from_is_err_and}
use Rattle.std.specs.Prelude.{option_map}
use Rattle.apx_load.proofs.Heard.{heard_weaker}
use Rattle.apx_load.proofs.Scripting.{script_first, scripted_of}
use Rattle.apx_load.proofs.jobs.scripted.Goals as goal

pub returns-in_err-script-clause-heard : goal.returns-in_err-script-clause-heard
returns-in_err-script-clause-heard g c =
    let p = err_from_is_err_and c.from_residual.result c.from_residual.ensures.1 in
    rw (p.1, p.2)
    (heard_weaker g.F.Folder.tells (g.F.Folder.told c.args.files.now) (g.F.Folder.heard c.args.files.now) (g.F.Folder.heard c.script.new.files) _ _
    (λ answers is. script_first answers (record { nodes = c.args.dag; inputs = c.args.inputs.items }) (option_map (λ n. n.now) c.args.name) c.args.settings _ c.in_err-script.field-0.0 is)
    c.in_err-script.ensures.heard)

pub returns-clause-heard : goal.returns-clause-heard
returns-clause-heard g c =
    heard_weaker g.F.Folder.tells (g.F.Folder.told c.args.files.now) (g.F.Folder.heard c.args.files.now) (g.F.Folder.heard c.script.new.files) _ _
    (λ answers read. scripted_of answers (record { nodes = c.args.dag; inputs = c.args.inputs.items }) (option_map (λ n. n.now) c.args.name) c.args.settings _ c.in_ok-script.script c.judge.result read c.judge.ensures)
    c.in_ok-script.ensures.heard
