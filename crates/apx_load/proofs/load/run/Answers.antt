use Rattle.std.proofs.Common.{◌++◌, inr}
use Rattle.std.proofs.lemmas.Result.{err_from_is_err_and}
use Rattle.apx_load.specs.Refusals.{by_answers, IsInputsRefusal, IsRunRefusal}
use Rattle.apx_load.proofs.Heard.{heard_then}
use Rattle.apx_load.proofs.Readings.{by-first, by-second, of-application, of-inputs, of-inputs-refusal}
use Rattle.apx_load.proofs.Stopping.{read_later}
use Rattle.apx_load.proofs.load.run.Goals as goal

pub returns-in_err-inputs-clause-heard : goal.returns-in_err-inputs-clause-heard
returns-in_err-inputs-clause-heard g c =
    let p = err_from_is_err_and c.from_residual-in_err-inputs.result c.from_residual-in_err-inputs.ensures.1 in
    rw (p.1, p.2)
    (heard_then g.F.Folder.tells (g.F.Folder.told c.args.files.now) (g.F.Folder.told c.application.new.files) (g.F.Folder.heard c.args.files.now) (g.F.Folder.heard c.application.new.files) (g.F.Folder.heard c.inputs.new.files) _ _ _ c.in_ok-dag.ensures.told
    (λ first second app stop. read_later (IsInputsRefusal (by_answers second) c.in_ok-dag.dag) (IsRunRefusal (by_answers (first ++ second)) c.args.name.now) first second _ _ _ c.in_err-inputs.field-0.0 c.in_ok-dag.ensures.later
    (λ refusal is. inr (
      c.in_ok-dag.dag,
      of-application (by_answers first) (by_answers (first ++ second)) (by-first first second) c.args.name.now c.in_ok-dag.dag app.1,
      of-inputs-refusal (by_answers second) (by_answers (first ++ second)) (by-second first second) c.in_ok-dag.dag refusal is,
    ))
    stop)
    c.in_ok-dag.ensures.heard c.in_err-inputs.ensures.heard)

pub returns-clause-heard : goal.returns-clause-heard
returns-clause-heard g c =
    heard_then g.F.Folder.tells (g.F.Folder.told c.args.files.now) (g.F.Folder.told c.application.new.files) (g.F.Folder.heard c.args.files.now) (g.F.Folder.heard c.application.new.files) (g.F.Folder.heard c.inputs.new.files) _ _ _ c.in_ok-dag.ensures.told
    (λ first second app are. record {
      application = of-application (by_answers first) (by_answers (first ++ second)) (by-first first second) c.args.name.now c.in_ok-dag.dag app.1;
      inputs = of-inputs (by_answers second) (by_answers (first ++ second)) (by-second first second) c.in_ok-dag.dag c.in_ok-inputs.inputs.items are;
    })
    c.in_ok-dag.ensures.heard c.in_ok-inputs.ensures.heard
