use Rattle.std.proofs.Common.{◌≡◌, ◌∙◌, sym, Option}
use Rattle.std.specs.Option.{option_map}
use Rattle.std.proofs.lemmas.Result.{IfOk-weaker}
use Rattle.apx_pass.specs.Script.{act_of}
use Rattle.apx_script.specs.Views.{act_view}
use Rattle.apx_script.proofs.Splitting.{is_text, no_text}
use Rattle.apx_script.proofs.read.act.Goals as goal

pub returns-in-Ok : goal.returns-in-Ok
returns-in-Ok c =
    IfOk-weaker c.act_in.result _ _ (λ act h. h ∙ is_text c.args.line.now c.in-Ok.line.now c.in-Ok.ensures.cases.1 c.in-Ok.ensures.cases.0) c.act_in.ensures

pub returns-in-Err : goal.returns-in-Err
returns-in-Err c = sym (no_text c.args.line.now c.in-Err.ensures.cases.0)
