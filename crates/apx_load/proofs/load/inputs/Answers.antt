use Rattle.std.proofs.Common.{◌≡◌, ◌<◌, ◌++◌, length, Option, append-nil, Vec, refl, sym, ap, ◌∙◌, arith}
use Rattle.std.specs.declared.alloc.Global.{Global}
use Rattle.apx_pass.specs.Groups.{Input}
use Rattle.std.proofs.lemmas.Result.{err_from_is_err_and}
use Rattle.apx_pass.proofs.Inputs.{inputs_before-none}
use Rattle.apx_load.proofs.Heard.{heard_none, heard_weaker}
use Rattle.apx_load.proofs.Loading.{there_of, there_count, no_inputs, next_input, stops_at_input, short_of_memory}
use Rattle.apx_load.proofs.load.inputs.Goals as goal
use Rattle.apx_load.proofs.load.inputs.Goals.{in-Some+in_ok-push, in_default}

pub loop-operator-init : goal.loop-operator-init
loop-operator-init g c = record {
  told = refl;
  later = omega arith;
  so_far = heard_none _ _ _ _ (no_inputs _ _ c.new-inputs.ensures.items);
  count = ap length c.new-inputs.ensures.items ∙ sym (inputs_before-none c.args.dag.now);
}

pub returns-in_err-windows-clause-heard : goal.returns-in_err-windows-clause-heard
returns-in_err-windows-clause-heard g c =
    let p = err_from_is_err_and c.from_residual.result c.from_residual.ensures.1 in
    rw (p.1, p.2)
    (stops_at_input g.F.Folder.tells (g.F.Folder.told c.args.files.now) (g.F.Folder.told c.loop-operator.files) (g.F.Folder.heard c.args.files.now) (g.F.Folder.heard c.loop-operator.files) (g.F.Folder.heard c.input.new.files)
    c.args.dag.now c.node.result.now c.loop-operator.operator c.loop-operator.inputs.items (g.F.Folder.faults c.args.files.now) (g.F.Folder.faults c.loop-operator.files) (g.F.Folder.faults c.input.new.files) c.in_err-windows.field-0.0
    c.loop-operator.invariant.told c.loop-operator.invariant.later (omega (arith, c.len-operator-end.ensures.len)) c.node.ensures c.loop-operator.invariant.so_far c.in_err-windows.ensures.heard)

pub returns-in_err-push-clause-heard : goal.returns-in_err-push-clause-heard
returns-in_err-push-clause-heard g c =
    let p = err_from_is_err_and c.from_residual-in_err-push.result c.from_residual-in_err-push.ensures.1 in
    rw (p.1, p.2)
    (short_of_memory g.F.Folder.tells (g.F.Folder.told c.args.files.now) (g.F.Folder.told c.loop-operator.files) (g.F.Folder.heard c.args.files.now) (g.F.Folder.heard c.loop-operator.files) (g.F.Folder.heard c.input.new.files) c.args.dag.now c.node.result.now c.loop-operator.operator c.loop-operator.inputs.items
    _ _ c.loop-operator.invariant.told (λ answers. tt) c.loop-operator.invariant.so_far (heard_weaker g.F.Folder.tells (g.F.Folder.told c.loop-operator.files) (g.F.Folder.heard c.loop-operator.files) (g.F.Folder.heard c.input.new.files) _ _ (λ answers is. tt) c.in_ok-windows.ensures.heard))

pub loop-operator-preserved : goal.loop-operator-preserved
loop-operator-preserved g c =
    let within : c.loop-operator.operator < length c.args.dag.now = omega (arith, c.len-operator-end.ensures.len) in
    let items : c.match-branch-2.inputs.items ≡ c.loop-operator.inputs.items ++ there_of c.in_ok-windows.field-0 = elim c.match-branch-2.branch [
      | in-Some+in_ok-push w ↦ ap (λ (v : Vec Input Global). v.items) w.inputs-is ∙ w.in_ok-push.ensures.items ∙ ap (λ (o : Option Input). c.loop-operator.inputs.items ++ there_of o) (sym w.in-Some.is)
      | in_default w ↦ ap (λ (v : Vec Input Global). v.items) w.inputs-is ∙ sym (append-nil c.loop-operator.inputs.items) ∙ ap (λ (o : Option Input). c.loop-operator.inputs.items ++ there_of o) (sym w.in_default.is)
    ] in
    record {
      told = c.in_ok-windows.ensures.told ∙ c.loop-operator.invariant.told;
      later = omega (arith, c.in_ok-windows.ensures.later, c.loop-operator.invariant.later);
      so_far = next_input g.F.Folder.tells (g.F.Folder.told c.args.files.now) (g.F.Folder.told c.loop-operator.files) (g.F.Folder.heard c.args.files.now) (g.F.Folder.heard c.loop-operator.files) (g.F.Folder.heard c.input.new.files)
          c.args.dag.now c.node.result.now c.loop-operator.operator c.loop-operator.inputs.items c.in_ok-windows.field-0 c.match-branch-2.inputs.items items c.loop-operator.invariant.told within c.node.ensures c.loop-operator.invariant.so_far c.in_ok-windows.ensures.heard;
      count = ap length items ∙ there_count c.args.dag.now c.loop-operator.operator c.node.result.now c.loop-operator.inputs.items c.in_ok-windows.field-0 within c.node.ensures c.in_ok-windows.ensures.there c.loop-operator.invariant.count;
    }
