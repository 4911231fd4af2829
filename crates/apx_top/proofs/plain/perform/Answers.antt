use Rattle.std.proofs.Common.{refl}
use Rattle.apx_load.proofs.Heard.{heard_none, heard_weaker}
use Rattle.apx_cmd.specs.declared.commands.Command.TheVariants.{Sim}
use Rattle.apx_top.specs.Way.{in_order}
use Rattle.apx_top.proofs.Performing.{untouched, unbuilt_heard, printed_by, trace_by, gen_by, audit_by}
use Rattle.apx_top.proofs.plain.perform.Goals as goal

pub returns-in-Sim-clause-heard : goal.returns-in-Sim-clause-heard
returns-in-Sim-clause-heard g c =
    heard_weaker g.F.Folder.tells (g.F.Folder.told c.args.files.now) (g.F.Folder.heard c.args.files.now) (g.F.Folder.heard c.run_files.new.files) _ _
    (λ answers ran. printed_by (λ app script. Sim app script c.in-Sim.settings c.in-Sim.order) (in_order c.in-Sim.order) c.text-in-Sim.result.now c.in-Sim.app c.as_ref.result c.in-Sim.script c.in-Sim.settings c.args.command.now _ _ c.text-in-Sim.ensures c.as_ref.ensures.value c.in-Sim.is (λ performed. performed) ran)
    c.run_files.ensures.heard

pub returns-in-Gen-clause-heard : goal.returns-in-Gen-clause-heard
returns-in-Gen-clause-heard g c =
    heard_none g.F.Folder.tells (g.F.Folder.told c.args.files.now) (g.F.Folder.heard c.args.files.now) _
    (gen_by c.in-Gen.number c.in-Gen.size c.args.command.now _ _ c.in-Gen.is refl c.run_example.ensures)

pub returns-in-Group-clause-heard : goal.returns-in-Group-clause-heard
returns-in-Group-clause-heard g c = unbuilt_heard g.F.Folder.tells (g.F.Folder.told c.args.files.now) (g.F.Folder.heard c.args.files.now) _ _ _ _ _ c.unrun-in-Group.ensures.left (untouched c.args.devices c.unrun-in-Group.result.devices c.unrun-in-Group.ensures.devices) refl c.args.command.now _ c.in-Group.is tt

pub returns-in-Trace-clause-heard : goal.returns-in-Trace-clause-heard
returns-in-Trace-clause-heard g c =
    heard_weaker g.F.Folder.tells (g.F.Folder.told c.args.files.now) (g.F.Folder.heard c.args.files.now) (g.F.Folder.heard c.trace_files.new.files) _ _
    (λ answers ran. trace_by c.text-in-Trace.result.now c.in-Trace.app c.as_ref-in-Trace.result c.in-Trace.script c.in-Trace.settings c.in-Trace.order c.args.command.now _ _ c.text-in-Trace.ensures c.as_ref-in-Trace.ensures.value c.in-Trace.is ran)
    c.trace_files.ensures.heard

pub returns-in-Audit-clause-heard : goal.returns-in-Audit-clause-heard
returns-in-Audit-clause-heard g c =
    heard_weaker g.F.Folder.tells (g.F.Folder.told c.args.files.now) (g.F.Folder.heard c.args.files.now) (g.F.Folder.heard c.audit-end.new.files) _ _
    (λ answers told. audit_by c.args.command.now _ _ c.audit-end.result c.unrun-in-Audit.ensures.left (untouched c.args.devices c.unrun-in-Audit.result.devices c.unrun-in-Audit.ensures.devices) c.text-in-Audit.result.now c.in-Audit.app c.text-in-Audit-2.result.now c.in-Audit.journal c.as_ref-in-Audit.result c.in-Audit.script c.in-Audit.settings c.text-in-Audit.ensures c.text-in-Audit-2.ensures c.as_ref-in-Audit.ensures.value c.in-Audit.is told)
    c.audit-end.ensures.heard
