use Rattle.std.proofs.Common.{[]}
use Rattle.apx_load.specs.Refusals.{by_answers}
use Rattle.apx_load.proofs.Heard.{heard_none}
use Rattle.apx_load.proofs.Scripting.{no_script}
use Rattle.apx_load.proofs.jobs.script.Goals as goal

pub returns-in-None-clause-heard : goal.returns-in-None-clause-heard
returns-in-None-clause-heard g c = heard_none _ _ _ _ (no_script (by_answers []) c.args.name c.new.result c.in-None.is c.new.ensures)
