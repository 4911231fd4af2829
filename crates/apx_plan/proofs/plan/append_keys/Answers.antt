use Rattle.apx_plan.specs.Plan.{keys_text}
use Rattle.apx_plan.proofs.Growing.{no_keys, keys_more, extends_front}
use Rattle.apx_plan.proofs.plan.append_keys.Goals as goal

pub loop-class-init : goal.loop-class-init
loop-class-init c = no_keys c.args.n c.args.partition c.args.into.now.items

pub loop-class-preserved : goal.loop-class-preserved
loop-class-preserved c = keys_more c.args.n c.args.partition c.loop-class.class c.args.into.now.items c.loop-class.into.items c.append_key.new.into.items c.loop-class.invariant c.in_ok-append_key.ensures.ok

pub returns-in_err-append_key-clause-kept : goal.returns-in_err-append_key-clause-kept
returns-in_err-append_key-clause-kept c = extends_front c.args.into.now.items (keys_text c.args.n c.args.partition c.loop-class.class) c.loop-class.into.items c.append_key.new.into.items c.loop-class.invariant c.in_err-append_key.ensures.kept
