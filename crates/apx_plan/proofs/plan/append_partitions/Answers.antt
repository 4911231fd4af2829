use Rattle.apx_plan.specs.Plan.{partitions_text}
use Rattle.apx_plan.proofs.Growing.{no_partitions, partitions_more, extends_front}
use Rattle.apx_plan.proofs.plan.append_partitions.Goals as goal

pub loop-partition-init : goal.loop-partition-init
loop-partition-init c = no_partitions c.args.n c.args.into.now.items

pub loop-partition-preserved : goal.loop-partition-preserved
loop-partition-preserved c = partitions_more c.args.n c.loop-partition.partition c.args.into.now.items c.loop-partition.into.items c.append_partition.new.into.items c.loop-partition.invariant c.in_ok-append_partition.ensures.ok

pub returns-in_err-append_partition-clause-kept : goal.returns-in_err-append_partition-clause-kept
returns-in_err-append_partition-clause-kept c = extends_front c.args.into.now.items (partitions_text c.args.n c.loop-partition.partition) c.loop-partition.into.items c.append_partition.new.into.items c.loop-partition.invariant c.in_err-append_partition.ensures.kept
