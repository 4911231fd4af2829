use Rattle.std.proofs.Common.{◌≡◌, rules}
use Rattle.apx_disk.proofs.memory_disk.replace.Goals as goal

pub returns-clause-kept : goal.returns-clause-kept
returns-clause-kept c =
    let same : c.in_ok-was.was'.items ≡ c.args.bytes.now.items = search rules in
    (c.in_ok-was.was', same, c.in_ok-push.ensures.items)
