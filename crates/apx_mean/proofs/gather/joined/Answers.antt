use Rattle.std.proofs.Common.{◌≡◌, ◌++◌, rules}
use Rattle.apx_mean.proofs.Gathering.{bag-joined}
use Rattle.apx_mean.proofs.gather.joined.Goals as goal

pub returns : goal.returns
returns c =
    let all : c.append.new.self.items ≡ c.into_tuples-all.result.items ++ c.into_tuples-before.result.items = search rules in
    bag-joined c.args.before c.into_tuples-all.result.items c.args.now c.append.new.self.items c.into_tuples-all.ensures
    (rw (← c.into_tuples-before.ensures.tuples) all)
