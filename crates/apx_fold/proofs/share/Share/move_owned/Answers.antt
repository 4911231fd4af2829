use Rattle.std.proofs.Common.{◌≡◌, ◌==◌, ◌++◌, Bool, List, cond, is_ok, filter, rules, ap, ◌∙◌}
use Rattle.std.proofs.lemmas.Fn.{filter_same}
use Rattle.apx_codec.specs.KeyNumber.{owner_of}
use Rattle.apx_tuple.specs.declared.tuple.Tuple.{Tuple}
use Rattle.apx_fold.proofs.Cuts.{appended}
use Rattle.apx_fold.proofs.share.Share.move_owned.Goals as goal

pub returns : goal.returns
returns c =
    let owns : Tuple → Bool = λ t. owner_of c.args.self.now.n t.key == c.args.self.now.i in
    let old = c.args.into.now.items in
    let kept : c.retain.new.self.items ≡ filter owns c.args.tuples.items = filter_same _ owns _ (λ x b f' k. search rules) _ _ c.retain.ensures.filtered in
    appended c.append.result old (filter owns c.args.tuples.items) c.append.new.self.items
    (c.append.ensures.items ∙ ap (λ (ts : List Tuple). cond (is_ok c.append.result) (old ++ ts) old) kept)
