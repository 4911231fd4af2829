use Rattle.std.proofs.Common.{◌≡◌, ◌∙◌, ap, arith, List}
use Rattle.apx_tuple.specs.declared.tuple.Tuple.{Tuple}
use Rattle.apx_rules.specs.Step.{rank_order}
use Rattle.apx_step.specs.Places.{place}
use Rattle.apx_step.proofs.Firsts.{place-fits}
use Rattle.apx_fold.proofs.Bests.{put-in-place, ranked-more}
use Rattle.std.specs.List.{insert}
use Rattle.apx_fold.proofs.best.consider.Goals as goal

pub insert-requires : goal.insert-requires
insert-requires c =
    let first = c.deref-2.result.now in
    omega (arith, place-fits rank_order c.args.tuple.now first, c.place_of-place.ensures, c.deref-2.ensures.len)

pub returns-clause-ranked : goal.returns-clause-ranked
returns-clause-ranked c =
    let first = c.args.first.now.items in
    let place_is = c.place_of-place.ensures ∙ ap (λ (l : List Tuple). place rank_order c.args.tuple.now l) c.deref-2.ensures.value in
    let put : c.insert.new.self.items ≡ insert first c.place_of-place.result c.args.tuple.now = c.in_ok-insert.ensures.items ∙ ap (λ (t : Tuple). insert first c.place_of-place.result t) c.in_ok-copied.ensures in
    ranked-more c.args.k c.args.tuple.now first c.truncate.new.self.items c.requires.ranked
    (put-in-place c.args.k c.args.tuple.now first c.insert.new.self.items c.truncate.new.self.items c.place_of-place.result place_is put c.truncate.ensures.items)

pub returns-clause-first : goal.returns-clause-first
returns-clause-first c =
    let first = c.args.first.now.items in
    let place_is = c.place_of-place.ensures ∙ ap (λ (l : List Tuple). place rank_order c.args.tuple.now l) c.deref-2.ensures.value in
    let put : c.insert.new.self.items ≡ insert first c.place_of-place.result c.args.tuple.now = c.in_ok-insert.ensures.items ∙ ap (λ (t : Tuple). insert first c.place_of-place.result t) c.in_ok-copied.ensures in
    put-in-place c.args.k c.args.tuple.now first c.insert.new.self.items c.truncate.new.self.items c.place_of-place.result place_is put c.truncate.ensures.items
