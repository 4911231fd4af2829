use Rattle.std.proofs.Common.{◌≡◌, ◌<◌, ◌+◌, ℕ, List, ◌∷◌, [], ◌++◌, length, rules, arith, sym, ap, ◌∙◌}
use Rattle.std.proofs.lemmas.Iterator.Adapters.{YieldsList-from_vec}
use Rattle.std.proofs.lemmas.Iterator.Consumers.{YieldsList-turn, YieldsList-end}
use Rattle.std.proofs.lemmas.List.{length_push}
use Rattle.apx_pass.specs.Pass.{mean}
use Rattle.apx_pass.specs.Texts.{window_text}
use Rattle.apx_tuple.specs.declared.tuple.Tuple.{Tuple}
use Rattle.apx_top.proofs.Numbered.{number, text-more, text-all}
use Rattle.apx_top.proofs.Printing.{none}
use Rattle.apx_top.proofs.mean.mean_text.Goals as goal

pub loop-window-init : goal.loop-window-init
loop-window-init c = c.new-text.ensures.items ∙ sym (none c.args.base 1)

pub window_text-requires-clause-window : goal.window_text-requires-clause-window
window_text-requires-clause-window c =
    let items = c.in_ok-items.items.items in
    let item : ℕ × List Tuple = (c.in-Some.window, c.in-Some.rows) in
    let len : c.into_iter-window-iterator.result.rest.len ≡ length items = search rules in
    let road = YieldsList-from_vec items (c.into_iter-window-iterator.ensures.into_iter_gives.0) len in
    let t = YieldsList-turn road c.loop-window.yielded _ c.loop-window.yielded_by _ c.next.new.self item c.in-Some.is c.next.ensures.steps in
    let within : length c.loop-window.yielded < length items = t.0 in
    let n : c.in-Some.window ≡ length c.loop-window.yielded + 1 = number (mean c.args.job.now.flow) items c.in_ok-items.ensures.ok (length c.loop-window.yielded) item t.0 t.1 in
    (omega arith, omega (arith, c.in_ok-items.ensures.few))

pub loop-window-preserved : goal.loop-window-preserved
loop-window-preserved c =
    let items = c.in_ok-items.items.items in
    let item : ℕ × List Tuple = (c.in-Some.window, c.in-Some.rows) in
    let len : c.into_iter-window-iterator.result.rest.len ≡ length items = search rules in
    let road = YieldsList-from_vec items (c.into_iter-window-iterator.ensures.into_iter_gives.0) len in
    let t = YieldsList-turn road c.loop-window.yielded _ c.loop-window.yielded_by _ c.next.new.self item c.in-Some.is c.next.ensures.steps in
    text-more (mean c.args.job.now.flow) items c.in_ok-items.ensures.ok (length c.loop-window.yielded) item t.0 t.1 c.args.base
    (length (c.loop-window.yielded ++ item ∷ [])) c.loop-window.text.items c.window_text.new.into.items (length_push c.loop-window.yielded item) c.loop-window.invariant
    (c.in_ok-window_text.ensures.ok ∙ ap (λ (rows : List Tuple). c.loop-window.text.items ++ window_text c.args.base c.in-Some.window rows) c.tuples.ensures.tuples)

pub returns-clause-ok : goal.returns-clause-ok
returns-clause-ok c =
    let items = c.in_ok-items.items.items in
    let len : c.into_iter-window-iterator.result.rest.len ≡ length items = search rules in
    let road = YieldsList-from_vec items (c.into_iter-window-iterator.ensures.into_iter_gives.0) len in
    let done = YieldsList-end road c.loop-window.yielded _ c.loop-window.yielded_by _ c.next.new.self c.in-None.is c.next.ensures.steps in
    text-all (mean c.args.job.now.flow) items c.in_ok-items.ensures.ok c.args.base (length c.loop-window.yielded) c.loop-window.text.items done.1 c.loop-window.invariant
