use Rattle.std.proofs.Common.{◌≡◌, ℕ, suc, ◌+◌, ◌-◌, cond, List, [], ◌∷◌, ◌++◌, length, map, take, get_or, set, slice_index, sym, ap, subst, ◌∙◌, arith, rules, length-append}
use Rattle.std.specs.Prelude.{Err}
use Rattle.std.proofs.lemmas.Iterator.Adapters.{YieldsList-from_vec}
use Rattle.std.proofs.lemmas.Iterator.Consumers.{YieldsList-turn, YieldsList-end}
use Rattle.std.proofs.lemmas.List.{length_push, length-set, length-map}
use Rattle.apx_dag.specs.Valid.{IsGraph}
use Rattle.apx_list.specs.declared.block.Block.{Block}
use Rattle.apx_pass.specs.Graph.{Node, node_at, is_sink}
use Rattle.apx_pass.specs.Order.{IsBefore}
use Rattle.apx_pass.specs.Pass.{rows_at, sink_of}
use Rattle.apx_tuple.specs.declared.refusal.Short.{Short}
use Rattle.apx_blocks.specs.Carried.{parts_after}
use Rattle.apx_blocks.proofs.Stepping.{IsSent, there, left-comes, right-comes, sent-next, rows-next, sink-rows}
use Rattle.apx_blocks.proofs.Wholly.{at-window}
use Rattle.apx_blocks.proofs.Working.{map-one-more, place-at, take-whole}
use Rattle.apx_blocks.proofs.run.pass_all.Goals as goal

pub loop-before-preserved : goal.loop-before-preserved
loop-before-preserved c =
    let job = c.args.job.now in
    let order = c.args.order.now in
    let w = c.args.passed + 1 in
    let k = c.len-place.result in
    let len : c.into_iter-before-iterator.result.rest.len ≡ length c.args.parts.items = search rules in
    let road = YieldsList-from_vec c.args.parts.items (c.into_iter-before-iterator.ensures.into_iter_gives.0) len in
    let t = YieldsList-turn road c.loop-before.yielded _ c.loop-before.yielded_by _ c.next.new.self c.in-Some.before c.in-Some.is c.next.ensures.steps in
    let count : k ≡ length c.loop-before.carried.items = search rules in
    let n : k ≡ length c.loop-before.yielded = count ∙ c.loop-before.invariant.long in
    let h = place-at (parts_after job c.args.passed) order k (length c.loop-before.yielded) c.args.parts.items _ c.in-Some.before n c.requires.parts t.0 t.1 in
    let graph : IsGraph job.flow.nodes = subst (λ (ns : List Node). IsGraph ns) c.dag-dag.ensures c.len-count.ensures.valid in
    let worked = c.in_ok-made.ensures.ok in
    let node : c.node.result.now ≡ node_at job.flow.nodes (slice_index order k) = c.node.ensures ∙ ap (λ (ns : List Node). node_at ns (slice_index order k)) c.dag-dag.ensures in
    let more : length (c.loop-before.yielded ++ c.in-Some.before ∷ []) ≡ k + 1 = omega (arith, length-append c.loop-before.yielded (c.in-Some.before ∷ []), n) in
    let behind : (o : ℕ) → IsBefore order k o → IsBefore order (length c.loop-before.yielded) o = λ o b. subst (λ (m : ℕ). IsBefore order m o) n b in
    record {
      long = ap length c.in_ok-push.ensures.items ∙ length_push c.loop-before.carried.items c.in_ok-made.made.parts ∙ ap (λ (q : ℕ). q + 1) (sym count) ∙ sym more;
      carried = map-one-more (parts_after job w) order k _ c.in_ok-made.made.parts c.loop-before.carried.items _ h.0 more (c.loop-before.invariant.carried ∙ ap (λ q. map (parts_after job w) (take q order)) (sym n)) worked.parts_are c.in_ok-push.ensures.items;
      size = length-set c.loop-before.sent.items c.from.result c.in_ok-made.made.sent ∙ c.loop-before.invariant.size;
      sent = sent-next job graph order c.requires.order w k h.0 c.loop-before.sent.items c.loop-before.invariant.size (λ o b. c.loop-before.invariant.sent o (behind o b)) _ more c.in_ok-made.made.sent _ (ap (λ (q : ℕ). set c.loop-before.sent.items q c.in_ok-made.made.sent) c.from.ensures) worked.sent_are;
      rows = rows-next job graph order c.requires.order w k h.0 c.loop-before.rows (λ o b. c.loop-before.invariant.rows o (behind o b)) _ more c.in_ok-made.made.rows _ (c.sink_rows-rows.ensures ∙ ap (λ (x : Node). cond (is_sink x.role) c.in_ok-made.made.rows c.loop-before.rows) node) worked.rows_are;
    }

pub work_operator-requires-clause-op : goal.work_operator-requires-clause-op
work_operator-requires-clause-op c =
    let job = c.args.job.now in
    let order = c.args.order.now in
    let w = c.args.passed + 1 in
    let k = c.len-place.result in
    let len : c.into_iter-before-iterator.result.rest.len ≡ length c.args.parts.items = search rules in
    let road = YieldsList-from_vec c.args.parts.items (c.into_iter-before-iterator.ensures.into_iter_gives.0) len in
    let t = YieldsList-turn road c.loop-before.yielded _ c.loop-before.yielded_by _ c.next.new.self c.in-Some.before c.in-Some.is c.next.ensures.steps in
    let count : k ≡ length c.loop-before.carried.items = search rules in
    let n : k ≡ length c.loop-before.yielded = count ∙ c.loop-before.invariant.long in
    let h = place-at (parts_after job c.args.passed) order k (length c.loop-before.yielded) c.args.parts.items _ c.in-Some.before n c.requires.parts t.0 t.1 in
    let graph : IsGraph job.flow.nodes = subst (λ (ns : List Node). IsGraph ns) c.dag-dag.ensures c.len-count.ensures.valid in
    there job graph order c.requires.order w k h.0

pub work_operator-requires-clause-parts : goal.work_operator-requires-clause-parts
work_operator-requires-clause-parts c =
    let job = c.args.job.now in
    let order = c.args.order.now in
    let w = c.args.passed + 1 in
    let k = c.len-place.result in
    let len : c.into_iter-before-iterator.result.rest.len ≡ length c.args.parts.items = search rules in
    let road = YieldsList-from_vec c.args.parts.items (c.into_iter-before-iterator.ensures.into_iter_gives.0) len in
    let t = YieldsList-turn road c.loop-before.yielded _ c.loop-before.yielded_by _ c.next.new.self c.in-Some.before c.in-Some.is c.next.ensures.steps in
    let count : k ≡ length c.loop-before.carried.items = search rules in
    let n : k ≡ length c.loop-before.yielded = count ∙ c.loop-before.invariant.long in
    let h = place-at (parts_after job c.args.passed) order k (length c.loop-before.yielded) c.args.parts.items _ c.in-Some.before n c.requires.parts t.0 t.1 in
    let graph : IsGraph job.flow.nodes = subst (λ (ns : List Node). IsGraph ns) c.dag-dag.ensures c.len-count.ensures.valid in
    let before : c.args.passed ≡ w - 1 = omega arith in
    h.1 ∙ ap (λ (v : ℕ). parts_after job v (slice_index order k)) before

pub work_operator-requires-clause-left : goal.work_operator-requires-clause-left
work_operator-requires-clause-left c =
    let job = c.args.job.now in
    let order = c.args.order.now in
    let w = c.args.passed + 1 in
    let k = c.len-place.result in
    let len : c.into_iter-before-iterator.result.rest.len ≡ length c.args.parts.items = search rules in
    let road = YieldsList-from_vec c.args.parts.items (c.into_iter-before-iterator.ensures.into_iter_gives.0) len in
    let t = YieldsList-turn road c.loop-before.yielded _ c.loop-before.yielded_by _ c.next.new.self c.in-Some.before c.in-Some.is c.next.ensures.steps in
    let count : k ≡ length c.loop-before.carried.items = search rules in
    let n : k ≡ length c.loop-before.yielded = count ∙ c.loop-before.invariant.long in
    let h = place-at (parts_after job c.args.passed) order k (length c.loop-before.yielded) c.args.parts.items _ c.in-Some.before n c.requires.parts t.0 t.1 in
    let graph : IsGraph job.flow.nodes = subst (λ (ns : List Node). IsGraph ns) c.dag-dag.ensures c.len-count.ensures.valid in
    let behind : (o : ℕ) → IsBefore order k o → IsBefore order (length c.loop-before.yielded) o = λ o b. subst (λ (m : ℕ). IsBefore order m o) n b in
    let sent = c.deref.ensures.value in
    left-comes job graph order c.requires.order w k h.0 c.deref.result.now (ap length sent ∙ c.loop-before.invariant.size)
    (λ o b. subst (λ (xs : List (List (List Block))). IsSent job w o (get_or xs o [])) (sym sent) (c.loop-before.invariant.sent o (behind o b)))

pub work_operator-requires-clause-right : goal.work_operator-requires-clause-right
work_operator-requires-clause-right c =
    let job = c.args.job.now in
    let order = c.args.order.now in
    let w = c.args.passed + 1 in
    let k = c.len-place.result in
    let len : c.into_iter-before-iterator.result.rest.len ≡ length c.args.parts.items = search rules in
    let road = YieldsList-from_vec c.args.parts.items (c.into_iter-before-iterator.ensures.into_iter_gives.0) len in
    let t = YieldsList-turn road c.loop-before.yielded _ c.loop-before.yielded_by _ c.next.new.self c.in-Some.before c.in-Some.is c.next.ensures.steps in
    let count : k ≡ length c.loop-before.carried.items = search rules in
    let n : k ≡ length c.loop-before.yielded = count ∙ c.loop-before.invariant.long in
    let h = place-at (parts_after job c.args.passed) order k (length c.loop-before.yielded) c.args.parts.items _ c.in-Some.before n c.requires.parts t.0 t.1 in
    let graph : IsGraph job.flow.nodes = subst (λ (ns : List Node). IsGraph ns) c.dag-dag.ensures c.len-count.ensures.valid in
    let behind : (o : ℕ) → IsBefore order k o → IsBefore order (length c.loop-before.yielded) o = λ o b. subst (λ (m : ℕ). IsBefore order m o) n b in
    let sent = c.deref.ensures.value in
    right-comes job graph order c.requires.order w k h.0 c.deref.result.now (ap length sent ∙ c.loop-before.invariant.size)
    (λ o b. subst (λ (xs : List (List (List Block))). IsSent job w o (get_or xs o [])) (sym sent) (c.loop-before.invariant.sent o (behind o b)))

pub returns-in_err-made-clause-large : goal.returns-in_err-made-clause-large
returns-in_err-made-clause-large c = λ refused.
    let job = c.args.job.now in
    let order = c.args.order.now in
    let w = c.args.passed + 1 in
    let k = c.len-place.result in
    let len : c.into_iter-before-iterator.result.rest.len ≡ length c.args.parts.items = search rules in
    let road = YieldsList-from_vec c.args.parts.items (c.into_iter-before-iterator.ensures.into_iter_gives.0) len in
    let t = YieldsList-turn road c.loop-before.yielded _ c.loop-before.yielded_by _ c.next.new.self c.in-Some.before c.in-Some.is c.next.ensures.steps in
    let count : k ≡ length c.loop-before.carried.items = search rules in
    let n : k ≡ length c.loop-before.yielded = count ∙ c.loop-before.invariant.long in
    let h = place-at (parts_after job c.args.passed) order k (length c.loop-before.yielded) c.args.parts.items _ c.in-Some.before n c.requires.parts t.0 t.1 in
    let graph : IsGraph job.flow.nodes = subst (λ (ns : List Node). IsGraph ns) c.dag-dag.ensures c.len-count.ensures.valid in
    let q = rw refused at c.from_residual-in_err-made.ensures.1 in
    let is = ap (λ (e : Short). Err e) (sym q) in
    at-window job c.windows.ensures.job graph order c.requires.order c.requires.short w (slice_index order k) (omega arith) (omega (arith, c.requires.within)) (there job graph order c.requires.order w k h.0) (c.in_err-made.ensures.large is)

pub index_mut-requires : goal.index_mut-requires
index_mut-requires c =
    let job = c.args.job.now in
    let order = c.args.order.now in
    let w = c.args.passed + 1 in
    let k = c.len-place.result in
    let len : c.into_iter-before-iterator.result.rest.len ≡ length c.args.parts.items = search rules in
    let road = YieldsList-from_vec c.args.parts.items (c.into_iter-before-iterator.ensures.into_iter_gives.0) len in
    let t = YieldsList-turn road c.loop-before.yielded _ c.loop-before.yielded_by _ c.next.new.self c.in-Some.before c.in-Some.is c.next.ensures.steps in
    let count : k ≡ length c.loop-before.carried.items = search rules in
    let n : k ≡ length c.loop-before.yielded = count ∙ c.loop-before.invariant.long in
    let h = place-at (parts_after job c.args.passed) order k (length c.loop-before.yielded) c.args.parts.items _ c.in-Some.before n c.requires.parts t.0 t.1 in
    let graph : IsGraph job.flow.nodes = subst (λ (ns : List Node). IsGraph ns) c.dag-dag.ensures c.len-count.ensures.valid in
    let l = there job graph order c.requires.order w k h.0 in
    omega (arith, l, c.loop-before.invariant.size)

pub node-requires : goal.node-requires
node-requires c =
    let job = c.args.job.now in
    let order = c.args.order.now in
    let w = c.args.passed + 1 in
    let k = c.len-place.result in
    let len : c.into_iter-before-iterator.result.rest.len ≡ length c.args.parts.items = search rules in
    let road = YieldsList-from_vec c.args.parts.items (c.into_iter-before-iterator.ensures.into_iter_gives.0) len in
    let t = YieldsList-turn road c.loop-before.yielded _ c.loop-before.yielded_by _ c.next.new.self c.in-Some.before c.in-Some.is c.next.ensures.steps in
    let count : k ≡ length c.loop-before.carried.items = search rules in
    let n : k ≡ length c.loop-before.yielded = count ∙ c.loop-before.invariant.long in
    let h = place-at (parts_after job c.args.passed) order k (length c.loop-before.yielded) c.args.parts.items _ c.in-Some.before n c.requires.parts t.0 t.1 in
    let graph : IsGraph job.flow.nodes = subst (λ (ns : List Node). IsGraph ns) c.dag-dag.ensures c.len-count.ensures.valid in
    let l = there job graph order c.requires.order w k h.0 in
    omega (arith, l, ap (λ (ns : List Node). length ns) c.dag-dag.ensures)

pub returns-clause-parts : goal.returns-clause-parts
returns-clause-parts c =
    let job = c.args.job.now in
    let order = c.args.order.now in
    let w = c.args.passed + 1 in
    let len : c.into_iter-before-iterator.result.rest.len ≡ length c.args.parts.items = search rules in
    let road = YieldsList-from_vec c.args.parts.items (c.into_iter-before-iterator.ensures.into_iter_gives.0) len in
    let end = YieldsList-end road c.loop-before.yielded _ c.loop-before.yielded_by _ c.next.new.self c.in-None.is c.next.ensures.steps in
    let all : length c.loop-before.yielded ≡ length order = end.1 ∙ ap length c.requires.parts ∙ length-map order (parts_after job c.args.passed) in
    let one : w ≡ suc c.args.passed = omega arith in
    c.loop-before.invariant.carried ∙ ap (map (parts_after job w)) (take-whole order (length c.loop-before.yielded) all) ∙ ap (λ (v : ℕ). map (parts_after job v) order) one

pub returns-clause-rows : goal.returns-clause-rows
returns-clause-rows c =
    let job = c.args.job.now in
    let order = c.args.order.now in
    let w = c.args.passed + 1 in
    let len : c.into_iter-before-iterator.result.rest.len ≡ length c.args.parts.items = search rules in
    let road = YieldsList-from_vec c.args.parts.items (c.into_iter-before-iterator.ensures.into_iter_gives.0) len in
    let end = YieldsList-end road c.loop-before.yielded _ c.loop-before.yielded_by _ c.next.new.self c.in-None.is c.next.ensures.steps in
    let all : length c.loop-before.yielded ≡ length order = end.1 ∙ ap length c.requires.parts ∙ length-map order (parts_after job c.args.passed) in
    let graph : IsGraph job.flow.nodes = subst (λ (ns : List Node). IsGraph ns) c.dag-dag.ensures c.len-count.ensures.valid in
    let one : w ≡ suc c.args.passed = omega arith in
    sink-rows job graph order c.requires.order w (length c.loop-before.yielded) all c.loop-before.rows c.loop-before.invariant.rows
    ∙ ap (λ (v : ℕ). rows_at job.flow v (sink_of job.flow.nodes)) one
