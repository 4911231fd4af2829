use Rattle.std.proofs.Common.{◌≡◌, suc, ℕ, ◌+◌, ◌≤◌, List, length, map, take, slice_index, arith, sym, ap, subst, ◌∙◌, rules, [], ◌∷◌, ◌++◌, length-append}
use Rattle.std.proofs.lemmas.Iterator.Adapters.{YieldsList-from_vec}
use Rattle.std.proofs.lemmas.Iterator.Consumers.{YieldsList-turn}
use Rattle.std.proofs.lemmas.List.{length_push, length-map}
use Rattle.std.specs.Prelude.{Err}
use Rattle.apx_tuple.specs.declared.refusal.Short.{Short}
use Rattle.apx_tuple.specs.declared.tuple.Tuple.{Tuple}
use Rattle.apx_pass.specs.Graph.{node_at}
use Rattle.apx_pass.specs.Pass.{progress_after, rows_at}
use Rattle.apx_mean.specs.Kept.{reads_from, AreKept}
use Rattle.apx_mean.specs.Passing.{dataflow_of}
use Rattle.apx_mean.specs.Views.{AreCome}
use Rattle.apx_mean.proofs.Keeping.{kept-push}
use Rattle.apx_mean.proofs.Turn.{made, made-large, map-one-more, here, within}
use Rattle.apx_mean.proofs.pass.pass_each.Goals as goal

pub returns-in_err-made-clause-large : goal.returns-in_err-made-clause-large
returns-in_err-made-clause-large c = λ refused.
    let flow = dataflow_of c.args.dag.now c.args.inputs.now in
    let len : c.into_iter-before-iterator.result.rest.len ≡ length c.args.progress.items = search rules in
    let road = YieldsList-from_vec c.args.progress.items (c.into_iter-before-iterator.ensures.into_iter_gives.0) len in
    let t = YieldsList-turn road c.loop-before.yielded _ c.loop-before.yielded_by _ c.next.new.self c.in-Some.before c.in-Some.is c.next.ensures.steps in
    let count : c.len.result ≡ length c.loop-before.rows.items = search rules in
    let h = here c.args.progress.items c.args.order.now (progress_after flow c.args.passed) c.len.result (length c.loop-before.yielded) c.in-Some.before (count ∙ c.loop-before.invariant.long) c.requires.carried t.0 t.1 in
    let come = subst (λ n. AreCome (rows_at flow (suc c.args.passed)) (node_at c.args.dag.now (slice_index c.args.order.now n)) c.in_ok-left.left c.in_ok-left.right) (sym count)
    (c.in_ok-left.ensures.came (rows_at flow (suc c.args.passed)) c.loop-before.invariant.kept) in
    let q = rw refused at c.from_residual-in_err-made.ensures.1 in
    let is = ap (λ (e : Short). Err e) (sym q) in
    made-large flow c.args.order.now c.requires.order c.args.passed c.len.result h.0 _ c.node-node.ensures _ c.input_of-input.ensures c.in-Some.before h.1 (c.args.passed + 1) (omega arith)
    _ _ come c.requires.within (c.in_err-made.ensures.inner is) (c.in_err-made.ensures.large is)

pub loop-before-preserved : goal.loop-before-preserved
loop-before-preserved c =
    let flow = dataflow_of c.args.dag.now c.args.inputs.now in
    let gives : ℕ → List Tuple = rows_at flow (suc c.args.passed) in
    let len : c.into_iter-before-iterator.result.rest.len ≡ length c.args.progress.items = search rules in
    let road = YieldsList-from_vec c.args.progress.items (c.into_iter-before-iterator.ensures.into_iter_gives.0) len in
    let t = YieldsList-turn road c.loop-before.yielded _ c.loop-before.yielded_by _ c.next.new.self c.in-Some.before c.in-Some.is c.next.ensures.steps in
    let count : c.len.result ≡ length c.loop-before.rows.items = search rules in
    let n : c.len.result ≡ length c.loop-before.yielded = count ∙ c.loop-before.invariant.long in
    let h = here c.args.progress.items c.args.order.now (progress_after flow c.args.passed) c.len.result (length c.loop-before.yielded) c.in-Some.before n c.requires.carried t.0 t.1 in
    let come = subst (λ n. AreCome gives (node_at c.args.dag.now (slice_index c.args.order.now n)) c.in_ok-left.left c.in_ok-left.right) (sym count)
    (c.in_ok-left.ensures.came gives c.loop-before.invariant.kept) in
    let p = made flow c.args.order.now c.requires.order c.args.passed c.len.result h.0 _ c.node-node.ensures _ c.input_of-input.ensures c.in-Some.before h.1 (c.args.passed + 1) (omega arith)
    _ _ come c.in_ok-made.made.progress c.in_ok-made.made.rows c.in_ok-made.ensures.ok in
    let more : length (c.loop-before.yielded ++ c.in-Some.before ∷ []) ≡ c.len.result + 1 = omega (arith, length-append c.loop-before.yielded (c.in-Some.before ∷ []), n) in
    let same : length c.came.new.rows.items ≡ length c.loop-before.rows.items = c.in_ok-left.ensures.same in
    let grown : length c.push-in-loop-before.new.self.items ≡ length c.loop-before.rows.items + 1 = ap length c.in_ok-push-2.ensures.items ∙ length_push c.came.new.rows.items c.in_ok-made.made.rows ∙ ap (λ n. n + 1) same in
    let kept = kept-push gives c.args.order.now c.args.sink (reads_from c.args.dag.now c.args.order.now (length c.loop-before.rows.items + 1)) c.came.new.rows.items c.push-in-loop-before.new.self.items c.in_ok-made.made.rows
    (c.in_ok-left.ensures.kept gives c.loop-before.invariant.kept)
    (p.1 ∙ ap (λ n. gives (slice_index c.args.order.now n)) (count ∙ sym same)) c.in_ok-push-2.ensures.items in
    record {
      carried = map-one-more (progress_after flow (suc c.args.passed)) c.args.order.now c.len.result _ c.in_ok-made.made.progress c.loop-before.carried.items _ h.0 more
          (c.loop-before.invariant.carried ∙ ap (λ q. map (progress_after flow (suc c.args.passed)) (take q c.args.order.now)) (sym n)) p.0 c.in_ok-push.ensures.items;
      long = grown ∙ ap (λ n. n + 1) (sym count) ∙ sym more;
      kept = subst (λ n. AreKept gives c.args.order.now c.args.sink (reads_from c.args.dag.now c.args.order.now n) c.push-in-loop-before.new.self.items) (sym grown) kept;
    }
