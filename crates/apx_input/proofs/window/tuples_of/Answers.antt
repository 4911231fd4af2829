use Rattle.std.proofs.Common.{Bor, Vec, Global, ◌≡◌, ◌≤◌, ℕ, List, length, ◌-◌, ◌+◌, refl, arith, ap, sym, ◌∙◌}
use Rattle.std.proofs.lemmas.List.Elements.{All-same, All-head, All-rest}
use Rattle.apx_tuple.specs.declared.tuple.Tuple.{Tuple}
use Rattle.apx_pass.specs.Lines.{lines}
use Rattle.apx_input.proofs.Taking.{one_taken, one_taken_then, with_tuple, without_tuple, none_left_to_take, enough_taken}
use Rattle.apx_input.proofs.window.tuples_of.Goals as goal
use Rattle.apx_input.proofs.window.tuples_of.Goals.{in-Some-2+in_ok-push-in-Some, in_default}

pub loop-init : goal.loop-init
loop-init c = record {
  tuples = rw c.new-tuples.ensures.items (let whole : c.args.count - 0 ≡ c.args.count = omega arith in rw whole refl);
  short = c.requires;
}

pub tuple_of-requires : goal.tuple_of-requires
tuple_of-requires c = All-head (λ (line : List ℕ). length line ≤ 1024) c.in-Some.line.now (lines c.in-Some.behind.now) (All-same (λ (line : List ℕ). length line ≤ 1024) _ _ (sym c.in-Some.ensures.lines) c.loop.invariant.short)

pub returns-in-None : goal.returns-in-None
returns-in-None c = none_left_to_take c.args.kind _ c.loop.tuples.items _ _ c.in-None.ensures.lines c.loop.invariant.tuples

pub loop-preserved : goal.loop-preserved
loop-preserved c =
    let more = one_taken c.args.kind _ c.loop.tuples.items _ _ c.in-Some.line.now c.args.count c.loop.counter c.in-Some.ensures.lines c.loop-test.true c.loop.invariant.tuples in
    let then = one_taken_then c.args.kind _ c.match-branch-2.tuples.items c.loop.tuples.items (lines c.match-branch-2.rest.now) (lines c.in-Some.behind.now) c.in-Some.line.now (c.args.count - (c.loop.counter + 1)) in
    let short = All-rest (λ (line : List ℕ). length line ≤ 1024) c.in-Some.line.now (lines c.in-Some.behind.now) (lines c.loop.rest.now) c.in-Some.ensures.lines c.loop.invariant.short in
    elim c.match-branch-2.branch [
      | in-Some-2+in_ok-push-in-Some w ↦
          let new = ap (λ (v : Vec Tuple Global). v.items) w.tuples-is ∙ with_tuple c.args.kind c.loop.tuples.items w.push.new.self.items c.in-Some.line.now w.in-Some-2.tuple c.in_ok-tuple-in-Some.field-0 w.in_ok-push-in-Some.ensures.items w.in-Some-2.is c.in_ok-tuple-in-Some.ensures in
          let rest = ap (λ (r : Bor (List ℕ)). lines r.now) w.rest-is in
          record { tuples = then new rest more; short = All-same (λ (line : List ℕ). length line ≤ 1024) _ _ rest short }
      | in_default w ↦
          let new = ap (λ (v : Vec Tuple Global). v.items) w.tuples-is ∙ without_tuple c.args.kind c.loop.tuples.items c.in-Some.line.now c.in_ok-tuple-in-Some.field-0 w.in_default.is c.in_ok-tuple-in-Some.ensures in
          let rest = ap (λ (r : Bor (List ℕ)). lines r.now) w.rest-is in
          record { tuples = then new rest more; short = All-same (λ (line : List ℕ). length line ≤ 1024) _ _ rest short }
    ]

pub returns : goal.returns
returns c = enough_taken c.args.kind _ c.loop.tuples.items _ c.args.count c.loop.counter (omega arith) c.loop.invariant.tuples
