use Rattle.std.proofs.Common.{◌≡◌, List, ℕ, Option, Some, true, false, drop, sym, ap, subst, ◌∙◌, rules}
use Rattle.std.proofs.lemmas.List.{take_rest}
use Rattle.apx_tuple.specs.declared.tuple.Tuple.{Tuple}
use Rattle.apx_list.specs.Checking.{may_come, BeginsWithTuple}
use Rattle.apx_list.proofs.Checked.{Reads, reads_more, divided, not_divided, none_may}
use Rattle.apx_list.proofs.checking.behind_tuples.Goals as goal

pub returns-in_default-clause-none : goal.returns-in_default-clause-none
returns-in_default-clause-none c =
    let none = rw c.in_default.is at c.in_ok-tuple.ensures.none in
    not_divided c.args.bytes.now c.loop-alloc.latest c.loop-alloc.rest.now c.loop-alloc.invariant (c.begins_as_tuple.ensures.0 c.loop-alloc-test.true) (λ tuple rest begins may. none tuple rest begins)

pub returns-then-not-may_follow-clause-none : goal.returns-then-not-may_follow-clause-none
returns-then-not-may_follow-clause-none c =
    let begins : BeginsWithTuple c.loop-alloc.rest.now c.in-Some.tuple (drop c.in-Some.len c.loop-alloc.rest.now) = rw c.in-Some.is at c.in_ok-tuple.ensures.some in
    let no : c.may_follow.result ≡ false = search rules in
    let refused : may_come c.loop-alloc.latest c.in-Some.tuple ≡ false = sym (c.may_follow.ensures ∙ ap (λ (o : Option Tuple). may_come o c.in-Some.tuple) c.as_ref.ensures.value) ∙ no in
    not_divided c.args.bytes.now c.loop-alloc.latest c.loop-alloc.rest.now c.loop-alloc.invariant (c.begins_as_tuple.ensures.0 c.loop-alloc-test.true) (none_may c.loop-alloc.latest c.loop-alloc.rest.now c.in-Some.tuple (drop c.in-Some.len c.loop-alloc.rest.now) begins refused)

pub loop-alloc-preserved : goal.loop-alloc-preserved
loop-alloc-preserved c =
    let begins : BeginsWithTuple c.loop-alloc.rest.now c.in-Some.tuple (drop c.in-Some.len c.loop-alloc.rest.now) = rw c.in-Some.is at c.in_ok-tuple.ensures.some in
    let yes : c.may_follow.result ≡ true = search rules in
    let may : may_come c.loop-alloc.latest c.in-Some.tuple ≡ true = sym (c.may_follow.ensures ∙ ap (λ (o : Option Tuple). may_come o c.in-Some.tuple) c.as_ref.ensures.value) ∙ yes in
    subst (λ (rest : List ℕ). Reads c.args.bytes.now (Some c.in-Some.tuple) rest) (sym (take_rest c.loop-alloc.rest.now c.in-Some.len)) (reads_more c.args.bytes.now c.loop-alloc.latest c.loop-alloc.rest.now c.in-Some.tuple (drop c.in-Some.len c.loop-alloc.rest.now) c.loop-alloc.invariant begins may)

pub returns-clause-found : goal.returns-clause-found
returns-clause-found c =
    divided c.args.bytes.now c.loop-alloc.latest c.loop-alloc.rest.now c.loop-alloc.invariant (λ one.
    let both : true ≡ false = sym (c.begins_as_tuple.ensures.1 one) ∙ c.loop-alloc-test.false in
    absurd (cc both))
