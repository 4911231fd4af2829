use Rattle.std.proofs.Common.{◌≡◌, ap, subst, ◌∙◌, arith}
use Rattle.apx_history.specs.Plan.{line, count_or}
use Rattle.apx_history.specs.declared.Line.{Line}
use Rattle.apx_history.specs.State.{parts}
use Rattle.apx_history.specs.Kept.{IsPlan}
use Rattle.apx_machine.specs.Machine.{Running}
use Rattle.apx_reset.proofs.Splitting.{split_some, split_few, split_low, split_is}
use Rattle.apx_reset.proofs.splits.split_of.Goals as goal

pub overflow_cast-result : goal.overflow_cast-result
overflow_cast-result g c =
    let plan = g.J.Naming.run.plan in
    let m = c.args.stores.now.course.machine in
    let l = c.args.line in
    let is : IsPlan plan = subst (λ (r : Running). IsPlan r.plan) c.machine-machine.ensures c.facts-2.ensures.plan in
    let it : c.line-split.result ≡ line plan l = c.line-split.ensures ∙ ap (λ (r : Running). line r.plan l) c.machine-machine.ensures in
    let number : c.parts.result ≡ parts m (line plan l).op = c.parts.ensures ∙ ap (λ (r : Running). parts r.state c.line-split.result.op) c.machine-machine.ensures ∙ ap (λ (x : Line). parts m x.op) it in
    omega (arith, number, split_few plan m l is c.facts.ensures.kept c.requires c.facts.ensures.small)

pub returns-clause-some : goal.returns-clause-some
returns-clause-some g c =
    let plan = g.J.Naming.run.plan in
    let m = c.args.stores.now.course.machine in
    let l = c.args.line in
    let is : IsPlan plan = subst (λ (r : Running). IsPlan r.plan) c.machine-machine.ensures c.facts-2.ensures.plan in
    let it : c.line-split.result ≡ line plan l = c.line-split.ensures ∙ ap (λ (r : Running). line r.plan l) c.machine-machine.ensures in
    let number : c.parts.result ≡ parts m (line plan l).op = c.parts.ensures ∙ ap (λ (r : Running). parts r.state c.line-split.result.op) c.machine-machine.ensures ∙ ap (λ (x : Line). parts m x.op) it in
    omega (arith, number, split_some plan m l is c.facts.ensures.kept c.requires)

pub returns-clause-few : goal.returns-clause-few
returns-clause-few g c =
    let plan = g.J.Naming.run.plan in
    let m = c.args.stores.now.course.machine in
    let l = c.args.line in
    let is : IsPlan plan = subst (λ (r : Running). IsPlan r.plan) c.machine-machine.ensures c.facts-2.ensures.plan in
    let it : c.line-split.result ≡ line plan l = c.line-split.ensures ∙ ap (λ (r : Running). line r.plan l) c.machine-machine.ensures in
    let number : c.parts.result ≡ parts m (line plan l).op = c.parts.ensures ∙ ap (λ (r : Running). parts r.state c.line-split.result.op) c.machine-machine.ensures ∙ ap (λ (x : Line). parts m x.op) it in
    omega (arith, number, split_few plan m l is c.facts.ensures.kept c.requires c.facts.ensures.small)

pub returns-clause-low : goal.returns-clause-low
returns-clause-low g c =
    let plan = g.J.Naming.run.plan in
    let m = c.args.stores.now.course.machine in
    let l = c.args.line in
    let is : IsPlan plan = subst (λ (r : Running). IsPlan r.plan) c.machine-machine.ensures c.facts-2.ensures.plan in
    let it : c.line-split.result ≡ line plan l = c.line-split.ensures ∙ ap (λ (r : Running). line r.plan l) c.machine-machine.ensures in
    let count : c.count_of.result ≡ count_or 0 (line plan l).act = c.count_of.ensures ∙ ap (λ (x : Line). count_or 0 x.act) it in
    omega (arith, count, split_low plan m l is c.facts.ensures.kept c.requires)

pub returns-clause-is : goal.returns-clause-is
returns-clause-is g c =
    let plan = g.J.Naming.run.plan in
    let m = c.args.stores.now.course.machine in
    let l = c.args.line in
    let is : IsPlan plan = subst (λ (r : Running). IsPlan r.plan) c.machine-machine.ensures c.facts-2.ensures.plan in
    let it : c.line-split.result ≡ line plan l = c.line-split.ensures ∙ ap (λ (r : Running). line r.plan l) c.machine-machine.ensures in
    c.count_of.ensures ∙ ap (λ (x : Line). count_or 0 x.act) it ∙ split_is plan m l is c.facts.ensures.kept c.requires
