use Rattle.std.proofs.Common.{◌≡◌, List, Option, Some, true, refl, sym, ap, subst}
use Rattle.apx_history.specs.declared.Event.TheVariants.{Kill}
use Rattle.apx_history.specs.State.{State}
use Rattle.apx_history.specs.Enabled.{can}
use Rattle.apx_history.specs.Journals.{owed, bears}
use Rattle.apx_history.proofs.Legal.{can_runs}
use Rattle.apx_core.specs.Claim.{Claimed, TakesClaim}
use Rattle.apx_sim.specs.Hand.{Handed}
use Rattle.apx_sim.specs.Bench.{AreHands, IsVictim}
use Rattle.apx_sim.proofs.Opened.{place_few, may_as, victim_held, held_some, held_fits, takes_claim}
use Rattle.apx_sim.proofs.Benches.{StartsNone, answered, hands_kill, passed}
use Rattle.apx_stores.proofs.Crashing.{entries_begin}
use Rattle.apx_stores.specs.Crashes.{NoPut}
use Rattle.apx_sim.proofs.bench.Bench.kill.Goals as goal

pub taken-hand-requires-clause-op : goal.taken-hand-requires-clause-op
taken-hand-requires-clause-op g c =
    let plan = g.J.Naming.run.plan in
    let m = c.self.inside.core.stores.course.machine in
    let hands = c.self.inside.hands in
    let o = c.in-Some.id.op in
    let i = c.in-Some.id.part in
    let l = c.args.line in
    let same_m = ap (λ k. k.stores.course.machine) c.self.view_is in
    let may : can plan m (Kill l) ≡ true = may_as plan c.args.self.now.stores.course.machine m (Kill l) (Kill l) same_m refl c.requires.can in
    let victim : IsVictim plan m l o i = subst (λ (n : State). IsVictim plan n l o i) (sym same_m) c.in-Some.ensures.some in
    (place_few plan m c.facts.ensures.small c.facts.ensures.kept o i victim.part).0

pub taken-hand-requires-clause-part : goal.taken-hand-requires-clause-part
taken-hand-requires-clause-part g c =
    let plan = g.J.Naming.run.plan in
    let m = c.self.inside.core.stores.course.machine in
    let hands = c.self.inside.hands in
    let o = c.in-Some.id.op in
    let i = c.in-Some.id.part in
    let l = c.args.line in
    let same_m = ap (λ k. k.stores.course.machine) c.self.view_is in
    let may : can plan m (Kill l) ≡ true = may_as plan c.args.self.now.stores.course.machine m (Kill l) (Kill l) same_m refl c.requires.can in
    let victim : IsVictim plan m l o i = subst (λ (n : State). IsVictim plan n l o i) (sym same_m) c.in-Some.ensures.some in
    (place_few plan m c.facts.ensures.small c.facts.ensures.kept o i victim.part).1

pub taken-hand-requires-clause-held : goal.taken-hand-requires-clause-held
taken-hand-requires-clause-held g c =
    let plan = g.J.Naming.run.plan in
    let m = c.self.inside.core.stores.course.machine in
    let hands = c.self.inside.hands in
    let o = c.in-Some.id.op in
    let i = c.in-Some.id.part in
    let l = c.args.line in
    let same_m = ap (λ k. k.stores.course.machine) c.self.view_is in
    let may : can plan m (Kill l) ≡ true = may_as plan c.args.self.now.stores.course.machine m (Kill l) (Kill l) same_m refl c.requires.can in
    let victim : IsVictim plan m l o i = subst (λ (n : State). IsVictim plan n l o i) (sym same_m) c.in-Some.ensures.some in
    let bears_it : bears (owed plan m (Kill l)) 0 ≡ true = subst (λ (n : State). bears (owed plan n (Kill l)) 0 ≡ true) (sym same_m) c.requires.bears in
    let held = victim_held plan m hands l o i (c.self.invariant (can_runs plan m (Kill l) may)) victim bears_it in
    held_some m hands o i held.0 held.1

pub kill-requires-clause-claim : goal.kill-requires-clause-claim
kill-requires-clause-claim g c =
    let plan = g.J.Naming.run.plan in
    let m = c.self.inside.core.stores.course.machine in
    let hands = c.self.inside.hands in
    let o = c.in-Some.id.op in
    let i = c.in-Some.id.part in
    let l = c.args.line in
    let same_m = ap (λ k. k.stores.course.machine) c.self.view_is in
    let may : can plan m (Kill l) ≡ true = may_as plan c.args.self.now.stores.course.machine m (Kill l) (Kill l) same_m refl c.requires.can in
    let victim : IsVictim plan m l o i = subst (λ (n : State). IsVictim plan n l o i) (sym same_m) c.in-Some.ensures.some in
    let bears_it : bears (owed plan m (Kill l)) 0 ≡ true = subst (λ (n : State). bears (owed plan n (Kill l)) 0 ≡ true) (sym same_m) c.requires.bears in
    let held = victim_held plan m hands l o i (c.self.invariant (can_runs plan m (Kill l) may)) victim bears_it in
    let fits = held_fits m hands o i held.0 held.1 c.taken-hand.result c.taken-hand.ensures.out in
    subst (λ (x : Claimed). TakesClaim plan m l 0 (Some x)) (sym c.claim.ensures) (takes_claim plan m l o i held.0 c.taken-hand.result victim fits held.1.opened)

pub invariant_of-self : goal.invariant_of-self
invariant_of-self g c =
    let plan = g.J.Naming.run.plan in
    let m = c.self.inside.core.stores.course.machine in
    let hands = c.self.inside.hands in
    let o = c.in-Some.id.op in
    let i = c.in-Some.id.part in
    let l = c.args.line in
    let same_m = ap (λ k. k.stores.course.machine) c.self.view_is in
    let may : can plan m (Kill l) ≡ true = may_as plan c.args.self.now.stores.course.machine m (Kill l) (Kill l) same_m refl c.requires.can in
    let victim : IsVictim plan m l o i = subst (λ (n : State). IsVictim plan n l o i) (sym same_m) c.in-Some.ensures.some in
    let old = c.self.inside.core.stores.course in
    let new = c.kill.new.self.stores.course in
    let place = place_few plan m c.facts.ensures.small c.facts.ensures.kept o i victim.part in
    answered plan old new 0 (Kill l) c.taken-hand.new.hands c.kill.result c.kill.ensures.did c.kill.ensures.stops
    (λ is. subst (λ (t : List (List (Option Handed))). AreHands new.machine t) (sym c.taken-hand.ensures.rest)
    (hands_kill plan m new.machine 0 hands c.self.invariant c.facts-2.ensures o i 0 place.0 l victim.named may is))

pub invariant_of-self-in-None : goal.invariant_of-self-in-None
invariant_of-self-in-None g c =
    let plan = g.J.Naming.run.plan in
    let old = c.self.inside.core.stores.course in
    let l = c.args.line in
    let other : StartsNone (Kill l) = λ o i w e. cc in
    passed plan old c.kill-in-None.new.self.stores.course 0 c.self.inside.hands c.self.invariant (Kill l) (Kill l) other
    (may_as plan c.args.self.now.stores.course.machine old.machine (Kill l) (Kill l) (ap (λ k. k.stores.course.machine) c.self.view_is) refl c.requires.can)
    refl c.kill-in-None.result c.kill-in-None.ensures.did c.kill-in-None.ensures.stops

pub returns-in-Some-clause-entries : goal.returns-in-Some-clause-entries
returns-in-Some-clause-entries g c = λ t.
    entries_begin g.V.Vault.time g.V.Vault.left g.V.Vault.held NoPut c.args.self.now.stores.vault c.self.inside.core.stores.vault c.kill.new.self.stores.vault (ap (λ k. k.stores.vault) c.self.view_is) (c.kill.ensures.crash t)

pub returns-in-None-clause-entries : goal.returns-in-None-clause-entries
returns-in-None-clause-entries g c = λ t.
    entries_begin g.V.Vault.time g.V.Vault.left g.V.Vault.held NoPut c.args.self.now.stores.vault c.self.inside.core.stores.vault c.kill-in-None.new.self.stores.vault (ap (λ k. k.stores.vault) c.self.view_is) (c.kill-in-None.ensures.crash t)
