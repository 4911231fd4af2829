-- What a worker with a claim may do, and one without.
use Rattle.std.proofs.Common.{◌≡◌, ℕ, Bool, true, false, cond, ◌&&◌, ◌==◌, Option, None, Some, refl, sym, ap, ◌∙◌}
use Rattle.apx_history.specs.declared.Event.{Event}
use Rattle.apx_history.specs.declared.Event.TheVariants.{Start, Write, Finish, Save, Advance, Commit, Purge, Kill, Repartition, End, Fault}
use Rattle.apx_history.specs.declared.Act.{Act}
use Rattle.apx_history.specs.declared.Act.TheVariants.{Fails, Splits}
use Rattle.apx_history.specs.Plan.{Plan, line, fails_part}
use Rattle.apx_history.specs.State.{State, slot, open_window, open_worker}
use Rattle.apx_history.specs.Enabled.{can}
use Rattle.apx_history.specs.Conditions.{CanWrite, CanFinish}
use Rattle.apx_history.specs.Journals.{owed_act, owed, bears}
use Rattle.apx_history.proofs.Tests.{both}
use Rattle.apx_history.proofs.Conditions.{all_true, equal_at, equal_by}
use Rattle.apx_history.proofs.Legal.{can_facts}
use Rattle.apx_machine.specs.Picked.{killed, ended_by, is_claimed, may_do}
use Rattle.apx_work.specs.Own.{open_for, ClaimEnds, FreeEndsNone}

-- a partition has one window open
one_window : (w v : ℕ) (x : Option ℕ) → x ≡ Some w → x ≡ Some v → v ≡ w
one_window w v x e f = let g : Some v ≡ Some w = sym f ∙ e in cc

-- the claimed partition is the one that is ended
claimed_at : (o i p j : ℕ) → is_claimed (Some (o, i)) (Some (p, j)) ≡ true → (p ≡ o) × (j ≡ i)
claimed_at o i p j h = let e = both (o == p) (i == j) h in (sym (equal_at o p e.0), sym (equal_at i j e.1))

-- the act kills the claimed partition
killed_at : (o i p : ℕ) (a : Act) → is_claimed (Some (o, i)) (killed p a) ≡ true → (p == o && fails_part i a) ≡ true
killed_at o i p (Fails point part) h = let e = claimed_at o i p part h in all_true (equal_by p o e.0) (equal_by part i e.1)
killed_at o i p (Splits count) h = absurd (cc h)

-- who claims a partition ends nothing else
claimed_by : (plan : Plan) (m : State) (u o i : ℕ) (e : Event) → may_do plan m u (Some (o, i)) e ≡ true → is_claimed (Some (o, i)) (ended_by plan e) ≡ true
claimed_by plan m u o i e may = (both (bears (owed plan m e) u) (is_claimed (Some (o, i)) (ended_by plan e)) may).1

pub claim-ends : ClaimEnds
claim-ends plan m o i w u b here (Start p j v) can may = absurd (let h : false ≡ true = claimed_by plan m u o i (Start p j v) may in cc)
claim-ends plan m o i w u b here (Write v) can may =
    let e = claimed_at o i plan.sink 0 (claimed_by plan m u o i (Write v) may) in
    let k : CanWrite plan m v = can_facts plan m (Write v) can in
    let x : (slot m plan.sink 0).opened ≡ Some (w, u) = ap (λ (n : ℕ). (slot m n 0).opened) e.0 ∙ ap (λ (n : ℕ). (slot m o n).opened) e.1 ∙ here.opened in
    (sym e.0, sym e.1, one_window w v (open_window (slot m plan.sink 0).opened) (ap open_window x) k.opened)
claim-ends plan m o i w u b here (Finish p j v) can may =
    let e = claimed_at o i p j (claimed_by plan m u o i (Finish p j v) may) in
    let k : CanFinish plan m p j v = can_facts plan m (Finish p j v) can in
    let x : (slot m p j).opened ≡ Some (w, u) = ap (λ (n : ℕ). (slot m n j).opened) e.0 ∙ ap (λ (n : ℕ). (slot m o n).opened) e.1 ∙ here.opened in
    (e.0, e.1, one_window w v (open_window (slot m p j).opened) (ap open_window x) k.opened)
claim-ends plan m o i w u b here (Save p j v) can may = absurd (let h : false ≡ true = claimed_by plan m u o i (Save p j v) may in cc)
claim-ends plan m o i w u b here (Advance p j v) can may = absurd (let h : false ≡ true = claimed_by plan m u o i (Advance p j v) may in cc)
claim-ends plan m o i w u b here (Commit v) can may = absurd (let h : false ≡ true = claimed_by plan m u o i (Commit v) may in cc)
claim-ends plan m o i w u b here (Purge p j v) can may = absurd (let h : false ≡ true = claimed_by plan m u o i (Purge p j v) may in cc)
claim-ends plan m o i w u b here (Kill l) can may = killed_at o i (line plan l).op (line plan l).act (claimed_by plan m u o i (Kill l) may)
claim-ends plan m o i w u b here (Repartition l) can may = absurd (let h : false ≡ true = claimed_by plan m u o i (Repartition l) may in cc)
claim-ends plan m o i w u b here End can may = absurd (let h : false ≡ true = claimed_by plan m u o i End may in cc)
claim-ends plan m o i w u b here (Fault s) can may = absurd (let h : false ≡ true = claimed_by plan m u o i (Fault s) may in cc)

-- what is open is open for another
other_owner : (u w : ℕ) (x : Option (ℕ × ℕ)) → open_for u x ≡ None → open_window x ≡ Some w → bears (open_worker x) u ≡ true → ⊥
other_owner u w None none some bear = cc
other_owner u w (Some x) none some bear =
    let e : Some x.0 ≡ None = sym (ap (λ (b : Bool). cond {A = Option ℕ} b (Some x.0) None) bear) ∙ none in cc

pub free-ends-none : FreeEndsNone
free-ends-none plan m u free (Start p j v) can bear = refl
free-ends-none plan m u free (Write v) can bear =
    let k : CanWrite plan m v = can_facts plan m (Write v) can in
    absurd (other_owner u v (slot m plan.sink 0).opened (free plan.sink 0) k.opened bear)
free-ends-none plan m u free (Finish p j v) can bear =
    let k : CanFinish plan m p j v = can_facts plan m (Finish p j v) can in
    absurd (other_owner u v (slot m p j).opened (free p j) k.opened bear)
free-ends-none plan m u free (Save p j v) can bear = refl
free-ends-none plan m u free (Advance p j v) can bear = refl
free-ends-none plan m u free (Commit v) can bear = refl
free-ends-none plan m u free (Purge p j v) can bear = refl
free-ends-none plan m u free (Kill l) can bear = refl
free-ends-none plan m u free (Repartition l) can bear = refl
free-ends-none plan m u free End can bear = refl
free-ends-none plan m u free (Fault s) can bear = refl

-- what a worker doesn't have open is open for nobody whose kill it may do
unowned : (u : ℕ) (x : Option (ℕ × ℕ)) → open_for u x ≡ None → bears (open_worker x) u ≡ true → open_worker x ≡ None
unowned u None none bear = refl
unowned u (Some x) none bear =
    let e : Some x.0 ≡ None = sym (ap (λ (b : Bool). cond {A = Option ℕ} b (Some x.0) None) bear) ∙ none in
    absurd (cc e)

-- so a kill that a worker with nothing open may do is of a partition that nobody has open
pub kills_nobody : (plan : Plan) (m : State) (u : ℕ) → ((o i : ℕ) → open_for u (slot m o i).opened ≡ None) → (l : ℕ) → bears (owed plan m (Kill l)) u ≡ true →
    owed plan m (Kill l) ≡ None
kills_nobody plan m u free l bear = by (line plan l).act bear
  where
    by : (a : Act) → bears (owed_act m (line plan l).op a) u ≡ true → owed_act m (line plan l).op a ≡ None
    by (Fails point part) h = unowned u (slot m (line plan l).op part).opened (free (line plan l).op part) h
    by (Splits count) h = refl
