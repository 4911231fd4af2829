-- What is held for a window that is open.
use Rattle.std.proofs.Common.{◌≡◌, ℕ, ◌<◌, true, List, Option, None, Some, Result, Ok, Err, OnOk, OnErr, IsSome, is_some, false, unwrap_or, refl, sym, ap, subst, ◌∙◌, arith}
use Rattle.std.proofs.lemmas.Option.{same_Some}
use Rattle.apx_history.specs.declared.Event.{Event}
use Rattle.apx_history.specs.declared.Event.TheVariants.{Write, Finish, Kill}
use Rattle.apx_history.specs.declared.Act.{Act}
use Rattle.apx_history.specs.declared.Act.TheVariants.{Fails}
use Rattle.apx_history.specs.declared.Point.{Point}
use Rattle.apx_history.specs.Plan.{Plan, line, kills, fails_part}
use Rattle.apx_history.specs.State.{State, slot, IsPart, open_window, open_worker}
use Rattle.apx_history.specs.Enabled.{can, at_act, at_point, is_part}
use Rattle.apx_history.specs.Journals.{owed_act, owed, bears}
use Rattle.apx_history.specs.Kept.{Kept}
use Rattle.apx_history.proofs.Tests.{both}
use Rattle.apx_history.proofs.Conditions.{all_true, part_at, equal_at, equal_by, due_at}
use Rattle.apx_history.proofs.Legal.{can_facts}
use Rattle.apx_machine.specs.Small.{IsSmall}
use Rattle.apx_machine.proofs.Few.{parts_few}
use Rattle.apx_part.specs.declared.window.Done.{Done}
use Rattle.apx_course.specs.Course.{Standing, Did, Stops}
use Rattle.apx_core.specs.Claim.{Claimed, IsOpenFor, TakesClaim}
use Rattle.apx_hands.specs.Table.{cell}
use Rattle.apx_hands.specs.Opened.{Covers}
use Rattle.apx_sim.specs.Hand.{Handed, IsOfClaim, IsFor}
use Rattle.apx_sim.specs.Bench.{IsVictim}

-- ---- places

-- a partition has a place in a table
pub place_few : (plan : Plan) (m : State) → IsSmall plan → Kept plan m → (o i : ℕ) → IsPart m o i → (o < 16) × (i < 8)
place_few plan m small kept o i part =
    let few = parts_few plan m small kept o part.0 in
    let a = small.operators in
    let b = kept.ops in
    (omega (arith, a, b, part.0), omega (arith, few, part.1))

-- a line that may kill names a partition that is there
pub killed_part : (plan : Plan) (m : State) (l : ℕ) → can plan m (Kill l) ≡ true → (point : Point) (i : ℕ) → (line plan l).act ≡ Fails point i → IsPart m (line plan l).op i
killed_part plan m l may point i is =
    let at : at_act plan m (line plan l).op (line plan l).window (Fails point i) ≡ true =
    subst (λ (a : Act). at_act plan m (line plan l).op (line plan l).window a ≡ true) is (due_at plan m l (can_facts plan m (Kill l) may).due).point in
    part_at m (line plan l).op i (both (is_part m (line plan l).op i) (at_point plan m (line plan l).op point (line plan l).window (slot m (line plan l).op i)) at).0

-- who has nothing open owes nothing
pub nobody : (x y : Option (ℕ × ℕ)) → x ≡ y → is_some y ≡ false → open_worker x ≡ None
nobody x None e h = ap open_worker e
nobody x (Some y) e h = absurd (let f : true ≡ false = h in cc)

-- and is the one that it kills
pub victim_is : (plan : Plan) (m : State) (l : ℕ) → can plan m (Kill l) ≡ true → (point : Point) (i : ℕ) → (line plan l).act ≡ Fails point i → IsSome (slot m (line plan l).op i).opened →
    IsVictim plan m l (line plan l).op i
victim_is plan m l may point i is opened = record {
  part = killed_part plan m l may point i is;
  named = all_true (equal_by (line plan l).op (line plan l).op refl) (ap (fails_part i) is ∙ equal_by i i refl);
  opened = opened;
  owed_by = ap (owed_act m (line plan l).op) is;
}

-- ---- claims

window_or : ℕ → Option (ℕ × ℕ) → ℕ
window_or d None = d
window_or d (Some x) = x.0

worker_or : ℕ → Option (ℕ × ℕ) → ℕ
worker_or d None = d
worker_or d (Some x) = x.1

-- a partition has one window open, for one worker
pub opened_one : (x : Option (ℕ × ℕ)) (w u v y : ℕ) → x ≡ Some (w, u) → x ≡ Some (v, y) → (w ≡ v) × (u ≡ y)
unfolding window_or worker_or
opened_one x w u v y one other = (ap (window_or w) (sym one ∙ other), ap (worker_or u) (sym one ∙ other))

-- what is held for window w of partition i of operator o, which worker 0 has open
pub record IsHeldFor (m : State) (hands : List (List (Option Handed))) (o i w : ℕ) : Type 0 where
  -- what is held
  pub hand : Handed
  -- it stands at the partition
  pub stands : cell hands o i ≡ Some hand
  -- it is for the window
  pub fits : IsFor o i w 0 hand
  -- which is open
  pub opened : (slot m o i).opened ≡ Some (w, 0)

pub held_for : (m : State) (hands : List (List (Option Handed))) (o i w : ℕ) → Covers IsFor m hands →
    open_window (slot m o i).opened ≡ Some w → bears (open_worker (slot m o i).opened) 0 ≡ true → IsHeldFor m hands o i w
held_for m hands o i w all window worker = by (slot m o i).opened refl window worker
  where
    by : (x : Option (ℕ × ℕ)) → (slot m o i).opened ≡ x → open_window x ≡ Some w → bears (open_worker x) 0 ≡ true → IsHeldFor m hands o i w
    by None e f g = absurd (let h : None ≡ Some w = f in cc)
    by (Some x) e f g =
        let v : x.0 ≡ w = ap (λ (k : Option ℕ). unwrap_or k x.0) f in
        let u : x.1 ≡ 0 = equal_at x.1 0 g in
        let opened : (slot m o i).opened ≡ Some (w, 0) = e ∙ ap (λ (k : ℕ). Some (k, x.1)) v ∙ ap (λ (k : ℕ). Some (w, k)) u in
        let held = all.each o i w 0 opened in
        record { hand = held.0; stands = held.1; fits = held.2; opened = opened }

-- so what is held for a partition that is killed
pub victim_held : (plan : Plan) (m : State) (hands : List (List (Option Handed))) (l o i : ℕ) → Covers IsFor m hands → IsVictim plan m l o i → bears (owed plan m (Kill l)) 0 ≡ true →
    (w : ℕ) × IsHeldFor m hands o i w
victim_held plan m hands l o i all victim worker =
    by (slot m o i).opened refl victim.opened (subst (λ (x : Option ℕ). bears x 0 ≡ true) victim.owed_by worker)
  where
    by : (x : Option (ℕ × ℕ)) → (slot m o i).opened ≡ x → IsSome x → bears (open_worker x) 0 ≡ true → (w : ℕ) × IsHeldFor m hands o i w
    by None e f g = absurd (cc f)
    by (Some x) e f g =
        let worker_is : bears (open_worker (slot m o i).opened) 0 ≡ true = subst (λ (y : Option (ℕ × ℕ)). bears (open_worker y) 0 ≡ true) (sym e) g in
        (x.0, held_for m hands o i x.0 all (ap open_window e) worker_is)

-- where what is held is for an open window, the window is open for the claim
pub open_for : (m : State) (o i w u : ℕ) (hand : Handed) → IsFor o i w u hand → (slot m o i).opened ≡ Some (w, u) → IsOpenFor m hand.claim
open_for m o i w u hand fits opened =
    ap (λ (k : ℕ). (slot m k hand.claim.part).opened) fits.op
    ∙ ap (λ (k : ℕ). (slot m o k).opened) fits.part
    ∙ opened
    ∙ ap (λ (k : ℕ). Some (k, u)) (sym fits.window)
    ∙ ap (λ (k : ℕ). Some (hand.claim.window, k)) (sym fits.worker)

-- a claim of that is the one that a kill takes
pub takes_claim : (plan : Plan) (m : State) (l o i w : ℕ) (hand : Handed) → IsVictim plan m l o i → IsFor o i w 0 hand → (slot m o i).opened ≡ Some (w, 0) →
    TakesClaim plan m l 0 (Some hand.claim)
takes_claim plan m l o i w hand victim fits opened = record {
  taken = (
    ap (λ (k : ℕ). kills k hand.claim.part (line plan l)) fits.op ∙ ap (λ (k : ℕ). kills o k (line plan l)) fits.part ∙ victim.named,
    open_for m o i w 0 hand fits opened,
    fits.worker,
  );
  none = tt;
}

-- something stands there
pub held_some : (m : State) (hands : List (List (Option Handed))) (o i w : ℕ) → IsHeldFor m hands o i w → IsSome (cell hands o i)
held_some m hands o i w held = subst (λ (x : Option Handed). IsSome x) (sym held.stands) refl

-- and whatever stands there is for the window
pub held_fits : (m : State) (hands : List (List (Option Handed))) (o i w : ℕ) → IsHeldFor m hands o i w → (hand : Handed) → cell hands o i ≡ Some hand → IsFor o i w 0 hand
held_fits m hands o i w held hand stands = subst (λ (x : Handed). IsFor o i w 0 x) (same_Some held.hand hand (sym held.stands ∙ stands)) held.fits

-- another claim on the window is for it too
pub also_for : (o i w u : ℕ) (hand : Handed) (claim : Claimed) (made : Option Done) → IsFor o i w u hand → IsOfClaim hand.claim claim →
    IsFor o i w u (record { claim = claim; done = made })
also_for o i w u hand claim made fits same = record {
  op = same.op ∙ fits.op;
  part = same.part ∙ fits.part;
  window = same.window ∙ fits.window;
  worker = same.worker ∙ fits.worker;
}

-- ---- answers

-- what a call answers is what follows from it
pub on_ok : {A E : Type 0} {X Y : Type 0} (r : Result A E) → (X → Y) → OnOk r X → OnOk r Y
on_ok (Ok a) f x = f x
on_ok (Err e) f x = x

pub on_err : {A E : Type 0} {X Y : Type 0} (r : Result A E) → (X → Y) → OnErr r X → OnErr r Y
on_err (Ok a) f x = x
on_err (Err e) f x = f x

-- what holds at all holds of an error
pub err_any : {A E : Type 0} {X : Type 0} (r : Result A E) → X → OnErr r X
err_any (Ok a) x = tt
err_any (Err e) x = x

-- the run before, a worker and an event are others that are equal
pub did_as : {F : Type 0} (plan : Plan) (was old new : Standing F) (u v : ℕ) (e f : Event) → was ≡ old → u ≡ v → e ≡ f → Did plan was new u e → Did plan old new v f
did_as plan was old new u v e f same_run same_worker same_event did =
    subst (λ (k : Standing _). Did plan k new v f) same_run
    (subst (λ (k : ℕ). Did plan was new k f) same_worker (subst (λ (k : Event). Did plan was new u k) same_event did))

pub stops_as : {F : Type 0} (plan : Plan) (was old new : Standing F) (u v : ℕ) → was ≡ old → u ≡ v → Stops plan was new u → Stops plan old new v
stops_as plan was old new u v same_run same_worker stops =
    subst (λ (k : Standing _). Stops plan k new v) same_run (subst (λ (k : ℕ). Stops plan was new k) same_worker stops)

-- the events of a claim on the window are those of the window
pub finish_of : (o i w u : ℕ) (hand : Handed) → IsFor o i w u hand → Finish hand.claim.op hand.claim.part hand.claim.window ≡ Finish o i w
finish_of o i w u hand fits =
    ap (λ (k : ℕ). Finish k hand.claim.part hand.claim.window) fits.op
    ∙ ap (λ (k : ℕ). Finish o k hand.claim.window) fits.part
    ∙ ap (λ (k : ℕ). Finish o i k) fits.window

pub write_of : (o i w u : ℕ) (hand : Handed) → IsFor o i w u hand → Write hand.claim.window ≡ Write w
write_of o i w u hand fits = ap Write fits.window

-- an event may come still where the machine is as it was
pub may_as : (plan : Plan) (m n : State) (e f : Event) → n ≡ m → f ≡ e → can plan m e ≡ true → can plan n f ≡ true
may_as plan m n e f same_state same_event may =
    subst (λ (k : State). can plan k f ≡ true) (sym same_state) (subst (λ (k : Event). can plan m k ≡ true) (sym same_event) may)
