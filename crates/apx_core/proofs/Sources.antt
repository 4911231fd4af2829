-- What a partition reads that may begin a window: each partition of a source has finished the window, keeps its blocks, and
-- has it in the epoch that its operator is in.
use Rattle.std.proofs.Common.{◌≡◌, ℕ, ◌<◌, ◌≤◌, true, length, sym, ap, ◌∙◌, arith}
use Rattle.apx_history.specs.Plan.{Plan, reads, boundary_at, number}
use Rattle.apx_history.specs.State.{State, oper, parts, slot, IsPart}
use Rattle.apx_history.specs.Enabled.{limit}
use Rattle.apx_history.specs.Conditions.{CanStart}
use Rattle.apx_history.specs.Kept.{IsPlan, Kept}
use Rattle.apx_history.proofs.Frames.{reads_there, some_part, in_epoch}

pub record IsRead (plan : Plan) (m : State) (s w : ℕ) : Type 0 where
  pub there : s < length m.ops
  pub within : (j : ℕ) → IsPart m s j → ((slot m s j).floor < w) × (w ≤ (slot m s j).at)
  pub boundary : boundary_at plan s w ≡ (oper m s).boundary
  pub count : parts m s ≡ number plan s (boundary_at plan s w)

pub is_read : (plan : Plan) → IsPlan plan → (m : State) → Kept plan m → (o i w s : ℕ) → CanStart plan m o i w → reads plan o s ≡ true → IsRead plan m s w
is_read plan is m kept o i w s can reads_s =
    let there = (reads_there plan is m kept o s reads_s).1 in
    let sound = kept.each o i can.part in
    let rc = sound.rc in
    let next = can.next in
    let first : IsPart m s 0 = (there, some_part plan is m kept s there) in
    let ordered = kept.ordered o s reads_s i 0 can.part first in
    let source = kept.each s 0 first in
    let base = (source.saved (slot m s 0).rc source.rc_saved).2 in
    let above : (oper m s).boundary < w = (let a = ordered.rc in omega (arith, base, a, rc, next)) in
    let have = can.sources s 0 first reads_s in
    let below : w ≤ limit plan m s = (let a = source.at in omega (arith, a, have)) in
    let epoch = in_epoch plan is m kept s w there above below in
    record {
      there = there;
      within = λ j part.
          let order = (kept.ordered o s reads_s i j can.part part).floor in
          (omega (arith, order, rc, next), can.sources s j part reads_s);
      boundary = epoch;
      count = kept.number s there ∙ ap (λ (k : ℕ). number plan s k) (sym epoch);
    }
