-- Of an operator that isn't there no partition fails to rest.
use Rattle.std.proofs.Common.{◌≡◌, ℕ, ◌≤◌, true, ◌&&◌, ◌==◌, is_none, length, sym, ap}
use Rattle.std.proofs.Math.ListN.{get_or-eq_default}
use Rattle.apx_history.specs.State.{Oper, State, no_oper, slot, all_below}
use Rattle.apx_history.specs.Enabled.{rests_at}

pub rests_beyond : (m : State) (o b : ℕ) → length m.ops ≤ o → true ≡ rests_at m o b
unfolding rests_at all_below
rests_beyond m o b h = ap (λ (q : Oper). all_below (length q.parts) (λ i. (slot m o i).rc == b && is_none (slot m o i).opened)) (sym (get_or-eq_default m.ops no_oper h))
