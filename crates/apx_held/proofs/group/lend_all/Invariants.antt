use Rattle.std.proofs.Common.{◌≡◌, ℕ, ◌<◌, length, map, get_or, []}
use Rattle.apx_held.specs.Holding.{no_holding}
use Rattle.apx_held.specs.Lent.{IsLent}
use Rattle.apx_held.proofs.group.lend_all.Given as goal

abbrev pub invariant-loop-part : goal.invariant-loop-part
invariant-loop-part g l = record {
  same : l.group ≡ l.initial.group;
  count : length (map (λ list. list.items) l.lists.items) ≡ l.part;
  each : (i : ℕ) → i < l.part → IsLent g.S.Spool.tells l.window (get_or l.initial.group i no_holding).list (get_or (map (λ list. list.items) l.lists.items) i []);
}
