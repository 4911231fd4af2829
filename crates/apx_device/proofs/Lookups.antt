-- What is found under an id after a put and after a drop; what keepers of a vault's content cite.
use Rattle.std.proofs.Common.{◌≡◌, ◌≢◌, ℕ, ◌<◌, ◌≤◌, Bool, true, false, cond, List, [], ◌∷◌, Option, Some, None, nat_le, filter, refl, sym, ap, ◌∙◌, arith}
use Rattle.std.specs.declared.cmp.Ordering.{Ordering}
use Rattle.std.specs.declared.cmp.Ordering.TheVariants.{Less, Equal, Greater}
use Rattle.std.specs.Ordering.{nat_cmp, is_eq, match_ordering}
use Rattle.std.specs.Cmp.{tied_itself, nat_cmp_total}
use Rattle.std.proofs.lemmas.Bool.Decides.{nat_tests}
use Rattle.std.proofs.lemmas.Cmp.{ranked, on_total, then_total}
use Rattle.apx_order.specs.Sorted.{IsExact}
use Rattle.apx_tuple.proofs.Orders.{both-equal}
use Rattle.apx_device.specs.declared.vault.SaveId.{SaveId}
use Rattle.apx_device.specs.Vault.{Entry, save_order, entry_at, with_entry, entries_from}

same_number : (x y : ℕ) → nat_cmp x y ≡ Equal → x ≡ y
same_number x y e = ranked x y Equal (sym e)

save_order-tight : (x y : SaveId) → save_order x y ≡ Equal → x ≡ y
save_order-tight x y e =
    let first = both-equal _ _ e in
    let second = both-equal _ _ first.1 in
    let third = both-equal _ _ second.1 in
    let op = same_number x.op y.op first.0 in
    let boundary = same_number x.boundary y.boundary second.0 in
    let part = same_number x.part y.part third.0 in
    let window = same_number x.window y.window third.1 in
    λ i. record { op = op i; boundary = boundary i; part = part i; window = window i }

-- ids have one order
pub save_order-exact : IsExact save_order
save_order-exact = record {
  total = then_total (on_total (λ (d : SaveId). d.op) nat_cmp_total) (then_total (on_total (λ (d : SaveId). d.boundary) nat_cmp_total) (then_total (on_total (λ (d : SaveId). d.part) nat_cmp_total) (on_total (λ (d : SaveId). d.window) nat_cmp_total)));
  tight = save_order-tight;
}

same_id : (id : SaveId) → is_eq (save_order id id) ≡ true
same_id id = ap is_eq (tied_itself save_order-exact.total id)

other_id : (id other : SaveId) → other ≢ id → is_eq (save_order other id) ≡ false
other_id id other differs = by (save_order other id) (save_order-tight other id)
  where
    by : (r : Ordering) → (r ≡ Equal → other ≡ id) → is_eq r ≡ false
    by Less tight = refl
    by Equal tight = absurd (differs (tight refl))
    by Greater tight = refl

-- the bytes that were put are there
pub entry_at-put : (entries : List Entry) (id : SaveId) (bytes : List ℕ) → entry_at (with_entry entries id bytes) id ≡ Some bytes
entry_at-put [] id bytes = ap (λ (b : Bool). cond b (Some bytes) None) (same_id id)
entry_at-put (e ∷ entries) id bytes = by (save_order id e.0) refl (entry_at-put entries id bytes)
  where
    by : (r : Ordering) → save_order id e.0 ≡ r → entry_at (with_entry entries id bytes) id ≡ Some bytes
        → entry_at (match_ordering r ((id, bytes) ∷ e ∷ entries) ((e.0, bytes) ∷ entries) (e ∷ with_entry entries id bytes)) id ≡ Some bytes
    by Less is rest = ap (λ (b : Bool). cond b (Some bytes) (entry_at (e ∷ entries) id)) (same_id id)
    by Equal is rest = ap (λ (r : Ordering). cond (is_eq r) (Some bytes) (entry_at entries id)) is
    by Greater is rest = ap (λ (r : Ordering). cond (is_eq r) (Some e.1) (entry_at (with_entry entries id bytes) id)) is ∙ rest

-- and those under another id stay
pub entry_at-put_other : (entries : List Entry) (id other : SaveId) (bytes : List ℕ) → other ≢ id → entry_at (with_entry entries id bytes) other ≡ entry_at entries other
entry_at-put_other [] id other bytes differs = ap (λ (b : Bool). cond b (Some bytes) None) (other_id id other differs)
entry_at-put_other (e ∷ entries) id other bytes differs = by (save_order id e.0) refl (entry_at-put_other entries id other bytes differs)
  where
    by : (r : Ordering) → save_order id e.0 ≡ r → entry_at (with_entry entries id bytes) other ≡ entry_at entries other
        → entry_at (match_ordering r ((id, bytes) ∷ e ∷ entries) ((e.0, bytes) ∷ entries) (e ∷ with_entry entries id bytes)) other ≡ entry_at (e ∷ entries) other
    by Less is rest = ap (λ (b : Bool). cond b (Some bytes) (entry_at (e ∷ entries) other)) (other_id id other differs)
    by Equal is rest =
        let apart : is_eq (save_order other e.0) ≡ false = ap (λ (d : SaveId). is_eq (save_order other d)) (sym (save_order-tight id e.0 is)) ∙ other_id id other differs in
        ap (λ (b : Bool). cond b (Some bytes) (entry_at entries other)) apart ∙ sym (ap (λ (b : Bool). cond b (Some e.1) (entry_at entries other)) apart)
    by Greater is rest = ap (λ (o : Option (List ℕ)). cond (is_eq (save_order other e.0)) (Some e.1) o) rest

below : (m n : ℕ) → m ≤ n → nat_le m n ≡ false → ⊥
below m n le is = grind (arith, nat_tests)

above : (m n : ℕ) → n < m → nat_le m n ≡ true → ⊥
above m n lt is = grind (arith, nat_tests)

-- an entry whose window isn't below stays
pub entry_at-from : (entries : List Entry) (window : ℕ) (id : SaveId) → window ≤ id.window → entry_at (entries_from entries window) id ≡ entry_at entries id
entry_at-from [] window id stays = refl
entry_at-from (e ∷ entries) window id stays = by (nat_le window e.0.window) (save_order id e.0) refl refl (entry_at-from entries window id stays)
  where
    by : (b : Bool) (r : Ordering) → nat_le window e.0.window ≡ b → save_order id e.0 ≡ r → entry_at (entries_from entries window) id ≡ entry_at entries id
        → entry_at (cond b (e ∷ entries_from entries window) (entries_from entries window)) id ≡ entry_at (e ∷ entries) id
    by true r le is rest = ap (λ (o : Option (List ℕ)). cond (is_eq (save_order id e.0)) (Some e.1) o) rest
    by false Less le is rest = rest ∙ sym (ap (λ (r : Ordering). cond (is_eq r) (Some e.1) (entry_at entries id)) is)
    by false Equal le is rest =
        let same : id.window ≡ e.0.window = ap (λ (d : SaveId). d.window) (save_order-tight id e.0 is) in
        absurd (below window e.0.window (omega (arith, same, stays)) le)
    by false Greater le is rest = rest ∙ sym (ap (λ (r : Ordering). cond (is_eq r) (Some e.1) (entry_at entries id)) is)

-- nothing is found under an id whose window is below
pub entry_at-below : (entries : List Entry) (window : ℕ) (id : SaveId) → id.window < window → entry_at (entries_from entries window) id ≡ None
entry_at-below [] window id goes = refl
entry_at-below (e ∷ entries) window id goes = by (nat_le window e.0.window) (save_order id e.0) refl refl (entry_at-below entries window id goes)
  where
    by : (b : Bool) (r : Ordering) → nat_le window e.0.window ≡ b → save_order id e.0 ≡ r → entry_at (entries_from entries window) id ≡ None
        → entry_at (cond b (e ∷ entries_from entries window) (entries_from entries window)) id ≡ None
    by false r le is rest = rest
    by true Less le is rest = ap (λ (r : Ordering). cond (is_eq r) (Some e.1) (entry_at (entries_from entries window) id)) is ∙ rest
    by true Equal le is rest =
        let same : id.window ≡ e.0.window = ap (λ (d : SaveId). d.window) (save_order-tight id e.0 is) in
        absurd (above window e.0.window (omega (arith, same, goes)) le)
    by true Greater le is rest = ap (λ (r : Ordering). cond (is_eq r) (Some e.1) (entry_at (entries_from entries window) id)) is ∙ rest
