-- The body of a put is read back as the put.
use Rattle.std.proofs.Common.{◌≡◌, ℕ, ◌^◌, ◌<◌, ◌≤◌, Bool, true, cond, List, ◌++◌, length, take, drop, Some, None, nat_le, ap, ◌∙◌, arith}
use Rattle.std.specs.Int.{w16, w32, from_be_bytes}
use Rattle.std.proofs.lemmas.Bool.Decides.{nat_tests}
use Rattle.std.proofs.lemmas.Nat.{from_be_bytes-to_be_bytes_2, from_be_bytes-to_be_bytes_4}
use Rattle.apx_device.specs.declared.vault.SaveId.{SaveId}
use Rattle.apx_device.specs.Vault.{Entry, with_entry, entries_from}
use Rattle.apx_vaultlog.specs.Changes.{put_front, is_put, is_drop, put_id, drop_window, changed}

le_true : (m n : ℕ) → m ≤ n → nat_le m n ≡ true
le_true m n le = grind (arith, nat_tests)

module _ (id : SaveId) (bytes : List ℕ) where
  abbrev body : List ℕ
  body = put_front id ++ bytes

  there : is_put body ≡ true
  there = le_true 11 (length (drop 1 body)) (omega arith)

  same_id : id.op < 2 ^ 16 → id.boundary < 2 ^ 32 → id.window < 2 ^ 32 → put_id body ≡ id
  same_id few_ops few_boundaries few_windows =
      let op : from_be_bytes w16 (take 2 (drop 1 body)) ≡ id.op = from_be_bytes-to_be_bytes_2 id.op few_ops in
      let boundary : from_be_bytes w32 (take 4 (drop 3 body)) ≡ id.boundary = from_be_bytes-to_be_bytes_4 id.boundary few_boundaries in
      let window : from_be_bytes w32 (take 4 (drop 8 body)) ≡ id.window = from_be_bytes-to_be_bytes_4 id.window few_windows in
      λ i. record { op = op i; boundary = boundary i; part = id.part; window = window i }

pub put_back : (id : SaveId) (bytes : List ℕ) (entries : List Entry) → id.op < 2 ^ 16 → id.boundary < 2 ^ 32 → id.window < 2 ^ 32
    → changed (put_front id ++ bytes) entries ≡ Some (with_entry entries id bytes)
put_back id bytes entries few_ops few_boundaries few_windows =
    let all = put_front id ++ bytes in
    ap (λ (b : Bool). cond b (Some (with_entry entries (put_id all) (drop 12 all))) (cond (is_drop all) (Some (entries_from entries (drop_window all))) None)) (there id bytes)
    ∙ ap (λ (d : SaveId). Some (with_entry entries d bytes)) (same_id id bytes few_ops few_boundaries few_windows)
