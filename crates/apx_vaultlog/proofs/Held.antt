-- What is found in memory is what is found among the entries.
use Rattle.std.proofs.Common.{◌≡◌, ℕ, List, Option, Some, None, Vec, is_some, refl, sym, ap, ◌∙◌}
use Rattle.std.specs.declared.alloc.Global.{Global}
use Rattle.std.specs.Option.{option_map}
use Rattle.std.specs.BTreeMap.{is_at}
use Rattle.std.specs.Map.{lookup}
use Rattle.apx_device.specs.declared.vault.SaveId.{SaveId}
use Rattle.apx_device.specs.Vault.{save_order, entry_at}
use Rattle.apx_device.specs.MemoryVault.{Kept, entries_in}
use Rattle.apx_device.proofs.Saves.{entries-lookup}

some_of : (o : Option (Vec ℕ Global)) → is_some (option_map (λ v. v.items) o) ≡ is_some o
some_of None = refl
some_of (Some v) = refl

pub is_held : (kept : List Kept) (id : SaveId) → is_some (lookup (is_at (save_order id)) kept) ≡ is_some (entry_at (entries_in kept) id)
is_held kept id =
    sym (some_of (lookup (is_at (save_order id)) kept)) ∙ ap (λ (o : Option (List ℕ)). is_some o) (sym (entries-lookup (is_at (save_order id)) kept))
