-- What an upgrade makes of entries: bytes that are spelling 1 of a progress become spelling 2 of it.
use Rattle.std.specs.Prelude.{◌≡◌, ℕ, Bool, false, List, [], ◌∷◌, ◌++◌, take, drop, map, count_by, Option, Some, None, Result, Ok, Err, is_some, unwrap_or, ◌==◌, if◌then◌else◌}
use Rattle.apx_tuple.specs.declared.progress.Progress.{Progress}
use Rattle.apx_statebytes.specs.Reading.{progress_in}
use Rattle.apx_statebytes.specs.Spelling.{second_spelling}
use Rattle.apx_device.specs.declared.vault.SaveId.{SaveId}
use Rattle.apx_device.specs.Vault.{Entry, bytes_at, with_entry}
use Rattle.apx_vaultlog.specs.Changes.{vault_of}

-- whether bytes begin with the mark of spelling 2
abbrev pub has_mark : List ℕ → Bool
has_mark [] = false
has_mark (first ∷ rest) = first == 255

-- spelling 2 of a progress that was read
abbrev pub second_of : Result Progress ℕ → Option (List ℕ)
second_of (Ok progress) = Some (second_spelling progress)
second_of (Err place) = None

-- spelling 2 of the progress whose spelling 1 the bytes are, if they are one
unfoldable pub upgraded : List ℕ → Option (List ℕ)
upgraded bytes = if has_mark bytes then None else second_of (progress_in bytes)

-- an entry, in spelling 2 where it was in spelling 1
abbrev pub upgraded_entry : Entry → Entry
upgraded_entry entry = (entry.0, unwrap_or (upgraded entry.1) entry.1)

-- the entries with these bytes under an id, if there are any
abbrev pub with_found : Option (List ℕ) → List Entry → SaveId → List Entry
with_found None entries id = entries
with_found (Some bytes) entries id = with_entry entries id bytes

-- the entries with that under the id in spelling 2, where it was in spelling 1
abbrev pub with_upgraded : List Entry → SaveId → List Entry
with_upgraded entries id = with_found (upgraded (bytes_at entries id)) entries id

-- how many entries are in spelling 1
abbrev pub in_spelling_1 : List Entry → ℕ
in_spelling_1 entries = count_by (λ entry. is_some (upgraded entry.1)) entries

-- the first so many entries upgraded, and the others as they were
abbrev pub upgraded_up_to : ℕ → List Entry → List Entry
upgraded_up_to count entries = map upgraded_entry (take count entries) ++ drop count entries

-- some first entries were upgraded
abbrev pub IsPartUpgraded : (old new : List Entry) → Type 0
IsPartUpgraded old new = (count : ℕ) × (new ≡ upgraded_up_to count old)

-- a file spells the entries, of which some first ones are upgraded
abbrev pub SpellsPartUpgraded : List Entry → List ℕ → Type 0
SpellsPartUpgraded entries file = (count : ℕ) × (vault_of file ≡ Ok (upgraded_up_to count entries))
