-- What a file spells as a vault log: the entries that its records make, one change after the other.
-- The body of a put is 1, the id's operator in two bytes, its boundary in four, its partition in one, its window in four,
-- and the bytes to be kept. The body of a drop is 2 and a window in four bytes.
use Rattle.std.specs.Prelude.{ℕ, Bool, false, List, [], ◌∷◌, ◌++◌, length, take, drop, slice_index, Option, Some, None, Result, Ok, Err, nat_le, ◌==◌, ◌&&◌, if◌then◌else◌}
use Rattle.std.specs.Int.{w16, w32, to_be_bytes, from_be_bytes}
use Rattle.std.specs.Option.{ok_or}
use Rattle.apx_device.specs.declared.vault.SaveId.{SaveId}
use Rattle.apx_device.specs.Vault.{Entry, with_entry, entries_from}
use Rattle.apx_disk.specs.Log.{Entry as Logged, Log, read_log}

-- what stands before the bytes in the body of a put
abbrev pub put_front : SaveId → List ℕ
put_front id = 1 ∷ (to_be_bytes w16 id.op ++ (to_be_bytes w32 id.boundary ++ (id.part ∷ to_be_bytes w32 id.window)))

-- the body of a put
abbrev pub put_body : SaveId → List ℕ → List ℕ
put_body id bytes = put_front id ++ bytes

-- the body of a drop
abbrev pub drop_body : ℕ → List ℕ
drop_body window = 2 ∷ to_be_bytes w32 window

-- whether a body is that of a put
abbrev pub is_put : List ℕ → Bool
is_put [] = false
is_put (kind ∷ rest) = kind == 1 && nat_le 11 (length rest)

-- whether a body is that of a drop
abbrev pub is_drop : List ℕ → Bool
is_drop [] = false
is_drop (kind ∷ rest) = kind == 2 && length rest == 4

-- the id in the body of a put
abbrev pub put_id : List ℕ → SaveId
put_id body = record {
  op = from_be_bytes w16 (take 2 (drop 1 body));
  boundary = from_be_bytes w32 (take 4 (drop 3 body));
  part = slice_index body 7;
  window = from_be_bytes w32 (take 4 (drop 8 body));
}

-- the window in the body of a drop
abbrev pub drop_window : List ℕ → ℕ
drop_window body = from_be_bytes w32 (take 4 (drop 1 body))

-- the entries once the change of a record is made, if its body has one of the two forms
abbrev pub changed : List ℕ → List Entry → Option (List Entry)
changed body entries =
    if is_put body then Some (with_entry entries (put_id body) (drop 12 body)) else
    if is_drop body then Some (entries_from entries (drop_window body)) else None

-- the entries after one record more; Err is the gate of the first body that has neither form
abbrev pub one_more : Result (List Entry) ℕ → Logged → Result (List Entry) ℕ
one_more (Err place) logged = Err place
one_more (Ok entries) logged = ok_or (changed logged.body entries) logged.gate

-- the entries after some records
abbrev pub entries_after : Result (List Entry) ℕ → List Logged → Result (List Entry) ℕ
entries_after entries [] = entries
entries_after entries (logged ∷ others) = entries_after (one_more entries logged) others

-- the entries that a list of records makes
abbrev pub entries_of_log : Result Log ℕ → Result (List Entry) ℕ
entries_of_log (Ok log) = entries_after (Ok []) log.entries
entries_of_log (Err place) = Err place

-- the entries that the file spells; Err is the place of a gate that is open without a whole record of these forms behind it
abbrev pub vault_of : List ℕ → Result (List Entry) ℕ
vault_of file = entries_of_log (read_log file)
