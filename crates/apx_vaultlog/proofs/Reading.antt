-- The changes of some records, one after the other.
use Rattle.std.proofs.Common.{◌≡◌, ℕ, ◌+◌, ◌<◌, List, [], ◌∷◌, length, map, drop, get_or, Option, Some, None, Result, Ok, Err, refl, sym, ap, ◌∙◌, arith}
use Rattle.std.proofs.lemmas.List.{drop_more, drop_all}
use Rattle.std.specs.Option.{ok_or}
use Rattle.apx_device.specs.Vault.{Entry}
use Rattle.apx_disk.specs.Log.{Entry as Logged}
use Rattle.apx_disk.specs.declared.records.Record.{Record}
use Rattle.apx_disk.specs.Entries.{entry_of}
use Rattle.apx_vaultlog.specs.Changes.{changed, entries_after}

stays_bad : (place : ℕ) (records : List Logged) → entries_after (Err place) records ≡ Err place
stays_bad place [] = refl
stays_bad place (logged ∷ records) = stays_bad place records

module _ (read : List Record) (i : ℕ) (record' : Record) (within : i < length read) (here : record' ≡ get_or read i record') (entries : List Entry) (whole : Result (List Entry) ℕ)
    (so_far : whole ≡ entries_after (Ok entries) (map entry_of (drop i read))) where
  at_record : map entry_of (drop i read) ≡ entry_of record' ∷ map entry_of (drop (i + 1) read)
  at_record = ap (map entry_of) (drop_more read i record' within) ∙ ap (λ (r : Record). entry_of r ∷ map entry_of (drop (i + 1) read)) (sym here)

  now : whole ≡ entries_after (ok_or (changed record'.body.items entries) record'.gate) (map entry_of (drop (i + 1) read))
  now = so_far ∙ ap (entries_after (Ok entries)) at_record

  -- one change more
  pub entries_next : (next : List Entry) → changed record'.body.items entries ≡ Some next → whole ≡ entries_after (Ok next) (map entry_of (drop (i + 1) read))
  entries_next next change = now ∙ ap (λ (o : Option (List Entry)). entries_after (ok_or o record'.gate) (map entry_of (drop (i + 1) read))) change

  -- a body that has neither form
  pub entries_bad : changed record'.body.items entries ≡ None → whole ≡ Err record'.gate
  entries_bad none =
      now ∙ ap (λ (o : Option (List Entry)). entries_after (ok_or o record'.gate) (map entry_of (drop (i + 1) read))) none
      ∙ stays_bad record'.gate (map entry_of (drop (i + 1) read))

-- no record is left
pub entries_end : (read : List Record) (i : ℕ) (entries : List Entry) (whole : Result (List Entry) ℕ) → length read ≡ i
    → whole ≡ entries_after (Ok entries) (map entry_of (drop i read)) → whole ≡ Ok entries
entries_end read i entries whole all so_far =
    so_far ∙ ap (λ (rs : List Record). entries_after (Ok entries) (map entry_of rs)) (drop_all i read (omega (arith, all)))
