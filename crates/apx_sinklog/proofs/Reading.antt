-- The windows of some records, one after the other.
use Rattle.std.proofs.Common.{◌≡◌, ℕ, ◌+◌, ◌<◌, List, [], ◌∷◌, ◌++◌, length, map, drop, get_or, Option, Some, None, Result, Ok, Err, refl, sym, ap, ◌∙◌, append_assoc, arith}
use Rattle.std.proofs.lemmas.List.{append-nil, drop_more, drop_all}
use Rattle.apx_tuple.specs.declared.tuple.Tuple.{Tuple}
use Rattle.apx_disk.specs.Log.{Entry}
use Rattle.apx_disk.specs.declared.records.Record.{Record}
use Rattle.apx_disk.specs.Entries.{entry_of}
use Rattle.apx_sinklog.specs.Windows.{window_in, before, windows_in}

-- windows that were read, and those that follow
abbrev pub behind : List (List Tuple) → Result (List (List Tuple)) ℕ → Result (List (List Tuple)) ℕ
behind windows (Ok more) = Ok (windows ++ more)
behind windows (Err place) = Err place

behind-before : (windows : List (List Tuple)) (rows : List Tuple) (gate : ℕ) (more : Result (List (List Tuple)) ℕ) → behind windows (before (Some rows) gate more) ≡ behind (windows ++ rows ∷ []) more
behind-before windows rows gate (Ok more) = ap Ok (sym (append_assoc windows (rows ∷ []) more))
behind-before windows rows gate (Err place) = refl

module _ (read : List Record) (i : ℕ) (record' : Record) (within : i < length read) (here : record' ≡ get_or read i record') (windows : List (List Tuple)) (whole : Result (List (List Tuple)) ℕ)
    (so_far : whole ≡ behind windows (windows_in (i + 1) (map entry_of (drop i read)))) where
  at_record : map entry_of (drop i read) ≡ entry_of record' ∷ map entry_of (drop (i + 1) read)
  at_record = ap (map entry_of) (drop_more read i record' within) ∙ ap (λ (r : Record). entry_of r ∷ map entry_of (drop (i + 1) read)) (sym here)

  now : whole ≡ behind windows (before (window_in (i + 1) record'.body.items) record'.gate (windows_in (i + 1 + 1) (map entry_of (drop (i + 1) read))))
  now = so_far ∙ ap (λ (es : List Entry). behind windows (windows_in (i + 1) es)) at_record

  -- one window more
  pub windows_next : (next : List (List Tuple)) (rows : List Tuple) → window_in (i + 1) record'.body.items ≡ Some rows → next ≡ windows ++ rows ∷ [] → whole ≡ behind next (windows_in (i + 1 + 1) (map entry_of (drop (i + 1) read)))
  windows_next next rows found pushed =
      let rest = windows_in (i + 1 + 1) (map entry_of (drop (i + 1) read)) in
      now ∙ ap (λ (o : Option (List Tuple)). behind windows (before o record'.gate rest)) found ∙ behind-before windows rows record'.gate rest ∙ ap (λ (ws : List (List Tuple)). behind ws rest) (sym pushed)

  -- a body of another form
  pub windows_bad : window_in (i + 1) record'.body.items ≡ None → whole ≡ Err record'.gate
  windows_bad none = now ∙ ap (λ (o : Option (List Tuple)). behind windows (before o record'.gate (windows_in (i + 1 + 1) (map entry_of (drop (i + 1) read))))) none

-- no record is left
pub windows_end : (read : List Record) (i : ℕ) (windows : List (List Tuple)) (whole : Result (List (List Tuple)) ℕ) → length read ≡ i → whole ≡ behind windows (windows_in (i + 1) (map entry_of (drop i read))) → whole ≡ Ok windows
windows_end read i windows whole all so_far =
    so_far ∙ ap (λ (rs : List Record). behind windows (windows_in (i + 1) (map entry_of rs))) (drop_all i read (omega (arith, all))) ∙ ap Ok (append-nil windows)
