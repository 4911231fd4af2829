-- A window more joins those that a file spells.
use Rattle.std.proofs.Common.{◌≡◌, ◌⊎◌, inl, inr, ℕ, ◌+◌, List, [], ◌∷◌, ◌++◌, length, Option, Some, None, Result, Ok, Err, refl, sym, ap, ◌∙◌, subst, arith}
use Rattle.apx_tuple.specs.declared.tuple.Tuple.{Tuple}
use Rattle.apx_cause.specs.Steps.{Steps}
use Rattle.apx_cause.proofs.Going.{weaker}
use Rattle.apx_disk.specs.Log.{Entry, Log, read_log, with_record, Grows}
use Rattle.apx_sinklog.specs.declared.logged.LoggedWindow.{LoggedWindow}
use Rattle.apx_sinklog.specs.Logged.{logged_rows, logged_windows}
use Rattle.apx_sinklog.specs.Windows.{window_in, before, windows_in, windows_of_log, sink_of}

-- the windows of some records, if the first is good and the others are
record First (found : Option (List Tuple)) (rest : Result (List (List Tuple)) ℕ) (windows : List (List Tuple)) : Type 0 where
  rows : List Tuple
  others : List (List Tuple)
  found_is : found ≡ Some rows
  rest_is : rest ≡ Ok others
  windows_are : windows ≡ rows ∷ others

first_of : (found : Option (List Tuple)) (gate : ℕ) (rest : Result (List (List Tuple)) ℕ) (windows : List (List Tuple)) → before found gate rest ≡ Ok windows → First found rest windows
first_of None gate rest windows is = absurd (cc is)
first_of (Some rows) gate (Ok others) windows is = record { rows = rows; others = others; found_is = refl; rest_is = refl; windows_are = cc }
first_of (Some rows) gate (Err place) windows is = absurd (cc is)

windows_push : (window : ℕ) (entries : List Entry) (entry : Entry) (windows : List (List Tuple)) (rows : List Tuple) → windows_in window entries ≡ Ok windows → window_in (window + length windows) entry.body ≡ Some rows → windows_in window (entries ++ entry ∷ []) ≡ Ok (windows ++ rows ∷ [])
windows_push window [] entry [] rows is found =
    let same : window + 0 ≡ window = omega arith in
    ap (λ (r : Option (List Tuple)). before r entry.gate (Ok [])) (ap (λ (w : ℕ). window_in w entry.body) (sym same) ∙ found)
windows_push window [] entry (first ∷ windows) rows is found = absurd (cc is)
windows_push window (first ∷ entries) entry windows rows is found =
    let f = first_of (window_in window first.body) first.gate (windows_in (window + 1) entries) windows is in
    let lengths = ap length f.windows_are in
    let next : window + length windows ≡ window + 1 + length f.others = omega (arith, lengths) in
    let rest = windows_push (window + 1) entries entry f.others rows f.rest_is (ap (λ (w : ℕ). window_in w entry.body) (sym next) ∙ found) in
    ap (λ (r : Option (List Tuple)). before r first.gate (windows_in (window + 1) (entries ++ entry ∷ []))) f.found_is
    ∙ ap (before (Some f.rows) first.gate) rest
    ∙ ap (λ (ws : List (List Tuple)). Ok (ws ++ rows ∷ [])) (sym f.windows_are)

log_push : (log : Result Log ℕ) (body : List ℕ) (windows : List (List Tuple)) (rows : List Tuple) → windows_of_log log ≡ Ok windows → window_in (length windows + 1) body ≡ Some rows → windows_of_log (with_record body log) ≡ Ok (windows ++ rows ∷ [])
log_push (Ok log) body windows rows is found =
    let same : 1 + length windows ≡ length windows + 1 = omega arith in
    windows_push 1 log.entries (record { gate = log.end; body = body }) windows rows is (ap (λ (w : ℕ). window_in w body) same ∙ found)
log_push (Err place) body windows rows is found = absurd (cc is)

-- the file has one record more
pub sink_push : (file image body : List ℕ) (windows : List (List Tuple)) (rows : List Tuple) → sink_of file ≡ Ok windows → window_in (length windows + 1) body ≡ Some rows → read_log image ≡ with_record body (read_log file) → sink_of image ≡ Ok (windows ++ rows ∷ [])
sink_push file image body windows rows is found read = ap windows_of_log read ∙ log_push (read_log file) body windows rows is found

-- what a crash leaves while a window is added
pub store_crash : {earlier now : ℕ} {old new : ℕ → List ℕ → Type 0} (file body : List ℕ) (windows : List (List Tuple)) (rows : List Tuple) → sink_of file ≡ Ok windows → window_in (length windows + 1) body ≡ Some rows → Steps earlier now old new (Grows file body)
    → Steps earlier now old new (λ image. (sink_of image ≡ Ok windows) ⊎ (sink_of image ≡ Ok (windows ++ rows ∷ [])))
store_crash file body windows rows is found steps =
    weaker (λ image grows. elim grows [
      | inl same ↦ inl (ap windows_of_log same ∙ is)
      | inr more ↦ inr (sink_push file image body windows rows is found more)
    ]) steps

pub logged-push : (windows : List LoggedWindow) (window : LoggedWindow) → logged_windows (windows ++ window ∷ []) ≡ logged_windows windows ++ logged_rows window ∷ []
logged-push [] window = refl
logged-push (first ∷ windows) window = ap (λ (ws : List (List Tuple)). logged_rows first ∷ ws) (logged-push windows window)
