-- A record more changes the entries that a file spells.
use Rattle.std.proofs.Common.{◌≡◌, ◌⊎◌, inl, inr, ℕ, List, [], ◌∷◌, ◌++◌, Option, Some, Result, Ok, Err, refl, ap, ◌∙◌}
use Rattle.std.specs.Option.{ok_or}
use Rattle.apx_cause.specs.Steps.{Steps}
use Rattle.apx_cause.proofs.Going.{weaker}
use Rattle.apx_device.specs.Vault.{Entry}
use Rattle.apx_disk.specs.Log.{Entry as Logged, Log, read_log, with_record, Grows}
use Rattle.apx_vaultlog.specs.Changes.{changed, one_more, entries_after, entries_of_log, vault_of}

-- one record more
pub after_push : (entries : Result (List Entry) ℕ) (records : List Logged) (logged : Logged)
    → entries_after entries (records ++ logged ∷ []) ≡ one_more (entries_after entries records) logged
after_push entries [] logged = refl
after_push entries (first ∷ records) logged = after_push (one_more entries first) records logged

log_push : (log : Result Log ℕ) (body : List ℕ) (entries next : List Entry) → entries_of_log log ≡ Ok entries → changed body entries ≡ Some next
    → entries_of_log (with_record body log) ≡ Ok next
log_push (Ok log) body entries next is change =
    after_push (Ok []) log.entries (record { gate = log.end; body = body })
    ∙ ap (λ (r : Result (List Entry) ℕ). one_more r (record { gate = log.end; body = body })) is
    ∙ ap (λ (o : Option (List Entry)). ok_or o log.end) change
log_push (Err place) body entries next is change = absurd (cc is)

-- the file has one record more
pub vault_push : (file image body : List ℕ) (entries next : List Entry) → vault_of file ≡ Ok entries → changed body entries ≡ Some next
    → read_log image ≡ with_record body (read_log file) → vault_of image ≡ Ok next
vault_push file image body entries next is change read = ap entries_of_log read ∙ log_push (read_log file) body entries next is change

-- what a crash leaves while a record is added
pub change_crash : {earlier now : ℕ} {old new : ℕ → List ℕ → Type 0} (file body : List ℕ) (entries next : List Entry) → vault_of file ≡ Ok entries
    → changed body entries ≡ Some next → Steps earlier now old new (Grows file body)
    → Steps earlier now old new (λ image. (vault_of image ≡ Ok entries) ⊎ (vault_of image ≡ Ok next))
change_crash file body entries next is change steps =
    weaker (λ image grows. elim grows [
      | inl same ↦ inl (ap entries_of_log same ∙ is)
      | inr more ↦ inr (vault_push file image body entries next is change more)
    ]) steps
