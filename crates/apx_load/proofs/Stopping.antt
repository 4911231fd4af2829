-- A stop that has its cause has each weaker one.
use Rattle.std.proofs.Common.{◌≡◌, ℕ, List, [], ◌∷◌, inl, refl, sym, ap, arith, ◌≤◌, ◌++◌}
use Rattle.std.specs.Prelude.{Err}
use Rattle.apx_cause.specs.Cause.{Rose}
use Rattle.apx_tuple.specs.declared.refusal.Short.{Short}
use Rattle.apx_tuple.specs.declared.refusal.Short.TheVariants as short
use Rattle.apx_device.specs.declared.keeper.KeepRefusal.{KeepRefusal}
use Rattle.apx_device.specs.declared.keeper.KeepRefusal.TheVariants as keep
use Rattle.apx_device.specs.declared.folder.ReadRefusal.{ReadRefusal}
use Rattle.apx_device.specs.declared.folder.ReadRefusal.TheVariants as read
use Rattle.apx_device.specs.declared.folder.ReadRefusal.TheVariants.{Absent, TooLong, Failed}
use Rattle.apx_device.specs.Folder.{Answer}
use Rattle.apx_device.proofs.Hearing.{Gave-second}
use Rattle.apx_load.specs.declared.refusal.Refusal.{Refusal}
use Rattle.apx_load.specs.declared.stop.Stop.{Stop}
use Rattle.apx_load.specs.declared.stop.Stop.TheVariants.{Refused, CannotRead, VaultFailed, StoreFailed, SpoolFailed, StateDamaged, BlockDamaged, OutputFailed, Memory, Large}
use Rattle.apx_load.specs.Stops.{Causes, IsCaused, no_causes, IsUnread, reading_causes, stop_of_store, stop_of_short}
use Rattle.apx_load.specs.Refusals.{by_answers, IsFileRefusal}

-- each cause of the one is a cause of the other
pub record AreWeaker (strong weak : Causes) : Type 0 where
  pub refuses : (refusal : Refusal) → strong.refuses refusal → weak.refuses refusal
  pub unread : (name : List ℕ) → strong.unread name → weak.unread name
  pub vault : strong.vault → weak.vault
  pub store : strong.store → weak.store
  pub spool : strong.spool → weak.spool
  pub state : strong.state → weak.state
  pub block : strong.block → weak.block
  pub output : strong.output → weak.output
  pub large : strong.large → weak.large

pub caused_weaker : (strong weak : Causes) (stop : Stop) → AreWeaker strong weak → IsCaused strong stop → IsCaused weak stop
caused_weaker strong weak (Refused refusal) weaker is = weaker.refuses refusal is
caused_weaker strong weak (CannotRead name) weaker is = weaker.unread name is
caused_weaker strong weak VaultFailed weaker is = weaker.vault is
caused_weaker strong weak StoreFailed weaker is = weaker.store is
caused_weaker strong weak SpoolFailed weaker is = weaker.spool is
caused_weaker strong weak StateDamaged weaker is = weaker.state is
caused_weaker strong weak BlockDamaged weaker is = weaker.block is
caused_weaker strong weak OutputFailed weaker is = weaker.output is
caused_weaker strong weak Large weaker is = weaker.large is
caused_weaker strong weak Memory weaker is = tt

-- no cause but this refusal is weaker than reading that refuses it too
pub refusal_read : (P Q : Refusal → Type 0) (answers : List Answer) (rose : Type 0) (stop : Stop) → ((refusal : Refusal) → P refusal → Q refusal) → IsCaused (record no_causes { refuses = P }) stop → IsCaused (reading_causes Q answers rose) stop
refusal_read P Q answers rose stop refuses is =
    caused_weaker _ _ stop (record { refuses = refuses; unread = λ name none. absurd none; vault = λ none. none; store = λ none. none; spool = λ none. none; state = λ none. none; block = λ none. none; output = λ none. none; large = λ none. none }) is

-- a stop of a later read is one of all reads
pub read_later : (P Q : Refusal → Type 0) (first second : List Answer) (before mid now : ℕ) (stop : Stop) → before ≤ mid → ((refusal : Refusal) → P refusal → Q refusal) → IsCaused (reading_causes P second (Rose mid now)) stop → IsCaused (reading_causes Q (first ++ second) (Rose before now)) stop
read_later P Q first second before mid now stop later refuses is =
    caused_weaker _ _ stop (record {
      refuses = refuses;
      unread = λ name failed. (rose failed.0, (failed.1.0, Gave-second name failed.1.0 (Err Failed) first second failed.1.1));
      vault = λ none. none;
      store = λ none. none;
      spool = λ none. none;
      state = λ none. none;
      block = λ none. none;
      output = λ none. none;
      large = λ none. none;
    }) is
  where
    rose : Rose mid now → Rose before now
    rose r = omega (arith, r)

abbrev failed : ℕ → List ℕ → Answer
failed limit name = record { name = name; limit = limit; gave = Err Failed }

-- a stop at one file is one of reading it
pub read_stop : (name : List ℕ) (limit : ℕ) (refusal : ReadRefusal) (rose : Type 0) (stop : Stop) → IsUnread name refusal stop → (refusal ≡ Failed → rose) →
    IsCaused (reading_causes (IsFileRefusal (by_answers (record { name = name; limit = limit; gave = Err refusal } ∷ [])) name limit) (record { name = name; limit = limit; gave = Err refusal } ∷ []) rose) stop
read_stop name limit Absent rose stop is risen =
    caused_weaker _ _ stop (record { refuses = λ r e. rw e (refl, (inl refl, tt)); unread = λ file none. absurd none; vault = λ none. none; store = λ none. none; spool = λ none. none; state = λ none. none; block = λ none. none; output = λ none. none; large = λ none. none }) is
read_stop name limit TooLong rose stop is risen =
    caused_weaker _ _ stop (record { refuses = λ r e. rw e (refl, (inl refl, tt)); unread = λ file none. absurd none; vault = λ none. none; store = λ none. none; spool = λ none. none; state = λ none. none; block = λ none. none; output = λ none. none; large = λ none. none }) is
read_stop name limit Failed rose stop is risen =
    caused_weaker _ _ stop (record { refuses = λ r none. absurd none; unread = λ file e. (risen refl, (limit, inl (ap (failed limit) (sym e)))); vault = λ none. none; store = λ none. none; spool = λ none. none; state = λ none. none; block = λ none. none; output = λ none. none; large = λ none. none }) is
read_stop name limit read.Memory rose stop is risen =
    caused_weaker _ _ stop (record { refuses = λ r none. absurd none; unread = λ file none. absurd none; vault = λ none. none; store = λ none. none; spool = λ none. none; state = λ none. none; block = λ none. none; output = λ none. none; large = λ none. none }) is

-- ---- one reading after another

-- a stop of the first read is one of both
pub read_first : (P Q : Refusal → Type 0) (answers : List Answer) (rose : Type 0) (stop : Stop) → ((refusal : Refusal) → P refusal → Q refusal) → IsCaused (reading_causes P answers rose) stop → IsCaused (reading_causes Q answers rose) stop
read_first P Q answers rose stop refuses is =
    caused_weaker _ _ stop (record { refuses = refuses; unread = λ name failed. failed; vault = λ none. none; store = λ none. none; spool = λ none. none; state = λ none. none; block = λ none. none; output = λ none. none; large = λ none. none }) is

-- ---- the stop for a refusal of a device or for a size

-- a refusal of the store has its cause where the store failed
pub caused_by_store : (causes : Causes) (refusal : KeepRefusal) → (refusal ≡ keep.Failed → causes.store) → IsCaused causes (stop_of_store refusal)
caused_by_store causes keep.Failed rose = rose refl
caused_by_store causes keep.Memory rose = tt

-- a bag or a state that wasn't made has its cause where it is too large
pub caused_by_size : (causes : Causes) (size : Short) → (size ≡ short.Large → causes.large) → IsCaused causes (stop_of_short size)
caused_by_size causes short.Memory large = tt
caused_by_size causes short.Large large = large refl
