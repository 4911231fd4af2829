-- What a call did to the devices and outputs that a run changes: each as it was and as it is.
use Rattle.std.specs.Prelude.{◌≡◌, ℕ, Bool, ◌&&◌, List}
use Rattle.apx_tuple.specs.declared.tuple.Tuple.{Tuple}
use Rattle.apx_cause.specs.Cause.{Rose}
use Rattle.apx_device.specs.Folder.{Answer}
use Rattle.apx_device.specs.Vault.{Entry}
use Rattle.apx_stores.specs.declared.devices.Devices.{Devices}
use Rattle.apx_stores.specs.Caused.{Counts}

-- what a sink's store means
pub record KeeperMeaning (K : Type 0) : Type 0 where
  -- whether it tells its rows
  pub tells : Bool
  -- the rows of each window, where it tells
  pub stored : K → List (List Tuple)
  -- its last window
  pub last : K → ℕ
  -- its count of faults
  pub faults : K → ℕ

-- what a checkpoint store means
pub record VaultMeaning (V : Type 0) : Type 0 where
  -- whether it tells its entries
  pub tells : Bool
  -- its entries, where it tells
  pub held : V → List Entry
  -- its count of faults
  pub faults : V → ℕ

-- what a maker of spools means
pub record SpoolsMeaning (P : Type 0) : Type 0 where
  -- whether its spools tell their pieces
  pub tells : Bool
  -- its count of faults
  pub faults : P → ℕ

-- the sink's store, before and after
pub record StoreChange : Type 0 where
  -- whether it tells its rows
  pub tells : Bool
  -- the rows of each window before, where it tells
  pub before : List (List Tuple)
  -- the rows of each window after
  pub after : List (List Tuple)
  -- its last window before
  pub last_before : ℕ
  -- its last window after
  pub last_after : ℕ

-- the checkpoint store, before and after
pub record VaultChange : Type 0 where
  -- whether it tells its entries
  pub tells : Bool
  -- its entries before, where it tells
  pub before : List Entry
  -- its entries after
  pub after : List Entry

-- an output, before and after
pub record OutputChange : Type 1 where
  -- whether it tells what it has got
  pub tells : Bool
  -- what it had got, where it tells
  pub before : List ℕ
  -- what it has got
  pub after : List ℕ
  -- its count of faults rose
  pub rose : Type 0

-- the devices of a run, before and after
pub record DevicesChange : Type 1 where
  -- the sink's store
  pub store : StoreChange
  -- the checkpoint store
  pub vault : VaultChange
  -- whether the spools tell their pieces
  pub spools_tell : Bool
  -- their counts of faults before
  pub before : Counts
  -- and after
  pub now : Counts
  -- both stores are, as values, those that they were
  pub stores_same : Type 0
  -- and so is the maker of spools
  pub spools_same : Type 0

-- a sink's store's meaning, by its parts
abbrev pub keeper_meaning : {K : Type 0} → Bool → (K → List (List Tuple)) → (last faults : K → ℕ) → KeeperMeaning K
keeper_meaning tells stored last faults = record { tells = tells; stored = stored; last = last; faults = faults }

-- a checkpoint store's
abbrev pub vault_meaning : {V : Type 0} → Bool → (V → List Entry) → (V → ℕ) → VaultMeaning V
vault_meaning tells held faults = record { tells = tells; held = held; faults = faults }

-- that of a maker of spools
abbrev pub spools_meaning : {P : Type 0} → Bool → (P → ℕ) → SpoolsMeaning P
spools_meaning tells faults = record { tells = tells; faults = faults }

-- the change of devices, by what they mean
abbrev pub devices_change : {K V P : Type 0} → KeeperMeaning K → VaultMeaning V → SpoolsMeaning P → (old new : Devices K V P) →
    DevicesChange
devices_change keeper vault spools old new = record {
  store = record {
    tells = keeper.tells;
    before = keeper.stored old.keeper;
    after = keeper.stored new.keeper;
    last_before = keeper.last old.keeper;
    last_after = keeper.last new.keeper;
  };
  vault = record { tells = vault.tells; before = vault.held old.vault; after = vault.held new.vault };
  spools_tell = spools.tells;
  before = record { keeper = keeper.faults old.keeper; vault = vault.faults old.vault; spools = spools.faults old.spools };
  now = record { keeper = keeper.faults new.keeper; vault = vault.faults new.vault; spools = spools.faults new.spools };
  stores_same = (new.keeper ≡ old.keeper) × (new.vault ≡ old.vault);
  spools_same = new.spools ≡ old.spools;
}

-- none of them was touched
abbrev pub AreUntouched : DevicesChange → Type 0
AreUntouched devices = devices.stores_same × devices.spools_same

-- the checkpoint store and the spools tell
abbrev pub held_tell : DevicesChange → Bool
held_tell devices = devices.vault.tells && devices.spools_tell

-- all of them tell
abbrev pub all_tell : DevicesChange → Bool
all_tell devices = devices.store.tells && held_tell devices

-- an output's change, by what an output means
abbrev pub output_change : {O : Type 0} → Bool → (O → List ℕ) → (O → ℕ) → (old new : O) → OutputChange
output_change tells written faults old new = record {
  tells = tells;
  before = written old;
  after = written new;
  rose = Rose (faults old) (faults new);
}

-- what a call heard of its folder, and what it did to the devices and outputs
pub record Call : Type 1 where
  -- the answers to its reads
  pub answers : List Answer
  -- the folder's count of faults rose
  pub folder : Type 0
  -- the devices of a run
  pub devices : DevicesChange
  -- the output
  pub output : OutputChange
  -- the error output
  pub errors : OutputChange

-- a call, by its parts
abbrev pub call_of : List Answer → Type 0 → DevicesChange → (output errors : OutputChange) → Call
call_of answers folder devices output errors = record {
  answers = answers;
  folder = folder;
  devices = devices;
  output = output;
  errors = errors;
}
