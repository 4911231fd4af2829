-- What a kill and a repartition may put into the checkpoint store.
use Rattle.std.specs.Prelude.{◌≡◌, ℕ, ◌<◌, List, Some}
use Rattle.apx_device.specs.declared.vault.SaveId.{SaveId}
use Rattle.apx_course.specs.Run.{Run}
use Rattle.apx_held.specs.Fits.{IsSaved, save_id}
use Rattle.apx_statebytes.specs.Spelling.{second_spelling, IsProgress}
use Rattle.apx_tuple.specs.declared.progress.Progress.{Progress}

-- what a put of the bytes of a progress, which is not large, makes good
pub record IsProgressPut (id : SaveId) (progress : Progress) (other : SaveId) (found : List ℕ) : Type 0 where
  -- the id
  pub at : other ≡ id
  -- the bytes
  pub bytes : found ≡ second_spelling progress
  -- the progress can be spelled
  pub small : IsProgress progress

-- the checkpoint with which one of the n partitions of operator o begins the epoch behind window b
pub record IsRenewal (run : Run) (o b n : ℕ) (id : SaveId) (bytes : List ℕ) : Type 0 where
  -- the partition
  pub part : ℕ
  -- it is one of them
  pub few : part < n
  -- the id
  pub at : id ≡ save_id o b part b
  -- the bytes
  pub saved : IsSaved run.job run.told o b part b (Some bytes)
