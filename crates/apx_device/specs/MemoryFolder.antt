-- The files of a folder in memory.
use Rattle.std.specs.Prelude.{ℕ, List, Option}
use Rattle.std.specs.Option.{option_map}
use Rattle.std.specs.BTreeMap.{get_by_text}
use Rattle.apx_device.specs.declared.memory_folder.MemoryFolder.{MemoryFolder}
use Rattle.apx_device.specs.declared.memory_folder.FailingFolder.{FailingFolder}

-- the file under a name
abbrev pub file_of : MemoryFolder → List ℕ → Option (List ℕ)
file_of folder name = option_map (λ file. file.items) (get_by_text folder.files name)

-- the same of a folder whose reads may fail
abbrev pub failing_file_of : FailingFolder → List ℕ → Option (List ℕ)
failing_file_of folder = file_of folder.folder
