-- What a spool in a file holds.
use Rattle.std.specs.Prelude.{ℕ, List, [], Option}
use Rattle.std.specs.Option.{option_map}
use Rattle.std.specs.Ordering.{nat_cmp}
use Rattle.std.specs.BTreeMap.{get}
use Rattle.apx_files.specs.declared.spools.FileSpool.{FileSpool}

-- under which numbers there are pieces, whose bytes the file doesn't tell
abbrev pub piece_of : {F : Type 0} → FileSpool F → ℕ → Option (List ℕ)
piece_of spool number = option_map (λ place. []) (get nat_cmp spool.places number)
