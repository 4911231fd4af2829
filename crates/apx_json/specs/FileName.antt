-- Names of files.
use Rattle.std.specs.Prelude.{ℕ, ◌==◌, ◌&&◌, nat_le, not, Bool, List, length, slice_index}

-- a file name has 1 to 4,096 bytes and doesn't begin with a minus, byte 45
abbrev pub is_file_name : List ℕ → Bool
is_file_name name = nat_le 1 (length name) && nat_le (length name) 4096 && not (slice_index name 0 == 45)
