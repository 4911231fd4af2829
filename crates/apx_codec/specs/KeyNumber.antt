use Rattle.std.specs.Prelude.{◌≡◌, ℕ, ◌+◌, ◌*◌, ◌%◌, ◌^◌, ◌≤◌, List, [], ◌∷◌, bit_and, nat_le, if◌then◌else◌}

-- The number h once the bytes have been read behind it.
abbrev pub hash_from : ℕ → List ℕ → ℕ
hash_from h [] = h
hash_from h (byte ∷ bytes) = hash_from ((31 * h + byte) % 2 ^ 32) bytes

-- The number of a key: from 0, each byte makes it 31 times itself plus the byte, modulo 2 ^ 32.
abbrev pub hash_of : List ℕ → ℕ
hash_of key = hash_from 0 key

-- m is the least number of the form 2 ^ b - 1 with 2 ^ b at least n.
pub record IsMask (n m : ℕ) : Type 0 where
  -- the exponent
  pub bits : ℕ
  -- the mask is one less than its power of two
  pub form : m + 1 ≡ 2 ^ bits
  -- the power is at least n
  pub reaches : n ≤ 2 ^ bits
  -- no lesser power of two is
  pub least : (b : ℕ) → n ≤ 2 ^ b → m + 1 ≤ 2 ^ b

-- The mask of 1 to 8 partitions.
abbrev pub mask_of : ℕ → ℕ
mask_of n = if nat_le n 1 then 0 else if nat_le n 2 then 1 else if nat_le n 4 then 3 else 7

-- The partition of n that owns the keys with a number: their class, the number under the mask, modulo n.
abbrev pub number_owner : ℕ → ℕ → ℕ
number_owner n number = bit_and number (mask_of n) % n

-- The partition of n that owns a key.
abbrev pub owner_of : ℕ → List ℕ → ℕ
owner_of n key = number_owner n (hash_of key)
