use Rattle.std.proofs.Common.{ℕ, zero, suc, ◌^◌, ◌<◌, ◌≤◌, arith}
use Rattle.std.proofs.Math.Nat.{pow-le-pow_right}

-- A power of two that reaches more than 2 is 4 or more.
pub from_four : (n b : ℕ) → 2 < n → n ≤ 2 ^ b → 4 ≤ 2 ^ b
from_four n zero more reaches = omega arith
from_four n (suc zero) more reaches = omega arith
from_four n (suc (suc b)) more reaches =
    let two : 2 ≤ suc (suc b) = omega arith in pow-le-pow_right {n = 2} (omega arith) two

-- A power of two that reaches more than 4 is 8 or more.
pub from_eight : (n b : ℕ) → 4 < n → n ≤ 2 ^ b → 8 ≤ 2 ^ b
from_eight n zero more reaches = omega arith
from_eight n (suc zero) more reaches = omega arith
from_eight n (suc (suc zero)) more reaches = omega arith
from_eight n (suc (suc (suc b))) more reaches =
    let three : 3 ≤ suc (suc (suc b)) = omega arith in pow-le-pow_right {n = 2} (omega arith) three
