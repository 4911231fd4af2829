-- Checkpoints that are left of small jobs, computed.
use Rattle.std.proofs.Common.{◌≡◌, ℕ, List, [], ◌∷◌, refl}
use Rattle.apx_device.specs.declared.vault.SaveId.{SaveId}
use Rattle.apx_history.specs.declared.Act.TheVariants.{Fails, Splits}
use Rattle.apx_history.specs.declared.Line.{Line}
use Rattle.apx_history.specs.declared.Point.TheVariants.{Done}
use Rattle.apx_history.specs.Plan.{Plan, boundary_in, number_in}
use Rattle.apx_history.specs.Enabled.{limit_in}
use Rattle.apx_promise.specs.Checkpoints.{reach, last_saves}

-- a chain of four operators, the third one in two partitions
chain : ℕ → ℕ → List Line → Plan
chain windows every lines = record {
  windows = windows;
  every = every;
  sink = 3;
  operators = record { sources = []; under = 1 ∷ 2 ∷ 3 ∷ []; first = 1 }
      ∷ record { sources = 0 ∷ []; under = 2 ∷ 3 ∷ []; first = 1 }
      ∷ record { sources = 1 ∷ []; under = 3 ∷ []; first = 2 }
      ∷ record { sources = 2 ∷ []; under = []; first = 1 } ∷ [];
  lines = lines;
}

-- the third operator gets three partitions behind a window
split : ℕ → Line
split window = record { op = 2; window = window; act = Splits 3 }

-- a partition of the third operator is killed at window 3
kill : Line
kill = record { op = 2; window = 3; act = Fails Done 0 }

id : ℕ → ℕ → ℕ → ℕ → SaveId
id o b i w = record { op = o; boundary = b; part = i; window = w }

-- six windows with a checkpoint each second: those after window 6, of the epoch behind window 4
ends_in_its_epoch : last_saves (chain 6 2 (split 4 ∷ [])) ≡
    id 0 0 0 6 ∷ id 1 0 0 6 ∷ id 2 4 0 6 ∷ id 2 4 1 6 ∷ id 2 4 2 6 ∷ id 3 0 0 6 ∷ []
unfolding chain split id boundary_in number_in
ends_in_its_epoch = refl

-- five windows: those after window 4, of the epoch that was left there and of the one that began
ends_at_a_boundary : last_saves (chain 5 2 (kill ∷ split 4 ∷ [])) ≡
    id 0 0 0 4 ∷ id 1 0 0 4 ∷ id 2 0 0 4 ∷ id 2 0 1 4 ∷ id 2 4 0 4 ∷ id 2 4 1 4 ∷ id 2 4 2 4 ∷ id 3 0 0 4 ∷ []
unfolding chain split kill id boundary_in number_in
ends_at_a_boundary = refl

-- fewer windows than one interval: none
ends_before_the_first : last_saves (chain 5 60 []) ≡ []
unfolding chain
ends_before_the_first = refl

-- where epochs end
ends_where_the_next_begins : reach (chain 6 2 (split 4 ∷ split 2 ∷ [])) 2 0 ≡ 2
unfolding chain split limit_in
ends_where_the_next_begins = refl

ends_with_the_job : reach (chain 6 2 (split 4 ∷ split 2 ∷ [])) 2 4 ≡ 6
unfolding chain split limit_in
ends_with_the_job = refl
