-- The script of an example is accepted, by itself and by its job.
use Rattle.std.proofs.Common.{◌≡◌, ℕ, ◌+◌, ◌/◌, ◌≤◌, ◌&&◌, not, nat_lt, nat_le, Bool, true, false, cond, List, [], ◌∷◌, length, codes, Option, None, Some, Ok, refl, sym, ap, arith}
use Rattle.std.specs.Prelude.{if◌then◌else◌}
use Rattle.std.specs.Str.{chars, is_utf8}
use borrow.Author.Tests.{ltb-false}
use Rattle.std.proofs.lemmas.Bool.Decides.{nat_tests}
use Rattle.apx_decimal.specs.Decimal.{number_up_to}
use Rattle.apx_gen.specs.Generated.{script_text}
use Rattle.apx_history.specs.Plan.{boundary_in, number_in}
use Rattle.apx_pass.specs.Groups.{Input}
use Rattle.apx_pass.specs.Job.{Job}
use Rattle.apx_pass.specs.Lines.{pieces, without_cr, lines}
use Rattle.apx_pass.specs.Pass.{windows_of}
use Rattle.apx_pass.specs.Script.{Done, Staged, Kill, Repartition, Line, at_space, after_word, script_number, script_part, kill_of, repartition_of, act_of, command_at, script_from, script_of}
use Rattle.apx_job.specs.Job.{split_reason, named_reason, reason, late_reason, first_refused_behind, refused_line}
use Rattle.apx_example.specs.Application.{nodes}
use Rattle.apx_example.specs.Example.{example_windows, all_lines, example_lines}

-- ---- by itself

all_read : script_of (codes "kill done 3 0 split\nrepartition 4 3 tally\nkill staged 6 2 tally\n") ≡ Ok all_lines
unfolding script_of script_from command_at act_of kill_of repartition_of script_part script_number after_word at_space lines pieces without_cr is_utf8 chars lib.Utf8.encode number_up_to
all_read = refl

none_read : script_of [] ≡ Ok []
unfolding script_of script_from lines pieces
none_read = refl

pub script-read : (size : ℕ) → script_of (script_text size) ≡ Ok (example_lines size)
script-read size = by (nat_lt ((size + 9) / 10) 8)
  where
    by : (b : Bool) → script_of (cond b [] (codes "kill done 3 0 split\nrepartition 4 3 tally\nkill staged 6 2 tally\n")) ≡ Ok (cond b [] all_lines)
    by true = none_read
    by false = all_read

pub script-short : (size : ℕ) → length (script_text size) ≤ 1048576
script-short size = by (nat_lt ((size + 9) / 10) 8)
  where
    by : (b : Bool) → length (cond {A = List ℕ} b [] (codes "kill done 3 0 split\nrepartition 4 3 tally\nkill staged 6 2 tally\n")) ≤ 1048576
    by true = omega arith
    by false = omega arith

-- ---- by the job

-- the job of an input and a script
abbrev pub job_of : Input → List Line → Job
job_of input script = record {
  flow = record { nodes = nodes; inputs = input ∷ [] };
  script = script;
  settings = record { base = 1000000000; every = 4; block = 65536; keep = 64 };
}

none_judged : (input : Input) → refused_line (job_of input []) ≡ None
unfolding refused_line first_refused_behind
none_judged input = refl

-- a window that is one of the job
windows_there : (w n : ℕ) → 1 ≤ w → w ≤ n → (nat_le 1 w && nat_le w n) ≡ true
windows_there w n low high = grind (arith, nat_tests)

-- the commands
abbrev first : Line
first = record { number = 1; act = Kill Done 3 0 (codes "split") }

abbrev second : Line
second = record { number = 2; act = Repartition 4 3 (codes "tally") }

abbrev third : Line
third = record { number = 3; act = Kill Staged 6 2 (codes "tally") }

-- none of the three is refused where there is no reason against each
three : (why : List Line → Line → Option ℕ) → why [] first ≡ None → why (first ∷ []) second ≡ None → why (first ∷ second ∷ []) third ≡ None →
    first_refused_behind why [] all_lines ≡ None
unfolding first_refused_behind
three why a b c = rw (a, b, c) refl

module _ (input : Input) (many : 8 ≤ windows_of (input ∷ [])) where
  -- what is refused where the window isn't one of the job
  abbrev within : Bool → Option ℕ
  within b = if not b then Some 4 else None

  no_reason : first_refused_behind (reason (job_of input all_lines)) [] all_lines ≡ None
  unfolding reason named_reason split_reason
  no_reason = three (reason (job_of input all_lines))
      (ap within (windows_there 3 (windows_of (input ∷ [])) (omega arith) (omega arith)))
      (ap within (windows_there 4 (windows_of (input ∷ [])) (omega arith) (omega arith)))
      (ap within (windows_there 6 (windows_of (input ∷ [])) (omega arith) (omega arith)))

  none_late : first_refused_behind (λ earlier. late_reason (job_of input all_lines)) [] all_lines ≡ None
  unfolding late_reason boundary_in number_in
  none_late = three (λ earlier. late_reason (job_of input all_lines)) refl refl refl

  all_judged : refused_line (job_of input all_lines) ≡ None
  unfolding refused_line
  all_judged = rw (no_reason, none_late) refl

pub script-judged : (input : Input) (size : ℕ) → windows_of (input ∷ []) ≡ example_windows size → refused_line (job_of input (example_lines size)) ≡ None
script-judged input size same = by (nat_lt (example_windows size) 8) refl
  where
    by : (b : Bool) → b ≡ nat_lt (example_windows size) 8 → refused_line (job_of input (cond b [] all_lines)) ≡ None
    by true e = none_judged input
    by false e = all_judged input (let h = ltb-false (example_windows size) 8 (sym e) in omega arith)
