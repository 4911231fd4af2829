-- What an operator carries, cut to its partitions.
use Rattle.std.proofs.Common.{◌≡◌, ℕ, zero, suc, ◌-◌, ◌≤◌, ◌<◌, List, [], ◌∷◌, ◌++◌, length, refl, sym, subst, ◌∙◌, arith}
use Rattle.std.proofs.lemmas.List.FromFn.{length-map-range_with_len}
use Rattle.apx_dag.specs.Valid.{IsGraph}
use Rattle.apx_job.specs.Job.{IsJob, in_force}
use Rattle.apx_pass.specs.Job.{Job}
use Rattle.apx_part.proofs.Forces.{IsForce, in-force}
use Rattle.apx_pass.specs.Graph.{Role, Input, Inner, Sink, node_at}
use Rattle.apx_pass.specs.Pass.{at_start, progress_after}
use Rattle.apx_rules.specs.Parts.{of_parts}
use Rattle.apx_shares.specs.Carried.{cut_progress, merge_progress}
use Rattle.apx_shares.specs.Given.{part_progress}
use Rattle.apx_shares.specs.Laws.{HasParts, IsOrdered}
use Rattle.apx_split.specs.Kept.{AreOnce}
use Rattle.apx_split.proofs.Merged.{carried-once}
use Rattle.apx_tuple.specs.declared.progress.Progress.{Progress}
use Rattle.apx_blocks.specs.Carried.{AreCuts, parts_after}

-- each operator has a partition in each window
some-parts : (role : Role) (n : ℕ) → IsForce role n → 1 ≤ n
unfolding HasParts
some-parts (Input kind file per_window) n f = let one : n ≡ 1 = f.0 in omega arith
some-parts (Inner kind) n f = f.0
some-parts Sink n f = let one : n ≡ 1 = f.0 in omega arith

pub forces : (job : Job) → IsJob job → IsGraph job.flow.nodes → (o w : ℕ) → o < length job.flow.nodes → (1 ≤ in_force job o w) × (in_force job o w ≤ 8)
forces job accepted graph o w there =
    let f = in-force job accepted graph o w there in
    (some-parts (node_at job.flow.nodes o).role (in_force job o w) f, f.1)

-- cuts to as many as there are
pub cuts-are : (parts : List Progress) (whole : Progress) (n : ℕ) → AreCuts parts whole → length parts ≡ n → parts ≡ of_parts n (λ i. cut_progress n i whole)
cuts-are parts whole n cuts e = subst (λ (k : ℕ). parts ≡ of_parts k (λ i. cut_progress k i whole)) e cuts.are

pub cuts-once : (parts : List Progress) (whole : Progress) → IsOrdered whole → AreCuts parts whole → AreOnce (merge_progress parts).state
cuts-once parts whole ordered cuts =
    subst (λ (ps : List Progress). AreOnce (merge_progress ps).state) (sym cuts.are) (carried-once (length parts) cuts.some whole ordered)

at-first : AreCuts (at_start ∷ []) at_start
at-first = record { some = omega arith; are = refl }

-- what the partitions carry from a window on are cuts of what the operator carries
pub cuts-after : (job : Job) → IsJob job → IsGraph job.flow.nodes → (w o : ℕ) → o < length job.flow.nodes → AreCuts (parts_after job w o) (progress_after job.flow w o)
unfolding parts_after progress_after
cuts-after job accepted graph zero o there = at-first
cuts-after job accepted graph (suc v) o there =
    let n = in_force job o (suc v) in
    let long : length (parts_after job (suc v) o) ≡ n = length-map-range_with_len (λ i. cut_progress n i (progress_after job.flow (suc v) o)) 0 n in
    let least = (forces job accepted graph o (suc v) there).0 in
    record {
      some = omega (arith, long, least);
      are = subst (λ (k : ℕ). parts_after job (suc v) o ≡ of_parts k (λ i. cut_progress k i (progress_after job.flow (suc v) o))) (sym long) refl;
    }

-- at the start nothing is carried, in one part
pub nothing-carried : (job : Job) (o : ℕ) (before parts : List Progress) (first : Progress) → first ≡ at_start → before ≡ [] → parts ≡ before ++ first ∷ [] → parts ≡ parts_after job 0 o
unfolding parts_after
nothing-carried job o before parts first f b p = p ∙ (λ j. b j ++ f j ∷ [])

-- what the partitions carry on from a window is what its partitions carry then
pub after-is : (job : Job) (w o : ℕ) → 1 ≤ w → of_parts (in_force job o w) (λ i. part_progress job.flow (in_force job o w) i w o) ≡ parts_after job w o
unfolding parts_after
after-is job zero o low = absurd (omega arith)
after-is job (suc v) o low = refl

-- so are those that come into the next window
pub cuts-into : (job : Job) → IsJob job → IsGraph job.flow.nodes → (w o : ℕ) → o < length job.flow.nodes → (parts : List Progress) → parts ≡ parts_after job w o → AreCuts parts (progress_after job.flow w o)
cuts-into job accepted graph w o there parts e = subst (λ (ps : List Progress). AreCuts ps (progress_after job.flow w o)) (sym e) (cuts-after job accepted graph w o there)
