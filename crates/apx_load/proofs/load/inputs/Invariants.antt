use Rattle.std.proofs.Common.{◌≡◌, ◌≤◌, length, take}
use Rattle.apx_pass.specs.Pass.{inputs_before}
use Rattle.apx_load.specs.Hearing.{HasHeard}
use Rattle.apx_load.specs.Refusals.{by_answers, AreInputs}
use Rattle.apx_load.proofs.load.inputs.Given as goal

abbrev pub invariant-loop-operator : goal.invariant-loop-operator
invariant-loop-operator g l = record {
  told : g.F.Folder.told l.files ≡ g.F.Folder.told l.fn.files;
  later : g.F.Folder.faults l.fn.files ≤ g.F.Folder.faults l.files;
  so_far : HasHeard g.F.Folder.tells (g.F.Folder.told l.fn.files) (g.F.Folder.heard l.fn.files) (g.F.Folder.heard l.files) (λ answers. AreInputs (by_answers answers) (take l.operator l.dag) l.inputs.items);
  count : length l.inputs.items ≡ inputs_before l.dag l.operator;
}
