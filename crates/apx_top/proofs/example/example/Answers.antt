use Rattle.std.proofs.Common.{refl, ap, arith, Some}
use Rattle.apx_cause.specs.Cause.{Rose}
use Rattle.apx_device.specs.MemoryFolder.{file_of}
use Rattle.apx_script.specs.declared.settings.Settings.{Settings}
use Rattle.apx_top.proofs.Exampled.{exampled_by}
use Rattle.apx_top.proofs.example.example.Goals as goal

pub returns : goal.returns
returns c =
    let h = c.job.ensures.heard in
    exampled_by c.args.number c.args.size (file_of c.in_ok-files.files) c.in_ok-files.ensures (c.examples_are_accepted.ensures c.args.number c.args.size c.requires.least c.requires.most)
    h.0 (h.2 refl) (Rose 0 0) (λ rose. omega (arith, rose)) _ _ _ refl (ap Some c.in_ok-script.ensures) (ap (λ (s : Settings). record s { every = 4 }) c.default.ensures) c.job.result h.3
