use Rattle.std.proofs.Common.{◌≡◌, ◌++◌, List, ℕ, rules, ap, ◌∙◌}
use Rattle.apx_device.specs.declared.vault.SaveId.{SaveId}
use Rattle.apx_vaultlog.specs.Changes.{put_front, changed}
use Rattle.apx_vaultlog.proofs.Bodies.{put_back}
use Rattle.apx_vaultlog.proofs.body.front_of_put.Goals as goal

pub returns-clause-change : goal.returns-clause-change
returns-clause-change c = λ bytes entries.
    let id : SaveId = record { op = c.args.op; boundary = c.args.boundary; part = c.args.part; window = c.args.window } in
    let spelled : c.extend_from_slice-3.new.self.items ≡ put_front id = search rules in
    ap (λ (front : List ℕ). changed (front ++ bytes) entries) spelled
    ∙ put_back id bytes entries c.ranges.op.fits c.ranges.boundary.fits c.ranges.window.fits
