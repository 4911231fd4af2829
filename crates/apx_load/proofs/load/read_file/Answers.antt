use Rattle.std.proofs.Common.{[], ◌∷◌, inl, refl, ap}
use Rattle.std.specs.Prelude.{Ok, Err}
use Rattle.apx_device.specs.Folder.{answer_of}
use Rattle.apx_load.proofs.Stopping.{read_stop}
use Rattle.apx_load.proofs.load.read_file.Goals as goal

pub returns-in-Ok-clause-heard : goal.returns-in-Ok-clause-heard
returns-in-Ok-clause-heard g c = (
  answer_of c.args.name.now c.args.limit (Ok c.in-Ok.bytes) ∷ [],
  c.in-Ok.ensures.heard,
  (λ t. (c.in-Ok.ensures.answer t, tt)),
  (refl, (inl refl, c.in-Ok.ensures.within)),
)

pub returns-in-Err-clause-heard : goal.returns-in-Err-clause-heard
returns-in-Err-clause-heard g c = (
  answer_of c.args.name.now c.args.limit (Err c.in-Err.refusal) ∷ [],
  c.in-Err.ensures.heard,
  (λ t. (c.in-Err.ensures.answer t, tt)),
  (refl, read_stop c.args.name.now c.args.limit c.in-Err.refusal _ _ c.unread.ensures (λ e. c.in-Err.ensures.cause.rose (ap Err e))),
)
