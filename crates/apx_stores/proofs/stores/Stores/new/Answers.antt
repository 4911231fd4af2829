use Rattle.apx_stores.proofs.Wholes.{whole_new}
use Rattle.apx_stores.proofs.Crashing.{durable_exact}
use Rattle.apx_stores.proofs.stores.Stores.new.Goals as goal

pub invariant_of-result : goal.invariant_of-result
invariant_of-result g c = (
  c.requires.tells,
  whole_new g.J.Naming.run _ _ _ _ _ _ _ _ _ c.requires.none c.requires.last c.requires.rows c.requires.keeper c.requires.vault c.requires.spools
      c.requires.is_sound c.requires.is_vault_sound,
  durable_exact g.J.Naming.run g.K.Keeper.tells _ (g.K.Keeper.left c.args.devices.keeper (g.K.Keeper.time c.args.devices.keeper))
      (g.K.Keeper.stored c.args.devices.keeper) c.facts.ensures.kept.stored c.requires.rows
      (λ t x h. g.met.K.Keeper.settled c.args.devices.keeper x t c.requires.is_sound h),
)
