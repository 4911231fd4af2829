use Rattle.apx_promise.proofs.Storing.{stores}
use Rattle.apx_promise.proofs.windows_are_stored_in_order.Goals as goal

pub returns : goal.returns
returns c = stores
