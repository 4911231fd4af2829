use Rattle.apx_promise.proofs.Keeping.{saved-stays, no-more-stays, saved-at-first, last-at-end}
use Rattle.apx_promise.proofs.Listing.{last-is-the-list}
use Rattle.apx_promise.proofs.stores_keep_checkpoints.Goals as goal

pub returns-clause-saved : goal.returns-clause-saved
returns-clause-saved c = saved-stays

pub returns-clause-no_more : goal.returns-clause-no_more
returns-clause-no_more c = no-more-stays

pub returns-clause-first : goal.returns-clause-first
returns-clause-first c = saved-at-first

pub returns-clause-last : goal.returns-clause-last
returns-clause-last c = last-at-end

pub returns-clause-list : goal.returns-clause-list
returns-clause-list c = last-is-the-list
