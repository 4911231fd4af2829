-- A core may go to another thread where its devices, its spools and its name may: what a lock of it asks for.
use denote.RattleType.{RattleType}
use denote.Param.Send.{IsSend, sendable}
use denote.Param.SendFields.{variants_send}
use Rattle.std.proofs.Crossing.{crosses}
use Rattle.apx_tuple.proofs.progress.Progress.TheSendSync as progress
use Rattle.apx_list.proofs.block.Block.TheSendSync as block
use Rattle.apx_list.proofs.block.Marks.TheSendSync as marks
use Rattle.apx_list.proofs.kept.Fetched.TheSendSync as fetched
use Rattle.apx_held.proofs.held.Unnamed.TheSendSync as unnamed
use Rattle.apx_job.proofs.job.Job.TheSendSync as job
use Rattle.apx_stores.proofs.stores.Stores.TheSendSync as stores
use Rattle.apx_list.specs.contracts.kept.Kept as Kept
use Rattle.apx_list.specs.contracts.list.DataList as DataList
use Rattle.apx_held.specs.contracts.held.Held as Held
use Rattle.apx_held.specs.contracts.group.Group as Group
use Rattle.apx_held.specs.contracts.contents.Contents as Contents
use Rattle.apx_core.specs.contracts.cores.Core as Core
use Rattle.apx_crew.specs.contracts.crew.Crew as Crew

-- a block of a list, in memory or spilled
kept_send : IsSend Kept.the_row
kept_send = variants_send Kept.enum ((block.the_send, tt), ((marks.the_send, (search (sendable, crosses), tt)), tt))

-- a list over its spool, and what is kept for partitions
list_send : (S N F : RattleType) (a : _) (b : _) (c : _) → IsSend S → IsSend N → IsSend (DataList.the_row S N F a b c)
list_send S N F a b c s n = search (sendable, crosses, kept_send, fetched.the_send) depth 40 fits 5000

held_send : (S F : RattleType) (a : _) (b : _) → IsSend S → IsSend (Held.the_row S F a b)
held_send S F a b s = search (sendable, crosses, list_send, progress.the_send, unnamed.the_send) depth 40 fits 5000

group_send : (S F : RattleType) (a : _) (b : _) → IsSend S → IsSend (Group.the_row S F a b)
group_send S F a b s = search (sendable, crosses, held_send) depth 40 fits 5000

contents_send : (S F : RattleType) (a : _) (b : _) → IsSend S → IsSend (Contents.the_row S F a b)
contents_send S F a b s = search (sendable, crosses, group_send) depth 40 fits 5000

-- the core, and the crew
module _ (K V P J S F : RattleType) (k : _) (v : _) (p : _) (j : _) (s : _) (f : _) where
  core_send : IsSend K → IsSend V → IsSend P → IsSend J → IsSend S → IsSend F → IsSend (Core.the_row K V P J S F k v p j s f)
  core_send sk sv sp sj ss sf = search (sendable, crosses, contents_send, stores.the_send, job.the_send, job.the_sync) depth 40 fits 5000

  pub crew_send : IsSend K → IsSend V → IsSend P → IsSend J → IsSend S → IsSend F → IsSend (Crew.the_row K V P J S F k v p j s f)
  crew_send sk sv sp sj ss sf = let it = core_send sk sv sp sj ss sf in search sendable depth 40 fits 5000
