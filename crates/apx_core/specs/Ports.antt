-- The ports of an operator, and what is lent to one.
use Rattle.std.specs.Prelude.{◌≡◌, ℕ, ◌<◌, ◌≤◌, Bool, true, false, not, List, [], length, get_or, ⊤}
use Rattle.apx_tuple.specs.Kind.{has_right}
use Rattle.apx_list.specs.declared.block.Block.{Block}
use Rattle.apx_list.specs.declared.plan.CutPlan.{CutPlan}
use Rattle.apx_pass.specs.Graph.{Role, Input, Inner, Sink, is_input}
use Rattle.apx_held.specs.Holding.{Holding, holding}
use Rattle.apx_held.specs.Lent.{AreLent, CanLend}
use Rattle.apx_course.specs.declared.faults.CoreFault.{CoreFault}
use Rattle.apx_course.specs.declared.faults.CoreFault.TheVariants.{Spool, Block as Damaged, Memory}
use Rattle.apx_stores.specs.Caused.{IsNoBlock}

-- there is a left port: an input alone has none
abbrev pub reads_left : Role → Bool
reads_left role = not (is_input role)

-- there is a right port
abbrev pub reads_right : Role → Bool
reads_right (Input kind file per_window) = false
reads_right (Inner kind) = has_right kind
reads_right Sink = false

-- each partition of operator s can lend a window's blocks, which are cut as the plan says
pub record CanLendAll (plan : CutPlan) (hs : List (List Holding)) (s w : ℕ) : Type 0 where
  -- the operator is there
  pub there : s < length hs
  -- its partitions are few
  pub few : length (get_or hs s []) ≤ 8
  -- each can lend
  pub windows : (i : ℕ) → i < length (get_or hs s []) → CanLend w (holding hs s i).list
  -- its windows are cut so
  pub cuts : (i : ℕ) → i < length (get_or hs s []) → (holding hs s i).list.plan ≡ plan

-- a port that is there is lent the blocks of the partitions of a source, and another none
abbrev pub IsPort : Bool → Bool → ℕ → List Holding → List (List Block) → Type 0
IsPort tells true w group lists = AreLent tells w group lists
IsPort tells false w group lists = lists ≡ []

-- why no blocks are lent: a spool failed, or gave bytes that spell no block, which one that tells doesn't, or memory is wanting
abbrev pub IsUnlentBy : {F : Type 0} → CutPlan → Bool → CoreFault F → Type 0
IsUnlentBy plan tells (Spool fault) = ⊤
IsUnlentBy plan tells (Damaged op part number window index last bytes) =
    IsNoBlock tells plan (record { window = window; index = index; last = last; bytes = bytes.items })
IsUnlentBy plan tells Memory = ⊤
IsUnlentBy plan tells why = ⊥

-- why the blocks of a window don't come to a list and its spool: the spool failed, or memory is wanting
abbrev pub IsUnbrought : {F : Type 0} → CoreFault F → Type 0
IsUnbrought (Spool fault) = ⊤
IsUnbrought Memory = ⊤
IsUnbrought why = ⊥
