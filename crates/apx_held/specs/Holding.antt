-- What a core keeps for each partition: its progress, and its list of blocks. Operators and partitions count from 0.
--     holding hs o i         what is kept for partition i of operator o
--     put_holding hs o i h   the same with h kept for it
--     with_blocks list bs    a list with more blocks
--     AreNext list bs        they may be appended
--     without to list        a list without the blocks of the windows up to one
use Rattle.std.specs.Prelude.{◌≡◌, ℕ, ◌+◌, ◌<◌, List, [], ◌∷◌, length, get_or, set, drop, Option, None, Some, IfSome}
use Rattle.apx_tuple.specs.declared.progress.Progress.{Progress}
use Rattle.apx_list.specs.declared.block.Block.{Block}
use Rattle.apx_list.specs.declared.plan.CutPlan.{CutPlan}
use Rattle.apx_list.specs.Listed.{Listed, before, IsNext, with_block}
use Rattle.apx_statebytes.specs.Spelling.{second_spelling, IsProgress}
use Rattle.apx_held.specs.declared.held.Unnamed.{Unnamed}

-- what is kept for a partition
pub record Holding : Type 0 where
  -- what it carries to its next window, unless a claim has it
  pub state : Option Progress
  -- its blocks
  pub list : Listed Unnamed

-- an empty list whose first window is the one after `from`
abbrev pub empty_list : CutPlan → ℕ → Listed Unnamed
empty_list plan from = record { name = record {}; plan = plan; floor = from; top = from; first = 0; blocks = [] }

-- what is kept for a partition that isn't there
abbrev pub no_holding : Holding
no_holding = record { state = None; list = empty_list (record { base = 0; every = 0; windows = 0; size = 0 }) 0 }

-- what is kept for partition i of operator o
abbrev pub holding : List (List Holding) → ℕ → ℕ → Holding
holding hs o i = get_or (get_or hs o []) i no_holding

-- the same with h kept for it
abbrev pub put_holding : List (List Holding) → ℕ → ℕ → Holding → List (List Holding)
put_holding hs o i h = set hs o (set (get_or hs o []) i h)

-- something is kept for partition i of operator o
abbrev pub IsHeld : List (List Holding) → ℕ → ℕ → Type 0
IsHeld hs o i = (o < length hs) × (i < length (get_or hs o []))

-- a list with more blocks
abbrev pub with_blocks : {N : Type 0} → Listed N → List Block → Listed N
with_blocks list [] = list
with_blocks list (block ∷ blocks) = with_blocks (with_block list block) blocks

-- a list without the blocks of the windows up to one
abbrev pub without : {N : Type 0} → ℕ → Listed N → Listed N
without to list = record list {
  floor = to;
  first = list.first + before (to + 1) list.blocks;
  blocks = drop (before (to + 1) list.blocks) list.blocks;
}

-- what is kept once the progress was taken out
abbrev pub taken : Holding → Holding
taken h = record h { state = None }

-- what is kept once the next progress has come, with blocks
abbrev pub brought : Progress → List Block → Holding → Holding
brought progress blocks h = record { state = Some progress; list = with_blocks h.list blocks }

-- what is kept once the blocks of the windows up to one were dropped
abbrev pub dropped : ℕ → Holding → Holding
dropped to h = record h { list = without to h.list }

-- the bytes spell the progress, which isn't large
abbrev pub IsSpelled : Holding → List ℕ → Type 0
IsSpelled h bytes = IfSome h.state (λ g. (bytes ≡ second_spelling g) × IsProgress g)

-- no list tells its blocks by its name
abbrev pub untold : Unnamed → Option (List Block)
untold name = None

-- the blocks may be appended, one behind the other
abbrev pub AreNext : Listed Unnamed → List Block → Type 0
AreNext list [] = Unit {0}
AreNext list (block ∷ blocks) = IsNext untold list block × AreNext (with_block list block) blocks
