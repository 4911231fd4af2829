-- What could come next of each row of events.
use Rattle.std.specs.Prelude.{ℕ, ◌+◌, List, unwrap_or}
use Rattle.std.specs.List.{filter}
use Rattle.apx_history.specs.declared.Event.{Event}
use Rattle.apx_history.specs.declared.Event.TheVariants.{Start, Finish, Save, Advance, Purge, Kill, Repartition}
use Rattle.apx_history.specs.Plan.{Plan}
use Rattle.apx_history.specs.State.{State, parts, slot, open_window}
use Rattle.apx_history.specs.Enabled.{advance_to, can}
use Rattle.apx_history.specs.Choices.{purge_to, list_below, list_slots, lines_met}
use Rattle.apx_machine.specs.declared.listing.Row.{Row}
use Rattle.apx_machine.specs.declared.listing.Row.TheVariants as row
use Rattle.apx_machine.specs.declared.listing.Met.{Met}
use Rattle.apx_machine.specs.declared.listing.Met.TheVariants as met

-- the event of a row that partition i of operator o could have next
abbrev pub candidate : Plan → State → Row → ℕ → ℕ → Event
candidate plan m row.Start o i = Start o i ((slot m o i).at + 1)
candidate plan m row.Finish o i = Finish o i (unwrap_or (open_window (slot m o i).opened) 0)
candidate plan m row.Save o i = Save o i (slot m o i).at
candidate plan m row.Advance o i = Advance o i (advance_to plan m o i)
candidate plan m row.Purge o i = Purge o i (purge_to plan m o i)

-- the event that line l could have next
abbrev pub of_line : Met → ℕ → Event
of_line met.Kill l = Kill l
of_line met.Repartition l = Repartition l

-- those of a row that operator o's partitions may have next
abbrev pub of_op : Plan → State → Row → ℕ → List Event
of_op plan m r o = filter (can plan m) (list_below (parts m o) (candidate plan m r o))

-- those of a row that all partitions may have next
abbrev pub of_row : Plan → State → Row → List Event
of_row plan m r = filter (can plan m) (list_slots m (candidate plan m r))

-- those of a row that the lines may have next
abbrev pub of_lines : Plan → State → Met → List Event
of_lines plan m r = filter (can plan m) (lines_met m (of_line r))
