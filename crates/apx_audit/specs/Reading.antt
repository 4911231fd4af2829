-- The entry that a line spells, read from its front on.
--
-- A line is read as an entry exactly where it is the entry's text (`entry_is` and `entry_again` of `proofs/Lines.antt`).
use Rattle.std.specs.Prelude.{ℕ, ◌==◌, ◌&&◌, nat_lt, not, Bool, cond, List, length, get_or, Option, Some, None, codes, if◌then◌else◌}
use Rattle.std.specs.Option.{option_map, option_and_then}
use Rattle.std.specs.Str.{bytes_eq}
use Rattle.apx_decimal.specs.Decimal.{number_up_to}
use Rattle.apx_history.specs.declared.Entry.{Entry}
use Rattle.apx_history.specs.declared.Event.{Event}
use Rattle.apx_history.specs.declared.Event.TheVariants.{Start, Write, Finish, Save, Advance, Commit, Purge, Kill, Repartition, End, Fault}
use Rattle.apx_pass.specs.Script.{at_space, after_word}

-- a digit stands behind a zero
abbrev pub has_leading_zero : List ℕ → Bool
has_leading_zero digits = nat_lt 1 (length digits) && get_or digits 0 0 == 48

-- the number that digits without a leading zero write, where it is no more than the limit
unfoldable pub number_of : ℕ → List ℕ → Option ℕ
number_of limit digits = cond (has_leading_zero digits) None (number_up_to limit digits)

-- a partition, by its operator and its number there, and a window
unfoldable pub place_of : List ℕ → Option (ℕ × ℕ × ℕ)
place_of =
    after_word (number_of 65535) (λ o.
    after_word (number_of 255) (λ i text. option_map (λ w. (o, i, w)) (number_of 4294967295 text)))

-- the event with this name of a partition and a window
abbrev pub event_at : List ℕ → ℕ × ℕ × ℕ → Option Event
event_at name p =
    if bytes_eq name (codes "start") then Some (Start p.0 p.1 p.2) else
    if bytes_eq name (codes "finish") then Some (Finish p.0 p.1 p.2) else
    if bytes_eq name (codes "save") then Some (Save p.0 p.1 p.2) else
    if bytes_eq name (codes "advance") then Some (Advance p.0 p.1 p.2) else
    if bytes_eq name (codes "purge") then Some (Purge p.0 p.1 p.2) else None

-- the event with this name of a window, a line of the script or a status
abbrev pub event_with : List ℕ → ℕ → Option Event
event_with name n =
    if bytes_eq name (codes "write") then Some (Write n) else
    if bytes_eq name (codes "commit") then Some (Commit n) else
    if bytes_eq name (codes "kill") then Some (Kill n) else
    if bytes_eq name (codes "repartition") then Some (Repartition n) else
    if bytes_eq name (codes "fault") && nat_lt n 256 then Some (Fault n) else None

-- the event with this name, whose numbers are a partition and a window, or one number
abbrev pub event_by : List ℕ → Option (ℕ × ℕ × ℕ) → Option ℕ → Option Event
event_by name (Some p) number = event_at name p
event_by name None number = option_and_then (event_with name) number

-- the event of a name and the text of its numbers
abbrev pub named_event : List ℕ × List ℕ → Option Event
named_event parts = event_by parts.0 (place_of parts.1) (number_of 4294967295 parts.1)

-- an event: its name and its numbers
unfoldable pub event_of : List ℕ → Option Event
event_of text = if bytes_eq text (codes "end") then Some End else option_and_then named_event (at_space text)

-- an entry: its worker and its event
unfoldable pub entry_of : List ℕ → Option Entry
entry_of =
    after_word (number_of 255) (λ worker text. option_map (λ (event : Event). record { worker = worker; event = event }) (event_of text))
