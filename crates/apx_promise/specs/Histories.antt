-- What is promised of each history of a plan, over a store that began with s windows, from window c on.
--     StoresInOrder plan s c es       the windows are stored one after the other, each once
--     FindsWhatItReads plan s c es    no block that may be read again is dropped
--     EndsWhatItBegan plan s c es     whoever ends a window has begun it
--     GoesOn plan s c es              a run that hasn't stopped has a choice, and each choice makes a longer history
--     IsDone plan s c es              what a run that has ended has done
use Rattle.std.specs.Prelude.{◌≡◌, ℕ, ◌+◌, ◌-◌, ◌<◌, ◌≤◌, ◌⊎◌, Bool, true, false, cond, not, ◌&&◌, ◌==◌, List, [], ◌∷◌, ◌++◌, length, Option, None, Some}
use Rattle.std.specs.List.{list_any, filter_map, range_with_len}
use Rattle.apx_history.specs.declared.Entry.{Entry}
use Rattle.apx_history.specs.declared.Event.{Event}
use Rattle.apx_history.specs.declared.Event.TheVariants.{Start, Write, Finish, Kill, Repartition, End, Fault}
use Rattle.apx_history.specs.declared.Act.{Act}
use Rattle.apx_history.specs.Plan.{Plan, line, reads, splits, kills}
use Rattle.apx_history.specs.State.{Slot, State, slot, IsPart, running}
use Rattle.apx_history.specs.Journals.{beginning, after}
use Rattle.apx_history.specs.Choices.{choices, Among}
use Rattle.apx_history.specs.Kept.{IsNeeded}
use Rattle.apx_history.specs.Laws.{IsHistory, IsAtEnd, closes}
use Rattle.apx_course.specs.Course.{entry}

-- the state after the entries
abbrev pub state_after : Plan → ℕ → ℕ → List Entry → State
state_after plan s c es = after plan (beginning plan s c) es

-- ---- what is stored

-- the window that an event stores, if it stores one
abbrev pub stored_by : Event → Option ℕ
stored_by (Write w) = Some w
stored_by e = None

-- the windows that the entries store, in order
abbrev pub windows_stored : List Entry → List ℕ
windows_stored es = filter_map (λ e. stored_by e.event) es

-- The windows are stored one after the other, each once: those behind the first s, up to the last one.
pub record StoresInOrder (plan : Plan) (s c : ℕ) (es : List Entry) : Type 0 where
  -- no window is passed over, and none comes again
  pub in_order : windows_stored es ≡ range_with_len (s + 1) (length (windows_stored es))
  -- the last one is the last in the store
  pub up_to : (state_after plan s c es).stored ≡ s + length (windows_stored es)

-- ---- what is read

-- the list of the partition has the blocks of window w
abbrev pub HoldsWindow : Slot → ℕ → Type 0
HoldsWindow x w = (x.floor < w) × (w ≤ x.at)

-- Whatever is read is there: no block that may be read again is dropped.
pub record FindsWhatItReads (plan : Plan) (s c : ℕ) (es : List Entry) : Type 0 where
  -- after each front of the history each partition has each window that some reader may go back to before
  pub needed : (front rest : List Entry) → es ≡ front ++ rest → (o i w : ℕ) →
      IsPart (state_after plan s c front) o i → IsNeeded plan (state_after plan s c front) o i w →
      HoldsWindow (slot (state_after plan s c front) o i) w
  -- where a partition begins a window, all that it reads have that window
  pub begun : (front rest : List Entry) (worker o i w : ℕ) → es ≡ front ++ entry worker (Start o i w) ∷ rest → (q j : ℕ) →
      reads plan o q ≡ true → IsPart (state_after plan s c front) q j →
      HoldsWindow (slot (state_after plan s c front) q j) w

-- ---- who did it

-- A partition began a window by a worker, among the entries, and nothing has closed it since.
pub record WasBegun (plan : Plan) (es : List Entry) (o i w worker : ℕ) : Type 0 where
  -- what happened before
  pub before : List Entry
  -- what happened since
  pub since : List Entry
  -- the window was begun in between
  pub began : es ≡ before ++ entry worker (Start o i w) ∷ since
  -- no entry since finishes or kills the partition
  pub stayed : list_any (λ e. closes plan o i e.event) since ≡ false

-- Whoever stores, finishes or kills what a partition has open has begun it.
pub record EndsWhatItBegan (plan : Plan) (s c : ℕ) (es : List Entry) : Type 0 where
  -- what is stored was begun by the sink
  pub stored : (front rest : List Entry) (worker w : ℕ) → es ≡ front ++ entry worker (Write w) ∷ rest →
      WasBegun plan front plan.sink 0 w worker
  -- what is finished was begun
  pub finished : (front rest : List Entry) (worker o i w : ℕ) → es ≡ front ++ entry worker (Finish o i w) ∷ rest →
      WasBegun plan front o i w worker
  -- what a killed partition has open was begun
  pub killed : (front rest : List Entry) (worker o i w u l : ℕ) → es ≡ front ++ entry worker (Kill l) ∷ rest →
      kills o i (line plan l) ≡ true → (slot (state_after plan s c front) o i).opened ≡ Some (w, u) →
      WasBegun plan front o i w worker

-- ---- how a run goes on

-- a run stops with the event: it is the end or a fault
abbrev pub stops : Event → Bool
stops End = true
stops (Fault status) = true
stops e = false

-- the last entry has this event
pub record EndsWith (e : Event) (es : List Entry) : Type 0 where
  -- those before it
  pub front : List Entry
  -- the worker who did it
  pub worker : ℕ
  -- it is the last one
  pub is : es ≡ front ++ entry worker e ∷ []

-- A run that hasn't stopped goes on, and one that goes on no more has ended or met a fault.
pub record GoesOn (plan : Plan) (s c : ℕ) (es : List Entry) : Type 0 where
  -- the end and a fault stand at the last place alone
  pub last : (front rest : List Entry) (e : Entry) → es ≡ front ++ e ∷ rest → stops e.event ≡ true → rest ≡ []
  -- a run that goes on no more has ended without a fault, or with the fault that it stopped with
  pub over : running (state_after plan s c es) ≡ false →
      (EndsWith End es × ((state_after plan s c es).fault ≡ None))
      ⊎ ((status : ℕ) × EndsWith (Fault status) es × ((state_after plan s c es).fault ≡ Some status))
  -- where neither is there, there is a choice
  pub choice : list_any (λ e. stops e.event) es ≡ false → 0 < length (choices plan (state_after plan s c es))
  -- each choice makes a longer history by some worker
  pub next : (e : Event) → Among e (choices plan (state_after plan s c es)) →
      (worker : ℕ) × IsHistory plan s c (es ++ entry worker e ∷ [])

-- ---- the end

-- how many of the entries have an event that passes
abbrev pub times : (Event → Bool) → List Entry → ℕ
times p [] = 0
times p (e ∷ es) = cond (p e.event) 1 0 + times p es

-- the event performs a line with this number and this act: a Repartition where the act repartitions, else a Kill
abbrev pub performs : Act → ℕ → Event → Bool
performs act l (Kill k) = not (splits act) && k == l
performs act l (Repartition k) = splits act && k == l
performs act l e = false

-- What a run that has ended has done.
pub record IsDone (plan : Plan) (s c : ℕ) (es : List Entry) : Type 0 where
  -- each window is stored, the last checkpoint is committed, and no line of the script is met twice
  pub at_end : IsAtEnd plan (state_after plan s c es) es
  -- each window behind those that the store began with was stored once
  pub windows : windows_stored es ≡ range_with_len (s + 1) (plan.windows - s)
  -- each line was performed once, by its own event
  pub lines : (l : ℕ) → l < length plan.lines → times (performs (line plan l).act l) es ≡ 1
