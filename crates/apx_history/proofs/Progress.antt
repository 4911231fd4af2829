-- While a run goes on, some event may come next that is no fault.
use Rattle.std.proofs.Common.{◌≡◌, ℕ, zero, suc, ◌+◌, ◌*◌, ◌-◌, ◌<◌, ◌≤◌, ◌⊎◌, inl, inr, min, Bool, true, false, cond, not, ◌&&◌, ◌||◌, ◌==◌, nat_lt, nat_le, List, [], ◌∷◌, length, refl, sym, ap, subst, ◌∙◌, arith, Option, None, Some, is_none}
use Rattle.std.proofs.lemmas.Bool.{leb-true, leb-false, le-leb}
use Rattle.std.proofs.lemmas.Bool.Decides.{nat_tests}
use Rattle.apx_history.specs.declared.Event.{Event}
use Rattle.apx_history.specs.declared.Event.TheVariants.{Start, Write, Finish, Save, Advance, Commit, Purge, Kill, Repartition, End, Fault}
use Rattle.apx_history.specs.Plan.{Point, Done, Act, Fails, Splits, Plan, has, line, reads, below, is_checkpoint, last_checkpoint, splits, splits_op, fails_part, kills}
use Rattle.apx_history.specs.State.{Slot, State, oper, parts, slot, IsPart, is_left, open_window, lowest_slot}
use Rattle.apx_history.specs.Enabled.{limit, due, in_tree, advance_to, least_rc, readers_reach, greatest}
use Rattle.apx_history.specs.Conditions.{IsCalm, CanStart, CanKill, CanAdvance, CanCommit, Enabled}
use Rattle.apx_history.specs.Choices.{IsListed}
use Rattle.apx_history.specs.Kept.{IsAct, IsPlan, Sound, IsAhead, ActAhead, Kept}
use Rattle.apx_history.proofs.Tests.{both, test, alike, one_of, not_true, is_not, least-le, least-is, least-by, greatest-above}
use Rattle.apx_history.proofs.Conditions.{all_true, equal_at, equal_by, none_at, none_by, readers_by}
use Rattle.apx_history.proofs.Lines.{flag_there, limit-start, limit-le, limit-is}
use Rattle.apx_history.proofs.Frames.{line_there, op_there, some_part, sink_part, sink_at, named_part, due_of, is_done}
use Rattle.apx_history.proofs.Finding.{some_below, some_slot, rank, rank_least, rank_below, last_is, last_le, last_near, last_most}

-- some event may come next that the list of choices has
abbrev pub GoesOn : Plan → State → Type 0
GoesOn plan m = (e : Event) × Enabled plan m e × IsListed plan m e

clash : {b : Bool} → b ≡ true → b ≡ false → ⊥
clash h k = let e : true ≡ false = sym h ∙ k in cc

window_of : (x : Option (ℕ × ℕ)) → not (is_none x) ≡ true → (w : ℕ) × (open_window x ≡ Some w)
window_of None h = cc
window_of (Some o) h = (o.0, refl)

module _ (plan : Plan) (is : IsPlan plan) (m : State) (kept : Kept plan m) where
  abbrev AllClosed : Type 0
  AllClosed = (o i : ℕ) → IsPart m o i → (slot m o i).opened ≡ None

  abbrev NoneDue : Type 0
  NoneDue = (l : ℕ) → l < length plan.lines → due plan m l ≡ true → ⊥

  abbrev AllSaved : Type 0
  AllSaved = (o i : ℕ) → IsPart m o i → is_checkpoint plan (slot m o i).at ≡ true → has (slot m o i).saved (slot m o i).at ≡ true

  -- ---- a partition that is open can be finished, written or killed

  finish_or_write : (o i w : ℕ) → IsPart m o i → open_window (slot m o i).opened ≡ Some w → IsCalm plan m o i → GoesOn plan m
  finish_or_write o i w r e calm = elim (alike o plan.sink) [
    | inr h ↦ (Finish o i w, record { part = r; opened = e; stored = λ f. absurd (h f); calm = calm }, tt)
    | inl h ↦ elim (test (nat_le w m.stored)) [
      | inl s ↦ (Finish o i w, record { part = r; opened = e; stored = λ f. leb-true w m.stored s; calm = calm }, tt)
      | inr s ↦
          (let z : i ≡ 0 = sink_part plan is m kept i (subst (λ (p : ℕ). IsPart m p i) h r) in
          let next : w ≡ m.stored + 1 = (let a = ((kept.each o i r).opened w e).0 in let b = sink_at plan is m kept o i h r in let c = leb-false w m.stored s in omega arith) in (
            Write w,
            record {
              part = subst (λ (j : ℕ). IsPart m plan.sink j) z (subst (λ (p : ℕ). IsPart m p i) h r);
              opened = subst (λ (j : ℕ). open_window (slot m plan.sink j).opened ≡ Some w) z (subst (λ (p : ℕ). open_window (slot m p i).opened ≡ Some w) h e);
              next = next;
              calm = subst (λ (j : ℕ). IsCalm plan m plan.sink j) z (subst (λ (p : ℕ). IsCalm plan m p i) h calm);
            },
            tt,
          ))
    ]
  ]

  -- the open partition is the last of those that are open
  kill_last : (l o i : ℕ) → due plan m l ≡ true → kills o i (line plan l) ≡ true → ((r j : ℕ) → IsPart m r j → not (is_none (slot m r j).opened) ≡ true → rank plan r ≤ rank plan o) → CanKill plan m l
  unfolding in_tree
  kill_last l o i d k last = record {
    due = d;
    closed = λ r j p t. elim (one_of (kills r j (line plan l)) (below plan (line plan l).op r) t) [
      | inl h ↦ inl h
      | inr h ↦ inr (elim (test (is_none (slot m r j).opened)) [
        | inl c ↦ none_at (slot m r j).opened c
        | inr c ↦ absurd (let e : (line plan l).op ≡ o = equal_at (line plan l).op o (both ((line plan l).op == o) (fails_part i (line plan l).act) k).0 in
            let up = rank_below plan is (line plan l).op r h in let le = last r j p (ap not c) in let f = ap (rank plan) e in omega arith)
      ])
    ];
  }

  when_open : (o i : ℕ) → IsPart m o i → not (is_none (slot m o i).opened) ≡ true → ((r j : ℕ) → IsPart m r j → not (is_none (slot m r j).opened) ≡ true → rank plan r ≤ rank plan o) → GoesOn plan m
  when_open o i r h last = elim (some_below (λ l. due plan m l && kills o i (line plan l)) (length plan.lines)) [
    | inr l ↦ (let d = both (due plan m l.0) (kills o i (line plan l.0)) l.2 in (Kill l.0, kill_last l.0 o i d.0 d.1 last, tt))
    | inl calm ↦ (let w = window_of (slot m o i).opened h in finish_or_write o i w.0 r w.1 (λ l s d k. clash (all_true d k) (calm l s)))
  ]

  -- ---- all are closed

  kill_any : (l : ℕ) → due plan m l ≡ true → AllClosed → CanKill plan m l
  kill_any l d closed = record { due = d; closed = λ o i r t. inr (closed o i r) }

  -- the recovery checkpoints can come to T, or are there
  advance : (T : ℕ) → AllClosed → NoneDue → AllSaved → is_checkpoint plan T ≡ true → m.committed ≤ T → ((o i : ℕ) → IsPart m o i → T ≤ (slot m o i).at) →
      GoesOn plan m ⊎ ((o i : ℕ) → IsPart m o i → T ≤ (slot m o i).rc)
  unfolding advance_to
  advance T closed none saved check low at = elim (some_slot m (λ o i. nat_lt (slot m o i).rc T) (rank plan)) [
    | inl h ↦ inr (λ o i r. not_less (slot m o i).rc T (h o i r))
    | inr h ↦ inl (
        let o = h.0 in
        let i = h.1 in
        let less : (slot m h.0 h.1).rc < T = leb-true (suc (slot m h.0 h.1).rc) T h.3 in
        let s = kept.each h.0 h.1 h.2 in
        let base = s.saved (slot m h.0 h.1).rc s.rc_saved in
        let has' : has (slot m h.0 h.1).saved T ≡ true = elim (alike T (slot m h.0 h.1).at) [
          | inl e ↦ subst (λ (k : ℕ). has (slot m h.0 h.1).saved k ≡ true) (sym e) (saved h.0 h.1 h.2 (subst (λ (k : ℕ). is_checkpoint plan k ≡ true) e check))
          | inr n ↦ s.whole T check low (let a = base.2 in omega arith) (let a = at h.0 h.1 h.2 in omega arith)
        ] in
        let reach : readers_reach plan m h.0 T ≡ true = readers_by plan m h.0 T (λ r j p t.
        not_more T (slot m r j).rc (λ more. (let up = rank_below plan is h.0 r (is.direct r h.0 t) in let le = h.4 r j p (le-leb (suc (slot m r j).rc) T more) in omega arith))) in
        let above = greatest-above (readers_reach plan m h.0) (slot m h.0 h.1).saved T has' reach in
        (Advance h.0 h.1 (advance_to plan m h.0 h.1), record { part = h.2; to = refl; above = omega arith; calm = λ l r d k. none l r d }, tt))
  ]
    where
      not_less : (a b : ℕ) → nat_lt a b ≡ false → b ≤ a
      not_less a b h = let k = leb-false (suc a) b h in omega arith

      not_more : (a b : ℕ) → (b < a → ⊥) → a ≤ b
      not_more a b h = omega (arith, h)

  commit : (T : ℕ) → m.committed < T → T ≤ plan.windows → ((o i : ℕ) → IsPart m o i → T ≤ (slot m o i).rc) → GoesOn plan m
  unfolding least_rc
  commit T up top rc = (Commit (least_rc plan m), record { to = refl; above = (let a = least-by m (λ o i. (slot m o i).rc) plan.windows T top rc in omega arith) }, tt)

  pub sink_slot : IsPart m plan.sink 0
  sink_slot = let a : plan.sink < length m.ops = (let b = is.sink in let c = kept.ops in omega arith) in (a, some_part plan is m kept plan.sink a)

  -- a repartition line that is left, at the window at which all partitions of its operator rest
  repartition : (l : ℕ) → AllClosed → is_left m l ≡ true → splits (line plan l).act ≡ true → (line plan l).window ≡ limit plan m (line plan l).op →
      ((i : ℕ) → IsPart m (line plan l).op i → (line plan l).window ≤ (slot m (line plan l).op i).rc) → GoesOn plan m
  repartition l closed left s e rc = (
    Repartition l,
    record {
      left = left;
      splits = s;
      window = e;
      rests = λ i r.
          let p : IsPart m (line plan l).op i = (op_there plan is m kept l (line_there plan is m kept l left), r) in
          let x = kept.each (line plan l).op i p in
          ((let a = x.rc in let b = x.at in let c = rc i p in omega arith), closed (line plan l).op i p);
    },
    tt,
  )

  -- all partitions are at the end
  at_end : AllClosed → NoneDue → AllSaved → ((o i : ℕ) → IsPart m o i → plan.windows ≤ (slot m o i).at) → GoesOn plan m
  at_end closed none saved at =
      let L : ℕ = last_checkpoint plan plan.windows in
      let low : m.committed ≤ last_checkpoint plan plan.windows = (let s = kept.each plan.sink 0 sink_slot in
      let a = s.committed in let b = last_most plan is plan.windows (slot m plan.sink 0).rc (s.saved (slot m plan.sink 0).rc s.rc_saved).0 (let c = s.rc in let d = s.at in let e = limit-start plan.sink plan.lines m.left plan.windows in omega arith) in omega arith) in
      let top = last_le plan is plan.windows in
      elim (advance (last_checkpoint plan plan.windows) closed none saved (last_is plan is plan.windows) low (λ o i r. (let a = at o i r in omega arith))) [
        | inl h ↦ h
        | inr rc ↦ elim (alike m.committed (last_checkpoint plan plan.windows)) [
          | inr n ↦ commit (last_checkpoint plan plan.windows) (omega arith) top rc
          | inl e ↦ elim (some_below (is_left m) (length plan.lines)) [
            | inr l ↦ left_line l.0 l.2 (line plan l.0).act refl rc
            | inl met ↦ (
              End,
              record {
                closed = closed;
                at = λ o i r. (let a = at o i r in let s = kept.each o i r in let b = s.at in let c = limit-start o plan.lines m.left plan.windows in omega arith);
                rc = λ o i r. (let a = rc o i r in let s = kept.each o i r in
                    let b = last_most plan is plan.windows (slot m o i).rc (s.saved (slot m o i).rc s.rc_saved).0 (let c = s.rc in let d = s.at in let f = limit-start o plan.lines m.left plan.windows in omega arith) in omega arith);
                committed = e;
                met = λ l. not_true (is_left m l) (λ h. clash h (met l (line_there plan is m kept l h)));
              },
              tt,
            )
          ]
        ]
      ]
    where
      left_line : (l : ℕ) → is_left m l ≡ true → (a : Act) → (line plan l).act ≡ a → ((o i : ℕ) → IsPart m o i → last_checkpoint plan plan.windows ≤ (slot m o i).rc) → GoesOn plan m
      left_line l h (Splits count) f rc =
          let r = line_there plan is m kept l h in
          let q = op_there plan is m kept l r in
          let s : splits (line plan l).act ≡ true = ap splits f in
          let on : splits_op (line plan l).op (line plan l) ≡ true = all_true s (equal_by (line plan l).op (line plan l).op refl) in
          let low = limit-le (line plan l).op plan.lines m.left plan.windows l r h on in
          let top = (is.window l r).1 in
          let x : IsPart m (line plan l).op 0 = (q, some_part plan is m kept (line plan l).op q) in
          let full : plan.windows ≤ limit plan m (line plan l).op = (let a = at (line plan l).op 0 x in let b = (kept.each (line plan l).op 0 x).at in omega arith) in
          let act : IsAct plan (line plan l).op (line plan l).window (Splits count) = subst (λ (a : Act). IsAct plan (line plan l).op (line plan l).window a) f (is.act l r) in
          let whole = last_most plan is plan.windows (line plan l).window act.0 top in
          repartition l closed h s (let a = limit-start (line plan l).op plan.lines m.left plan.windows in omega arith) (λ i p. (let a = rc (line plan l).op i p in omega arith))
      left_line l h (Fails point part) f rc =
          let r = line_there plan is m kept l h in
          let q = op_there plan is m kept l r in
          let x : IsPart m (line plan l).op 0 = (q, some_part plan is m kept (line plan l).op q) in
          let top = (is.window l r).1 in
          let within : (line plan l).window ≤ limit plan m (line plan l).op = (let a = at (line plan l).op 0 x in let b = (kept.each (line plan l).op 0 x).at in omega arith) in
          let p = named_part plan is m kept l part point h f within in
          let old : ActAhead m (limit plan m (line plan l).op) (line plan l).op (line plan l).window (Fails point part) =
          subst (λ (x : Act). ActAhead m (limit plan m (line plan l).op) (line plan l).op (line plan l).window x) f (kept.ahead l h) in
          elim (old within) [
            | inl g ↦ absurd (let a = at (line plan l).op part p in let b = g.0 in omega arith)
            | inr g ↦ absurd (none l r (due_of plan is m kept l part point h f within (is_done plan m (line plan l).op (line plan l).window (slot m (line plan l).op part) point g.0 g.1 g.2)))
          ]

  -- the partition that is least far, and of those one of the least rank
  least_far : AllClosed → NoneDue → AllSaved → (o i t : ℕ) → IsPart m o i → (slot m o i).at ≡ t → ((r j : ℕ) → IsPart m r j → t ≤ (slot m r j).at) → t < plan.windows →
      ((s j : ℕ) → reads plan o s ≡ true → IsPart m s j → (slot m s j).at ≡ t → ⊥) → GoesOn plan m
  least_far closed none saved o i t r e at short up =
      let s = kept.each o i r in
      let low : m.committed ≤ t = (let a = s.committed in let b = s.rc in omega arith) in
      elim (test (nat_le (t + 1) (limit plan m o))) [
        | inr lim ↦
            (let full : limit plan m o ≡ t = (let a = leb-false (t + 1) (limit plan m o) lim in let b = s.at in omega arith) in
            elim (limit-is o plan.lines m.left plan.windows) [
              | inl end ↦ absurd (let a : limit plan m o ≡ plan.windows = end in omega arith)
              | inr l ↦
                  (let split' = both (splits (line plan l.0).act) ((line plan l.0).op == o) l.3 in
                  let op : (line plan l.0).op ≡ o = equal_at (line plan l.0).op o split'.1 in
                  let window : (line plan l.0).window ≡ t = sym l.4 ∙ full in
                  let check : is_checkpoint plan t ≡ true = subst (λ (k : ℕ). is_checkpoint plan k ≡ true) window (checked (line plan l.0).op (line plan l.0).window (line plan l.0).act split'.0 (is.act l.0 l.1)) in
                  elim (advance t closed none saved check low at) [
                    | inl h ↦ h
                    | inr rc ↦ repartition l.0 closed l.2 split'.0 (window ∙ sym full ∙ ap (limit plan m) (sym op)) (λ j p. (let a = rc (line plan l.0).op j p in omega arith))
                  ])
            ])
        | inl lim ↦ elim (test (nat_le (t + 1) (m.committed + 4 * plan.every))) [
          | inl near ↦ (
            Start o i (t + 1),
            record {
              part = r;
              next = ap (λ (k : ℕ). k + 1) (sym e);
              closed = closed o i r;
              windows = omega arith;
              ahead = leb-true (t + 1) (m.committed + 4 * plan.every) near;
              limit = leb-true (t + 1) (limit plan m o) lim;
              saved = saved o i r;
              sources = λ q j p h. (let a = at q j p in let ne = up q j h p in omega (arith, ne));
              calm = λ l b d k. none l b d;
            },
            tt,
          )
          | inr far ↦
              (let k = is.every in
              let far' = leb-false (t + 1) (m.committed + 4 * plan.every) far in
              let le = last_le plan is t in
              let near = last_near plan is t in
              elim (advance (last_checkpoint plan t) closed none saved (last_is plan is t) (omega arith) (λ q j p. (let a = at q j p in omega arith))) [
                | inl h ↦ h
                | inr rc ↦ commit (last_checkpoint plan t) (omega arith) (omega arith) rc
              ])
        ]
      ]
    where
      checked : (o w : ℕ) (a : Act) → splits a ≡ true → IsAct plan o w a → is_checkpoint plan w ≡ true
      checked o w (Splits count) s h = h.0
      checked o w (Fails point part) s h = cc

  all_rest : AllClosed → NoneDue → AllSaved → GoesOn plan m
  all_rest closed none saved =
      let t = lowest_slot m (λ o i. (slot m o i).at) plan.windows in
      let at : (o i : ℕ) → IsPart m o i → lowest_slot m (λ o i. (slot m o i).at) plan.windows ≤ (slot m o i).at = least-le m (λ o i. (slot m o i).at) plan.windows in
      elim (least-is m (λ o i. (slot m o i).at) plan.windows) [
        | inl e ↦ at_end closed none saved (λ o i r. (let a = at o i r in omega arith))
        | inr x ↦ elim (alike (slot m x.0 x.1).at plan.windows) [
          | inl f ↦ at_end closed none saved (λ o i r. (let a = at o i r in let b = x.3 in omega arith))
          | inr n ↦
              (let short : (slot m x.0 x.1).at < plan.windows = (let a = (kept.each x.0 x.1 x.2).at in let b = limit-start x.0 plan.lines m.left plan.windows in omega arith) in
              lowest_rank (slot m x.0 x.1).at x.0 x.1 x.2 refl (λ o i r. (let a = at o i r in let b = x.3 in omega arith)) short)
        ]
      ]
    where
      lowest_rank : (t o i : ℕ) → IsPart m o i → (slot m o i).at ≡ t → ((r j : ℕ) → IsPart m r j → t ≤ (slot m r j).at) → t < plan.windows → GoesOn plan m
      lowest_rank t o i r e at short = elim (some_slot m (λ o i. (slot m o i).at == t) (λ o. length plan.operators - rank plan o)) [
        | inl h ↦ absurd (clash (equal_by (slot m o i).at t e) (h o i r))
        | inr h ↦ least_far closed none saved h.0 h.1 t h.2 (equal_at (slot m h.0 h.1).at t h.3) at short (λ s j q p f.
            (let up = rank_below plan is s h.0 (is.direct h.0 s q) in
            let le = h.4 s j p (equal_by (slot m s j).at t f) in
            let a = rank_least plan s in
            let b = rank_least plan h.0 in
            omega arith))
      ]

  all_closed : AllClosed → GoesOn plan m
  all_closed closed = elim (some_below (due plan m) (length plan.lines)) [
    | inr l ↦ (Kill l.0, kill_any l.0 l.2 closed, tt)
    | inl none ↦ elim (some_slot m (λ o i. is_checkpoint plan (slot m o i).at && not (has (slot m o i).saved (slot m o i).at)) (λ o. 0)) [
      | inr h ↦
          (let b = both (is_checkpoint plan (slot m h.0 h.1).at) (not (has (slot m h.0 h.1).saved (slot m h.0 h.1).at)) h.3 in
          let unsaved = is_not (has (slot m h.0 h.1).saved (slot m h.0 h.1).at) b.1 in
          let s = kept.each h.0 h.1 h.2 in
          let ne : (slot m h.0 h.1).rc ≡ (slot m h.0 h.1).at → ⊥ = λ e. clash (subst (λ (k : ℕ). has (slot m h.0 h.1).saved k ≡ true) e s.rc_saved) unsaved in (
            Save h.0 h.1 (slot m h.0 h.1).at,
            record {
              part = h.2;
              now = refl;
              positive = (let a = s.rc in omega (arith, ne));
              checkpoint = b.0;
              unsaved = unsaved;
              closed = closed h.0 h.1 h.2;
              calm = λ l r d k. clash d (none l r);
            },
            tt,
          ))
      | inl h ↦ all_rest closed (λ l r d. clash d (none l r)) (λ o i r c. saved_by (is_checkpoint plan (slot m o i).at) (has (slot m o i).saved (slot m o i).at) (h o i r) c)
    ]
  ]
    where
      saved_by : (a b : Bool) → (a && not b) ≡ false → a ≡ true → b ≡ true
      saved_by true true h c = refl
      saved_by true false h c = cc
      saved_by false b h c = cc

  pub goes_on : GoesOn plan m
  goes_on = elim (some_slot m (λ o i. not (is_none (slot m o i).opened)) (rank plan)) [
    | inr h ↦ when_open h.0 h.1 h.2 h.3 h.4
    | inl h ↦ all_closed (λ o i r. none_at (slot m o i).opened (double (is_none (slot m o i).opened) (h o i r)))
  ]
    where
      double : (b : Bool) → not b ≡ false → b ≡ true
      double true h = refl
      double false h = cc
