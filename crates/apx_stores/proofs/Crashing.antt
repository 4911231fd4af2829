-- What a crash may leave of the stores of a run, from one call to the next.
use Rattle.std.proofs.Common.{◌≡◌, ◌≢◌, ℕ, zero, suc, ◌+◌, ◌<◌, ◌≤◌, ◌⊎◌, inl, inr, Bool, true, false, cond, List, [], ◌∷◌, ◌++◌, length, Option, None, Some, IsTrue, refl, sym, ap, subst, ◌∙◌, Result, Ok, Err, arith}
use Rattle.std.specs.declared.cmp.Ordering.{Ordering}
use Rattle.std.specs.declared.cmp.Ordering.TheVariants.{Less, Equal, Greater}
use Rattle.std.specs.BTreeMap.{is_at}
use Rattle.std.specs.Map.{keys_of}
use Rattle.std.proofs.lemmas.Cmp.{tied_itself, eq_by_cmp_equiv}
use Rattle.std.proofs.lemmas.List.{length_push}
use Rattle.std.proofs.lemmas.Map.{lookup-remove_entry}
use Rattle.std.proofs.lemmas.Map.Keys.{IsDistinct-from_sorted}
use Rattle.apx_cause.specs.Steps.{Steps, OneOf}
use Rattle.apx_cause.proofs.Going.{stay, weaker, go_on}
use Rattle.apx_tuple.specs.declared.tuple.Tuple.{Tuple}
use Rattle.apx_device.specs.declared.vault.SaveId.{SaveId}
use Rattle.apx_device.specs.declared.vault.VaultRefusal.{VaultRefusal}
use Rattle.apx_device.specs.declared.vault.VaultRefusal.TheVariants.{Failed, Memory}
use Rattle.apx_device.specs.Vault.{Entry, save_order, entry_at, with_entry, without_entry, entries_from, IsInOrder, LosesBelow, PutBy, DroppedBy}
use Rattle.apx_device.proofs.Lookups.{save_order-exact, entry_at-put, entry_at-put_other, entry_at-from, entry_at-below}
use Rattle.apx_pass.specs.Pass.{Dataflow, mean_up_to, rows_at, sink_of}
use Rattle.apx_course.specs.Run.{Run}
use Rattle.apx_stores.specs.Whole.{BeginsRight}
use Rattle.apx_stores.specs.Crashes.{IsFirst, IsDurable, RowsFollow, Derives, EntriesFollow, IsPut, NoPut}
use Rattle.apx_stores.proofs.Wholes.{mean_more}

-- nothing was done to a device of which a crash leaves what has P
pub device_stays : {D X : Type 0} (time : D → ℕ) (left : D → ℕ → X → Type 0) (P : X → Type 0) (old new : D) → new ≡ old
    → ((x : X) → left old (time old) x → P x) → Steps (time old) (time new) (left old) (left new) P
device_stays time left P old new same here =
    subst (λ d. Steps (time old) (time d) (left old) (left d) P) (sym same) (stay (time old) (left old) P here)

-- ---- the sink's store

mean_length : (flow : Dataflow) (s : ℕ) → length (mean_up_to flow s) ≡ s
unfolding mean_up_to
mean_length flow zero = refl
mean_length flow (suc s) =
    length_push (mean_up_to flow s) (rows_at flow (suc s) (sink_of flow.nodes)) ∙ let e = mean_length flow s in omega (arith, e)

-- the rows of the one pass up to a window are its first windows
pub first_exact : (flow : Dataflow) (least most s : ℕ) (windows : List (List Tuple)) → least ≤ s → s ≤ most → windows ≡ mean_up_to flow s
    → IsFirst flow least most windows
first_exact flow least most s windows low high is =
    let long : length windows ≡ s = ap (λ (ws : List (List Tuple)). length ws) is ∙ mean_length flow s in
    record {
      is = is ∙ ap (mean_up_to flow) (sym long);
      enough = omega (arith, long, low);
      few = omega (arith, long, high);
    }

-- with all of more windows there are all of fewer
pub first_less : (flow : Dataflow) (least more most : ℕ) → least ≤ more → (windows : List (List Tuple)) → IsFirst flow more most windows → IsFirst flow least most windows
first_less flow least more most le windows first =
    record { is = first.is; enough = (let a = first.enough in omega (arith, a, le)); few = first.few }

module _ (run : Run) (keeper : Bool) where
  -- a store of which a crash leaves what it has
  pub durable_exact : (s : ℕ) (left : List (List Tuple) → Type 0) (rows : List (List Tuple)) → s ≤ run.plan.windows
      → (BeginsRight run keeper → rows ≡ mean_up_to run.job.flow s) → (IsTrue keeper → (x : List (List Tuple)) → left x → x ≡ rows)
      → IsDurable run keeper s left
  durable_exact s left rows high fits settled = λ known x h.
      first_exact run.job.flow s run.plan.windows s x (omega arith) high (settled known.keeper_tells x h ∙ fits known)

  -- the machine counts as many windows, and nothing was done to the store
  pub durable_same : (s s' : ℕ) (left : List (List Tuple) → Type 0) → s' ≡ s → IsDurable run keeper s left → IsDurable run keeper s' left
  durable_same s s' left same durable = subst (λ (n : ℕ). IsDurable run keeper n left) (sym same) durable

  module _ {K : Type 0} (time : K → ℕ) (left : K → ℕ → List (List Tuple) → Type 0) where
    -- calls that did nothing to the store
    pub rows_stay : (s : ℕ) (old new : K) → new ≡ old → IsDurable run keeper s (left old (time old)) → RowsFollow run keeper s time left old new
    rows_stay s old new same durable = λ known.
        device_stays time left (IsFirst run.job.flow s run.plan.windows) old new same (durable known)

    -- some calls, and then others
    pub rows_go_on : (s s' : ℕ) (old mid new : K) → s ≤ s' → RowsFollow run keeper s time left old mid → RowsFollow run keeper s' time left mid new
        → RowsFollow run keeper s time left old new
    rows_go_on s s' old mid new le first second = λ known.
        go_on (first_less run.job.flow s s' run.plan.windows le) (first known) (second known)

    -- a commit of the next window: a crash leaves the windows from before it, or these and the new one
    pub rows_commit : (s w : ℕ) (old new : K) (rows : List (List Tuple)) (row : List Tuple) → w ≡ s + 1 → w ≤ run.plan.windows
        → (BeginsRight run keeper → rows ≡ mean_up_to run.job.flow s) → (BeginsRight run keeper → row ≡ rows_at run.job.flow w (sink_of run.job.flow.nodes))
        → (IsTrue keeper → Steps (time old) (time new) (left old) (left new) (OneOf rows (rows ++ row ∷ []))) → RowsFollow run keeper s time left old new
    rows_commit s w old new rows row next high fits is steps = λ known.
        let flow = run.job.flow in
        let more : rows ++ row ∷ [] ≡ mean_up_to flow (s + 1) =
        ap (λ (xs : List (List Tuple)). xs ++ row ∷ []) (fits known)
        ∙ (ap (λ (r : List Tuple). mean_up_to flow s ++ r ∷ []) (is known ∙ ap (λ (n : ℕ). rows_at flow n (sink_of flow.nodes)) next) ∙ sym (mean_more flow s)) in
        weaker
        (λ x one. elim one [
          | inl e ↦ first_exact flow s run.plan.windows s x (omega arith) (omega (arith, next, high)) (e ∙ fits known)
          | inr e ↦ first_exact flow s run.plan.windows (s + 1) x (omega arith) (omega (arith, next, high)) (e ∙ more)
        ])
        (steps known.keeper_tells)

    -- behind such calls a crash now leaves all that were counted before them
    pub durable_behind : (s : ℕ) (old new : K) → RowsFollow run keeper s time left old new → IsDurable run keeper s (left new (time new))
    durable_behind s old new follow = λ known. (follow known).here

-- ---- maps

-- two ids are one, or they aren't
one_id : (x y : SaveId) → (x ≡ y) ⊎ (x ≢ y)
one_id x y = by (save_order x y) refl
  where
    by : (r : Ordering) → save_order x y ≡ r → (x ≡ y) ⊎ (x ≢ y)
    by Equal is = inl (save_order-exact.tight x y is)
    by Less is = inr (λ e. let tied : save_order x y ≡ Equal = subst (λ z. save_order x z ≡ Equal) e (tied_itself save_order-exact.total x) in cc (sym is ∙ tied))
    by Greater is = inr (λ e. let tied : save_order x y ≡ Equal = subst (λ z. save_order x z ≡ Equal) e (tied_itself save_order-exact.total x) in cc (sym is ∙ tied))

not_none : {A : Type 0} {bytes : List ℕ} {found : Option (List ℕ)} → found ≡ None → found ≡ Some bytes → A
not_none none some = absurd (let e : None ≡ Some _ = sym none ∙ some in cc)

-- what stays without an id was there
entry_at-without : (entries : List Entry) (id other : SaveId) (bytes : List ℕ) → IsInOrder entries → entry_at (without_entry entries id) other ≡ Some bytes
    → entry_at entries other ≡ Some bytes
entry_at-without entries id other bytes order h =
    let laws = eq_by_cmp_equiv save_order-exact.total in
    by (is_at (save_order id) other)
    (sym (lookup-remove_entry laws (is_at (save_order id)) (λ x y e. laws.congr id x y e) other entries (IsDistinct-from_sorted save_order (keys_of entries) order)) ∙ h)
  where
    by : (b : Bool) → cond b None (entry_at entries other) ≡ Some bytes → entry_at entries other ≡ Some bytes
    by true e = absurd (cc e)
    by false e = e

module _ (good : SaveId → List ℕ → Type 0) where
  -- a map is derived from itself
  pub derives_itself : (old new : List Entry) → new ≡ old → Derives good old new
  derives_itself old new same = λ id bytes h. inl (ap (λ (es : List Entry). entry_at es id) (sym same) ∙ h)

  -- and what is derived from a derived one is derived
  pub derives_on : (first second third : List Entry) → Derives good first second → Derives good second third → Derives good first third
  derives_on first second third one two = λ id bytes h. elim (two id bytes h) [ inl was ↦ one id bytes was | inr is ↦ inr is ]

  -- one entry more
  derives_put : (old new : List Entry) (id : SaveId) (bytes : List ℕ) → good id bytes → new ≡ with_entry old id bytes → Derives good old new
  derives_put old new id bytes is put = λ other found h.
      let there : entry_at (with_entry old id bytes) other ≡ Some found = ap (λ (es : List Entry). entry_at es other) (sym put) ∙ h in
      elim (one_id other id) [
        | inl same ↦
            let e : Some bytes ≡ Some found = sym (entry_at-put old id bytes) ∙ ap (λ (d : SaveId). entry_at (with_entry old id bytes) d) (sym same) ∙ there in
            let kept : bytes ≡ found = (cc e) in
            inr (subst (λ (x : SaveId). good x found) (sym same) (subst (good id) kept is))
        | inr differs ↦ inl (sym (entry_at-put_other old id other bytes differs) ∙ there)
      ]

  -- one entry less
  derives_without : (old new : List Entry) (id : SaveId) → IsInOrder old → new ≡ without_entry old id → Derives good old new
  derives_without old new id order gone = λ other found h.
      inl (entry_at-without old id other found order (ap (λ (es : List Entry). entry_at es other) (sym gone) ∙ h))

  -- some entries fewer
  derives_loses : (old new : List Entry) (window : ℕ) → LosesBelow window old new → Derives good old new
  derives_loses old new window loses = λ id found h. elim (low_or window id.window) [
    | inl stays ↦ inl (sym (loses.stays id stays) ∙ h)
    | inr goes ↦ elim (loses.goes id goes) [ inl same ↦ inl (sym same ∙ h) | inr none ↦ not_none none h ]
  ]
    where
      low_or : (m n : ℕ) → (m ≤ n) ⊎ (n < m)
      low_or m n = grind arith

  derives_from : (old new : List Entry) (window : ℕ) → new ≡ entries_from old window → Derives good old new
  derives_from old new window dropped =
      derives_loses old new window (record {
        stays = λ id le. ap (λ (es : List Entry). entry_at es id) dropped ∙ entry_at-from old window id le;
        goes = λ id lt. inr (ap (λ (es : List Entry). entry_at es id) dropped ∙ entry_at-below old window id lt);
      })

-- what a put leaves, whatever it answers
pub put_derives : (good : SaveId → List ℕ → Type 0) (r : Result (Unit {0}) VaultRefusal) (id : SaveId) (bytes : List ℕ) (old new : List Entry) → IsInOrder old → good id bytes → PutBy r id bytes old new → Derives good old new
put_derives good (Ok _) id bytes old new order is put = derives_put good old new id bytes is put
put_derives good (Err Memory) id bytes old new order is same = derives_itself good old new same
put_derives good (Err Failed) id bytes old new order is left = elim left [
  | inl same ↦ derives_itself good old new same
  | inr other ↦ elim other [ inl put ↦ derives_put good old new id bytes is put | inr gone ↦ derives_without good old new id order gone ]
]

-- what a drop leaves, whatever it answers
pub drop_derives : (good : SaveId → List ℕ → Type 0) (r : Result (Unit {0}) VaultRefusal) (window : ℕ) (old new : List Entry) → DroppedBy r window old new → Derives good old new
drop_derives good (Ok _) window old new dropped = derives_from good old new window dropped
drop_derives good (Err Memory) window old new same = derives_itself good old new same
drop_derives good (Err Failed) window old new loses = derives_loses good old new window loses

-- ---- the checkpoint store

module _ {V : Type 0} (time : V → ℕ) (left : V → ℕ → List Entry → Type 0) (held : V → List Entry) where
  -- a put: a crash leaves the entries from before it, or these with the one that was put
  pub entries_put : (r : Result (Unit {0}) VaultRefusal) (id : SaveId) (bytes : List ℕ) (old new : V) → IsInOrder (held old) → PutBy r id bytes (held old) (held new)
      → Steps (time old) (time new) (left old) (left new) (OneOf (held old) (with_entry (held old) id bytes)) → EntriesFollow (IsPut id bytes) time left held old new
  entries_put r id bytes old new order put steps = record {
    derived = put_derives (IsPut id bytes) r id bytes (held old) (held new) order (refl, refl) put;
    crash = weaker (λ x one. elim one [
      | inl same ↦ derives_itself (IsPut id bytes) (held old) x same
      | inr more ↦ derives_put (IsPut id bytes) (held old) x id bytes (refl, refl) more
    ]) steps;
  }

  -- a drop: a crash leaves the entries from before it, or those that stay
  pub entries_drop : (r : Result (Unit {0}) VaultRefusal) (window : ℕ) (old new : V) → DroppedBy r window (held old) (held new)
      → Steps (time old) (time new) (left old) (left new) (OneOf (held old) (entries_from (held old) window)) → EntriesFollow NoPut time left held old new
  entries_drop r window old new dropped steps = record {
    derived = drop_derives NoPut r window (held old) (held new) dropped;
    crash = weaker (λ x one. elim one [
      | inl same ↦ derives_itself NoPut (held old) x same
      | inr fewer ↦ derives_from NoPut (held old) x window fewer
    ]) steps;
  }

  -- a look: a crash leaves what is there
  pub entries_look : (old new : V) → held new ≡ held old → Steps (time old) (time new) (left old) (left new) (λ entries. entries ≡ held old)
      → EntriesFollow NoPut time left held old new
  entries_look old new same steps = record {
    derived = derives_itself NoPut (held old) (held new) same;
    crash = weaker (λ x is. derives_itself NoPut (held old) x is) steps;
  }

  module _ (good : SaveId → List ℕ → Type 0) where
    -- calls that did nothing to the store
    pub entries_stay : (old new : V) → new ≡ old → ((x : List Entry) → left old (time old) x → x ≡ held old) → EntriesFollow good time left held old new
    entries_stay old new same settled = record {
      derived = derives_itself good (held old) (held new) (ap held same);
      crash = device_stays time left (Derives good (held old)) old new same (λ x h. derives_itself good (held old) x (settled x h));
    }

    -- some calls, and then others
    pub entries_go_on : (old mid new : V) → EntriesFollow good time left held old mid → EntriesFollow good time left held mid new
        → EntriesFollow good time left held old new
    entries_go_on old mid new first second = record {
      derived = derives_on good (held old) (held mid) (held new) first.derived second.derived;
      crash = go_on (λ x h. derives_on good (held old) (held mid) x first.derived h) first.crash second.crash;
    }

    -- behind some calls nothing was done
    pub entries_end : (old mid new : V) → new ≡ mid → EntriesFollow good time left held old mid → EntriesFollow good time left held old new
    entries_end old mid new same follow = subst (λ v. EntriesFollow good time left held old v) (sym same) follow

    -- nor before them
    pub entries_begin : (old mid new : V) → mid ≡ old → EntriesFollow good time left held mid new → EntriesFollow good time left held old new
    entries_begin old mid new same follow = subst (λ v. EntriesFollow good time left held v new) same follow

    -- of what is put more is good
    pub entries_weaker : (better : SaveId → List ℕ → Type 0) → ((id : SaveId) (bytes : List ℕ) → better id bytes → good id bytes)
        → (old new : V) → EntriesFollow better time left held old new → EntriesFollow good time left held old new
    entries_weaker better weak old new follow = record {
      derived = λ id bytes e. elim (follow.derived id bytes e) [ inl was ↦ inl was | inr is ↦ inr (weak id bytes is) ];
      crash = weaker (λ x h id bytes e. elim (h id bytes e) [ inl was ↦ inl was | inr is ↦ inr (weak id bytes is) ]) follow.crash;
    }
