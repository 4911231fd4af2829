-- What the calls of a checkpoint store leave of its entries is what the events ask for.
use Rattle.std.proofs.Common.{◌≡◌, ℕ, zero, suc, ◌<◌, inl, inr, true, List, Option, Some, refl, sym, ap, subst, ◌∙◌, arith}
use Rattle.std.proofs.lemmas.Bool.Decides.{nat_tests}
use Rattle.apx_device.specs.declared.vault.SaveId.{SaveId}
use Rattle.apx_device.specs.Vault.{Entry, entry_at, with_entry, entries_from}
use Rattle.apx_device.proofs.Lookups.{entry_at-put, entry_at-put_other, entry_at-from, entry_at-below}
use Rattle.apx_history.specs.declared.Event.{Event}
use Rattle.apx_history.specs.declared.Event.TheVariants.{Start, Write, Finish, Save, Advance, Commit, Purge, Kill, Repartition, End, Fault}
use Rattle.apx_history.specs.Plan.{Plan, line, count_or}
use Rattle.apx_history.specs.State.{State, oper}
use Rattle.apx_history.proofs.Tests.{alike}
use Rattle.apx_promise.specs.Contents.{IsRight, ChangesBy, leaves, with_parts}
use Rattle.apx_promise.specs.Laws.{Passes, PutIsSave, PutsAreRepartition, DropIsCommit, OthersLeave}

module _ (P : SaveId → List ℕ → Type 0) (plan : Plan) (m : State) (entries : List Entry) where
  pub put_save : (o i w : ℕ) (bytes : List ℕ) → P (record { op = o; boundary = (oper m o).boundary; part = i; window = w }) bytes →
      ChangesBy P plan m (Save o i w) (entry_at entries) (entry_at (with_entry entries (record { op = o; boundary = (oper m o).boundary; part = i; window = w }) bytes))
  put_save o i w bytes right =
      let id : SaveId = record { op = o; boundary = (oper m o).boundary; part = i; window = w } in
      record {
        made = λ other is. subst (λ (x : SaveId). IsRight P x (entry_at (with_entry entries (record { op = o; boundary = (oper m o).boundary; part = i; window = w }) bytes) x)) (sym is)
            (bytes, entry_at-put entries (record { op = o; boundary = (oper m o).boundary; part = i; window = w }) bytes, right);
        dropped = λ other none. cc;
        rest = λ other unmade stays. entry_at-put_other entries (record { op = o; boundary = (oper m o).boundary; part = i; window = w }) other bytes unmade;
      }

  pub drop_commit : (w : ℕ) → ChangesBy P plan m (Commit w) (entry_at entries) (entry_at (entries_from entries w))
  drop_commit w = record {
    made = λ id none. absurd none;
    dropped = λ id gone. entry_at-below entries w id (grind (arith, nat_tests));
    rest = λ id unmade stays. entry_at-from entries w id (grind (arith, nat_tests));
  }

-- the id of a new partition
abbrev part_id : ℕ → ℕ → ℕ → SaveId
part_id o b i = record { op = o; boundary = b; part = i; window = b }

module _ (entries : List Entry) (o b : ℕ) (bytes : ℕ → List ℕ) where
  -- what was put for a partition is there
  part_put : (n i : ℕ) → i < n → entry_at (with_parts entries o b n bytes) (part_id o b i) ≡ Some (bytes i)
  part_put zero i low = absurd (omega arith)
  part_put (suc n) i low = elim (alike i n) [
    | inl last ↦ ap (λ k. entry_at (with_parts entries o b (suc n) bytes) (part_id o b k)) last ∙ entry_at-put (with_parts entries o b n bytes) (part_id o b n) (bytes n) ∙ ap (λ k. Some (bytes k)) (sym last)
    | inr before ↦
        entry_at-put_other (with_parts entries o b n bytes) (part_id o b n) (part_id o b i) (bytes n) (λ e. before (ap (λ (x : SaveId). x.part) e))
        ∙ part_put n i (omega arith)
  ]

  -- and the rest stays
  rest_put : (n : ℕ) (id : SaveId) → ((i : ℕ) → i < n → id ≡ part_id o b i → ⊥) → entry_at (with_parts entries o b n bytes) id ≡ entry_at entries id
  rest_put zero id other = refl
  rest_put (suc n) id other =
      entry_at-put_other (with_parts entries o b n bytes) (part_id o b n) id (bytes n) (other n (omega arith))
      ∙ rest_put n id (λ i low. other i (omega arith))

pub put_parts : (P : SaveId → List ℕ → Type 0) (plan : Plan) (m : State) (l : ℕ) (entries : List Entry) (bytes : ℕ → List ℕ) →
    ((i : ℕ) → i < count_or 0 (line plan l).act → P (record { op = (line plan l).op; boundary = (line plan l).window; part = i; window = (line plan l).window }) (bytes i)) →
    ChangesBy P plan m (Repartition l) (entry_at entries) (entry_at (with_parts entries (line plan l).op (line plan l).window (count_or 0 (line plan l).act) bytes))
put_parts P plan m l entries bytes right =
    let o = (line plan l).op in
    let b = (line plan l).window in
    let n = count_or 0 (line plan l).act in
    record {
      made = λ id is. subst (λ (x : SaveId). IsRight P x (entry_at (with_parts entries (line plan l).op (line plan l).window (count_or 0 (line plan l).act) bytes) x)) (sym is.2)
          (bytes is.0, part_put entries o b bytes n is.0 is.1, right is.0 is.1);
      dropped = λ id none. cc;
      rest = λ id unmade stays. rest_put entries o b bytes n id (λ i low is. unmade (i, low, is));
    }

pub unchanged : (P : SaveId → List ℕ → Type 0) (plan : Plan) (m : State) (e : Event) (at : SaveId → Option (List ℕ)) → leaves e ≡ true → ChangesBy P plan m e at at
unchanged P plan m (Start o i w) at h = record { made = λ id none. absurd none; dropped = λ id none. cc; rest = λ id a b. refl }
unchanged P plan m (Write w) at h = record { made = λ id none. absurd none; dropped = λ id none. cc; rest = λ id a b. refl }
unchanged P plan m (Finish o i w) at h = record { made = λ id none. absurd none; dropped = λ id none. cc; rest = λ id a b. refl }
unchanged P plan m (Save o i w) at h = cc
unchanged P plan m (Advance o i w) at h = record { made = λ id none. absurd none; dropped = λ id none. cc; rest = λ id a b. refl }
unchanged P plan m (Commit w) at h = cc
unchanged P plan m (Purge o i w) at h = record { made = λ id none. absurd none; dropped = λ id none. cc; rest = λ id a b. refl }
unchanged P plan m (Kill l) at h = record { made = λ id none. absurd none; dropped = λ id none. cc; rest = λ id a b. refl }
unchanged P plan m (Repartition l) at h = cc
unchanged P plan m End at h = record { made = λ id none. absurd none; dropped = λ id none. cc; rest = λ id a b. refl }
unchanged P plan m (Fault s) at h = record { made = λ id none. absurd none; dropped = λ id none. cc; rest = λ id a b. refl }

pub put-is-save : PutIsSave
put-is-save right plan m o i w entries bytes is = put_save (Passes right) plan m entries o i w bytes is

pub puts-are-repartition : PutsAreRepartition
puts-are-repartition right plan m l entries bytes is = put_parts (Passes right) plan m l entries bytes is

pub drop-is-commit : DropIsCommit
drop-is-commit right plan m w entries = drop_commit (Passes right) plan m entries w

pub others-leave : OthersLeave
others-leave right plan m e at is = unchanged (Passes right) plan m e at is
