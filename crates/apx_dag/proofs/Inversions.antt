-- What holds where the checks refuse nothing.
use Rattle.std.proofs.Common.{◌≡◌, ℕ, List, Option, Some, None, Ok, Err, refl}
use Rattle.std.specs.Prelude.{⊤}
use Rattle.apx_json.specs.Texts.{Application}
use Rattle.apx_json.specs.Checks.{◌>>=◌}
use Rattle.apx_dag.specs.Checks.{Checked, unless}
use Rattle.apx_dag.specs.Rules.{before_cycles, after_cycles, too_many, name_again, unknown_class, wrong_properties, no_port, port_again, unused_port, no_store, second_store, wrong_partitions, partitioned_end, wrong_sinks, bad_name, wrong_windows, gathering_end}

bind_ok : (c : Checked) (f : ⊤ → Checked) → (c >>= f) ≡ Ok tt → (c ≡ Ok tt) × (f tt ≡ Ok tt)
bind_ok (Ok x) f e = (refl, e)
bind_ok (Err r) f e = absurd cc

unless_ok : (code : ℕ) (place : Option (List ℕ)) → unless code place ≡ Ok tt → place ≡ None
unfolding unless
unless_ok code None e = refl
unless_ok code (Some place) e = absurd cc

step : (code : ℕ) (place : Option (List ℕ)) (rest : Checked) → (unless code place >>= λ x. rest) ≡ Ok tt → (place ≡ None) × (rest ≡ Ok tt)
step code place rest e = let r = bind_ok (unless code place) (λ x. rest) e in (unless_ok code place r.0, r.1)

pub record HoldsBefore (app : Application) : Type 0 where
  pub few : too_many app ≡ None
  pub names : name_again app ≡ None
  pub classes : unknown_class app ≡ None
  pub properties : wrong_properties app ≡ None
  pub ports : no_port app ≡ None
  pub once : port_again app ≡ None
  pub used : unused_port app ≡ None

pub holds_before : (app : Application) → before_cycles app ≡ Ok tt → HoldsBefore app
unfolding before_cycles
holds_before app e =
    let s1 = step 1 (too_many app) _ e in
    let s2 = step 2 (name_again app) _ s1.1 in
    let s3 = step 3 (unknown_class app) _ s2.1 in
    let s4 = step 4 (wrong_properties app) _ s3.1 in
    let s5 = step 5 (no_port app) _ s4.1 in
    let s6 = step 6 (port_again app) _ s5.1 in
    record { few = s1.0; names = s2.0; classes = s3.0; properties = s4.0; ports = s5.0; once = s6.0; used = unless_ok 7 (unused_port app) s6.1 }

pub record HoldsAfter (app : Application) : Type 0 where
  pub store : no_store app ≡ None
  pub one : second_store app ≡ None
  pub partitions : wrong_partitions app ≡ None
  pub whole_ends : partitioned_end app ≡ None
  pub sinks : wrong_sinks app ≡ None
  pub names : bad_name app ≡ None
  pub windows : wrong_windows app ≡ None
  pub plain_ends : gathering_end app ≡ None

pub holds_after : (app : Application) → after_cycles app ≡ Ok tt → HoldsAfter app
unfolding after_cycles
holds_after app e =
    let s1 = step 9 (no_store app) _ e in
    let s2 = step 10 (second_store app) _ s1.1 in
    let s3 = step 11 (wrong_partitions app) _ s2.1 in
    let s4 = step 12 (partitioned_end app) _ s3.1 in
    let s5 = step 13 (wrong_sinks app) _ s4.1 in
    let s6 = step 14 (bad_name app) _ s5.1 in
    let s7 = step 15 (wrong_windows app) _ s6.1 in
    record { store = s1.0; one = s2.0; partitions = s3.0; whole_ends = s4.0; sinks = s5.0; names = s6.0; windows = s7.0; plain_ends = unless_ok 16 (gathering_end app) s7.1 }
