-- Numbers that were read in a range are in it.
use Rattle.std.proofs.Common.{◌≡◌, ℕ, ◌≤◌, Bool, true, false, cond, leb, ◌&&◌, List, Option, Some, None, refl}
use Rattle.std.specs.Prelude.{ℤ, pos, negsuc, unwrap_or, codes}
use Rattle.std.specs.List.{list_all}
use Rattle.std.specs.Option.{option_map, option_and_then}
use Rattle.std.proofs.lemmas.Bool.{leb-true, eqb-true}
use Rattle.apx_json.specs.Integers.{integer_in}
use Rattle.apx_json.specs.declared.text.Property.{Property}
use Rattle.apx_tuple.specs.declared.kind.InputKind.{InputKind}
use Rattle.apx_tuple.specs.declared.kind.Kind.{Kind}
use Rattle.apx_tuple.specs.declared.kind.Kind.TheVariants as kinds
use Rattle.apx_pass.specs.Graph.{Role, Inner, Sink}
use Rattle.apx_dag.specs.declared.class.Class.{Class}
use Rattle.apx_dag.specs.declared.class.Class.TheVariants.{Lines, Pairs, Keep, Scale, Words, Count, Sum, Peak, First, Prefix, Tumble, Top, Match, Enrich, Store}
use Rattle.apx_dag.specs.Class.{is_end}
use Rattle.apx_dag.specs.Role.{takes, within, natural_in, natural_named, integer_named, value_named, text_of, input_of, built, role_of}
use Rattle.apx_dag.specs.Rules.{is_one}
use Rattle.apx_dag.specs.Valid.{IsKind, IsRole, IsEndpoint}
use Rattle.apx_dag.proofs.Finding.{and_true, map_some, then_some, some_is}
use Rattle.apx_dag.proofs.Roles.{tested}

in_range : (low high n x : ℕ) (b : Bool) → (leb low n && leb n high) ≡ b → cond b (Some n) None ≡ Some x → (low ≤ x) × (x ≤ high)
in_range low high n x true t e =
    let both = and_true (leb low n) (leb n high) t in
    rw (← some_is n x e) (leb-true low n both.0, leb-true n high both.1)
in_range low high n x false t e = absurd cc

pub within_range : (low high : ℕ) (z : ℤ) (x : ℕ) → within low high z ≡ Some x → (low ≤ x) × (x ≤ high)
within_range low high (pos n) x e = in_range low high n x (leb low n && leb n high) refl e
within_range low high (negsuc n) x e = absurd cc

or_range : (low high d : ℕ) (o : Option ℕ) → ((x : ℕ) → o ≡ Some x → (low ≤ x) × (x ≤ high)) → low ≤ d → d ≤ high → (low ≤ unwrap_or o d) × (unwrap_or o d ≤ high)
or_range low high d None h l g = (l, g)
or_range low high d (Some x) h l g = h x refl

pub kept_range : (low high d : ℕ) (z : ℤ) → low ≤ d → d ≤ high → (low ≤ unwrap_or (within low high z) d) × (unwrap_or (within low high z) d ≤ high)
kept_range low high d z l g = or_range low high d (within low high z) (λ x e. within_range low high z x e) l g

pub one_is : (z : ℤ) → is_one z ≡ true → (unwrap_or (within 1 8 z) 1 ≡ 1) × (unwrap_or (within 1 20000 z) 1 ≡ 1)
one_is (pos n) e = let same : n ≡ 1 = eqb-true n 1 e in rw same (refl, refl)
one_is (negsuc n) e = absurd cc

natural_range : (low high : ℕ) (name : List ℕ) (properties : List Property) (x : ℕ) → natural_named low high name properties ≡ Some x → (low ≤ x) × (x ≤ high)
natural_range low high name properties x e =
    let value = then_some (natural_in low high) (value_named name properties) x e in
    let number = then_some (within low high) (integer_in value.0) x value.2 in
    within_range low high number.0 x number.2

-- ---- roles

-- what a role tells of its class
pub record Tells (class : Class) (role : Role) : Type 0 where
  pub ranges : IsRole role
  pub at_end : IsEndpoint role → is_end class ≡ true
  pub sink : role ≡ Sink → class ≡ Store

input_tells : (class : Class) (kind : InputKind) (properties : List Property) (role : Role) → is_end class ≡ true → input_of kind properties ≡ Some role → Tells class role
input_tells class kind properties role end e =
    let file = then_some _ (option_and_then text_of (value_named (codes "file") properties)) role e in
    let lines = map_some _ (natural_named 1 1000000 (codes "perWindow") properties) role file.2 in
    let range = natural_range 1 1000000 (codes "perWindow") properties lines.0 lines.1 in
    rw (← lines.2) (record { ranges = range; at_end = λ h. end; sink = λ h. absurd cc })

inner_tells : (class : Class) (o : Option Kind) (role : Role) → option_map Inner o ≡ Some role → ((k : Kind) → o ≡ Some k → IsKind k) → Tells class role
inner_tells class o role e is =
    let kind = map_some Inner o role e in
    rw (← kind.2) (record { ranges = is kind.0 kind.1; at_end = λ h. absurd h; sink = λ h. absurd cc })

is_plain : (x k : Kind) → IsKind x → Some x ≡ Some k → IsKind k
is_plain x k is e = rw (← some_is x k e) is

from_value : {A : Type 0} (f : A → Kind) (o : Option A) (k : Kind) → ((x : A) → o ≡ Some x → IsKind (f x)) → option_map f o ≡ Some k → IsKind k
from_value f o k is e = let r = map_some f o k e in rw (← r.2) (is r.0 r.1)

pub built_tells : (class : Class) (properties : List Property) (role : Role) → built class properties ≡ Some role → Tells class role
built_tells Lines properties role e = input_tells Lines _ properties role refl e
built_tells Pairs properties role e = input_tells Pairs _ properties role refl e
built_tells Keep properties role e = inner_tells Keep _ role e (λ k h. is_plain _ k tt h)
built_tells Scale properties role e = inner_tells Scale _ role e (λ k h. from_value kinds.Scale (integer_named (codes "factor") properties) k (λ x g. tt) h)
built_tells Words properties role e = inner_tells Words _ role e (λ k h. is_plain _ k tt h)
built_tells Count properties role e = inner_tells Count _ role e (λ k h. is_plain _ k tt h)
built_tells Sum properties role e = inner_tells Sum _ role e (λ k h. is_plain _ k tt h)
built_tells Peak properties role e = inner_tells Peak _ role e (λ k h. is_plain _ k tt h)
built_tells First properties role e = inner_tells First _ role e (λ k h. is_plain _ k tt h)
built_tells Prefix properties role e = inner_tells Prefix _ role e (λ k h. from_value kinds.Prefix (natural_named 0 1024 (codes "len") properties) k (λ x g. (natural_range 0 1024 (codes "len") properties x g).1) h)
built_tells Tumble properties role e = inner_tells Tumble _ role e (λ k h. from_value kinds.Tumble (natural_named 1 20000 (codes "every") properties) k (λ x g. natural_range 1 20000 (codes "every") properties x g) h)
built_tells Top properties role e = inner_tells Top _ role e (λ k h. from_value kinds.Top (natural_named 1 1000 (codes "k") properties) k (λ x g. natural_range 1 1000 (codes "k") properties x g) h)
built_tells Match properties role e = inner_tells Match _ role e (λ k h. is_plain _ k tt h)
built_tells Enrich properties role e = inner_tells Enrich _ role e (λ k h. is_plain _ k tt h)
built_tells Store properties role e = rw (← some_is Sink role e) (record { ranges = tt; at_end = λ h. refl; sink = λ h. refl })

pub role_tells : (class : Class) (properties : List Property) (role : Role) → role_of class properties ≡ Some role → Tells class role
role_tells class properties role e = built_tells class properties role (tested (list_all (takes class) properties) (built class properties) role e)
