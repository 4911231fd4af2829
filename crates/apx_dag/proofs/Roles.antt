-- The ports of a role are those of its class.
use Rattle.std.proofs.Common.{◌≡◌, ℕ, Bool, true, false, cond, List, Option, Some, None, refl}
use Rattle.std.specs.Prelude.{codes}
use Rattle.std.specs.List.{list_all}
use Rattle.std.specs.Option.{option_map, option_and_then}
use Rattle.apx_json.specs.declared.text.Property.{Property}
use Rattle.apx_tuple.specs.declared.kind.InputKind.{InputKind}
use Rattle.apx_tuple.specs.declared.kind.Kind.{Kind}
use Rattle.apx_tuple.specs.declared.kind.Kind.TheVariants as kinds
use Rattle.apx_tuple.specs.Kind.{has_right}
use Rattle.apx_pass.specs.Graph.{Role, Inner, Sink}
use Rattle.apx_dag.specs.declared.link.Link.{Link}
use Rattle.apx_dag.specs.declared.class.Class.{Class}
use Rattle.apx_dag.specs.declared.class.Class.TheVariants.{Lines, Pairs, Keep, Scale, Words, Count, Sum, Peak, First, Prefix, Tumble, Top, Match, Enrich, Store}
use Rattle.apx_dag.specs.Class.{left_port, right_port}
use Rattle.apx_dag.specs.Graph.{link_by}
use Rattle.apx_dag.specs.Role.{takes, natural_named, integer_named, value_named, text_of, input_of, built, role_of}
use Rattle.apx_dag.proofs.Finding.{map_some, then_some}

-- a number where there is a port
abbrev pub where_port : Option (List ℕ) → ℕ → Option ℕ
where_port None n = None
where_port (Some port) n = Some n

abbrev class_link : Class → ℕ → ℕ → Link
class_link class left right = record { left = where_port (left_port class) left; right = where_port (right_port class) right }

right_is : Class → Bool
right_is Match = true
right_is Enrich = true
right_is _ = false

some_is : {A : Type 0} (x y : A) → Some x ≡ Some y → x ≡ y
some_is x y e = cc

input_link : (kind : InputKind) (properties : List Property) (role : Role) (left right : ℕ) → input_of kind properties ≡ Some role → link_by role left right ≡ record { left = None; right = None }
input_link kind properties role left right e =
    let file = then_some _ (option_and_then text_of (value_named (codes "file") properties)) role e in
    let lines = map_some _ (natural_named 1 1000000 (codes "perWindow") properties) role file.2 in
    rw (← lines.2) refl

inner_link : (o : Option Kind) (role : Role) (right' : Bool) (left right : ℕ) → option_map Inner o ≡ Some role → ((k : Kind) → o ≡ Some k → has_right k ≡ right') → link_by role left right ≡ record { left = Some left; right = cond right' (Some right) None }
inner_link o role right' left right e same =
    let kind = map_some Inner o role e in
    rw (← kind.2, same kind.0 kind.1) refl

of_value : {A : Type 0} (f : A → Kind) (o : Option A) → ((x : A) → has_right (f x) ≡ false) → (k : Kind) → option_map f o ≡ Some k → has_right k ≡ false
of_value f o none k e = let r = map_some f o k e in rw (← r.2) (none r.0)

at_kind : (x k : Kind) (b : Bool) → has_right x ≡ b → Some x ≡ Some k → has_right k ≡ b
at_kind x k b h e = rw (← some_is x k e) h

pub built_link : (class : Class) (properties : List Property) (role : Role) (left right : ℕ) → built class properties ≡ Some role → link_by role left right ≡ class_link class left right
built_link Lines properties role left right e = input_link _ properties role left right e
built_link Pairs properties role left right e = input_link _ properties role left right e
built_link Keep properties role left right e = inner_link _ role false left right e (λ k h. at_kind _ k false refl h)
built_link Scale properties role left right e = inner_link _ role false left right e (λ k h. of_value kinds.Scale (integer_named (codes "factor") properties) (λ x. refl) k h)
built_link Words properties role left right e = inner_link _ role false left right e (λ k h. at_kind _ k false refl h)
built_link Count properties role left right e = inner_link _ role false left right e (λ k h. at_kind _ k false refl h)
built_link Sum properties role left right e = inner_link _ role false left right e (λ k h. at_kind _ k false refl h)
built_link Peak properties role left right e = inner_link _ role false left right e (λ k h. at_kind _ k false refl h)
built_link First properties role left right e = inner_link _ role false left right e (λ k h. at_kind _ k false refl h)
built_link Prefix properties role left right e = inner_link _ role false left right e (λ k h. of_value kinds.Prefix (natural_named 0 1024 (codes "len") properties) (λ x. refl) k h)
built_link Tumble properties role left right e = inner_link _ role false left right e (λ k h. of_value kinds.Tumble (natural_named 1 20000 (codes "every") properties) (λ x. refl) k h)
built_link Top properties role left right e = inner_link _ role false left right e (λ k h. of_value kinds.Top (natural_named 1 1000 (codes "k") properties) (λ x. refl) k h)
built_link Match properties role left right e = inner_link _ role true left right e (λ k h. at_kind _ k true refl h)
built_link Enrich properties role left right e = inner_link _ role true left right e (λ k h. at_kind _ k true refl h)
built_link Store properties role left right e = rw (← some_is Sink role e) refl

pub tested : {A : Type 0} (b : Bool) (o : Option A) (x : A) → cond b o None ≡ Some x → o ≡ Some x
tested true o x e = e
tested false o x e = absurd cc

pub role_link : (class : Class) (properties : List Property) (role : Role) (left right : ℕ) → role_of class properties ≡ Some role → link_by role left right ≡ class_link class left right
role_link class properties role left right e = built_link class properties role left right (tested (list_all (takes class) properties) (built class properties) role e)
