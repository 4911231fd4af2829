use Rattle.std.proofs.Common.{◌≡◌, List, ap, subst, ◌∙◌, ◌⊎◌, inr}
use Rattle.std.specs.Prelude.{IfOk}
use Rattle.apx_tuple.specs.declared.tuple.Tuple.{Tuple}
use Rattle.apx_tuple.specs.Size.{IsLarge}
use Rattle.apx_tuple.specs.Tuple.{tuple_key}
use Rattle.apx_rules.specs.Parts.{unify}
use Rattle.apx_shares.proofs.Tops.{parts-unify}
use Rattle.apx_split.specs.Kept.{kept_of}
use Rattle.apx_split.proofs.Keeping.{kept-unifies}
use Rattle.apx_split.proofs.bags.unify.Goals as goal

pub returns-clause-ok : goal.returns-clause-ok
returns-clause-ok c =
    subst (λ (rows : List Tuple). IfOk c.keep_best.result (λ bag. bag ≡ rows)) (ap (kept_of c.args.kind.now) c.in_ok-all.ensures.ok ∙ kept-unifies c.args.kind.now c.args.parts.items) c.keep_best.ensures.ok

pub returns-clause-whole : goal.returns-clause-whole
returns-clause-whole c = λ n window state left right h e.
    subst (λ (rows : List Tuple). IfOk c.keep_best.result (λ bag. bag ≡ rows))
    (ap (kept_of c.args.kind.now) c.in_ok-all.ensures.ok ∙ kept-unifies c.args.kind.now c.args.parts.items ∙ ap (unify c.args.kind.now) e ∙ parts-unify n h c.args.kind.now window state left right)
    c.keep_best.ensures.ok

pub returns-clause-large : goal.returns-clause-large
returns-clause-large c = λ e.
    inr (subst (λ (rows : List Tuple). IsLarge tuple_key rows) (ap (kept_of c.args.kind.now) c.in_ok-all.ensures.ok ∙ kept-unifies c.args.kind.now c.args.parts.items) (c.keep_best.ensures.large e))
