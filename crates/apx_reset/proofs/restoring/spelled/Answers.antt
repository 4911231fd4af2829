use Rattle.std.proofs.Common.{◌≡◌, ℕ, List, sym, subst}
use Rattle.apx_statebytes.specs.Spelling.{IsProgress, Spells}
use Rattle.apx_tuple.specs.declared.progress.Progress.{Progress}
use Rattle.apx_reset.proofs.Recovered.{refused}
use Rattle.apx_reset.proofs.restoring.spelled.Goals as goal

pub returns-in-Ok-clause-only : goal.returns-in-Ok-clause-only
returns-in-Ok-clause-only g c = λ x is spells.
    (let h = c.in-Ok.ensures.only x is (subst (λ (bytes : List ℕ). Spells bytes x) (sym c.deref.ensures.value) spells) in
    let same : x ≡ c.in-Ok.progress = (cc h) in
    sym same)

-- a checkpoint store that tells gives bytes that spell a progress
pub stop-requires-clause-cause : goal.stop-requires-clause-cause
stop-requires-clause-cause g c =
    let none : (x : Progress) → IsProgress x → Spells c.args.bytes.items x → ⊥ = λ x is spells.
    refused c.in-Err-Bad.field-0 _ x c.in-Err-Bad.field-0-is (c.in-Err-Bad.ensures.only x is (subst (λ (bytes : List ℕ). Spells bytes x) (sym c.deref.ensures.value) spells)) in
    record { unspelled = none; untold = λ t. (let one = c.requires.spell t in none one.progress one.is one.spelled) }
