use Rattle.std.proofs.Common.{◌≡◌, ◌+◌, ℕ, length, true, sym, ap, ◌∙◌, arith}
use Rattle.std.proofs.lemmas.List.{length_push}
use Rattle.apx_audit.proofs.Judging.{read_more}
use Rattle.apx_audit.proofs.audit.entries.Goals as goal

pub loop-rest-preserved : goal.loop-rest-preserved
loop-rest-preserved c =
    let before = c.loop-rest.invariant in
    record {
      read = read_more c.args.machine.plan c.args.text.now c.loop-rest.journal c.loop-rest.machine c.loop-rest.rest.now before.read
          c.in-Some.entry c.in-Some.behind.now c.add.new.self c.apply.new.self
          c.in-Some.ensures.forms (sym c.fits.ensures ∙ c.if-not-fits.false) c.in_ok-add.ensures.ok c.in_ok-apply.ensures.plan c.in_ok-apply.ensures.ok;
      number = ap (λ (n : ℕ). n + 1) before.number ∙ sym (ap length c.in_ok-add.ensures.ok ∙ length_push c.loop-rest.journal c.in-Some.entry);
      few = omega (arith, before.few, c.in-Some.ensures.shorter);
    }
