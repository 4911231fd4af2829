use Rattle.std.proofs.Common.{ℕ, ◌+◌, List, sym, subst}
use Rattle.std.proofs.lemmas.List.{take_rest}
use Rattle.apx_audit.specs.Verdict.{BeginsWith}
use Rattle.apx_audit.proofs.Journals.{no_end, no_entry, first_entry}
use Rattle.apx_audit.proofs.audit.first_entry.Goals as goal

pub returns-in_err-end-clause-forms : goal.returns-in_err-end-clause-forms
returns-in_err-end-clause-forms c = rw c.from_residual.ensures (no_end c.args.text.now (sym c.in_err-end.ensures))

pub returns-in_err-entry-clause-forms : goal.returns-in_err-entry-clause-forms
returns-in_err-entry-clause-forms c =
    rw c.from_residual-in_err-entry.ensures (no_entry c.args.text.now c.in_ok-end.end (sym c.in_ok-end.ensures) (sym c.in_err-entry.ensures))

pub returns-clause-forms : goal.returns-clause-forms
returns-clause-forms c =
    subst (λ (rest : List ℕ). BeginsWith c.args.text.now c.in_ok-entry.entry rest) (sym (take_rest c.args.text.now (c.in_ok-end.end + 1)))
    (first_entry c.args.text.now c.in_ok-end.end c.in_ok-entry.entry (sym c.in_ok-end.ensures) (sym c.in_ok-entry.ensures))
