use Rattle.std.proofs.Common.{map, ap, subst, ◌∙◌}
use Rattle.std.specs.Prelude.{string_bytes}
use Rattle.apx_cause.specs.Cause.{Rose}
use Rattle.apx_top.specs.Changes.{call_of, output_change}
use Rattle.apx_top.specs.Left.{left_of}
use Rattle.apx_top.specs.Plain.{HasSaid, line_after}
use Rattle.apx_top.proofs.Acting.{words-refused, refused-words, refused-of, complete-of}
use Rattle.apx_top.proofs.Auditing.{answers-audits}
use Rattle.apx_top.proofs.Headlines.{one-history, has-stored, has-kept-needed, has-ended-whole, has-left-checkpoints, has-named-cause, traces-legally}
use Rattle.apx_top.proofs.Printed.{vault-tells, spools-tell}
use Rattle.apx_top.proofs.Settling.{ended_with}
use Rattle.apx_top.proofs.plain.apex_plain.Goals as goal

pub returns-clause-heard : goal.returns-clause-heard
returns-clause-heard g c =
    let h = c.act-outcome.ensures.heard in
    (h.0, h.1, h.2, ended_with (map string_bytes c.args.words.now) h.0 _ _ _ _ _ (left_of c.act-outcome.result) (λ none. ap (output_change g.E.Out.tells g.E.Out.written g.E.Out.faults c.args.err.now) (c.conclude-status.ensures.silent none)) h.3)

pub returns-clause-command : goal.returns-clause-command
returns-clause-command g c =
    let h = c.act-outcome.ensures.heard in
    (words-refused _ (map string_bytes c.args.words.now) (call_of h.0 _ _ _ _) (left_of c.act-outcome.result) h.3, refused-words _ (map string_bytes c.args.words.now) (call_of h.0 _ _ _ _) (left_of c.act-outcome.result) h.3)

pub returns-clause-refused : goal.returns-clause-refused
returns-clause-refused g c = λ t refusal is.
    let h = c.act-outcome.ensures.heard in
    refused-of _ (map string_bytes c.args.words.now) (call_of h.0 _ _ _ _) _ (h.2 t) (left_of c.act-outcome.result) h.3 refusal is

pub returns-clause-complete : goal.returns-clause-complete
returns-clause-complete g c = λ t tell are kept.
    let h = c.act-outcome.ensures.heard in
    let over = ended_with (map string_bytes c.args.words.now) h.0 _ _ _ _ _ (left_of c.act-outcome.result) (λ none. ap (output_change g.E.Out.tells g.E.Out.written g.E.Out.faults c.args.err.now) (c.conclude-status.ensures.silent none)) h.3 in
    complete-of _ (map string_bytes c.args.words.now) (call_of h.0 _ _ _ _) _ (h.2 t) (left_of c.act-outcome.result) over (vault-tells g.K.Keeper.tells g.V.Vault.tells _ tell) (spools-tell g.K.Keeper.tells g.V.Vault.tells _ tell) are kept

pub returns-clause-history : goal.returns-clause-history
returns-clause-history g c = λ t.
    let h = c.act-outcome.ensures.heard in
    one-history (map string_bytes c.args.words.now) (call_of h.0 _ _ _ _) (left_of c.act-outcome.result) h.3 _ (h.2 t)

pub returns-clause-store : goal.returns-clause-store
returns-clause-store g c = λ t.
    let h = c.act-outcome.ensures.heard in
    has-stored (map string_bytes c.args.words.now) (call_of h.0 _ _ _ _) (left_of c.act-outcome.result) h.3 _ (h.2 t)

pub returns-clause-needed : goal.returns-clause-needed
returns-clause-needed g c = λ t.
    let h = c.act-outcome.ensures.heard in
    has-kept-needed (map string_bytes c.args.words.now) (call_of h.0 _ _ _ _) (left_of c.act-outcome.result) h.3 _ (h.2 t)

pub returns-clause-whole : goal.returns-clause-whole
returns-clause-whole g c = λ t.
    let h = c.act-outcome.ensures.heard in
    let over = ended_with (map string_bytes c.args.words.now) h.0 _ _ _ _ _ (left_of c.act-outcome.result) (λ none. ap (output_change g.E.Out.tells g.E.Out.written g.E.Out.faults c.args.err.now) (c.conclude-status.ensures.silent none)) h.3 in
    has-ended-whole (map string_bytes c.args.words.now) (call_of h.0 _ _ _ _) (left_of c.act-outcome.result) over _ (h.2 t)

pub returns-clause-checkpoints : goal.returns-clause-checkpoints
returns-clause-checkpoints g c = λ t.
    let h = c.act-outcome.ensures.heard in
    has-left-checkpoints (map string_bytes c.args.words.now) (call_of h.0 _ _ _ _) (left_of c.act-outcome.result) h.3 _ (h.2 t)

pub returns-clause-cause : goal.returns-clause-cause
returns-clause-cause g c = λ t.
    let h = c.act-outcome.ensures.heard in
    let over = ended_with (map string_bytes c.args.words.now) h.0 _ _ _ _ _ (left_of c.act-outcome.result) (λ none. ap (output_change g.E.Out.tells g.E.Out.written g.E.Out.faults c.args.err.now) (c.conclude-status.ensures.silent none)) h.3 in
    has-named-cause (map string_bytes c.args.words.now) (call_of h.0 _ _ _ _) (left_of c.act-outcome.result) over _ (h.2 t)

pub returns-clause-traced : goal.returns-clause-traced
returns-clause-traced g c = λ t.
    let h = c.act-outcome.ensures.heard in
    traces-legally (map string_bytes c.args.words.now) (call_of h.0 _ _ _ _) (left_of c.act-outcome.result) h.3 _ (h.2 t)

pub returns-clause-audit : goal.returns-clause-audit
returns-clause-audit g c = λ t.
    let h = c.act-outcome.ensures.heard in
    answers-audits (map string_bytes c.args.words.now) (call_of h.0 _ _ _ _) _ (h.2 t) (left_of c.act-outcome.result) h.3

pub returns-clause-said : goal.returns-clause-said
returns-clause-said g c = λ tells told.
    subst (λ e. HasSaid (line_after c.act-outcome.result.end) (Rose (g.E.Out.faults e) (g.E.Out.faults c.conclude-status.new.err)) (g.E.Out.written e) (g.E.Out.written c.conclude-status.new.err)) (c.act-outcome.ensures.unsaid told)
    (c.conclude-status.ensures.said tells told)

pub returns-clause-silent : goal.returns-clause-silent
returns-clause-silent g c = λ none other. c.conclude-status.ensures.silent none ∙ c.act-outcome.ensures.silent other
