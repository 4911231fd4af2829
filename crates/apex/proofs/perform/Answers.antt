use Rattle.std.proofs.Common.{◌≡◌, inl, inr, arith, refl}
use Rattle.std.specs.Prelude.{Option, Some, None}
use Rattle.std.specs.declared.convert.Infallible.{Infallible}
use Rattle.apx_top.proofs.Auditing.{answers-weaker}
use Rattle.apex.proofs.perform.Goals as goal

-- spools in memory never fail
unfailing : (spool : Option Infallible) → spool ≡ None
unfailing None = refl
unfailing (Some never) = elim never [ ]

pub returns-clause-heard : goal.returns-clause-heard
returns-clause-heard g c =
    let heard = c.apex_main-ended.ensures.heard in (
      heard.0,
      heard.1,
      heard.2,
      record {
        begun = record {
          fresh = record { keeper = c.new.result; vault = c.new-2.result; spools = c.new-3.result };
          empty = c.new.ensures;
          empty_vault = c.new-2.ensures;
          before = c.new-out.result.faults;
          after = c.apex_main-ended.new.out.faults;
        };
        is = heard.3;
      },
    )

pub returns-clause-promised : goal.returns-clause-promised
returns-clause-promised g c = λ t. record {
  begun = record {
    fresh = record { keeper = c.new.result; vault = c.new-2.result; spools = c.new-3.result };
    empty = c.new.ensures;
    empty_vault = c.new-2.ensures;
    before = c.new-out.result.faults;
    after = c.apex_main-ended.new.out.faults;
  };
  history = c.apex_main-ended.ensures.history t;
  store = c.apex_main-ended.ensures.store t;
  needed = c.apex_main-ended.ensures.needed t;
  whole = c.apex_main-ended.ensures.whole t;
  checkpoints = c.apex_main-ended.ensures.checkpoints t;
  cause = c.apex_main-ended.ensures.cause t;
}

pub returns-clause-complete : goal.returns-clause-complete
returns-clause-complete g c = λ t are folder output errors.
    c.apex_main-ended.ensures.complete t refl are (record {
      folder_kept = folder;
      keeper_kept = λ rose. omega (arith, rose);
      vault_kept = λ rose. omega (arith, rose);
      spools_kept = λ rose. omega (arith, rose);
      spool_kept = unfailing c.apex_main-ended.result.spool;
      output_kept = λ rose. omega (arith, rose);
      errors_kept = errors;
    })

pub returns-clause-audit : goal.returns-clause-audit
returns-clause-audit g c = λ t.
    answers-weaker _ _ _ _ _
    (λ failed. elim failed [ inl folder ↦ inl folder | inr output ↦ inr (omega (arith, output)) ])
    (c.apex_main-ended.ensures.audit t)
