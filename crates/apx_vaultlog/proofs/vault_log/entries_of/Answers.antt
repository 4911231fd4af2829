use Rattle.std.proofs.Common.{◌≡◌, ◌∙◌, sym, ap, arith, cond, List, ℕ, Some, None, Bool, map, Ok, Err}
use Rattle.apx_device.specs.MemoryVault.{Kept, entries_in}
use Rattle.apx_disk.specs.Entries.{entry_of}
use Rattle.apx_vaultlog.specs.Changes.{changed, entries_after}
use Rattle.apx_vaultlog.proofs.Reading.{entries_next, entries_bad, entries_end}
use Rattle.apx_vaultlog.proofs.vault_log.entries_of.Goals as goal

pub loop-record-init : goal.loop-record-init
loop-record-init c = record {
  read = ap (λ (es : List Kept). entries_after (Ok (entries_in es)) (map entry_of c.args.read.now)) (sym c.new-entries.ensures.empty);
  ordered = c.new-entries.ensures.ordered;
}

pub change-requires : goal.change-requires
change-requires c = c.loop-record.invariant.ordered

pub returns-then-not-made-clause-damaged : goal.returns-then-not-made-clause-damaged
returns-then-not-made-clause-damaged c = λ at same.
    let entries = entries_in c.loop-record.entries.entries in
    let other : changed c.record-item.result.body.items entries ≡ None =
    ap (λ (b : List ℕ). changed b entries) (sym c.deref.ensures.value) ∙ c.in-Ok.ensures.change
    ∙ ap (λ (made : Bool). cond made (Some (entries_in c.change.new.entries.entries)) None) c.if-not-made.true in
    let place : c.record-item.result.gate ≡ at = cc in
    entries_bad c.args.read.now c.loop-record.record-index c.record-item.result c.loop-record-test.true c.record-item.is entries _ c.loop-record.invariant.read other
    ∙ ap Err place

pub loop-record-preserved : goal.loop-record-preserved
loop-record-preserved c =
    let entries = entries_in c.loop-record.entries.entries in
    let next = entries_in c.change.new.entries.entries in
    let change : changed c.record-item.result.body.items entries ≡ Some next =
    ap (λ (b : List ℕ). changed b entries) (sym c.deref.ensures.value) ∙ c.in-Ok.ensures.change
    ∙ ap (λ (made : Bool). cond made (Some next) None) c.if-not-made.false in
    record {
      read = entries_next c.args.read.now c.loop-record.record-index c.record-item.result c.loop-record-test.true c.record-item.is entries _ c.loop-record.invariant.read next change;
      ordered = c.in-Ok.ensures.ordered;
    }

pub returns-clause-entries : goal.returns-clause-entries
returns-clause-entries c =
    let all = c.loop-record-test.false in
    let within = c.loop-record.auto.record-index-end in
    entries_end c.args.read.now c.loop-record.record-index (entries_in c.loop-record.entries.entries) _ (omega (arith, all, within)) c.loop-record.invariant.read

pub returns-clause-ordered : goal.returns-clause-ordered
returns-clause-ordered c = c.loop-record.invariant.ordered
