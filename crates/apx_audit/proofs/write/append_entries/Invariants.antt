use Rattle.std.proofs.Common.{◌≡◌, ◌++◌, take}
use Rattle.std.specs.List.{AllByRecursion}
use Rattle.apx_audit.specs.Text.{journal_text, IsEntry}
use Rattle.apx_audit.proofs.write.append_entries.Given as goal

abbrev pub invariant-loop-entry : goal.invariant-loop-entry
invariant-loop-entry l = record {
  text : l.into.items ≡ l.initial.into.items ++ journal_text (take l.entry-index l.entries);
  entries : AllByRecursion IsEntry (take l.entry-index l.entries);
}
