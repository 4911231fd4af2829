-- What a record that was read stands for.
use Rattle.apx_disk.specs.Log.{Entry}
use Rattle.apx_disk.specs.declared.records.Record.{Record}

-- the record's place and body
abbrev pub entry_of : Record → Entry
entry_of read = record { gate = read.gate; body = read.body.items }
