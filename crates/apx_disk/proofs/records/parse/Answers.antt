use Rattle.std.proofs.Common.{◌≡◌, ℕ, ◌+◌, ◌-◌, Err, take, drop, length, length-drop, true, false, map, sym, ap, ◌∙◌, arith, rules}
use Rattle.apx_disk.specs.Log.{is_open, read_log}
use Rattle.apx_disk.specs.Entries.{entry_of}
use Rattle.apx_disk.proofs.Reading.{parse_next, parse_damaged, parse_end}
use Rattle.apx_disk.proofs.records.parse.Goals as goal

pub returns-in_default-clause-damaged : goal.returns-in_default-clause-damaged
returns-in_default-clause-damaged c = λ at e.
    let opens : is_open c.loop-rest.rest.now ≡ true = search rules in
    let same : c.loop-rest.place ≡ at = cc in
    parse_damaged (map entry_of c.loop-rest.records.items) c.loop-rest.place c.loop-rest.rest.now (read_log c.args.bytes.now) c.loop-rest.invariant.read c.whole_body.result opens c.in_default.is c.whole_body.ensures.whole ∙ ap Err same

pub loop-rest-preserved : goal.loop-rest-preserved
loop-rest-preserved c =
    let opens : is_open c.loop-rest.rest.now ≡ true = search rules in
    let len : c.in-Some.len + 5 - 5 ≡ c.in-Some.len = omega arith in
    let body = take (c.in-Some.len + 5 - 5) (drop 5 c.loop-rest.rest.now) in
    let body_is : body ≡ take c.in-Some.len (drop 5 c.loop-rest.rest.now) = ap (λ (n : ℕ). take n (drop 5 c.loop-rest.rest.now)) len in
    let lengths = ap length c.split_at.ensures.back in
    record {
      read = parse_next (map entry_of c.loop-rest.records.items) c.loop-rest.place c.loop-rest.rest.now (read_log c.args.bytes.now) c.loop-rest.invariant.read (map entry_of c.keep.new.records.items) c.in-Some.len body c.split_at.result.1.now opens (sym c.in-Some.is ∙ c.whole_body.ensures.whole) body_is c.in-Ok.ensures c.split_at.ensures.back;
      place = omega (arith, lengths, length-drop (c.in-Some.len + 5) c.loop-rest.rest.now, c.loop-rest.invariant.place, c.in-Some.ensures.within);
    }

pub returns-clause-records : goal.returns-clause-records
returns-clause-records c =
    let shut : is_open c.loop-rest.rest.now ≡ false = search rules in
    parse_end (map entry_of c.loop-rest.records.items) c.loop-rest.place c.loop-rest.rest.now (read_log c.args.bytes.now) c.loop-rest.invariant.read shut
