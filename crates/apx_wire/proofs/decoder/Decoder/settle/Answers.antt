use Rattle.std.proofs.Common.{ℕ, List, drop, refl, subst, ◌∙◌}
use Rattle.std.specs.Option.{option_copied, option_or}
use Rattle.apx_wire.specs.Order.{Before}
use Rattle.apx_wire.specs.Stream.{Decoding, ReadsTo, Settles}
use Rattle.apx_wire.proofs.Streams.{Settles-made}
use Rattle.apx_wire.proofs.decoder.Decoder.settle.Goals as goal

pub returns-clause-ok : goal.returns-clause-ok
returns-clause-ok c =
    let inside = c.self.inside in
    let read = c.in_ok-read.read in
    let old : Decoding = record { held = inside.held.items; rest = inside.rest.items; before = record { latest = inside.latest; window = inside.window }; fed = inside.fed } in
    let new : Decoding = record { held = c.append.new.self.items; rest = c.drop_front.new.bytes.items; before = record { latest = c.or.result; window = read.window }; fed = inside.fed } in
    let before : Before = record { latest = option_copied c.as_ref.result; window = inside.window } in
    let reads = subst (λ (bytes : List ℕ). ReadsTo before bytes read.messages.items (drop read.len bytes)) c.deref.ensures.value c.in_ok-read.ensures.ok in
    let settles = Settles-made old new read.messages.items read.len before (λ i. record { latest = c.as_ref.ensures.value i; window = inside.window }) c.in_ok-append.ensures.items reads c.drop_front.ensures (c.or.ensures ∙ (λ i. option_or (c.in_ok-latest.ensures i) (c.take.ensures.value i))) c.in_ok-read.ensures.window refl in
    subst (λ (d : Decoding). Settles d new) c.self.view_is settles
