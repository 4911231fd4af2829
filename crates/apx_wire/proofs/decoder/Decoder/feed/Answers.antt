use Rattle.std.proofs.Common.{◌+◌, length, refl, subst}
use Rattle.apx_wire.specs.Stream.{Decoding}
use Rattle.apx_wire.proofs.Streams.{Gets, feed_refused, feed_taken}
use Rattle.apx_wire.proofs.OneReading.{feed_only}
use Rattle.apx_wire.proofs.decoder.Decoder.feed.Goals as goal

pub returns-then-is_err-clause-refused : goal.returns-then-is_err-clause-refused
returns-then-is_err-clause-refused c =
    let inside = c.self.inside in
    let mid : Decoding = record { held = inside.held.items; rest = c.extend_from_slice.new.self.items; before = record { latest = inside.latest; window = inside.window }; fed = inside.fed + length c.args.piece.now } in
    let gets = subst (λ (d : Decoding). Gets d mid c.args.piece.now) c.self.view_is (record { held = refl; rest = c.in_ok-extend_from_slice.ensures.items; before = refl; fed = refl }) in
    feed_refused c.settle-settled.result c.args.self.now mid c.args.piece.now gets c.settle-settled.ensures.refused

pub returns-else-is_err-clause-taken : goal.returns-else-is_err-clause-taken
returns-else-is_err-clause-taken c =
    let inside = c.self.inside in
    let mid : Decoding = record { held = inside.held.items; rest = c.extend_from_slice.new.self.items; before = record { latest = inside.latest; window = inside.window }; fed = inside.fed + length c.args.piece.now } in
    let gets = subst (λ (d : Decoding). Gets d mid c.args.piece.now) c.self.view_is (record { held = refl; rest = c.in_ok-extend_from_slice.ensures.items; before = refl; fed = refl }) in
    feed_taken c.settle-settled.result c.args.self.now mid c.settle-settled.new.self c.args.piece.now gets c.settle-settled.ensures.ok

pub returns-then-is_err-clause-only : goal.returns-then-is_err-clause-only
returns-then-is_err-clause-only c =
    let inside = c.self.inside in
    let mid : Decoding = record { held = inside.held.items; rest = c.extend_from_slice.new.self.items; before = record { latest = inside.latest; window = inside.window }; fed = inside.fed + length c.args.piece.now } in
    let gets = subst (λ (d : Decoding). Gets d mid c.args.piece.now) c.self.view_is (record { held = refl; rest = c.in_ok-extend_from_slice.ensures.items; before = refl; fed = refl }) in
    feed_only c.settle-settled.result c.args.self.now mid c.settle-settled.new.self c.args.piece.now gets c.settle-settled.ensures.ok c.settle-settled.ensures.refused

pub returns-else-is_err-clause-only : goal.returns-else-is_err-clause-only
returns-else-is_err-clause-only c =
    let inside = c.self.inside in
    let mid : Decoding = record { held = inside.held.items; rest = c.extend_from_slice.new.self.items; before = record { latest = inside.latest; window = inside.window }; fed = inside.fed + length c.args.piece.now } in
    let gets = subst (λ (d : Decoding). Gets d mid c.args.piece.now) c.self.view_is (record { held = refl; rest = c.in_ok-extend_from_slice.ensures.items; before = refl; fed = refl }) in
    feed_only c.settle-settled.result c.args.self.now mid c.settle-settled.new.self c.args.piece.now gets c.settle-settled.ensures.ok c.settle-settled.ensures.refused
