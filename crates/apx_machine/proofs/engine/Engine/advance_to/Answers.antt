use Rattle.std.proofs.Common.{◌≡◌, ℕ, suc, ◌+◌, ◌≤◌, Bool, cond, max, drop, length, get_or, nat_le, subst, sym, ap, ◌∙◌, arith}
use Rattle.apx_history.specs.State.{Slot, slot}
use Rattle.apx_history.specs.Enabled.{greatest, readers_reach, advance_to}
use Rattle.apx_machine.proofs.Lists.{greatest_step, greatest_all}
use Rattle.apx_machine.proofs.Looked.{readers_are}
use Rattle.apx_machine.proofs.engine.Engine.advance_to.Goals as goal

pub loop-place-preserved : goal.loop-place-preserved
loop-place-preserved c =
    let e : suc c.loop-place.place ≡ c.loop-place.place + 1 = omega arith in
    let w : c.saved-window.result ≡ get_or (slot c.args.self.now.state c.args.op c.args.part).saved c.loop-place.place 0 = c.saved-window.ensures ∙ ap (λ (x : Slot). get_or x.saved c.loop-place.place 0) c.slot-slot.ensures in
    let most : c.saved-window.result ≤ 4294967295 = (let t = c.saved-window.type_inv in omega arith) in
    let g : c.greater-greatest.result ≡ cond (readers_reach c.args.self.now.plan c.args.self.now.state c.args.op (get_or (slot c.args.self.now.state c.args.op c.args.part).saved c.loop-place.place 0)) (max (get_or (slot c.args.self.now.state c.args.op c.args.part).saved c.loop-place.place 0) c.loop-place.greatest) c.loop-place.greatest =
    c.greater-greatest.ensures
    ∙ ap (λ (b : Bool). cond b (max c.saved-window.result c.loop-place.greatest) c.loop-place.greatest)
    (ap (λ (n : ℕ). nat_le c.saved-window.result n) c.readers_rc-least.ensures ∙ readers_are c.args.self.now.plan c.args.self.now.state c.args.op c.saved-window.result 4294967295 most)
    ∙ ap (λ (v : ℕ). cond (readers_reach c.args.self.now.plan c.args.self.now.state c.args.op v) (max v c.loop-place.greatest) c.loop-place.greatest) w in
    subst (λ (k : ℕ). max c.greater-greatest.result (greatest (readers_reach c.args.self.now.plan c.args.self.now.state c.args.op) (drop k (slot c.args.self.now.state c.args.op c.args.part).saved)) ≡ greatest (readers_reach c.args.self.now.plan c.args.self.now.state c.args.op) (slot c.args.self.now.state c.args.op c.args.part).saved) e
    (ap (λ (n : ℕ). max n (greatest (readers_reach c.args.self.now.plan c.args.self.now.state c.args.op) (drop (suc c.loop-place.place) (slot c.args.self.now.state c.args.op c.args.part).saved))) g
    ∙ sym (greatest_step (readers_reach c.args.self.now.plan c.args.self.now.state c.args.op) (slot c.args.self.now.state c.args.op c.args.part).saved c.loop-place.place c.loop-place.greatest (omega (arith, ap (λ (x : Slot). length x.saved) c.slot-slot.ensures)))
    ∙ c.loop-place.invariant)

pub returns : goal.returns
unfolding advance_to
returns c = sym (greatest_all (readers_reach c.args.self.now.plan c.args.self.now.state c.args.op) (slot c.args.self.now.state c.args.op c.args.part).saved c.loop-place.place c.loop-place.greatest (omega (arith, ap (λ (x : Slot). length x.saved) c.slot-slot.ensures))) ∙ c.loop-place.invariant
