use Rattle.std.proofs.Common.{◌≡◌, ◌<◌, ◌-◌, ◌+◌, Some, Err, get_or, length, slice_get, ap, ◌∙◌, arith, rules}
use Rattle.std.proofs.lemmas.List.{length-map}
use Rattle.std.proofs.lemmas.Result.{err_from_is_err_and}
use Rattle.apx_list.specs.declared.kept.Kept.TheVariants.{Held}
use Rattle.apx_list.specs.Kept.{block_of, all_of}
use Rattle.apx_list.proofs.Numbers.{slice_get-is}
use Rattle.apx_list.proofs.Spilling.{read_is, fetched_held, fetched_spilled, in_run, latest_of, latest_after, out_at, refused, spells_put, stored_fetched}
use Rattle.apx_list.proofs.list.DataList.read.Goals as goal

pub returns-in-Held-clause-read : goal.returns-in-Held-clause-read
returns-in-Held-clause-read g c =
    let inside = c.self.inside in
    let owed = rw (← c.self.view_is) at c.requires in
    let within : c.args.place - inside.first < length inside.kept.items = search rules in
    let is : c.in-Some.kept.now ≡ get_or inside.kept.items (c.args.place - inside.first) c.in-Some.kept.now = search rules in
    let found : slice_get inside.kept.items (c.args.place - inside.first) ≡ Some (Held c.in-Held.block) = slice_get-is inside.kept.items (c.args.place - inside.first) c.in-Some.kept.now within is ∙ ap Some c.in-Held.is in
    rw (c.in_ok-share-in-Held.ensures, ← c.self.view_is) (read_is g.S.Spool.tells (g.N.Naming.named inside.name) _ c.args.place c.in-Held.block c.self.invariant.numbers.named (fetched_held g.S.Spool.tells inside.plan inside.first inside.kept.items c.args.place c.in-Held.block owed.kept found c.self.invariant.numbers.spelled))

pub fetch_once-requires-clause-window : goal.fetch_once-requires-clause-window
fetch_once-requires-clause-window g c =
    let inside = c.self.inside in
    let owed = rw (← c.self.view_is) at c.requires in
    let out = out_at g.S.Spool.tells (g.S.Spool.held inside.spool) inside.plan inside.first inside.kept.items c.args.place c.in-Some.kept.now c.in-Spilled.marks c.in-Spilled.field-1 c.self.invariant.put owed.kept (search rules) (search rules) c.in-Spilled.is in
    in_run (g.N.Naming.named inside.name) inside.plan inside.floor inside.top inside.first (all_of inside.kept.items) inside.from inside.starts.items inside.next_start (c.args.place - inside.first) _ c.self.invariant.numbers out.is

pub fetch_once-requires-clause-held : goal.fetch_once-requires-clause-held
fetch_once-requires-clause-held g c =
    let inside = c.self.inside in
    let owed = rw (← c.self.view_is) at c.requires in
    let out = out_at g.S.Spool.tells (g.S.Spool.held inside.spool) inside.plan inside.first inside.kept.items c.args.place c.in-Some.kept.now c.in-Spilled.marks c.in-Spilled.field-1 c.self.invariant.put owed.kept (search rules) (search rules) c.in-Spilled.is in
    out.there

pub fetch_once-requires-clause-spells : goal.fetch_once-requires-clause-spells
fetch_once-requires-clause-spells g c =
    let inside = c.self.inside in
    let owed = rw (← c.self.view_is) at c.requires in
    let out = out_at g.S.Spool.tells (g.S.Spool.held inside.spool) inside.plan inside.first inside.kept.items c.args.place c.in-Some.kept.now c.in-Spilled.marks c.in-Spilled.field-1 c.self.invariant.put owed.kept (search rules) (search rules) c.in-Spilled.is in
    spells_put g.S.Spool.tells inside.plan inside.first inside.kept.items c.args.place c.in-Spilled.marks c.in-Spilled.field-1.value (g.S.Spool.held inside.spool c.args.place) out c.self.invariant.numbers.spelled

pub fetch_once-requires-clause-latest : goal.fetch_once-requires-clause-latest
fetch_once-requires-clause-latest g c =
    let inside = c.self.inside in
    let owed = rw (← c.self.view_is) at c.requires in
    let out = out_at g.S.Spool.tells (g.S.Spool.held inside.spool) inside.plan inside.first inside.kept.items c.args.place c.in-Some.kept.now c.in-Spilled.marks c.in-Spilled.field-1 c.self.invariant.put owed.kept (search rules) (search rules) c.in-Spilled.is in
    latest_of g.S.Spool.tells inside.plan inside.first inside.kept.items c.args.place c.in-Spilled.marks c.in-Spilled.field-1.value (g.S.Spool.held inside.spool c.args.place) inside.latest out c.self.invariant.latest_is

pub invariant_of-self : goal.invariant_of-self
invariant_of-self g c =
    let inside = c.self.inside in
    let owed = rw (← c.self.view_is) at c.requires in
    let out = out_at g.S.Spool.tells (g.S.Spool.held inside.spool) inside.plan inside.first inside.kept.items c.args.place c.in-Some.kept.now c.in-Spilled.marks c.in-Spilled.field-1 c.self.invariant.put owed.kept (search rules) (search rules) c.in-Spilled.is in
    stored_fetched g.S.Spool.tells (g.S.Spool.held inside.spool) (g.S.Spool.held c.fetch_once.new.spool) (g.N.Naming.named inside.name) inside.plan inside.floor inside.top inside.first inside.kept.items inside.from inside.starts.items inside.next_start inside.latest c.fetch_once.new.latest c.self.invariant c.fetch_once.ensures.held (latest_after g.S.Spool.tells inside.plan inside.first inside.kept.items c.args.place c.in-Spilled.marks c.in-Spilled.field-1.value (g.S.Spool.held inside.spool c.args.place) inside.latest c.fetch_once.new.latest out c.fetch_once.ensures.latest c.self.invariant.latest_is)

pub invariant_of-self-2 : goal.invariant_of-self-2
invariant_of-self-2 g c =
    let inside = c.self.inside in
    let owed = rw (← c.self.view_is) at c.requires in
    let out = out_at g.S.Spool.tells (g.S.Spool.held inside.spool) inside.plan inside.first inside.kept.items c.args.place c.in-Some.kept.now c.in-Spilled.marks c.in-Spilled.field-1 c.self.invariant.put owed.kept (search rules) (search rules) c.in-Spilled.is in
    stored_fetched g.S.Spool.tells (g.S.Spool.held inside.spool) (g.S.Spool.held c.fetch_once.new.spool) (g.N.Naming.named inside.name) inside.plan inside.floor inside.top inside.first inside.kept.items inside.from inside.starts.items inside.next_start inside.latest c.fetch_once.new.latest c.self.invariant c.fetch_once.ensures.held (latest_after g.S.Spool.tells inside.plan inside.first inside.kept.items c.args.place c.in-Spilled.marks c.in-Spilled.field-1.value (g.S.Spool.held inside.spool c.args.place) inside.latest c.fetch_once.new.latest out c.fetch_once.ensures.latest c.self.invariant.latest_is)

pub returns-in_err-block-clause-read : goal.returns-in_err-block-clause-read
returns-in_err-block-clause-read g c =
    let inside = c.self.inside in
    let owed = rw (← c.self.view_is) at c.requires in
    let out = out_at g.S.Spool.tells (g.S.Spool.held inside.spool) inside.plan inside.first inside.kept.items c.args.place c.in-Some.kept.now c.in-Spilled.marks c.in-Spilled.field-1 c.self.invariant.put owed.kept (search rules) (search rules) c.in-Spilled.is in
    let within : c.args.place - inside.first < length inside.kept.items = search rules in
    let below : c.args.place < inside.first + length (all_of inside.kept.items) = omega (arith, within, owed.kept, length-map inside.kept.items block_of) in
    let p = err_from_is_err_and c.from_residual-in_err-block.result c.from_residual-in_err-block.ensures.1 in
    rw (← c.self.view_is, p.1 ∙ ap Err p.2) (refused g.S.Spool.tells (g.N.Naming.named inside.name) _ c.args.place c.in-Spilled.marks c.in-Spilled.field-1.value c.in_err-block.field-0.0 out.is below c.in_err-block.ensures.err)

pub returns-clause-read : goal.returns-clause-read
returns-clause-read g c =
    let inside = c.self.inside in
    let owed = rw (← c.self.view_is) at c.requires in
    let out = out_at g.S.Spool.tells (g.S.Spool.held inside.spool) inside.plan inside.first inside.kept.items c.args.place c.in-Some.kept.now c.in-Spilled.marks c.in-Spilled.field-1 c.self.invariant.put owed.kept (search rules) (search rules) c.in-Spilled.is in
    rw (← c.self.view_is) (read_is g.S.Spool.tells (g.N.Naming.named inside.name) _ c.args.place c.in_ok-block.block c.self.invariant.numbers.named (fetched_spilled g.S.Spool.tells inside.plan inside.first inside.kept.items c.args.place c.in-Spilled.marks c.in-Spilled.field-1.value c.in_ok-block.block (g.S.Spool.held inside.spool c.args.place) out c.in_ok-block.ensures.ok))
