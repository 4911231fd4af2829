use Rattle.std.proofs.Common.{List, [], ◌∷◌, ◌++◌, ap, ◌∙◌}
use Rattle.std.specs.List.{filter}
use Rattle.apx_history.specs.declared.Event.{Event}
use Rattle.apx_history.specs.declared.Event.TheVariants.{End}
use Rattle.apx_history.specs.Enabled.{can}
use Rattle.apx_history.specs.Choices.{writes, commits, choices}
use Rattle.apx_machine.specs.declared.listing.Row.TheVariants as row
use Rattle.apx_machine.specs.declared.listing.Met.TheVariants as met
use Rattle.apx_machine.specs.declared.picking.Sought.TheVariants.{Ahead}
use Rattle.apx_machine.specs.Listed.{of_row, of_lines}
use Rattle.apx_machine.specs.Picked.{wants, sought_in}
use Rattle.apx_machine.proofs.Seeking.{sought_next}
use Rattle.apx_machine.proofs.engine.Engine.search.Goals as goal

pub returns : goal.returns
unfolding choices
returns c =
    let starts : List Event = of_row c.args.self.now.plan c.args.self.now.state row.Start in
    let write : List Event = filter (can c.args.self.now.plan c.args.self.now.state) (writes c.args.self.now.state) in
    let finishes : List Event = of_row c.args.self.now.plan c.args.self.now.state row.Finish in
    let saves : List Event = of_row c.args.self.now.plan c.args.self.now.state row.Save in
    let advances : List Event = of_row c.args.self.now.plan c.args.self.now.state row.Advance in
    let commit : List Event = filter (can c.args.self.now.plan c.args.self.now.state) (commits c.args.self.now.plan c.args.self.now.state) in
    let purges : List Event = of_row c.args.self.now.plan c.args.self.now.state row.Purge in
    let kills : List Event = of_lines c.args.self.now.plan c.args.self.now.state met.Kill in
    let replaces : List Event = of_lines c.args.self.now.plan c.args.self.now.state met.Repartition in
    let ends : List Event = filter (can c.args.self.now.plan c.args.self.now.state) (End ∷ []) in
    let to_write = sought_next (wants c.args.self.now.plan c.args.self.now.state c.args.want) starts write (Ahead c.args.place) c.seek_row-started.result c.seek-written.result c.seek_row-started.ensures (c.seek-written.ensures ∙ ap (λ (e : Event). sought_in (wants c.args.self.now.plan c.args.self.now.state c.args.want) (filter (can c.args.self.now.plan c.args.self.now.state) (e ∷ [])) c.seek_row-started.result) c.next_write.ensures) in
    let to_finishes = sought_next (wants c.args.self.now.plan c.args.self.now.state c.args.want) (starts ++ write) finishes (Ahead c.args.place) c.seek-written.result c.seek_row-finished.result to_write c.seek_row-finished.ensures in
    let to_saves = sought_next (wants c.args.self.now.plan c.args.self.now.state c.args.want) (starts ++ write ++ finishes) saves (Ahead c.args.place) c.seek_row-finished.result c.seek_row-saved.result to_finishes c.seek_row-saved.ensures in
    let to_advances = sought_next (wants c.args.self.now.plan c.args.self.now.state c.args.want) (starts ++ write ++ finishes ++ saves) advances (Ahead c.args.place) c.seek_row-saved.result c.seek_row-advanced.result to_saves c.seek_row-advanced.ensures in
    let to_commit = sought_next (wants c.args.self.now.plan c.args.self.now.state c.args.want) (starts ++ write ++ finishes ++ saves ++ advances) commit (Ahead c.args.place) c.seek_row-advanced.result c.seek-committed.result to_advances (c.seek-committed.ensures ∙ ap (λ (e : Event). sought_in (wants c.args.self.now.plan c.args.self.now.state c.args.want) (filter (can c.args.self.now.plan c.args.self.now.state) (e ∷ [])) c.seek_row-advanced.result) c.next_commit.ensures) in
    let to_purges = sought_next (wants c.args.self.now.plan c.args.self.now.state c.args.want) (starts ++ write ++ finishes ++ saves ++ advances ++ commit) purges (Ahead c.args.place) c.seek-committed.result c.seek_row-purged.result to_commit c.seek_row-purged.ensures in
    let to_kills = sought_next (wants c.args.self.now.plan c.args.self.now.state c.args.want) (starts ++ write ++ finishes ++ saves ++ advances ++ commit ++ purges) kills (Ahead c.args.place) c.seek_row-purged.result c.seek_lines-killed.result to_purges c.seek_lines-killed.ensures in
    let to_replaces = sought_next (wants c.args.self.now.plan c.args.self.now.state c.args.want) (starts ++ write ++ finishes ++ saves ++ advances ++ commit ++ purges ++ kills) replaces (Ahead c.args.place) c.seek_lines-killed.result c.seek_lines-replaced.result to_kills c.seek_lines-replaced.ensures in
    sought_next (wants c.args.self.now.plan c.args.self.now.state c.args.want) (starts ++ write ++ finishes ++ saves ++ advances ++ commit ++ purges ++ kills ++ replaces) ends (Ahead c.args.place) c.seek_lines-replaced.result c.seek.result to_replaces c.seek.ensures
