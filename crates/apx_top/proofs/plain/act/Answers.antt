use Rattle.std.proofs.Common.{refl, map, sym, subst}
use Rattle.std.specs.Prelude.{string_bytes}
use Rattle.apx_load.proofs.Heard.{heard_weaker}
use Rattle.apx_top.specs.Left.{left_of}
use Rattle.apx_top.specs.Plain.{performed, IsSim}
use Rattle.apx_top.proofs.Performing.{untouched, unheard_ended}
use Rattle.apx_top.proofs.plain.act.Goals as goal

pub returns-in-Ok-clause-heard : goal.returns-in-Ok-clause-heard
returns-in-Ok-clause-heard g c =
    heard_weaker g.F.Folder.tells (g.F.Folder.told c.args.files.now) (g.F.Folder.heard c.args.files.now) (g.F.Folder.heard c.perform.new.files) _ _
    (λ answers is. performed c.in-Ok.command c.in-Ok.ensures.answers is)
    c.perform.ensures.heard

pub returns-in-Ok-clause-silent : goal.returns-in-Ok-clause-silent
returns-in-Ok-clause-silent g c = λ none. c.perform.ensures.silent (λ sim. none (subst IsSim (sym c.in-Ok.ensures.answers) sim))

pub returns-in-Err-clause-heard : goal.returns-in-Err-clause-heard
returns-in-Err-clause-heard g c =
    unheard_ended g.F.Folder.tells (g.F.Folder.told c.args.files.now) (g.F.Folder.heard c.args.files.now) (map string_bytes c.args.words.now) _ _ _ _ c.in-Err.refusal c.from.result (left_of c.unrun.result) c.from.ensures c.unrun.ensures.left (untouched c.args.devices c.unrun.result.devices c.unrun.ensures.devices) refl c.in-Err.ensures.answers
