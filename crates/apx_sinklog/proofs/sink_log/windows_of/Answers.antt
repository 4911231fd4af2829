use Rattle.std.proofs.Common.{◌≡◌, ◌+◌, ◌^◌, ◌<◌, [], ◌∷◌, ◌++◌, length, Option, Some, sym, ap, ◌∙◌, subst, arith, length-append}
use Rattle.std.specs.Option.{option_map}
use Rattle.std.specs.Prelude.{IfSome}
use Rattle.apx_sinklog.specs.declared.logged.LoggedWindow.{LoggedWindow}
use Rattle.apx_sinklog.specs.Logged.{logged_rows, logged_windows}
use Rattle.apx_sinklog.specs.Windows.{window_in}
use Rattle.apx_sinklog.proofs.Pushed.{logged-push}
use Rattle.apx_sinklog.proofs.Reading.{windows_next}
use Rattle.apx_sinklog.proofs.sink_log.windows_of.Goals as goal

pub loop-number-preserved : goal.loop-number-preserved
loop-number-preserved c =
    let number = c.loop-number.number in
    let found : window_in (number + 1) c.index-read-number.result.body.items ≡ Some (logged_rows c.in-Some.window) =
    ap (window_in (number + 1)) (sym c.deref.ensures.value) ∙ sym c.in-Ok.ensures.rows ∙ ap (λ (o : Option LoggedWindow). option_map logged_rows o) c.in-Some.is in
    let pushed : logged_windows c.keep.new.windows.items ≡ logged_windows c.loop-number.windows.items ++ logged_rows c.in-Some.window ∷ [] =
    ap logged_windows c.in-Ok-keep.ensures ∙ logged-push c.loop-number.windows.items c.in-Some.window in
    let lengths = ap length c.in-Ok-keep.ensures in
    let few : number + 1 < 2 ^ 32 = subst (λ (o : Option LoggedWindow). IfSome o (λ _. number + 1 < 2 ^ 32)) c.in-Some.is c.in-Ok.ensures.few in
    record {
      read = windows_next c.args.read.now number c.index-read-number.result (omega arith) c.index-read-number.is (logged_windows c.loop-number.windows.items) _ c.loop-number.invariant.read (logged_windows c.keep.new.windows.items) (logged_rows c.in-Some.window) found pushed;
      few = few;
      count = omega (arith, lengths, length-append c.loop-number.windows.items (c.in-Some.window ∷ []), c.loop-number.invariant.count);
    }
