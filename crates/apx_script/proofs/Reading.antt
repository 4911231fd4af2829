-- Reading the lines of a script one after the other, as a loop does.
use Rattle.std.proofs.Common.{◌≡◌, ℕ, ◌+◌, ◌<◌, nat_lt, Bool, true, false, List, [], ◌∷◌, ◌++◌, length, Option, Some, None, Result, Ok, Err, refl, sym, ap, ◌∙◌, append_assoc, arith}
use Rattle.std.proofs.lemmas.Grind.{common_steps}
use Rattle.std.proofs.lemmas.List.{append-nil}
use borrow.Author.Tests.{ltb-true}
use Rattle.apx_pass.specs.Lines as texts
use Rattle.apx_pass.specs.Script.{Act, Line, RefusedLine, act_of, is_passed_over, command_at, in_front, script_from, script_of}
use Rattle.apx_script.specs.declared.refusal.ScriptRefusal.{ScriptRefusal}
use Rattle.apx_script.specs.declared.refusal.ScriptRefusal.TheVariants as refusal
use Rattle.apx_script.specs.Refusal.{Fails}

-- the commands read before, and those that are still read
abbrev pub with_front : List Line → Result (List Line) RefusedLine → Result (List Line) RefusedLine
with_front front (Ok lines) = Ok (front ++ lines)
with_front front (Err refused) = Err refused

regroup : (front : List Line) (line : Line) (others : Result (List Line) RefusedLine) → with_front front (in_front (Ok line) others) ≡ with_front (front ++ line ∷ []) others
regroup front line (Ok lines) = ap (λ (all : List Line). Ok all) (simp append_assoc)
regroup front line (Err refused) = refl

front_of_none : (read : Result (List Line) RefusedLine) → with_front [] read ≡ read
front_of_none (Ok lines) = refl
front_of_none (Err refused) = refl

-- before the first line
pub begins : (front : List Line) (bytes : List ℕ) → front ≡ [] → with_front front (script_from 1 (length front) (texts.lines bytes)) ≡ script_of bytes
unfolding script_of
begins front bytes e = rw e (front_of_none (script_from 1 0 (texts.lines bytes)))

module _ (number : ℕ) (line : List ℕ) (lines all : List (List ℕ)) (total : Result (List Line) RefusedLine) (front : List Line) (first : all ≡ line ∷ lines) (so_far : with_front front (script_from number (length front) all) ≡ total) where
  opened : with_front front (script_from number (length front) (line ∷ lines)) ≡ total
  opened = rw first at so_far

  -- a line that is passed over
  pub goes_past : is_passed_over line ≡ true → with_front front (script_from (number + 1) (length front) lines) ≡ total
  unfolding script_from
  goes_past over = rw over at opened

  -- a command
  pub goes_on : (before : ℕ) (command : Line) (now : List Line) → is_passed_over line ≡ false → before ≡ length front → command_at number before (act_of line) ≡ Ok command → now ≡ front ++ command ∷ [] → with_front now (script_from (number + 1) (length now) lines) ≡ total
  unfolding script_from
  goes_on before command now over behind is e =
      let long : length now ≡ length front + 1 = grind (arith, common_steps, e) in
      let at_length : command_at number (length front) (act_of line) ≡ Ok command = rw behind at is in
      let here : with_front front (in_front (Ok command) (script_from (number + 1) (length front + 1) lines)) ≡ total = rw at_length at (rw over at opened) in
      rw (long, e) (sym (regroup front command (script_from (number + 1) (length front + 1) lines)) ∙ here)

  -- a line that is refused, or want of memory
  pub ends : (before : ℕ) (e : ScriptRefusal) → is_passed_over line ≡ false → before ≡ length front → Fails e (command_at number before (act_of line)) → Fails e total
  unfolding script_from
  ends before (refusal.Line at why) over behind is =
      let at_length : command_at number (length front) (act_of line) ≡ Err (record { line = at; why = why }) = rw behind at is in
      let here : with_front front (in_front (Err (record { line = at; why = why })) (script_from (number + 1) (length front + 1) lines)) ≡ total = rw at_length at (rw over at opened) in
      sym here
  ends before refusal.Memory over behind is = tt

-- no line is left
pub is_done : (number before : ℕ) (all : List (List ℕ)) (front : List Line) (total : Result (List Line) RefusedLine) → all ≡ [] → with_front front (script_from number before all) ≡ total → total ≡ Ok front
unfolding script_from
is_done number before all front total none so_far =
    let here : with_front front (script_from number before []) ≡ total = rw none at so_far in
    sym here ∙ ap (λ (all : List Line). Ok all) (append-nil front)

-- a command has fewer than a thousand before it
pub is_early : (number before : ℕ) (act : Option Act) (line : Line) → command_at number before act ≡ Ok line → before < 1000
unfolding command_at
is_early number before None line e = absurd cc
is_early number before (Some act) line e = by (nat_lt before 1000) refl
  where
    by : (b : Bool) → nat_lt before 1000 ≡ b → before < 1000
    by true t = ltb-true _ _ t
    by false f = absurd (let bad = rw f at e in cc)
