-- The first line that is refused, one line further.
use Rattle.std.proofs.Common.{◌≡◌, ℕ, ◌+◌, ◌<◌, ◌≤◌, List, [], ◌∷◌, ◌++◌, length, take, drop, get_or, Option, Some, None, refl, ap, sym, ◌∙◌, add-one, drop-cons}
use Rattle.std.specs.Option.{option_map, option_or}
use Rattle.std.proofs.lemmas.List.{drop_all, take_more}
use Rattle.apx_pass.specs.Script.{Line}
use Rattle.apx_job.specs.Job.{first_refused_behind}

module _ (why : List Line → Line → Option ℕ) (lines : List Line) (k : ℕ) where
  pub behind-next : (line : Line) → k < length lines → line ≡ get_or lines k line →
      first_refused_behind why (take k lines) (drop k lines) ≡ option_or (option_map (λ r. record { line = line.number; why = r }) (why (take k lines) line)) (first_refused_behind why (take (k + 1) lines) (drop (k + 1) lines))
  unfolding first_refused_behind
  behind-next line h e =
      let front : drop k lines ≡ get_or lines k line ∷ drop (k + 1) lines = rw add-one (drop-cons lines k line h) in
      let whole : drop k lines ≡ line ∷ drop (k + 1) lines = front ∙ ap (λ (x : Line). x ∷ drop (k + 1) lines) (sym e) in
      let more : take k lines ++ line ∷ [] ≡ take (k + 1) lines = ap (λ (x : Line). take k lines ++ x ∷ []) e ∙ sym (take_more lines k line h) in
      ap (first_refused_behind why (take k lines)) whole
      ∙ ap (λ (xs : List Line). option_or (option_map (λ r. record { line = line.number; why = r }) (why (take k lines) line)) (first_refused_behind why xs (drop (k + 1) lines))) more

  pub behind-past : length lines ≤ k → first_refused_behind why (take k lines) (drop k lines) ≡ None
  unfolding first_refused_behind
  behind-past h = ap (first_refused_behind why (take k lines)) (drop_all k lines h)

  -- a line that there is a reason against is the first
  pub behind-here : (line : Line) (r : ℕ) → k < length lines → line ≡ get_or lines k line → why (take k lines) line ≡ Some r → first_refused_behind why (take k lines) (drop k lines) ≡ Some (record { line = line.number; why = r })
  behind-here line r h e s = behind-next line h e ∙ ap (λ (o : Option ℕ). option_or (option_map (λ q. record { line = line.number; why = q }) o) (first_refused_behind why (take (k + 1) lines) (drop (k + 1) lines))) s

  -- and one that there is none against is passed over
  pub behind-other : (line : Line) → k < length lines → line ≡ get_or lines k line → why (take k lines) line ≡ None → first_refused_behind why (take k lines) (drop k lines) ≡ first_refused_behind why (take (k + 1) lines) (drop (k + 1) lines)
  behind-other line h e s = behind-next line h e ∙ ap (λ (o : Option ℕ). option_or (option_map (λ q. record { line = line.number; why = q }) o) (first_refused_behind why (take (k + 1) lines) (drop (k + 1) lines))) s

pub behind-start : (why : List Line → Line → Option ℕ) (lines : List Line) → first_refused_behind why [] lines ≡ first_refused_behind why (take 0 lines) (drop 0 lines)
behind-start why lines = refl
