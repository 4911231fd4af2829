-- What several calls have heard of a folder.
use Rattle.std.proofs.Common.{◌≡◌, ◌⊎◌, inl, inr, ℕ, List, [], ◌∷◌, ◌++◌, Option, Result, Ok, Err, refl, subst, sym, append_assoc}
use Rattle.std.proofs.lemmas.List.{append-nil}
use Rattle.apx_device.specs.declared.folder.ReadRefusal.{ReadRefusal}
use Rattle.apx_device.specs.Folder.{Says, Answer, Hears, Gave, AreTold}

-- no read
pub hears_none : (heard P : List Answer → Type 0) → P [] → Hears heard heard P
hears_none heard P none = λ before old. ([], subst heard (sym (append-nil before)) old, none)

-- one read
pub hears_one : (old new : List Answer → Type 0) (answer : Answer) → ((before : List Answer) → old before → new (before ++ answer ∷ [])) → Hears old new (λ answers. answers ≡ answer ∷ [])
hears_one old new answer read = λ before is. (answer ∷ [], read before is, refl)

-- some calls, and then others
pub hears_then : (old mid new P Q R : List Answer → Type 0) → ((first second : List Answer) → P first → Q second → R (first ++ second)) → Hears old mid P → Hears mid new Q → Hears old new R
hears_then old mid new P Q R both first second = λ before is.
    let one = first before is in
    let two = second (before ++ one.0) one.1 in
    (one.0 ++ two.0, subst new (append_assoc before one.0 two.0) two.1, both one.0 two.0 one.2 two.2)

-- a weaker property of the answers
pub hears_weaker : (old new P Q : List Answer → Type 0) → ((answers : List Answer) → P answers → Q answers) → Hears old new P → Hears old new Q
hears_weaker old new P Q weak hears = λ before is. let one = hears before is in (one.0, one.1, weak one.0 one.2)

module _ (name : List ℕ) (limit : ℕ) (gave : Result (List ℕ) ReadRefusal) where
  -- an answer among the first stands among all
  pub Gave-first : (first second : List Answer) → Gave first name limit gave → Gave (first ++ second) name limit gave
  Gave-first [] second given = absurd given
  Gave-first (answer ∷ first) second (inl here) = inl here
  Gave-first (answer ∷ first) second (inr there) = inr (Gave-first first second there)

  -- an answer among the second stands among all
  pub Gave-second : (first second : List Answer) → Gave second name limit gave → Gave (first ++ second) name limit gave
  Gave-second [] second given = given
  Gave-second (answer ∷ first) second given = inr (Gave-second first second given)

  -- an answer among told ones says what the files are
  pub Gave-told : (told : List ℕ → Option (List ℕ)) (answers : List Answer) → AreTold told answers → Gave answers name limit gave → Says (told name) limit gave
  Gave-told told [] are given = absurd given
  Gave-told told (answer ∷ answers) are (inl here) = subst (λ (a : Answer). Says (told a.name) a.limit a.gave) here are.0
  Gave-told told (answer ∷ answers) are (inr there) = Gave-told told answers are.1 there

-- answers of two runs of calls that are told are told together
pub AreTold-append : (told : List ℕ → Option (List ℕ)) (first second : List Answer) → AreTold told first → AreTold told second → AreTold told (first ++ second)
AreTold-append told [] second one two = two
AreTold-append told (answer ∷ first) second one two = (one.0, AreTold-append told first second one.1 two)
