-- What several calls have heard of a folder.
use Rattle.std.proofs.Common.{◌≡◌, ℕ, List, [], ◌++◌, Bool, Option, sym, subst, append_assoc}
use Rattle.std.proofs.lemmas.List.{append-nil}
use Rattle.apx_device.specs.Folder.{Answer, AreTold}
use Rattle.apx_device.proofs.Hearing.{AreTold-append}
use Rattle.apx_load.specs.Hearing.{HasHeard}

-- nothing is read
pub heard_none : (tells : Bool) (files : List ℕ → Option (List ℕ)) (old P : List Answer → Type 0) → P [] → HasHeard tells files old old P
heard_none tells files old P is = ([], (λ before h. subst old (sym (append-nil before)) h), (λ t. tt), is)

-- more is made of what was heard
pub heard_weaker : (tells : Bool) (files : List ℕ → Option (List ℕ)) (old new P Q : List Answer → Type 0) → ((answers : List Answer) → P answers → Q answers) → HasHeard tells files old new P → HasHeard tells files old new Q
heard_weaker tells files old new P Q weaker h = (h.0, h.1, h.2, weaker h.0 h.3)

-- some reads, and then others of the same files
pub heard_then : (tells : Bool) (files later : List ℕ → Option (List ℕ)) (old mid new P Q R : List Answer → Type 0) → later ≡ files → ((first second : List Answer) → P first → Q second → R (first ++ second)) → HasHeard tells files old mid P → HasHeard tells later mid new Q → HasHeard tells files old new R
heard_then tells files later old mid new P Q R same both first second = (
  first.0 ++ second.0,
  (λ before h. subst new (append_assoc before first.0 second.0) (second.1 (before ++ first.0) (first.1 before h))),
  (λ t. AreTold-append files first.0 second.0 (first.2 t) (subst (λ (f : List ℕ → Option (List ℕ)). AreTold f second.0) same (second.2 t))),
  both first.0 second.0 first.3 second.3,
)
