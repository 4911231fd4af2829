-- What a crash might have left once a file in memory has had one change more.
use Rattle.std.proofs.Common.{◌≡◌, ◌⊎◌, inl, inr, ℕ, zero, suc, ◌+◌, ◌-◌, ◌<◌, ◌≤◌, List, [], ◌∷◌, ◌++◌, length, take, drop, Vec, refl, sym, ap, ◌∙◌, subst, append_assoc, arith, length-append, length-drop}
use Rattle.std.specs.declared.alloc.Global.{Global}
use Rattle.std.proofs.lemmas.Bool.{cases_lt}
use Rattle.std.proofs.lemmas.List.{take_at, drop_at, drop-drop, length-take, take-take}
use Rattle.apx_cause.specs.Steps.{Steps}
use Rattle.apx_cause.proofs.Going.{stay}
use Rattle.apx_disk.specs.Disk.{Holds, Torn, CutTo, After, Only}
use Rattle.apx_disk.specs.declared.memory_disk.Change.{Change}
use Rattle.apx_disk.specs.declared.memory_disk.Change.TheVariants.{Wrote, Cut, Synced}
use Rattle.apx_disk.specs.Changes.{Was, Changed, Since, LeftSince}

-- the images after all changes but what is read now
abbrev Final : (List ℕ → Type 0) → List Change → List ℕ → Type 0
Final images [] image = images image
Final images (change ∷ changes) image = Final (Changed images change) changes image

now_is : (images : List ℕ → Type 0) (changes : List Change) (bytes image : List ℕ) → Since images (length changes) changes bytes image → (image ≡ bytes) ⊎ Final images changes image
now_is images [] bytes image left = left
now_is images (change ∷ changes) bytes image left = now_is (Changed images change) changes bytes image left

is_now : (images : List ℕ → Type 0) (changes : List Change) (bytes image : List ℕ) → (image ≡ bytes) ⊎ Final images changes image → Since images (length changes) changes bytes image
is_now images [] bytes image left = left
is_now images (change ∷ changes) bytes image left = is_now (Changed images change) changes bytes image left

final_push : (images : List ℕ → Type 0) (changes : List Change) (change : Change) (image : List ℕ) → Final images (changes ++ change ∷ []) image → Changed (Final images changes) change image
final_push images [] change image final = final
final_push images (first ∷ changes) change image final = final_push (Changed images first) changes change image final

push_final : (images : List ℕ → Type 0) (changes : List Change) (change : Change) (image : List ℕ) → Changed (Final images changes) change image → Final images (changes ++ change ∷ []) image
push_final images [] change image final = final
push_final images (first ∷ changes) change image final = push_final (Changed images first) changes change image final

-- ---- one change more: bytes before it, and others behind it

module _ (change : Change) (old new : List ℕ) where
  adds : (images P : List ℕ → Type 0) (changes : List Change) → ((image : List ℕ) → Was change image → image ≡ old) → P new → ((image : List ℕ) → Changed (Final images changes) change image → P image)
      → (time : ℕ) (image : List ℕ) → time ≤ length changes → Since images time (changes ++ change ∷ []) new image → Since images time changes old image ⊎ P image
  adds images P [] was now changed zero image le (inl before) = inl (inl (was image before))
  adds images P [] was now changed zero image le (inr (inl earlier)) = inl (inr earlier)
  adds images P [] was now changed zero image le (inr (inr (inl is))) = inr (subst P (sym is) now)
  adds images P [] was now changed zero image le (inr (inr (inr made))) = inr (changed image made)
  adds images P [] was now changed (suc time) image le left = absurd (omega arith)
  adds images P (first ∷ changes) was now changed zero image le (inl before) = inl (inl before)
  adds images P (first ∷ changes) was now changed zero image le (inr (inl earlier)) = inl (inr (inl earlier))
  adds images P (first ∷ changes) was now changed zero image le (inr (inr later)) = elim (adds (Changed images first) P changes was now changed zero image (omega arith) later) [
    | inl left ↦ inl (inr (inr left))
    | inr p ↦ inr p
  ]
  adds images P (first ∷ changes) was now changed (suc time) image le left = adds (Changed images first) P changes was now changed time image (omega arith) left

  keeps : (images : List ℕ → Type 0) (changes : List Change) → ((image : List ℕ) → image ≡ old → Was change image ⊎ (image ≡ new))
      → (time : ℕ) (image : List ℕ) → time ≤ length changes → Since images time changes old image → Since images time (changes ++ change ∷ []) new image
  keeps images [] was zero image le (inl is) = elim (was image is) [ inl before ↦ inl before | inr now ↦ inr (inr (inl now)) ]
  keeps images [] was zero image le (inr earlier) = inr (inl earlier)
  keeps images [] was (suc time) image le left = absurd (omega arith)
  keeps images (first ∷ changes) was zero image le (inl before) = inl before
  keeps images (first ∷ changes) was zero image le (inr (inl earlier)) = inr (inl earlier)
  keeps images (first ∷ changes) was zero image le (inr (inr later)) = inr (inr (keeps (Changed images first) changes was zero image (omega arith) later))
  keeps images (first ∷ changes) was (suc time) image le left = keeps (Changed images first) changes was time image (omega arith) left

  -- what a crash leaves now
  left_now : (changes : List Change) (image : List ℕ) → LeftSince (changes ++ change ∷ []) new (length (changes ++ change ∷ [])) image → (image ≡ new) ⊎ Changed (Final (λ _. ⊥) changes) change image
  left_now changes image left = elim (now_is (λ _. ⊥) (changes ++ change ∷ []) new image left) [
    | inl is ↦ inl is
    | inr final ↦ inr (final_push (λ _. ⊥) changes change image final)
  ]

  pushed : (P : List ℕ → Type 0) (changes : List Change) → ((image : List ℕ) → Was change image → image ≡ old) → ((image : List ℕ) → image ≡ old → Was change image ⊎ (image ≡ new)) → P new → ((image : List ℕ) → Changed (Final (λ _. ⊥) changes) change image → P image)
      → Steps (length changes) (length (changes ++ change ∷ [])) (LeftSince changes old) (LeftSince (changes ++ change ∷ []) new) P
  pushed P changes was is_was now changed = record {
    later = omega (arith, length-append changes (change ∷ []));
    only = adds (λ _. ⊥) P changes was now changed;
    here = λ image left. elim (left_now changes image left) [ inl is ↦ subst P (sym is) now | inr made ↦ changed image made ];
    kept = keeps (λ _. ⊥) changes is_was;
  }

-- what a crash may leave before a call
abbrev Now : List Change → List ℕ → List ℕ → Type 0
Now changes bytes image = LeftSince changes bytes (length changes) image

was_or_now : (changes : List Change) (old image : List ℕ) (was : Vec ℕ Global) → was.items ≡ old → (image ≡ was.items) ⊎ Final (λ _. ⊥) changes image → Now changes old image
was_or_now changes old image was same (inl is) = is_now (λ _. ⊥) changes old image (inl (is ∙ same))
was_or_now changes old image was same (inr final) = is_now (λ _. ⊥) changes old image (inr final)

-- a write
pub wrote : (changes after : List Change) (was : Vec ℕ Global) (at count : ℕ) (old new : List ℕ) → was.items ≡ old → Torn at count old new → after ≡ changes ++ Wrote was at count ∷ []
    → Steps (length changes) (length after) (LeftSince changes old) (LeftSince after new) (After (LeftSince changes old (length changes)) (Torn at count))
wrote changes after was at count old new same torn is =
    subst (λ (cs : List Change). Steps (length changes) (length cs) (LeftSince changes old) (LeftSince cs new) (After (LeftSince changes old (length changes)) (Torn at count))) (sym is)
    (pushed (Wrote was at count) old new (After (LeftSince changes old (length changes)) (Torn at count)) changes (λ image before. before ∙ same) (λ image now. inl (now ∙ sym same))
    (old, is_now (λ _. ⊥) changes old old (inl refl), torn)
    (λ image made. (made.0, was_or_now changes old made.0 was same made.1, made.2)))

-- a cut
pub cut_off : (changes after : List Change) (was : Vec ℕ Global) (len : ℕ) (old new : List ℕ) → was.items ≡ old → CutTo len old new → after ≡ changes ++ Cut was len ∷ []
    → Steps (length changes) (length after) (LeftSince changes old) (LeftSince after new) (After (LeftSince changes old (length changes)) (CutTo len))
cut_off changes after was len old new same cut is =
    subst (λ (cs : List Change). Steps (length changes) (length cs) (LeftSince changes old) (LeftSince cs new) (After (LeftSince changes old (length changes)) (CutTo len))) (sym is)
    (pushed (Cut was len) old new (After (LeftSince changes old (length changes)) (CutTo len)) changes (λ image before. before ∙ same) (λ image now. inl (now ∙ sym same))
    (old, is_now (λ _. ⊥) changes old old (inl refl), cut)
    (λ image made. (made.0, was_or_now changes old made.0 was same made.1, made.2)))

-- a sync
pub synced : (changes after : List Change) (bytes : List ℕ) → after ≡ changes ++ Synced ∷ []
    → Steps (length changes) (length after) (LeftSince changes bytes) (LeftSince after bytes) (LeftSince changes bytes (length changes))
synced changes after bytes is =
    subst (λ (cs : List Change). Steps (length changes) (length cs) (LeftSince changes bytes) (LeftSince cs bytes) (LeftSince changes bytes (length changes))) (sym is)
    (pushed Synced bytes bytes (LeftSince changes bytes (length changes)) changes (λ image before. absurd before) (λ image now. inr now)
    (is_now (λ _. ⊥) changes bytes bytes (inl refl))
    (λ image made. absurd made))

pub synced_only : (changes after : List Change) (bytes : List ℕ) → after ≡ changes ++ Synced ∷ [] → Only bytes (LeftSince after bytes (length after))
synced_only changes after bytes is =
    subst (λ (cs : List Change). Only bytes (LeftSince cs bytes (length cs))) (sym is)
    (λ image left. elim (left_now Synced bytes bytes changes image left) [ inl now ↦ now | inr made ↦ absurd made ])

-- ---- a call that changes nothing

pub torn_none : (at count : ℕ) (bytes : List ℕ) → Torn at count bytes bytes
torn_none at count bytes = record { before = refl; after = refl; no_shorter = omega arith; no_longer = omega arith }

pub cut_none : (len : ℕ) (bytes : List ℕ) → CutTo len bytes bytes
cut_none len bytes = record { before = refl; no_shorter = omega arith; no_longer = omega arith }

pub nothing : (now : ℕ) (left : ℕ → List ℕ → Type 0) → Steps now now left left (left now)
nothing now left = stay now left (left now) (λ image h. h)

pub nothing_torn : (now at count : ℕ) (left : ℕ → List ℕ → Type 0) → Steps now now left left (After (left now) (Torn at count))
nothing_torn now at count left = stay now left (After (left now) (Torn at count)) (λ image h. (image, h, torn_none at count image))

pub nothing_cut : (now len : ℕ) (left : ℕ → List ℕ → Type 0) → Steps now now left left (After (left now) (CutTo len))
nothing_cut now len left = stay now left (After (left now) (CutTo len)) (λ image h. (image, h, cut_none len image))

-- ---- the image of a torn last change

pub torn_now : (changes after : List Change) (was : Vec ℕ Global) (at count : ℕ) (bytes image : List ℕ) → after ≡ changes ++ Wrote was at count ∷ [] → Torn at count was.items image → LeftSince after bytes (length after) image
torn_now changes after was at count bytes image is torn =
    is_now (λ _. ⊥) after bytes image (inr (subst (λ (cs : List Change). Final (λ _. ⊥) cs image) (sym is) (push_final (λ _. ⊥) changes (Wrote was at count) image (was.items, inl refl, torn))))

pub cut_now : (changes after : List Change) (was : Vec ℕ Global) (len : ℕ) (bytes image : List ℕ) → after ≡ changes ++ Cut was len ∷ [] → CutTo len was.items image → LeftSince after bytes (length after) image
cut_now changes after was len bytes image is cut =
    is_now (λ _. ⊥) after bytes image (inr (subst (λ (cs : List Change). Final (λ _. ⊥) cs image) (sym is) (push_final (λ _. ⊥) changes (Cut was len) image (was.items, inl refl, cut))))

-- a write that was done is a torn one
pub holds_torn : (at : ℕ) (old bytes new : List ℕ) → at ≤ length old → Holds old at bytes new → Torn at (length bytes) old new
holds_torn at old bytes new within holds =
    let rest = drop (at + length bytes) old in
    let long : length (take at old) ≡ at = omega (arith, length-take at old, within) in
    let grouped : new ≡ take at old ++ (bytes ++ rest) = holds ∙ append_assoc (take at old) bytes rest in
    let lengths = ap length grouped in
    record {
      before = ap (take at) grouped ∙ take_at (take at old) (bytes ++ rest) at long;
      after = sym (drop-drop (length bytes) at new) ∙ ap (drop (length bytes)) (ap (drop at) grouped ∙ drop_at (take at old) (bytes ++ rest) at long) ∙ drop_at bytes rest (length bytes) refl;
      no_shorter = omega (arith, lengths, long, length-append (take at old) (bytes ++ rest), length-append bytes rest, length-drop (at + length bytes) old);
      no_longer = omega (arith, lengths, long, length-append (take at old) (bytes ++ rest), length-append bytes rest, length-drop (at + length bytes) old);
    }

-- a cut that was done is a part of one
pub cut_done : (len : ℕ) (old new : List ℕ) → len ≤ length old → new ≡ take len old → CutTo len old new
cut_done len old new within is =
    let lengths = ap length is in
    record {
      before = ap (take len) is ∙ take-take len len old (omega arith);
      no_shorter = omega (arith, lengths, length-take len old);
      no_longer = omega (arith, lengths, length-take len old);
    }

-- a torn write of what was cut off is an image of the cut
pub torn_cut : (len n : ℕ) (was image : List ℕ) → n ≡ length was - len → Torn len n was image → (length was < len → image ≡ was) → CutTo len was image
torn_cut len n was image rest torn past = record {
  before = torn.before;
  no_shorter = omega (arith, torn.no_shorter);
  no_longer = elim (cases_lt (length was) len) [
    | inl short ↦ let same = ap length (past short) in omega (arith, same)
    | inr le ↦ omega (arith, torn.no_longer, rest)
  ];
}
