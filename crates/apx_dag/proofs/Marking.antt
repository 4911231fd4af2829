-- Setting one mark after the other.
use Rattle.std.proofs.Common.{◌≡◌, ℕ, zero, suc, ◌<◌, Bool, true, false, List, [], ◌∷◌, length, set, replicate, ◌⊎◌, inl, inr, refl, sym, ap, subst, ◌∙◌, arith}
use Rattle.std.proofs.lemmas.Bool.{cases_eq}
use Rattle.std.proofs.lemmas.List.{get_or-set_same, get_or-set_other, get_or_past, length-replicate}
use Rattle.apx_dag.specs.declared.link.Link.{Link}
use Rattle.apx_dag.specs.Order.{Feeds, IsWithin, Reaches, at_once, through}
use Rattle.apx_dag.specs.Marks.{mark_at, IsUpstreamNext, IsUpstreamDone}

-- how many marks are not set
abbrev pub unset : List Bool → ℕ
unset [] = 0
unset (true ∷ marks) = unset marks
unset (false ∷ marks) = suc (unset marks)

pub set_keeps : (marks : List Bool) (i a : ℕ) → i < length marks → mark_at marks a ≡ true → mark_at (set marks i true) a ≡ true
set_keeps marks i a lt e =
    elim (cases_eq a i) [
      | inl same ↦ rw same (get_or-set_same marks i true false lt)
      | inr other ↦ rw (get_or-set_other marks i a true false other) e
    ]

pub set_at : (marks : List Bool) (i : ℕ) → i < length marks → mark_at (set marks i true) i ≡ true
set_at marks i lt = get_or-set_same marks i true false lt

pub set_cases : (marks : List Bool) (i a : ℕ) → mark_at (set marks i true) a ≡ true → (a ≡ i) ⊎ (mark_at marks a ≡ true)
set_cases marks i a e =
    elim (cases_eq a i) [
      | inl same ↦ inl same
      | inr other ↦ inr (sym (get_or-set_other marks i a true false other) ∙ e)
    ]

pub unset_falls : (marks : List Bool) (i : ℕ) → i < length marks → mark_at marks i ≡ false → suc (unset (set marks i true)) ≡ unset marks
unset_falls [] i lt e = absurd (omega arith)
unset_falls (true ∷ marks) zero lt e = absurd cc
unset_falls (false ∷ marks) zero lt e = refl
unset_falls (true ∷ marks) (suc i) lt e = unset_falls marks i (omega arith) e
unset_falls (false ∷ marks) (suc i) lt e = ap suc (unset_falls marks i (omega arith) e)

pub none_unset : (marks : List Bool) → ((i : ℕ) → i < length marks → mark_at marks i ≡ true) → unset marks ≡ 0
none_unset [] all = refl
none_unset (true ∷ marks) all = none_unset marks (λ i lt. all (suc i) (omega arith))
none_unset (false ∷ marks) all = let first : false ≡ true = all 0 (omega arith) in absurd cc

pub none_set : (n i : ℕ) → mark_at (replicate n false) i ≡ false
none_set zero i = get_or_past [] i false (omega arith)
none_set (suc n) zero = refl
none_set (suc n) (suc i) = none_set n i

pub all_unset : (n : ℕ) → unset (replicate n false) ≡ n
all_unset zero = refl
all_unset (suc n) = ap suc (all_unset n)

-- what is marked next leads to the operator too
pub next_reaches : (links : List Link) (of : ℕ) (marks : List Bool) (a : ℕ) → ((b : ℕ) → mark_at marks b ≡ true → Reaches links b of) → IsUpstreamNext links of marks a → Reaches links a of
next_reaches links of marks a sound next =
    elim next.feeds [
      | inl first ↦ at_once first
      | inr other ↦ through other.2 (sound other.0 other.1)
    ]

pub next_here : (links : List Link) (of : ℕ) (marks : List Bool) (a : ℕ) → IsWithin links → IsUpstreamNext links of marks a → a < length links
next_here links of marks a within next =
    elim next.feeds [
      | inl first ↦ within a of first
      | inr other ↦ within a other.0 other.2
    ]

-- where nothing is left to mark, whatever leads to the operator is marked
pub all_marked : (links : List Link) (of : ℕ) (marks : List Bool) → IsUpstreamDone links of marks → (a c : ℕ) → Reaches links a c → c ≡ of → mark_at marks a ≡ true
all_marked links of marks done a c (at_once feeds) e = done.first a (subst (λ (x : ℕ). Feeds links a x) e feeds)
all_marked links of marks done a c (through {b = b} feeds reaches) e = done.others b (all_marked links of marks done b c reaches e) a feeds

pub none_marked : (links : List Link) (of : ℕ) (marks : List Bool) → marks ≡ replicate (length links) false → (length marks ≡ length links) × ((a : ℕ) → mark_at marks a ≡ true → Reaches links a of)
none_marked links of marks e =
    (rw e (length-replicate (length links) false), λ a m. let none : mark_at marks a ≡ false = rw e (none_set (length links) a) in absurd cc)

pub keeps_sound : (links : List Link) (of : ℕ) (marks : List Bool) (i : ℕ) → ((a : ℕ) → mark_at marks a ≡ true → Reaches links a of) → IsUpstreamNext links of marks i → (a : ℕ) → mark_at (set marks i true) a ≡ true → Reaches links a of
keeps_sound links of marks i sound next a e =
    elim (set_cases marks i a e) [
      | inl same ↦ rw same (next_reaches links of marks i sound next)
      | inr before ↦ sound a before
    ]
