use Rattle.std.proofs.Common.{◌≡◌, ℕ, zero, suc, ◌<◌, ◌≤◌, List, [], ◌∷◌, length, get_or, Some, sym, ap, subst, ◌∙◌, arith}
use Rattle.apx_tuple.specs.declared.progress.Progress.{Progress}
use Rattle.apx_tuple.specs.declared.tuple.Tuple.{Tuple}
use Rattle.apx_list.specs.declared.block.Block.{Block}
use Rattle.apx_list.specs.declared.plan.CutPlan.{CutPlan}
use Rattle.apx_list.specs.Listed.{Listed}
use Rattle.apx_list.specs.Window.{SpellWindow}
use Rattle.apx_held.specs.declared.held.Unnamed.{Unnamed}
use Rattle.apx_held.specs.Begun.{first_holding}
use Rattle.apx_held.specs.Holding.{Holding, holding, put_holding, taken, brought, empty_list, AreNext}
use Rattle.apx_held.specs.Lent.{CanLend}
use Rattle.apx_held.proofs.Blocks.{Takes, takes_window}
use Rattle.apx_held.proofs.tests.a_window_is_lent_until_it_is_dropped.Goals as goal

-- what is kept for one partition, of which the progress is out
abbrev out : CutPlan → List (List Holding)
out plan = (taken (first_holding plan) ∷ []) ∷ []

first_window : (plan : CutPlan) (blocks : List Block) (tuples : List Tuple) → SpellWindow plan 1 blocks tuples → 1 ≤ plan.windows → Takes (empty_list plan 0) blocks
first_window plan blocks tuples spell there = takes_window (empty_list plan 0) blocks tuples spell there tt

-- the list with the first window
abbrev one_window : CutPlan → List Block → Listed Unnamed
one_window plan blocks = record (empty_list plan 0) { top = 1; blocks = blocks }

-- what is kept once the window is brought
brought_one : (plan : CutPlan) (hs gs : List (List Holding)) (g : Progress) (blocks : List Block) → hs ≡ out plan → gs ≡ put_holding hs 0 0 (brought g blocks (holding hs 0 0)) → Takes (empty_list plan 0) blocks
    → gs ≡ (record { state = Some g; list = one_window plan blocks } ∷ []) ∷ []
brought_one plan hs gs g blocks was now takes =
    now ∙ ap (λ (ks : List (List Holding)). put_holding ks 0 0 (brought g blocks (holding ks 0 0))) was ∙ ap (λ (l : Listed Unnamed). (record { state = Some g; list = l } ∷ []) ∷ []) takes.all

lends : (plan : CutPlan) (g : Progress) (blocks : List Block) (gs : List (List Holding)) → gs ≡ (record { state = Some g; list = one_window plan blocks } ∷ []) ∷ []
    → (i : ℕ) → i < length (get_or gs 0 []) → CanLend 1 (holding gs 0 i).list
lends plan g blocks gs is i lt = subst (λ (ks : List (List Holding)). CanLend 1 (holding ks 0 i).list) (sym is) (here i (subst (λ (ks : List (List Holding)). i < length (get_or ks 0 [])) is lt))
  where
    here : (i : ℕ) → i < 1 → CanLend 1 (holding ((record { state = Some g; list = one_window plan blocks } ∷ []) ∷ []) 0 i).list
    here zero h = record { kept = omega arith; whole = omega arith }
    here (suc i) h = absurd (omega arith)

pub bring-requires-clause-next : goal.bring-requires-clause-next
bring-requires-clause-next g c =
    let was = c.take-progress.ensures.out ∙ ap (λ (hs : List (List Holding)). put_holding hs 0 0 (taken (holding hs 0 0))) c.in_ok-contents.ensures in
    subst (λ (hs : List (List Holding)). AreNext (holding hs 0 0).list c.in_ok-blocks.blocks.items) (sym was)
    (first_window _ c.in_ok-blocks.blocks.items _ c.in_ok-blocks.ensures.window (omega arith)).next

pub lend-requires-clause-windows : goal.lend-requires-clause-windows
lend-requires-clause-windows g c =
    let was = c.take-progress.ensures.out ∙ ap (λ (hs : List (List Holding)). put_holding hs 0 0 (taken (holding hs 0 0))) c.in_ok-contents.ensures in
    let takes = first_window _ c.in_ok-blocks.blocks.items _ c.in_ok-blocks.ensures.window (omega arith) in
    lends _ _ _ _ (c.spill.ensures.same ∙ brought_one _ _ _ _ c.in_ok-blocks.blocks.items was c.in_ok-bring.ensures takes)

pub purge-requires-clause-floor : goal.purge-requires-clause-floor
purge-requires-clause-floor g c =
    let was = c.take-progress.ensures.out ∙ ap (λ (hs : List (List Holding)). put_holding hs 0 0 (taken (holding hs 0 0))) c.in_ok-contents.ensures in
    let takes = first_window _ c.in_ok-blocks.blocks.items _ c.in_ok-blocks.ensures.window (omega arith) in
    let is = c.in_ok-lists.ensures.same ∙ (c.spill.ensures.same ∙ brought_one _ _ _ _ c.in_ok-blocks.blocks.items was c.in_ok-bring.ensures takes) in
    subst (λ (hs : List (List Holding)). (holding hs 0 0).list.floor ≤ 1) (sym is) (omega arith)

pub purge-requires-clause-top : goal.purge-requires-clause-top
purge-requires-clause-top g c =
    let was = c.take-progress.ensures.out ∙ ap (λ (hs : List (List Holding)). put_holding hs 0 0 (taken (holding hs 0 0))) c.in_ok-contents.ensures in
    let takes = first_window _ c.in_ok-blocks.blocks.items _ c.in_ok-blocks.ensures.window (omega arith) in
    let is = c.in_ok-lists.ensures.same ∙ (c.spill.ensures.same ∙ brought_one _ _ _ _ c.in_ok-blocks.blocks.items was c.in_ok-bring.ensures takes) in
    subst (λ (hs : List (List Holding)). 1 ≤ (holding hs 0 0).list.top) (sym is) (omega arith)
