-- The work of the partitions of an operator, one after the other.
use Rattle.std.proofs.Common.{◌≡◌, ℕ, ◌+◌, ◌-◌, ◌<◌, false, List, [], ◌∷◌, ◌++◌, length, map, take, get_or, slice_index, refl, sym, ap, subst, ◌∙◌, arith}
use Rattle.std.specs.declared.vec.Vec.{Vec}
use Rattle.std.specs.Global.{Global}
use Rattle.std.proofs.lemmas.List.FromFn.{map-range_with_len_more, get_or-map-range_with_len, length-map-range_with_len}
use Rattle.std.proofs.lemmas.List.{get_or-map, length-map, take_more, map_push}
use Rattle.apx_pass.specs.Job.{Job}
use Rattle.apx_list.specs.declared.block.Block.{Block}
use Rattle.apx_list.specs.declared.plan.CutPlan.{CutPlan}
use Rattle.apx_list.specs.Window.{SpellWindow}
use Rattle.apx_part.specs.Fed.{plan_in, AreWindows}
use Rattle.apx_part.specs.Made.{HasBlocks}
use Rattle.apx_pass.specs.Graph.{Role, Input, Inner, Sink, is_sink}
use Rattle.apx_rules.specs.Parts.{of_parts}
use Rattle.apx_tuple.specs.declared.tuple.Tuple.{Tuple}
use Rattle.apx_blocks.proofs.Feeding.{windows-push}

-- one partition more
pub parts-more : {X : Type 0} (f : ℕ → X) (k n : ℕ) (made : X) (before after : List X) → n ≡ k + 1 → before ≡ of_parts k f → made ≡ f k → after ≡ before ++ made ∷ [] → after ≡ of_parts n f
parts-more f k n made before after e b m a =
    a ∙ (λ j. b j ++ m j ∷ []) ∙ sym (map-range_with_len_more f 0 k k (omega arith)) ∙ ap (λ (q : ℕ). of_parts q f) (sym e)

-- where the loop stands among the partitions, and what there was for the partition there
pub part-at : {X : Type 0} (f : ℕ → X) (n i k : ℕ) (xs : List X) (d x : X) → i ≡ k → xs ≡ of_parts n f → k < length xs → x ≡ get_or xs k d → (i < n) × (x ≡ f i)
part-at f n i k xs d x same e h g =
    let long : length xs ≡ n = ap length e ∙ length-map-range_with_len f 0 n in
    let within : k < n = omega arith in
    let at : x ≡ f k = g ∙ ap (λ ys. get_or ys k d) e ∙ get_or-map-range_with_len f 0 n k k d within (omega arith) in
    (omega arith, at ∙ ap f (sym same))

-- at the end it has gone through all
pub parts-all : {X : Type 0} (f : ℕ → X) (n i k : ℕ) (xs : List X) → i ≡ k → xs ≡ of_parts n f → k ≡ length xs → i ≡ n
parts-all f n i k xs same e all = same ∙ all ∙ ap length e ∙ length-map-range_with_len f 0 n

-- the blocks of one partition more
pub lists-more : (plan : CutPlan) (w : ℕ) (f : ℕ → List Tuple) (i : ℕ) (lists after : List (Vec Block Global)) (blocks : Vec Block Global) (rows : List Tuple) →
    AreWindows plan w (map (λ list. list.items) lists) (of_parts i f) → rows ≡ f i → SpellWindow plan w blocks.items rows → after ≡ lists ++ blocks ∷ [] →
    AreWindows plan w (map (λ list. list.items) after) (of_parts (i + 1) f)
lists-more plan w f i lists after blocks rows h r s a =
    let all : AreWindows plan w (map (λ list. list.items) lists ++ blocks.items ∷ []) (of_parts i f ++ f i ∷ []) =
    windows-push plan w (map (λ list. list.items) lists) (of_parts i f) blocks.items (f i) h (subst (λ (b : List Tuple). SpellWindow plan w blocks.items b) r s) in
    let left : map (λ list. list.items) lists ++ blocks.items ∷ [] ≡ map (λ list. list.items) after =
    sym (map_push (λ (list : Vec Block Global). list.items) lists blocks) ∙ ap (map (λ (list : Vec Block Global). list.items)) (sym a) in
    let right : of_parts i f ++ f i ∷ [] ≡ of_parts (i + 1) f = sym (map-range_with_len_more f 0 i i (omega arith)) in
    subst (λ (bs : List (List Tuple)). AreWindows plan w (map (λ list. list.items) after) bs) right
    (subst (λ (ls : List (List Block)). AreWindows plan w ls (of_parts i f ++ f i ∷ [])) left all)

-- an operator that isn't the sink has blocks that spell its rows
pub sends : (job : Job) (role : Role) (w : ℕ) (rows : List Tuple) (blocks : List Block) → HasBlocks (plan_in job) role w rows blocks → is_sink role ≡ false → SpellWindow (plan_in job) w blocks rows
sends job (Input kind file per_window) w rows blocks h e = h.1
sends job (Inner kind) w rows blocks h e = h.1
sends job Sink w rows blocks h e = absurd (cc e)

-- a list that has gone one place further
pub map-one-more : {X : Type 0} (f : ℕ → X) (order : List ℕ) (k n : ℕ) (made : X) (before after : List X) → k < length order → n ≡ k + 1 → before ≡ map f (take k order) → made ≡ f (slice_index order k) → after ≡ before ++ made ∷ [] → after ≡ map f (take n order)
map-one-more f order k n made before after h e b m a =
    a ∙ (λ j. b j ++ m j ∷ []) ∙ sym (map_push f (take k order) (slice_index order k)) ∙ ap (map f) (sym (take_more order k 0 h)) ∙ ap (λ q. map f (take q order)) (sym e)

-- where the loop stands in the order, and what there was for the operator there
pub place-at : {X : Type 0} (f : ℕ → X) (order : List ℕ) (n k : ℕ) (xs : List X) (d x : X) → n ≡ k → xs ≡ map f order → k < length xs → x ≡ get_or xs k d → (n < length order) × (x ≡ f (slice_index order n))
place-at f order n k xs d x same e h g =
    let long : length xs ≡ length order = ap length e ∙ length-map order f in
    let within : k < length order = omega arith in
    let at : x ≡ f (slice_index order k) = g ∙ ap (λ ys. get_or ys k d) e ∙ get_or-map f order k 0 d within in
    (omega arith, at ∙ ap (λ (q : ℕ). f (slice_index order q)) (sym same))

-- at the end it has gone through the order
pub take-whole : {X : Type 0} (xs : List X) (k : ℕ) → k ≡ length xs → take k xs ≡ xs
take-whole xs k e = ap (λ (n : ℕ). take n xs) e ∙ take-length xs
  where
    take-length : {Y : Type 0} (ys : List Y) → take (length ys) ys ≡ ys
    take-length [] = refl
    take-length (y ∷ ys) = ap (λ l. y ∷ l) (take-length ys)
