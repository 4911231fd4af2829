-- The application of an example breaks no rule.
use Rattle.std.proofs.Common.{◌≡◌, ℕ, zero, suc, ◌<◌, inl, inr, Ok, refl, arith}
use Rattle.apx_dag.specs.Checks.{unless}
use Rattle.apx_dag.specs.Graph.{Answers}
use Rattle.apx_dag.specs.Order.{Feeds, Reaches, at_once, through, IsAcyclic}
use Rattle.apx_dag.specs.Ports.{links_of}
use Rattle.apx_dag.specs.Rules.{before_cycles, after_cycles}
use Rattle.apx_example.specs.Application.{application, nodes}

-- an operator reads none behind it
feeds_up : (a b : ℕ) → Feeds (links_of application) a b → a < b
feeds_up a zero (inl h) = cc
feeds_up a zero (inr h) = cc
feeds_up a (suc zero) (inl h) = let e : 0 ≡ a = cc in omega arith
feeds_up a (suc zero) (inr h) = cc
feeds_up a (suc (suc zero)) (inl h) = let e : 1 ≡ a = cc in omega arith
feeds_up a (suc (suc zero)) (inr h) = cc
feeds_up a (suc (suc (suc zero))) (inl h) = let e : 2 ≡ a = cc in omega arith
feeds_up a (suc (suc (suc zero))) (inr h) = cc
feeds_up a (suc (suc (suc (suc b)))) (inl h) = cc
feeds_up a (suc (suc (suc (suc b)))) (inr h) = cc

reaches_up : (a b : ℕ) → Reaches (links_of application) a b → a < b
reaches_up a b (at_once h) = feeds_up a b h
reaches_up a c (through {b = b} h r) = let up = feeds_up a b h in let more = reaches_up b c r in omega arith

acyclic : IsAcyclic (links_of application)
acyclic i there h = let up = reaches_up i i h in omega arith

pub answers : Answers application (Ok nodes)
unfolding before_cycles unless after_cycles
answers = (record { before = refl; acyclic = acyclic; after = refl }, refl)
